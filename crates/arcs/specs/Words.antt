-- Sets of blocks in words of 32 bits, and the tables of such words that tell an arc.
use Rattle.std.specs.Prelude.{◌≡◌, Bool, true, false, cond, ◌&&◌, not, List, ◌⊎◌, ℕ, zero, suc, ◌+◌, ◌-◌, ◌*◌, ◌/◌, ◌%◌, ◌^◌, ◌<◌, ◌≤◌, eqb, ltb, get_or}
use Rattle.std.specs.Int.Bits.{bit_and}
use Rattle.task.specs.Sizes.{limits}
use Rattle.blocks.specs.Blocks.{common, is_empty}
use Rattle.blocks.specs.Flat.{past, row_of}
use Rattle.blocks.specs.Masks.{lies, all_lie}
use Rattle.arcs.specs.Arcs.{fits_in}

-- the blocks of a word, the words for all blocks, and those for so many
abbrev pub word : ℕ
word = 32

abbrev pub words : ℕ
words = limits.blocks / word

abbrev pub words_for : ℕ → ℕ
words_for count = (count + (word - 1)) / word

-- the number whose bit i is 1 where i is below k and passes
unfoldable pub bits_below : (ℕ → Bool) → ℕ → ℕ
bits_below f zero = 0
bits_below f (suc k) = bits_below f k + cond (f k) (2 ^ k) 0

-- block i of word w passes
unfoldable pub nth : (ℕ → Bool) → ℕ → ℕ → Bool
nth f w i = f (w * word + i)

-- word w of the set of the blocks that pass
unfoldable pub word_of : (ℕ → Bool) → ℕ → ℕ
word_of f w = bits_below (nth f w) word

-- bit i of a number is 1
unfoldable pub bit_at : ℕ → ℕ → Bool
bit_at v i = not (eqb (bit_and v (2 ^ i)) 0)

-- a block is in the set that has v as word w, and no other
unfoldable pub in_word : ℕ → ℕ → ℕ → Bool
in_word w v a = eqb (a / word) w && bit_at v (a % word)

-- ---- the tables

-- block a holds a need in column j
unfoldable pub need_in : List ℕ → ℕ → ℕ → ℕ → Bool
need_in sets need j a = lies need (past sets (row_of a) j)

-- block a meets a set in column j
unfoldable pub meets_in : List ℕ → ℕ → ℕ → ℕ → Bool
meets_in sets v j a = not (is_empty (common (past sets (row_of a) j) v))

-- block a is there and not settled
unfoldable pub open_in : ℕ → List Bool → ℕ → Bool
open_in count F a = ltb a count && not (get_or F a false)

-- which blocks can take each step: a row for each word; the first rows are filled
pub record Able (columns steps : ℕ) (needs sets : List ℕ) (used : ℕ) (T : List ℕ) : Type 0 where
  pub each : (w s : ℕ) → w < used → s < steps → get_or T (w * limits.steps + s) 0 ≡ word_of (fits_in columns needs sets s) w

pub record RowAble (columns steps : ℕ) (needs sets : List ℕ) (w : ℕ) (T T' : List ℕ) : Type 0 where
  pub each : (s : ℕ) → s < steps → get_or T' (w * limits.steps + s) 0 ≡ word_of (fits_in columns needs sets s) w
  pub before : (i : ℕ) → i < w * limits.steps → get_or T' i 0 ≡ get_or T i 0

-- which blocks meet a set, one for each column: a row for each column
pub record Met (columns used : ℕ) (sets : List ℕ) (set : ℕ → ℕ) (M : List ℕ) : Type 0 where
  pub each : (j w : ℕ) → j < columns → w < used → get_or M (j * words + w) 0 ≡ word_of (meets_in sets (set j) j) w

-- row j is that of a set, and the others are as they were
pub record RowMet (used : ℕ) (sets : List ℕ) (j set : ℕ) (M M' : List ℕ) : Type 0 where
  pub each : (w : ℕ) → w < used → get_or M' (j * words + w) 0 ≡ word_of (meets_in sets set j) w
  pub before : (i : ℕ) → i < j * words → get_or M' i 0 ≡ get_or M i 0
  pub after : (i : ℕ) → (j + 1) * words ≤ i → get_or M' i 0 ≡ get_or M i 0

unfoldable pub held_in : List ℕ → ℕ → ℕ
held_in H j = get_or H j 0

-- the words of a set of blocks
pub record Opened (used : ℕ) (has : ℕ → Bool) (O : List ℕ) : Type 0 where
  pub each : (w : ℕ) → w < used → get_or O w 0 ≡ word_of has w

-- every open block meets the settled block in column j
unfoldable pub wide_in : ℕ → List ℕ → List ℕ → ℕ → Bool
wide_in used meets left j = all_lie used 0 (j * words) left meets

-- the first places of a list are columns
pub record Listed (few : ℕ) (N : List ℕ) : Type 0 where
  pub fits : few ≤ limits.columns
  pub each : (i : ℕ) → i < few → get_or N i 0 < limits.columns

-- they are columns of the model, and every other column of it is wide
pub record Narrow (columns used : ℕ) (meets left : List ℕ) (few : ℕ) (N : List ℕ) : Type 0 where
  pub fits : few ≤ columns
  pub each : (i : ℕ) → i < few → get_or N i 0 < columns
  pub others : (j : ℕ) → j < columns → (wide_in used meets left j ≡ true) ⊎ ((i : ℕ) × (i < few) × (get_or N i 0 ≡ j))

-- ---- the test of an arc by the tables

unfoldable pub kept_part : ℕ → ℕ → ℕ → ℕ
kept_part v land meet = cond (is_empty land) (bit_and v meet) v

-- the blocks of v, which is word w, that meet the settled block in each of the first narrow columns that step s keeps
unfoldable pub kept_word : List ℕ → List ℕ → List ℕ → ℕ → ℕ → ℕ → ℕ → ℕ
kept_word narrow lands meets s w v zero = v
kept_word narrow lands meets s w v (suc i) =
    kept_part (kept_word narrow lands meets s w v i) (past lands (row_of s) (get_or narrow i 0)) (get_or meets (get_or narrow i 0 * words + w) 0)

unfoldable pub arc_word : ℕ → List ℕ → List ℕ → List ℕ → List ℕ → List ℕ → ℕ → ℕ → ℕ
arc_word few narrow lands able meets left s w = kept_word narrow lands meets s w (bit_and (get_or able (w * limits.steps + s) 0) (get_or left w 0)) few

-- block a is open, can take step s, and meets the settled block where s keeps the column
unfoldable pub told : ℕ → List ℕ → List ℕ → List ℕ → List ℕ → List ℕ → ℕ → ℕ → Bool
told few narrow lands able meets left s a = bit_at (arc_word few narrow lands able meets left s (a / word)) (a % word)

-- the test of an arc into block b, where the landing has been tested
unfoldable pub told_in : ℕ → ℕ → List ℕ → List ℕ → List ℕ → List ℕ → List ℕ → List ℕ → ℕ → ℕ → ℕ → Bool
told_in columns few narrow lands sets able meets left s b a = fits_in columns lands sets s b && told few narrow lands able meets left s a
