-- Masks of tests, words of blocks, and tables of them.
use mathlib.Core.Path.{◌≡◌, refl, sym, subst, ◌∙◌, ap, ap₂}
use mathlib.Core.Logic.{⊎_elim, ◌≢◌}
use mathlib.Core.Bool.{Bool, true, false, not, cond, ◌&&◌, and-false}
use mathlib.Core.List.{List}
use Prim.Native.Nat.{ℕ, zero, suc, ◌+◌, ◌-◌, ◌*◌, ◌/◌, ◌%◌, ◌^◌, ◌<◌, ◌≤◌}
use native.Mathlib.Nat.{two-pow-succ, not-suc-le-zero, zero-add}
use native.Mathlib.Numerals.{add-one}
use native.Mathlib.Decide.{dec_lt}
use native.Mathlib.Omega.{arith}
use lib.Dec.{eqb}
use lib.Pow.{pow_pos}
use lib.Bits.{bit_and, and_block, and_mask, and_zero_r}
use lib.ListN.{length, get_or, set, replicate}
use lib.Seq.{get_or-set_same, get_or-set_other}
use borrow.Author.Tests.{eq-eqb, ne_eqb}
use borrow.Author.Count.{below_more}
use Rattle.task.specs.Loops.{all}
use Rattle.task.proofs.LoopLaws.{below_suc, true-or-false}
use Rattle.blocks.specs.Blocks.{common, is_empty}
use Rattle.blocks.specs.Flat.{past, row_of}
use Rattle.blocks.specs.Masks.{lies, all_lie}
use Rattle.blocks.proofs.PartLaws.{same_or_not}
use Rattle.arcs.specs.Arcs.{fits_in}
use Rattle.arcs.specs.Words.{word, words, bits_below, nth, word_of, bit_at, need_in, meets_in, held_in, Met, RowMet}

-- ---- masks of tests
bit : Bool → ℕ
bit true = 1
bit false = 0

bits-step : (f : ℕ → Bool) (k : ℕ) → bits_below f (suc k) ≡ bit (f k) * 2 ^ k + bits_below f k
unfolding bits_below bit
bits-step f k = go (f k)
  where
    go : (t : Bool) → bits_below f k + cond t (2 ^ k) 0 ≡ bit t * 2 ^ k + bits_below f k
    go true = omega arith
    go false = omega arith

bits-lt : (f : ℕ → Bool) (k : ℕ) → bits_below f k < 2 ^ k
unfolding bits_below
bits-lt f zero = omega arith
bits-lt f (suc k) = rw two-pow-succ (go (f k) (bits-lt f k))
  where
    go : (t : Bool) → bits_below f k < 2 ^ k → bits_below f k + cond t (2 ^ k) 0 < 2 ^ k + 2 ^ k
    go true l = omega arith
    go false l = omega arith

bit-and : (a b : Bool) → bit_and (bit a) (bit b) ≡ bit (a && b)
unfolding bit
bit-and true true = refl
bit-and true false = refl
bit-and false b = refl

-- the common bits of two masks are those that pass both tests
and-bits : (f g : ℕ → Bool) (k : ℕ) → bit_and (bits_below f k) (bits_below g k) ≡ bits_below (λ i. f i && g i) k
unfolding bits_below
and-bits f g zero = refl
and-bits f g (suc k) =
    ap₂ bit_and (bits-step f k) (bits-step g k)
    ∙ and_block k (bit (f k)) (bit (g k)) (bits_below f k) (bits_below g k) (bits-lt f k) (bits-lt g k)
    ∙ ap₂ (λ (x y : ℕ). x * 2 ^ k + y) (bit-and (f k) (g k)) (and-bits f g k)
    ∙ sym (bits-step (λ i. f i && g i) k)

bits-same : (f g : ℕ → Bool) (k : ℕ) → ((i : ℕ) → i < k → f i ≡ g i) → bits_below f k ≡ bits_below g k
unfolding bits_below
bits-same f g zero h = refl
bits-same f g (suc k) h = rw (bits-same f g k (λ i l. h i (omega arith)), h k (omega arith))

-- where none passes, and where all do
bits-zero : (f : ℕ → Bool) (k : ℕ) → ((i : ℕ) → i < k → f i ≡ false) → bits_below f k ≡ 0
unfolding bits_below
bits-zero f zero h = refl
bits-zero f (suc k) h = rw (bits-zero f k (λ i l. h i (omega arith)), h k (omega arith))

bits-all : (f : ℕ → Bool) (k : ℕ) → ((i : ℕ) → i < k → f i ≡ true) → bits_below f k ≡ 2 ^ k - 1
unfolding bits_below
bits-all f zero h = refl
bits-all f (suc k) h = rw (bits-all f k (λ i l. h i (omega arith)), h k (omega arith), two-pow-succ) (let p = pow_pos k in omega arith)

-- the mask of one number
only_none : (i k : ℕ) → k ≤ i → bits_below (λ c. eqb c i) k ≡ 0
unfolding bits_below
only_none i zero h = refl
only_none i (suc k) h = rw (only_none i k (omega arith), ne_eqb k i (λ e. omega arith))

only-this : (k : ℕ) → bits_below (λ c. eqb c k) (suc k) ≡ 2 ^ k
unfolding bits_below
only-this k = ap₂ (λ (x y : ℕ). x + y) (only_none k k (omega arith)) (ap (λ (b : Bool). cond b (2 ^ k) 0) (eq-eqb k k refl)) ∙ zero-add (2 ^ k)

only-bit : (i k : ℕ) → i < k → bits_below (λ c. eqb c i) k ≡ 2 ^ i
unfolding bits_below
only-bit i zero h = absurd (not-suc-le-zero h)
only-bit i (suc k) h =
    ⊎_elim (λ (e : i ≡ k). subst (λ (v : ℕ). bits_below (λ c. eqb c v) (suc k) ≡ 2 ^ v) (sym e) (only-this k))
    (λ (l : i < k). rw (only-bit i k l, ne_eqb k i (λ e. omega arith)) (omega arith)) (below_suc h)

one_of : (f : ℕ → Bool) (i k : ℕ) → i < k → bit_and (bits_below f k) (2 ^ i) ≡ bits_below (λ c. f c && eqb c i) k
one_of f i k h = ap (λ v. bit_and (bits_below f k) v) (sym (only-bit i k h)) ∙ and-bits f (λ c. eqb c i) k

-- one bit of a mask
bit-told : (f : ℕ → Bool) (i k : ℕ) → i < k → bit_at (bits_below f k) i ≡ f i
unfolding bit_at
bit-told f i k h = ⊎_elim has lacks (true-or-false (f i))
  where
    has : f i ≡ true → not (eqb (bit_and (bits_below f k) (2 ^ i)) 0) ≡ f i
    has t =
        let e : bit_and (bits_below f k) (2 ^ i) ≡ 2 ^ i =
        one_of f i k h
        ∙ bits-same _ _ k (λ c l. ⊎_elim (λ (e : c ≡ i). rw (e, t)) (λ (n : c ≢ i). rw (ne_eqb c i n, and-false (f c))) (same_or_not c i))
        ∙ only-bit i k h in
        rw (e, t, ne_eqb (2 ^ i) 0 (λ z. let p = pow_pos i in omega arith))

    lacks : f i ≡ false → not (eqb (bit_and (bits_below f k) (2 ^ i)) 0) ≡ f i
    lacks t =
        let e : bit_and (bits_below f k) (2 ^ i) ≡ 0 =
        one_of f i k h
        ∙ bits-zero _ k (λ c l. ⊎_elim (λ (e : c ≡ i). rw (e, t)) (λ (n : c ≢ i). rw (ne_eqb c i n, and-false (f c))) (same_or_not c i)) in
        rw (e, t)

-- ---- words
pub word_and : (f g : ℕ → Bool) (w : ℕ) → bit_and (word_of f w) (word_of g w) ≡ word_of (λ a. f a && g a) w
unfolding word_of nth
word_and f g w = and-bits _ _ word

pub word_same : (f g : ℕ → Bool) (w : ℕ) → ((a : ℕ) → f a ≡ g a) → word_of f w ≡ word_of g w
unfolding word_of nth
word_same f g w h = bits-same _ _ word (λ i l. h (w * word + i))

pub word-zero : (f : ℕ → Bool) (w : ℕ) → ((a : ℕ) → f a ≡ false) → word_of f w ≡ 0
unfolding word_of nth
word-zero f w h = bits-zero _ word (λ i l. h (w * word + i))

pub word-all : (f : ℕ → Bool) (w : ℕ) → ((a : ℕ) → f a ≡ true) → word_of f w ≡ 4294967295
unfolding word_of nth
word-all f w h = bits-all _ word (λ i l. h (w * word + i))

-- block a in its word
pub word-told : (f : ℕ → Bool) (a : ℕ) → bit_at (word_of f (a / word)) (a % word) ≡ f a
unfolding word_of nth
word-told f a =
    let e : a / word * word + a % word ≡ a = omega arith in
    bit-told (λ i. f (a / word * word + i)) (a % word) word (omega arith) ∙ ap f e

-- ---- a word that is made bit by bit: one bit more, by the test of its block
pub made-more : (f : ℕ → Bool) (w i v r : ℕ) (t : Bool) → v ≡ bits_below (nth f w) i → t ≡ f (w * word + i) → r ≡ cond t (2 ^ i) 0 → v + r ≡ bits_below (nth f w) (i + 1)
unfolding bits_below nth
made-more f w i v r t e test new = rw (add-one, e, new, test) refl

pub made-low : (i v r : ℕ) (t : Bool) → v < 2 ^ i → r ≡ cond t (2 ^ i) 0 → v + r < 2 ^ (i + 1)
made-low i v r t l e = rw (add-one, two-pow-succ) (go t e)
  where
    go : (t : Bool) → r ≡ cond t (2 ^ i) 0 → v + r < 2 ^ i + 2 ^ i
    go true e = omega arith
    go false e = let p = pow_pos i in omega arith

-- a need that is none is held by every block
pub no-need : (v : ℕ) (sets : List ℕ) (j w : ℕ) → v < 4294967296 → v ≡ bit_and v (word_of (need_in sets 0 j) w)
unfolding need_in lies common
no-need v sets j w h =
    let e = word-all (need_in sets 0 j) w (λ a. rw (and_zero_r (past sets (row_of a) j))) in
    let m : bit_and v 4294967295 ≡ v % 4294967296 = and_mask v word in
    sym (rw e (m ∙ omega arith))

-- ---- tables filled from the front
pub filled_more : (g : ℕ → ℕ) (o i v : ℕ) (D : List ℕ) → ((a : ℕ) → a < i → get_or D (o + a) 0 ≡ g a) → o + i < length D → v ≡ g i → (a : ℕ) → a < i + 1 → get_or (set D (o + i) v) (o + a) 0 ≡ g a
filled_more g o i v D h l e = below_more (λ a. get_or (set D (o + i) v) (o + a) 0 ≡ g a) i (λ a b. get_or-set_other D (o + i) (o + a) v 0 (λ q. omega arith) ∙ h a b) (get_or-set_same D (o + i) v 0 l ∙ e)

pub filled-first : (g : ℕ → ℕ) (i v : ℕ) (D : List ℕ) → ((a : ℕ) → a < i → get_or D a 0 ≡ g a) → i < length D → v ≡ g i → (a : ℕ) → a < i + 1 → get_or (set D i v) a 0 ≡ g a
filled-first g i v D h l e = below_more (λ a. get_or (set D i v) a 0 ≡ g a) i (λ a b. get_or-set_other D i a v 0 (λ q. omega arith) ∙ h a b) (get_or-set_same D i v 0 l ∙ e)

-- the needs of a step, column by column
module _ (needs sets : List ℕ) (s w : ℕ) where
  pub fits-none : 4294967295 ≡ word_of (fits_in 0 needs sets s) w
  unfolding fits_in all_lie all
  fits-none = sym (word-all _ w (λ a. refl))

  pub fits_more : (j v r : ℕ) → v ≡ word_of (fits_in j needs sets s) w → r ≡ bit_and v (word_of (need_in sets (past needs (row_of s) j) j) w) → r ≡ word_of (fits_in (j + 1) needs sets s) w
  unfolding fits_in all_lie all need_in
  fits_more j v r e h = h ∙ rw (add-one, e) (word_and _ _ w)

pub all-zero : (k a : ℕ) → ◌≡◌ {A = ℕ} (get_or (replicate k 0) a 0) 0
all-zero zero a = refl
all-zero (suc k) zero = refl
all-zero (suc k) (suc a) = all-zero k a

-- ---- the rows of columns
module _ (used : ℕ) (sets : List ℕ) where
  module _ (columns : ℕ) where
    pub met-same : (f g : ℕ → ℕ) (M : List ℕ) → ((j : ℕ) → j < columns → f j ≡ g j) → Met columns used sets f M → Met columns used sets g M
    met-same f g M e m = record { each = λ j w h l. rw (← e j h) (m.each j w h l) }

    -- a row is renewed, and what it stands for is held
    pub met-more : (j v : ℕ) (H M M' : List ℕ) → used ≤ words → j < length H → Met columns used sets (held_in H) M → RowMet used sets j v M M'
        → Met columns used sets (held_in (set H j v)) M'
    unfolding held_in
    met-more j v H M M' u h m r =
        record {
          each = λ x w l k.
              ⊎_elim
              (λ (e : x ≡ j). rw (e, get_or-set_same H j v 0 h) (r.each w k))
              (λ (n : x ≢ j). rw (get_or-set_other H j x v 0 n) (apart x w k n ∙ m.each x w l k))
              (same_or_not x j);
        }
      where
        above : (x y : ℕ) → (x < y → ⊥) → x ≢ y → y < x
        above x y l n = elim (dec_lt y x) [ yes k ↦ k | no k ↦ absurd (n (omega arith)) ]

        apart : (x w : ℕ) → w < used → x ≢ j → get_or M' (x * words + w) 0 ≡ get_or M (x * words + w) 0
        apart x w k n =
            elim (dec_lt x j) [
              | yes l ↦ r.before (x * words + w) (omega arith)
              | no l ↦ r.after (x * words + w)
                  (let z : j < x = above x j l n in omega arith)
            ]

    -- nothing meets the empty set
    pub met-zero : (H M : List ℕ) → ((j : ℕ) → get_or H j 0 ≡ 0) → ((i : ℕ) → get_or M i 0 ≡ 0) → Met columns used sets (held_in H) M
    unfolding held_in meets_in common is_empty
    met-zero H M h m = record { each = λ j w l k. m (j * words + w) ∙ sym (word-zero _ w (λ a. rw (h j, and_zero_r (past sets (row_of a) j)))) }
