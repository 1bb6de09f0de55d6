-- The test of an arc by words of blocks.
use mathlib.Core.Path.{◌≡◌, refl, sym, ◌∙◌, ap, ap₂}
use mathlib.Core.Logic.{⊎_elim}
use mathlib.Core.Bool.{Bool, true, false, not, ◌&&◌, and-false, and-true, false≢true}
use mathlib.Core.List.{List}
use Prim.Native.Nat.{ℕ, zero, suc, ◌+◌, ◌*◌, ◌/◌, ◌%◌, ◌<◌, ◌≤◌}
use native.Mathlib.Nat.{zero-add}
use native.Mathlib.Numerals.{add-one}
use native.Mathlib.Omega.{arith}
use lib.Bits.{bit_and}
use lib.ListN.{get_or}
use borrow.Author.Tests.{eqb-true, not-true}
use Rattle.task.specs.Loops.{all}
use Rattle.task.specs.Sizes.{limits, lands_row}
use Rattle.task.proofs.LoopLaws.{below_suc, true-or-false, and_left, all-at, all-intro, all-false, all-fails, all-ext}
use Rattle.blocks.specs.Blocks.{common, is_empty}
use Rattle.blocks.specs.Flat.{past, row_of}
use Rattle.blocks.specs.Masks.{lies, all_lie, passes, lands_in, leads_by}
use Rattle.blocks.proofs.MaskLaws.{from_past}
use Rattle.arcs.specs.Arcs.{fits_in, keeps, parted, kept_meet}
use Rattle.arcs.specs.Words.{word, words, word_of, bit_at, meets_in, kept_part, kept_word, arc_word, told, told_in, wide_in, Able, Met, Opened, Narrow}
use Rattle.arcs.proofs.WordLaws.{word_and, word_same, word-told}

-- ---- an arc in three parts: of the step and the first block, of the step and the second, and of the two blocks
shuffle : (a b c d : Bool) → ((a && b) && (c && d)) ≡ ((a && c) && (b && d))
shuffle true true c d = refl
shuffle true false c d = sym (and-false c)
shuffle false b c d = refl

all-and : (f g : ℕ → Bool) (k : ℕ) → all k (λ i. f i && g i) ≡ (all k f && all k g)
unfolding all
all-and f g zero = refl
all-and f g (suc k) = rw (all-and f g k) (shuffle (all k f) (all k g) (f k) (g k))

turned : (a b c : Bool) → (a && b && c) ≡ (b && (a && c))
turned true b c = refl
turned false true c = refl
turned false false c = refl

lead-split : (columns : ℕ) (needs lands sets : List ℕ) (s a b : ℕ)
    → leads_by columns needs lands sets s a b ≡ (fits_in columns lands sets s b && (fits_in columns needs sets s a && kept_meet columns lands sets s b a))
unfolding leads_by passes fits_in all_lie kept_meet keeps parted
lead-split columns needs lands sets s a b =
    all-and (λ j. lies (past needs (row_of s) j) (past sets (row_of a) j) && lies (past lands (row_of s) j) (past sets (row_of b) j))
    (λ j. not (is_empty (past lands (row_of s) j) && is_empty (common (past sets (row_of a) j) (past sets (row_of b) j)))) columns
    ∙ ap (λ (x : Bool). x && kept_meet columns lands sets s b a) (all-and _ _ columns)
    ∙ turned (fits_in columns needs sets s a) (fits_in columns lands sets s b) (kept_meet columns lands sets s b a)

-- ---- the columns that a step keeps
and_assoc : (a b c : Bool) → ((a && b) && c) ≡ (a && (b && c))
and_assoc true b c = refl
and_assoc false b c = refl

module _ (narrow lands meets : List ℕ) (s w v : ℕ) where
  pub kept-none : v ≡ kept_word narrow lands meets s w v 0
  unfolding kept_word
  kept-none = refl

  pub kept_more : (i x r : ℕ) → x ≡ kept_word narrow lands meets s w v i
      → r ≡ kept_part x (past lands (row_of s) (get_or narrow i 0)) (get_or meets (get_or narrow i 0 * words + w) 0) → r ≡ kept_word narrow lands meets s w v (i + 1)
  unfolding kept_word
  kept_more i x r e h = rw (add-one, ← e) h

  part-zero : (x land meet : ℕ) → x ≡ 0 → kept_part x land meet ≡ 0
  unfolding kept_part
  part-zero x land meet e = ⊎_elim (λ (t : is_empty land ≡ true). rw (t, e)) (λ (t : is_empty land ≡ false). rw (t, e)) (true-or-false (is_empty land))

  -- none is left once none is left
  pub kept-zero : (i n : ℕ) → i ≤ n → kept_word narrow lands meets s w v i ≡ 0 → kept_word narrow lands meets s w v n ≡ 0
  unfolding kept_word
  kept-zero i zero h e = let z : i ≡ 0 = omega arith in rw z at e
  kept-zero i (suc n) h e =
      ⊎_elim (λ (q : i ≡ suc n). rw q at e) (λ (l : i < suc n). part-zero _ _ _ (kept-zero i n (omega arith) e)) (below_suc {j = i} {n = suc n} (omega arith))

not-apart : (sets : List ℕ) (a b j : ℕ) → meets_in sets (past sets (row_of b) j) j a ≡ true → parted sets b a j ≡ false
unfolding meets_in parted
not-apart sets a b j k = not-true _ k

-- the same of the columns of a list
list_meet : ℕ → List ℕ → List ℕ → List ℕ → ℕ → ℕ → ℕ → Bool
list_meet n N lands sets s b a = all n (λ i. not (keeps lands s (get_or N i 0) && parted sets b a (get_or N i 0)))

module _ (columns used : ℕ) (lands sets : List ℕ) (b : ℕ) (M : List ℕ) (met : Met columns used sets (past sets (row_of b)) M) where
  part-is : (s w : ℕ) → w < used → (f : ℕ → Bool) (j : ℕ) → j < columns
      → kept_part (word_of f w) (past lands (row_of s) j) (get_or M (j * words + w) 0) ≡ word_of (λ a. f a && not (keeps lands s j && parted sets b a j)) w
  unfolding kept_part keeps parted meets_in
  part-is s w hw f j h = ⊎_elim
      (λ (t : is_empty (past lands (row_of s) j) ≡ true). rw (t, met.each j w h hw) (word_and f _ w))
      (λ (t : is_empty (past lands (row_of s) j) ≡ false). rw t (word_same _ _ w (λ a. sym (and-true (f a)))))
      (true-or-false (is_empty (past lands (row_of s) j)))

  kept-is : (s w : ℕ) → w < used → (N : List ℕ) (f : ℕ → Bool) (v : ℕ) → v ≡ word_of f w → (n : ℕ) → ((i : ℕ) → i < n → get_or N i 0 < columns) → kept_word N lands M s w v n ≡ word_of (λ a. f a && list_meet n N lands sets s b a) w
  unfolding kept_word list_meet all
  kept-is s w hw N f v e zero h = e ∙ word_same _ _ w (λ a. sym (and-true (f a)))
  kept-is s w hw N f v e (suc n) h =
      ap (λ (x : ℕ). kept_part x (past lands (row_of s) (get_or N n 0)) (get_or M (get_or N n 0 * words + w) 0)) (kept-is s w hw N f v e n (λ i l. h i (omega arith)))
      ∙ part-is s w hw (λ a. f a && list_meet n N lands sets s b a) (get_or N n 0) (h n (omega arith))
      ∙ word_same _ _ w (λ a. and_assoc (f a) (list_meet n N lands sets s b a) (not (keeps lands s (get_or N n 0) && parted sets b a (get_or N n 0))))

  module _ (has : ℕ → Bool) (O : List ℕ) (o : Opened used has O) (a : ℕ) (ha : a / word < used) (open_is : has a ≡ true) where
    -- in a wide column an open block is not apart
    wide-meets : (j : ℕ) → j < columns → wide_in used M O j ≡ true → parted sets b a j ≡ false
    unfolding wide_in all_lie lies common past
    wide-meets j h t =
        let w = a / word in
        let l : lies (past O 0 w) (past M (j * words) w) ≡ true = all-at used _ t w ha in
        let e : bit_and (get_or M (j * words + w) 0) (get_or O w 0) ≡ get_or O w 0 = eqb-true _ _ (rw (zero-add w) at l) in
        let f : word_of (λ c. meets_in sets (past sets (row_of b) j) j c && has c) w ≡ word_of has w = sym (word_and _ _ w) ∙ ap₂ bit_and (sym (met.each j w h ha)) (sym (o.each w ha)) ∙ e ∙ o.each w ha in
        let g : (meets_in sets (past sets (row_of b) j) j a && has a) ≡ has a =
        sym (word-told (λ c. meets_in sets (past sets (row_of b) j) j c && has c) a) ∙ ap (λ (x : ℕ). bit_at x (a % word)) f ∙ word-told has a in
        not-apart sets a b j (and_left _ (has a) (g ∙ open_is))

    list-meets : (few : ℕ) (N : List ℕ) (s : ℕ) → Narrow columns used M O few N → list_meet few N lands sets s b a ≡ kept_meet columns lands sets s b a
    unfolding list_meet kept_meet
    list-meets few N s n = ⊎_elim
        (λ (t : kept_meet columns lands sets s b a ≡ true). all-intro few _ (λ i h. all-at columns _ t (get_or N i 0) (n.each i h)) ∙ sym t)
        (λ (t : kept_meet columns lands sets s b a ≡ false).
        let q = all-false columns _ t in
        ⊎_elim
        (λ (d : wide_in used M O q.0 ≡ true). absurd (false≢true (sym q.2 ∙ rw (wide-meets q.0 q.1 d, and-false (keeps lands s q.0)))))
        (λ (d : (i : ℕ) × (i < few) × (get_or N i 0 ≡ q.0)). all-fails few _ d.0 d.1 (rw d.2 q.2) ∙ sym t)
        (n.others q.0 q.1))
        (true-or-false (kept_meet columns lands sets s b a))

-- ---- an arc
sorted : (l n h k : Bool) → (l && ((n && h) && k)) ≡ (h && (l && (n && k)))
sorted true true true k = refl
sorted true true false k = refl
sorted true false true k = refl
sorted true false false k = refl
sorted false n true k = refl
sorted false n false k = refl

where-open : (f h x y : Bool) → (h ≡ true → x ≡ y) → ((f && h) && x) ≡ ((f && h) && y)
where-open true true x y e = e refl
where-open true false x y e = refl
where-open false h x y e = refl

-- with the tables right, the words tell an arc from an open block
pub arc-told : (columns steps used few : ℕ) (needs lands sets : List ℕ) (b : ℕ) (T M O N : List ℕ) (has : ℕ → Bool)
    → Able columns steps needs sets used T → Met columns used sets (past sets (row_of b)) M → Opened used has O → Narrow columns used M O few N
    → (s a : ℕ) → s < steps → a / word < used → told_in columns few N lands sets T M O s b a ≡ (has a && leads_by columns needs lands sets s a b)
unfolding told_in told arc_word
arc-told columns steps used few needs lands sets b T M O N has t m o n s a hs ha =
    let f : ℕ → Bool = λ c. fits_in columns needs sets s c && has c in
    let e : bit_and (get_or T (a / word * limits.steps + s) 0) (get_or O (a / word) 0) ≡ word_of f (a / word) =
    rw (t.each (a / word) s ha hs, o.each (a / word) ha) (word_and _ _ (a / word)) in
    let k = kept-is columns used lands sets b M m s (a / word) ha N f _ e few n.each in
    rw k (ap (λ (x : Bool). fits_in columns lands sets s b && x)
    (word-told (λ c. f c && list_meet few N lands sets s b c) a
    ∙ where-open (fits_in columns needs sets s a) (has a) _ _ (λ h. list-meets columns used lands sets b M m has O o a ha h few N s n))
    ∙ sorted (fits_in columns lands sets s b) (fits_in columns needs sets s a) (has a) (kept_meet columns lands sets s b a)
    ∙ ap (λ (x : Bool). has a && x) (sym (lead-split columns needs lands sets s a b)))

-- a block of word w, by that word
pub told-word : (few : ℕ) (narrow lands able meets left : List ℕ) (s w v i : ℕ) → i < word
    → v ≡ kept_word narrow lands meets s w (bit_and (get_or able (w * limits.steps + s) 0) (get_or left w 0)) few
    → told few narrow lands able meets left s (w * word + i) ≡ bit_at v i
unfolding told arc_word
told-word few narrow lands able meets left s w v i h e =
    let q : (w * word + i) / word ≡ w = omega arith in
    let r : (w * word + i) % word ≡ i = omega arith in
    rw (q, r, e)

-- ---- a landing is a row of the tables
module _ (tables : List ℕ) (s : ℕ) where
  pub kept_row : (narrow meets : List ℕ) (w v n : ℕ) → kept_word narrow tables meets (lands_row + s) w v n ≡ kept_word narrow (lands_in tables) meets s w v n
  unfolding kept_word
  kept_row narrow meets w v zero = refl
  kept_row narrow meets w v (suc n) = rw (kept_row narrow meets w v n, from_past lands_row tables s (get_or narrow n 0)) refl

  pub fits-row : (columns : ℕ) (sets : List ℕ) (b : ℕ) → fits_in columns tables sets (lands_row + s) b ≡ fits_in columns (lands_in tables) sets s b
  unfolding fits_in all_lie
  fits-row columns sets b = all-ext columns _ _ (λ j h. ap (λ (x : ℕ). lies x (past sets (row_of b) j)) (sym (from_past lands_row tables s j)))
