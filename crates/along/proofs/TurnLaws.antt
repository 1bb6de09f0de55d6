-- Turn by turn along a log, and along the cuts.
use Prim.Native.Nat.{ℕ, zero, suc, ◌+◌, ◌/◌, ◌≤◌, ◌<◌}
use native.Mathlib.Omega.{arith}
use Rattle.std.specs.Prelude.{Some, None}
use native.Mathlib.Numerals.{add-one}
use mathlib.Core.Path.{◌≡◌, refl, sym, ap, ◌∙◌}
use mathlib.Core.Bool.{Bool, true, false, not}
use mathlib.Core.List.{List}
use mathlib.Core.Option
use mathlib.Core.Option.{Option, none, some}
use lib.Dec.{ltb}
use lib.ListN.{length, get_or}
use borrow.Author.Tests.{lt-ltb, le-ltb, ltb-true}
use Rattle.task.specs.Loops.{when, first}
use Rattle.task.specs.Sizes.{tenth}
use Rattle.task.proofs.LoopLaws.{and_left, first_more, first-here}
use Rattle.blocks.specs.Blocks.{common, is_empty}
use Rattle.blocks.specs.Flat.{followed_by}
use Rattle.standing.specs.Standing.{takes_by, taken_by}
use Rattle.along.specs.Along.{here_after, goes_by, stop_at, stop_row, row_of, sends_on, block_by, cost_by, cost_after}

-- ---- where the state stands
module _ (columns : ℕ) (lands log here : List ℕ) where
  pub here-none : here ≡ here_after columns lands log here 0
  unfolding here_after
  here-none = refl

  pub here-more : (i : ℕ) {h h' : List ℕ} → h ≡ here_after columns lands log here i → h' ≡ taken_by columns lands h (get_or log i 0) → h' ≡ here_after columns lands log here (i + 1)
  unfolding here_after
  here-more i e f = rw add-one (f ∙ ap (λ (x : List ℕ). taken_by columns lands x (get_or log i 0)) e)

-- ---- a known step that can be taken
module _ (columns steps : ℕ) (needs here : List ℕ) (s : ℕ) where
  pub unknown : steps ≤ s → false ≡ goes_by columns steps needs here s
  unfolding goes_by
  unknown h = rw (le-ltb s steps h) refl

  pub known : s < steps → {r : Bool} → r ≡ takes_by columns needs here s → r ≡ goes_by columns steps needs here s
  unfolding goes_by
  known h e = rw (lt-ltb s steps h) e

  pub small : {r : Bool} → r ≡ goes_by columns steps needs here s → r ≡ true → s < steps
  unfolding goes_by
  small e h = ltb-true s steps (and_left (ltb s steps) _ (sym e ∙ h))

-- ---- a row as an answer
row-at : (i : ℕ) {n : ℕ} → i + 1 ≡ n → Some (i + 1) ≡ row_of n
row-at i e = rw (← e, add-one) refl

pub row-none : (n : ℕ) → row_of n ≡ None → n ≡ 0
row-none zero e = refl
row-none (suc n) e = cc

pub row-some : (n : ℕ) {row : ℕ} → row_of n ≡ Some row → n ≡ row
row-some zero e = cc
row-some (suc n) e = cc

pub row-above : (n : ℕ) {row : ℕ} → row_of n ≡ Some row → 0 < row
row-above zero e = let z : ◌≡◌ {A = ℕ} 0 1 = cc in absurd (omega arith)
row-above (suc n) {row} e = let z : suc n ≡ row = cc in omega arith

-- ---- the first row that stops
module _ (columns steps : ℕ) (needs lands log here : List ℕ) where
  test_at : (i : ℕ) {h : List ℕ} {r b : Bool} → h ≡ here_after columns lands log here i → r ≡ goes_by columns steps needs h (get_or log i 0) → r ≡ b
      → stop_at columns steps needs lands log here i ≡ when (not b) (i + 1)
  unfolding stop_at
  test_at i e g k = ap (λ (x : Bool). when (not x) (i + 1)) (ap (λ (x : List ℕ). goes_by columns steps needs x (get_or log i 0)) (sym e) ∙ sym g ∙ k)

  pub stopped : (i : ℕ) {h : List ℕ} {r : Bool} → i < length log → first i (stop_at columns steps needs lands log here) ≡ none → h ≡ here_after columns lands log here i
      → r ≡ goes_by columns steps needs h (get_or log i 0) → r ≡ false → Some (i + 1) ≡ row_of (stop_row columns steps needs lands log here)
  unfolding stop_row
  stopped i l n e g k = row-at i (sym (ap (λ (o : Option ℕ). Option.get_or o 0) (first-here (stop_at columns steps needs lands log here) (length log) i l n (test_at i e g k))))

  pub went : (i : ℕ) {h : List ℕ} {r : Bool} → first i (stop_at columns steps needs lands log here) ≡ none → h ≡ here_after columns lands log here i
      → r ≡ goes_by columns steps needs h (get_or log i 0) → r ≡ true → first (i + 1) (stop_at columns steps needs lands log here) ≡ none
  went i n e g k = first_more (stop_at columns steps needs lands log here) i n (test_at i e g k)

  pub through : first (length log) (stop_at columns steps needs lands log here) ≡ none → None ≡ row_of (stop_row columns steps needs lands log here)
  unfolding stop_row
  through n = rw n refl

-- ---- the block of the state that stands here
module _ (cuts here : List ℕ) where
  by-here : (n : ℕ) → followed_by (λ j w. not (is_empty (common (get_or here j 0) w))) cuts n ≡ block_by cuts here n
  unfolding followed_by block_by sends_on
  by-here zero = refl
  by-here (suc i) = rw (by-here i) refl

-- ---- the estimate of the state so far
pub cost-after : (columns : ℕ) (lands : List ℕ) (count : ℕ) (cuts dist log here : List ℕ) (i : ℕ) {h : List ℕ} {r : ℕ} → h ≡ here_after columns lands log here i
    → r ≡ get_or dist (followed_by (λ j w. not (is_empty (common (get_or h j 0) w))) cuts count) 0 / tenth → r ≡ cost_after columns lands count cuts dist log here i
unfolding cost_by cost_after
cost-after columns lands count cuts dist log here i {h} e k = k ∙ ap (λ (a : ℕ). get_or dist a 0 / tenth) (by-here cuts h count) ∙ ap (cost_by count cuts dist) e
