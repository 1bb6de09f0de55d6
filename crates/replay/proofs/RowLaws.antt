-- The figures of a row: when they are a dash, and what they are where they are none.
use Prim.Native.Nat.{ℕ, zero, suc, ◌+◌, ◌-◌, ◌*◌, ◌≤◌, ◌<◌}
use native.Mathlib.Omega.{arith}
use mathlib.Core.Path.{◌≡◌, refl, sym, ap, ◌∙◌, subst⁻¹}
use mathlib.Core.Logic.{⊎_elim}
use mathlib.Core.Bool.{Bool, true, false, not, ◌&&◌, false≢true}
use mathlib.Core.List.{List}
use mathlib.Core.Option
use mathlib.Core.Option.{Option, none, some, map}
use lib.IntN.{ℤ, pos, neg_ℤ, nat_abs, ◌-ℤ◌}
use lib.ListN.{length, get_or, get_or-append}
use lib.Signed.{◌≤ℤ◌}
use borrow.Author.Tests.{not-true, not-false}
use Rattle.task.specs.Loops.{all, over}
use Rattle.task.specs.Sizes.{limits, most_cost, most_tenths}
use Rattle.task.specs.Task.{Task, Tenths, Accepted}
use Rattle.task.proofs.LoopLaws.{and_left, and_right, and_both, true-or-false, all-at, all-fails, all-false}
use Rattle.fields.proofs.PlaceLaws.{each-length, each_item}
use Rattle.blocks.specs.declared.Cut.{Cut}
use Rattle.blocks.specs.Blocks.{accepted}
use Rattle.distances.specs.Distances.{NoMore, number, no_way}
use Rattle.distances.proofs.EstimateLaws.{estimate-consistent, estimate-bound}
use Rattle.replay.specs.Replay.{step_at, before, bad_row, paid, has_way, far, on_way, dashed, difference, won, detour, dash, figure, row_values, row_list}
use Rattle.replay.specs.Sums.{sum_from}
use Rattle.replay.proofs.SignedLaws.{left_over, lowest, highest, size-most, sum-steps, sum-ext, sum_less}
use Rattle.replay.proofs.LogLaws.{before-state, good-all, good-row}

-- the largest distance
abbrev pub largest : Tenths
largest = most_tenths

-- ---- estimates with and without a way

way-is : (o : Option Tenths) → has_way o ≡ true → o ≡ some (Option.get_or o 0)
unfolding has_way
way-is none h = absurd (false≢true h)
way-is (some e) h = refl

way-less : (a : Option Tenths) {o : Option Tenths} → NoMore a o → has_way o ≡ true → has_way a ≡ true
unfolding has_way
way-less (some a) n h = refl
way-less none no_way h = h

way-mapped : (o : Option Tenths) (c : ℕ) → has_way (map (λ e. c + e) o) ≡ has_way o
unfolding has_way
way-mapped none c = refl
way-mapped (some e) c = refl

number-most : (a b : Option Tenths) (c : ℕ) → NoMore a (map (λ e. c + e) b) → has_way a ≡ true → has_way b ≡ true → Option.get_or a 0 ≤ c + Option.get_or b 0
unfolding has_way
number-most (some a) (some b) c (number h) p q = h
number-most none b c n p q = absurd (false≢true p)
number-most (some a) none c n p q = absurd (false≢true q)

and_no : (a b : Bool) → b ≡ false → (a && b) ≡ false
and_no true b h = h
and_no false b h = refl

module _ (t : Task) (cs : List Cut) (log : List ℕ) where
  -- the estimate before row i as a number; 0 where there is no way
  abbrev pub tenths_at : ℕ → Tenths
  tenths_at i = Option.get_or (far t cs log i) 0

  -- ---- dashes, by their definition alone

  -- "and so does every row after it"
  pub dash-stays : (i j : ℕ) → i ≤ j → dashed t cs log i ≡ true → dashed t cs log j ≡ true
  unfolding dashed
  dash-stays i j l h =
      let r = all-false (suc i) (on_way t cs log) (not-true _ h) in
      ap not (all-fails (suc j) (on_way t cs log) r.0 (omega (arith, r.1)) r.2)

  -- a row without a dash has estimates before and after, and its ground won is their difference
  pub record Shown (i : ℕ) : Type 0 where
    pub before-is : far t cs log i ≡ some (tenths_at i)
    pub after_is : far t cs log (suc i) ≡ some (tenths_at (suc i))
    pub won-is : won t cs log i ≡ some (pos (tenths_at i) -ℤ pos (tenths_at (suc i)))

  on-way : (i : ℕ) → dashed t cs log i ≡ false → on_way t cs log i ≡ true
  unfolding dashed
  on-way i h = all-at (suc i) (on_way t cs log) (not-false _ h) i (omega arith)

  way-before : (i : ℕ) → dashed t cs log i ≡ false → has_way (far t cs log i) ≡ true
  unfolding on_way
  way-before i h = and_left (has_way (far t cs log i)) _ (on-way i h)

  way-after : (i : ℕ) → dashed t cs log i ≡ false → has_way (far t cs log (suc i)) ≡ true
  unfolding on_way
  way-after i h = and_right (has_way (far t cs log i)) _ (on-way i h)

  pub shown : (i : ℕ) → dashed t cs log i ≡ false → Shown i
  unfolding won difference
  shown i h = record { before-is = way-is (far t cs log i) (way-before i h); after_is = way-is (far t cs log (suc i)) (way-after i h); won-is = rw h }

  -- a dash is one of both figures
  pub both-dashes : (i : ℕ) → dashed t cs log i ≡ true → (figure (won t cs log i) ≡ dash) × (figure (detour t cs log i) ≡ dash)
  unfolding won detour figure
  both-dashes i h = (rw h, rw h)

  -- ---- stretches

  abbrev pub NoDash : ℕ → ℕ → Type 0
  NoDash i j = (k : ℕ) → i ≤ k → k < j → dashed t cs log k ≡ false

  pub figure-won : (k : ℕ) → dashed t cs log k ≡ false → figure (won t cs log k) ≡ pos (tenths_at k) -ℤ pos (tenths_at (suc k))
  unfolding figure
  figure-won k h = ap figure (shown k h).won-is

  -- "Where rows have no dash, their won figures add up to the estimate before the first of them less the estimate after the last."
  pub won-adds : (i n j : ℕ) → i + n ≡ j → NoDash i j → sum_from (λ k. figure (won t cs log k)) i n ≡ pos (tenths_at i) -ℤ pos (tenths_at j)
  won-adds i n j e h = sum-steps (λ k. figure (won t cs log k)) (λ k. pos (tenths_at k)) n i j e (λ k a b. figure-won k (h k a b))

  pub figure-detour : (k : ℕ) → dashed t cs log k ≡ false → figure (detour t cs log k) ≡ pos (paid t log k) -ℤ figure (won t cs log k)
  unfolding figure detour
  figure-detour k h = rw (shown k h).won-is

  -- detours add up to what was paid less what was won
  pub detours-add : (i n j : ℕ) → i + n ≡ j → NoDash i j
      → sum_from (λ k. figure (detour t cs log k)) i n ≡ sum_from (λ k. pos (paid t log k)) i n -ℤ (pos (tenths_at i) -ℤ pos (tenths_at j))
  detours-add i n j e h =
      sum-ext (λ k. figure (detour t cs log k)) (λ k. pos (paid t log k) -ℤ figure (won t cs log k)) n i (λ k a b. figure-detour k (h k a (omega arith)))
      ∙ sum_less (λ k. pos (paid t log k)) (λ k. figure (won t cs log k)) n i
      ∙ ap (λ (x : ℤ). sum_from (λ k. pos (paid t log k)) i n -ℤ x) (won-adds i n j e h)

-- ---- a log whose steps can be taken
module _ (t : Task) (v : Accepted t) (cs : List Cut) (ok : accepted t cs ≡ true) (log : List ℕ) (fine : bad_row t log ≡ 0) where
  -- what is paid and the estimate after a row are never below the estimate before it
  reach : (i : ℕ) → i < length log → NoMore (far t cs log i) (map (λ e. paid t log i + e) (far t cs log (suc i)))
  unfolding far paid before
  reach i l =
      let g = good-row t log i (good-all t log fine i l) in
      estimate-consistent t v cs ok (before t log i) (before-state t v log i) (step_at log i) g.known g.can

  -- a way after a row means a way before it
  pub way_back : (i : ℕ) → i < length log → has_way (far t cs log (suc i)) ≡ true → has_way (far t cs log i) ≡ true
  way_back i l h = way-less (far t cs log i) (reach i l) (way-mapped (far t cs log (suc i)) (paid t log i) ∙ h)

  pub ways-back : (i : ℕ) → i ≤ length log → has_way (far t cs log i) ≡ true → all i (on_way t cs log) ≡ true
  unfolding all on_way
  ways-back zero l h = refl
  ways-back (suc i) l h = let b = way_back i l h in and_both (ways-back i (omega arith) b) (and_both b h)

  -- so a row has a dash exactly where there is no way after it
  pub dashed-is : (i : ℕ) → i < length log → dashed t cs log i ≡ not (has_way (far t cs log (suc i)))
  unfolding dashed on_way
  dashed-is i l =
      let e : all (suc i) (on_way t cs log) ≡ has_way (far t cs log (suc i)) =
      ⊎_elim (λ (h : has_way (far t cs log (suc i)) ≡ true). ways-back (suc i) l h ∙ sym h)
      (λ (h : has_way (far t cs log (suc i)) ≡ false). all-fails (suc i) (on_way t cs log) i (omega arith) (and_no (has_way (far t cs log i)) _ h) ∙ sym h)
      (true-or-false (has_way (far t cs log (suc i)))) in
      ap not e

  -- ---- detour is never below zero
  module _ (i : ℕ) (l : i < length log) (h : dashed t cs log i ≡ false) where
    pub paid-enough : tenths_at t cs log i ≤ paid t log i + tenths_at t cs log (suc i)
    paid-enough = number-most (far t cs log i) (far t cs log (suc i)) (paid t log i) (reach i l) (way-before t cs log i h) (way-after t cs log i h)

    pub detour-is : detour t cs log i ≡ some (pos (paid t log i + tenths_at t cs log (suc i) - tenths_at t cs log i))
    unfolding detour
    detour-is = rw (shown t cs log i h).won-is (ap some (left_over (paid t log i) (tenths_at t cs log i) (tenths_at t cs log (suc i)) paid-enough))

    pub figure-is : figure (detour t cs log i) ≡ pos (paid t log i + tenths_at t cs log (suc i) - tenths_at t cs log i)
    unfolding figure
    figure-is = ap figure detour-is

    -- ---- no figure is the mark for a dash
    module _ (few : length cs < limits.blocks) where
      most-before : tenths_at t cs log i ≤ largest
      unfolding far
      most-before = (estimate-bound t v cs ok few (before t log i) (before-state t v log i) (tenths_at t cs log i) (shown t cs log i h).before-is).0

      most-after : tenths_at t cs log (suc i) ≤ largest
      unfolding far
      most-after =
          (estimate-bound t v cs ok few (before t log (suc i)) (before-state t v log (suc i)) (tenths_at t cs log (suc i)) (shown t cs log i h).after_is).0

      pub won-low : neg_ℤ (pos largest) ≤ℤ (pos (tenths_at t cs log i) -ℤ pos (tenths_at t cs log (suc i)))
      won-low = lowest (tenths_at t cs log i) (tenths_at t cs log (suc i)) largest most-after

      pub won-high : (pos (tenths_at t cs log i) -ℤ pos (tenths_at t cs log (suc i))) ≤ℤ pos largest
      won-high = highest (tenths_at t cs log i) (tenths_at t cs log (suc i)) largest most-before

      pub detour-most : paid t log i + tenths_at t cs log (suc i) - tenths_at t cs log i ≤ most_cost + largest
      unfolding paid
      detour-most = omega (arith, v.tenths (step_at log i), most-after)

      pub won-no-dash : figure (won t cs log i) ≡ dash → ⊥
      unfolding dash
      won-no-dash e =
          let m = size-most (tenths_at t cs log i) (tenths_at t cs log (suc i)) largest most-before most-after in
          let q : nat_abs (pos (tenths_at t cs log i) -ℤ pos (tenths_at t cs log (suc i))) ≡ limits.no_way = ap nat_abs (sym (figure-won t cs log i h) ∙ e) in
          omega (arith, m, q)

      pub detour-no-dash : figure (detour t cs log i) ≡ dash → ⊥
      unfolding dash
      detour-no-dash e =
          let q : paid t log i + tenths_at t cs log (suc i) - tenths_at t cs log i ≡ limits.no_way = ap nat_abs (sym figure-is ∙ e) in
          omega (arith, detour-most, q)

-- ---- every value of a row is at most the mark for a dash either way
module _ (t : Task) (v : Accepted t) (cs : List Cut) (ok : accepted t cs ≡ true) (log : List ℕ) (fine : bad_row t log ≡ 0) (few : length cs < limits.blocks)
    (i : ℕ) (l : i < length log) where
  abbrev Small : ℤ → Type 0
  Small z = nat_abs z ≤ limits.no_way

  dash-small : Small dash
  unfolding dash
  dash-small = omega arith

  won-small : Small (figure (won t cs log i))
  won-small =
      ⊎_elim (λ (h : dashed t cs log i ≡ true). subst⁻¹ Small (both-dashes t cs log i h).0 dash-small)
      (λ (h : dashed t cs log i ≡ false).
      let a = most-before t v cs ok log fine i l h few in
      let b = most-after t v cs ok log fine i l h few in
      subst⁻¹ Small (figure-won t cs log i h) (omega (arith, size-most (tenths_at t cs log i) (tenths_at t cs log (suc i)) largest a b)))
      (true-or-false (dashed t cs log i))

  detour-small : Small (figure (detour t cs log i))
  detour-small =
      ⊎_elim (λ (h : dashed t cs log i ≡ true). subst⁻¹ Small (both-dashes t cs log i h).1 dash-small)
      (λ (h : dashed t cs log i ≡ false). subst⁻¹ Small (figure-is t v cs ok log fine i l h) (omega (arith, detour-most t v cs ok log fine i l h few)))
      (true-or-false (dashed t cs log i))

  pub value-small : (k : ℕ) → Small (get_or (row_values t cs log i) k (pos 0))
  unfolding row_values paid
  value-small zero = omega (arith, v.tenths (step_at log i))
  value-small (suc zero) = won-small
  value-small (suc (suc zero)) = detour-small
  value-small (suc (suc (suc k))) = omega arith

-- ---- the list of rows

module _ (t : Task) (cs : List Cut) (log : List ℕ) where
  three : (i : ℕ) → length (row_values t cs log i) ≡ 3
  unfolding row_values
  three i = refl

  pub rows-length : length (row_list t cs log) ≡ length log * 3
  unfolding row_list
  rows-length = each-length (row_values t cs log) 3 three (length log)

  -- value k of row i
  pub value-at : (i k : ℕ) → i < length log → k < 3 → get_or (row_list t cs log) (i * 3 + k) (pos 0) ≡ get_or (row_values t cs log i) k (pos 0)
  unfolding row_list
  value-at i k h l = each_item (pos 0) (row_values t cs log) 3 three (length log) i k h l

  -- the same in a list that was written over
  pub written_at : (rows : List ℤ) (i k : ℕ) → i < length log → k < 3
      → get_or (over (row_list t cs log) rows) (i * 3 + k) (pos 0) ≡ get_or (row_values t cs log i) k (pos 0)
  unfolding over
  written_at rows i k h l = get_or-append (row_list t cs log) _ (pos 0) (i * 3 + k) (omega (arith, rows-length)) ∙ value-at i k h l
