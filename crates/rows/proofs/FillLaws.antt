-- Laws of rows put from a list of values.
use Prim.Native.Nat.{ℕ, zero, suc, ◌+◌, ◌*◌, ◌/◌, ◌≤◌, ◌<◌}
use native.Mathlib.Nat.{not-suc-le-zero, le_of_suc-le-suc}
use native.Mathlib.Decide.{dec_lt}
use native.Mathlib.Omega.{arith}
use mathlib.Core.Path.{◌≡◌, refl, ap, ◌∙◌}
use mathlib.Core.Logic.{⊎_elim}
use mathlib.Core.Bool.{true, false}
use mathlib.Core.List.{List, [], ◌∷◌, ◌++◌}
use lib.ListN.{length, get_or, take, length-append}
use lib.Seq.{ext_get_or, length-take-le}
use borrow.Author.Tests.{lt-ltb, le-ltb, ltb-true}
use Rattle.task.specs.Loops.{all, tab, over}
use Rattle.task.specs.Sizes.{limits}
use Rattle.task.specs.Task.{step}
use Rattle.task.proofs.LoopLaws.{true-or-false, all-at, all-intro, tab-length, tab-at, over_none}
use Rattle.run.specs.declared.Row.{Row}
use Rattle.run.specs.Listing.{listed, row_place}
use Rattle.refining.proofs.CutListLaws.{listed-three}
use Rattle.rows.specs.Rows.{row_in, steps_named, fitting, filled, filling, PutsRows}

-- ---- how many rows are put
module _ (places : ℕ) (vs : List ℕ) (n : ℕ) where
  -- what is known of that number
  pub record Fits (m : ℕ) : Type 0 where
    pub room : m ≤ places
    pub there : m * 3 ≤ length vs
    pub named : (i : ℕ) → i < m → get_or vs (i * 3) 0 < limits.steps

  none-fit : {m : ℕ} → m ≡ 0 → Fits m
  none-fit e = record { room = omega arith; there = omega arith; named = λ i h. absurd (not-suc-le-zero (rw e at h)) }

  pub few-places : places < n → fitting places vs n ≡ 0
  unfolding fitting
  few-places h = simp (lt-ltb places n h)

  module _ (h : n ≤ places) where
    pub few-values : length vs / 3 < n → fitting places vs n ≡ 0
    unfolding fitting
    few-values k = simp (le-ltb places n h, lt-ltb (length vs / 3) n k)

    module _ (k : n ≤ length vs / 3) where
      pub no-step : steps_named vs n ≡ false → fitting places vs n ≡ 0
      unfolding fitting
      no-step e = simp (le-ltb places n h, le-ltb (length vs / 3) n k, e)

      pub all_fit : steps_named vs n ≡ true → fitting places vs n ≡ n
      unfolding fitting
      all_fit e = simp (le-ltb places n h, le-ltb (length vs / 3) n k, e)

      named-fit : {m : ℕ} → steps_named vs n ≡ true → m ≡ n → Fits m
      unfolding steps_named
      named-fit e q =
          record {
            room = omega arith;
            there = omega arith;
            named = λ i l. ltb-true (get_or vs (i * 3) 0) limits.steps (all-at n _ e i (omega arith));
          }

  pub fitting-fits : {m : ℕ} → m ≡ fitting places vs n → Fits m
  fitting-fits {m} q = by-places (dec_lt places n)
    where
      by_values : n ≤ places → Dec (length vs / 3 < n) → Fits m
      by_values h (yes k) = none-fit (q ∙ few-values h k)
      by_values h (no k) = ⊎_elim (λ e. named-fit h (omega arith) e (q ∙ all_fit h (omega arith) e)) (λ e. none-fit (q ∙ no-step h (omega arith) e)) (true-or-false (steps_named vs n))

      by-places : Dec (places < n) → Fits m
      by-places (yes h) = none-fit (q ∙ few-places h)
      by-places (no h) = by_values (omega arith) (dec_lt (length vs / 3) n)

-- the places that they take
pub part-length : (rows : List Row) (vs : List ℕ) (n : ℕ) {m : ℕ} → m ≡ fitting (length rows) vs n → length (take m rows) ≡ m
part-length rows vs n {m} e = length-take-le m rows (fitting-fits (length rows) vs n e).room

-- ---- rows put one after the other

-- the list with i rows put
abbrev pub front : List Row → List ℕ → ℕ → List Row
front rows vs i = over (tab i (row_in vs)) rows

pub front-all : (rows : List Row) (vs : List ℕ) (n m : ℕ) → m ≡ fitting (length rows) vs n → PutsRows rows vs n m (front rows vs m)
unfolding filling
front-all rows vs n m e = ap (λ (k : ℕ). filled k (front rows vs k)) e

-- ---- the values that a run lists for its rows

row_on : (a b c : ℕ) (l : List ℕ) (i : ℕ) → row_in (a ∷ b ∷ c ∷ l) (suc i) ≡ row_in l i
unfolding row_in
row_on a b c l i =
    let x : suc i * 3 ≡ suc (suc (suc (i * 3))) = omega arith in
    let y : suc i * 3 + 1 ≡ suc (suc (suc (i * 3 + 1))) = omega arith in
    let z : suc i * 3 + 2 ≡ suc (suc (suc (i * 3 + 2))) = omega arith in
    rw (y, z, x) refl

pub row_listed : (rs : List Row) (vs : List ℕ) (d : Row) (i : ℕ) → i < length rs → row_in (listed row_place rs ++ vs) i ≡ get_or rs i d
unfolding row_in listed row_place
row_listed [] vs d i h = absurd (not-suc-le-zero h)
row_listed (r ∷ rs) vs d zero h = refl
row_listed (r ∷ rs) vs d (suc i) h = row_on r.step.0 r.tenths r.left (listed row_place rs ++ vs) i ∙ row_listed rs vs d i (le_of_suc-le-suc h)

pub rows-listed : (rs : List Row) (vs : List ℕ) → tab (length rs) (row_in (listed row_place rs ++ vs)) ≡ rs
rows-listed rs vs =
    let f = row_in (listed row_place rs ++ vs) in
    let d : Row = record { step = step 0; tenths = 0; left = 0 } in
    ext_get_or d (tab (length rs) f) rs (tab-length (length rs) f) (λ i h. let k : i < length rs = omega (arith, tab-length (length rs) f) in tab-at (length rs) f d i k ∙ row_listed rs vs d i k)

pub listed-long : (rs : List Row) → length (listed row_place rs) ≡ length rs * 3
unfolding row_place
listed-long = listed-three row_place (λ r. refl)

-- rows that each name a step are all put, where they have places
module _ (rows rs : List Row) (vs : List ℕ) (d : Row) (room : length rs ≤ length rows) (named : (i : ℕ) → i < length rs → (get_or rs i d).step.0 < limits.steps) where
  abbrev values : List ℕ
  values = listed row_place rs ++ vs

  all_named : steps_named values (length rs) ≡ true
  unfolding steps_named row_in
  all_named =
      all-intro (length rs) _ (λ i h.
      let e : get_or values (i * 3) 0 ≡ (get_or rs i d).step.0 = ap (λ (r : Row). r.step.0) (row_listed rs vs d i h) in
      lt-ltb (get_or values (i * 3) 0) limits.steps (rw e (named i h)))

  pub listed-put : (filling rows values (length rs)).rows ≡ over rs rows
  unfolding filling
  listed-put =
      let long : length rs ≤ length values / 3 = omega (arith, listed-long rs, length-append (listed row_place rs) vs) in
      ap (λ (m : ℕ). over (tab m (row_in values)) rows) (all_fit (length rows) values (length rs) room long all_named) ∙ ap (λ (l : List Row). over l rows) (rows-listed rs vs)

pub nothing_put : (rows : List Row) (vs : List ℕ) → (filling rows vs 0).rows ≡ rows
unfolding filling steps_named all
nothing_put rows vs = ap (λ (m : ℕ). over (tab m (row_in vs)) rows) (all_fit (length rows) vs 0 (omega arith) (omega arith) refl) ∙ over_none (row_in vs) rows
