-- Laws for the code that puts the rows of a path into a list, from the last row to the first.
use Prim.Native.Nat.{ℕ, zero, suc, ◌+◌, ◌*◌, ◌≤◌, ◌<◌}
use native.Mathlib.Nat.{le_of_suc-le-suc, not-suc-le-zero}
use native.Mathlib.Omega.{arith}
use mathlib.Core.Path.{◌≡◌, refl, sym, ap, ◌∙◌}
use mathlib.Core.List.{List, [], ◌∷◌, ◌++◌}
use lib.ListN.{length, get_or, set, take, drop, drop_of_length-le}
use lib.Seq.{drop-cons, take-suc}
use Rattle.std.proofs.lemmas.List.{get_or-take, length-take-le}
use Rattle.task.specs.Sizes.{limits, most_cost}
use Rattle.task.specs.declared.Step.{Step}
use Rattle.task.specs.Loops.{tab, over}
use Rattle.task.specs.Task.{Task, step, cost_of, costs}
use Rattle.fields.specs.Places.{puts}
use Rattle.fields.proofs.PlaceLaws.{puts-over}
use Rattle.run.specs.Run.{rows}
use Rattle.walk.specs.Walking.{step_in, path_steps}
use Rattle.run.specs.Listing.{listed, row_place}
use Rattle.refining.proofs.CutListLaws.{listed-three}
use Rattle.running.specs.Running.{Costed}

-- ---- a value put before others
set-swap : (l : List ℕ) (i j a b : ℕ) → i < j → set (set l j b) i a ≡ set (set l i a) j b
set-swap [] i j a b h = refl
set-swap (x ∷ l) i zero a b h = absurd (not-suc-le-zero h)
set-swap (x ∷ l) zero (suc j) a b h = refl
set-swap (x ∷ l) (suc i) (suc j) a b h = ap (λ (k : List ℕ). x ∷ k) (set-swap l i j a b (le_of_suc-le-suc h))

puts-before : (xs : List ℕ) (at : ℕ) (l : List ℕ) (k v : ℕ) → k < at → set (puts at xs l) k v ≡ puts at xs (set l k v)
unfolding puts
puts-before [] at l k v h = refl
puts-before (x ∷ xs) at l k v h = puts-before xs (at + 1) (set l at x) k v (omega arith) ∙ ap (puts (at + 1) xs) (set-swap l k at v x h)

pub row-each : (t : Task) (ss : List Step) → length (rows t ss) ≡ length ss
unfolding rows
row-each t [] = refl
row-each t (s ∷ ss) = ap suc (row-each t ss)

pub three : (t : Task) (ss : List Step) → length (listed row_place (rows t ss)) ≡ length ss * 3
unfolding row_place
three t ss = listed-three row_place (λ r. refl) (rows t ss) ∙ ap (λ (n : ℕ). n * 3) (row-each t ss)

-- ---- the loop
module _ (path : List Step) (cost list₀ : List ℕ) where
  rest : (i : ℕ) → i < length path → drop i path ≡ get_or path i (step 0) ∷ drop (i + 1) path
  rest i h =
      let n : suc i ≡ i + 1 = omega arith in
      drop-cons path i (step 0) h ∙ ap (λ (k : ℕ). get_or path i (step 0) ∷ drop k path) n

  -- the rows from row i on stand in the list
  pub record RowsFrom (list : List ℕ) (left i : ℕ) : Type 0 where
    pub small : left + i * most_cost ≤ length path * most_cost
    pub told : (t : Task) → Costed t (length path) path cost → (left ≡ costs t (drop i path)) × (list ≡ puts (i * 3) (listed row_place (rows t (drop i path))) list₀)

  pub rows_none : RowsFrom list₀ 0 (length path)
  unfolding costs rows listed puts
  rows_none =
      record {
        small = omega arith;
        told = λ t a. let e : drop (length path) path ≡ [] = drop_of_length-le path {i = length path} (omega arith) in (rw e, rw e);
      }

  pub rows_more : {list : List ℕ} {left : ℕ} (i : ℕ) {k : ℕ} → RowsFrom list left k → k ≡ i + 1 → i < length path → (paid : ℕ) → paid ≡ get_or cost (get_or path i (step 0)).0 0 → paid ≤ most_cost
      → RowsFrom (set (set (set list (i * 3) (get_or path i (step 0)).0) (i * 3 + 1) paid) (i * 3 + 2) left) (left + paid) i
  unfolding costs rows listed row_place puts
  rows_more {list} {left} i {k} r e h paid p m =
      record {
        small = omega (arith, r.small, m);
        told = λ t a.
            let d = rest i h in
            let q : paid ≡ cost_of t (get_or path i (step 0)) = p ∙ sym (a i h) in
            let b = rw e at (r.told t a) in
            let xs = listed row_place (rows t (drop (i + 1) path)) in
            let x : (i + 1) * 3 ≡ i * 3 + 1 + 1 + 1 = omega arith in
            let put : list ≡ puts (i * 3 + 1 + 1 + 1) xs list₀ = b.1 ∙ ap (λ (z : ℕ). puts z xs list₀) x in
            let l1 = ap (λ (z : List ℕ). set z (i * 3) (get_or path i (step 0)).0) put ∙ puts-before xs (i * 3 + 1 + 1 + 1) list₀ (i * 3) (get_or path i (step 0)).0 (omega arith) in
            let l2 = ap (λ (z : List ℕ). set z (i * 3 + 1) paid) l1 ∙ puts-before xs (i * 3 + 1 + 1 + 1) _ (i * 3 + 1) paid (omega arith) in
            let n : i * 3 + 2 ≡ i * 3 + 1 + 1 = omega arith in
            let l3 = ap (λ (z : List ℕ). set z (i * 3 + 2) left) l2 ∙ puts-before xs (i * 3 + 1 + 1 + 1) _ (i * 3 + 2) left (omega arith) in
            (rw d (omega (arith, b.0, q)), l3 ∙ ap (λ (z : ℕ). puts (i * 3 + 1 + 1 + 1) xs (set (set (set list₀ (i * 3) (get_or path i (step 0)).0) (i * 3 + 1) paid) z left)) n ∙ rw (d, sym q, sym b.0) refl);
      }

  pub rows_end : {list : List ℕ} {left : ℕ} (i : ℕ) → RowsFrom list left i → i ≤ 0 → length path * 3 ≤ length list₀ → (t : Task) → Costed t (length path) path cost
      → (left ≡ costs t path) × (list ≡ over (listed row_place (rows t path)) list₀)
  unfolding over
  rows_end {list} {left} i r h room t a =
      let e : i ≡ 0 = omega arith in
      let b = rw e at (r.told t a) in
      (b.0, b.1 ∙ puts-over (listed row_place (rows t path)) list₀ (omega (arith, room, three t path)))

-- ---- a plan's steps stand at the front of the path
pub taken : (n : ℕ) (path : List Step) → n ≤ length path → take n path ≡ path_steps n path
unfolding path_steps step_in tab
taken zero path h = refl
taken (suc n) path h = take-suc path n (step 0) (omega (arith, h)) ∙ ap (λ (l : List Step). l ++ (get_or path n (step 0) ∷ [])) (taken n path (omega (arith, h)))

module _ (n : ℕ) (path : List Step) (h : n ≤ length path) where
  abbrev in-front : {i : ℕ} → i < length (take n path) → i < n
  in-front l = let w = length-take-le n path h in omega (arith, l, w)

  pub taken-known : ((i : ℕ) → i < n → (get_or path i (step 0)).0 < limits.steps) → (i : ℕ) → i < length (take n path) → (get_or (take n path) i (step 0)).0 < limits.steps
  taken-known k i l = rw (get_or-take n path i (step 0) (in-front l)) (k i (in-front l))

  pub taken-costed : (t : Task) (cost : List ℕ) → Costed t n path cost → Costed t (length (take n path)) (take n path) cost
  taken-costed t cost a = λ i l. rw (get_or-take n path i (step 0) (in-front l)) (a i (in-front l))
