-- 01, "The planner's boundary": "in its lists each value is four bytes, most significant first (three values for a cut and for a row, one for an estimate)".
-- For whoever knows only the contract of `elhavir_run`: what a C program takes from the bytes of a run's cuts is the block, the column and the wanted set of
-- each cut, and from those of a plan's rows the step, the tenths and the tenths left of each. No value is too large for its four bytes. (Of the estimates:
-- `entry_value` in Answers.)
use Prim.Native.Nat.{ℕ, zero, suc, ◌+◌, ◌*◌, ◌/◌, ◌%◌, ◌^◌, ◌≤◌, ◌<◌}
use native.Mathlib.Nat.{not-suc-le-zero, le_of_suc-le-suc, add-zero}
use native.Mathlib.Omega.{arith}
use native.Mathlib.Decide.{ℕ_discrete}
use mathlib.Core.Path.{◌≡◌, refl, sym, ap, ◌∙◌}
use mathlib.Core.Bool.{true}
use mathlib.Core.List.{List, [], ◌∷◌, ◌++◌}
use lib.Dec.{eqb}
use lib.ListN.{length, get_or, length-append, get_or-append}
use lib.Pow.{shr-shr}
use lib.Seq.{get_or-append-add, get_or-append_seam}
use borrow.Author.Tests.{ne_eqb}
use Rattle.task.specs.declared.Position.{Position}
use Rattle.task.specs.declared.Step.{Step}
use Rattle.task.specs.Loops.{over}
use Rattle.task.specs.Sizes.{limits, most_cost, most_tenths}
use Rattle.task.specs.Task.{Task, State, Accepted, position, step_count, cost_of, start, taken, reaches, costs, IsPlan}
use Rattle.task.proofs.LoopLaws.{and_left, and_right}
use Rattle.task.proofs.TaskLaws.{first_step}
use Rattle.blocks.specs.declared.Cut.{Cut}
use Rattle.blocks.specs.Blocks.{PositionSet, Blocks, holds, is_empty, whole, cut_block, cut_ok, cuts_ok, accepted}
use Rattle.blocks.proofs.SetLaws.{some-held}
use Rattle.blocks.proofs.PartLaws.{Parts, fits, old_block, old_set, cut-length, cut_parts}
use Rattle.blocks.proofs.CutLaws.{whole_parts}
use Rattle.sheets.specs.Holding.{task_on}
use Rattle.run.specs.declared.Row.{Row}
use Rattle.run.specs.Run.{rows}
use Rattle.blocks.specs.Flat.{cut_place}
use Rattle.run.specs.Listing.{listed, row_place}
use Rattle.refining.proofs.CutListLaws.{listed-three}
use Rattle.running.proofs.RowLaws.{row-each}
use Rattle.values.specs.Values.{bytes_of, value_on}
use Rattle.historian.specs.Entries.{EntryRuns}
use Rattle.demands.specs.Places.{PlaceSays}
use Rattle.demands.proofs.Numbers.{kind, value-back}
use Rattle.demands.proofs.Entry.{costs-few}
use Rattle.demands.proofs.Answers.{entry-plan-right}
use Rattle.demands.proofs.Cuts as cut

-- ---- places of three values, as bytes

module _ {A : Type 0} (f : A → List ℕ) (three : (x : A) → length (f x) ≡ 3) where
  -- value i of place k of a list of places
  place_at : (xs : List A) (d : A) (k i : ℕ) → k < length xs → i < 3 → get_or (listed f xs) (k * 3 + i) 0 ≡ get_or (f (get_or xs k d)) i 0
  unfolding listed
  place_at [] d k i h l = absurd (not-suc-le-zero h)
  place_at (x ∷ xs) d zero i h l = let e : 0 * 3 + i ≡ i = omega arith in rw e (get_or-append (f x) (listed f xs) 0 i (omega (arith, three x)))
  place_at (x ∷ xs) d (suc k) i h l =
      let e : suc k * 3 + i ≡ length (f x) + (k * 3 + i) = omega (arith, three x) in
      rw e (get_or-append-add (f x) (listed f xs) (k * 3 + i) 0 ∙ place_at xs d k i (le_of_suc-le-suc h) l)

  -- x stands at place k of a list that was put as bytes
  module _ (xs : List A) (bytes₀ : List ℕ) {bytes : List ℕ} (written : bytes ≡ over (bytes_of (listed f xs)) bytes₀)
      (x : A) (k : ℕ) (h : k < length xs) (here : get_or xs k x ≡ x) where
    value-at : (i : ℕ) → i < 3 → get_or (f x) i 0 < 2 ^ 32 → value_on bytes (k * 3 + i) ≡ get_or (f x) i 0
    value-at i l small =
        let e : get_or (listed f xs) (k * 3 + i) 0 ≡ get_or (f x) i 0 = place_at xs x k i h l ∙ ap (λ (y : A). get_or (f y) i 0) here in
        ap (λ (b : List ℕ). value_on b (k * 3 + i)) written
        ∙ value-back (listed f xs) bytes₀ (k * 3 + i) (omega (arith, listed-three f three xs)) (omega (arith, e))
        ∙ e

    -- the values that were put there, none of them too large, come back
    place-back : get_or (f x) 0 0 < 2 ^ 32 → get_or (f x) 1 0 < 2 ^ 32 → get_or (f x) 2 0 < 2 ^ 32
        → PlaceSays bytes k (get_or (f x) 0 0) (get_or (f x) 1 0) (get_or (f x) 2 0)
    place-back a b c = record { first = rw add-zero at (value-at 0 (omega arith) a); second = value-at 1 (omega arith) b; third = value-at 2 (omega arith) c }

-- ---- cuts

-- a set of positions below 32
set-fits : (a : PositionSet) → ((p : Position) → holds a p ≡ true → p.0 < 32) → a < 2 ^ 32
unfolding holds is_empty
set-fits a h = split (ℕ_discrete (a / 2 ^ 32) 0)
  where
    split : Dec (a / 2 ^ 32 ≡ 0) → a < 2 ^ 32
    split (yes z) = omega arith
    split (no z) =
        let r = some-held (a / 2 ^ 32) (ne_eqb (a / 2 ^ 32) 0 z) in
        let k = h (position (32 + r.0.0)) (ap (λ (n : ℕ). eqb (n % 2) 1) (sym (shr-shr a 32 r.0.0)) ∙ r.1) in
        absurd (omega (arith, k))

-- block, column and wanted set of a cut
abbrev pub CutSized : Cut → Type 0
CutSized c = (c.block.0 < limits.blocks) × (c.column.0 < limits.columns) × (c.wanted < 2 ^ limits.positions)

module _ (t : Task) (v : Accepted t) where
  -- a cut that is accepted when its turn comes
  cut-sized : (bs : Blocks) → Parts t bs → (before after : List Cut) (c : Cut) → cuts_ok t bs (before ++ (c ∷ after)) ≡ true → length bs + length before ≤ limits.blocks
      → CutSized c
  unfolding cuts_ok old_set old_block
  cut-sized bs g [] after c h n =
      let f = fits t bs c (and_left (cut_ok t bs c) _ h) in
      let inside = (g.shaped c.block f.made).inside c.column f.there in (
        omega (arith, f.made),
        omega (arith, f.there, v.columns.1),
        set-fits c.wanted (λ p q. omega (arith, inside p (f.part p q), (v.sizes c.column f.there).1)),
      )
  cut-sized bs g (d ∷ before) after c h n =
      let f = fits t bs d (and_left (cut_ok t bs d) _ h) in
      cut-sized (cut_block bs d) (cut_parts t bs d g f) before after c (and_right (cut_ok t bs d) _ h) (omega (arith, cut-length bs d))

-- ---- rows

-- step, tenths and tenths left
abbrev pub RowSized : Row → Type 0
RowSized r = (r.step.0 < limits.steps) × (r.tenths ≤ most_cost) × (r.left ≤ most_tenths)

module _ (t : Task) where
  -- the row of a plan's step: what it costs, and what those after it cost
  abbrev pub row_for : Step → List Step → Row
  row_for s after = record { step = s; tenths = cost_of t s; left = costs t after }

  row_at : (before after : List Step) (s : Step) (d : Row) → get_or (rows t (before ++ (s ∷ after))) (length before) d ≡ row_for s after
  unfolding rows
  row_at [] after s d = refl
  row_at (x ∷ before) after s d = row_at before after s d

  step-known : (x : State) (before after : List Step) (s : Step) → reaches t x (before ++ (s ∷ after)) ≡ true → s.0 < step_count t
  step-known x [] after s h = (first_step t x s after h).known
  step-known x (y ∷ before) after s h = step-known (taken t y x) before after s (first_step t x y (before ++ (s ∷ after)) h).rest

  row_sized : Accepted t → (before after : List Step) (s : Step) → IsPlan t (before ++ (s ∷ after)) → length (before ++ (s ∷ after)) < limits.blocks
      → RowSized (row_for s after)
  unfolding IsPlan
  row_sized v before after s h n =
      let k = length-append before (s ∷ after) in
      (omega (arith, step-known (start t) before after s h, v.steps), omega (arith, v.tenths s), omega (arith, costs-few t v.tenths after))

-- ---- elhavir_run
module _ (s : List ℕ) (room : ℕ) (cuts rs : List ℕ) {r : ℕ} {c l : List ℕ} (done : EntryRuns s room cuts rs r c l) where
  -- each cut that was made
  module _ (kept : kind r ≡ 0 → ⊥) (before after : List Cut) (k : Cut) (made : cut.entry-made s room cuts rs done kept ≡ before ++ (k ∷ after)) where
    pub entry-cut-sized : CutSized k
    unfolding accepted
    entry-cut-sized =
        let m = cut.had s room cuts rs done kept in
        cut-sized (task_on s) m.model (whole (task_on s) ∷ []) (whole_parts (task_on s) m.model) before after k (rw made at m.ok)
        (omega (arith, m.within, m.few, ap length made, length-append before (k ∷ after)))

    pub entry-cut-bytes : PlaceSays c (length before) k.block.0 k.column.0 k.wanted
    unfolding cut_place
    entry-cut-bytes =
        let b = entry-cut-sized in
        place-back cut_place (λ x. refl) (cut.entry-made s room cuts rs done kept) cuts (cut.entry-cuts-listed s room cuts rs done kept) k (length before)
        (omega (arith, ap length made, length-append before (k ∷ after)))
        (ap (λ (cs : List Cut). get_or cs (length before) k) made ∙ get_or-append_seam before k after k)
        (omega (arith, b.0)) (omega (arith, b.1)) b.2

  -- each step of a plan
  module _ (planned : kind r ≡ 1) (before after : List Step) (a : Step)
      (plan : (entry-plan-right s room cuts rs done planned).list ≡ before ++ (a ∷ after)) where
    abbrev row : Row
    row = row_for (task_on s) a after

    pub entry-row-sized : RowSized row
    entry-row-sized =
        let p = entry-plan-right s room cuts rs done planned in
        row_sized (task_on s) (cut.had s room cuts rs done (λ z. omega arith)).model before after a (rw plan at p.cheapest.plan) (rw plan at p.short)

    pub entry-row-bytes : PlaceSays l (length before) a.0 (cost_of (task_on s) a) (costs (task_on s) after)
    unfolding row_place
    entry-row-bytes =
        let p = entry-plan-right s room cuts rs done planned in
        let b = entry-row-sized in
        place-back row_place (λ x. refl) (rows (task_on s) p.list) rs p.written row (length before)
        (omega (arith, row-each (task_on s) p.list, ap length plan, length-append before (a ∷ after)))
        (ap (λ (ss : List Step). get_or (rows (task_on s) ss) (length before) row) plan ∙ row_at (task_on s) before after a row)
        (omega (arith, b.0)) (omega (arith, b.1)) (omega (arith, b.2))
