-- A model written and read back is the same model, and the same task.
use Prim.Native.Nat.{ℕ, ◌*◌, ◌/◌, ◌%◌, ◌^◌, ◌<◌}
use native.Mathlib.Omega.{arith}
use native.Mathlib.Decide.{dec_lt}
use mathlib.Core.Path.{◌≡◌, ap, ap₂, ◌∙◌}
use mathlib.Core.List.{List}
use borrow.Author.Tests.{eq-eqb, lt-ltb, le-ltb}
use Rattle.task.specs.Sizes.{limits, step_places}
use Rattle.std.specs.Prelude as maybe
use Rattle.task.specs.declared.Position.{Position}
use Rattle.task.specs.Loops.{tab, over}
use Rattle.task.specs.Task.{position}
use Rattle.task.specs.Tables.{mark}
use Rattle.task.proofs.LoopLaws.{tab-ext}
use Rattle.fields.specs.Judging.{Field, judged}
use Rattle.fields.specs.Packing.{sheet_of}
use Rattle.sheets.specs.ModelSheet.{Source, ColumnFields, MarkFields, columns_in, steps_in, entries, of_sheet}
use Rattle.sheets.specs.Holding.{column_said, change_said, step_said, task_in, unused, mark_place, mark_table, model_of}
use Rattle.sheets.proofs.RoundLaws.{Same, written_same, written-accepted}
use Rattle.fields.specs.Refusals.{Done}
use Rattle.unpack.specs.Unpacking.{unpacked}

-- ---- task and model go by the fields below the counts alone
module _ (p q : Source) (n m : ℕ) (e : Same p q n m) where
  column-said-same : (i : ℕ) → i < n → column_said p.column i ≡ column_said q.column i
  unfolding column_said
  column-said-same i h = ap (λ (c : ColumnFields). column_said (λ _. c) i) (e.column i h)

  change-said-same : (j i : ℕ) → j < m → i < n → change_said p.marks j i ≡ change_said q.marks j i
  unfolding change_said
  change-said-same j i h l = ap (λ (k : MarkFields). change_said (λ _ _. k) j i) (e.marks j i h l)

  step-said-same : (j : ℕ) → j < m → step_said p.cost p.marks n j ≡ step_said q.cost q.marks n j
  unfolding step_said
  step-said-same j h = λ k. record { cost = (e.cost j h k).value; changes = tab-ext n (change_said p.marks j) (change_said q.marks j) (λ i l. change-said-same j i h l) k }

  same_place : (f g : ℕ → ℕ → ℕ) → ((j i : ℕ) → j < m → i < n → f j i ≡ g j i) → (k : ℕ) → k < m * limits.columns → mark_place f n k ≡ mark_place g n k
  unfolding mark_place
  same_place f g h k l = split (dec_lt (k % limits.columns) n)
    where
      split : Dec (k % limits.columns < n) → mark_place f n k ≡ mark_place g n k
      split (yes r) = simp (lt-ltb (k % limits.columns) n r) (ap mark (h (k / limits.columns) (k % limits.columns) (omega arith) r))
      split (no r) = simp (le-ltb (k % limits.columns) n (omega arith))

  same-table : (f g : ℕ → ℕ → ℕ) → ((j i : ℕ) → j < m → i < n → f j i ≡ g j i) → mark_table f n m ≡ mark_table g n m
  unfolding mark_table
  same-table f g h = ap (λ (t : List (maybe.Option Position)). over t (unused step_places maybe.None)) (tab-ext (m * limits.columns) (mark_place f n) (mark_place g n) (λ k l. same_place f g h k l))

module _ (p q : Source) (e : Same p q (columns_in q) (steps_in q)) where
  abbrev n : ℕ
  n = columns_in q

  abbrev m : ℕ
  m = steps_in q

  count-columns : columns_in p ≡ n
  count-columns = ap (λ (f : Field). f.value) e.columns

  count-steps : steps_in p ≡ m
  count-steps = ap (λ (f : Field). f.value) e.steps

  pub same-task : task_in p ≡ task_in q
  unfolding task_in
  same-task =
      λ k. record {
        columns = (ap (λ (x : ℕ). tab x (column_said p.column)) count-columns ∙ tab-ext n (column_said p.column) (column_said q.column) (column-said-same p q n m e)) k;
        steps = (ap₂ (λ (x y : ℕ). tab y (step_said p.cost p.marks x)) count-columns count-steps ∙ tab-ext m (step_said p.cost p.marks n) (step_said q.cost q.marks n) (step-said-same p q n m e)) k;
      }

  pub same-model : model_of p ≡ model_of q
  unfolding model_of
  same-model =
      λ k. record {
        columns = count-columns k;
        steps = count-steps k;
        size = over ((ap (λ (x : ℕ). tab x (λ i. (p.column i).size.value)) count-columns ∙ tab-ext n (λ i. (p.column i).size.value) (λ i. (q.column i).size.value) (λ i h. ap (λ (c : ColumnFields). c.size.value) (e.column i h))) k) (unused limits.columns 0);
        start = over ((ap (λ (x : ℕ). tab x (λ i. position (p.column i).start.value)) count-columns ∙ tab-ext n (λ i. position (p.column i).start.value) (λ i. position (q.column i).start.value) (λ i h. ap (λ (c : ColumnFields). position c.start.value) (e.column i h))) k) (unused limits.columns (position 0));
        goal = over ((ap (λ (x : ℕ). tab x (λ i. mark (p.column i).goal.value)) count-columns ∙ tab-ext n (λ i. mark (p.column i).goal.value) (λ i. mark (q.column i).goal.value) (λ i h. ap (λ (c : ColumnFields). mark c.goal.value) (e.column i h))) k) (unused limits.columns maybe.None);
        cost = over ((ap (λ (x : ℕ). tab x (λ j. (p.cost j).value)) count-steps ∙ tab-ext m (λ j. (p.cost j).value) (λ j. (q.cost j).value) (λ j h. ap (λ (f : Field). f.value) (e.cost j h))) k) (unused limits.steps 0);
        need = (ap₂ (λ (x y : ℕ). mark_table (λ j i. (p.marks j i).need.value) x y) count-columns count-steps ∙ same-table p q n m e (λ j i. (p.marks j i).need.value) (λ j i. (q.marks j i).need.value) (λ j i h l. ap (λ (f : MarkFields). f.need.value) (e.marks j i h l))) k;
        effect = (ap₂ (λ (x y : ℕ). mark_table (λ j i. (p.marks j i).effect.value) x y) count-columns count-steps ∙ same-table p q n m e (λ j i. (p.marks j i).effect.value) (λ j i. (q.marks j i).effect.value) (λ j i h l. ap (λ (f : MarkFields). f.effect.value) (e.marks j i h l))) k;
      }

-- the sheet of accepted fields holds their model: that is what a run, a question and a replay read of it
pub model-held : (p : Source) → judged (entries p) ≡ 0 → ((j : ℕ) → j < steps_in p → (p.cost j).value < 2 ^ 16) → model_of (of_sheet (sheet_of (entries p))) ≡ model_of p
unfolding entries
model-held p ok costs = same-model (of_sheet (sheet_of (entries p))) p (written_same p ok costs)

-- so it is read as their model
pub model-back : (p : Source) → judged (entries p) ≡ 0 → ((j : ℕ) → j < steps_in p → (p.cost j).value < 2 ^ 16) → unpacked (sheet_of (entries p)) ≡ Done (model_of p)
unfolding unpacked entries
model-back p ok costs = simp (eq-eqb _ 0 (written-accepted p ok costs)) (ap Done (model-held p ok costs))
