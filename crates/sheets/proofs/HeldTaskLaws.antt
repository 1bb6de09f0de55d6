-- The task that an accepted sheet says: the model by value is it, it is within 01's limits, and the sheet is its only one.
use Rattle.std.specs.Prelude as maybe
use Prim.Native.Nat.{ℕ, zero, suc, ◌+◌, ◌*◌, ◌/◌, ◌%◌, ◌^◌, ◌≤◌, ◌<◌}
use native.Mathlib.Omega.{arith}
use native.Mathlib.Decide.{dec_lt}
use mathlib.Core.Path.{◌≡◌, refl, sym, ap, ap₂, ◌∙◌, subst}
use mathlib.Core.List.{List}
use mathlib.Core.Option.{Option, none, some}
use lib.ListN.{get_or, get_or-eq_default}
use borrow.Author.Tests.{lt-ltb}
use Rattle.task.specs.Sizes.{limits, most_cost}
use Rattle.task.specs.declared.Column.{Column}
use Rattle.task.specs.declared.Position.{Position}
use Rattle.task.specs.declared.Step.{Step}
use Rattle.task.specs.Loops.{tab}
use Rattle.task.specs.Task.{Task, ColumnEntry, StepEntry, Change, no_column, no_step, no_change, Accepted, column, position, step, column_count, step_count, size_of, start_at, goal_at, cost_of, change_at, need_at, effect_at}
use Rattle.task.specs.Tables.{mark, marked, column_entry, change_entry, step_entry, task_of}
use Rattle.task.proofs.LoopLaws.{tab-at, tab-length, tab-ext, over-at}
use Rattle.fields.specs.Judging.{Field}
use Rattle.fields.proofs.FieldLaws.{field_lt}
use Rattle.fields.proofs.PlaceLaws.{same-field}
use Rattle.fields.proofs.PutLaws.{Bytes}
use Rattle.sheets.specs.ModelSheet.{Source, MarkFields, columns_in, steps_in, entries, fields_part, model_bits, columns_of, cost_on, sheet_with, of_sheet, judge_sheet}
use Rattle.sheets.specs.Holding.{column_said, change_said, step_said, task_in, unused, mark_place, mark_table, model_of}
use Rattle.sheets.proofs.RoundLaws.{Fine, Same, same-fields, same-sheets, own-fine}

-- ---- the model by value is the task that the fields say
table_at : (f : ℕ → ℕ → ℕ) (n m j i : ℕ) → n ≤ limits.columns → j < m → i < n → get_or (mark_table f n m) (j * limits.columns + i) maybe.None ≡ mark (f j i)
unfolding mark_table mark_place
table_at f n m j i h hj hi =
    let k = j * limits.columns + i in
    let d : k / limits.columns ≡ j = omega arith in
    let r : k % limits.columns ≡ i = omega arith in
    over-at (m * limits.columns) (mark_place f n) _ maybe.None k (omega arith) ∙ simp (r, d, lt-ltb i n hi)

module _ (p : Source) (hn : columns_in p ≤ limits.columns) where
  column-held : (i : ℕ) → i < columns_in p → column_entry (model_of p) i ≡ column_said p.column i
  unfolding column_entry column_said model_of
  column-held i h =
      λ k. record {
        size = over-at (columns_in p) (λ i. (p.column i).size.value) (unused limits.columns 0) 0 i h k;
        start = over-at (columns_in p) (λ i. position (p.column i).start.value) (unused limits.columns (position 0)) (position 0) i h k;
        goal = marked (over-at (columns_in p) (λ i. mark (p.column i).goal.value) (unused limits.columns maybe.None) maybe.None i h k);
      }

  change-held : (j i : ℕ) → j < steps_in p → i < columns_in p → change_entry (model_of p) j i ≡ change_said p.marks j i
  unfolding change_entry change_said model_of
  change-held j i hj hi =
      λ k. record {
        need = marked (table_at (λ j i. (p.marks j i).need.value) (columns_in p) (steps_in p) j i hn hj hi k);
        effect = marked (table_at (λ j i. (p.marks j i).effect.value) (columns_in p) (steps_in p) j i hn hj hi k);
      }

  step-held : (j : ℕ) → j < steps_in p → step_entry (model_of p) j ≡ step_said p.cost p.marks (columns_in p) j
  unfolding step_entry step_said model_of
  step-held j h =
      λ k. record {
        cost = over-at (steps_in p) (λ j. (p.cost j).value) (unused limits.steps 0) 0 j h k;
        changes = tab-ext (columns_in p) (change_entry (model_of p) j) (change_said p.marks j) (λ i l. change-held j i h l) k;
      }

  pub model-task : task_of (model_of p) ≡ task_in p
  unfolding task_of task_in model_of
  model-task =
      λ k. record {
        columns = tab-ext (columns_in p) (column_entry (model_of p)) (column_said p.column) column-held k;
        steps = tab-ext (steps_in p) (step_entry (model_of p)) (step_said p.cost p.marks (columns_in p)) step-held k;
      }

-- ---- what the task says of each column and step
module _ (p : Source) where
  pub columns-said : column_count (task_in p) ≡ columns_in p
  unfolding column_count task_in
  columns-said = tab-length (columns_in p) (column_said p.column)

  steps-said : step_count (task_in p) ≡ steps_in p
  unfolding step_count task_in
  steps-said = tab-length (steps_in p) (step_said p.cost p.marks (columns_in p))

  pub column-said : (i : ℕ) → i < columns_in p → get_or (task_in p).columns i no_column ≡ column_said p.column i
  unfolding task_in
  column-said i h = tab-at (columns_in p) (column_said p.column) no_column i h

  step-said : (j : ℕ) → j < steps_in p → get_or (task_in p).steps j no_step ≡ step_said p.cost p.marks (columns_in p) j
  unfolding task_in
  step-said j h = tab-at (steps_in p) (step_said p.cost p.marks (columns_in p)) no_step j h

  step_past : (j : ℕ) → steps_in p ≤ j → get_or (task_in p).steps j no_step ≡ no_step
  unfolding task_in
  step_past j h =
      let l = tab (steps_in p) (step_said p.cost p.marks (columns_in p)) in
      get_or-eq_default l no_step {n = j} (omega (arith, tab-length (steps_in p) (step_said p.cost p.marks (columns_in p))))

  size-said : (j : Column) → j.0 < columns_in p → size_of (task_in p) j ≡ (p.column j.0).size.value
  unfolding size_of column_said no_column
  size-said j h = ap (λ (e : ColumnEntry). e.size) (column-said j.0 h)

  start-said : (j : Column) → j.0 < columns_in p → start_at (task_in p) j ≡ position (p.column j.0).start.value
  unfolding start_at column_said no_column
  start-said j h = ap (λ (e : ColumnEntry). e.start) (column-said j.0 h)

  goal-said : (j : Column) → j.0 < columns_in p → goal_at (task_in p) j ≡ marked (mark (p.column j.0).goal.value)
  unfolding goal_at column_said no_column
  goal-said j h = ap (λ (e : ColumnEntry). e.goal) (column-said j.0 h)

  cost-said : (s : Step) → s.0 < steps_in p → cost_of (task_in p) s ≡ (p.cost s.0).value
  unfolding cost_of step_said no_step
  cost-said s h = ap (λ (e : StepEntry). e.cost) (step-said s.0 h)

  cost-past : (s : Step) → steps_in p ≤ s.0 → cost_of (task_in p) s ≡ 0
  unfolding cost_of no_step
  cost-past s h = ap (λ (e : StepEntry). e.cost) (step_past s.0 h)

  change-said : (s : Step) (j : Column) → s.0 < steps_in p → j.0 < columns_in p → change_at (task_in p) s j ≡ change_said p.marks s.0 j.0
  unfolding change_at step_said no_step
  change-said s j hs hj = ap (λ (e : StepEntry). get_or e.changes j.0 no_change) (step-said s.0 hs) ∙ tab-at (columns_in p) (change_said p.marks s.0) no_change j.0 hj

  change-past : (s : Step) (j : Column) → steps_in p ≤ s.0 → change_at (task_in p) s j ≡ no_change
  unfolding change_at no_step
  change-past s j h = ap (λ (e : StepEntry). get_or e.changes j.0 no_change) (step_past s.0 h)

-- a mark's position lies below the size that the mark is not above
marked-below : (v size : ℕ) (q : Position) → v ≤ size → marked (mark v) ≡ some q → q.0 < size
unfolding marked
marked-below zero size q h e = let z : ◌≡◌ {A = ℕ} 0 1 = cc in absurd (omega arith)
marked-below (suc v) size q h e = let r : position v ≡ q = cc in omega (arith, ap (λ (x : Position). x.0) r)

marked-same : (a b : ℕ) → marked (mark a) ≡ marked (mark b) → a ≡ b
unfolding marked
marked-same zero zero e = refl
marked-same zero (suc b) e = let z : ◌≡◌ {A = ℕ} 0 1 = cc in absurd (omega arith)
marked-same (suc a) zero e = let z : ◌≡◌ {A = ℕ} 0 1 = cc in absurd (omega arith)
marked-same (suc a) (suc b) e = let r : position a ≡ position b = cc in ap (λ (x : Position). suc x.0) r

-- no position is none of nothing
not_none : (o : Option Position) (q : Position) → o ≡ none → o ≡ some q → ⊥
not_none o q h e = let z : ◌≡◌ {A = ℕ} 0 1 = cc in omega arith

-- ---- an accepted sheet's task is within 01's limits
module _ (s : List ℕ) (ok : judge_sheet s ≡ 0) where
  abbrev P : Source
  P = of_sheet s

  abbrev T : Task
  T = task_in (of_sheet s)

  pub ok_fine : Fine P (columns_in P) (steps_in P)
  unfolding of_sheet sheet_with
  ok_fine = own-fine s ok

  tenths-lt : (j : ℕ) → (P.cost j).value < 2 ^ 16
  unfolding of_sheet sheet_with cost_on
  tenths-lt j = omega (arith, field_lt s (model_bits (columns_of s) j) 16)

  module _ (t : Step) (j : Column) (h : j.0 < columns_in P) where
    -- a step's mark at a column
    mark-below : (part : Change → Option Position) (f : MarkFields → Field) → part no_change ≡ none → ((k i : ℕ) → part (change_said P.marks k i) ≡ marked (mark (f (P.marks k i)).value)) → ((k i : ℕ) → k < steps_in P → i < columns_in P → (f (P.marks k i)).value ≤ (P.column i).size.value) → (q : Position) → part (change_at T t j) ≡ some q → q.0 < size_of T j
    mark-below part f np said le q e = split (dec_lt t.0 (steps_in P))
      where
        split : Dec (t.0 < steps_in P) → q.0 < size_of T j
        split (yes l) =
            subst (λ (x : ℕ). q.0 < x) (sym (size-said P j h))
            (marked-below (f (P.marks t.0 j.0)).value _ q (le t.0 j.0 l h) (sym (said t.0 j.0) ∙ sym (ap part (change-said P t j l h)) ∙ e))
        split (no l) = absurd (not_none (part (change_at T t j)) q (ap part (change-past P t j (omega arith)) ∙ np) e)

  pub accepted-task : Accepted T
  unfolding need_at effect_at no_change change_said
  accepted-task =
      record {
        columns = (omega (arith, columns-said P, ok_fine.header.some), omega (arith, columns-said P, ok_fine.header.columns));
        steps = omega (arith, steps-said P, ok_fine.header.steps);
        sizes = λ j h. let l : j.0 < columns_in P = omega (arith, columns-said P) in (omega (arith, size-said P j l, (ok_fine.size j.0 l).1), omega (arith, size-said P j l, (ok_fine.size j.0 l).2));
        starts = λ j h. let l : j.0 < columns_in P = omega (arith, columns-said P) in rw (start-said P j l, size-said P j l) (ok_fine.start j.0 l).1;
        goals = λ j q h e. let l : j.0 < columns_in P = omega (arith, columns-said P) in rw (size-said P j l) (marked-below (P.column j.0).goal.value _ q (ok_fine.goal j.0 l).1 (sym (goal-said P j l) ∙ e));
        needs = λ t j q h e. mark-below t j (omega (arith, columns-said P)) (λ (c : Change). c.need) (λ (k : MarkFields). k.need) refl (λ k i. refl) (λ k i l r. (ok_fine.need k i l r).1) q e;
        effects = λ t j q h e. mark-below t j (omega (arith, columns-said P)) (λ (c : Change). c.effect) (λ (k : MarkFields). k.effect) refl (λ k i. refl) (λ k i l r. (ok_fine.effect k i l r).1) q e;
        tenths = λ t. tenths-of t (dec_lt t.0 (steps_in P));
      }
    where
      tenths-of : (t : Step) → Dec (t.0 < steps_in P) → cost_of T t ≤ most_cost
      tenths-of t (yes l) = omega (arith, cost-said P t l, tenths-lt t.0)
      tenths-of t (no l) = omega (arith, cost-past P t (omega arith))

-- ---- two accepted sheets of the same task are the same bytes
module _ (s t : List ℕ) (oks : judge_sheet s ≡ 0) (okt : judge_sheet t ≡ 0) (e : task_in (of_sheet s) ≡ task_in (of_sheet t)) where
  abbrev A : Source
  A = of_sheet s

  abbrev B : Source
  B = of_sheet t

  abbrev n : ℕ
  n = columns_in A

  abbrev m : ℕ
  m = steps_in A

  same-n : n ≡ columns_in B
  same-n = sym (columns-said A) ∙ ap column_count e ∙ columns-said B

  same-m : m ≡ steps_in B
  same-m = sym (steps-said A) ∙ ap step_count e ∙ steps-said B

  fa : Fine A n m
  fa = ok_fine s oks

  fb : Fine B n m
  fb = subst (λ (x : ℕ). Fine B x m) (sym same-n) (subst (λ (y : ℕ). Fine B (columns_in B) y) (sym same-m) (ok_fine t okt))

  same_size : (i : ℕ) → i < n → (A.column i).size.value ≡ (B.column i).size.value
  same_size i h = sym (size-said A (column i) h) ∙ ap (λ (x : Task). size_of x (column i)) e ∙ size-said B (column i) (omega (arith, same-n))

  same_start : (i : ℕ) → i < n → (A.column i).start.value ≡ (B.column i).start.value
  same_start i h = ap (λ (x : Position). x.0) (sym (start-said A (column i) h) ∙ ap (λ (x : Task). start_at x (column i)) e ∙ start-said B (column i) (omega (arith, same-n)))

  same-goal : (i : ℕ) → i < n → (A.column i).goal.value ≡ (B.column i).goal.value
  same-goal i h = marked-same _ _ (sym (goal-said A (column i) h) ∙ ap (λ (x : Task). goal_at x (column i)) e ∙ goal-said B (column i) (omega (arith, same-n)))

  same-cost : (j : ℕ) → j < m → (A.cost j).value ≡ (B.cost j).value
  same-cost j h = sym (cost-said A (step j) h) ∙ ap (λ (x : Task). cost_of x (step j)) e ∙ cost-said B (step j) (omega (arith, same-m))

  same-change : (j i : ℕ) → j < m → i < n → change_said A.marks j i ≡ change_said B.marks j i
  same-change j i h l = sym (change-said A (step j) (column i) h l) ∙ ap (λ (x : Task). change_at x (step j) (column i)) e ∙ change-said B (step j) (column i) (omega (arith, same-m)) (omega (arith, same-n))

  same-need : (j i : ℕ) → j < m → i < n → (A.marks j i).need.value ≡ (B.marks j i).need.value
  unfolding change_said
  same-need j i h l = marked-same _ _ (ap (λ (c : Change). c.need) (same-change j i h l))

  same_effect : (j i : ℕ) → j < m → i < n → (A.marks j i).effect.value ≡ (B.marks j i).effect.value
  unfolding change_said
  same_effect j i h l = marked-same _ _ (ap (λ (c : Change). c.effect) (same-change j i h l))

  same : Same A B n m
  same =
      record {
        form = same-field _ _ fa.header.complete.0 fb.header.complete.0 (fa.header.form ∙ sym fb.header.form);
        columns = same-field _ _ fa.header.complete.1 fb.header.complete.1 same-n;
        steps = same-field _ _ fa.header.complete.2 fb.header.complete.2 same-m;
        column = λ i h k. record {
          size = same-field (A.column i).size (B.column i).size (fa.size i h).0 (fb.size i h).0 (same_size i h) k;
          start = same-field (A.column i).start (B.column i).start (fa.start i h).0 (fb.start i h).0 (same_start i h) k;
          goal = same-field (A.column i).goal (B.column i).goal (fa.goal i h).0 (fb.goal i h).0 (same-goal i h) k;
        };
        cost = λ j h. same-field _ _ (fa.cost j h) (fb.cost j h) (same-cost j h);
        marks = λ j i h l k. record {
          need = same-field (A.marks j i).need (B.marks j i).need (fa.need j i h l).0 (fb.need j i h l).0 (same-need j i h l) k;
          effect = same-field (A.marks j i).effect (B.marks j i).effect (fa.effect j i h l).0 (fb.effect j i h l).0 (same_effect j i h l) k;
        };
        fill = same-field _ _ fa.fill.0 fb.fill.0 (fa.fill.1 ∙ sym fb.fill.1);
      }

  pub canonical : Bytes s → Bytes t → s ≡ t
  unfolding entries
  canonical bs bt = same-sheets s t oks okt bs bt (same-fields A B n m same ∙ ap₂ (λ (x y : ℕ). fields_part B x y) same-n same-m)
