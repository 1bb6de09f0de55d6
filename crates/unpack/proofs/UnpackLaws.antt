-- The model from its tables, and the two ways of unpacking a sheet.
use Prim.Native.Nat.{ℕ, ◌/◌, ◌%◌, ◌≤◌, ◌<◌}
use native.Mathlib.Omega.{arith}
use native.Mathlib.Decide.{dec_lt}
use mathlib.Core.Path.{◌≡◌, sym, ap, ap₂, ◌∙◌}
use mathlib.Core.List.{List}
use lib.ListN.{length, length-replicate}
use borrow.Author.Tests.{eq-eqb, ne_eqb, lt-ltb, le-ltb}
use Rattle.task.specs.Sizes.{limits}
use Rattle.task.specs.declared.Model.{Model}
use Rattle.std.specs.Prelude as maybe
use Rattle.task.specs.declared.Position.{Position}
use Rattle.task.specs.Task.{position}
use Rattle.task.specs.Loops.{tab, over}
use Rattle.task.specs.Tables.{mark}
use Rattle.fields.specs.Refusals.{Done, Refused}
use Rattle.sheets.specs.ModelSheet.{columns_of, steps_of, column_on, cost_on, marks_on, sheet_with, of_sheet, judge_sheet}
use Rattle.sheets.specs.Holding.{unused, mark_place, mark_table, model_of}
use Rattle.unpack.specs.Unpacking.{size_on, start_on, goal_on, tenths_on, unpacked}

-- ---- the places of a table
pub unused-length : {A : Type 0} (n : ℕ) (a : A) → length (unused n a) ≡ n
unfolding unused
unused-length n a = length-replicate n a

-- ---- a place of a table of marks
pub mark-placed : (f : ℕ → ℕ → ℕ) (n k : ℕ) {v : maybe.Option Position} → (k % limits.columns < n → v ≡ mark (f (k / limits.columns) (k % limits.columns))) → (n ≤ k % limits.columns → v ≡ maybe.None) → v ≡ mark_place f n k
unfolding mark_place
mark-placed f n k a b =
    elim (dec_lt (k % limits.columns) n) [
      | yes h ↦ simp (lt-ltb (k % limits.columns) n h) (a h)
      | no h ↦ let l : n ≤ k % limits.columns = omega (arith, h) in simp (le-ltb (k % limits.columns) n l) (b l)
    ]

-- ---- the model from its tables
module _ (s : List ℕ) (n m : ℕ) (qn : n ≡ columns_of s) (qm : m ≡ steps_of s) where
  pub tables-done : {a : List ℕ} {b : List Position} {c : List (maybe.Option Position)} {d : List ℕ} {e f : List (maybe.Option Position)} → a ≡ over (tab n (size_on s)) (unused limits.columns 0) → b ≡ over (tab n (start_on s)) (unused limits.columns (position 0)) → c ≡ over (tab n (goal_on s)) (unused limits.columns maybe.None) → d ≡ over (tab m (tenths_on s n)) (unused limits.steps 0) → e ≡ mark_table (λ j i. (marks_on s n j i).need.value) n m → f ≡ mark_table (λ j i. (marks_on s n j i).effect.value) n m → ◌≡◌ {A = Model} (record { columns = n; steps = m; size = a; start = b; goal = c; cost = d; need = e; effect = f }) (model_of (of_sheet s))
  unfolding model_of of_sheet sheet_with column_on cost_on size_on start_on goal_on tenths_on
  tables-done ea eb ec ed ee ef =
      λ k. record {
        columns = qn k;
        steps = qm k;
        size = (ea ∙ ap (λ (x : ℕ). over (tab x (size_on s)) (unused limits.columns 0)) qn) k;
        start = (eb ∙ ap (λ (x : ℕ). over (tab x (start_on s)) (unused limits.columns (position 0))) qn) k;
        goal = (ec ∙ ap (λ (x : ℕ). over (tab x (goal_on s)) (unused limits.columns maybe.None)) qn) k;
        cost = (ed ∙ ap₂ (λ (x y : ℕ). over (tab y (tenths_on s x)) (unused limits.steps 0)) qn qm) k;
        need = (ee ∙ ap₂ (λ (x y : ℕ). mark_table (λ j i. (marks_on s x j i).need.value) x y) qn qm) k;
        effect = (ef ∙ ap₂ (λ (x y : ℕ). mark_table (λ j i. (marks_on s x j i).effect.value) x y) qn qm) k;
      }

-- ---- a sheet is refused, or unpacked
pub refuses : (s : List ℕ) {n : ℕ} → n ≡ judge_sheet s → (n ≡ 0 → ⊥) → Refused n ≡ unpacked s
unfolding unpacked
refuses s e h = simp (ne_eqb (judge_sheet s) 0 (λ z. h (e ∙ z))) (ap Refused e)

pub unpacks : (s : List ℕ) {m : Model} → 0 ≡ judge_sheet s → m ≡ model_of (of_sheet s) → Done m ≡ unpacked s
unfolding unpacked
unpacks s e q = simp (eq-eqb (judge_sheet s) 0 (sym e)) (ap Done q)
