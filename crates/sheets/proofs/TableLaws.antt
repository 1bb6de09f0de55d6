-- Laws of the lent tables: how many places they take, and what stands in each.
use Prim.Native.Nat.{ℕ, ◌*◌}
use native.Mathlib.Omega.{arith}
use mathlib.Core.Path.{◌≡◌, refl, ◌∙◌}
use lib.ListN.{length}
use Rattle.fields.specs.Judging.{Field}
use Rattle.fields.proofs.PlaceLaws.{each-length}
use Rattle.sheets.specs.ModelSheet.{ColumnFields, MarkFields, Source, columns_in, steps_in}
use Rattle.sheets.specs.LentTables.{column_values, cost_value, mark_values, step_values, frame_of, costs_of, marks_of}

pub column-length : (c : ℕ → ColumnFields) (i : ℕ) → length (column_values c i) ≡ 3
unfolding column_values
column-length c i = refl

pub cost-length : (c : ℕ → Field) (j : ℕ) → length (cost_value c j) ≡ 1
unfolding cost_value
cost-length c j = refl

pub pair-length : (k : ℕ → ℕ → MarkFields) (j i : ℕ) → length (mark_values k j i) ≡ 2
unfolding mark_values
pair-length k j i = refl

pub row-length : (k : ℕ → ℕ → MarkFields) (n j : ℕ) → length (step_values k n j) ≡ n * 2
unfolding step_values
row-length k n j = each-length (mark_values k j) 2 (pair-length k j) n

pub frame-length : (p : Source) → length (frame_of p) ≡ columns_in p * 3
unfolding frame_of
frame-length p = each-length (column_values p.column) 3 (column-length p.column) (columns_in p)

pub costs-length : (p : Source) → length (costs_of p) ≡ steps_in p
unfolding costs_of
costs-length p = each-length (cost_value p.cost) 1 (cost-length p.cost) (steps_in p) ∙ omega arith

pub marks-length : (p : Source) → length (marks_of p) ≡ steps_in p * (columns_in p * 2)
unfolding marks_of
marks-length p = each-length (step_values p.marks (columns_in p)) (columns_in p * 2) (row-length p.marks (columns_in p)) (steps_in p)
