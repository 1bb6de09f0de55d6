-- The tables that the reader fills and the writer is lent: `frame` has size, start and goal mark for each column, `costs` a cost for each
-- step, `marks` need mark and effect mark for each column of each step.
use Rattle.std.specs.Prelude.{ℕ, ◌+◌, ◌*◌, List, [], ◌∷◌, ◌++◌, length, ltb}
use Rattle.fields.specs.Judging.{Field, Check, in_table, given, check, checks_of, each}
use Rattle.sheets.specs.ModelSheet.{ColumnFields, MarkFields, Source, columns_in, steps_in, entries, model_bytes, columns_of, steps_of, sheet_checks}

-- ---- what the tables of a model hold
unfoldable pub column_values : (ℕ → ColumnFields) → ℕ → List ℕ
column_values c i = (c i).size.value ∷ (c i).start.value ∷ (c i).goal.value ∷ []

unfoldable pub cost_value : (ℕ → Field) → ℕ → List ℕ
cost_value cost j = (cost j).value ∷ []

unfoldable pub mark_values : (ℕ → ℕ → MarkFields) → ℕ → ℕ → List ℕ
mark_values k j i = (k j i).need.value ∷ (k j i).effect.value ∷ []

unfoldable pub step_values : (ℕ → ℕ → MarkFields) → ℕ → ℕ → List ℕ
step_values k n j = each n (mark_values k j)

unfoldable pub frame_of : Source → List ℕ
frame_of p = each (columns_in p) (column_values p.column)

unfoldable pub costs_of : Source → List ℕ
costs_of p = each (steps_in p) (cost_value p.cost)

unfoldable pub marks_of : Source → List ℕ
marks_of p = each (steps_in p) (step_values p.marks (columns_in p))

-- ---- the fields of lent tables
unfoldable pub column_in : List ℕ → ℕ → ColumnFields
column_in frame i = record { size = in_table frame (i * 3); start = in_table frame (i * 3 + 1); goal = in_table frame (i * 3 + 2) }

-- of n columns
unfoldable pub marks_in : List ℕ → ℕ → ℕ → ℕ → MarkFields
marks_in marks n j i = record { need = in_table marks (j * (n * 2) + i * 2); effect = in_table marks (j * (n * 2) + i * 2 + 1) }

-- what a writer is given and lent
unfoldable pub of_tables : ℕ → ℕ → List ℕ → List ℕ → List ℕ → Source
of_tables n m frame costs marks =
    record {
      form = given 1;
      columns = given n;
      steps = given m;
      column = column_in frame;
      cost = in_table costs;
      marks = marks_in marks n;
      fill = given 0;
    }

-- ---- a lent table has too few places
abbrev pub too_few : {A : Type 0} → ℕ → List A → Check
too_few places table = check 8 (ltb (length table) places)

-- of a model of n columns and m steps
abbrev pub table_checks : ℕ → ℕ → List ℕ → List ℕ → List ℕ → List Check
table_checks n m frame costs marks = too_few (n * 3) frame ∷ too_few m costs ∷ too_few (m * (n * 2)) marks ∷ []

-- a reader judges the sheet, and last the tables
unfoldable pub read_checks : List ℕ → List ℕ → List ℕ → List ℕ → List Check
read_checks s frame costs marks = sheet_checks s ++ table_checks (columns_of s) (steps_of s) frame costs marks

-- a writer judges the same fields, and last the room for the bytes
unfoldable pub write_checks : Source → List ℕ → List Check
write_checks p sheet = checks_of (entries p) ++ (too_few (model_bytes (columns_in p) (steps_in p)) sheet ∷ [])
