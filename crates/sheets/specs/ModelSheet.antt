-- 01, "Sheets" and "Refusal numbers", of the model sheet: its fields in sheet order, how each is judged, and where each stands.
use Rattle.std.specs.Prelude.{ℕ, ◌+◌, ◌-◌, ◌*◌, ◌%◌, List, [], ◌∷◌, ◌++◌, leb}
use Rattle.task.specs.Sizes.{limits}
use Rattle.fields.specs.Bits.{field_at}
use Rattle.fields.specs.Judging.{Field, Entry, Check, on_sheet, entry, free, outside, follows, checks_of, refusal, judged, each}
use Rattle.fields.specs.Packing.{bytes_for}

-- the fields of a column
pub record ColumnFields : Type 0 where
  pub size : Field
  pub start : Field
  pub goal : Field

-- the fields of a step at a column
pub record MarkFields : Type 0 where
  pub need : Field
  pub effect : Field

-- where a model's fields come from: a sheet's bits, or what a writer is given and lent
pub record Source : Type 0 where
  pub form : Field
  pub columns : Field
  pub steps : Field
  pub column : ℕ → ColumnFields
  pub cost : ℕ → Field
  pub marks : ℕ → ℕ → MarkFields
  pub fill : Field

-- ---- the fields in sheet order: for each its bits, where it comes from, and which row refuses its value when

-- form 4 bits, value 1; columns 5; steps 8
unfoldable pub header_part : Field → Field → Field → List Entry
header_part form columns steps =
    entry 4 form 2 (outside 1 1 form.value)
    ∷ entry 5 columns 3 (outside 1 limits.columns columns.value)
    ∷ entry 8 steps 3 (outside 0 limits.steps steps.value)
    ∷ []

-- a mark 6 bits: 0 for none, else the position plus 1, so not above the column's size
abbrev pub mark_entry : ColumnFields → Field → Entry
mark_entry c f = entry 6 f 5 (outside 0 c.size.value f.value)

-- column i: size 6 bits; start 5, below its size; goal mark
unfoldable pub column_part : (ℕ → ColumnFields) → ℕ → List Entry
column_part c i =
    entry 6 (c i).size 4 (outside 1 limits.positions (c i).size.value)
    ∷ entry 5 (c i).start 5 (leb (c i).size.value (c i).start.value)
    ∷ mark_entry (c i) (c i).goal
    ∷ []

-- step j at column i: need mark, effect mark
unfoldable pub marks_part : (ℕ → ColumnFields) → (ℕ → ℕ → MarkFields) → ℕ → ℕ → List Entry
marks_part c k j i = mark_entry (c i) (k j i).need ∷ mark_entry (c i) (k j i).effect ∷ []

-- step j: cost 16 bits, any value, and for each of the n columns its marks
unfoldable pub step_part : (ℕ → ColumnFields) → (ℕ → Field) → (ℕ → ℕ → MarkFields) → ℕ → ℕ → List Entry
step_part c cost k n j = free 16 (cost j) ∷ each n (marks_part c k j)

-- how many bits the header and n columns take: column n would begin there
abbrev pub column_bits : ℕ → ℕ
column_bits n = 17 + n * 17

-- how many bits the fields of n columns and m steps take: step m would begin there
unfoldable pub model_bits : ℕ → ℕ → ℕ
model_bits n m = column_bits n + m * (16 + n * 12)

-- no sheet takes more
abbrev pub most_bits : ℕ
most_bits = column_bits limits.columns + limits.steps * (16 + limits.columns * 12)

-- zero bits fill the last byte
abbrev pub fill_bits : ℕ → ℕ
fill_bits bits = (8 - bits % 8) % 8

unfoldable pub fill_part : ℕ → Field → List Entry
fill_part bits fill = entry (fill_bits bits) fill 6 (outside 0 0 fill.value) ∷ []

-- the n columns, and the m steps of a model of n columns
abbrev pub columns_part : Source → ℕ → List Entry
columns_part p n = each n (column_part p.column)

abbrev pub step_in : Source → ℕ → ℕ → List Entry
step_in p = step_part p.column p.cost p.marks

abbrev pub steps_part : Source → ℕ → ℕ → List Entry
steps_part p n m = each m (step_in p n)

-- what follows the header of a sheet of n columns and m steps
abbrev pub body_part : Source → ℕ → ℕ → List Entry
body_part p n m = columns_part p n ++ (steps_part p n m ++ fill_part (model_bits n m) p.fill)

-- the whole sheet
unfoldable pub fields_part : Source → ℕ → ℕ → List Entry
fields_part p n m = header_part p.form p.columns p.steps ++ body_part p n m

-- the counts that the fields say, and the whole sheet by them
abbrev pub columns_in : Source → ℕ
columns_in p = p.columns.value

abbrev pub steps_in : Source → ℕ
steps_in p = p.steps.value

unfoldable pub entries : Source → List Entry
entries p = fields_part p (columns_in p) (steps_in p)

-- ---- where the fields stand on a sheet
abbrev pub columns_of : List ℕ → ℕ
columns_of s = field_at s 4 5

abbrev pub steps_of : List ℕ → ℕ
steps_of s = field_at s 9 8

unfoldable pub column_on : List ℕ → ℕ → ColumnFields
column_on s i =
    record {
      size = on_sheet s (column_bits i) 6;
      start = on_sheet s (column_bits i + 6) 5;
      goal = on_sheet s (column_bits i + 6 + 5) 6;
    }

unfoldable pub cost_on : List ℕ → ℕ → ℕ → Field
cost_on s n j = on_sheet s (model_bits n j) 16

unfoldable pub marks_on : List ℕ → ℕ → ℕ → ℕ → MarkFields
marks_on s n j i =
    record {
      need = on_sheet s (model_bits n j + 16 + i * 12) 6;
      effect = on_sheet s (model_bits n j + 16 + i * 12 + 6) 6;
    }

-- the fields of the bytes s, read as a sheet of n columns and m steps
unfoldable pub sheet_with : List ℕ → ℕ → ℕ → Source
sheet_with s n m =
    record {
      form = on_sheet s 0 4;
      columns = on_sheet s 4 5;
      steps = on_sheet s 9 8;
      column = column_on s;
      cost = cost_on s n;
      marks = marks_on s n;
      fill = on_sheet s (model_bits n m) (fill_bits (model_bits n m));
    }

-- the fields of the bytes s, read as a sheet
unfoldable pub of_sheet : List ℕ → Source
of_sheet s = sheet_with s (columns_of s) (steps_of s)

-- the bytes of a sheet of n columns and m steps
abbrev pub model_bytes : ℕ → ℕ → ℕ
model_bytes n m = bytes_for (model_bits n m)

-- where the sheet at the front of s ends
abbrev pub model_end : List ℕ → ℕ
model_end s = model_bytes (columns_of s) (steps_of s)

-- ---- the refusal of a sheet; 0 for none

-- of the sheet at the front of s, whatever follows
unfoldable pub judge_part : List ℕ → ℕ
judge_part s = judged (entries (of_sheet s))

-- of s as a whole: bytes that follow come last
unfoldable pub sheet_checks : List ℕ → List Check
sheet_checks s = checks_of (entries (of_sheet s)) ++ (follows (model_end s) s ∷ [])

unfoldable pub judge_sheet : List ℕ → ℕ
judge_sheet s = refusal (sheet_checks s)
