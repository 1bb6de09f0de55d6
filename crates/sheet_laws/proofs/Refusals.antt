-- 01, "Refusal numbers", of the reader and the writer of model sheets: a number is returned exactly when its row applies and no earlier
-- check does, and a refusal leaves everything lent as found.
-- The checks, in 01's order, are `read_checks` and `write_checks`: for each field of `entries` in sheet order 1 where it is not complete and
-- then its own number where its value is bad; then, for a reader, 6 where bytes follow; and last 8 for each table.
use Prim.Native.Nat.{ℕ}
use mathlib.Core.Path.{refl}
use mathlib.Core.List.{List, [], ◌∷◌, ◌++◌}
use Rattle.task.specs.Loops.{over}
use Rattle.fields.specs.Judging.{checks_of}
use Rattle.fields.specs.Packing.{sheet_of}
use Rattle.fields.proofs.ExactLaws.{has, Numbers, fields-append, fields-each, numbers-append, Judged, judges}
use Rattle.sheets.specs.ModelSheet.{Source, columns_in, steps_in, columns_of, steps_of, model_bytes, header_part, column_part, marks_part, step_part, fill_part, fields_part, entries, of_sheet, sheet_checks}
use Rattle.sheets.specs.LentTables.{frame_of, costs_of, marks_of, read_checks, write_checks}
use Rattle.sheets.proofs.SheetLaws.{H, C, S, F}
use Rattle.fields.specs.Refusals.{Done, Refused, told_number}
use Rattle.reading.specs.Reading.{ReadOutcome, counts, read_outcome, reading}
use Rattle.writing.specs.Writing.{WriteOutcome as Written, write_outcome as written, writing}

-- which numbers a sheet can get, and whoever reads or writes one
abbrev pub numbers : List ℕ
numbers = 1 ∷ 2 ∷ 3 ∷ 4 ∷ 5 ∷ 6 ∷ []

abbrev pub lent_numbers : List ℕ
lent_numbers = numbers ++ (8 ∷ [])

pub model-numbers : (p : Source) → Numbers (has numbers) (checks_of (entries p))
unfolding entries fields_part header_part column_part step_part marks_part fill_part checks_of
model-numbers p =
    let n = columns_in p in
    let m = steps_in p in
    let q = has numbers in
    fields-append q (H p n m) (C p n m ++ (S p n m ++ F p n m)) refl
    (fields-append q (C p n m) (S p n m ++ F p n m) (fields-each q (column_part p.column) n (λ i. refl))
    (fields-append q (S p n m) (F p n m) (fields-each q (step_part p.column p.cost p.marks n) m (λ j. fields-each q (marks_part p.column p.marks j) n (λ i. refl))) refl))

-- ---- a sheet judged by itself
module _ (s : List ℕ) where
  pub sheet-numbers : Numbers (has numbers) (sheet_checks s)
  unfolding sheet_checks
  sheet-numbers = numbers-append (has numbers) numbers refl (checks_of (entries (of_sheet s))) _ (model-numbers (of_sheet s)) refl

-- ---- the reader
module _ (s frame costs marks : List ℕ) where
  pub read-numbers : Numbers (has lent_numbers) (read_checks s frame costs marks)
  unfolding read_checks
  read-numbers = numbers-append (has lent_numbers) numbers refl (sheet_checks s) _ (sheet-numbers s) refl

  pub reader : Judged (λ (o : ReadOutcome). told_number o.answer) (λ n. read_outcome (Refused n) frame costs marks) (read_checks s frame costs marks)
      (read_outcome (Done (counts (columns_of s) (steps_of s))) (over (frame_of (of_sheet s)) frame) (over (costs_of (of_sheet s)) costs) (over (marks_of (of_sheet s)) marks)) (reading s frame costs marks)
  unfolding reading
  reader = judges _ _ lent_numbers refl (read_checks s frame costs marks) read-numbers _ refl refl

-- ---- the writer
module _ (p : Source) (sheet : List ℕ) where
  pub write-numbers : Numbers (has lent_numbers) (write_checks p sheet)
  unfolding write_checks
  write-numbers = numbers-append (has lent_numbers) numbers refl (checks_of (entries p)) _ (model-numbers p) refl

  pub writer : Judged (λ (o : Written). told_number o.answer) (λ n. written (Refused n) sheet) (write_checks p sheet)
      (written (Done (model_bytes (columns_in p) (steps_in p))) (over (sheet_of (entries p)) sheet)) (writing p sheet)
  unfolding writing
  writer = judges _ _ lent_numbers refl (write_checks p sheet) write-numbers _ refl refl
