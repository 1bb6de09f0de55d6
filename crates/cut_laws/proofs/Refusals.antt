-- 01, "Refusal numbers", of rebuilding and of writing cuts: a number is returned exactly when its row applies and no earlier check does, and a
-- refusal leaves everything lent as found. The checks, in 01's order, are `rebuild_checks` and `write_cuts_checks`.
use Prim.Native.Nat.{ℕ, ◌+◌}
use mathlib.Core.Path.{refl, subst}
use mathlib.Core.List.{List, [], ◌∷◌, ◌++◌, append-nil}
use lib.ListN.{length}
use Rattle.task.specs.Loops.{over}
use Rattle.task.specs.Task.{Task}
use Rattle.fields.specs.Judging.{checks_of}
use Rattle.fields.specs.Refusals.{Done, Refused}
use Rattle.fields.proofs.ExactLaws.{has, Numbers, fields-append, fields-each, numbers-append, Judged, judges}
use Rattle.sheets.specs.ModelSheet.{fill_part, of_sheet, entries, sheet_checks}
use Rattle.sheets.specs.Holding.{task_on}
use Rattle.sheet_laws.proofs.Refusals.{numbers, model-numbers, sheet-numbers}
use Rattle.cut_sheets.specs.CutPart.{CutSource, cut_header, cut_part, cut_fields, cut_entries, of_cut_part, count_of, cut_bytes, cut_checks}
use Rattle.cut_sheets.specs.CutSheet.{tail_of, cut_sheet_checks, cut_list, rebuild_checks, of_cuts, cut_sheet_of, given_checks, write_cuts_checks}
use Rattle.cut_sheets.proofs.CutPartLaws.{H, C, F}
use Rattle.cut_reading.specs.Rebuilding.{RebuildOutcome, rebuild_outcome, number, rebuilding}
use Rattle.cut_writing.specs.CutWriting.{WriteCutsOutcome as Written, write_cuts_outcome as written, number as write_number, writing_cuts}

-- which numbers the fields of a cut part can get; both sheets; whoever rebuilds cuts, and whoever writes them
abbrev pub part_numbers : List ℕ
part_numbers = 1 ∷ 2 ∷ 6 ∷ 9 ∷ []

abbrev pub sheets_numbers : List ℕ
sheets_numbers = numbers ++ (10 ∷ part_numbers)

abbrev pub rebuild_numbers : List ℕ
rebuild_numbers = sheets_numbers ++ (8 ∷ [])

abbrev pub cut_numbers : List ℕ
cut_numbers = numbers ++ (part_numbers ++ (8 ∷ []))

part-numbers : (t : Task) (p : CutSource) → Numbers (has part_numbers) (checks_of (cut_entries t p))
unfolding cut_entries cut_fields cut_header cut_part fill_part checks_of
part-numbers t p =
    let n = p.count.value in
    let q = has part_numbers in
    fields-append q (H t p n) (C t p n ++ F t p n) refl (fields-append q (C t p n) (F t p n) (fields-each q (cut_part t p.cut) n (λ i. refl)) refl)

-- ---- both sheets
pub sheets-numbers : (model s : List ℕ) → Numbers (has sheets_numbers) (cut_sheet_checks model s)
unfolding cut_sheet_checks cut_checks
sheets-numbers model s =
    let q = has sheets_numbers in
    numbers-append q numbers refl (sheet_checks model) _ (sheet-numbers model)
    (numbers-append q numbers refl (checks_of (entries (of_sheet s))) _ (model-numbers (of_sheet s))
    (numbers-append q part_numbers refl (checks_of (cut_entries (task_on model) (of_cut_part (tail_of s)))) _ (part-numbers (task_on model) (of_cut_part (tail_of s))) refl))

-- ---- rebuilding
module _ (model s cuts : List ℕ) where
  pub rebuild-numbers : Numbers (has rebuild_numbers) (rebuild_checks model s cuts)
  unfolding rebuild_checks
  rebuild-numbers = numbers-append (has rebuild_numbers) sheets_numbers refl (cut_sheet_checks model s) _ (sheets-numbers model s) refl

  pub rebuilder : Judged (λ (o : RebuildOutcome). number o.answer) (λ n. rebuild_outcome (Refused n) cuts) (rebuild_checks model s cuts) (rebuild_outcome (Done (count_of (tail_of s))) (over (cut_list s) cuts)) (rebuilding model s cuts)
  unfolding rebuilding number
  rebuilder = judges _ _ rebuild_numbers refl (rebuild_checks model s cuts) rebuild-numbers _ refl refl

-- ---- writing cuts
module _ (model : List ℕ) (count : ℕ) (cuts sheet : List ℕ) where
  pub write-numbers : Numbers (has cut_numbers) (write_cuts_checks model count cuts sheet)
  unfolding write_cuts_checks given_checks
  write-numbers =
      let q = has cut_numbers in
      let part = checks_of (cut_entries (task_on model) (of_cuts count cuts)) in
      let n = numbers-append q part_numbers refl part [] (part-numbers (task_on model) (of_cuts count cuts)) refl in
      numbers-append q cut_numbers refl (given_checks model count cuts) _
      (numbers-append q numbers refl (sheet_checks model) part (sheet-numbers model) (subst (Numbers q) (append-nil part) n)) refl

  pub writer : Judged (λ (o : Written). write_number o.answer) (λ n. written (Refused n) sheet) (write_cuts_checks model count cuts sheet)
      (written (Done (length model + cut_bytes count)) (over (cut_sheet_of model count cuts) sheet)) (writing_cuts model count cuts sheet)
  unfolding writing_cuts write_number
  writer = judges _ _ cut_numbers refl (write_cuts_checks model count cuts sheet) write-numbers _ refl refl
