-- Writing a cut sheet from a model sheet and a lent list of cuts: the answer, and what the lent bytes then hold.
use Rattle.std.specs.Prelude.{ℕ, ◌+◌, ◌≡◌, List, length}
use Rattle.task.specs.Loops.{over}
use Rattle.fields.specs.Judging.{refusal, unless_refused}
use Rattle.fields.specs.Refusals.{Answered, Done, Refused}
use Rattle.cut_sheets.specs.CutPart.{cut_bytes}
use Rattle.cut_sheets.specs.CutSheet.{cut_sheet_of, write_cuts_checks}

-- an answer's refusal number; 0 for none
unfoldable pub number : Answered ℕ → ℕ
number (Done n) = 0
number (Refused n) = n

pub record WriteCutsOutcome : Type 0 where
  pub answer : Answered ℕ
  pub sheet : List ℕ

abbrev pub write_cuts_outcome : Answered ℕ → List ℕ → WriteCutsOutcome
write_cuts_outcome a sheet = record { answer = a; sheet = sheet }

-- a refusal returns only its number and changes nothing lent; else the bytes are the sheet, and those past it stay
unfoldable pub writing_cuts : List ℕ → ℕ → List ℕ → List ℕ → WriteCutsOutcome
writing_cuts model count cuts sheet =
    unless_refused (refusal (write_cuts_checks model count cuts sheet))
    (write_cuts_outcome (Done (length model + cut_bytes count)) (over (cut_sheet_of model count cuts) sheet))
    (λ n. write_cuts_outcome (Refused n) sheet)

-- what `write_cuts` promises, whatever is passed: the answer, which is the number of bytes, and the bytes at exit
abbrev pub WritesCuts : (model : List ℕ) (count : ℕ) (cuts sheet : List ℕ) → Answered ℕ → (sheet' : List ℕ) → Type 0
WritesCuts model count cuts sheet r sheet' = write_cuts_outcome r sheet' ≡ writing_cuts model count cuts sheet
