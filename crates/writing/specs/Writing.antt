-- Writing a model sheet from lent tables: the answer (of how many bytes the sheet is), and what the lent bytes then hold.
use Rattle.std.specs.Prelude.{ℕ, ◌≡◌, List}
use Rattle.task.specs.Loops.{over}
use Rattle.fields.specs.Judging.{refusal, unless_refused}
use Rattle.fields.specs.Packing.{sheet_of}
use Rattle.sheets.specs.ModelSheet.{Source, columns_in, steps_in, entries, model_bytes}
use Rattle.sheets.specs.LentTables.{of_tables, write_checks}
use Rattle.sheets.specs.declared.source.ModelTables.{ModelTables}
use Rattle.fields.specs.Refusals.{Answered, Done, Refused}

-- the fields of tables that are lent as one
abbrev pub lent : ModelTables → Source
lent t = of_tables t.shape.columns t.shape.steps t.frame.now t.costs.now t.marks.now

pub record WriteOutcome : Type 0 where
  pub answer : Answered ℕ
  pub sheet : List ℕ

abbrev pub write_outcome : Answered ℕ → List ℕ → WriteOutcome
write_outcome a sheet = record { answer = a; sheet = sheet }

-- a refusal returns only its number and changes nothing lent; else the bytes are the sheet, and those past it stay
unfoldable pub writing : Source → List ℕ → WriteOutcome
writing p sheet =
    unless_refused (refusal (write_checks p sheet))
    (write_outcome (Done (model_bytes (columns_in p) (steps_in p))) (over (sheet_of (entries p)) sheet))
    (λ n. write_outcome (Refused n) sheet)

-- what `write_model` promises, whatever is passed: the answer and the bytes at exit
abbrev pub WritesModel : (columns steps : ℕ) (frame costs marks sheet : List ℕ) → Answered ℕ → (sheet' : List ℕ) → Type 0
WritesModel columns steps frame costs marks sheet r sheet' = write_outcome r sheet' ≡ writing (of_tables columns steps frame costs marks) sheet
