-- 01, "The planner's boundary": the run and the question for the historian, which passes lists of bytes.
use Rattle.std.specs.Prelude.{ℕ, ◌+◌, ◌*◌, ◌^◌, ◌≡◌, List}
use Rattle.task.specs.Loops.{over}
use Rattle.task.specs.Task.{Task}
use Rattle.fields.specs.Judging.{Check, refusal, unless_refused}
use Rattle.fields.specs.Refusals.{Answered, Done, Refused}
use Rattle.values.specs.Values.{bytes_of, values_on}
use Rattle.sheets.specs.Holding.{task_on}
use Rattle.run.specs.Run as run
use Rattle.run.specs.Run.{block_count, rows_of}
use Rattle.blocks.specs.Flat.{cut_place}
use Rattle.run.specs.Listing.{listed, row_place}
use Rattle.running.specs.declared.Answer.{Answer}
use Rattle.running.specs.declared.Answer.TheVariants.{Plan, NoPlan, Open}
use Rattle.running.specs.Running.{run_checks, returned}
use Rattle.cut_sheets.specs.CutSheet.{cuts_of}
use Rattle.asking.specs.Question.{question_checks, estimates_of}

-- ---- a run

-- kind, blocks, steps and value in one number
unfoldable pub answer_number : Answered Answer → ℕ
answer_number (Refused n) = n
answer_number (Done (Plan cost steps blocks)) = 1 * 2 ^ 56 + blocks * 2 ^ 44 + steps * 2 ^ 32 + cost
answer_number (Done (NoPlan blocks)) = 2 * 2 ^ 56 + blocks * 2 ^ 44
answer_number (Done (Open estimate blocks)) = 3 * 2 ^ 56 + blocks * 2 ^ 44 + estimate

-- a run's checks, of the values in the lists of bytes: bytes short of a whole value are none
abbrev pub entry_checks : List ℕ → ℕ → List ℕ → List ℕ → List Check
entry_checks s room cuts rows = run_checks s room (values_on cuts) (values_on rows)

pub record RunEntryOutcome : Type 0 where
  pub answer : ℕ
  pub cuts : List ℕ
  pub rows : List ℕ

abbrev pub run_entry_outcome : ℕ → List ℕ → List ℕ → RunEntryOutcome
run_entry_outcome a cuts rows = record { answer = a; cuts = cuts; rows = rows }

-- a run that is made: the bytes of its cuts, and for a plan those of its rows, over the front of the lists
unfoldable pub made_bytes : Task → run.Outcome → List ℕ → List ℕ → RunEntryOutcome
made_bytes t o cuts rows =
    run_entry_outcome (answer_number (Done (returned t (block_count o) o.answer))) (over (bytes_of (listed cut_place o.made)) cuts)
    (over (bytes_of (listed row_place (rows_of t o.answer))) rows)

-- a refusal returns only its number and changes nothing lent
unfoldable pub run_entry : List ℕ → ℕ → List ℕ → List ℕ → RunEntryOutcome
run_entry s room cuts rows =
    unless_refused (refusal (entry_checks s room cuts rows)) (made_bytes (task_on s) (run.run (task_on s) room) cuts rows) (λ n. run_entry_outcome n cuts rows)

-- what `elhavir_run` promises, whatever is passed: the answer number and the two lists at exit
abbrev pub EntryRuns : (s : List ℕ) (room : ℕ) (cuts rows : List ℕ) → ℕ → (cuts' rows' : List ℕ) → Type 0
EntryRuns s room cuts rows r cuts' rows' = run_entry_outcome r cuts' rows' ≡ run_entry s room cuts rows

-- ---- a question

-- a question's checks, of the values in the list of bytes
abbrev pub ask_checks : List ℕ → List ℕ → List ℕ → List ℕ → List Check
ask_checks model s states estimates = question_checks model s states (values_on estimates)

pub record AskEntryOutcome : Type 0 where
  pub answer : ℕ
  pub estimates : List ℕ

abbrev pub ask_entry_outcome : ℕ → List ℕ → AskEntryOutcome
ask_entry_outcome a estimates = record { answer = a; estimates = estimates }

-- 0 and the bytes of one estimate for each state; or a refusal
unfoldable pub ask_entry : List ℕ → List ℕ → List ℕ → List ℕ → AskEntryOutcome
ask_entry model s states estimates =
    unless_refused (refusal (ask_checks model s states estimates))
    (ask_entry_outcome 0 (over (bytes_of (estimates_of (task_on model) (cuts_of s) states)) estimates))
    (λ n. ask_entry_outcome n estimates)

-- what `elhavir_question` promises, whatever is passed: the answer number and the list at exit
abbrev pub EntryAsks : (model s states estimates : List ℕ) → ℕ → (estimates' : List ℕ) → Type 0
EntryAsks model s states estimates r estimates' = ask_entry_outcome r estimates' ≡ ask_entry model s states estimates
