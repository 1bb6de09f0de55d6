-- 01, "A run" and "Refusal numbers": a sheet and a room are judged, the run is made, and its cuts and rows are put into lent lists.
use Rattle.std.specs.Prelude.{ℕ, ◌-◌, ◌*◌, ◌<◌, ◌≡◌, List, [], ◌∷◌, ◌++◌, length, get_or}
use Rattle.task.specs.Loops.{over}
use Rattle.task.specs.Sizes.{limits}
use Rattle.task.specs.declared.Step.{Step}
use Rattle.task.specs.Task.{Task, step, cost_of, costs}
use Rattle.fields.specs.Judging.{Check, check, outside, refusal, unless_refused}
use Rattle.fields.specs.Refusals.{Answered, Done, Refused}
use Rattle.sheets.specs.ModelSheet.{sheet_checks}
use Rattle.sheets.specs.Holding.{task_on}
use Rattle.sheets.specs.LentTables.{too_few}
use Rattle.run.specs.Run as run
use Rattle.run.specs.Run.{plan, no_plan, «open», block_count, rows_of}
use Rattle.blocks.specs.Flat.{cut_place}
use Rattle.run.specs.Listing.{listed, row_place}
use Rattle.refining.specs.declared.Ended.{Ended}
use Rattle.refining.specs.declared.Ended.TheVariants as ended
use Rattle.running.specs.declared.Answer.{Answer}
use Rattle.running.specs.declared.Answer.TheVariants.{Plan, NoPlan, Open}

-- room not 1 to 256
abbrev pub room_check : ℕ → Check
room_check room = check 7 (outside 1 limits.blocks room)

-- 7, and then 8: cuts and rows each need room less 1 places
unfoldable pub room_checks : ℕ → List ℕ → List ℕ → List Check
room_checks room cuts rows = room_check room ∷ too_few ((room - 1) * 3) cuts ∷ too_few ((room - 1) * 3) rows ∷ []

-- a run judges the sheet, then 7, then 8
unfoldable pub run_checks : List ℕ → ℕ → List ℕ → List ℕ → List Check
run_checks s room cuts rows = sheet_checks s ++ room_checks room cuts rows

-- an answer in 01's values: a plan has its cost and its number of steps, "open" the start's estimate, and each the number of blocks
unfoldable pub returned : Task → ℕ → run.Answer → Answer
returned t blocks (plan ss) = Plan (costs t ss) (length ss) blocks
returned t blocks no_plan = NoPlan blocks
returned t blocks («open» e) = Open e blocks

-- an answer's refusal number; 0 for none
unfoldable pub number : Answered Answer → ℕ
number (Done a) = 0
number (Refused n) = n

-- an answer or a refusal, and the two lists at exit
pub record RunOutcome : Type 0 where
  pub answer : Answered Answer
  pub cuts : List ℕ
  pub rows : List ℕ

abbrev pub run_outcome : Answered Answer → List ℕ → List ℕ → RunOutcome
run_outcome a cuts rows = record { answer = a; cuts = cuts; rows = rows }

-- a run that is made: its cuts, and for a plan its rows; places past the last one used stay untouched
unfoldable pub made : Task → run.Outcome → List ℕ → List ℕ → RunOutcome
made t o cuts rows =
    run_outcome (Done (returned t (block_count o) o.answer)) (over (listed cut_place o.made) cuts) (over (listed row_place (rows_of t o.answer)) rows)

-- a refusal returns only its number and changes nothing lent
unfoldable pub running : List ℕ → ℕ → List ℕ → List ℕ → RunOutcome
running s room cuts rows =
    unless_refused (refusal (run_checks s room cuts rows)) (made (task_on s) (run.run (task_on s) room) cuts rows) (λ n. run_outcome (Refused n) cuts rows)

-- what `run` promises, whatever is passed: the answer and the two lists at exit
abbrev pub Runs : (s : List ℕ) (room : ℕ) (cuts rows : List ℕ) → Answered Answer → (cuts' rows' : List ℕ) → Type 0
Runs s room cuts rows r cuts' rows' = run_outcome r cuts' rows' ≡ running s room cuts rows

-- ---- what code knows of a path

-- its first n steps cost what a table says
abbrev pub Costed : Task → ℕ → List Step → List ℕ → Type 0
Costed t n path cost = (i : ℕ) → i < n → cost_of t (get_or path i (step 0)) ≡ get_or cost (get_or path i (step 0)).0 0

-- and so do the steps of a plan
unfoldable pub PathCosts : Task → Ended → List Step → List ℕ → Type 0
PathCosts t (ended.Plan n b) path cost = Costed t n path cost
PathCosts t (ended.NoPlan b) path cost = Unit {0}
PathCosts t (ended.Open e b) path cost = Unit {0}
