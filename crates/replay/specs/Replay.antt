-- 02, order 7: "Given a model's two sheets and the recorded list of up to 255 step numbers, taken from its start, give for each row the tenths paid, the
-- ground won and the detour." Row i here is counted from 0.
use Rattle.std.specs.Prelude.{ℕ, zero, suc, ◌+◌, ◌*◌, ◌≡◌, Bool, true, false, not, ◌&&◌, cond, List, [], ◌∷◌, ◌++◌, eqb, ltb, ℤ, pos, ◌-ℤ◌, length, get_or}
use Rattle.std.specs.Prelude.{Result, Ok, Err}
use Rattle.std.proofs.Math.Option
use Rattle.std.proofs.Math.Option.{Option, none, some, map}
use Rattle.task.specs.declared.Step.{Step}
use Rattle.task.specs.Loops.{all, first, when, over}
use Rattle.task.specs.Sizes.{limits}
use Rattle.task.specs.Task.{Task, State, Tenths, step, step_count, cost_of, start, can_take, taken}
use Rattle.fields.specs.Judging.{Check, check, refusal, each, unless_refused}
use Rattle.sheets.specs.LentTables.{too_few}
use Rattle.sheets.specs.Holding.{task_on}
use Rattle.blocks.specs.declared.Cut.{Cut}
use Rattle.distances.specs.Distances.{estimate}
use Rattle.cut_sheets.specs.CutSheet.{cut_sheet_checks, cuts_of}
use Rattle.fields.specs.Refusals as refusals
use Rattle.replay.specs.declared.ReplayRefusal.{ReplayRefusal}
use Rattle.replay.specs.declared.ReplayRefusal.TheVariants as why

-- ---- the states along a log

-- the step of row i
unfoldable pub step_at : List ℕ → ℕ → Step
step_at log i = step (get_or log i 0)

-- the state before row i, which is the state after the row before it
unfoldable pub before : Task → List ℕ → ℕ → State
before t log zero = start t
before t log (suc i) = taken t (step_at log i) (before t log i)

-- an unknown step, or one that cannot be taken
unfoldable pub bad_at : Task → List ℕ → ℕ → Bool
bad_at t log i = not (ltb (step_at log i).0 (step_count t) && can_take t (step_at log i) (before t log i))

-- the first such row, counted from 1; 0 where there is none
unfoldable pub bad_row : Task → List ℕ → ℕ
bad_row t log = Option.get_or (first (length log) (λ i. when (bad_at t log i) (i + 1))) 0

-- ---- the figures of a row

-- the tenths paid
unfoldable pub paid : Task → List ℕ → ℕ → Tenths
paid t log i = cost_of t (step_at log i)

unfoldable pub has_way : Option Tenths → Bool
has_way none = false
has_way (some e) = true

module _ (t : Task) (cs : List Cut) (log : List ℕ) where
  -- the estimate before row i; none is "no way"
  unfoldable pub far : ℕ → Option Tenths
  far i = estimate t cs (before t log i)

  -- the states before and after a row have a way
  unfoldable pub on_way : ℕ → Bool
  on_way i = has_way (far i) && has_way (far (suc i))

  -- "a row whose state before or after has no way shows both figures as a dash, and so does every row after it"
  unfoldable pub dashed : ℕ → Bool
  dashed i = not (all (suc i) on_way)

  -- the estimate before less the estimate after
  unfoldable pub difference : ℕ → ℤ
  difference i = pos (Option.get_or (far i) 0) -ℤ pos (Option.get_or (far (suc i)) 0)

  -- ground won, and detour: paid less won. A dash is none
  unfoldable pub won : ℕ → Option ℤ
  won i = cond (dashed i) none (some (difference i))

  unfoldable pub detour : ℕ → Option ℤ
  detour i = map (λ w. pos (paid t log i) -ℤ w) (won i)

-- ---- the list of rows

-- a dash is the mark for "no way"
unfoldable pub dash : ℤ
dash = pos limits.no_way

unfoldable pub figure : Option ℤ → ℤ
figure none = dash
figure (some z) = z

-- a row is three values: paid, won, detour
unfoldable pub row_values : Task → List Cut → List ℕ → ℕ → List ℤ
row_values t cs log i = pos (paid t log i) ∷ figure (won t cs log i) ∷ figure (detour t cs log i) ∷ []

unfoldable pub row_list : Task → List Cut → List ℕ → List ℤ
row_list t cs log = each (length log) (row_values t cs log)

-- ---- a replay

-- the two sheets as for a question, then 15, then 14, and 8 is last: one row for each step
unfoldable pub log_checks : Task → List ℕ → List Check
log_checks t log = check 15 (ltb limits.log (length log)) ∷ check 14 (not (eqb (bad_row t log) 0)) ∷ []

unfoldable pub replay_checks : {A : Type 0} → List ℕ → List ℕ → List ℕ → List A → List Check
replay_checks model s log rows = cut_sheet_checks model s ++ (log_checks (task_on model) log ++ (too_few (length log * 3) rows ∷ []))

-- an answer: how many rows were written; the first row, counted from 1, whose step is unknown or cannot be taken; or any other refusal, by its number
pub data Replayed : Type 0 where
  Rows : ℕ → Replayed
  Stopped : ℕ → Replayed
  Refused : ℕ → Replayed

-- what code answers
abbrev pub told_replay : Result ℕ ReplayRefusal → Replayed
told_replay (Ok n) = Rows n
told_replay (Err (why.Judged r)) = Refused (refusals.number r)
told_replay (Err (why.Step row)) = Stopped row

-- an answer's refusal number, 0 for none; the row that 14 comes with; and how many rows were written
unfoldable pub number : Replayed → ℕ
number (Rows n) = 0
number (Stopped row) = 14
number (Refused n) = n

unfoldable pub row_named : Replayed → ℕ
row_named (Rows n) = 0
row_named (Stopped row) = row
row_named (Refused n) = 0

unfoldable pub row_count : Replayed → ℕ
row_count (Rows n) = n
row_count (Stopped row) = 0
row_count (Refused n) = 0

-- 14 comes with the first such row
unfoldable pub refused : Task → List ℕ → ℕ → Replayed
refused t log n = cond (eqb n 14) (Stopped (bad_row t log)) (Refused n)

pub record ReplayOutcome : Type 0 where
  pub answer : Replayed
  pub rows : List ℤ

abbrev pub replay_outcome : Replayed → List ℤ → ReplayOutcome
replay_outcome a rows = record { answer = a; rows = rows }

-- a refusal leaves the list as found; else it has a row for each step, and places past the last row stay
unfoldable pub replaying : List ℕ → List ℕ → List ℕ → List ℤ → ReplayOutcome
replaying model s log rows =
    unless_refused (refusal (replay_checks model s log rows))
    (replay_outcome (Rows (length log)) (over (row_list (task_on model) (cuts_of s) log) rows))
    (λ n. replay_outcome (refused (task_on model) log n) rows)

-- what `replay` promises, whatever is passed: the answer and the list at exit
abbrev pub Replays : (model s log : List ℕ) (rows : List ℤ) → Replayed → (rows' : List ℤ) → Type 0
Replays model s log rows r rows' = replay_outcome r rows' ≡ replaying model s log rows
