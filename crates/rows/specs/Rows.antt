-- 01, "A run" and "Places and their forms": the rows of the change sheet in a lent list of rows.
use Rattle.std.specs.Prelude.{ℕ, ◌+◌, ◌*◌, ◌/◌, ◌≡◌, Bool, cond, List, ltb, length, get_or}
use Rattle.task.specs.Loops.{all, tab, over}
use Rattle.task.specs.Sizes.{limits}
use Rattle.task.specs.Task.{step}
use Rattle.fields.specs.Judging.{Check, refusal, unless_refused}
use Rattle.fields.specs.Refusals.{Answered, Done, Refused}
use Rattle.sheets.specs.Holding.{task_on}
use Rattle.run.specs.declared.Row.{Row}
use Rattle.run.specs.Run as run
use Rattle.run.specs.Run.{block_count, rows_of}
use Rattle.blocks.specs.Flat.{cut_place}
use Rattle.run.specs.Listing.{listed, row_place}
use Rattle.running.specs.declared.Answer.{Answer}
use Rattle.running.specs.Running.{run_checks, returned}

-- ---- rows put from a list of values, three for each: step, tenths, tenths left

unfoldable pub row_in : List ℕ → ℕ → Row
row_in vs i = record { step = step (get_or vs (i * 3) 0); tenths = get_or vs (i * 3 + 1) 0; left = get_or vs (i * 3 + 2) 0 }

-- the first n rows each name a step
unfoldable pub steps_named : List ℕ → ℕ → Bool
steps_named vs n = all n (λ i. ltb (get_or vs (i * 3) 0) limits.steps)

-- n, where n rows have places and n rows' values are there, each with a step; else none
unfoldable pub fitting : ℕ → List ℕ → ℕ → ℕ
fitting places vs n = cond (ltb places n) 0 (cond (ltb (length vs / 3) n) 0 (cond (steps_named vs n) n 0))

pub record Filled : Type 0 where
  pub count : ℕ
  pub rows : List Row

abbrev pub filled : ℕ → List Row → Filled
filled n rows = record { count = n; rows = rows }

-- n rows or none, over the front of the list; places past the last one used stay untouched
unfoldable pub filling : List Row → List ℕ → ℕ → Filled
filling rows vs n = let m = fitting (length rows) vs n in filled m (over (tab m (row_in vs)) rows)

-- what `put_rows` promises, whatever is passed: how many rows were put, and the list at exit
abbrev pub PutsRows : (rows : List Row) (values : List ℕ) (n : ℕ) → ℕ → (rows' : List Row) → Type 0
PutsRows rows values n r rows' = filled r rows' ≡ filling rows values n

-- ---- a run whose rows are lent so

-- a run's checks, of the rows as values
abbrev pub row_checks : List ℕ → ℕ → List ℕ → List Row → List Check
row_checks s room cuts rows = run_checks s room cuts (listed row_place rows)

pub record RowRunOutcome : Type 0 where
  pub answer : Answered Answer
  pub cuts : List ℕ
  pub rows : List Row

abbrev pub row_run_outcome : Answered Answer → List ℕ → List Row → RowRunOutcome
row_run_outcome a cuts rows = record { answer = a; cuts = cuts; rows = rows }

-- the answer, the cuts over the front of one list and a plan's rows over that of the other; a refusal changes nothing lent
unfoldable pub row_run : List ℕ → ℕ → List ℕ → List Row → RowRunOutcome
row_run s room cuts rows =
    let t = task_on s in
    let o = run.run t room in
    unless_refused (refusal (row_checks s room cuts rows))
    (row_run_outcome (Done (returned t (block_count o) o.answer)) (over (listed cut_place o.made) cuts) (over (rows_of t o.answer) rows))
    (λ n. row_run_outcome (Refused n) cuts rows)

-- what `run` promises, whatever is passed: the answer and the two lists at exit
abbrev pub RowRuns : (s : List ℕ) (room : ℕ) (cuts : List ℕ) (rows : List Row) → Answered Answer → (cuts' : List ℕ) (rows' : List Row) → Type 0
RowRuns s room cuts rows r cuts' rows' = row_run_outcome r cuts' rows' ≡ row_run s room cuts rows
