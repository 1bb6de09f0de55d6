-- The walk of the real states along the trace as code does it, on masks.
use Rattle.std.specs.Prelude.{true, cond, List, ◌≡◌, ℕ, zero, suc, ◌+◌, ◌%◌, ◌<◌, get_or, set, Result, Ok, Err, Some, None}
use Rattle.std.specs.Prelude as prelude
use Rattle.std.proofs.Math.Option.{Option, none, some}
use Rattle.task.specs.declared.Step.{Step}
use Rattle.task.specs.declared.Block.{Block}
use Rattle.masks.specs.declared.Tables.{Tables as CodeTables}
use Rattle.cutting.specs.declared.Blocks.{Blocks as CodeBlocks}
use Rattle.trace.specs.declared.Hop.{Hop as CodeHop}
use Rattle.task.specs.Loops.{tab}
use Rattle.task.specs.Sizes.{limits, tenth}
use Rattle.task.specs.Task.{Task, State, Tenths, step, start}
use Rattle.blocks.specs.declared.Cut.{Cut}
use Rattle.blocks.specs.Blocks.{PositionSet, block_at, in_block, accepted, blocks_of}
use Rattle.blocks.specs.Flat.{blocks_in}
use Rattle.distances.specs.Distances.{Distance, Hop, far_of, distances}
use Rattle.blocks.specs.Masks.{rows_from, lands_in, goals_in}
use Rattle.masks.specs.Tables.{Tabled}
use Rattle.run.specs.Run.{Look, planned, flaw, trace, walk, look_walk}
use Rattle.trace.specs.Hops.{fits_by, next_by, Holds, blocks_held}
use Rattle.standing.specs.Standing.{takes_by, goal_at_end, lands_by, taken_by, back_row, cut_by, at_start}

-- ---- the walk

-- what a walk found: a plan of so many hops, or the cut of a flaw
abbrev pub Found : Type 0
Found = Result ℕ Cut

-- what one hop came to: the hop, none where the trace ended before it, or the cut of a flaw
abbrev pub Turn : Type 0
Turn = Result (prelude.Option CodeHop) Cut

-- what a walk found, where it stands then, and its path
pub record Followed : Type 0 where
  pub found : Found
  pub here : List PositionSet
  pub path : List Step

-- at the end: a goal state, or a goal flaw
unfoldable pub arrive_by : ℕ → List ℕ → List ℕ → ℕ → Block → List ℕ → Found
arrive_by columns goals sets i a here = cond (goal_at_end columns goals here) (Ok i) (Err (cut_by columns sets here a goals))

-- one hop: a step that can't be taken is a flaw, and so is one that lands outside the next block, before the next step's need is judged
unfoldable pub turn_on : ℕ → List ℕ → List ℕ → List ℕ → Block → List ℕ → Option Hop → Turn
turn_on columns needs lands sets a here none = Ok None
turn_on columns needs lands sets a here (some h) =
    cond (takes_by columns needs here h.step.0)
    (cond (lands_by columns lands sets here h.step.0 h.to.0)
    (Ok (Some (record { step = h.step; block = h.to })))
    (Err (cut_by columns sets here a (back_row needs lands sets h.step.0 h.to.0))))
    (Err (cut_by columns sets here a (rows_from h.step.0 needs)))

-- where the state stands after it
unfoldable pub stands_after : ℕ → List ℕ → List ℕ → Turn → List ℕ
stands_after columns lands here (Ok (Some h)) = taken_by columns lands here h.step.0
stands_after columns lands here (Ok None) = here
stands_after columns lands here (Err c) = here

abbrev pub outcome : Found → List PositionSet → List Step → Followed
outcome r here path = record { found = r; here = here; path = path }

module _ (columns steps count : ℕ) (needs lands costs sets dist : List ℕ) where
  unfoldable pub turn_by : Block → List ℕ → Turn
  turn_by a here = turn_on columns needs lands sets a here (next_by steps count (fits_by columns needs lands costs sets dist a.0))

module _ (columns steps count : ℕ) (needs lands goals costs sets dist : List ℕ) where
  -- n hops at most from block a, after i hops
  unfoldable pub follow_by : ℕ → ℕ → Block → List ℕ → List Step → Followed
  follow_by zero i a here path = outcome (arrive_by columns goals sets i a here) here path
  follow_by (suc n) i a here path =
      elim (turn_by columns steps count needs lands costs sets dist a here) [
        | Ok o ↦ elim o [
          | Some h ↦ follow_by n (i + 1) h.block (taken_by columns lands here h.step.0) (set path i h.step)
          | None ↦ outcome (arrive_by columns goals sets i a here) here path
        ]
        | Err c ↦ outcome (Err c) here path
      ]

-- ---- the same on code's tables and blocks

abbrev pub turn_in : CodeTables → CodeBlocks → (dist : List ℕ) → Block → List ℕ → Turn
turn_in ts bs dist a here = turn_by ts.shape.columns ts.shape.steps bs.count ts.rows (lands_in ts.rows) ts.costs bs.sets dist a here

-- from the start, in block a, for as many hops as its distance has steps
abbrev pub follow_from : CodeTables → CodeBlocks → (dist : List ℕ) → Block → List Step → Followed
follow_from ts bs dist a path =
    follow_by ts.shape.columns ts.shape.steps bs.count ts.rows (lands_in ts.rows) (goals_in ts.rows) ts.costs bs.sets dist (get_or dist a.0 0 % tenth) 0 a
    (at_start ts.rows)
    path

-- what was found and the path are those of a walk
pub record Says (r : Found) (l : List Step) (w : Followed) : Type 0 where
  pub found : r ≡ w.found
  pub path : l ≡ w.path

-- ---- what it means

unfoldable pub step_in : List Step → ℕ → Step
step_in path i = get_or path i (step 0)

-- the first n steps of a path
unfoldable pub path_steps : ℕ → List Step → List Step
path_steps n path = tab n (step_in path)

-- what was found, where the start's estimate is that cost
unfoldable pub seen : Tenths → Found → List Step → Look
seen cost (Ok n) path = planned (path_steps n path)
seen cost (Err c) path = flaw cost c

-- the path of a plan names steps that are there
unfoldable pub Known : ℕ → Found → List Step → Type 0
Known steps r path = (n : ℕ) → r ≡ Ok n → (n < limits.blocks) × ((i : ℕ) → i < n → (get_or path i (step 0)).0 < steps)

-- a walk begins in the start, which lies in block a, with the tables, the blocks and the distances of a task
pub record Begins (t : Task) (cs : List Cut) (d : Distance) (ts : CodeTables) (bs : CodeBlocks) (a : Block) (dist : List ℕ) : Type 0 where
  pub tabled : Tabled t ts
  pub cuts : accepted t cs ≡ true
  pub blocks : blocks_held ts.shape.columns bs ≡ blocks_of t cs
  pub dists : Holds (distances t (blocks_held ts.shape.columns bs)) bs.count dist
  pub inside : in_block t (start t) (block_at (blocks_held ts.shape.columns bs) a) ≡ true
  pub far : far_of (distances t (blocks_held ts.shape.columns bs)) a ≡ some d

-- the walk of 01 along the trace of 01
unfoldable pub walked : Task → ℕ → ℕ → List ℕ → State → Block → Distance → Look
walked t columns count sets x a d =
    let bs = blocks_in columns count sets in
    let hs = trace t bs (distances t bs) d.steps a in
    look_walk t bs d hs (walk t bs x a hs)
