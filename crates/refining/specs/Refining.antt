-- The run as code makes it: a look at the blocks that code holds, and the cuts in a lent list.
use Rattle.std.specs.Prelude.{ℕ, ◌*◌, ◌/◌, ◌≤◌, ◌<◌, ◌≡◌, true, ◌&&◌, not, cond, List, [], eqb, get_or, Ok, Err}
use Rattle.std.proofs.Math.Option.{some}
use Rattle.task.specs.declared.Block.{Block}
use Rattle.task.specs.declared.Step.{Step}
use Rattle.masks.specs.declared.Tables.{Tables}
use Rattle.cutting.specs.declared.Blocks.{Blocks}
use Rattle.task.specs.Loops.{over}
use Rattle.task.specs.Sizes.{limits, tenth, start_row}
use Rattle.task.specs.Task.{Task, start, step, block}
use Rattle.blocks.specs.Blocks.{accepted, blocks_of, common, is_empty, block_of}
use Rattle.blocks.specs.Flat.{blocks_in, cut_place, past, row_of}
use Rattle.masks.specs.Tables.{Tabled}
use Rattle.blocks.specs.declared.Cut.{Cut}
use Rattle.run.specs.Run as run
use Rattle.run.specs.Run.{Outcome, hopeless, planned, flaw, plan, no_plan, «open»}
use Rattle.run.specs.Listing.{listed}
use Rattle.walk.specs.Walking.{Found, path_steps}
use Rattle.refining.specs.declared.Seen.{Seen}
use Rattle.refining.specs.declared.Seen.TheVariants.{Hopeless, Planned, Flaw}
use Rattle.refining.specs.declared.Ended.{Ended}
use Rattle.refining.specs.declared.Ended.TheVariants.{Plan, NoPlan, Open}

-- the cuts were made: code holds their blocks, and the start lies in block a
pub record Parted (t : Task) (cs : List Cut) (columns : ℕ) (a : Block) (bs : Blocks) : Type 0 where
  pub ok : accepted t cs ≡ true
  pub blocks : blocks_in columns bs.count bs.sets ≡ blocks_of t cs
  pub from : block_of t (blocks_of t cs) (start t) ≡ some a

-- some task has these tables, and cuts with these blocks
pub record Ready (ts : Tables) (bs : Blocks) (a : Block) : Type 0 where
  pub task : Task
  pub cuts : List Cut
  pub tabled : Tabled task ts
  pub parted : Parted task cuts ts.shape.columns a bs

-- no cut was made: block 0 stands alone, and the start lies there
abbrev pub Uncut : Task → ℕ → Blocks → Type 0
Uncut t columns bs = Parted t [] columns (block 0) bs

-- some task has these tables, and block 0 stands alone
pub record First (ts : Tables) (bs : Blocks) : Type 0 where
  pub task : Task
  pub tabled : Tabled task ts
  pub parted : Uncut task ts.shape.columns bs

-- the start's block after a cut: the new one where the cut is of its block and wants the one position that stands in its column
unfoldable pub start_block : Block → Cut → ℕ → List ℕ → Block
start_block a c new tables =
    cond (eqb c.block.0 a.0 && not (is_empty (common (past tables (row_of start_row) c.column.0) c.wanted))) (block new) a

-- what a walk found, where the start's distance is that number
unfoldable pub seen_by : ℕ → Found → Seen
seen_by far (Ok n) = Planned n
seen_by far (Err c) = Flaw (far / tenth) c

-- what a look says, with the path that it left
unfoldable pub look_of : Seen → List Step → run.Look
look_of Hopeless path = hopeless
look_of (Planned n) path = planned (path_steps n path)
look_of (Flaw e c) path = flaw e c

-- how a run ended: its answer, with the path that it left, and its number of blocks
unfoldable pub answer_of : Ended → List Step → run.Answer
answer_of (Plan n b) path = plan (path_steps n path)
answer_of (NoPlan b) path = no_plan
answer_of (Open e b) path = «open» e

unfoldable pub blocks_told : Ended → ℕ
blocks_told (Plan n b) = b
blocks_told (NoPlan b) = b
blocks_told (Open e b) = b

-- a look ends a run that makes no further cut, with so many blocks
unfoldable pub end_by : Seen → ℕ → Ended
end_by Hopeless b = NoPlan b
end_by (Planned n) b = Plan n b
end_by (Flaw e c) b = Open e b

-- the path of a plan names steps that are there
abbrev pub Named : ℕ → ℕ → List Step → Type 0
Named steps n path = (n < limits.blocks) × ((i : ℕ) → i < n → (get_or path i (step 0)).0 < steps)

unfoldable pub KnownSeen : ℕ → Seen → List Step → Type 0
KnownSeen steps Hopeless path = Unit {0}
KnownSeen steps (Planned n) path = Named steps n path
KnownSeen steps (Flaw e c) path = Unit {0}

unfoldable pub KnownEnd : ℕ → Ended → List Step → Type 0
KnownEnd steps (Plan n b) path = Named steps n path
KnownEnd steps (NoPlan b) path = Unit {0}
KnownEnd steps (Open e b) path = Unit {0}

-- a list has a place of three values for each step of a plan
unfoldable pub StepsFit : Ended → ℕ → Type 0
StepsFit (Plan n b) long = n * 3 ≤ long
StepsFit (NoPlan b) long = Unit {0}
StepsFit (Open e b) long = Unit {0}

-- a run ended: its answer, its blocks, and its cuts in the lent list
pub record RunEnds (o : Outcome) (r : Ended) (steps : ℕ) (cuts₀ cuts : List ℕ) (path : List Step) : Type 0 where
  pub answer : answer_of r path ≡ o.answer
  pub blocks : blocks_told r ≡ run.block_count o
  pub list : cuts ≡ over (listed cut_place o.made) cuts₀
  pub known : KnownEnd steps r path
