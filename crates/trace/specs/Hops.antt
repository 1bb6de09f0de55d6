-- The search for the next hop as code does it, on the numbers of the distances.
use Rattle.std.specs.Prelude.{Bool, ◌&&◌, not, List, ◌≡◌, ℕ, ◌+◌, ◌*◌, ◌<◌, eqb, ltb, get_or, Some, None}
use Rattle.std.specs.Prelude as prelude
use Rattle.std.proofs.Math.Option.{Option, none, some}
use Rattle.task.specs.Loops.{first, when}
use Rattle.task.specs.declared.Block.{Block}
use Rattle.task.specs.Task.{Task, Accepted, step, block}
use Rattle.task.specs.Sizes.{tenth}
use Rattle.blocks.specs.Blocks.{Blocks}
use Rattle.blocks.specs.Flat.{blocks_in}
use Rattle.blocks.specs.Masks.{lands_in, leads_by}
use Rattle.masks.specs.Tables.{TablesOf}
use Rattle.masks.specs.declared.Tables.{Tables as CodeTables}
use Rattle.cutting.specs.declared.Blocks.{Blocks as CodeBlocks}
use Rattle.distances.specs.Distances.{Distance, Hop, Table, far_of, distances}
use Rattle.arcs.specs.Arcs.{fits_in}
use Rattle.settling.specs.Coded.{coded_at}
use Rattle.run.specs.Run.{next_hop}
use Rattle.trace.specs.declared.Hop.{Hop as CodeHop}

-- cost and step count, plus this step, give the block's own
unfoldable pub keeps_in : ℕ → ℕ → ℕ → Bool
keeps_in own w next = eqb own (next + (w * tenth + 1))

-- step s leads from block a to block b and keeps the distance
unfoldable pub fits_by : ℕ → List ℕ → List ℕ → List ℕ → List ℕ → List ℕ → ℕ → ℕ → ℕ → Bool
fits_by columns needs lands costs sets dist a s b = keeps_in (get_or dist a 0) (get_or costs s 0) (get_or dist b 0) && leads_by columns needs lands sets s a b

-- step s can be taken in block a, and weighs no more than a's distance
unfoldable pub may_take : ℕ → List ℕ → List ℕ → List ℕ → List ℕ → ℕ → ℕ → Bool
may_take columns needs costs sets dist a s = not (ltb (get_or dist a 0) (get_or costs s 0 * tenth + 1)) && fits_in columns needs sets s a

abbrev pub hop : ℕ → ℕ → Hop
hop s b = record { step = step s; to = block b }

-- the lowest block for one step
unfoldable pub next_in : (ℕ → ℕ → Bool) → ℕ → ℕ → Option Hop
next_in fits s b = when (fits s b) (hop s b)

unfoldable pub next_of : ℕ → (ℕ → ℕ → Bool) → ℕ → Option Hop
next_of count fits s = first count (next_in fits s)

-- the lowest step and, for that step, the lowest block
unfoldable pub next_by : ℕ → ℕ → (ℕ → ℕ → Bool) → Option Hop
next_by steps count fits = first steps (next_of count fits)

-- the same on code's tables and blocks
abbrev pub fits_on : CodeTables → CodeBlocks → List ℕ → ℕ → ℕ → ℕ → Bool
fits_on ts bs dist a = fits_by ts.shape.columns ts.rows (lands_in ts.rows) ts.costs bs.sets dist a

abbrev pub next_is : CodeTables → CodeBlocks → List ℕ → ℕ → Option Hop
next_is ts bs dist a = next_by ts.shape.steps bs.count (fits_on ts bs dist a)

-- an answer's meaning
unfoldable pub hop_of : prelude.Option CodeHop → Option Hop
hop_of None = none
hop_of (Some h) = some (record { step = h.step; to = h.block })

-- a table of numbers that holds the distances
unfoldable pub Holds : Table → ℕ → List ℕ → Type 0
Holds l count dist = (a : ℕ) → a < count → get_or dist a 0 ≡ coded_at l a

-- an answer is the next hop of a block that has a distance
unfoldable pub NextIs : Task → Blocks → Block → prelude.Option CodeHop → Type 0
NextIs t bs a r = (d : Distance) → far_of (distances t bs) a ≡ some d → hop_of r ≡ next_hop t bs (distances t bs) a d

-- the blocks that code holds
abbrev pub blocks_held : ℕ → CodeBlocks → Blocks
blocks_held columns bs = blocks_in columns bs.count bs.sets

-- the same of any task whose tables these are, where the numbers hold the distances of the blocks
abbrev pub Nexts : Task → CodeTables → CodeBlocks → List ℕ → Block → prelude.Option CodeHop → Type 0
Nexts t ts bs dist a r =
    Accepted t → TablesOf t ts → Holds (distances t (blocks_held ts.shape.columns bs)) bs.count dist → NextIs t (blocks_held ts.shape.columns bs) a r
