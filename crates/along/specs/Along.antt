-- A log as code goes along it: the state stands as a row of sets with one position each, and its block is found by following the cuts.
use Rattle.std.specs.Prelude.{Bool, not, ◌&&◌, cond, List, ℕ, zero, suc, ◌+◌, ◌*◌, ◌/◌, eqb, ltb, length, get_or, Some, None}
use Rattle.std.specs.Prelude as prelude
use Rattle.std.proofs.Math.Option
use Rattle.std.proofs.Math.Option.{Option}
use Rattle.task.specs.Loops.{first, when}
use Rattle.task.specs.Sizes.{tenth}
use Rattle.blocks.specs.Blocks.{PositionSet, common, is_empty}
use Rattle.standing.specs.Standing.{takes_by, taken_by}

-- ---- the steps of a log

-- where the state stands after the first i steps, from where it stood here
unfoldable pub here_after : ℕ → List ℕ → List ℕ → List PositionSet → ℕ → List PositionSet
here_after columns lands log here zero = here
here_after columns lands log here (suc i) = taken_by columns lands (here_after columns lands log here i) (get_or log i 0)

-- a known step that can be taken
unfoldable pub goes_by : ℕ → ℕ → List ℕ → List PositionSet → ℕ → Bool
goes_by columns steps needs here s = ltb s steps && takes_by columns needs here s

-- row i, counted from 1, where it does not go on
unfoldable pub stop_at : ℕ → ℕ → List ℕ → List ℕ → List ℕ → List PositionSet → ℕ → Option ℕ
stop_at columns steps needs lands log here i = when (not (goes_by columns steps needs (here_after columns lands log here i) (get_or log i 0))) (i + 1)

-- the first such row; 0 where there is none
unfoldable pub stop_row : ℕ → ℕ → List ℕ → List ℕ → List ℕ → List PositionSet → ℕ
stop_row columns steps needs lands log here = Option.get_or (first (length log) (stop_at columns steps needs lands log here)) 0

-- such a row as an answer
abbrev pub row_of : ℕ → prelude.Option ℕ
row_of zero = None
row_of (suc n) = Some (suc n)

-- ---- the estimates

-- a cut sends a state of block a on to the new block: the one position that stands in the cut's column is wanted
unfoldable pub sends_on : List ℕ → List PositionSet → ℕ → ℕ → Bool
sends_on cuts here i a = eqb (get_or cuts (i * 3) 0) a && not (is_empty (common (get_or here (get_or cuts (i * 3 + 1) 0) 0) (get_or cuts (i * 3 + 2) 0)))

-- the block of the state that stands here, by the first n cuts
unfoldable pub block_by : List ℕ → List PositionSet → ℕ → ℕ
block_by cuts here zero = 0
block_by cuts here (suc i) = cond (sends_on cuts here i (block_by cuts here i)) (suc i) (block_by cuts here i)

-- the cost from there on, in a table of distances
unfoldable pub cost_by : ℕ → List ℕ → List ℕ → List PositionSet → ℕ
cost_by count cuts dist here = get_or dist (block_by cuts here count) 0 / tenth

-- the same after the first i steps of a log
unfoldable pub cost_after : ℕ → List ℕ → ℕ → List ℕ → List ℕ → List ℕ → List PositionSet → ℕ → ℕ
cost_after columns lands count cuts dist log here i = cost_by count cuts dist (here_after columns lands log here i)
