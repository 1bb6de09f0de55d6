-- A state of the walk as code has it: a row of sets with one position each. What a step does to it, and the cut of a flaw. A wanted set that allows every
-- position is coded as 0.
use Rattle.std.specs.Prelude.{Bool, ◌&&◌, not, cond, List, ℕ, get_or, Some, None}
use Rattle.std.specs.Prelude as prelude
use Rattle.std.proofs.Math.Option
use Rattle.std.proofs.Math.Option.{Option, some, none}
use Rattle.task.specs.declared.Column.{Column}
use Rattle.task.specs.declared.Block.{Block}
use Rattle.task.specs.Loops.{all, first, when, tab, over}
use Rattle.task.specs.Sizes.{limits, start_row}
use Rattle.task.specs.Task.{column}
use Rattle.blocks.specs.declared.Cut.{Cut}
use Rattle.blocks.specs.Blocks.{PositionSet, common, is_empty}
use Rattle.blocks.specs.Flat.{past, row_of}
use Rattle.blocks.specs.Masks.{all_lie}

-- ---- one column

-- where a column stands after a step: where the step lands, or else where it stood
unfoldable pub landed : PositionSet → PositionSet → PositionSet
landed land here = cond (is_empty land) here land

-- the next block's set taken back over a step, 0 for every position
unfoldable pub back_set : PositionSet → PositionSet → PositionSet → PositionSet
back_set need land next = cond (is_empty need) (cond (is_empty land) next 0) need

-- the present position isn't wanted
unfoldable pub is_off : PositionSet → PositionSet → Bool
is_off wanted here = not (is_empty wanted) && is_empty (common here wanted)

-- ---- a row

-- the start as it stands
unfoldable pub at_start : List ℕ → List PositionSet
at_start tables = tab limits.columns (past tables (row_of start_row))

unfoldable pub takes_by : ℕ → List ℕ → List ℕ → ℕ → Bool
takes_by columns needs here s = all_lie columns (row_of s) 0 needs here

unfoldable pub goal_at_end : ℕ → List ℕ → List ℕ → Bool
goal_at_end columns goals here = all_lie columns 0 0 goals here

unfoldable pub landed_at : List ℕ → List ℕ → ℕ → ℕ → PositionSet
landed_at lands here s j = landed (past lands (row_of s) j) (get_or here j 0)

unfoldable pub lands_by : ℕ → List ℕ → List ℕ → List ℕ → ℕ → ℕ → Bool
lands_by columns lands sets here s b = all columns (λ j. not (is_empty (common (landed_at lands here s j) (past sets (row_of b) j))))

unfoldable pub taken_by : ℕ → List ℕ → List ℕ → ℕ → List ℕ
taken_by columns lands here s = over (tab columns (landed_at lands here s)) here

-- the wanted sets of a divergence flaw; those of a need flaw are the needs, those of a goal flaw the goals
unfoldable pub back_at : List ℕ → List ℕ → List ℕ → ℕ → ℕ → ℕ → PositionSet
back_at needs lands sets s b j = back_set (past needs (row_of s) j) (past lands (row_of s) j) (past sets (row_of b) j)

unfoldable pub back_row : List ℕ → List ℕ → List ℕ → ℕ → ℕ → List PositionSet
back_row needs lands sets s b = tab limits.columns (back_at needs lands sets s b)

-- the lowest column whose present position isn't wanted
unfoldable pub off_at : List ℕ → List ℕ → ℕ → Option Column
off_at wanted here j = when (is_off (get_or wanted j 0) (get_or here j 0)) (column j)

-- an answer's meaning
unfoldable pub found : prelude.Option Column → Option Column
found None = none
found (Some j) = some j

unfoldable pub lowest_off : ℕ → List ℕ → List ℕ → Column
lowest_off columns wanted here = Option.get_or (first columns (off_at wanted here)) (column 0)

-- the cut of a flaw in block a
unfoldable pub cut_by : ℕ → List ℕ → List ℕ → Block → List ℕ → Cut
cut_by columns sets here a wanted =
    let j = lowest_off columns wanted here in
    record { block = a; column = j; wanted = common (past sets (row_of a.0) j.0) (get_or wanted j.0 0) }
