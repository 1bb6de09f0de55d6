use Rattle.standing.specs.Standing.{goal_at_end}
use Rattle.blocks.proofs.MaskLaws.{lie-row}
use Rattle.task.specs.Sizes.{goal_row}
use mathlib.Core.Path.{sym, ◌∙◌}
use Rattle.standing.proofs.Standing.is_goal.Goals as goal

pub returns : goal.returns
unfolding goal_at_end
returns c = c.all_lie.ensures ∙ sym (lie-row _ goal_row 0 _ _)
