use mathlib.Core.Path.{sym, ap, ◌∙◌}
use Prim.Native.Nat.{ℕ}
use Rattle.blocks.specs.Flat.{row_of}
use Rattle.blocks.proofs.MaskLaws.{lie-row}
use Rattle.blocks.specs.Masks.{all_lie, goal_by}
use Rattle.task.specs.Sizes.{goal_row}
use Rattle.masks.proofs.Tables.is_goal_block.Goals as goal

pub returns : goal.returns
unfolding goal_by
returns c =
    let g = c.args in
    c.all_lie.ensures ∙ ap (λ (a : ℕ). all_lie g.self.now.shape.columns (row_of goal_row) (row_of a) g.self.now.rows g.sets.now) c.from-ra.ensures ∙ sym (lie-row _ goal_row _ _ _)
