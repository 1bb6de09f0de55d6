use borrow.Author.Rules.{rules}
use Prim.Native.Nat.{ℕ, ◌+◌}
use mathlib.Core.Bool.{not}
use mathlib.Core.Path.{sym, ◌∙◌}
use lib.ListN.{get_or}
use Rattle.task.specs.Sizes.{lands_row}
use Rattle.task.proofs.RangeLaws.{all-ran}
use Rattle.blocks.specs.Blocks.{common, is_empty}
use Rattle.blocks.specs.Flat.{past, row_of}
use Rattle.standing.specs.Standing.{landed}
use Rattle.standing.proofs.RowLaws.{lands-rows}
use Rattle.standing.proofs.Standing.lands_in.Goals as goal

pub returns : goal.returns
unfolding past
returns c =
    let g = c.args in
    let here = g.self.now.sets in
    all-ran (λ (j : ℕ). not (is_empty (common (landed (past g.tables.now.rows (row_of (lands_row + g.s.0)) j) (get_or here j 0)) (past g.blocks.now.sets (row_of g.b.0) j))))
    c.all.ensures.ran (λ x q k. search rules) (λ x q k. search rules)
    ∙ sym (lands-rows _ g.s.0 _ _ _ g.b.0)
