use borrow.Author.Rules.{rules}
use Prim.Native.Nat.{ℕ, ◌+◌}
use Rattle.task.specs.Sizes.{lands_row}
use mathlib.Core.Path.{sym, ◌∙◌}
use Rattle.task.proofs.RangeLaws.{all-ran}
use Rattle.blocks.specs.Flat.{past, row_of}
use Rattle.blocks.specs.Masks.{passes}
use Rattle.blocks.proofs.MaskLaws.{leads-rows}
use Rattle.masks.proofs.Tables.leads.Goals as goal

pub returns : goal.returns
unfolding past
returns c =
    let g = c.args in
    let r = g.self.now.rows in
    let s = g.sets.now in
    all-ran (λ (j : ℕ). passes (past r (row_of g.step.0) j) (past r (row_of (lands_row + g.step.0)) j) (past s (row_of g.a.0) j) (past s (row_of g.b.0) j)) c.all.ensures.ran (λ x q k. search rules) (λ x q k. search rules)
    ∙ sym (leads-rows _ _ _ g.step.0 g.a.0 g.b.0)
