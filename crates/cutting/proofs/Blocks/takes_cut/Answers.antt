use native.Mathlib.Omega.{arith}
use mathlib.Core.Path.{◌∙◌}
use mathlib.Core.Logic.{⊎_elim}
use Rattle.blocks.specs.Flat.{past}
use Rattle.blocks.proofs.FlatLaws.{no_block, no-column, by_parts}
use Rattle.cutting.proofs.Blocks.takes_cut.Goals as goal

pub returns-then-self-a : goal.returns-then-self-a
returns-then-self-a c = λ t e.
    let g = c.args in
    let b = g.self.now in
    ⊎_elim
    (λ h. no_block t g.columns b.count b.sets g.cut e (omega (arith, h, c.from-a.ensures)))
    (λ h. no-column t g.columns b.count b.sets g.cut e (omega (arith, h.0, c.from-a.ensures)) (omega (arith, h.1, c.from-j.ensures)))
    c.then-self-a.either

pub returns : goal.returns
unfolding past
returns c = λ t e.
    let g = c.args in
    let b = g.self.now in
    (rw (c.from-a.ensures, c.from-j.ensures) at c.may_part.ensures) ∙ by_parts t g.columns b.count b.sets g.cut e (omega (arith, c.from-a.ensures)) (omega (arith, c.from-j.ensures))
