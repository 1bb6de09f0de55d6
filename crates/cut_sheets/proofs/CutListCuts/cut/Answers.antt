use native.Mathlib.Omega.{arith}
use mathlib.Core.Logic.{⊎_elim}
use mathlib.Core.Path.{refl}
use Rattle.cut_sheets.specs.CutPart.{cut_named}
use Rattle.cut_sheets.specs.CutSheet.{cut_lent}
use Rattle.cut_sheets.proofs.JudgeLaws.{read-short, read-wide, read-whole, lent-short, lent-whole, no-block, no-column}
use Rattle.cut_sheets.proofs.CutListCuts.cut.Goals as goal

pub returns-then-cuts-i : goal.returns-then-cuts-i
returns-then-cuts-i c =
    let g = c.args in
    read-short (cut_lent g.self.now.0.now g.i) (lent-short g.self.now.0.now g.i (omega arith))

pub returns-then-block-ge-BLOCKS : goal.returns-then-block-ge-BLOCKS
unfolding cut_lent
returns-then-block-ge-BLOCKS c =
    let g = c.args in
    let f = cut_lent g.self.now.0.now g.i in
    read-wide f (lent-whole g.self.now.0.now g.i c.if-cuts-i.false) (⊎_elim (λ h. no-block f h) (λ h. no-column f h.1) c.then-block-ge-BLOCKS.either)

pub returns : goal.returns
unfolding cut_lent cut_named
returns c =
    let g = c.args in
    let cuts = g.self.now.0.now in
    read-whole (cut_lent cuts g.i) (lent-whole cuts g.i c.if-cuts-i.false) c.if-block-ge-BLOCKS.false c.if-column-ge-COLUMNS.false refl
