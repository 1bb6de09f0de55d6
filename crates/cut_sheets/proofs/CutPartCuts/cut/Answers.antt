use native.Mathlib.Omega.{arith}
use Prim.Native.Nat.{◌+◌}
use Rattle.cut_sheets.specs.CutPart.{cut_on, cut_bits}
use Rattle.fields.proofs.FieldLaws.{field_lt}
use Rattle.cut_sheets.proofs.JudgeLaws.{read-short, read-whole, sheet-short, sheet-whole}
use Rattle.cut_sheets.proofs.CutPartCuts.cut.Goals as goal

pub returns-then-self-div_ceil : goal.returns-then-self-div_ceil
returns-then-self-div_ceil c =
    let g = c.args in
    let s = g.self.now.0.now in
    read-short (cut_on s g.i) (sheet-short s g.i (omega (arith, c.cut_bits.ensures.place, c.div_ceil.ensures)))

pub returns : goal.returns
unfolding cut_on
returns c =
    let g = c.args in
    let s = g.self.now.0.now in
    read-whole (cut_on s g.i) (sheet-whole s g.i (omega (arith, c.cut_bits.ensures.place, c.div_ceil.ensures)))
    (field_lt s (cut_bits g.i) 8) (field_lt s (cut_bits g.i + 8) 4) c.read_cut.ensures
