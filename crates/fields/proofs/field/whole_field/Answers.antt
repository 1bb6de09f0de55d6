use Rattle.std.proofs.Common.{arith, ap, ◌∙◌, Some}
use Rattle.fields.specs.Judging.{on_sheet}
use Rattle.fields.proofs.JudgingLaws.{sheet-here, sheet-cut}
use Rattle.fields.proofs.ReadLaws.{read_here, read-cut}
use Rattle.fields.proofs.field.whole_field.Goals as goal

pub returns-then-s-div_ceil : goal.returns-then-s-div_ceil
returns-then-s-div_ceil c =
    let a = c.args in
    read-cut (on_sheet a.s.now a.at a.w) (sheet-cut a.s.now a.at a.w (omega arith))

pub returns : goal.returns
returns c =
    let a = c.args in
    ap Some c.field.ensures ∙ read_here (on_sheet a.s.now a.at a.w) (sheet-here a.s.now a.at a.w (omega arith))
