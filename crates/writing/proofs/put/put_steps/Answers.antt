use Prim.Native.Nat.{◌+◌, ◌*◌}
use mathlib.Core.Path.{◌∙◌}
use Rattle.fields.proofs.PackingLaws.{packed_none, packed_more}
use Rattle.sheets.proofs.HoldLaws.{step-bits}
use Rattle.sheets.specs.ModelSheet.{column_bits, model_bits, step_in}
use Rattle.writing.specs.Writing.{lent}
use Rattle.writing.proofs.put.put_steps.Goals as goal

pub loop-j-init : goal.loop-j-init
loop-j-init c = packed_none _ _ _

pub loop-j-preserved : goal.loop-j-preserved
unfolding model_bits
loop-j-preserved c =
    let p = lent c.args.tables.now in
    let n = c.args.tables.now.shape.columns in
    c.put_step.ensures ∙ packed_more (step_in p n) (16 + n * 12) (step-bits p.column p.cost p.marks n) (column_bits n) c.loop-j.j c.args.out.now c.loop-j.invariant
