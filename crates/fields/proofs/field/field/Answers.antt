use Rattle.std.proofs.Common.{◌-◌, arith}
use Rattle.fields.proofs.FieldLaws.{bit-lt, field_none, field-next, field_fits}
use Rattle.fields.proofs.field.field.Goals as goal

pub loop-k-init : goal.loop-k-init
loop-k-init c = field_none c.args.s.now c.args.at (omega arith)

pub overflow_mul-v : goal.overflow_mul-v
overflow_mul-v c =
    let a = c.args in
    omega (arith, c.loop-k.invariant, field_fits a.s.now a.at (c.loop-k.k - a.at) {m = 31} (omega arith))

pub overflow_add-v : goal.overflow_add-v
overflow_add-v c =
    let a = c.args in
    omega (arith, c.loop-k.invariant, field_fits a.s.now a.at (c.loop-k.k - a.at) {m = 31} (omega arith), bit-lt a.s.now c.loop-k.k)

pub loop-k-preserved : goal.loop-k-preserved
loop-k-preserved c = omega (arith, c.loop-k.invariant, c.bit.ensures, field-next c.args.s.now {at = c.args.at} {k = c.loop-k.k} c.loop-k.auto.k)
