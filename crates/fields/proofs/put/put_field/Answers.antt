use Rattle.std.proofs.Common.{arith, ◌∙◌}
use Rattle.fields.proofs.PutLaws.{put-none, put-more}
use Rattle.fields.proofs.put.put_field.Goals as goal

pub loop-k-init : goal.loop-k-init
loop-k-init c = put-none _ _ _

pub loop-k-preserved : goal.loop-k-preserved
loop-k-preserved c =
    let a = c.args in
    let l = c.loop-k in
    c.put_bit.ensures ∙ put-more a.at a.w a.v l.k a.out.now (omega arith) l.invariant
