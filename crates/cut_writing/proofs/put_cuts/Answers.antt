use native.Mathlib.Omega.{arith}
use mathlib.Core.Path.{refl, ap, ◌∙◌}
use lib.ListN.{length}
use Rattle.fields.proofs.PackingLaws.{packed_none, packed_more, packed-end, packed-length}
use Rattle.cut_sheets.specs.CutPart.{cut_part, cut_bits}
use Rattle.cut_sheets.specs.CutSheet.{cut_lent}
use Rattle.cut_sheets.proofs.CutPartLaws.{cut-bits}
use Rattle.cut_sheets.proofs.JudgeLaws.{any_task}
use Rattle.cut_writing.proofs.put_cuts.Goals as goal

pub loop-i-init : goal.loop-i-init
loop-i-init c = record { long = refl; put = λ t. packed_none _ _ _ }

pub loop-i-preserved : goal.loop-i-preserved
unfolding cut_bits
loop-i-preserved c =
    let g = c.args in
    let l = c.loop-i in
    let f = cut_lent g.cuts.now in
    record {
      long = ap length (c.put_cut.ensures (any_task 0)) ∙ packed-length _ _ _ ∙ l.invariant.long;
      put = λ t. c.put_cut.ensures t ∙ packed_more (cut_part t f) 44 (cut-bits t f) 12 l.i g.out.now (l.invariant.put t);
    }

pub shape_of-out : goal.shape_of-out
shape_of-out c = c.loop-i.invariant.long

pub returns : goal.returns
returns c =
    let l = c.loop-i in
    λ t. packed-end 12 _ _ l.i c.args.count (omega arith) (omega arith) (l.invariant.put t)
