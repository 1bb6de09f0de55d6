use Rattle.cut_writing.proofs.CutWritingLaws.{part-put}
use Rattle.cut_writing.proofs.put_cut_part.Goals as goal

pub returns : goal.returns
returns c =
    let g = c.args in
    λ t. part-put t g.count g.cuts.now g.out.now c.put_field.ensures c.put_field-2.ensures (c.put_cuts.ensures t) c.cut_bits-bits.ensures.place (rw c.fill_bits.ensures at c.put_field-3.ensures)
