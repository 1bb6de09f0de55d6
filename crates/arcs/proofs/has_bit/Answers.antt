use Rattle.arcs.specs.Words.{word, bit_at}
use Rattle.blocks.proofs.MaskLaws.{shift_one}
use Rattle.arcs.proofs.has_bit.Goals as goal

pub returns : goal.returns
unfolding bit_at
returns c = rw (shift_one c.args.i word c.requires)
