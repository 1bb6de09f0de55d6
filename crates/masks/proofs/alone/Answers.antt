use Rattle.blocks.specs.Blocks.{only}
use Rattle.blocks.proofs.MaskLaws.{shift_one}
use Rattle.masks.proofs.alone.Goals as goal

pub returns : goal.returns
unfolding only
returns c = shift_one c.args.position.0 32 c.requires
