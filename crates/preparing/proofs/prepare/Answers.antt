use Rattle.preparing.proofs.PreparingLaws.{own-accepted, prepared}
use Rattle.preparing.proofs.prepare.Goals as goal

pub fill-requires : goal.fill-requires
fill-requires c = own-accepted c.args.sheet.now c.requires c.read_accepted.ensures

pub returns : goal.returns
returns c = prepared c.args.sheet.now c.requires c.read_accepted.ensures c.fill.ensures.tabled c.fill.ensures.filled.sizes
