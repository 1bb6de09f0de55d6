use Rattle.blocks.proofs.MaskLaws.{start_small}
use Rattle.task.proofs.TableLaws.{columns-of}
use Rattle.blocks.proofs.FlatLaws.{laid_none, laid-set}
use Rattle.blocks.specs.Masks.{start_set}
use native.Mathlib.Omega.{arith}
use mathlib.Core.Path.{◌≡◌, sym}
use Rattle.masks.proofs.fill_start.Goals as goal

pub loop-j-init : goal.loop-j-init
loop-j-init c = (rw columns-of at c.requires.columns.1, sym (laid_none _ _ _))

pub alone-requires : goal.alone-requires
alone-requires c = start_small c.args.model.now c.requires c.loop-j.j c.loop-j-test.true

pub loop-j-preserved : goal.loop-j-preserved
unfolding start_set
loop-j-preserved c = (c.loop-j.invariant.0, laid-set _ _ _ c.loop-j.j _ _ c.loop-j.invariant.1 (omega arith) c.alone.ensures)

pub returns : goal.returns
returns c = let e : c.loop-j.j ≡ c.args.model.now.columns = omega arith in rw e at c.loop-j.invariant.1
