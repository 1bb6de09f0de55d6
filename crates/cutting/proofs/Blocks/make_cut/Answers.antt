use Prim.Native.Nat.{◌+◌, ◌*◌}
use native.Mathlib.Omega.{arith}
use lib.ListN.{length}
use Rattle.task.specs.Sizes.{limits, block_places}
use mathlib.Core.Path.{◌≡◌, refl, ap, ◌∙◌}
use borrow.Author.Rules.{rules}
use Rattle.blocks.specs.Blocks.{common, without}
use Rattle.blocks.specs.Flat.{past, cut_in, blocks_in}
use Rattle.blocks.proofs.FlatLaws.{laid-copied, cut-made}
use Rattle.cutting.proofs.Blocks.make_cut.Goals as goal

pub returns-clause-parted : goal.returns-clause-parted
unfolding cut_in past common without
returns-clause-parted c =
    let a = c.args in
    let s = a.self.now.sets in
    let l : length s ≡ block_places = search rules in
    let e = c.copy_within.ensures.after ∙ laid-copied s (c.from-here.result * limits.columns) (a.self.now.count * limits.columns) a.columns (omega arith) (omega arith) in
    rw (e, c.from-here.ensures, c.from-at.ensures) refl

pub returns-clause-made : goal.returns-clause-made
returns-clause-made c =
    let a = c.args in
    ap (blocks_in a.columns (a.self.now.count + 1)) (returns-clause-parted c) ∙ cut-made a.columns a.self.now.count a.cut a.self.now.sets c.requires (search rules)
