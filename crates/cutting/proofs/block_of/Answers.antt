use mathlib.Core.Option.{Option, some}
use mathlib.Core.Path.{◌≡◌, sym, ap, ◌∙◌}
use Prim.Native.Nat.{ℕ}
use Rattle.task.specs.declared.Block.{Block}
use Rattle.task.specs.Task.{block}
use Rattle.blocks.specs.Flat.{followed}
use Rattle.blocks.proofs.FollowLaws.{by-state, follow-block}
use Rattle.cutting.proofs.block_of.Goals as goal

pub returns : goal.returns
returns c =
    let g = c.args in
    let k : c.follow.result.0 ≡ followed g.cuts.now g.state.now g.count = c.follow.ensures.followed ∙ by-state g.cuts.now g.state.now g.count in
    record {
      followed = k;
      found = λ t v h is. ap {B = Option Block} (λ (n : ℕ). some (block n)) k ∙ sym (follow-block t v g.cuts.now g.count h g.state.now is);
    }
