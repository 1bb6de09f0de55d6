use native.Mathlib.Omega.{arith}
use Prim.Native.Nat.{ℕ, ◌/◌, ◌≤◌}
use mathlib.Core.Path.{ap, ◌∙◌}
use lib.ListN.{get_or}
use Rattle.task.specs.Sizes.{tenth}
use Rattle.asking.specs.Question.{cost_found}
use Rattle.blocks.proofs.FollowLaws.{followed-most}
use Rattle.asking.proofs.find_cost.Goals as goal

pub block_of-b-requires : goal.block_of-b-requires
block_of-b-requires c = (c.requires.0.follows, c.requires.1)

pub cost_at-requires : goal.cost_at-requires
cost_at-requires c =
    let g = c.args in
    let m = c.requires.0 in
    let made : c.block_of-b.result.0 ≤ g.count = omega (arith, c.block_of-b.ensures.followed, followed-most g.cuts.now g.state.now g.count) in
    (omega (arith, m.follows.few, made), m.costs c.block_of-b.result.0 made)

pub returns : goal.returns
unfolding cost_found
returns c = c.cost_at.ensures ∙ ap (λ (a : ℕ). get_or c.args.dist.now a 0 / tenth) c.block_of-b.ensures.followed
