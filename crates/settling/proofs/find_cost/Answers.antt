use native.Mathlib.Omega.{arith}
use Prim.Native.Nat.{ℕ, ◌/◌}
use mathlib.Core.Path.{ap, ◌∙◌}
use lib.ListN.{get_or}
use Rattle.task.specs.Sizes.{tenth}
use Rattle.settling.proofs.find_cost.Goals as goal

pub follow-b-requires : goal.follow-b-requires
follow-b-requires g c = (c.requires.measured.follows, c.requires.placed)

pub cost_at-requires : goal.cost_at-requires
cost_at-requires g c =
    let m = c.requires.measured in
    let made = c.follow-b.ensures.made in
    (omega (arith, m.follows.few, made), m.costs c.follow-b.result.0 made)

pub returns : goal.returns
returns g c = c.cost_at.ensures ∙ ap (λ (a : ℕ). get_or c.args.dist.now a 0 / tenth) c.follow-b.ensures.followed
