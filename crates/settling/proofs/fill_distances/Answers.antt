use mathlib.Core.Path.{refl, ◌∙◌}
use Rattle.task.specs.Sizes.{limits}
use Rattle.blocks.specs.Masks.{lands_in, goals_in}
use Rattle.settling.proofs.DijkstraLaws.{none-set}
use Rattle.settling.proofs.JoinLaws.{all_coded}
use Rattle.settling.proofs.fill_distances.Goals as goal

pub settle-requires : goal.settle-requires
settle-requires c =
    let able = c.fill_able.ensures in
    let made = c.new-arcs.ensures in record {
      none = none-set limits.blocks;
      ready = record {
        used = able.rest.0 ∙ made.used;
        able = able.able;
        held = rw (able.rest.0, able.rest.1, able.rest.2) (made.met c.args.tables.now.shape.columns c.args.blocks.now.sets);
      };
      started = record { each = c.start.ensures.each; rest = λ a h. refl };
    }

pub returns : goal.returns
returns c =
    let t = c.args.tables.now in
    let bs = c.args.blocks.now in
    let se = c.settle.ensures in
    λ task tables. all_coded task t.shape.columns bs.count t.shape.steps t.rows (lands_in t.rows) (goals_in t.rows) t.costs bs.sets tables
    c.args.dist.now _ c.told-dist c.settle.array_long2 bs.counted (record { each = se.each; small = se.small; rest = λ a h. se.rest a h ∙ c.start.ensures.rest a h })
