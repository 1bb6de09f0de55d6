use mathlib.Core.Path.{◌∙◌}
use Rattle.arcs.proofs.Arcs.turn_to.Goals as goal

pub fill_meets-requires : goal.fill_meets-requires
fill_meets-requires c =
    let o = c.fill_open.ensures.rest in
    record { block = c.requires.block; held = rw (o.0, o.2, o.3) c.requires.held }

pub returns : goal.returns
returns c =
    let o = c.fill_open.ensures in
    let m = c.fill_meets.ensures in
    let n = c.fill_narrow.ensures in record {
      held = rw (n.rest.0, n.rest.2, n.rest.3) m.held;
      met = rw (n.rest.0, n.rest.2) m.met;
      opened = rw (n.rest.0, n.rest.4, m.rest.0, m.rest.2) o.opened;
      narrow = n.narrow;
      rest = (n.rest.0 ∙ m.rest.0 ∙ o.rest.0, n.rest.1 ∙ m.rest.1 ∙ o.rest.1);
    }
