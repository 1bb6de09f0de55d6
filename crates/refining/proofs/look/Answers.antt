use mathlib.Core.Path.{◌∙◌}
use borrow.Author.Rules.{rules}
use Rattle.refining.specs.Refining.{look_of, KnownSeen}
use Rattle.refining.proofs.LookLaws.{from-made, no-way, steps-small, begins, walks, seen-look, seen-known}
use Rattle.refining.proofs.look.Goals as goal

pub bounds-dist-from : goal.bounds-dist-from
bounds-dist-from c =
    let r = c.requires in
    let h = from-made r.task r.cuts r.tabled r.parted in
    search (h, rules)

pub returns-then-far-ge-NO_WAY : goal.returns-then-far-ge-NO_WAY
unfolding look_of KnownSeen
returns-then-far-ge-NO_WAY c =
    let h = rw c.from.ensures at c.if-far-ge-NO_WAY.true in
    record { looked = λ t cs g m. no-way t cs g m c.args.dist.now (c.fill_distances.ensures t g.own) h; known = tt }

pub follow-requires : goal.follow-requires
follow-requires c =
    let r = c.requires in
    let h = rw c.from.ensures at c.if-far-ge-NO_WAY.false in
    let d = c.fill_distances.ensures r.task r.tabled.own in
    record { made = from-made r.task r.cuts r.tabled r.parted; short = steps-small r.task r.cuts r.tabled r.parted c.args.dist.now d h }

pub returns : goal.returns
returns c =
    let old = c.args.dist.now in
    let h = rw c.from.ensures at c.if-far-ge-NO_WAY.false in
    let w = c.follow.ensures in record {
      looked = λ t cs g m.
          let d = c.fill_distances.ensures t g.own in
          rw (c.see.ensures, c.from.ensures) (seen-look _ _ _ ∙ walks t cs g m old d h (w.right t cs _ (begins t cs g m old d h)));
      known = rw c.see.ensures (seen-known _ _ _ _ w.known);
    }
