use mathlib.Core.Path.{refl, ◌∙◌}
use native.Mathlib.Omega.{arith}
use lib.ListN.{length-set}
use borrow.Author.Rules.{rules}
use Rattle.settling.proofs.DijkstraLaws.{begin, turn, at-end, small-end, unset-set, settled-nearest}
use Rattle.settling.proofs.LowerLaws.{open_made}
use Rattle.settling.proofs.settle.Goals as goal

pub loop-b-init : goal.loop-b-init
loop-b-init c =
    let p = c.requires in record {
      size = search rules;
      ready = p.ready;
      rest = λ a h. refl;
      settled = begin _ _ _ _ _ _ _ p.none (omega (arith, c.told-done)) p.started;
    }

pub bounds-done-b : goal.bounds-done-b
bounds-done-b c = let near = c.nearest.ensures.found _ c.in-Some.is in omega (arith, near.inside)

pub turn_to-requires : goal.turn_to-requires
turn_to-requires c =
    let near = c.nearest.ensures.found _ c.in-Some.is in
    record { block = omega (arith, near.inside); held = c.loop-b.invariant.ready.held }

pub tries-requires : goal.tries-requires
tries-requires c =
    let i = c.loop-b.invariant in
    let near = c.nearest.ensures.found _ c.in-Some.is in
    let arcs = c.turn_to.ensures in record {
      known = near.known;
      turned = record {
        inside = near.inside;
        used = arcs.rest.0 ∙ i.ready.used;
        able = rw (arcs.rest.0, arcs.rest.1) i.ready.able;
        met = arcs.met;
        opened = open_made _ _ _ _ _ _ arcs.opened (settled-nearest _ _ _ _ _ _ _ i.settled near);
        narrow = arcs.narrow;
      };
    }

pub loop-b-smaller : goal.loop-b-smaller
loop-b-smaller c =
    let near = c.nearest.ensures.found _ c.in-Some.is in
    let z = unset-set c.loop-b.done c.in-Some.b (omega (arith, near.inside, c.loop-b.invariant.size)) near.open-yet in
    omega (arith, z)

pub loop-b-preserved : goal.loop-b-preserved
loop-b-preserved c =
    let i = c.loop-b.invariant in
    let near = c.nearest.ensures.found _ c.in-Some.is in
    let r = c.tries.ensures in
    let arcs = c.turn_to.ensures in record {
      size = simp length-set i.size;
      ready = record { used = arcs.rest.0 ∙ i.ready.used; able = rw (arcs.rest.0, arcs.rest.1) i.ready.able; held = arcs.held };
      rest = λ a h. r.rest a h ∙ i.rest a h;
      settled = turn _ _ _ _ (λ a s b l. l.out) (λ a s b l. l.into) _ _ _ _ i.settled near r (omega (arith, near.inside, i.size));
    }

pub returns : goal.returns
returns c =
    let i = c.loop-b.invariant in
    let none = c.nearest.ensures.none c.in_default.is in record {
      each = at-end _ _ _ _ (λ a s b l. l.out) (λ a s b l. l.into) _ _ i.settled none;
      small = small-end _ _ _ _ (λ a s b l. l.out) (λ a s b l. l.into) _ _ i.settled none;
      rest = i.rest;
    }
