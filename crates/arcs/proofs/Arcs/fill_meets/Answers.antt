use mathlib.Core.Path.{◌≡◌, refl}
use native.Mathlib.Omega.{arith}
use lib.ListN.{get_or}
use borrow.Author.Count.{below_more}
use Rattle.blocks.specs.Flat.{past, row_of}
use Rattle.arcs.specs.Words.{held_in}
use Rattle.arcs.proofs.WordLaws.{met-more, met-same, filled-first}
use Rattle.arcs.proofs.Arcs.fill_meets.Goals as goal
use Rattle.arcs.proofs.Arcs.fill_meets.Goals.{then-self-j, else-self-j}

pub loop-j-preserved : goal.loop-j-preserved
unfolding past
loop-j-preserved c =
    let l = c.loop-j in
    let sets = c.args.blocks.now.sets in
    let b = c.args.b in
    elim c.if-self-j.branch [
      | then-self-j w ↦ rw w.self-is (record {
        held = met-more _ _ _ l.j _ l.self.held _ _ l.self.within (omega arith) l.invariant.held w.fill_column.ensures;
        renewed = filled-first (past sets (row_of b)) l.j _ l.self.held l.invariant.renewed (omega arith) refl;
        rest = l.invariant.rest;
      })
      | else-self-j w ↦ rw w.self-is (record {
        held = l.invariant.held;
        renewed = below_more (λ x. get_or l.self.held x 0 ≡ past sets (row_of b) x) l.j l.invariant.renewed (omega (arith, w.if-self-j.false));
        rest = l.invariant.rest;
      })
    ]

pub returns : goal.returns
unfolding held_in
returns c =
    let l = c.loop-j in record {
      held = l.invariant.held;
      met = met-same _ _ _ _ _ _ (λ j h. l.invariant.renewed j (omega arith)) l.invariant.held;
      rest = l.invariant.rest;
    }
