use native.Mathlib.Omega.{arith}
use lib.ListN.{length-set}
use borrow.Author.Rules.{rules}
use Rattle.arcs.specs.Words.{open_in}
use Rattle.arcs.proofs.WordLaws.{filled-first}
use Rattle.arcs.proofs.Arcs.fill_open.Goals as goal

pub loop-w-preserved : goal.loop-w-preserved
unfolding open_in
loop-w-preserved c =
    let l = c.loop-w in record {
      opened = filled-first _ l.w _ l.self.left l.invariant.opened (omega (arith, l.invariant.size)) (c.word_where.ensures (open_in c.args.count c.args.done.now) (λ a r h p. search rules));
      rest = l.invariant.rest;
      size = simp length-set l.invariant.size;
    }
