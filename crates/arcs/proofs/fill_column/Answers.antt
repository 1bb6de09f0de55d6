use mathlib.Core.Path.{◌∙◌}
use Prim.Native.Nat.{◌+◌, ◌*◌}
use native.Mathlib.Omega.{arith}
use lib.ListN.{length-set}
use lib.Seq.{get_or-set_other}
use borrow.Author.Rules.{rules}
use Rattle.blocks.specs.Blocks.{common, is_empty}
use Rattle.blocks.specs.Flat.{past}
use Rattle.arcs.specs.Words.{words, meets_in}
use Rattle.arcs.proofs.WordLaws.{filled_more}
use Rattle.arcs.proofs.fill_column.Goals as goal

pub loop-w-preserved : goal.loop-w-preserved
unfolding meets_in common is_empty past
loop-w-preserved c =
    let j = c.args.j in
    let l = c.loop-w in record {
      size = simp length-set l.invariant.size;
      filled = filled_more _ (j * words) l.w _ l.meets l.invariant.filled (omega (arith, l.invariant.size))
          (c.word_where.ensures (meets_in c.args.sets.now c.args.set j) (λ a r h p. search rules));
      before = λ i h. get_or-set_other l.meets (j * words + l.w) i _ 0 (λ q. omega arith) ∙ l.invariant.before i h;
      after = λ i h. get_or-set_other l.meets (j * words + l.w) i _ 0 (λ q. omega arith) ∙ l.invariant.after i h;
    }
