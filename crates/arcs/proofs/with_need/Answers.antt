use native.Mathlib.Omega.{arith}
use borrow.Author.Rules.{rules}
use Rattle.blocks.specs.Flat.{past}
use Rattle.arcs.specs.Words.{need_in}
use Rattle.arcs.proofs.WordLaws.{no-need}
use Rattle.arcs.proofs.with_need.Goals as goal
use Rattle.arcs.proofs.with_need.Goals.{then-v-eq0-via-then-v-eq0, then-v-eq0-via-else-v-eq0+then-need-eq0}

pub returns-then-v-eq0 : goal.returns-then-v-eq0
returns-then-v-eq0 c =
    let g = c.args in
    elim c.then-v-eq0.branch [
      | then-v-eq0-via-then-v-eq0 w ↦ rw w.if-v-eq0.true
      | then-v-eq0-via-else-v-eq0+then-need-eq0 w ↦ rw w.if-need-eq0.true (no-need _ _ _ _ (omega arith))
    ]

pub returns : goal.returns
unfolding need_in past
returns c = rw (c.word_where.ensures (need_in c.args.sets.now c.args.need c.args.j) (λ a r h p. search rules))
