use mathlib.Core.Bool.{false≢true}
use mathlib.Core.Path.{sym, ◌∙◌}
use native.Mathlib.Omega.{arith}
use lib.ListN.{length-set}
use Rattle.settling.proofs.LowerLaws.{lowered-end, lowered-skip, lowered-more, in-word, word-start, word_none}
use borrow.Author.Rules.{rules}
use Rattle.settling.proofs.lower_word.Goals as goal
use Rattle.settling.proofs.lower_word.Goals.{then-has_bit, else-has_bit}

pub returns-then-v-eq0 : goal.returns-then-v-eq0
returns-then-v-eq0 c = word_none _ _ _ _ _ c.if-v-eq0.true

pub loop-i-init : goal.loop-i-init
loop-i-init c = record { size = search rules; lowered = lowered-end _ _ _ (word-start _ _ _ _) (omega arith) }

pub loop-i-preserved : goal.loop-i-preserved
loop-i-preserved c =
    let i = c.loop-i.invariant in
    let g = c.args in
    let t = in-word g.w g.v c.loop-i.i (omega arith) ∙ sym c.has_bit.ensures in
    elim c.if-has_bit.branch [
      | then-has_bit w ↦ rw w.dist-is (record {
        size = simp length-set i.size;
        lowered = lowered-end _ _ _ (lowered-more _ _ _ i.lowered _ (omega arith) (t ∙ w.if-has_bit.true) w.lower_value.ensures) (omega arith);
      })
      | else-has_bit w ↦ rw w.dist-is (record {
        size = i.size;
        lowered = lowered-end _ _ _ (lowered-skip _ _ _ i.lowered (λ e. absurd (false≢true (sym w.if-has_bit.false ∙ sym t ∙ e)))) (omega arith);
      })
    ]
