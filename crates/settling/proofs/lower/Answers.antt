use Rattle.blocks.specs.Masks.{lands_in}
use Rattle.arcs.specs.Words.{arc_word}
use Rattle.arcs.proofs.ArcLaws.{told-word}
use Rattle.settling.proofs.LowerLaws.{word_more}
use Rattle.settling.proofs.lower.Goals as goal

pub loop-w-preserved : goal.loop-w-preserved
unfolding arc_word
loop-w-preserved c =
    let l = c.loop-w in
    let g = c.args in
    let a = g.arcs.now in
    word_more l.w _ g.k _ _ _ _ l.invariant c.lower_word.ensures
    (λ i h. told-word a.few a.narrow (lands_in g.tables.now.rows) a.able a.meets a.left g.s l.w _ i h c.arc_word.ensures)
