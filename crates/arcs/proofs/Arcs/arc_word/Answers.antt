use mathlib.Core.Path.{◌≡◌, sym, ◌∙◌}
use native.Mathlib.Omega.{arith}
use Rattle.std.proofs.lemmas.List.{get_or-take}
use Rattle.blocks.specs.Flat.{past}
use Rattle.arcs.specs.Words.{arc_word}
use Rattle.arcs.proofs.ArcLaws.{kept-none, kept_more, kept-zero, kept_row}
use Rattle.arcs.proofs.Arcs.arc_word.Goals as goal

pub loop-j-init : goal.loop-j-init
loop-j-init c = kept-none _ _ _ _ _ _

pub returns-then-v-eq0 : goal.returns-then-v-eq0
unfolding arc_word
returns-then-v-eq0 c =
    let l = c.loop-j in
    sym (kept-zero _ _ _ _ _ _ l.j-index _ (omega arith) (sym l.invariant ∙ c.if-v-eq0.true)) ∙ kept_row _ _ _ _ _ _ _

pub loop-j-preserved : goal.loop-j-preserved
unfolding past
loop-j-preserved c =
    let l = c.loop-j in
    let e = get_or-take c.args.self.now.few c.args.self.now.narrow l.j-index 0 (omega arith) in
    kept_more _ _ _ _ _ _ l.j-index _ _ l.invariant (rw e at c.kept_part-v.ensures)

pub returns : goal.returns
unfolding arc_word
returns c =
    let l = c.loop-j in
    let e : l.j-index ≡ c.args.self.now.few = omega arith in
    rw e at l.invariant ∙ kept_row _ _ _ _ _ _ _
