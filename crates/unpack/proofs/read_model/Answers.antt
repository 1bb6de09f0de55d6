use mathlib.Core.Path.{◌∙◌, ap}
use Rattle.std.specs.Prelude.{◌*◌}
use Rattle.task.specs.Loops.{tab, over}
use borrow.Author.Rules.{rules}
use Rattle.task.specs.Sizes.{limits}
use Rattle.sheets.specs.ModelSheet.{marks_on}
use Rattle.sheets.specs.Holding.{mark_place, mark_table}
use Rattle.unpack.specs.Unpacking.{size_on, start_on, goal_on, tenths_on}
use Rattle.unpack.proofs.UnpackLaws.{tables-done}
use Rattle.unpack.proofs.read_model.Goals as goal

pub returns : goal.returns
unfolding marks_on mark_table
returns c =
    let t = c.args.sheet.now in
    let s = t.bytes.now in
    let n = t.shape.columns in
    let m = t.shape.steps in
    let p = c.requires.counts in
    let e = c.requires.empty in
    tables-done s n m p.0 p.1
    (c.fill.ensures (size_on s) (λ i v h k. search rules) ∙ ap (λ z. over (tab n (size_on s)) z) e.size)
    (c.fill-2.ensures (start_on s) (λ i v h k. search rules) ∙ ap (λ z. over (tab n (start_on s)) z) e.start)
    (c.fill-3.ensures (goal_on s) (λ i v h k. search rules) ∙ ap (λ z. over (tab n (goal_on s)) z) e.goal)
    (c.fill-4.ensures (tenths_on s n) (λ i v h k. search rules) ∙ ap (λ z. over (tab m (tenths_on s n)) z) e.cost)
    (c.fill_marks.ensures (λ j i. (marks_on s n j i).need.value) (λ j i v h l k. search rules)
    ∙ ap (λ z. over (tab (m * limits.columns) (mark_place (λ j i. (marks_on s n j i).need.value) n)) z) e.need)
    (c.fill_marks-2.ensures (λ j i. (marks_on s n j i).effect.value) (λ j i v h l k. search rules)
    ∙ ap (λ z. over (tab (m * limits.columns) (mark_place (λ j i. (marks_on s n j i).effect.value) n)) z) e.effect)
