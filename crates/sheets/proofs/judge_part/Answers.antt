use Rattle.std.proofs.Common.{refl, sym, ◌∙◌}
use Rattle.fields.proofs.ReadLaws.{read-some}
use Rattle.fields.proofs.RefusalLaws.{number-ne0, number-handed}
use Rattle.sheets.specs.ModelSheet.{columns_of, steps_of, sheet_with}
use Rattle.sheets.proofs.SheetLaws.{part-header, part-body, part-done}
use Rattle.sheets.proofs.judge_part.Goals as goal

pub returns-in_err-shape-clause-judged : goal.returns-in_err-shape-clause-judged
unfolding sheet_with
returns-in_err-shape-clause-judged c =
    let s = c.args.s.now in
    let header = c.in_err-shape.ensures.judged _ _ _ c.whole_field.ensures c.whole_field-2.ensures c.whole_field-3.ensures in
    number-handed _ _ c.from_residual.ensures.1 ∙ part-done s refl refl (part-header (sheet_with s (columns_of s) (steps_of s)) (columns_of s) (steps_of s) header (number-ne0 _))

pub returns-in_err-judge_body-clause-judged : goal.returns-in_err-judge_body-clause-judged
unfolding sheet_with
returns-in_err-judge_body-clause-judged c =
    let s = c.args.s.now in
    let shape = c.in_ok-shape.shape in
    let counts = c.in_ok-shape.ensures.counts in
    let header = c.in_ok-shape.ensures.judged _ _ _ c.whole_field.ensures c.whole_field-2.ensures c.whole_field-3.ensures in
    number-handed _ _ c.from_residual-in_err-judge_body.ensures.1
    ∙ part-done s (read-some _ (sym counts.0 ∙ c.whole_field-2.ensures)).1 (read-some _ (sym counts.1 ∙ c.whole_field-3.ensures)).1
    (part-body (sheet_with s shape.columns shape.steps) shape.columns shape.steps header refl c.in_err-judge_body.ensures)

pub returns-clause-judged : goal.returns-clause-judged
unfolding sheet_with
returns-clause-judged c =
    let s = c.args.s.now in
    let shape = c.in_ok-shape.shape in
    let counts = c.in_ok-shape.ensures.counts in
    let header = c.in_ok-shape.ensures.judged _ _ _ c.whole_field.ensures c.whole_field-2.ensures c.whole_field-3.ensures in
    part-done s (read-some _ (sym counts.0 ∙ c.whole_field-2.ensures)).1 (read-some _ (sym counts.1 ∙ c.whole_field-3.ensures)).1
    (part-body (sheet_with s shape.columns shape.steps) shape.columns shape.steps header refl c.in_ok-judge_body.ensures)

pub returns-clause-counts : goal.returns-clause-counts
returns-clause-counts c =
    let counts = c.in_ok-shape.ensures.counts in
    ((read-some _ (sym counts.0 ∙ c.whole_field-2.ensures)).1, (read-some _ (sym counts.1 ∙ c.whole_field-3.ensures)).1)
