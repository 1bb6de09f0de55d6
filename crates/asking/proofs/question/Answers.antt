use Rattle.std.proofs.lemmas.Result.{err_from_is_err_and}
use Rattle.fields.proofs.RefusalLaws.{number-ne0}
use Rattle.cut_reading.proofs.RebuildLaws.{part-is}
use Rattle.asking.proofs.AskingLaws.{sheets-refused, within, model-fine, some-taken, states-refused, places-refused, posed, answerable, answered}
use borrow.Author.Rules.{rules}
use mathlib.Core.Path.{refl}
use Rattle.asking.proofs.question.Goals as goal

pub returns-in_err-judge_cut_sheet : goal.returns-in_err-judge_cut_sheet
returns-in_err-judge_cut_sheet c =
    let g = c.args in
    let p = err_from_is_err_and c.from_residual.result c.from_residual.ensures.1 in
    rw (p.1, p.2) (sheets-refused g.model.now g.sheet.now g.states.now g.estimates.now c.in_err-judge_cut_sheet.ensures (number-ne0 _))

pub prepare-requires : goal.prepare-requires
prepare-requires c =
    let g = c.args in
    model-fine g.model.now g.sheet.now g.states.now g.estimates.now c.in_ok-judge_cut_sheet.ensures

pub judge_states-requires : goal.judge_states-requires
judge_states-requires c =
    let g = c.args in
    let h = some-taken g.model.now g.sheet.now g.states.now g.estimates.now c.in_ok-judge_cut_sheet.ensures c.prepare.ensures in
    h

pub returns-in_err-judge_states : goal.returns-in_err-judge_states
returns-in_err-judge_states c =
    let g = c.args in
    let r = c.from_residual-in_err-judge_states in
    let p = err_from_is_err_and r.result r.ensures.1 in
    rw (p.1, p.2)
    (states-refused g.model.now g.sheet.now g.states.now g.estimates.now c.in_ok-judge_cut_sheet.ensures c.prepare.ensures c.in_err-judge_states.ensures (number-ne0 _))

pub returns-then-estimates-asked : goal.returns-then-estimates-asked
returns-then-estimates-asked c =
    let g = c.args in
    places-refused g.model.now g.sheet.now g.states.now g.estimates.now c.in_ok-judge_cut_sheet.ensures c.prepare.ensures c.in_ok-judge_states.ensures refl
    c.if-estimates-asked.true

pub slice_bounds-answer-count : goal.slice_bounds-answer-count
slice_bounds-answer-count c =
    let g = c.args in
    within g.model.now g.sheet.now g.states.now g.estimates.now c.in_ok-judge_cut_sheet.ensures

pub slice_bounds-answer-start : goal.slice_bounds-answer-start
slice_bounds-answer-start c =
    let g = c.args in
    let h = within g.model.now g.sheet.now g.states.now g.estimates.now c.in_ok-judge_cut_sheet.ensures in
    search rules

pub answer-requires : goal.answer-requires
answer-requires c =
    let g = c.args in
    let j = c.in_ok-judge_cut_sheet.ensures in
    answerable g.model.now g.sheet.now g.states.now g.estimates.now j c.prepare.ensures c.in_ok-judge_states.ensures refl
    c.if-estimates-asked.false (part-is g.model.now g.sheet.now g.estimates.now j)

pub returns : goal.returns
returns c =
    let g = c.args in
    let j = c.in_ok-judge_cut_sheet.ensures in
    let q = part-is g.model.now g.sheet.now g.estimates.now j in
    answered g.model.now g.sheet.now g.states.now g.estimates.now j c.prepare.ensures c.in_ok-judge_states.ensures refl c.if-estimates-asked.false q
    (c.answer.ensures _ (posed g.model.now g.sheet.now g.states.now g.estimates.now j c.prepare.ensures c.in_ok-judge_states.ensures refl c.if-estimates-asked.false q))
