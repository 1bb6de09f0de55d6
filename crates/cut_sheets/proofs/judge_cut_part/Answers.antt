use mathlib.Core.Path.{sym, ◌∙◌}
use Rattle.std.proofs.lemmas.Result.{err_from_is_err_and}
use Rattle.fields.proofs.RefusalLaws.{number-ne0}
use Rattle.sheets.proofs.SheetLaws.{fill-at}
use Rattle.cut_sheets.proofs.JudgeLaws.{form-refused, count-refused, cuts-refused, fill-judged, count-below, count-read}
use Rattle.cut_sheets.proofs.judge_cut_part.Goals as goal

pub returns-in_err-judge_within : goal.returns-in_err-judge_within
returns-in_err-judge_within c =
    let g = c.args in
    let p = err_from_is_err_and c.from_residual.result c.from_residual.ensures.1 in
    λ t e m. rw (p.1, p.2) (form-refused t g.s.now g.blocks.now g.columns (c.in_err-judge_within.ensures.judged 4 _ c.whole_field.ensures) (number-ne0 _))

pub returns-in_err-count : goal.returns-in_err-count
returns-in_err-count c =
    let g = c.args in
    let p = err_from_is_err_and c.from_residual-in_err-count.result c.from_residual-in_err-count.ensures.1 in
    λ t e m. rw (p.1, p.2)
    (count-refused t g.s.now (c.in_ok-judge_within.ensures.judged 4 _ c.whole_field.ensures) g.blocks.now g.columns (c.in_err-count.ensures.judged 8 _ c.whole_field-2.ensures) (number-ne0 _))

pub judge_cuts-requires-clause-few : goal.judge_cuts-requires-clause-few
judge_cuts-requires-clause-few c = count-below c.args.s.now (count-read c.args.s.now (sym c.in_ok-count.ensures.value ∙ c.whole_field-2.ensures))

pub returns-in_err-judge_cuts : goal.returns-in_err-judge_cuts
returns-in_err-judge_cuts c =
    let g = c.args in
    let s = g.s.now in
    let p = err_from_is_err_and c.from_residual-in_err-judge_cuts.result c.from_residual-in_err-judge_cuts.ensures.1 in
    λ t e m. rw (p.1, p.2)
    (cuts-refused t s (c.in_ok-judge_within.ensures.judged 4 _ c.whole_field.ensures) (c.in_ok-count.ensures.judged 8 _ c.whole_field-2.ensures) (count-read s (sym c.in_ok-count.ensures.value ∙ c.whole_field-2.ensures))
    _ g.columns (c.in_err-judge_cuts.ensures t e m) (number-ne0 _))

pub cut_bits-bits-requires : goal.cut_bits-bits-requires
cut_bits-bits-requires c = count-below c.args.s.now (count-read c.args.s.now (sym c.in_ok-count.ensures.value ∙ c.whole_field-2.ensures))

pub returns-in_err-judge_within-2 : goal.returns-in_err-judge_within-2
returns-in_err-judge_within-2 c =
    let g = c.args in
    let s = g.s.now in
    let p = err_from_is_err_and c.from_residual-in_err-judge_within-2.result c.from_residual-in_err-judge_within-2.ensures.1 in
    λ t e m. rw (p.1, p.2)
    (fill-judged t s (c.in_ok-judge_within.ensures.judged 4 _ c.whole_field.ensures) (c.in_ok-count.ensures.judged 8 _ c.whole_field-2.ensures) (count-read s (sym c.in_ok-count.ensures.value ∙ c.whole_field-2.ensures))
    _ g.columns (c.in_ok-judge_cuts.ensures t e m) (fill-at s c.cut_bits-bits.ensures.place (c.in_err-judge_within-2.ensures.judged _ _ (rw c.fill_bits.ensures at c.whole_field-3.ensures))))

pub returns : goal.returns
returns c =
    let g = c.args in
    let s = g.s.now in
    λ t e m.
    fill-judged t s (c.in_ok-judge_within.ensures.judged 4 _ c.whole_field.ensures) (c.in_ok-count.ensures.judged 8 _ c.whole_field-2.ensures) (count-read s (sym c.in_ok-count.ensures.value ∙ c.whole_field-2.ensures))
    _ g.columns (c.in_ok-judge_cuts.ensures t e m) (fill-at s c.cut_bits-bits.ensures.place (c.in_ok-judge_within-2.ensures.judged _ _ (rw c.fill_bits.ensures at c.whole_field-3.ensures)))
