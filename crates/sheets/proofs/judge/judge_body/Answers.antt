use Rattle.std.proofs.Common.{refl, ◌∙◌}
use Rattle.fields.proofs.RefusalLaws.{number-ne0, number-handed}
use Rattle.sheets.specs.ModelSheet.{fill_part}
use Rattle.sheets.proofs.SheetLaws.{body-columns, body-steps, body-fill}
use Rattle.sheets.proofs.judge.judge_body.Goals as goal

pub returns-in_err-judge_columns : goal.returns-in_err-judge_columns
returns-in_err-judge_columns g c = number-handed _ _ c.from_residual.ensures.1 ∙ body-columns (g.S.ModelSource.fields c.args.source.now) _ _ c.in_err-judge_columns.ensures (number-ne0 _)

pub returns-in_err-judge_steps : goal.returns-in_err-judge_steps
returns-in_err-judge_steps g c =
    number-handed _ _ c.from_residual-in_err-judge_steps.ensures.1
    ∙ body-steps (g.S.ModelSource.fields c.args.source.now) _ _ c.in_ok-judge_columns.ensures refl c.in_err-judge_steps.ensures (number-ne0 _)

pub returns-in_err-judge_within : goal.returns-in_err-judge_within
unfolding fill_part
returns-in_err-judge_within g c =
    number-handed _ _ c.from_residual-in_err-judge_within.ensures.1
    ∙ body-fill (g.S.ModelSource.fields c.args.source.now) _ _ c.in_ok-judge_columns.ensures refl c.in_ok-judge_steps.ensures refl
    (c.in_err-judge_within.ensures.judged _ _ c.fill.ensures)

pub returns : goal.returns
unfolding fill_part
returns g c =
    body-fill (g.S.ModelSource.fields c.args.source.now) _ _ c.in_ok-judge_columns.ensures refl c.in_ok-judge_steps.ensures refl
    (c.in_ok-judge_within.ensures.judged _ _ c.fill.ensures)
