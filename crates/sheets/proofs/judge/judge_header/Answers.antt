use Rattle.std.proofs.Common.{refl, ◌∙◌}
use Rattle.fields.proofs.RefusalLaws.{number-ne0, number-handed}
use Rattle.sheets.proofs.SheetLaws.{form-bad, columns-bad, steps-last}
use Rattle.sheets.proofs.judge.judge_header.Goals as goal

pub returns-in_err-judge_within-clause-judged : goal.returns-in_err-judge_within-clause-judged
returns-in_err-judge_within-clause-judged c = λ f n m ef en em. number-handed _ _ c.from_residual.ensures.1 ∙ form-bad f n m (c.in_err-judge_within.ensures.judged 4 f ef) (number-ne0 _)

pub returns-in_err-columns-clause-judged : goal.returns-in_err-columns-clause-judged
returns-in_err-columns-clause-judged c =
    λ f n m ef en em.
    number-handed _ _ c.from_residual-in_err-columns.ensures.1 ∙ columns-bad f n m (c.in_ok-judge_within.ensures.judged 4 f ef) refl (c.in_err-columns.ensures.judged 5 n en) (number-ne0 _)

pub returns-in_err-steps-clause-judged : goal.returns-in_err-steps-clause-judged
returns-in_err-steps-clause-judged c =
    λ f n m ef en em.
    number-handed _ _ c.from_residual-in_err-steps.ensures.1 ∙ steps-last f n m (c.in_ok-judge_within.ensures.judged 4 f ef) refl (c.in_ok-columns.ensures.judged 5 n en) refl (c.in_err-steps.ensures.judged 8 m em)

pub returns-clause-judged : goal.returns-clause-judged
returns-clause-judged c =
    λ f n m ef en em.
    steps-last f n m (c.in_ok-judge_within.ensures.judged 4 f ef) refl (c.in_ok-columns.ensures.judged 5 n en) refl (c.in_ok-steps.ensures.judged 8 m em)
