use Rattle.std.proofs.Common.{arith, refl, ap, ◌∙◌}
use Rattle.task.specs.declared.Shape.{Shape}
use Rattle.fields.proofs.JudgingLaws.{none, pass, hit}
use Rattle.fields.proofs.RefusalLaws.{number-ne0, number-handed}
use Rattle.sheets.proofs.judge.judge_steps.Goals as goal

pub loop-j-init : goal.loop-j-init
loop-j-init g c = none _

pub returns-in_err-judge_step : goal.returns-in_err-judge_step
returns-in_err-judge_step g c =
    let few = ap (λ (s : Shape). s.steps) c.shape-j-end.ensures in
    number-handed _ _ c.from_residual.ensures.1 ∙ hit c.loop-j.j _ _ (omega (arith, few)) c.loop-j.invariant c.in_err-judge_step.ensures (number-ne0 _)

pub loop-j-preserved : goal.loop-j-preserved
loop-j-preserved g c = pass c.loop-j.j _ c.loop-j.invariant c.in_ok-judge_step.ensures refl
