use Rattle.std.proofs.Common.{arith, refl, ap, ◌∙◌}
use Rattle.task.specs.declared.Shape.{Shape}
use Rattle.fields.proofs.JudgingLaws.{none, pass, hit, end, judged-at}
use Rattle.fields.proofs.RefusalLaws.{number-ne0, number-handed}
use Rattle.sheets.proofs.SheetLaws.{cost-cut, marks-last}
use Rattle.sheets.proofs.judge.judge_step.Goals as goal

pub returns-in_err-judge_free : goal.returns-in_err-judge_free
returns-in_err-judge_free g c =
    let p = g.S.ModelSource.fields c.args.source.now in
    number-handed _ _ c.from_residual.ensures.1 ∙ cost-cut p.column p.cost p.marks _ c.args.j (c.in_err-judge_free.ensures.judged 16 _ c.cost.ensures) (number-ne0 _)

pub loop-i-init : goal.loop-i-init
loop-i-init g c = none _

pub judge_marks-requires : goal.judge_marks-requires
judge_marks-requires g c =
    let few = ap (λ (s : Shape). s.columns) c.shape-i-end.ensures in
    (c.requires.0, omega (arith, few, c.shape-i-end.result.within), judged-at _ _ c.requires.1 c.loop-i.i (omega (arith, few)))

pub returns-in_err-judge_marks : goal.returns-in_err-judge_marks
returns-in_err-judge_marks g c =
    let p = g.S.ModelSource.fields c.args.source.now in
    let few = ap (λ (s : Shape). s.columns) c.shape-i-end.ensures in
    number-handed _ _ c.from_residual-in_err-judge_marks.ensures.1
    ∙ marks-last p.column p.cost p.marks _ c.args.j (c.in_ok-judge_free.ensures.judged 16 _ c.cost.ensures) refl
    (hit c.loop-i.i _ _ (omega (arith, few)) c.loop-i.invariant c.in_err-judge_marks.ensures (number-ne0 _))

pub loop-i-preserved : goal.loop-i-preserved
loop-i-preserved g c = pass c.loop-i.i _ c.loop-i.invariant c.in_ok-judge_marks.ensures refl

pub returns : goal.returns
returns g c =
    let p = g.S.ModelSource.fields c.args.source.now in
    let few = ap (λ (s : Shape). s.columns) c.shape-i-end.ensures in
    marks-last p.column p.cost p.marks _ c.args.j (c.in_ok-judge_free.ensures.judged 16 _ c.cost.ensures) refl
    (end c.loop-i.i _ _ (omega (arith, few)) (omega (arith, few)) c.loop-i.invariant)
