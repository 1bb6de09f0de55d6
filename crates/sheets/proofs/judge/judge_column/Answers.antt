use Rattle.std.proofs.Common.{refl, sym, ◌∙◌}
use Rattle.fields.proofs.ReadLaws.{read-some}
use Rattle.fields.proofs.RefusalLaws.{number-ne0, number-handed}
use Rattle.sheets.proofs.SheetLaws.{size-bad, start-bad, goal-last}
use Rattle.sheets.proofs.judge.judge_column.Goals as goal

pub returns-in_err-size : goal.returns-in_err-size
returns-in_err-size g c = number-handed _ _ c.from_residual.ensures.1 ∙ size-bad _ c.args.i (c.in_err-size.ensures.judged 6 _ c.size.ensures) (number-ne0 _)

pub returns-in_err-judge_below : goal.returns-in_err-judge_below
returns-in_err-judge_below g c =
    let size = (read-some _ (sym c.in_ok-size.ensures.value ∙ c.size.ensures)).1 in
    number-handed _ _ c.from_residual-in_err-judge_below.ensures.1 ∙ start-bad _ c.args.i (c.in_ok-size.ensures.judged 6 _ c.size.ensures) refl size (c.in_err-judge_below.ensures.judged 5 _ c.start.ensures) (number-ne0 _)

pub returns-in_err-judge_within : goal.returns-in_err-judge_within
returns-in_err-judge_within g c =
    let size = (read-some _ (sym c.in_ok-size.ensures.value ∙ c.size.ensures)).1 in
    number-handed _ _ c.from_residual-in_err-judge_within.ensures.1 ∙ goal-last _ c.args.i (c.in_ok-size.ensures.judged 6 _ c.size.ensures) refl size (c.in_ok-judge_below.ensures.judged 5 _ c.start.ensures) refl
    (c.in_err-judge_within.ensures.judged 6 _ c.goal.ensures)

pub returns : goal.returns
returns g c =
    let size = (read-some _ (sym c.in_ok-size.ensures.value ∙ c.size.ensures)).1 in
    goal-last _ c.args.i (c.in_ok-size.ensures.judged 6 _ c.size.ensures) refl size (c.in_ok-judge_below.ensures.judged 5 _ c.start.ensures) refl
    (c.in_ok-judge_within.ensures.judged 6 _ c.goal.ensures)
