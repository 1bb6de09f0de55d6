use Rattle.std.proofs.Common.{refl, sym, ◌∙◌}
use Rattle.fields.proofs.ReadLaws.{read-some, there}
use Rattle.fields.proofs.RefusalLaws.{number-ne0, number-handed}
use Rattle.sheets.proofs.SheetLaws.{size-here, need-bad, effect-last}
use Rattle.sheets.proofs.judge.judge_marks.Goals as goal

pub unwrap-size-requires : goal.unwrap-size-requires
unwrap-size-requires g c = there _ (size-here _ c.args.i c.requires.2) c.size.ensures

pub returns-in_err-judge_within : goal.returns-in_err-judge_within
returns-in_err-judge_within g c =
    let size = (read-some _ (sym c.unwrap-size.ensures ∙ c.size.ensures)).1 in
    number-handed _ _ c.from_residual.ensures.1 ∙ need-bad _ c.args.i _ c.args.j size (c.in_err-judge_within.ensures.judged 6 _ c.need.ensures) (number-ne0 _)

pub returns-in_err-judge_within-2 : goal.returns-in_err-judge_within-2
returns-in_err-judge_within-2 g c =
    let size = (read-some _ (sym c.unwrap-size.ensures ∙ c.size.ensures)).1 in
    number-handed _ _ c.from_residual-in_err-judge_within-2.ensures.1
    ∙ effect-last _ c.args.i _ c.args.j size (c.in_ok-judge_within.ensures.judged 6 _ c.need.ensures) refl (c.in_err-judge_within-2.ensures.judged 6 _ c.effect.ensures)

pub returns : goal.returns
returns g c =
    let size = (read-some _ (sym c.unwrap-size.ensures ∙ c.size.ensures)).1 in
    effect-last _ c.args.i _ c.args.j size (c.in_ok-judge_within.ensures.judged 6 _ c.need.ensures) refl (c.in_ok-judge_within-2.ensures.judged 6 _ c.effect.ensures)
