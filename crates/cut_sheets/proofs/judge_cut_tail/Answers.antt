use Rattle.std.proofs.lemmas.Result.{err_from_is_err_and}
use Rattle.fields.proofs.RefusalLaws.{number-ne0}
use Rattle.cut_sheets.proofs.JudgeLaws.{tail-refused, tail-end}
use Rattle.cut_sheets.proofs.judge_cut_tail.Goals as goal

pub returns-in_err-judge_cut_part : goal.returns-in_err-judge_cut_part
returns-in_err-judge_cut_part c =
    let g = c.args in
    let p = err_from_is_err_and c.from_residual.result c.from_residual.ensures.1 in
    λ t e m. rw (p.1, p.2) (tail-refused t g.s.now g.columns (c.in_err-judge_cut_part.ensures t e m) (number-ne0 _))

pub returns : goal.returns
returns c =
    let g = c.args in
    λ t e m. tail-end t g.s.now g.columns (c.in_ok-judge_cut_part.ensures t e m) c.cut_end.ensures c.judge_end.ensures
