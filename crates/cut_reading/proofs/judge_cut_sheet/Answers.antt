use mathlib.Core.Path.{sym}
use lib.ListN.{length}
use Rattle.std.proofs.lemmas.Result.{err_from_is_err_and}
use Rattle.sheets.specs.Holding.{task_on}
use Rattle.fields.proofs.PlaceLaws.{rest_all}
use Rattle.fields.proofs.RefusalLaws.{number-ne0}
use Rattle.cut_reading.proofs.RebuildLaws.{front-not, front_is, whole-block, stops-model, stops-inner, stops-ten, ends}
use Rattle.preparing.proofs.WholeLaws.{columns-small, wide}
use Rattle.cut_reading.proofs.judge_cut_sheet.Goals as goal

pub returns-in_err-shape : goal.returns-in_err-shape
returns-in_err-shape c =
    let g = c.args in
    let p = err_from_is_err_and c.from_residual.result c.from_residual.ensures.1 in
    rw (p.1, p.2) (stops-model g.model.now g.sheet.now _ c.in_err-shape.ensures.judged (number-ne0 _))

pub returns-in_err-judge_part : goal.returns-in_err-judge_part
returns-in_err-judge_part c =
    let g = c.args in
    let p = err_from_is_err_and c.from_residual-in_err-judge_part.result c.from_residual-in_err-judge_part.ensures.1 in
    rw (p.1, p.2) (stops-inner g.model.now g.sheet.now _ (sym c.in_ok-shape.ensures.judged) c.in_err-judge_part.ensures.judged (number-ne0 _))

pub returns-then-not-starts_with : goal.returns-then-not-starts_with
returns-then-not-starts_with c =
    let g = c.args in
    stops-ten g.model.now g.sheet.now _ (sym c.in_ok-shape.ensures.judged) (sym c.in_ok-judge_part.ensures.judged) (front-not g.model.now g.sheet.now c.starts_with.ensures.value c.if-not-starts_with.true)

pub fill_whole-requires : goal.fill_whole-requires
fill_whole-requires c = (sym c.in_ok-shape.ensures.judged, c.in_ok-shape.ensures.counts.0)

pub judge_cut_tail-requires : goal.judge_cut_tail-requires
judge_cut_tail-requires c = columns-small c.args.model.now c.in_ok-shape.ensures.counts.0 (sym c.in_ok-shape.ensures.judged)

pub returns : goal.returns
returns c =
    let g = c.args in
    let m = g.model.now in
    let w = c.in_ok-shape.ensures.counts.0 in
    ends m g.sheet.now _ (sym c.in_ok-shape.ensures.judged) (wide m w) (front_is m g.sheet.now c.starts_with.ensures.value c.if-not-starts_with.false) (rest_all g.sheet.now (length m))
    (c.judge_cut_tail.ensures (task_on m) (wide m w) (whole-block m w _ _ c.fill_whole.new.blocks c.fill_whole.ensures.alone c.fill_whole.ensures.every))
