use native.Mathlib.Omega.{arith}
use mathlib.Core.Path.{sym}
use Rattle.std.proofs.lemmas.Result.{err_from_is_err_and}
use Rattle.fields.proofs.RefusalLaws.{number-ne0}
use Rattle.preparing.proofs.WholeLaws.{columns-small, wide}
use Rattle.sheets.specs.Holding.{task_on}
use Rattle.cut_reading.proofs.RebuildLaws.{whole-block}
use Rattle.cut_writing.proofs.CutWritingLaws.{given-model, given-cuts, too-many, lent-judged}
use Rattle.cut_writing.proofs.judge_given.Goals as goal

pub returns-in_err-shape : goal.returns-in_err-shape
returns-in_err-shape c =
    let g = c.args in
    let p = err_from_is_err_and c.from_residual.result c.from_residual.ensures.1 in
    rw (p.1, p.2) (given-model g.model.now g.count g.cuts.now c.in_err-shape.ensures.judged (number-ne0 _))

pub returns-then-count-ge-BLOCKS : goal.returns-then-count-ge-BLOCKS
returns-then-count-ge-BLOCKS c =
    let g = c.args in
    given-cuts g.model.now g.count g.cuts.now (sym c.in_ok-shape.ensures.judged) (too-many (task_on g.model.now) g.count g.cuts.now c.if-count-ge-BLOCKS.true)

pub fill_whole-requires : goal.fill_whole-requires
fill_whole-requires c = (sym c.in_ok-shape.ensures.judged, c.in_ok-shape.ensures.counts.0)

pub judge_cuts-requires-clause-wide : goal.judge_cuts-requires-clause-wide
judge_cuts-requires-clause-wide c = columns-small c.args.model.now c.in_ok-shape.ensures.counts.0 (sym c.in_ok-shape.ensures.judged)

pub returns : goal.returns
returns c =
    let g = c.args in
    let m = g.model.now in
    let w = c.in_ok-shape.ensures.counts.0 in
    given-cuts m g.count g.cuts.now (sym c.in_ok-shape.ensures.judged)
    (lent-judged (task_on m) g.count g.cuts.now (omega arith)
    (c.judge_cuts.ensures (task_on m) (wide m w) (whole-block m w _ _ c.fill_whole.new.blocks c.fill_whole.ensures.alone c.fill_whole.ensures.every)))
