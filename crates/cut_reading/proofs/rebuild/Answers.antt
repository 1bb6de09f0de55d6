use native.Mathlib.Omega.{arith}
use Rattle.std.proofs.lemmas.Result.{err_from_is_err_and}
use Rattle.fields.proofs.RefusalLaws.{number-ne0}
use Rattle.cut_reading.proofs.RebuildLaws.{sheets-refused, start-within, part-is, places-refused, filled}
use borrow.Author.Rules.{rules}
use Rattle.cut_reading.proofs.rebuild.Goals as goal

pub returns-in_err-judge_cut_sheet : goal.returns-in_err-judge_cut_sheet
returns-in_err-judge_cut_sheet c =
    let g = c.args in
    let p = err_from_is_err_and c.from_residual.result c.from_residual.ensures.1 in
    rw (p.1, p.2) (sheets-refused g.model.now g.sheet.now g.cuts.now c.in_err-judge_cut_sheet.ensures (number-ne0 _))

pub slice_bounds-part-count : goal.slice_bounds-part-count
slice_bounds-part-count c =
    let g = c.args in
    start-within g.model.now g.sheet.now g.cuts.now c.in_ok-judge_cut_sheet.ensures

pub slice_bounds-part-start : goal.slice_bounds-part-start
slice_bounds-part-start c =
    let g = c.args in
    let h = start-within g.model.now g.sheet.now g.cuts.now c.in_ok-judge_cut_sheet.ensures in
    search rules

pub returns-then-cuts-count : goal.returns-then-cuts-count
returns-then-cuts-count c =
    let g = c.args in
    let j = c.in_ok-judge_cut_sheet.ensures in
    places-refused g.model.now g.sheet.now g.cuts.now j (part-is g.model.now g.sheet.now g.cuts.now j) c.cut_count-count.ensures.count c.if-cuts-count.true

pub returns : goal.returns
returns c =
    let g = c.args in
    let j = c.in_ok-judge_cut_sheet.ensures in
    filled g.model.now g.sheet.now g.cuts.now j (part-is g.model.now g.sheet.now g.cuts.now j) c.cut_count-count.ensures.count (omega arith) c.fill_cuts.ensures
