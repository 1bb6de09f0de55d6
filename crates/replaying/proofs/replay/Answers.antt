use mathlib.Core.List.{[]}
use borrow.Author.Rules.{rules}
use Rattle.std.proofs.lemmas.Result.{err_from_is_err_and}
use Rattle.fields.proofs.RefusalLaws.{number-ne0}
use Rattle.cut_sheets.specs.CutSheet.{cuts_of}
use Rattle.cut_reading.proofs.RebuildLaws.{start-within, part-is}
use Rattle.replaying.proofs.ReplayingLaws.{sheets-refused, long-refused, fine, ends}
use Rattle.replaying.proofs.replay.Goals as goal

pub returns-in_err-judge_cut_sheet : goal.returns-in_err-judge_cut_sheet
returns-in_err-judge_cut_sheet c =
    let g = c.args in
    let p = err_from_is_err_and c.from_residual.result c.from_residual.ensures.1 in
    rw (p.1, p.2) (sheets-refused g.model.now g.sheet.now g.log.now g.rows.now c.in_err-judge_cut_sheet.ensures (number-ne0 _))

pub returns-then-log-gt-LOG : goal.returns-then-log-gt-LOG
returns-then-log-gt-LOG c =
    let g = c.args in
    long-refused g.model.now g.sheet.now g.log.now g.rows.now c.in_ok-judge_cut_sheet.ensures c.if-log-gt-LOG.true

pub slice_bounds-replay_on-count : goal.slice_bounds-replay_on-count
slice_bounds-replay_on-count c =
    let g = c.args in
    start-within g.model.now g.sheet.now [] c.in_ok-judge_cut_sheet.ensures

pub slice_bounds-replay_on-start : goal.slice_bounds-replay_on-start
slice_bounds-replay_on-start c =
    let g = c.args in
    let h = start-within g.model.now g.sheet.now [] c.in_ok-judge_cut_sheet.ensures in
    search rules

pub replay_on-requires-clause-accepted : goal.replay_on-requires-clause-accepted
replay_on-requires-clause-accepted c =
    let g = c.args in
    let j = c.in_ok-judge_cut_sheet.ensures in
    rw (part-is g.model.now g.sheet.now [] j) (fine g.model.now g.sheet.now g.log.now g.rows.now j)

pub returns : goal.returns
unfolding cuts_of
returns c =
    let g = c.args in
    let j = c.in_ok-judge_cut_sheet.ensures in
    ends g.model.now g.sheet.now g.log.now g.rows.now j c.if-log-gt-LOG.false (rw (part-is g.model.now g.sheet.now [] j) at c.replay_on.ensures)
