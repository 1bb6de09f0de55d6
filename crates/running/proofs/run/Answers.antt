use mathlib.Core.Path.{sym}
use native.Mathlib.Omega.{arith}
use Rattle.std.proofs.lemmas.Result.{err_from_is_err_and}
use Rattle.fields.proofs.RefusalLaws.{number-ne0}
use Rattle.running.proofs.RunningLaws.{sheet-refused, room-refused, fits, columns-read, parted, ready, known, room-for-steps, path-costs, ran}
use Rattle.running.proofs.run.Goals as goal

pub returns-in_err-judge_sheet : goal.returns-in_err-judge_sheet
returns-in_err-judge_sheet c =
    let g = c.args in
    let p = err_from_is_err_and c.from_residual.result c.from_residual.ensures.1 in
    rw (p.1, p.2) (sheet-refused g.sheet.now g.room g.cuts.now g.rows.now c.in_err-judge_sheet.ensures.judged (number-ne0 _))

pub returns-in_err-spare : goal.returns-in_err-spare
returns-in_err-spare c =
    let g = c.args in
    let r = c.from_residual-in_err-spare in
    let p = err_from_is_err_and r.result r.ensures.1 in
    rw (p.1, p.2) (room-refused g.sheet.now g.room g.cuts.now g.rows.now c.in_ok-judge_sheet.ensures.judged c.in_err-spare.ensures.judged (number-ne0 _))

pub fill_whole-requires : goal.fill_whole-requires
fill_whole-requires c =
    let g = c.args in
    let e = c.in_ok-judge_sheet.ensures.judged in
    let j = c.in_ok-spare.ensures.judged in
    (sym e, columns-read g.sheet.now g.room g.cuts.now g.rows.now e j c.prepare.ensures)

pub refine-ended-requires : goal.refine-ended-requires
refine-ended-requires c =
    let g = c.args in
    let e = c.in_ok-judge_sheet.ensures.judged in
    let j = c.in_ok-spare.ensures.judged in
    let f = fits g.sheet.now g.room g.cuts.now g.rows.now e j in
    let n = c.fill_whole.ensures in
    let r = c.in_ok-spare.ensures.spared in
    record { few = omega (arith, f.few, f.some, r); room = rw r f.cuts_fit; first = ready g.sheet.now g.room g.cuts.now g.rows.now e j c.prepare.ensures _ _ n.alone n.every }

pub tell-requires : goal.tell-requires
tell-requires c =
    let g = c.args in
    let e = c.in_ok-judge_sheet.ensures.judged in
    let j = c.in_ok-spare.ensures.judged in
    let p = c.prepare.ensures in
    let n = c.fill_whole.ensures in
    let w = rw c.in_ok-spare.ensures.spared at (c.refine-ended.ensures _ p.tabled (parted g.sheet.now g.room g.cuts.now g.rows.now e j p _ _ n.alone n.every)) in
    record { known = known g.sheet.now g.room g.cuts.now g.rows.now e j p w; room = room-for-steps g.sheet.now g.room g.cuts.now g.rows.now e j p w }

pub returns : goal.returns
returns c =
    let g = c.args in
    let e = c.in_ok-judge_sheet.ensures.judged in
    let j = c.in_ok-spare.ensures.judged in
    let p = c.prepare.ensures in
    let n = c.fill_whole.ensures in
    let w = rw c.in_ok-spare.ensures.spared at (c.refine-ended.ensures _ p.tabled (parted g.sheet.now g.room g.cuts.now g.rows.now e j p _ _ n.alone n.every)) in
    ran g.sheet.now g.room g.cuts.now g.rows.now e j p w (c.tell.ensures _ (path-costs g.sheet.now g.room g.cuts.now g.rows.now e j p w))
