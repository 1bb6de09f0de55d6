use Rattle.std.proofs.Common.{refl, sym}
use Rattle.fields.proofs.RefusalLaws.{handed_on, number-ne0}
use Rattle.reading.proofs.ReadingLaws.{sheet-refused, places-refused, enough, held}
use Rattle.reading.proofs.read_model.Goals as goal

pub returns-in_err-shape : goal.returns-in_err-shape
returns-in_err-shape c =
    let a = c.args in
    rw (handed_on _ c.from_residual.ensures.1)
    (sheet-refused a.sheet.now a.frame.now a.costs.now a.marks.now c.in_err-shape.ensures.judged (number-ne0 _))

pub returns-in_err-judge_places : goal.returns-in_err-judge_places
returns-in_err-judge_places c =
    let a = c.args in
    let ok = c.in_ok-shape.ensures in
    rw (handed_on _ c.from_residual-in_err-judge_places.ensures.1)
    (places-refused a.sheet.now a.frame.now a.costs.now a.marks.now (sym ok.judged) ok.counts.0 ok.counts.1 c.in_err-judge_places.ensures (number-ne0 _))

pub fill_frame-requires : goal.fill_frame-requires
fill_frame-requires c =
    let a = c.args in
    let ok = c.in_ok-shape.ensures in
    (enough a.sheet.now a.frame.now a.costs.now a.marks.now (sym ok.judged) ok.counts.0 ok.counts.1 c.in_ok-judge_places.ensures refl).0

pub fill_costs-requires : goal.fill_costs-requires
fill_costs-requires c =
    let a = c.args in
    let ok = c.in_ok-shape.ensures in
    (enough a.sheet.now a.frame.now a.costs.now a.marks.now (sym ok.judged) ok.counts.0 ok.counts.1 c.in_ok-judge_places.ensures refl).1

pub fill_marks-requires : goal.fill_marks-requires
fill_marks-requires c =
    let a = c.args in
    let ok = c.in_ok-shape.ensures in
    (enough a.sheet.now a.frame.now a.costs.now a.marks.now (sym ok.judged) ok.counts.0 ok.counts.1 c.in_ok-judge_places.ensures refl).2

pub returns : goal.returns
returns c =
    let a = c.args in
    let ok = c.in_ok-shape.ensures in
    held a.sheet.now a.frame.now a.costs.now a.marks.now (sym ok.judged) ok.counts.0 ok.counts.1 c.in_ok-judge_places.ensures refl
    c.fill_frame.ensures c.fill_costs.ensures c.fill_marks.ensures
