use Rattle.lines.specs.Lines.{first_line}
use Rattle.lines.proofs.LineLaws.{join}
use Rattle.lines.proofs.put_first_line.Goals as goal

pub returns-in-Plan : goal.returns-in-Plan
unfolding first_line
returns-in-Plan c =
    let e = c.in-Ok.is in
    let f = c.in-Plan.is in
    let cost = c.from.ensures in
    rw (e, f)
    (join (rw cost at c.put_labelled-a.ensures.put) (join c.put_labelled-b.ensures.put (join c.put_labelled-c.ensures.put c.put_text.ensures)))

pub returns-in-NoPlan : goal.returns-in-NoPlan
unfolding first_line
returns-in-NoPlan c =
    let e = c.in-Ok.is in
    let f = c.in-NoPlan.is in
    rw (e, f) (join c.put_labelled-a-in-NoPlan.ensures.put c.put_text-in-NoPlan.ensures)

pub returns-in-Open : goal.returns-in-Open
unfolding first_line
returns-in-Open c =
    let e = c.in-Ok.is in
    let f = c.in-Open.is in
    let estimate = c.from-in-Open.ensures in
    rw (e, f) (join (rw estimate at c.put_labelled-a-in-Open.ensures.put) (join c.put_labelled-b-in-Open.ensures.put c.put_text-in-Open.ensures))
