use Rattle.std.proofs.Common.{refl, ◌∙◌}
use Rattle.historian.proofs.AskEntryLaws.{asked-go, asked_in, refused-in}
use Rattle.historian.proofs.ask_in.Goals as goal

pub put_values-requires : goal.put_values-requires
put_values-requires c =
    let g = c.args in
    asked-go g.model.now g.sheet.now g.states.now g.estimates.now g.list.now c.told-list c.min-n.ensures c.in-Ok.ensures refl

pub returns-in-Ok : goal.returns-in-Ok
returns-in-Ok c =
    let g = c.args in
    asked_in g.model.now g.sheet.now g.states.now g.estimates.now g.list.now c.told-list c.min-n.ensures c.in-Ok.ensures refl c.put_values.ensures

pub returns-in-Err : goal.returns-in-Err
returns-in-Err c =
    let g = c.args in
    refused-in g.model.now g.sheet.now g.states.now g.estimates.now g.list.now c.told-list c.min-n.ensures c.in-Err.ensures refl (c.from.ensures ∙ c.number.ensures)
