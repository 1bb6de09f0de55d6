use native.Mathlib.Omega.{arith}
use Rattle.std.proofs.Common.{refl, rules}
use Rattle.replay.specs.Replay.{row_count}
use Rattle.historian.specs.ReplayEntry.{replay_number}
use Rattle.historian.proofs.ReplayEntryLaws.{no-count, rows_few, row-few, rows-go, replayed-in, refused-in}
use Rattle.historian.proofs.replay_in.Goals as goal

pub put_values-requires : goal.put_values-requires
unfolding row_count replay_number
put_values-requires c =
    let g = c.args in
    let h = rows-go g.log.now g.steps.now g.rows.now g.list.now c.told-steps c.told-list c.min-n.ensures c.min-m.ensures c.get_values.ensures g.model.now g.sheet.now
    c.in-Ok.ensures refl in
    record { room = omega (arith, h.room); given = omega (arith, h.given) }

pub returns-in-Ok : goal.returns-in-Ok
unfolding row_count replay_number
returns-in-Ok c =
    let g = c.args in
    replayed-in g.log.now g.steps.now g.rows.now g.list.now c.told-steps c.told-list c.min-n.ensures c.min-m.ensures c.get_values.ensures g.model.now g.sheet.now
    c.in-Ok.ensures refl refl c.put_values.ensures

pub replay_refusal-requires : goal.replay_refusal-requires
unfolding row_count replay_number
replay_refusal-requires c =
    let g = c.args in
    row-few g.log.now g.steps.now g.rows.now g.list.now c.told-steps c.told-list c.min-n.ensures c.min-m.ensures c.get_values.ensures g.model.now g.sheet.now
    c.in-Err.ensures

pub returns-in-Err : goal.returns-in-Err
unfolding row_count replay_number
returns-in-Err c =
    let g = c.args in
    refused-in g.log.now g.steps.now g.rows.now g.list.now c.told-steps c.told-list c.min-n.ensures c.min-m.ensures c.get_values.ensures g.model.now g.sheet.now
    c.in-Err.ensures (no-count c.in-Err.refusal) c.replay_refusal.ensures

pub overflow_mul-count : goal.overflow_mul-count
unfolding row_count
overflow_mul-count c = let g = c.args in let h = rows_few g.log.now g.steps.now g.rows.now g.list.now c.told-steps c.told-list c.min-n.ensures c.min-m.ensures c.get_values.ensures g.model.now g.sheet.now c.in-Ok.ensures in search (rules, h)

pub overflow_mul-result : goal.overflow_mul-result
unfolding row_count
overflow_mul-result c = let g = c.args in let h = rows_few g.log.now g.steps.now g.rows.now g.list.now c.told-steps c.told-list c.min-n.ensures c.min-m.ensures c.get_values.ensures g.model.now g.sheet.now c.in-Ok.ensures in search (rules, h)

pub overflow_add-result : goal.overflow_add-result
unfolding row_count
overflow_add-result c = let g = c.args in let h = rows_few g.log.now g.steps.now g.rows.now g.list.now c.told-steps c.told-list c.min-n.ensures c.min-m.ensures c.get_values.ensures g.model.now g.sheet.now c.in-Ok.ensures in search (rules, h)
