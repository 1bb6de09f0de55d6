use Prim.Native.Nat.{◌+◌}
use native.Mathlib.Omega.{arith}
use mathlib.Core.Path.{◌≡◌, sym, ◌∙◌}
use lib.ListN.{length, replicate}
use borrow.Author.Rules.{rules}
use Rattle.task.specs.Sizes.{limits, most_values}
use Rattle.sheets.specs.Holding.{task_on}
use Rattle.replay.specs.Replay.{bad_row}
use Rattle.replaying.proofs.ReplayingLaws.{named, unnamed, stopped, few-refused, done}
use Rattle.replaying.proofs.RowsLaws.{stop-known, known_small, cuts-there, estimates-small, rows_written}
use Rattle.replaying.proofs.replay_on.Goals as goal
use Rattle.replaying.proofs.replay_on.Goals.{In_default}

pub returns-in-Some : goal.returns-in-Some
returns-in-Some c =
    let g = c.args in
    let q = c.requires in
    let n = named _ c.in-Some.ensures in
    stopped (task_on g.model.now) _ g.log.now g.rows.now (n.0 ∙ stop-known q.accepted g.log.now c.prepare.ensures c.at_start-here.ensures) n.1

-- no row of the log is bad
good : (c : In_default) → bad_row (task_on c.args.model.now) c.args.log.now ≡ 0
good c = sym (stop-known c.requires.accepted c.args.log.now c.prepare.ensures c.at_start-here.ensures) ∙ unnamed _ c.in_default.ensures

pub returns-then-rows-log : goal.returns-then-rows-log
returns-then-rows-log c =
    let g = c.args in
    few-refused (task_on g.model.now) _ g.log.now g.rows.now (good (goal.at.returns-then-rows-log c).In_default) c.if-rows-log.true

pub fill_along-requires-clause-known : goal.fill_along-requires-clause-known
fill_along-requires-clause-known c =
    known_small c.requires.accepted c.args.log.now c.prepare.ensures c.at_start-here.ensures (good (goal.at.fill_along-requires-clause-known c).In_default)

pub fill_along-requires-clause-measured : goal.fill_along-requires-clause-measured
fill_along-requires-clause-measured c =
    let p = c.prepare.ensures in
    let m = c.measure-count.ensures in
    cuts-there c.requires.accepted c.args.log.now p c.at_start-here.ensures (good (goal.at.fill_along-requires-clause-measured c).In_default) m.counted.0 m.counted.1
    (replicate most_values 0) (omega (arith, m.counted.1)) m.listed
    (replicate limits.blocks 0) (m.measured _ p.tabled.own)

pub put_rows-requires-clause-known : goal.put_rows-requires-clause-known
put_rows-requires-clause-known c =
    let k : length c.prepare.new.tables.costs ≡ limits.steps = search rules in
    λ i h.
    omega (arith, known_small c.requires.accepted c.args.log.now c.prepare.ensures c.at_start-here.ensures (good (goal.at.put_rows-requires-clause-known c).In_default) i h, k)

pub put_rows-requires-clause-low : goal.put_rows-requires-clause-low
put_rows-requires-clause-low c =
    let p = c.prepare.ensures in
    let m = c.measure-count.ensures in
    estimates-small c.requires.accepted c.args.log.now p c.at_start-here.ensures (good (goal.at.put_rows-requires-clause-low c).In_default) m.counted.0 m.counted.1
    (replicate most_values 0) (omega (arith, m.counted.1)) m.listed
    (replicate limits.blocks 0) (m.measured _ p.tabled.own)
    (replicate (limits.log + 1) 0) c.fill_along.ensures

pub returns : goal.returns
returns c =
    let g = c.args in
    let q = c.requires in
    let p = c.prepare.ensures in
    let m = c.measure-count.ensures in
    let b = good (goal.at.returns c).In_default in
    done (task_on g.model.now) _ g.log.now g.rows.now b c.if-rows-log.false
    (rows_written q.accepted g.log.now p c.at_start-here.ensures b m.counted.0 m.counted.1 (replicate most_values 0) (omega (arith, m.counted.1)) m.listed
    (replicate limits.blocks 0) (m.measured _ p.tabled.own) (replicate (limits.log + 1) 0) c.fill_along.ensures g.rows.now c.if-rows-log.false c.put_rows.ensures)
