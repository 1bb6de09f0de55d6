use Rattle.std.proofs.Common.{refl, rules}
use Rattle.running.specs.Counts.{row_count}
use Rattle.rows.proofs.FillLaws.{nothing_put}
use Rattle.rows.proofs.run.Goals as goal

pub returns-in_err-answer : goal.returns-in_err-answer
unfolding row_count
returns-in_err-answer c =
    let x = c.in_err-answer.ensures c.args.rows.now refl in
    let y = c.from_residual.ensures in
    let z = nothing_put c.args.rows.now c.run_for.new.values in
    let k = rw z at x in
    search (rules, k)
