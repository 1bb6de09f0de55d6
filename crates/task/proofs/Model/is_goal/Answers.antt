use mathlib.Core.Path.{sym, ◌∙◌}
use Prim.Native.Nat.{ℕ}
use Rattle.std.specs.Prelude as maybe
use borrow.Author.Rules.{rules}
use lib.ListN.{get_or}
use Rattle.task.specs.Task.{at, column, meets}
use Rattle.task.specs.Tables.{marked}
use Rattle.task.proofs.TableLaws.{is-goal-row}
use Rattle.task.proofs.RangeLaws.{all-ran}
use Rattle.task.proofs.Model.is_goal.Goals as goal

pub returns : goal.returns
unfolding at
returns c =
    let g = c.args in
    let m = g.self.now in
    all-ran (λ (j : ℕ). meets (marked (get_or m.goal j maybe.None)) (at g.state (column j))) c.all.ensures.ran (λ x q k. search rules) (λ x q k. search rules) ∙ sym (is-goal-row m g.state)
