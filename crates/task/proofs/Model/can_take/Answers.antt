use mathlib.Core.Path.{sym, ◌∙◌}
use Prim.Native.Nat.{ℕ, ◌+◌, ◌*◌}
use Rattle.std.specs.Prelude as maybe
use borrow.Author.Rules.{rules}
use lib.ListN.{get_or}
use Rattle.task.specs.Sizes.{limits}
use Rattle.task.specs.Task.{at, column, meets}
use Rattle.task.specs.Tables.{marked}
use Rattle.task.proofs.TableLaws.{can-take-row}
use Rattle.task.proofs.RangeLaws.{all-ran}
use Rattle.task.proofs.Model.can_take.Goals as goal

pub returns : goal.returns
unfolding at
returns c =
    let g = c.args in
    let m = g.self.now in
    let e = all-ran (λ (j : ℕ). meets (marked (get_or m.need (c.from.result * limits.columns + j) maybe.None)) (at g.state (column j))) c.all.ensures.ran (λ x q k. search rules) (λ x q k. search rules) in
    (rw c.from.ensures at e) ∙ sym (can-take-row m g.step g.state c.requires.1)
