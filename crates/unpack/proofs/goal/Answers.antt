use Prim.Native.Nat.{ℕ, ◌+◌}
use mathlib.Core.Path.{ap, ◌∙◌}
use Rattle.task.specs.Tables.{mark}
use Rattle.fields.specs.Bits.{field_at}
use Rattle.unpack.specs.Unpacking.{goal_on}
use Rattle.unpack.proofs.goal.Goals as goal

pub returns : goal.returns
unfolding goal_on
returns c = c.mark.ensures ∙ ap (λ (x : ℕ). mark (field_at c.args.s.now (x + 6 + 5) 6)) c.column_bits.ensures.0
