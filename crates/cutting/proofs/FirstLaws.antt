-- Block 0 of a model: what is written of it, column by column.
use mathlib.Core.Path.{◌≡◌, sym, ap}
use Prim.Native.Nat.{ℕ}
use lib.ListN.{get_or}
use Rattle.task.specs.declared.Model.{Model}
use Rattle.task.specs.Loops.{tab}
use Rattle.task.specs.Task.{column, per_column}
use Rattle.task.specs.Tables.{task_of}
use Rattle.task.proofs.TableLaws.{columns-of, size-of}
use Rattle.task.proofs.LoopLaws.{tab-ext}
use Rattle.blocks.specs.Blocks.{PositionSet, every, whole}

-- what the first row holds
unfoldable pub first_set : Model → ℕ → PositionSet
first_set m j = every (get_or m.size j 0)

pub first-whole : (m : Model) → tab m.columns (first_set m) ≡ whole (task_of m)
unfolding whole per_column first_set
first-whole m = rw (columns-of m) (tab-ext m.columns _ _ (λ j h. ap every (sym (size-of m (column j) h))))
