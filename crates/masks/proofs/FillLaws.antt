-- The tables that a model fills are those of its task.
use Prim.Native.Nat.{ℕ}
use mathlib.Core.Path.{◌≡◌}
use mathlib.Core.List.{List}
use lib.ListN.{length}
use Rattle.task.specs.declared.Model.{Model}
use Rattle.task.specs.Sizes.{table_places}
use Rattle.task.specs.Task.{Accepted}
use Rattle.task.specs.Tables.{task_of}
use Rattle.task.proofs.TableLaws.{columns-of, steps_of, cost-of}
use Rattle.blocks.proofs.MaskLaws.{model-told, model-stands}
use Rattle.masks.specs.declared.Tables.{Tables}
use Rattle.masks.specs.Tables.{Tabled, Filled}

pub filled-tabled : (m : Model) (old : List ℕ) {g : Tables} → length old ≡ table_places → Accepted (task_of m) → Filled m old g → Tabled (task_of m) g
filled-tabled m old {g} long v f = record {
  task = v;
  own = record {
    wide = rw f.columns (columns-of m);
    long = rw f.steps (steps_of m);
    told = rw f.rows (model-told m old long v);
    cost = λ s h. rw f.costs (cost-of m s (rw f.steps at h));
  };
  start = rw f.rows (model-stands m old long v);
}
