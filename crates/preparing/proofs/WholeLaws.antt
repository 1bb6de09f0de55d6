-- Block 0, from the sizes on a sheet.
use Prim.Native.Nat.{ℕ, ◌≤◌, ◌<◌}
use native.Mathlib.Omega.{arith}
use mathlib.Core.Path.{◌≡◌, sym, ap, ◌∙◌, subst}
use mathlib.Core.List.{List, [], ◌∷◌}
use lib.ListN.{length}
use Rattle.task.specs.Loops.{tab, over}
use Rattle.task.specs.Sizes.{limits, block_places}
use Rattle.task.specs.Task.{ColumnEntry, Accepted, no_column, column, column_count, size_of, per_column}
use Rattle.task.proofs.LoopLaws.{tab-ext}
use Rattle.blocks.specs.Blocks.{PositionSet, every, whole}
use Rattle.blocks.specs.Flat.{blocks_in}
use Rattle.blocks.proofs.FlatLaws.{first-long, first_made}
use Rattle.sheets.specs.ModelSheet.{columns_of, column_on, sheet_with, of_sheet, judge_sheet}
use Rattle.sheets.specs.Holding.{column_said, task_on}
use Rattle.unpack.specs.Unpacking.{size_on}
use Rattle.sheets.proofs.HeldTaskLaws.{accepted-task, columns-said, column-said}

unfoldable pub whole_on : List ℕ → ℕ → PositionSet
whole_on m j = every (size_on m j)

pub accepted-on : (m : List ℕ) → judge_sheet m ≡ 0 → Accepted (task_on m)
unfolding task_on
accepted-on m ok = accepted-task m ok

module _ (m : List ℕ) where
  size-on : (j : ℕ) → j < columns_of m → size_of (task_on m) (column j) ≡ size_on m j
  unfolding task_on size_of size_on no_column column_said of_sheet sheet_with column_on
  size-on j h = ap (λ (c : ColumnEntry). c.size) (column-said (of_sheet m) j h)

  pub columns-on : column_count (task_on m) ≡ columns_of m
  unfolding task_on of_sheet sheet_with
  columns-on = columns-said (of_sheet m)

  pub whole-on : tab (columns_of m) (whole_on m) ≡ whole (task_on m)
  unfolding whole per_column whole_on
  whole-on = rw columns-on (tab-ext (columns_of m) _ _ (λ j h. ap every (sym (size-on j h))))

  module _ {columns : ℕ} (w : columns ≡ columns_of m) where
    pub wide : column_count (task_on m) ≡ columns
    wide = columns-on ∙ sym w

    -- block 0 alone stands in the array
    pub whole-made : (sets : List ℕ) {next : List ℕ} → next ≡ over (whole (task_on m)) sets → blocks_in columns 1 next ≡ whole (task_on m) ∷ []
    whole-made sets n =
        ap (blocks_in columns 1) n ∙ subst (λ (k : ℕ). blocks_in k 1 (over (whole (task_on m)) sets) ≡ whole (task_on m) ∷ []) wide (first_made (task_on m) sets)

    module _ (ok : judge_sheet m ≡ 0) where
      pub columns-small : columns ≤ limits.columns
      columns-small = let k = (accepted-on m ok).columns.1 in omega (arith, w, columns-on, k)

      -- a size that was read
      pub size_small : (j : ℕ) → j < columns → {r : ℕ} → r ≡ size_on m j → r ≤ limits.positions
      size_small j h e = let k = ((accepted-on m ok).sizes (column j) (omega (arith, h, w, columns-on))).1 in omega (arith, e, size-on j (omega (arith, h, w)), k)

      pub whole_long : (sets : List ℕ) {next : List ℕ} → length sets ≡ block_places → next ≡ over (whole (task_on m)) sets → length next ≡ block_places
      whole_long sets l n = let k = (accepted-on m ok).columns.1 in ap length n ∙ first-long (task_on m) sets (omega (arith, k, l)) ∙ l
