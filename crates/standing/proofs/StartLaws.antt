-- The start as it stands in the tables.
use native.Mathlib.Omega.{arith}
use mathlib.Core.Path.{◌≡◌, sym, ◌∙◌}
use mathlib.Core.List.{List}
use Prim.Native.Nat.{ℕ}
use lib.ListN.{length, take, drop, length-drop}
use lib.Seq.{get_or-drop}
use Rattle.std.proofs.lemmas.List.{ext_get_or, get_or-take, length-take-le}
use Rattle.task.specs.Sizes.{limits, start_row, table_places}
use Rattle.task.specs.Task.{Task, State, Accepted}
use Rattle.task.proofs.LoopLaws.{tab-at, tab-length}
use Rattle.blocks.specs.Flat.{past, row_of}
use Rattle.blocks.specs.Masks.{start_in, Stands}
use Rattle.blocks.proofs.MaskLaws.{from_at}
use Rattle.standing.specs.Standing.{at_start}

pub start-stands : (t : Task) → Accepted t → (x : State) (tables : List ℕ) → Stands t x (start_in tables) → Stands t x (at_start tables)
unfolding Stands at_start
start-stands t v x tables s j h =
    tab-at limits.columns (past tables (row_of start_row)) 0 j.0 (omega (arith, v.columns.1)) ∙ sym (from_at start_row tables j.0) ∙ s j h

pub start-long : (tables : List ℕ) → length (at_start tables) ≡ limits.columns
unfolding at_start
start-long tables = tab-length limits.columns (past tables (row_of start_row))

-- the start's row of the tables
pub start-copied : (tables : List ℕ) → length tables ≡ table_places → {here : List ℕ} → here ≡ take limits.columns (drop (row_of start_row) tables) → here ≡ at_start tables
unfolding at_start past
start-copied tables long e =
    let row : List ℕ = take limits.columns (drop (row_of start_row) tables) in
    let wide : length row ≡ limits.columns = length-take-le limits.columns (drop (row_of start_row) tables) (omega (arith, length-drop (row_of start_row) tables)) in
    e
    ∙ ext_get_or 0 row (at_start tables) (wide ∙ sym (start-long tables))
    (λ j h.
    get_or-take limits.columns (drop (row_of start_row) tables) j 0 (omega arith)
    ∙ get_or-drop (row_of start_row) tables j 0
    ∙ sym (tab-at limits.columns (past tables (row_of start_row)) 0 j (omega arith)))
