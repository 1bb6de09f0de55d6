-- One hop of the walk on the tables, by what the search for it answers.
use mathlib.Core.Path.{◌≡◌, sym, ap, ◌∙◌}
use mathlib.Core.Bool.{true, false}
use mathlib.Core.List.{List}
use mathlib.Core.Option.{some}
use Prim.Native.Nat.{ℕ, ◌<◌}
use Rattle.std.specs.Prelude as prelude
use Rattle.std.specs.Prelude.{Ok, Err, Some, None}
use Rattle.task.specs.declared.Block.{Block}
use Rattle.masks.specs.declared.Tables.{Tables as CodeTables}
use Rattle.cutting.specs.declared.Blocks.{Blocks as CodeBlocks}
use Rattle.blocks.specs.Masks.{rows_from, lands_in}
use Rattle.trace.specs.declared.Hop.{Hop as CodeHop}
use Rattle.trace.specs.Hops.{next_is, fits_on, hop_of}
use Rattle.trace.proofs.HopLaws.{next-below}
use Rattle.standing.specs.Standing.{takes_by, lands_by, back_row, cut_by}
use Rattle.walk.specs.Walking.{turn_on, turn_by, turn_in}

module _ (ts : CodeTables) (bs : CodeBlocks) (dist : List ℕ) (a : Block) (here : List ℕ) (r : prelude.Option CodeHop) (is : hop_of r ≡ next_is ts bs dist a.0) where
  pub turn-ended : r ≡ None → Ok None ≡ turn_in ts bs dist a here
  unfolding turn_by turn_on hop_of
  turn-ended e = rw (← is, e)

  module _ (h : CodeHop) (to : r ≡ Some h) where
    hop-is : next_is ts bs dist a.0 ≡ some (record { step = h.step; to = h.block })
    unfolding hop_of
    hop-is = sym is ∙ ap hop_of to

    pub hop-below : (h.step.0 < ts.shape.steps) × (h.block.0 < bs.count)
    hop-below = next-below (fits_on ts bs dist a.0) ts.shape.steps bs.count (record { step = h.step; to = h.block }) hop-is

    pub turn-need : takes_by ts.shape.columns ts.rows here h.step.0 ≡ false
        → Err (cut_by ts.shape.columns bs.sets here a (rows_from h.step.0 ts.rows)) ≡ turn_in ts bs dist a here
    unfolding turn_by turn_on
    turn-need n = rw (hop-is, n)

    pub turn-back : takes_by ts.shape.columns ts.rows here h.step.0 ≡ true → lands_by ts.shape.columns (lands_in ts.rows) bs.sets here h.step.0 h.block.0 ≡ false
        → Err (cut_by ts.shape.columns bs.sets here a (back_row ts.rows (lands_in ts.rows) bs.sets h.step.0 h.block.0)) ≡ turn_in ts bs dist a here
    unfolding turn_by turn_on
    turn-back n k = rw (hop-is, n, k)

    pub turn-went : takes_by ts.shape.columns ts.rows here h.step.0 ≡ true → lands_by ts.shape.columns (lands_in ts.rows) bs.sets here h.step.0 h.block.0 ≡ true
        → Ok (Some h) ≡ turn_in ts bs dist a here
    unfolding turn_by turn_on
    turn-went n k = rw (hop-is, n, k)
