use Rattle.task.specs.Sizes.{step_places, lands_row}
use Rattle.blocks.proofs.FlatLaws.{laid_none, laid-set, laid-outside}
use Rattle.blocks.specs.Flat.{row_of}
use Rattle.blocks.specs.Masks.{want_set, lands_set}
use native.Mathlib.Omega.{arith}
use mathlib.Core.Path.{◌≡◌, sym, ap, ◌∙◌}
use mathlib.Core.Logic.{inl}
use mathlib.Core.List.{List}
use Prim.Native.Nat.{ℕ}
use lib.ListN.{get_or}
use Rattle.masks.proofs.fill_lands.Goals as goal

pub loop-i-init : goal.loop-i-init
loop-i-init c = sym (laid_none _ _ _)

pub loop-i-preserved : goal.loop-i-preserved
unfolding lands_set want_set
loop-i-preserved c =
    let l = c.loop-i in
    let m = c.args.model.now in
    let before : get_or l.rows l.i 0 ≡ want_set m.need l.i =
    ap (λ (r : List ℕ). get_or r l.i 0) l.invariant ∙ laid-outside (lands_set m) (row_of lands_row) c.args.rows.now l.i l.i (inl (omega arith)) ∙ c.requires l.i (omega arith) in
    laid-set _ _ _ l.i _ _ l.invariant (omega arith) (c.land_set.ensures _ before)

pub returns : goal.returns
returns c = let e : c.loop-i.i ≡ step_places = omega arith in rw e at c.loop-i.invariant
