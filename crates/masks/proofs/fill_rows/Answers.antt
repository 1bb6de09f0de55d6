use native.Mathlib.Omega.{arith}
use native.Mathlib.Nat.{zero-add}
use mathlib.Core.Path.{◌≡◌, sym, ap, ◌∙◌}
use mathlib.Core.List.{List}
use Prim.Native.Nat.{ℕ, ◌+◌}
use Rattle.blocks.specs.Flat.{laid}
use lib.ListN.{length, get_or}
use Rattle.blocks.proofs.FlatLaws.{laid-at}
use Rattle.task.specs.Sizes.{limits, step_places}
use Rattle.blocks.specs.Masks.{want_set, tables_of}
use Rattle.masks.proofs.fill_rows.Goals as goal

pub fill_lands-requires : goal.fill_lands-requires
fill_lands-requires c =
    let m = c.args.model.now in
    let n : length m.need ≡ step_places = omega arith in
    let w = rw n at c.fill_wants.ensures in
    λ i h.
    ap (λ (r : List ℕ). get_or r i 0) w
    ∙ ap (λ (k : ℕ). get_or (laid step_places (want_set m.need) 0 c.args.rows.now) k 0) (sym (zero-add i))
    ∙ laid-at (want_set m.need) 0 c.args.rows.now step_places i h (omega arith)

pub returns : goal.returns
unfolding tables_of
returns c =
    let m = c.args.model.now in
    let n : length m.need ≡ step_places = omega arith in
    let g : length m.goal ≡ limits.columns = omega arith in
    let w = rw n at c.fill_wants.ensures in
    let v = rw g at c.fill_wants-2.ensures in
    rw (← w, ← c.fill_lands.ensures, ← v) c.fill_start.ensures
