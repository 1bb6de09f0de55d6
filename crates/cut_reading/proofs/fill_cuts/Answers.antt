use mathlib.Core.Path.{◌≡◌, refl, ap, ◌∙◌}
use native.Mathlib.Omega.{arith}
use lib.ListN.{length}
use Rattle.blocks.specs.Flat.{cut_place}
use Rattle.cut_sheets.specs.CutPart.{cut_on, cut_named}
use Rattle.cut_sheets.specs.CutSheet.{cut_values}
use Rattle.cut_sheets.proofs.CutSheetLaws.{values_length}
use Rattle.fields.proofs.PlaceLaws.{puts_none, puts-next, puts-end, puts-length}
use Rattle.fields.specs.Judging.{each}
use Rattle.cut_reading.proofs.fill_cuts.Goals as goal

pub loop-i-init : goal.loop-i-init
loop-i-init c = puts_none _ _ _

pub put_cut-requires : goal.put_cut-requires
put_cut-requires c =
    let l = c.loop-i in
    let g = c.args in
    let n = puts-length 0 (each l.i (cut_values (cut_on g.part.now))) g.cuts.now in
    (omega (arith, c.requires.few), omega (arith, ap length l.invariant, n, c.requires.room))

pub loop-i-preserved : goal.loop-i-preserved
unfolding cut_values cut_named cut_place
loop-i-preserved c =
    let l = c.loop-i in
    let f = cut_values (cut_on c.args.part.now) in
    let e : cut_place c.read_cut.result ≡ f l.i = rw c.read_cut.ensures refl in
    rw e at c.put_cut.ensures ∙ puts-next f 3 (values_length (cut_on c.args.part.now)) l.i _ l.invariant

pub shape_of-cuts : goal.shape_of-cuts
shape_of-cuts c = ap length c.loop-i.invariant ∙ puts-length _ _ _

pub returns : goal.returns
returns c =
    let l = c.loop-i in
    puts-end 0 _ _ l.i c.args.count (omega arith) (omega arith) l.invariant
