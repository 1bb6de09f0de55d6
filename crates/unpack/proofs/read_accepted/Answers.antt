use native.Mathlib.Omega.{arith}
use Rattle.sheets.proofs.SheetLaws.{part-fine, sheet-fine}
use Rattle.unpack.proofs.read_accepted.Goals as goal

pub invariant_of-fields : goal.invariant_of-fields
invariant_of-fields c =
    let a = c.args.sheet.now in
    let h = part-fine a (sheet-fine a c.requires.accepted).0 in
    record { within = (omega (arith, c.field-columns.ensures, h.columns), omega (arith, c.field-steps.ensures, h.steps)) }
