use Rattle.std.proofs.Common.{set, sym, ◌∙◌, arith}
use native.Mathlib.Nat.{mul-one}
use Rattle.fields.proofs.FieldLaws.{field_lt, read_at}
use Rattle.fields.proofs.PlaceLaws.{puts_none, puts-next}
use Rattle.fields.specs.Places.{puts}
use Rattle.sheets.proofs.TableLaws.{cost-length}
use Rattle.sheets.specs.LentTables.{cost_value}
use Rattle.sheets.specs.ModelSheet.{cost_on}
use Rattle.reading.proofs.fill_costs.Goals as goal

pub loop-j-init : goal.loop-j-init
loop-j-init c = puts_none _ _ _

pub overflow_cast-costs : goal.overflow_cast-costs
overflow_cast-costs c = omega (arith, field_lt c.args.sheet.now.bytes.now c.model_bits.result 16)

pub loop-j-preserved : goal.loop-j-preserved
unfolding puts cost_value cost_on
loop-j-preserved c =
    let l = c.loop-j in
    let sheet = c.args.sheet.now in
    let cost = read_at sheet.bytes.now 16 c.model_bits.ensures.0 c.field.ensures in
    (λ k. set l.costs (sym (mul-one l.j) k) (cost k))
    ∙ puts-next (cost_value (cost_on sheet.bytes.now sheet.shape.columns)) 1 (cost-length (cost_on sheet.bytes.now sheet.shape.columns)) l.j c.args.costs.now l.invariant
