use Rattle.std.proofs.Common.{◌≡◌}
use Rattle.fields.specs.Judging.{each}
use Rattle.fields.specs.Places.{puts}
use Rattle.sheets.specs.LentTables.{cost_value}
use Rattle.sheets.specs.ModelSheet.{cost_on}
use Rattle.reading.proofs.fill_costs.Given as goal

abbrev pub invariant-loop-j : goal.invariant-loop-j
invariant-loop-j l = l.costs ≡ puts 0 (each l.j (cost_value (cost_on l.sheet.bytes.now l.sheet.shape.columns))) l.initial.costs
