use mathlib.Core.Path.{◌≡◌}
use Rattle.cut_sheets.specs.CutPart.{cut_on}
use Rattle.cut_sheets.specs.CutSheet.{cut_values}
use Rattle.fields.specs.Places.{puts}
use Rattle.fields.specs.Judging.{each}
use Rattle.cut_reading.proofs.fill_cuts.Given as goal

abbrev pub invariant-loop-i : goal.invariant-loop-i
invariant-loop-i l = l.cuts ≡ puts 0 (each l.i (cut_values (cut_on l.part))) l.initial.cuts
