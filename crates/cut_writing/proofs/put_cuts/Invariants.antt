use mathlib.Core.Path.{◌≡◌}
use lib.ListN.{length}
use Rattle.task.specs.Task.{Task}
use Rattle.fields.specs.Judging.{each}
use Rattle.fields.specs.Packing.{packed}
use Rattle.cut_sheets.specs.CutPart.{cut_part}
use Rattle.cut_sheets.specs.CutSheet.{cut_lent}
use Rattle.cut_writing.proofs.put_cuts.Given as goal

abbrev pub invariant-loop-i : goal.invariant-loop-i
invariant-loop-i l = record {
  long : length l.out ≡ length l.initial.out;
  put : (t : Task) → l.out ≡ packed 12 (each l.i (cut_part t (cut_lent l.cuts))) l.initial.out;
}
