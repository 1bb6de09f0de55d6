use Prim.Native.Nat.{◌+◌}
use mathlib.Core.Path.{◌≡◌}
use Rattle.task.specs.Task.{Task, column_count}
use Rattle.cut_sheets.specs.Judged.{Made}
use Rattle.cut_sheets.proofs.JudgeLaws.{Going}
use Rattle.cut_sheets.proofs.judge_cuts.Given as goal

abbrev pub invariant-loop-i : goal.invariant-loop-i
invariant-loop-i g l = record {
  counted : l.blocks.count ≡ l.i + 1;
  going : (t : Task) → column_count t ≡ l.columns → Made t (g.C.Cuts.fields l.cuts) l.columns 0 l.fn.blocks → Going t (g.C.Cuts.fields l.cuts) l.columns l.i l.blocks;
}
