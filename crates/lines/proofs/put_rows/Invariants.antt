use Rattle.std.proofs.Common.{◌+◌, ◌*◌, ◌≤◌}
use Rattle.fields.specs.Judging.{each}
use Rattle.lines.specs.Lines.{line_bytes, row_line, Put}
use Rattle.lines.proofs.put_rows.Given as goal

abbrev pub invariant-loop-i : goal.invariant-loop-i
invariant-loop-i l = record { put : Put l.at (each l.i (row_line l.list)) l.initial.out l.next l.out; short : l.next ≤ l.at + l.i * line_bytes }
