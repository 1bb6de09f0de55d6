-- 01's worked bytes, computed: which sheets are accepted and refused, the tasks that they hold, and the small re-thread as it is written.
use Prim.Native.Nat.{ℕ}
use mathlib.Core.Path.{◌≡◌, refl}
use mathlib.Core.List.{List, [], ◌∷◌, map}
use mathlib.Core.Option.{Option, none, some}
use Rattle.task.specs.declared.Position.{Position}
use Rattle.task.specs.Loops.{tab}
use Rattle.task.specs.Task.{Task, Change, position}
use Rattle.task.specs.Tables.{marked}
use Rattle.fields.specs.Bits.{bit_at, field_at, with_bit, put_bit, put_field}
use Rattle.fields.specs.Judging.{outside, checks_of, ◌then◌, refusal, judged, each}
use Rattle.fields.specs.Packing.{bits_in, packed, zeros, bytes_for, sheet_of}
use Rattle.sheets.specs.ModelSheet.{header_part, column_part, marks_part, step_part, fill_part, fields_part, entries, model_bits, column_on, cost_on, marks_on, sheet_with, of_sheet, sheet_checks, judge_sheet}
use Rattle.sheets.specs.LentTables.{column_in, marks_in, of_tables}
use Rattle.sheets.specs.Holding.{column_said, change_said, step_said, task_in}

-- one column of size 1, no goal, no steps
abbrev pub plain : List ℕ
plain = 0x10 ∷ 0x80 ∷ 0x02 ∷ 0x00 ∷ 0x00 ∷ []

-- the same with goal 0
abbrev pub goal0 : List ℕ
goal0 = 0x10 ∷ 0x80 ∷ 0x02 ∷ 0x00 ∷ 0x40 ∷ []

-- the small re-thread
abbrev pub rethread : List ℕ
rethread =
    0x11 ∷ 0x02 ∷ 0x04 ∷ 0x00 ∷ 0x03 ∷ 0x00 ∷ 0x60 ∷ 0x02 ∷ 0x80 ∷ 0x84 ∷ 0x00 ∷ 0x00 ∷ 0x01 ∷ 0x41 ∷ 0x02 ∷ 0x00 ∷ 0x00 ∷ 0x03 ∷ 0xc0
    ∷ 0x80 ∷ 0x08 ∷ 0x40 ∷ 0x06 ∷ 0x41 ∷ 0x00 ∷ 0x10 ∷ 0x60 ∷ []

abbrev sheets : List (List ℕ)
sheets =
    plain
    ∷ goal0
    ∷ rethread
    -- 17 columns; 129 steps; size 33; goal mark 2 on size 1; start 1 on size 1
    ∷ (0x18 ∷ 0x80 ∷ 0x00 ∷ [])
    ∷ (0x10 ∷ 0xc0 ∷ 0x80 ∷ [])
    ∷ (0x10 ∷ 0x80 ∷ 0x42 ∷ [])
    ∷ (0x10 ∷ 0x80 ∷ 0x02 ∷ 0x00 ∷ 0x80 ∷ [])
    ∷ (0x10 ∷ 0x80 ∷ 0x02 ∷ 0x10 ∷ 0x00 ∷ [])
    -- no columns; form 2; no byte; an end inside the columns' number; an end inside the goal mark; a fill bit that is 1; a byte that follows
    ∷ (0x10 ∷ 0x00 ∷ 0x00 ∷ [])
    ∷ (0x20 ∷ 0x80 ∷ 0x02 ∷ 0x00 ∷ 0x00 ∷ [])
    ∷ []
    ∷ (0x10 ∷ [])
    ∷ (0x10 ∷ 0x80 ∷ 0x02 ∷ 0x00 ∷ [])
    ∷ (0x10 ∷ 0x80 ∷ 0x02 ∷ 0x00 ∷ 0x01 ∷ [])
    ∷ (0x10 ∷ 0x80 ∷ 0x02 ∷ 0x00 ∷ 0x40 ∷ 0x00 ∷ [])
    ∷ []

-- their refusal numbers
pub judged-examples : map judge_sheet sheets ≡ 0 ∷ 0 ∷ 0 ∷ 3 ∷ 3 ∷ 4 ∷ 5 ∷ 5 ∷ 3 ∷ 2 ∷ 1 ∷ 1 ∷ 1 ∷ 6 ∷ 6 ∷ []
unfolding judge_sheet sheet_checks entries fields_part header_part column_part marks_part step_part fill_part model_bits column_on cost_on marks_on sheet_with of_sheet outside checks_of ◌then◌ refusal judged each bytes_for bit_at field_at
judged-examples = refl

-- ---- the tasks of the accepted ones
abbrev at : Option ℕ → Option Position
at none = none
at (some p) = some (position p)

abbrev change : Option ℕ → Option ℕ → Change
change need effect = record { need = at need; effect = at effect }

-- column 0, drive; column 1, web; steps crawl, stop, tape, thread
abbrev small_rethread : Task
small_rethread =
    record {
      columns = record { size = 2; start = position 0; goal = none } ∷ record { size = 3; start = position 0; goal = some (position 2) } ∷ [];
      steps =
          record { cost = 20; changes = change (some 0) (some 1) ∷ change none none ∷ [] }
          ∷ record { cost = 10; changes = change (some 1) (some 0) ∷ change none none ∷ [] }
          ∷ record { cost = 30; changes = change (some 0) none ∷ change (some 0) (some 1) ∷ [] }
          ∷ record { cost = 50; changes = change (some 1) none ∷ change (some 1) (some 2) ∷ [] }
          ∷ [];
    }

abbrev one_column : Option ℕ → Task
one_column g = record { columns = record { size = 1; start = position 0; goal = at g } ∷ []; steps = [] }

abbrev task_on : List ℕ → Task
task_on s = task_in (of_sheet s)

pub task-examples : map task_on (plain ∷ goal0 ∷ rethread ∷ []) ≡ one_column none ∷ one_column (some 0) ∷ small_rethread ∷ []
unfolding task_in column_said change_said step_said model_bits column_on cost_on marks_on sheet_with of_sheet bit_at field_at tab marked
task-examples = refl

-- ---- the small re-thread as it is written
abbrev frame : List ℕ
frame = 2 ∷ 0 ∷ 0 ∷ 3 ∷ 0 ∷ 3 ∷ []

abbrev costs : List ℕ
costs = 20 ∷ 10 ∷ 30 ∷ 50 ∷ []

abbrev marks : List ℕ
marks = 1 ∷ 2 ∷ 0 ∷ 0 ∷ 2 ∷ 1 ∷ 0 ∷ 0 ∷ 1 ∷ 0 ∷ 1 ∷ 2 ∷ 2 ∷ 0 ∷ 2 ∷ 3 ∷ []

pub written-example : sheet_of (entries (of_tables 2 4 frame costs marks)) ≡ rethread
unfolding entries fields_part header_part column_part marks_part step_part fill_part model_bits column_in marks_in of_tables each bytes_for sheet_of bits_in packed zeros put_field put_bit with_bit
written-example = refl
