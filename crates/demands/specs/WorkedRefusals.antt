-- Worked refusals of the four functions on sheets, computed: calls with the number that 01's order gives each, 0 for none. 8 comes last, after every field;
-- 1 is told of a field that is missing, and of nothing else; more than 255 cuts are 9 at the count, before any table is looked at.
use Rattle.std.specs.Prelude.{ℕ, ◌≡◌, refl, List, [], ◌∷◌, ◌++◌, map, replicate}
use Rattle.task.specs.Loops as loops
use Rattle.task.specs.Sizes.{limits}
use Rattle.task.specs.Task as task
use Rattle.task.specs.Tables.{marked}
use Rattle.fields.specs.Bits as bits
use Rattle.fields.specs.Judging as judging
use Rattle.fields.specs.Packing as packing
use Rattle.sheets.specs.ModelSheet as sheet
use Rattle.sheets.specs.Holding.{column_said, change_said, step_said, task_in, task_on}
use Rattle.sheets.specs.LentTables as tables
use Rattle.blocks.specs.Blocks as blocks
use Rattle.cut_sheets.specs.CutPart as part
use Rattle.cut_sheets.specs.CutSheet as cut
use Rattle.fields.specs.Refusals.{told_number}
use Rattle.reading.specs.Reading as reading
use Rattle.writing.specs.Writing as writing
use Rattle.cut_reading.specs.Rebuilding as rebuilding
use Rattle.cut_writing.specs.CutWriting as cut_writing

-- ---- how a call is written down

pub data Call : Type 0 where
  reads : (sheet frame costs marks : List ℕ) → Call
  writes : (columns steps : ℕ) (frame costs marks sheet : List ℕ) → Call
  rebuilds : (model sheet cuts : List ℕ) → Call
  writes_cuts : (model : List ℕ) (count : ℕ) (cuts sheet : List ℕ) → Call

-- the number in its outcome
pub number_of : Call → ℕ
number_of (reads s frame costs marks) = told_number (reading.reading s frame costs marks).answer
number_of (writes n m frame costs marks s) = told_number (writing.writing (tables.of_tables n m frame costs marks) s).answer
number_of (rebuilds model s cuts) = rebuilding.number (rebuilding.rebuilding model s cuts).answer
number_of (writes_cuts model count cuts s) = cut_writing.number (cut_writing.writing_cuts model count cuts s).answer

pub record Worked : Type 0 where
  pub call : Call
  pub number : ℕ

infix 80 ◌gets◌
abbrev ◌gets◌ : Call → ℕ → Worked
c gets n = record { call = c; number = n }

-- the same, with what the definitions tell
pub answered : Worked → Worked
answered w = w.call gets number_of w.call

-- a lent table of n places
abbrev places : ℕ → List ℕ
places n = replicate n 9

-- ---- the sheets: one column of size 2, start 0, goal 1; a step of cost 7 from 0 to 1; a cut of {1}
abbrev model : List ℕ
model = 0x10 ∷ 0x80 ∷ 0x84 ∷ 0x00 ∷ 0x80 ∷ 0x01 ∷ 0xc1 ∷ 0x08 ∷ []

-- with goal mark 3
abbrev bad_goal : List ℕ
bad_goal = 0x10 ∷ 0x80 ∷ 0x84 ∷ 0x00 ∷ 0xc0 ∷ 0x01 ∷ 0xc1 ∷ 0x08 ∷ []

-- without its last byte
abbrev half_written : List ℕ
half_written = 0x10 ∷ 0x80 ∷ 0x84 ∷ 0x00 ∷ 0x80 ∷ 0x01 ∷ 0xc1 ∷ []

abbrev one_cut : List ℕ
one_cut = 0x20 ∷ 0x10 ∷ 0x00 ∷ 0x00 ∷ 0x00 ∷ 0x00 ∷ 0x02 ∷ []

-- a cut with the block's full set
abbrev full_cut : List ℕ
full_cut = 0x20 ∷ 0x10 ∷ 0x00 ∷ 0x00 ∷ 0x00 ∷ 0x00 ∷ 0x03 ∷ []

-- ends inside its cut
abbrev half_cut : List ℕ
half_cut = 0x20 ∷ 0x10 ∷ 0x00 ∷ 0x00 ∷ []

abbrev frame : List ℕ
frame = 2 ∷ 0 ∷ 2 ∷ []

abbrev costs : List ℕ
costs = 7 ∷ []

abbrev marks : List ℕ
marks = 1 ∷ 2 ∷ []

-- ---- the statement

pub list : List Worked
list =
    -- read_model: just enough places; each table one place short
    reads model (places 3) (places 1) (places 2) gets 0
    ∷ reads model (places 2) (places 1) (places 2) gets 8
    ∷ reads model (places 3) [] (places 2) gets 8
    ∷ reads model (places 3) (places 1) (places 1) gets 8
    -- whatever the sheet is refused for comes before 8, bytes that follow too
    ∷ reads half_written [] [] [] gets 1
    ∷ reads bad_goal [] [] [] gets 5
    ∷ reads (model ++ (0 ∷ [])) [] [] [] gets 6
    -- write_model: just enough; a byte short
    ∷ writes 1 1 frame costs marks (places 8) gets 0
    ∷ writes 1 1 frame costs marks (places 7) gets 8
    -- the counts come before the tables
    ∷ writes 0 1 [] [] [] [] gets 3
    ∷ writes 17 1 [] [] [] [] gets 3
    ∷ writes 1 129 [] [] [] [] gets 3
    -- each table one place short, before 8
    ∷ writes 1 1 (2 ∷ 0 ∷ []) costs marks [] gets 1
    ∷ writes 1 1 frame [] marks [] gets 1
    ∷ writes 1 1 frame costs (1 ∷ []) [] gets 1
    -- a bad value before a table's end
    ∷ writes 1 1 (33 ∷ []) [] [] [] gets 4
    ∷ writes 1 1 (2 ∷ 2 ∷ []) [] [] [] gets 5
    ∷ writes 1 1 frame costs (3 ∷ []) [] gets 5
    -- rebuild: just enough; a place short
    ∷ rebuilds model (model ++ one_cut) (places 3) gets 0
    ∷ rebuilds model (model ++ one_cut) (places 2) gets 8
    -- whatever the two sheets are refused for comes before 8
    ∷ rebuilds half_written (model ++ one_cut) [] gets 1
    ∷ rebuilds model half_written [] gets 1
    ∷ rebuilds model (0x10 ∷ 0x80 ∷ 0x02 ∷ 0x00 ∷ 0x00 ∷ []) [] gets 10
    ∷ rebuilds model (model ++ half_cut) [] gets 1
    ∷ rebuilds model (model ++ full_cut) [] gets 9
    ∷ rebuilds model (model ++ (one_cut ++ (0 ∷ []))) [] gets 6
    -- write_cuts: just enough; a byte short
    ∷ writes_cuts model 1 (0 ∷ 0 ∷ 2 ∷ []) (places 15) gets 0
    ∷ writes_cuts model 1 (0 ∷ 0 ∷ 2 ∷ []) (places 14) gets 8
    -- the model comes first, then the count, then the cuts, each before 8
    ∷ writes_cuts half_written limits.blocks [] [] gets 1
    ∷ writes_cuts model limits.blocks [] [] gets 9
    ∷ writes_cuts model 2 [] [] gets 1
    ∷ writes_cuts model 1 (0 ∷ 0 ∷ []) [] gets 1
    ∷ writes_cuts model 1 (0 ∷ 0 ∷ 3 ∷ []) [] gets 9
    ∷ writes_cuts model 1 (1 ∷ 0 ∷ 2 ∷ []) [] gets 9
    -- a bad cut before the table's end
    ∷ writes_cuts model 2 (0 ∷ 1 ∷ 2 ∷ []) [] gets 9
    ∷ []

pub worked : map answered list ≡ list
unfolding answered number_of list reading.reading writing.writing rebuilding.number rebuilding.rebuilding cut_writing.number
    cut_writing.writing_cuts tables.column_in tables.marks_in tables.of_tables tables.read_checks tables.write_checks cut.tail_of cut.at_front
    cut.cut_sheet_checks cut.rebuild_checks cut.cut_lent cut.of_cuts cut.given_checks cut.write_cuts_checks part.cut_named part.cuts_named part.cut_header
    part.cut_part part.cut_bits part.cut_fields part.cut_entries part.cut_on part.cut_part_with part.of_cut_part part.cut_checks sheet.sheet_checks sheet.entries
    sheet.fields_part sheet.header_part sheet.column_part sheet.marks_part sheet.step_part sheet.fill_part sheet.model_bits sheet.column_on sheet.cost_on
    sheet.marks_on sheet.sheet_with sheet.of_sheet judging.outside judging.checks_of judging.◌then◌ judging.refusal judging.each packing.bytes_for
    bits.bit_at bits.field_at column_said change_said step_said task_in task_on marked loops.all loops.tab task.column_count task.size_of task.each_column
    task.per_column blocks.every blocks.common blocks.without blocks.is_empty blocks.set_at blocks.block_at blocks.with_set blocks.cut_block blocks.cut_all
    blocks.whole blocks.blocks_of blocks.cut_ok
worked = refl
