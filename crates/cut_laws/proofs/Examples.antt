-- Worked bytes of cut sheets, computed: the cut part of the small re-thread after the four cuts of room 5, and sheets that are refused.
use Prim.Native.Nat.{ℕ}
use mathlib.Core.Path.{◌≡◌, refl}
use mathlib.Core.List.{List, [], ◌∷◌, ◌++◌, map}
use Rattle.task.specs.Loops as loops
use Rattle.task.specs.Task as task
use Rattle.task.specs.Tables.{marked}
use Rattle.fields.specs.Bits as bits
use Rattle.fields.specs.Judging as judging
use Rattle.fields.specs.Packing as packing
use Rattle.fields.specs.Packing.{sheet_of}
use Rattle.sheets.specs.ModelSheet as sheet
use Rattle.sheets.specs.Holding.{column_said, change_said, step_said, task_in, task_on}
use Rattle.blocks.specs.Blocks as blocks
use Rattle.sheet_laws.proofs.Examples.{rethread}
use Rattle.cut_sheets.specs.CutPart as part
use Rattle.cut_sheets.specs.CutPart.{cut_entries}
use Rattle.cut_sheets.specs.CutSheet as cut
use Rattle.cut_sheets.specs.CutSheet.{of_cuts, cut_sheet_checks, cut_list}

-- the four cuts: block, column, wanted set for each
abbrev four : List ℕ
four = 0 ∷ 1 ∷ 4 ∷ 0 ∷ 0 ∷ 2 ∷ 2 ∷ 1 ∷ 2 ∷ 0 ∷ 1 ∷ 2 ∷ []

abbrev pub cut_part : List ℕ
cut_part =
    0x20 ∷ 0x40 ∷ 0x01 ∷ 0x00 ∷ 0x00 ∷ 0x00 ∷ 0x04 ∷ 0x00 ∷ 0x00 ∷ 0x00 ∷ 0x00 ∷ 0x00 ∷ 0x20 ∷ 0x21 ∷ 0x00 ∷ 0x00 ∷ 0x00 ∷ 0x02 ∷ 0x00
    ∷ 0x10 ∷ 0x00 ∷ 0x00 ∷ 0x00 ∷ 0x20 ∷ []

pub written : sheet_of (cut_entries (task_on rethread) (of_cuts 4 four)) ≡ cut_part
unfolding task_on of_cuts cut_entries cut.cut_lent part.cut_fields part.cut_header part.cut_part part.cut_bits sheet.fill_part judging.each judging.outside
    packing.sheet_of packing.packed packing.bits_in packing.zeros packing.bytes_for bits.put_field bits.put_bit bits.with_bit
written = refl

pub listed : cut_list (rethread ++ cut_part) ≡ four
unfolding cut_list cut.cut_values cut.tail_of part.cut_bits part.cut_on judging.each bits.field_at bits.bit_at sheet.model_bits packing.bytes_for
listed = refl

-- ---- sheets against a given model, and their refusal numbers
abbrev two : List ℕ
two = 0x11 ∷ 0x00 ∷ 0x04 ∷ 0x00 ∷ 0x02 ∷ 0x08 ∷ 0x00 ∷ []

-- the same two columns of size 2, each in the other's place
abbrev moved : List ℕ
moved = 0x11 ∷ 0x00 ∷ 0x04 ∷ 0x10 ∷ 0x02 ∷ 0x00 ∷ 0x00 ∷ []

abbrev pub no_cuts : List ℕ
no_cuts = 0x20 ∷ 0x00 ∷ []

pub record Asked : Type 0 where
  pub model : List ℕ
  pub sheet : List ℕ

abbrev ask : List ℕ → List ℕ → Asked
ask m s = record { model = m; sheet = s }

pub asked : List Asked
asked =
    ask rethread (rethread ++ cut_part)
    ∷ ask rethread (rethread ++ no_cuts)
    -- a moved column of equal size; a model that differs in its goal alone
    ∷ ask two (moved ++ no_cuts)
    ∷ ask (0x10 ∷ 0x80 ∷ 0x02 ∷ 0x00 ∷ 0x00 ∷ []) ((0x10 ∷ 0x80 ∷ 0x02 ∷ 0x00 ∷ 0x40 ∷ []) ++ no_cuts)
    -- a cut with the block's full set; with an empty one; with a position outside; of a block not yet made; of a column that isn't there
    ∷ ask rethread (rethread ++ (0x20 ∷ 0x10 ∷ 0x01 ∷ 0x00 ∷ 0x00 ∷ 0x00 ∷ 0x07 ∷ []))
    ∷ ask rethread (rethread ++ (0x20 ∷ 0x10 ∷ 0x01 ∷ 0x00 ∷ 0x00 ∷ 0x00 ∷ 0x00 ∷ []))
    ∷ ask rethread (rethread ++ (0x20 ∷ 0x10 ∷ 0x01 ∷ 0x00 ∷ 0x00 ∷ 0x00 ∷ 0x0c ∷ []))
    ∷ ask rethread (rethread ++ (0x20 ∷ 0x10 ∷ 0x11 ∷ 0x00 ∷ 0x00 ∷ 0x00 ∷ 0x04 ∷ []))
    ∷ ask rethread (rethread ++ (0x20 ∷ 0x10 ∷ 0x02 ∷ 0x00 ∷ 0x00 ∷ 0x00 ∷ 0x01 ∷ []))
    -- the cut part's form; its end before its count, and inside a cut; a fill bit; a byte that follows; a bad given model
    ∷ ask rethread (rethread ++ (0x10 ∷ 0x00 ∷ []))
    ∷ ask rethread rethread
    ∷ ask rethread (rethread ++ (0x20 ∷ 0x10 ∷ 0x01 ∷ 0x00 ∷ 0x00 ∷ 0x00 ∷ []))
    ∷ ask rethread (rethread ++ (0x20 ∷ 0x01 ∷ []))
    ∷ ask rethread (rethread ++ (0x20 ∷ 0x00 ∷ 0x00 ∷ []))
    ∷ ask (0x20 ∷ []) (rethread ++ no_cuts)
    ∷ []

pub judge : Asked → ℕ
judge q = judging.refusal (cut_sheet_checks q.model q.sheet)

pub judged-examples : map judge asked ≡ 0 ∷ 0 ∷ 10 ∷ 10 ∷ 9 ∷ 9 ∷ 9 ∷ 9 ∷ 9 ∷ 2 ∷ 1 ∷ 1 ∷ 6 ∷ 6 ∷ 2 ∷ []
unfolding judge asked cut_sheet_checks task_on cut.tail_of cut.at_front cut_entries part.cut_checks part.cut_fields part.cut_header part.cut_part part.cut_bits part.cut_on part.cut_part_with part.of_cut_part part.cut_named
    part.cuts_named sheet.sheet_checks sheet.entries sheet.fields_part sheet.header_part sheet.column_part sheet.marks_part sheet.step_part sheet.fill_part sheet.model_bits sheet.column_on sheet.cost_on sheet.marks_on
    sheet.sheet_with sheet.of_sheet judging.outside judging.checks_of judging.◌then◌ judging.refusal judging.judged judging.each packing.bytes_for bits.bit_at bits.field_at
    column_said change_said step_said task_in marked loops.all loops.tab task.column_count task.size_of task.each_column task.per_column
    blocks.every blocks.common blocks.without blocks.is_empty blocks.set_at blocks.block_at blocks.with_set blocks.cut_block blocks.cut_all blocks.whole blocks.blocks_of blocks.cut_ok
judged-examples = refl
