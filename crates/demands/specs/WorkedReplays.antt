-- Worked calls of `elhavir_replay`, computed: the log of 02 on the small re-thread after the four cuts of room 5, as bytes, and calls that are refused. A value
-- below zero stands in two's complement.
use Rattle.std.specs.Prelude.{ℕ, ◌+◌, ◌*◌, ◌^◌, ◌≡◌, refl, List, [], ◌∷◌, ◌++◌, map, replicate}
use Rattle.task.specs.Loops as loops
use Rattle.task.specs.Task as task
use Rattle.task.specs.Tables.{marked}
use Rattle.fields.specs.Bits as bits
use Rattle.fields.specs.Judging as judging
use Rattle.fields.specs.Packing as packing
use Rattle.values.specs.Values as values
use Rattle.sheets.specs.ModelSheet as sheet
use Rattle.sheets.specs.Holding.{column_said, change_said, step_said, task_in, task_on}
use Rattle.blocks.specs.Blocks as blocks
use Rattle.distances.specs.Distances as distances
use Rattle.cut_sheets.specs.CutPart as part
use Rattle.cut_sheets.specs.CutSheet as cut
use Rattle.sheet_laws.proofs.Examples.{rethread}
use Rattle.cut_laws.proofs.Examples.{cut_part}
use Rattle.replay.specs.Replay as replay
use Rattle.historian.specs.ReplayEntry as entry
use Rattle.historian.specs.ReplayEntry.{ReplayEntryOutcome, replay_entry_outcome, replay_entry}

-- a log and places for rows
pub record Call : Type 0 where
  pub log : List ℕ
  pub places : List ℕ

abbrev call : List ℕ → List ℕ → Call
call l p = record { log = l; places = p }

-- n bytes
abbrev places : ℕ → List ℕ
places n = replicate n 7

-- a value below 256, and 10 below zero
abbrev byte : ℕ → List ℕ → List ℕ
byte v l = 0 ∷ 0 ∷ 0 ∷ v ∷ l

abbrev below_ten : List ℕ → List ℕ
below_ten l = 255 ∷ 255 ∷ 255 ∷ 246 ∷ l

pub calls : List Call
calls =
    -- a byte more than nine values take
    call (byte 0 (byte 1 (byte 2 []))) (places 37)
    -- bytes short of a whole value are no step, and no place
    ∷ call (byte 0 (0 ∷ 0 ∷ 0 ∷ [])) (places 12)
    ∷ call (byte 0 []) (places 11)
    -- step 300 in the second row; tape at the crawl, before the places
    ∷ call (byte 0 (0 ∷ 0 ∷ 1 ∷ 44 ∷ [])) (places 24)
    ∷ call (byte 0 (byte 2 [])) []
    ∷ []

pub answer : Call → ReplayEntryOutcome
answer c = replay_entry rethread (rethread ++ cut_part) c.log c.places

pub worked : map answer calls
    ≡ replay_entry_outcome (1 * 2 ^ 56 + 3 * 2 ^ 32) (byte 20 (below_ten (byte 30 (byte 10 (byte 10 (byte 0 (byte 30 (byte 30 (byte 0 (7 ∷ []))))))))))
    ∷ replay_entry_outcome (1 * 2 ^ 56 + 1 * 2 ^ 32) (byte 20 (below_ten (byte 30 [])))
    ∷ replay_entry_outcome 8 (places 11)
    ∷ replay_entry_outcome (2 * 2 ^ 32 + 14) (places 24)
    ∷ replay_entry_outcome (2 * 2 ^ 32 + 14) []
    ∷ []
unfolding answer calls entry.replay_entry entry.replay_number values.values_on values.signed_bytes values.bytes_of
    values.bytes_at values.value_bytes values.twos replay.replay_checks replay.log_checks replay.refused replay.row_list replay.row_values replay.figure replay.dash
    replay.detour replay.won replay.difference replay.dashed replay.on_way replay.far replay.has_way replay.paid replay.bad_row replay.bad_at replay.before
    replay.step_at cut.cut_sheet_checks cut.cuts_of task_on cut.tail_of cut.at_front part.cut_entries part.cut_checks part.cut_fields part.cut_header part.cut_part
    part.cut_bits part.cut_on part.cut_part_with part.of_cut_part part.cut_named part.cuts_named sheet.sheet_checks sheet.entries sheet.fields_part sheet.header_part
    sheet.column_part sheet.marks_part sheet.step_part sheet.fill_part sheet.model_bits sheet.column_on sheet.cost_on sheet.marks_on sheet.sheet_with sheet.of_sheet
    judging.outside judging.checks_of judging.◌then◌ judging.refusal judging.judged judging.each packing.bytes_for bits.bit_at bits.field_at column_said
    change_said step_said task_in marked loops.all loops.first loops.tab loops.over task.column_count task.step_count task.size_of task.start_at task.goal_at
    task.cost_of task.change_at task.need_at task.effect_at task.each_column task.per_column task.at task.meets task.changed task.start task.can_take task.taken
    blocks.holds blocks.only blocks.every blocks.common blocks.without blocks.is_empty blocks.set_at blocks.block_at blocks.leads_at blocks.goal_in
    blocks.with_set blocks.cut_block blocks.cut_all blocks.in_block blocks.goal_block blocks.leads blocks.whole blocks.blocks_of blocks.block_of blocks.cut_ok
    distances.leads_to distances.plus distances.zero_far distances.nearer distances.pick distances.least distances.via distances.far_of distances.onward
    distances.better distances.round distances.rounds distances.distances distances.state_far distances.estimate
worked = refl
