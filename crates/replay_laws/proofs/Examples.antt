-- Worked replays on bytes, computed: the log of 02 on the small re-thread after the four cuts of room 5, its plan, a log that loses its way, and replays that
-- are refused.
use Prim.Native.Nat.{ℕ, ◌+◌}
use mathlib.Core.Path.{◌≡◌, refl}
use mathlib.Core.List.{List, [], ◌∷◌, ◌++◌, map}
use lib.IntN.{ℤ, pos, negsuc}
use lib.ListN.{replicate}
use Rattle.task.specs.Loops as loops
use Rattle.task.specs.Sizes.{limits}
use Rattle.task.specs.Task as task
use Rattle.task.specs.Tables.{marked}
use Rattle.fields.specs.Bits as bits
use Rattle.fields.specs.Judging as judging
use Rattle.fields.specs.Packing as packing
use Rattle.sheets.specs.ModelSheet as sheet
use Rattle.sheets.specs.Holding.{column_said, change_said, step_said, task_in, task_on}
use Rattle.blocks.specs.Blocks as blocks
use Rattle.distances.specs.Distances as distances
use Rattle.cut_sheets.specs.CutPart as part
use Rattle.cut_sheets.specs.CutSheet as cut
use Rattle.sheet_laws.proofs.Examples.{rethread}
use Rattle.cut_laws.proofs.Examples.{cut_part}
use Rattle.replay.specs.Replay as replay
use Rattle.replay.specs.Replay.{Rows, Stopped, Refused, dash, ReplayOutcome, replay_outcome, replaying}

-- a replay: a model, a cut part behind it, a log, and places for rows
pub record Posed : Type 0 where
  pub model : List ℕ
  pub part : List ℕ
  pub log : List ℕ
  pub places : List ℤ

abbrev pose : List ℕ → List ℕ → List ℕ → List ℤ → Posed
pose m p l e = record { model = m; part = p; log = l; places = e }

-- n places
abbrev places : ℕ → List ℤ
places n = replicate n (pos 7)

-- one column of three positions, from 0 to 2. Step 0 goes there, step 1 goes to 1, from where there is no way; step 2 stays at 1, step 3 at 0
abbrev dead_end : List ℕ
dead_end =
    0x10 ∷ 0x82 ∷ 0x06 ∷ 0x00 ∷ 0xc0 ∷ 0x01 ∷ 0x41 ∷ 0x0c ∷ 0x00 ∷ 0x0c ∷ 0x10 ∷ 0x80 ∷ 0x01 ∷ 0x02 ∷ 0x00 ∷ 0x00 ∷ 0x1c ∷ 0x10 ∷ 0x00 ∷ []

-- cuts of {2} and of {1}
abbrev dead_end_cuts : List ℕ
dead_end_cuts = 0x20 ∷ 0x20 ∷ 0x00 ∷ 0x00 ∷ 0x00 ∷ 0x00 ∷ 0x04 ∷ 0x00 ∷ 0x00 ∷ 0x00 ∷ 0x00 ∷ 0x00 ∷ 0x20 ∷ []

-- a fill bit that is 1
abbrev bad_part : List ℕ
bad_part = 0x20 ∷ 0x01 ∷ []

pub posed : List Posed
posed =
    pose rethread cut_part (0 ∷ 1 ∷ 2 ∷ []) (places 10)
    -- the plan, which costs the start's estimate; no steps: nothing is written
    ∷ pose rethread cut_part (2 ∷ 0 ∷ 3 ∷ []) (places 9)
    ∷ pose rethread cut_part [] (places 1)
    -- from the row that loses the way on every row has dashes
    ∷ pose dead_end dead_end_cuts (3 ∷ 1 ∷ 2 ∷ []) (places 9)
    -- a step that there is not; one that cannot be taken, in the first row and in the second
    ∷ pose rethread cut_part (0 ∷ 300 ∷ []) (places 6)
    ∷ pose rethread cut_part (1 ∷ []) (places 3)
    ∷ pose rethread cut_part (0 ∷ 0 ∷ 300 ∷ []) []
    -- both sheets come before the log, its length before its rows, and those before the places
    ∷ pose rethread bad_part (300 ∷ []) []
    ∷ pose rethread cut_part (replicate (limits.log + 1) 0) []
    ∷ pose rethread cut_part (0 ∷ 1 ∷ 2 ∷ []) (places 8)
    ∷ []

pub answer : Posed → ReplayOutcome
answer q = replaying q.model (q.model ++ q.part) q.log q.places

pub replayed-examples : map answer posed
    ≡ replay_outcome (Rows 3) (pos 20 ∷ negsuc 9 ∷ pos 30 ∷ pos 10 ∷ pos 10 ∷ pos 0 ∷ pos 30 ∷ pos 30 ∷ pos 0 ∷ pos 7 ∷ [])
    ∷ replay_outcome (Rows 3) (pos 30 ∷ pos 30 ∷ pos 0 ∷ pos 20 ∷ pos 20 ∷ pos 0 ∷ pos 50 ∷ pos 50 ∷ pos 0 ∷ [])
    ∷ replay_outcome (Rows 0) (pos 7 ∷ [])
    ∷ replay_outcome (Rows 3) (pos 7 ∷ pos 0 ∷ pos 7 ∷ pos 3 ∷ dash ∷ dash ∷ pos 4 ∷ dash ∷ dash ∷ [])
    ∷ replay_outcome (Stopped 2) (places 6)
    ∷ replay_outcome (Stopped 1) (places 3)
    ∷ replay_outcome (Stopped 2) []
    ∷ replay_outcome (Refused 6) []
    ∷ replay_outcome (Refused 15) []
    ∷ replay_outcome (Refused 8) (places 8)
    ∷ []
unfolding answer posed replay.replaying replay.replay_checks replay.log_checks replay.refused replay.row_list replay.row_values replay.figure replay.dash
    replay.detour replay.won replay.difference replay.dashed replay.on_way replay.far replay.has_way replay.paid replay.bad_row replay.bad_at replay.before
    replay.step_at cut.cut_sheet_checks cut.cuts_of task_on cut.tail_of cut.at_front part.cut_entries part.cut_checks part.cut_fields part.cut_header part.cut_part
    part.cut_bits part.cut_on part.cut_part_with part.of_cut_part part.cut_named part.cuts_named sheet.sheet_checks sheet.entries sheet.fields_part sheet.header_part
    sheet.column_part sheet.marks_part sheet.step_part sheet.fill_part sheet.model_bits sheet.column_on sheet.cost_on sheet.marks_on sheet.sheet_with sheet.of_sheet
    judging.outside judging.checks_of judging.◌then◌ judging.refusal judging.judged judging.each packing.bytes_for bits.bit_at bits.field_at column_said
    change_said step_said task_in marked loops.all loops.first loops.tab loops.over task.column_count task.step_count task.size_of task.start_at task.goal_at
    task.cost_of task.change_at task.need_at task.effect_at task.each_column task.per_column task.at task.meets task.changed task.start task.can_take task.taken
    blocks.holds blocks.only blocks.every blocks.common blocks.without blocks.is_empty blocks.set_at blocks.block_at blocks.leads_at blocks.goal_in
    blocks.with_set blocks.cut_block blocks.cut_all blocks.in_block blocks.goal_block blocks.leads blocks.whole blocks.blocks_of blocks.block_of blocks.cut_ok
    distances.leads_to distances.plus distances.zero_far distances.nearer distances.pick distances.least distances.via distances.far_of distances.onward
    distances.better distances.round distances.rounds distances.distances distances.state_far distances.estimate
replayed-examples = refl
