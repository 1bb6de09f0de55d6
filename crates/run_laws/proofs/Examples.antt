-- Worked runs on bytes, computed: the small re-thread in every room up to 5, without its tape, and runs that are refused.
use Prim.Native.Nat.{ℕ}
use mathlib.Core.Path.{◌≡◌, refl}
use mathlib.Core.List.{List, [], ◌∷◌, ◌++◌, map}
use Rattle.task.specs.Loops as loops
use Rattle.task.specs.Task as task
use Rattle.task.specs.Tables.{marked}
use Rattle.fields.specs.Bits as bits
use Rattle.fields.specs.Judging as judging
use Rattle.fields.specs.Packing as packing
use Rattle.sheets.specs.ModelSheet as sheet
use Rattle.sheets.specs.Holding.{column_said, change_said, step_said, task_in, task_on}
use Rattle.blocks.specs.Blocks as blocks
use Rattle.distances.specs.Distances as distances
use Rattle.run.specs.Run as run
use Rattle.blocks.specs.Flat as flat
use Rattle.run.specs.Listing as listing
use Rattle.sheet_laws.proofs.Examples.{rethread, plain, goal0}
use Rattle.fields.specs.Refusals.{Done, Refused}
use Rattle.running.specs.declared.Answer.TheVariants.{Plan, NoPlan, Open}
use Rattle.running.specs.Running as running
use Rattle.running.specs.Running.{RunOutcome, run_outcome}

-- a run that is asked for: a sheet, a room, and as many places in each list
pub record Asked : Type 0 where
  pub sheet : List ℕ
  pub room : ℕ
  pub cuts : List ℕ
  pub rows : List ℕ

-- lists with room for so many places, each value a 7
pub sevens : ℕ → List ℕ
sevens n = loops.tab n (λ i. 7)

abbrev ask : List ℕ → ℕ → ℕ → ℕ → Asked
ask s room cuts rows = record { sheet = s; room = room; cuts = sevens cuts; rows = sevens rows }

-- the re-thread whose step 2 is `thread`: there is no tape
abbrev without_tape : List ℕ
without_tape =
    0x11 ∷ 0x01 ∷ 0x84 ∷ 0x00 ∷ 0x03 ∷ 0x00 ∷ 0x60 ∷ 0x02 ∷ 0x80 ∷ 0x84 ∷ 0x00 ∷ 0x00 ∷ 0x01 ∷ 0x41 ∷ 0x02 ∷ 0x00 ∷ 0x00 ∷ 0x06 ∷ 0x41
    ∷ 0x00 ∷ 0x10 ∷ 0x60 ∷ []

pub asked : List Asked
asked =
    ask rethread 1 1 1
    ∷ ask rethread 2 4 3
    ∷ ask rethread 4 9 9
    ∷ ask rethread 5 13 14
    ∷ ask without_tape 5 12 12
    ∷ ask plain 1 0 0
    ∷ ask goal0 1 0 0
    -- the sheet comes before the room, and the room before the lists; the lists are judged whatever the answer would be
    ∷ ask (rethread ++ (0 ∷ [])) 0 0 0
    ∷ ask rethread 0 0 0
    ∷ ask rethread 257 0 0
    ∷ ask rethread 5 11 12
    ∷ ask rethread 5 12 11
    ∷ ask plain 2 0 3
    ∷ []

pub answer : Asked → RunOutcome
answer q = running.running q.sheet q.room q.cuts q.rows

abbrev four_cuts : List ℕ
four_cuts = 0 ∷ 1 ∷ 4 ∷ 0 ∷ 0 ∷ 2 ∷ 2 ∷ 1 ∷ 2 ∷ 0 ∷ 1 ∷ 2 ∷ []

pub answered-examples : map answer asked
    ≡ run_outcome (Done (Open 0 1)) (sevens 1) (sevens 1)
    ∷ run_outcome (Done (Open 50 2)) (0 ∷ 1 ∷ 4 ∷ 7 ∷ []) (sevens 3)
    ∷ run_outcome (Done (Open 70 4)) (0 ∷ 1 ∷ 4 ∷ 0 ∷ 0 ∷ 2 ∷ 2 ∷ 1 ∷ 2 ∷ []) (sevens 9)
    ∷ run_outcome (Done (Plan 100 3 5)) (four_cuts ++ (7 ∷ [])) (2 ∷ 30 ∷ 70 ∷ 0 ∷ 20 ∷ 50 ∷ 3 ∷ 50 ∷ 0 ∷ 7 ∷ 7 ∷ 7 ∷ 7 ∷ 7 ∷ [])
    ∷ run_outcome (Done (NoPlan 5)) four_cuts (sevens 12)
    ∷ run_outcome (Done (Plan 0 0 1)) [] []
    ∷ run_outcome (Done (Plan 0 0 1)) [] []
    ∷ run_outcome (Refused 6) [] []
    ∷ run_outcome (Refused 7) [] []
    ∷ run_outcome (Refused 7) [] []
    ∷ run_outcome (Refused 8) (sevens 11) (sevens 12)
    ∷ run_outcome (Refused 8) (sevens 12) (sevens 11)
    ∷ run_outcome (Refused 8) [] (sevens 3)
    ∷ []
unfolding answer asked sevens running.running running.run_checks running.room_checks running.made running.returned listing.listed flat.cut_place listing.row_place
    sheet.sheet_checks sheet.entries sheet.fields_part sheet.header_part sheet.column_part sheet.marks_part sheet.step_part sheet.fill_part sheet.model_bits sheet.column_on sheet.cost_on sheet.marks_on
    sheet.sheet_with sheet.of_sheet judging.outside judging.checks_of judging.◌then◌ judging.refusal judging.judged judging.each packing.bytes_for bits.bit_at bits.field_at
    column_said change_said step_said task_in task_on marked loops.all loops.first loops.tab loops.over
    task.column_count task.step_count task.size_of task.start_at task.goal_at task.cost_of task.change_at task.need_at task.effect_at task.each_column task.per_column
    task.at task.meets task.changed task.start task.can_take task.taken task.is_goal task.costs
    blocks.holds blocks.only blocks.every blocks.common blocks.without blocks.is_empty blocks.set_at blocks.block_at blocks.leads_at blocks.goal_in blocks.with_set
    blocks.cut_block blocks.cut_all blocks.in_block blocks.goal_block blocks.leads blocks.whole blocks.blocks_of blocks.block_of
    distances.leads_to distances.plus distances.zero_far distances.nearer distances.pick distances.least distances.via distances.far_of distances.onward distances.better
    distances.round distances.rounds distances.distances distances.state_far distances.estimate
    run.keeps run.next_hop run.trace run.wanted_at run.allowed run.back_at run.goal_wanted run.need_wanted run.back_wanted run.walk run.cut_column run.cut_for
    run.look_walk run.look_from run.look run.cut_of run.end_of run.refine run.run run.rows run.rows_of run.block_count
answered-examples = refl
