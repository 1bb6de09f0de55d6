-- Worked questions on bytes, computed: the estimates of the small re-thread after the four cuts of room 5, and questions that are refused.
use Prim.Native.Nat.{ℕ}
use mathlib.Core.Path.{◌≡◌, refl}
use mathlib.Core.List.{List, [], ◌∷◌, ◌++◌, map}
use Rattle.task.specs.Loops as loops
use Rattle.task.specs.Task as task
use Rattle.task.specs.Tables.{marked}
use Rattle.fields.specs.Bits as bits
use Rattle.fields.specs.Judging as judging
use Rattle.fields.specs.Packing as packing
use Rattle.sheets.specs.ModelSheet as sheet
use Rattle.sheets.specs.Holding.{column_said, change_said, step_said, task_in, task_on}
use Rattle.blocks.specs.Blocks as blocks
use Rattle.distances.specs.Distances as distances
use Rattle.cut_sheets.specs.CutPart as part
use Rattle.cut_sheets.specs.CutSheet as cut
use Rattle.sheet_laws.proofs.Examples.{rethread}
use Rattle.cut_laws.proofs.Examples.{cut_part, no_cuts}
use Rattle.fields.specs.Refusals.{Done, Refused}
use Rattle.asking.specs.Question as question
use Rattle.asking.specs.Question.{QuestionOutcome, question_outcome, asking}

-- a question: a cut part behind the re-thread, states, and places for estimates
pub record Posed : Type 0 where
  pub part : List ℕ
  pub states : List ℕ
  pub places : List ℕ

abbrev pose : List ℕ → List ℕ → List ℕ → Posed
pose p x e = record { part = p; states = x; places = e }

pub posed : List Posed
posed =
    pose cut_part (1 ∷ 0 ∷ 0 ∷ 1 ∷ 0 ∷ 2 ∷ []) (7 ∷ 7 ∷ 7 ∷ 7 ∷ [])
    -- no cuts: every state's block holds a goal state; no states: nothing is written
    ∷ pose no_cuts (1 ∷ 0 ∷ []) (7 ∷ 7 ∷ [])
    ∷ pose cut_part [] (7 ∷ [])
    -- half a state; a position of the size; both sheets come before the states, and those before the places
    ∷ pose cut_part (1 ∷ 0 ∷ 0 ∷ []) (7 ∷ 7 ∷ [])
    ∷ pose cut_part (2 ∷ 0 ∷ []) (7 ∷ [])
    ∷ pose (0x20 ∷ 0x01 ∷ []) (2 ∷ 0 ∷ []) (7 ∷ [])
    ∷ pose cut_part (0 ∷ 0 ∷ 0 ∷ 3 ∷ []) (7 ∷ [])
    ∷ pose cut_part (0 ∷ 0 ∷ 0 ∷ 2 ∷ []) (7 ∷ [])
    ∷ []

pub answer : Posed → QuestionOutcome
answer q = asking rethread (rethread ++ q.part) q.states q.places

pub answered-examples : map answer posed
    ≡ question_outcome (Done 3) (110 ∷ 70 ∷ 0 ∷ 7 ∷ [])
    ∷ question_outcome (Done 1) (0 ∷ 7 ∷ [])
    ∷ question_outcome (Done 0) (7 ∷ [])
    ∷ question_outcome (Refused 11) (7 ∷ 7 ∷ [])
    ∷ question_outcome (Refused 11) (7 ∷ [])
    ∷ question_outcome (Refused 6) (7 ∷ [])
    ∷ question_outcome (Refused 11) (7 ∷ [])
    ∷ question_outcome (Refused 8) (7 ∷ [])
    ∷ []
unfolding answer posed question.asking question.question_checks question.bad_states question.states_in question.estimates_of question.estimate_at question.state_in question.place_in
    cut.cut_sheet_checks cut.cuts_of task_on cut.tail_of cut.at_front part.cut_entries part.cut_checks part.cut_fields part.cut_header part.cut_part part.cut_bits part.cut_on part.cut_part_with part.of_cut_part
    part.cut_named part.cuts_named
    sheet.sheet_checks sheet.entries sheet.fields_part sheet.header_part sheet.column_part sheet.marks_part sheet.step_part sheet.fill_part sheet.model_bits sheet.column_on sheet.cost_on sheet.marks_on
    sheet.sheet_with sheet.of_sheet judging.outside judging.checks_of judging.◌then◌ judging.refusal judging.judged judging.each packing.bytes_for bits.bit_at bits.field_at
    column_said change_said step_said task_in marked loops.all loops.first loops.tab loops.over
    task.column_count task.step_count task.size_of task.start_at task.goal_at task.cost_of task.change_at task.need_at task.effect_at task.each_column task.per_column task.at
    blocks.holds blocks.only blocks.every blocks.common blocks.without blocks.is_empty blocks.set_at blocks.block_at blocks.leads_at blocks.goal_in blocks.with_set
    blocks.cut_block blocks.cut_all blocks.in_block blocks.goal_block blocks.leads blocks.whole blocks.blocks_of blocks.block_of blocks.cut_ok
    distances.leads_to distances.plus distances.zero_far distances.nearer distances.pick distances.least distances.via distances.far_of distances.onward distances.better
    distances.round distances.rounds distances.distances distances.state_far distances.estimate
answered-examples = refl
