-- The examples that 01 marks P, as one statement over one list, and after them models on which a wrong reading of the rules would show. A model is
-- given as 01 gives it, as columns and steps or as a sheet's bytes, and an answer in 01's values: cost, steps and blocks.
use Rattle.std.specs.Prelude.{cond, ◌≡◌, refl, List, [], ◌∷◌, ◌++◌, map, ℕ, eqb, ℤ, pos, neg_ℤ, length}
use Rattle.std.proofs.Math.Option
use Rattle.std.proofs.Math.Option.{Option, none, some}
use Rattle.task.specs.Loops as loops
use Rattle.task.specs.Task as task
use Rattle.task.specs.Task.{Task, ColumnEntry, Change, StepEntry, State, Tenths, column, position, step, block}
use Rattle.task.specs.Tables.{marked}
use Rattle.fields.specs.Bits as bits
use Rattle.fields.specs.Judging as judging
use Rattle.fields.specs.Packing as packing
use Rattle.sheets.specs.ModelSheet as sheet
use Rattle.sheets.specs.Holding.{column_said, change_said, step_said, task_in, task_on}
use Rattle.blocks.specs.declared.Cut.{Cut}
use Rattle.blocks.specs.Blocks as blocks
use Rattle.distances.specs.Distances as distances
use Rattle.replay.specs.Replay as replay
use Rattle.run.specs.declared.Row.{Row}
use Rattle.run.specs.Run as run
use Rattle.run.specs.Run.{block_count, rows_of}
use Rattle.running.specs.declared.Answer.{Answer}
use Rattle.running.specs.declared.Answer.TheVariants.{Plan, NoPlan, Open}
use Rattle.running.specs.Running.{returned}

-- ---- how the examples are written down

infix 80 ◌⇒◌
-- a column: its size, its start, its goal
abbrev sized : ℕ → ℕ → Option ℕ → ColumnEntry
sized n s g = record { size = n; start = position s; goal = Option.map position g }

-- a need and an effect
abbrev ◌⇒◌ : Option ℕ → Option ℕ → Change
n ⇒ e = record { need = Option.map position n; effect = Option.map position e }

-- a column that a step does not touch
abbrev kept : Change
kept = none ⇒ none

abbrev costing : ℕ → List Change → StepEntry
costing c l = record { cost = c; changes = l }

abbrev cut : ℕ → ℕ → ℕ → Cut
cut b j w = record { block = block b; column = column j; wanted = w }

abbrev row : ℕ → ℕ → ℕ → Row
row s n l = record { step = step s; tenths = n; left = l }

-- how a model is given: as a task, or as a sheet's bytes
pub data ModelGiven : Type 0 where
  drawn : Task → ModelGiven
  bytes : List ℕ → ModelGiven

-- the refusal number of what is given, 0 for none
pub refused_of : ModelGiven → ℕ
refused_of (drawn t) = 0
refused_of (bytes s) = sheet.judge_sheet s

-- the task that it is
pub task_of : ModelGiven → Task
task_of (drawn t) = t
task_of (bytes s) = task_on s

-- an example: what is asked, a model, a room and states whose estimates are wanted after the run's cuts;
-- and what is told: the refusal number, the task, the answer, the cuts, the rows, in which a plan's steps stand, and the estimates
pub record Example : Type 0 where
  pub given : ModelGiven
  pub room : ℕ
  pub states : List State
  pub refused : ℕ
  pub model : Task
  pub answer : Answer
  pub cuts : List Cut
  pub rows : List Row
  pub estimates : List (Option Tenths)

abbrev example : List (List ℕ) → List (Option Tenths) → ModelGiven → Task → ℕ → Answer → List Cut → List Row → Example
example xs es g t n a cs rs =
    record { given = g; room = n; states = map (map position) xs; refused = 0; model = t; answer = a; cuts = cs; rows = rs; estimates = es }

abbrev asking : List (List ℕ) → List (Option Tenths) → Task → ℕ → Answer → List Cut → List Row → Example
asking xs es t = example xs es (drawn t) t

abbrev running : Task → ℕ → Answer → List Cut → List Row → Example
running = asking [] []

-- bytes, and the task that they hold
abbrev holding : List ℕ → Task → ℕ → Answer → List Cut → List Row → Example
holding s = example [] [] (bytes s)

-- the same example, with what the definitions tell
pub answered : Example → Example
answered e =
    let t = task_of e.given in
    let o = run.run t e.room in
    record {
      given = e.given;
      room = e.room;
      states = e.states;
      refused = refused_of e.given;
      model = t;
      answer = returned t (block_count o) o.answer;
      cuts = o.made;
      rows = rows_of t o.answer;
      estimates = map (distances.estimate t o.made) e.states;
    }

-- ---- the small re-thread

abbrev crawl : StepEntry
crawl = costing 20 (some 0 ⇒ some 1 ∷ kept ∷ [])

abbrev stop : StepEntry
stop = costing 10 (some 1 ⇒ some 0 ∷ kept ∷ [])

abbrev tape : StepEntry
tape = costing 30 (some 0 ⇒ none ∷ some 0 ⇒ some 1 ∷ [])

abbrev thread : StepEntry
thread = costing 50 (some 1 ⇒ none ∷ some 1 ⇒ some 2 ∷ [])

abbrev drive_and_web : List ColumnEntry
drive_and_web = sized 2 0 none ∷ sized 3 0 (some 2) ∷ []

abbrev rethread : Task
rethread = record { columns = drive_and_web; steps = crawl ∷ stop ∷ tape ∷ thread ∷ [] }

abbrev without_tape : Task
without_tape = record { columns = drive_and_web; steps = crawl ∷ stop ∷ thread ∷ [] }

-- its cuts in order
abbrev c1 : Cut
c1 = cut 0 1 4

abbrev c2 : Cut
c2 = cut 0 0 2

abbrev c3 : Cut
c3 = cut 2 1 2

abbrev c4 : Cut
c4 = cut 0 1 2

-- ---- the other models

-- two free steps, the first of them to itself
abbrev free : Task
free = record { columns = sized 2 0 (some 1) ∷ []; steps = costing 0 (some 0 ⇒ some 0 ∷ []) ∷ costing 0 (some 0 ⇒ some 1 ∷ []) ∷ [] }

-- one column of size 1 and no steps
abbrev one : Option ℕ → Task
one g = record { columns = sized 1 0 g ∷ []; steps = [] }

-- the chain that attains the largest distance: column 0 is gone through from end to end for each position of column 1
abbrev chain : Task
chain = record {
  columns = sized 4 0 (some 3) ∷ sized 2 0 (some 1) ∷ [];
  steps =
      costing 65535 (some 0 ⇒ some 1 ∷ kept ∷ [])
      ∷ costing 65535 (some 1 ⇒ some 2 ∷ kept ∷ [])
      ∷ costing 65535 (some 2 ⇒ some 3 ∷ kept ∷ [])
      ∷ costing 65535 (some 3 ⇒ some 0 ∷ some 0 ⇒ some 1 ∷ [])
      ∷ [];
}

abbrev chain_cuts : List Cut
chain_cuts = cut 0 0 8 ∷ cut 0 0 4 ∷ cut 0 0 2 ∷ cut 1 1 2 ∷ cut 2 1 2 ∷ cut 3 1 2 ∷ []

abbrev chain_rows : List Row
chain_rows = row 0 65535 393210 ∷ row 1 65535 327675 ∷ row 2 65535 262140 ∷ row 3 65535 196605 ∷ row 0 65535 131070 ∷ row 1 65535 65535 ∷ row 2 65535 0 ∷ []

-- ---- models on which a wrong reading of the rules shows

-- the lowest step before the lowest block: the other way round the plan would be 2, 0, 1
abbrev step_first : Task
step_first = record {
  columns = sized 2 0 (some 1) ∷ sized 2 0 (some 0) ∷ sized 2 0 (some 1) ∷ [];
  steps =
      costing 1 (kept ∷ some 1 ⇒ some 0 ∷ kept ∷ [])
      ∷ costing 1 (kept ∷ kept ∷ none ⇒ some 1 ∷ [])
      ∷ costing 1 (some 0 ⇒ some 1 ∷ none ⇒ some 1 ∷ kept ∷ [])
      ∷ [];
}

-- the lowest block for that step: with the highest the run would end open
abbrev block_next : Task
block_next = record {
  columns = sized 2 0 (some 1) ∷ sized 3 0 (some 1) ∷ [];
  steps =
      costing 1 (none ⇒ some 1 ∷ kept ∷ [])
      ∷ costing 1 (kept ∷ some 2 ⇒ some 1 ∷ [])
      ∷ costing 1 (kept ∷ none ⇒ some 1 ∷ [])
      ∷ [];
}

-- a divergence whose next block's set, {0, 2}, reaches outside the block's own, {1, 2}: the last cut lists {2}
abbrev within : Task
within = record {
  columns = sized 3 0 (some 0) ∷ sized 3 0 (some 1) ∷ [];
  steps =
      costing 1 (some 1 ⇒ none ∷ none ⇒ some 1 ∷ [])
      ∷ costing 1 (kept ∷ some 1 ⇒ some 2 ∷ [])
      ∷ costing 1 (kept ∷ some 2 ⇒ some 1 ∷ [])
      ∷ costing 1 (none ⇒ some 1 ∷ kept ∷ [])
      ∷ costing 3 (none ⇒ some 0 ∷ kept ∷ [])
      ∷ [];
}

-- among equal costs the fewer steps: without them the plan would be 1, 0
abbrev fewer_steps : Task
fewer_steps = record {
  columns = sized 3 0 (some 2) ∷ [];
  steps = costing 1 (some 1 ⇒ some 2 ∷ []) ∷ costing 2 (none ⇒ some 1 ∷ []) ∷ costing 3 (none ⇒ some 2 ∷ []) ∷ [];
}

-- ---- the statement

pub list : List Example
list =
    running rethread 1 (Open 0 1) [] []
    ∷ running rethread 2 (Open 50 2) (c1 ∷ []) []
    ∷ running rethread 3 (Open 70 3) (c1 ∷ c2 ∷ []) []
    ∷ running rethread 4 (Open 70 4) (c1 ∷ c2 ∷ c3 ∷ []) []
    ∷ asking ((1 ∷ 0 ∷ []) ∷ (0 ∷ 1 ∷ []) ∷ (0 ∷ 2 ∷ []) ∷ []) (some 110 ∷ some 70 ∷ some 0 ∷ [])
    rethread 5 (Plan 100 3 5) (c1 ∷ c2 ∷ c3 ∷ c4 ∷ []) (row 2 30 70 ∷ row 0 20 50 ∷ row 3 50 0 ∷ [])
    ∷ running without_tape 5 (NoPlan 5) (c1 ∷ c2 ∷ c3 ∷ c4 ∷ []) []
    ∷ running without_tape 4 (Open 70 4) (c1 ∷ c2 ∷ c3 ∷ []) []
    ∷ running free 2 (Plan 0 1 2) (cut 0 0 2 ∷ []) (row 1 0 0 ∷ [])
    ∷ holding (0x10 ∷ 0x80 ∷ 0x02 ∷ 0x00 ∷ 0x00 ∷ []) (one none) 1 (Plan 0 0 1) [] []
    ∷ holding (0x10 ∷ 0x80 ∷ 0x02 ∷ 0x00 ∷ 0x40 ∷ []) (one (some 0)) 1 (Plan 0 0 1) [] []
    ∷ running chain 8 (Plan 458745 7 8) (chain_cuts ++ (cut 0 1 2 ∷ [])) chain_rows
    ∷ running chain 7 (Open 196605 7) chain_cuts []
    ∷ running step_first 6 (Plan 3 3 6) (cut 0 0 2 ∷ cut 1 1 1 ∷ cut 2 2 2 ∷ cut 1 2 2 ∷ cut 0 2 2 ∷ []) (row 1 1 2 ∷ row 2 1 1 ∷ row 0 1 0 ∷ [])
    ∷ running block_next 5 (Plan 2 2 5) (cut 0 0 2 ∷ cut 1 1 2 ∷ cut 0 1 2 ∷ cut 1 1 4 ∷ []) (row 0 1 1 ∷ row 2 1 0 ∷ [])
    ∷ running within 6 (Plan 5 3 6) (cut 0 1 2 ∷ cut 0 0 2 ∷ cut 0 1 4 ∷ cut 1 0 1 ∷ cut 1 0 4 ∷ []) (row 3 1 4 ∷ row 0 1 3 ∷ row 4 3 0 ∷ [])
    ∷ running fewer_steps 3 (Plan 3 1 3) (cut 0 0 4 ∷ cut 0 0 2 ∷ []) (row 2 3 0 ∷ [])
    ∷ []

pub examples : map answered list ≡ list
unfolding answered list refused_of task_of returned sheet.judge_sheet sheet.sheet_checks sheet.entries sheet.fields_part sheet.header_part sheet.column_part
    sheet.marks_part sheet.step_part sheet.fill_part sheet.model_bits sheet.column_on sheet.cost_on sheet.marks_on sheet.sheet_with sheet.of_sheet judging.outside
    judging.checks_of judging.◌then◌ judging.refusal judging.judged judging.each packing.bytes_for bits.bit_at bits.field_at column_said change_said step_said
    task_in task_on marked loops.all loops.first loops.tab task.column_count task.step_count task.size_of task.start_at task.goal_at task.cost_of task.change_at
    task.need_at task.effect_at task.each_column task.per_column task.at task.meets task.changed task.start task.can_take task.taken task.is_goal task.costs
    blocks.holds blocks.only blocks.every blocks.common blocks.without blocks.is_empty blocks.set_at blocks.block_at blocks.leads_at blocks.goal_in
    blocks.with_set blocks.cut_block blocks.cut_all blocks.in_block blocks.goal_block blocks.leads blocks.whole blocks.blocks_of blocks.block_of distances.leads_to
    distances.plus distances.zero_far distances.nearer distances.pick distances.least distances.via distances.far_of distances.onward distances.better
    distances.round distances.rounds distances.distances distances.state_far distances.estimate run.keeps run.next_hop run.trace run.wanted_at run.allowed
    run.back_at run.goal_wanted run.need_wanted run.back_wanted run.walk run.cut_column run.cut_for run.look_walk run.look_from run.look run.cut_of run.end_of
    run.refine run.run run.rows run.rows_of run.block_count
examples = refl

-- ---- N, the number of states that the columns allow: 6 for the small re-thread
pub state-counts :
    map task.state_count (rethread ∷ without_tape ∷ free ∷ one none ∷ chain ∷ step_first ∷ block_next ∷ within ∷ fewer_steps ∷ [])
    ≡ 6 ∷ 6 ∷ 2 ∷ 1 ∷ 8 ∷ 8 ∷ 6 ∷ 9 ∷ 3 ∷ []
unfolding task.state_count task.column_count task.size_of loops.prod
state-counts = refl

-- ---- 02, order 7: replays as one statement over one list

-- a line: the tenths paid, the ground won and the detour; none is a dash
pub record Line : Type 0 where
  pub paid : Tenths
  pub won : Option ℤ
  pub detour : Option ℤ

abbrev line : Tenths → ℤ → ℤ → Line
line p w d = record { paid = p; won = some w; detour = some d }

abbrev dashes : Tenths → Line
dashes p = record { paid = p; won = none; detour = none }

-- what is asked, a model, its cuts and a log; and what is told: the row of refusal 14, 0 for none, and where nothing is refused the lines
pub record Shift : Type 0 where
  pub model : Task
  pub cuts : List Cut
  pub log : List ℕ
  pub stopped : ℕ
  pub lines : List Line

abbrev shift : Task → List Cut → List ℕ → List Line → Shift
shift t cs log l = record { model = t; cuts = cs; log = log; stopped = 0; lines = l }

abbrev stopping : Task → List Cut → List ℕ → ℕ → Shift
stopping t cs log n = record { model = t; cuts = cs; log = log; stopped = n; lines = [] }

pub lines_of : Task → List Cut → List ℕ → List Line
lines_of t cs log = loops.tab (length log) (λ i. record { paid = replay.paid t log i; won = replay.won t cs log i; detour = replay.detour t cs log i })

pub replayed : Shift → Shift
replayed e =
    let n = replay.bad_row e.model e.log in
    record { model = e.model; cuts = e.cuts; log = e.log; stopped = n; lines = cond (eqb n 0) (lines_of e.model e.cuts e.log) [] }

-- step 1 leads to a position from which there is no way, and step 2 stays there
abbrev dead_end : Task
dead_end = record {
  columns = sized 3 0 (some 2) ∷ [];
  steps = costing 5 (some 0 ⇒ some 2 ∷ []) ∷ costing 3 (some 0 ⇒ some 1 ∷ []) ∷ costing 4 (some 1 ⇒ none ∷ []) ∷ costing 7 (some 0 ⇒ none ∷ []) ∷ [];
}

pub shifts : List Shift
shifts =
    -- "On the five blocks of 01 the log 0, 1, 2 gives won -10, 10, 30 and detour 30, 0, 0."
    shift rethread (c1 ∷ c2 ∷ c3 ∷ c4 ∷ []) (0 ∷ 1 ∷ 2 ∷ []) (line 20 (neg_ℤ (pos 10)) (pos 30) ∷ line 10 (pos 10) (pos 0) ∷ line 30 (pos 30) (pos 0) ∷ [])
    -- the plan of room 5; no steps
    ∷ shift rethread (c1 ∷ c2 ∷ c3 ∷ c4 ∷ []) (2 ∷ 0 ∷ 3 ∷ []) (line 30 (pos 30) (pos 0) ∷ line 20 (pos 20) (pos 0) ∷ line 50 (pos 50) (pos 0) ∷ [])
    ∷ shift rethread (c1 ∷ c2 ∷ c3 ∷ c4 ∷ []) [] []
    -- from the row that loses the way on there are dashes; without the cut of {1} it is not seen
    ∷ shift dead_end (cut 0 0 4 ∷ cut 0 0 2 ∷ []) (3 ∷ 1 ∷ 2 ∷ []) (line 7 (pos 0) (pos 7) ∷ dashes 3 ∷ dashes 4 ∷ [])
    ∷ shift dead_end (cut 0 0 4 ∷ []) (3 ∷ 1 ∷ 2 ∷ []) (line 7 (pos 0) (pos 7) ∷ line 3 (pos 0) (pos 3) ∷ line 4 (pos 0) (pos 4) ∷ [])
    -- tape at the crawl; a step that there is not
    ∷ stopping rethread (c1 ∷ c2 ∷ c3 ∷ c4 ∷ []) (0 ∷ 2 ∷ 1 ∷ []) 2
    ∷ stopping rethread (c1 ∷ c2 ∷ c3 ∷ c4 ∷ []) (4 ∷ []) 1
    ∷ []

pub replays : map replayed shifts ≡ shifts
unfolding replayed shifts lines_of replay.bad_row replay.bad_at replay.before replay.step_at replay.paid replay.won replay.detour replay.difference
    replay.dashed replay.on_way replay.far replay.has_way loops.all loops.first loops.tab task.column_count task.step_count task.size_of task.start_at task.goal_at
    task.cost_of task.change_at task.need_at task.effect_at task.each_column task.per_column task.at task.meets task.changed task.start task.can_take task.taken
    blocks.holds blocks.only blocks.every blocks.common blocks.without blocks.is_empty blocks.set_at blocks.block_at blocks.leads_at blocks.goal_in
    blocks.with_set blocks.cut_block blocks.cut_all blocks.in_block blocks.goal_block blocks.leads blocks.whole blocks.blocks_of blocks.block_of distances.leads_to
    distances.plus distances.zero_far distances.nearer distances.pick distances.least distances.via distances.far_of distances.onward distances.better
    distances.round distances.rounds distances.distances distances.state_far distances.estimate
replays = refl
