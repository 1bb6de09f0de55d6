-- 01, "A run": the trace, the walk along it, the three flaws, the cut, and the answer with its cuts and rows.
use Rattle.std.specs.Prelude.{Bool, true, false, ◌&&◌, not, List, [], ◌∷◌, ◌++◌, map, ℕ, zero, suc, ◌+◌, ◌-◌, eqb, length, get_or}
use Rattle.std.proofs.Math.Option
use Rattle.std.proofs.Math.Option.{Option, none, some}
use Rattle.task.specs.declared.Column.{Column}
use Rattle.task.specs.declared.Position.{Position}
use Rattle.task.specs.declared.Step.{Step}
use Rattle.task.specs.declared.Block.{Block}
use Rattle.task.specs.Loops.{first, when}
use Rattle.task.specs.Task.{Task, State, Tenths, column, step, block, at, column_count, step_count, size_of, cost_of, need_at, effect_at, goal_at, per_column}
use Rattle.task.specs.Task.{start, can_take, taken, is_goal, costs}
use Rattle.blocks.specs.declared.Cut.{Cut}
use Rattle.blocks.specs.Blocks.{PositionSet, Sets, Blocks, holds, only, every, common, set_at, block_at, in_block, blocks_of, block_of}
use Rattle.distances.specs.Distances.{Distance, Hop, Table, far_of, plus, zero_far, leads_to, distances}
use Rattle.run.specs.declared.Row.{Row}

-- ---- 2. the trace

-- cost and step count, plus this step, give the block's own
unfoldable pub keeps : Distance → Tenths → Option Distance → Bool
keeps d w none = false
keeps d w (some e) = eqb (plus w e).cost d.cost && eqb (plus w e).steps d.steps

module _ (t : Task) (bs : Blocks) where
  -- the lowest step number and, for that step, the lowest block number
  unfoldable pub next_hop : Table → Block → Distance → Option Hop
  next_hop l a d =
      first (step_count t) (λ s. first (length bs) (λ b.
      when (leads_to t bs (step s) a (block b) && keeps d (cost_of t (step s)) (far_of l (block b))) (record { step = step s; to = block b })))

  -- go there and repeat until a goal block, which is n steps away
  unfoldable pub trace : Table → ℕ → Block → List Hop
  trace l zero a = []
  trace l (suc n) a =
      elim (next_hop l a (Option.get_or (far_of l a) zero_far)) [
        | none ↦ []
        | some h ↦ h ∷ trace l n h.to
      ]

-- ---- 3. the walk of the real states along it

-- a wanted set for each column
abbrev pub Wanted : Type 0
Wanted = List PositionSet

unfoldable pub wanted_at : Wanted → Column → PositionSet
wanted_at w j = get_or w j.0 0

-- the position that a goal or a need gives, every position where there is none
unfoldable pub allowed : ℕ → Option Position → PositionSet
allowed size none = every size
allowed size (some p) = only p

-- the next block's set taken back over a step: a need gives that position; otherwise an effect gives every position; with neither, the next block's set
unfoldable pub back_at : ℕ → Option Position → Option Position → PositionSet → PositionSet
back_at size (some n) e b = only n
back_at size none (some e) b = every size
back_at size none none b = b

module _ (t : Task) where
  unfoldable pub goal_wanted : Wanted
  goal_wanted = per_column t (λ j. allowed (size_of t j) (goal_at t j))

  unfoldable pub need_wanted : Step → Wanted
  need_wanted s = per_column t (λ j. allowed (size_of t j) (need_at t s j))

  unfoldable pub back_wanted : Step → Sets → Wanted
  back_wanted s b = per_column t (λ j. back_at (size_of t j) (need_at t s j) (effect_at t s j) (set_at b j))

-- how a walk ends: in a goal state, or with a flaw in a block, at a state, with its wanted sets
pub data Walk : Type 0 where
  arrived : Walk
  flawed : Block → State → Wanted → Walk

module _ (t : Task) (bs : Blocks) where
  -- from state x in block a. At the end: a goal state, or a goal flaw. Before it: a step that can't be taken is a need flaw; a step that lands
  -- outside the trace's next block is a divergence flaw at the state before the step
  unfoldable pub walk : State → Block → List Hop → Walk
  walk x a [] = elim (is_goal t x) [ true ↦ arrived | false ↦ flawed a x (goal_wanted t) ]
  walk x a (h ∷ hs) =
      elim (can_take t h.step x) [
        | false ↦ flawed a x (need_wanted t h.step)
        | true ↦ elim (in_block t (taken t h.step x) (block_at bs h.to)) [
          | false ↦ flawed a x (back_wanted t h.step (block_at bs h.to))
          | true ↦ walk (taken t h.step x) h.to hs
        ]
      ]

-- ---- 4. the cut

-- the lowest column whose present position isn't wanted
unfoldable pub cut_column : Task → State → Wanted → Column
cut_column t x w = Option.get_or (first (column_count t) (λ j. when (not (holds (wanted_at w (column j)) (at x (column j)))) (column j))) (column 0)

-- the cut of a flaw: the block of the flawed state, that column, and the wanted positions of the block
unfoldable pub cut_for : Task → Blocks → Block → State → Wanted → Cut
cut_for t bs a x w =
    let j = cut_column t x w in
    record { block = a; column = j; wanted = common (set_at (block_at bs a) j) (wanted_at w j) }

-- ---- one look at the blocks: steps 1 to 3, and the cut for step 4

-- no way from the start's block; a plan; or a flaw, with the start's estimate and the flaw's cut
pub data Look : Type 0 where
  hopeless : Look
  planned : List Step → Look
  flaw : Tenths → Cut → Look

module _ (t : Task) (bs : Blocks) where
  unfoldable pub look_walk : Distance → List Hop → Walk → Look
  look_walk d hs arrived = planned (map (λ h. h.step) hs)
  look_walk d hs (flawed a x w) = flaw d.cost (cut_for t bs a x w)

  unfoldable pub look_from : Table → Block → Option Distance → Look
  look_from l a none = hopeless
  look_from l a (some d) = let hs = trace t bs l d.steps a in look_walk d hs (walk t bs (start t) a hs)

  unfoldable pub look : Look
  look = let a = Option.get_or (block_of t bs (start t)) (block 0) in let l = distances t bs in look_from l a (far_of l a)

-- ---- the answer

pub data Answer : Type 0 where
  plan : List Step → Answer
  no_plan : Answer
  «open» : Tenths → Answer

-- what a run answers, and the cuts that it made
pub record Outcome : Type 0 where
  pub answer : Answer
  pub made : List Cut

-- the cut that a look asks for, if it found a flaw
unfoldable pub cut_of : Look → Option Cut
cut_of hopeless = none
cut_of (planned ss) = none
cut_of (flaw e c) = some c

-- how a look ends a run that makes no further cut: a flaw with the room already full is "open" with the start's estimate
unfoldable pub end_of : Look → Answer
end_of hopeless = no_plan
end_of (planned ss) = plan ss
end_of (flaw e c) = «open» e

module _ (t : Task) where
  -- with the cuts made so far, and room for so many more: make the flaw's cut and begin again, or end
  unfoldable pub refine : ℕ → List Cut → Outcome
  refine zero cs = record { answer = end_of (look t (blocks_of t cs)); made = cs }
  refine (suc left) cs =
      elim (cut_of (look t (blocks_of t cs))) [
        | none ↦ record { answer = end_of (look t (blocks_of t cs)); made = cs }
        | some c ↦ refine left (cs ++ (c ∷ []))
      ]

  -- a run with room for so many blocks
  unfoldable pub run : ℕ → Outcome
  run room = refine (room - 1) []

-- answers carry the number of blocks: the number of cuts made plus one
unfoldable pub block_count : Outcome → ℕ
block_count o = length o.made + 1

-- the rows of the change sheet, each with step, tenths and tenths left
unfoldable pub rows : Task → List Step → List Row
rows t [] = []
rows t (s ∷ ss) = record { step = s; tenths = cost_of t s; left = costs t ss } ∷ rows t ss

-- for "no plan" and "open" there are none
unfoldable pub rows_of : Task → Answer → List Row
rows_of t (plan ss) = rows t ss
rows_of t no_plan = []
rows_of t («open» e) = []
