-- 01, "Blocks and distances", its second paragraph: what the distance of a block is, the same worked out in rounds, and estimates.
use Rattle.std.specs.Prelude.{◌≡◌, Bool, true, false, ◌&&◌, ◌||◌, cond, List, [], ◌∷◌, ℕ, zero, suc, ◌+◌, ◌≤◌, eqb, ltb, length, get_or}
use Rattle.std.proofs.Math.Option
use Rattle.std.proofs.Math.Option.{Option, none, some, map}
use Rattle.task.specs.declared.Step.{Step}
use Rattle.task.specs.declared.Block.{Block}
use Rattle.task.specs.Loops.{tab}
use Rattle.task.specs.Task.{Task, State, Tenths, step, block, step_count, cost_of}
use Rattle.blocks.specs.declared.Cut.{Cut}
use Rattle.blocks.specs.Blocks.{Blocks, block_at, blocks_of, block_of, leads, goal_block}

pub record Distance : Type 0 where
  pub cost : Tenths
  pub steps : ℕ

-- the least cost, and among those the least number of steps
pub record AtMost (d e : Distance) : Type 0 where
  pub cost : d.cost ≤ e.cost
  pub steps : d.cost ≡ e.cost → d.steps ≤ e.steps

-- ---- what a distance is

-- a step, and the block that it leads to
pub record Hop : Type 0 where
  pub step : Step
  pub to : Block

unfoldable pub zero_far : Distance
zero_far = record { cost = 0; steps = 0 }

-- one step more, of cost w
unfoldable pub plus : Tenths → Distance → Distance
plus w d = record { cost = w + d.cost; steps = suc d.steps }

-- the cost of a path, and its number of steps
unfoldable pub far : Task → List Hop → Distance
far t [] = zero_far
far t (h ∷ hs) = plus (cost_of t h.step) (far t hs)

module _ (t : Task) (bs : Blocks) where
  unfoldable pub leads_to : Step → Block → Block → Bool
  leads_to s a b = leads t s (block_at bs a) (block_at bs b)

  -- a path of such steps from block a to a goal block
  unfoldable pub is_path : Block → List Hop → Bool
  is_path a [] = goal_block t (block_at bs a)
  is_path a (h ∷ hs) = ltb h.step.0 (step_count t) && ltb h.to.0 (length bs) && leads_to h.step a h.to && is_path h.to hs

  -- a path has that distance, and none has less
  pub record IsDistance (a : Block) (d : Distance) : Type 0 where
    pub path : (hs : List Hop) × (is_path a hs ≡ true) × (far t hs ≡ d)
    pub least : (hs : List Hop) → is_path a hs ≡ true → AtMost d (far t hs)

  -- the distance of block a; where no path exists, "no way", which is none
  abbrev pub DistanceIs : Block → Option Distance → Type 0
  DistanceIs a none = (hs : List Hop) → is_path a hs ≡ true → ⊥
  DistanceIs a (some d) = IsDistance a d

-- ---- the same, worked out in rounds

unfoldable pub nearer : Distance → Distance → Bool
nearer d e = ltb d.cost e.cost || eqb d.cost e.cost && ltb d.steps e.steps

-- the nearer of two, the first where they are equal
unfoldable pub pick : Option Distance → Option Distance → Option Distance
pick none e = e
pick (some d) none = some d
pick (some d) (some e) = some (cond (nearer e d) e d)

unfoldable pub least : ℕ → (ℕ → Option Distance) → Option Distance
least zero f = none
least (suc n) f = pick (least n f) (f n)

-- over a step of cost w, where it leads there
unfoldable pub via : Bool → Tenths → Option Distance → Option Distance
via true w none = none
via true w (some d) = some (plus w d)
via false w d = none

-- a distance for each block
abbrev pub Table : Type 0
Table = List (Option Distance)

unfoldable pub far_of : Table → Block → Option Distance
far_of l a = get_or l a.0 none

module _ (t : Task) (bs : Blocks) where
  -- the best that one step more makes of a table
  unfoldable pub onward : Table → Block → Option Distance
  onward l a = least (step_count t) (λ s. least (length bs) (λ b. via (leads_to t bs (step s) a (block b)) (cost_of t (step s)) (far_of l (block b))))

  -- a goal block has cost 0 and 0 steps
  unfoldable pub better : Bool → Table → Block → Option Distance
  better true l a = some zero_far
  better false l a = onward l a

  unfoldable pub round : Table → Table
  round l = tab (length bs) (λ a. better (goal_block t (block_at bs (block a))) l (block a))

  -- the distances over paths of fewer than n steps
  unfoldable pub rounds : ℕ → Table
  rounds zero = []
  rounds (suc n) = round (rounds n)

  -- a least path meets no block twice, so that as many rounds as there are blocks are enough
  unfoldable pub distances : Table
  distances = rounds (length bs)

-- ---- estimates

-- the distance of the block that holds a state, after some cuts
unfoldable pub state_far : Task → Blocks → State → Option Distance
state_far t bs x = far_of (distances t bs) (Option.get_or (block_of t bs x) (block 0))

-- an estimate is the distance's cost; none is "no way"
unfoldable pub estimate : Task → List Cut → State → Option Tenths
estimate t cs x = map (λ d. d.cost) (state_far t (blocks_of t cs) x)

-- an estimate is at most another, "no way" ranking above every number
pub data NoMore : Option Tenths → Option Tenths → Type 0 where
  number : {a b : Tenths} → a ≤ b → NoMore (some a) (some b)
  no_way : {a : Option Tenths} → NoMore a none
