-- What a turn of the search does: the parts that the private functions' contracts cite.
use Rattle.std.specs.Prelude.{◌≡◌, Bool, true, false, cond, ◌⊎◌, List, ℕ, ◌+◌, ◌*◌, ◌<◌, ◌≤◌, get_or, Option, Some, None}
use Rattle.task.specs.Sizes.{most_cost, tenth}
use Rattle.blocks.specs.Flat.{past, row_of}
use Rattle.blocks.specs.Masks.{lands_in, goals_in}
use Rattle.masks.specs.declared.Tables.{Tables}
use Rattle.cutting.specs.declared.Blocks.{Blocks}
use Rattle.arcs.specs.declared.Arcs.{Arcs}
use Rattle.arcs.specs.Arcs.{Arc, GoalIn}
use Rattle.arcs.specs.Words.{words_for, held_in, Able, Met, Opened, Narrow}
use Rattle.settling.specs.Ways.{no_way}

-- the graph that the tables of a task make of the blocks
abbrev pub arcs_of : Tables → Blocks → ℕ → ℕ → ℕ → Type 0
arcs_of t bs = Arc t.shape.columns bs.count t.shape.steps t.rows (lands_in t.rows) bs.sets

abbrev pub goals_of : Tables → Blocks → ℕ → Type 0
goals_of t bs = GoalIn t.shape.columns (goals_in t.rows) bs.sets

abbrev pub weight : (ℕ → ℕ) → ℕ → ℕ
weight cost s = cost s * tenth + 1

-- where block a has a better value by way of b: the step
pub record Better (arc : ℕ → ℕ → ℕ → Type 0) (cost : ℕ → ℕ) (D D' : List ℕ) (b a : ℕ) : Type 0 where
  pub s : ℕ
  pub leads : arc a s b
  pub now-is : get_or D' a 0 ≡ get_or D b 0 + weight cost s
  pub less : get_or D b 0 + weight cost s < get_or D a 0

-- all arcs into b were tried, and no step of an arc costs more than a step can
pub record Relaxed (n : ℕ) (arc : ℕ → ℕ → ℕ → Type 0) (cost : ℕ → ℕ) (D D' : List ℕ) (b : ℕ) : Type 0 where
  pub each : (a : ℕ) → a < n → (get_or D' a 0 ≡ get_or D a 0) ⊎ Better arc cost D D' b a
  pub tried : (a s : ℕ) → arc a s b → get_or D' a 0 ≤ get_or D b 0 + weight cost s
  pub cheap : (a s e : ℕ) → arc a s e → cost s ≤ most_cost
  pub rest : (a : ℕ) → n ≤ a → get_or D' a 0 ≡ get_or D a 0

-- b is a nearest block that is not settled
pub record Nearest (n : ℕ) (D : List ℕ) (F : List Bool) (b : ℕ) : Type 0 where
  pub inside : b < n
  pub open-yet : get_or F b false ≡ false
  pub known : get_or D b 0 < no_way
  pub least : (k : ℕ) → k < n → get_or F k false ≡ false → get_or D b 0 ≤ get_or D k 0

-- a settled block is no farther than b
pub record Settled (n : ℕ) (D : List ℕ) (F : List Bool) (b : ℕ) : Type 0 where
  pub low : (a : ℕ) → a < n → get_or F a false ≡ true → get_or D a 0 ≤ get_or D b 0

-- the words of a set of blocks that has every block farther than b
pub record Open (count used : ℕ) (D : List ℕ) (b : ℕ) (O : List ℕ) : Type 0 where
  pub has : ℕ → Bool
  pub words_of : Opened used has O
  pub outside : (a : ℕ) → count ≤ a → has a ≡ false
  pub low : (a : ℕ) → a < count → has a ≡ false → get_or D a 0 ≤ get_or D b 0

-- what the search for a nearest open block answers: the block, or none where none has a value
pub record Picked (n : ℕ) (D : List ℕ) (F : List Bool) (r : Option ℕ) : Type 0 where
  pub found : (b : ℕ) → r ≡ Some b → Nearest n D F b
  pub none : r ≡ None → (k : ℕ) → k < n → get_or F k false ≡ false → no_way ≤ get_or D k 0

-- what is looked up of the arcs, whichever block is settled
pub record Ready (t : Tables) (bs : Blocks) (arcs : Arcs) : Type 0 where
  pub used : arcs.used ≡ words_for bs.count
  pub able : Able t.shape.columns t.shape.steps t.rows bs.sets arcs.used arcs.able
  pub held : Met t.shape.columns arcs.used bs.sets (held_in arcs.held) arcs.meets

-- what is looked up of the arcs into block b
pub record Turned (t : Tables) (bs : Blocks) (arcs : Arcs) (D : List ℕ) (b : ℕ) : Type 0 where
  pub inside : b < bs.count
  pub used : arcs.used ≡ words_for bs.count
  pub able : Able t.shape.columns t.shape.steps t.rows bs.sets arcs.used arcs.able
  pub met : Met t.shape.columns arcs.used bs.sets (past bs.sets (row_of b)) arcs.meets
  pub opened : Open bs.count arcs.used D b arcs.left
  pub narrow : Narrow t.shape.columns arcs.used arcs.meets arcs.left arcs.few arcs.narrow

-- every value below place n that is above k and passes the test is now k, and nothing else has changed
pub record Lowered (test : ℕ → Bool) (k n : ℕ) (D D' : List ℕ) : Type 0 where
  pub each : (a : ℕ) → a < n → ((get_or D' a 0 ≡ get_or D a 0) × (test a ≡ true → get_or D a 0 ≤ k)) ⊎ ((get_or D' a 0 ≡ k) × (k < get_or D a 0) × (test a ≡ true))
  pub rest : (a : ℕ) → n ≤ a → get_or D' a 0 ≡ get_or D a 0

-- the values before the first turn: 0 for a goal block, and no way for any other
pub record Started (goal : ℕ → Bool) (n : ℕ) (D D' : List ℕ) : Type 0 where
  pub each : (a : ℕ) → a < n → get_or D' a 0 ≡ cond (goal a) 0 no_way
  pub rest : (a : ℕ) → n ≤ a → get_or D' a 0 ≡ get_or D a 0
