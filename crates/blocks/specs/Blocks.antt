-- 01, "Blocks and distances", its first paragraph: sets of positions, blocks, cuts, and when a step leads from block to block.
use Rattle.std.specs.Prelude.{Bool, true, ◌&&◌, not, List, [], ◌∷◌, ◌++◌, ℕ, ◌-◌, ◌/◌, ◌%◌, ◌^◌, eqb, ltb, length, get_or, set}
use Rattle.std.proofs.Math.Option.{Option, none, some}
use Rattle.std.specs.Int.Bits.{bit_and, bit_xor}
use Rattle.task.specs.declared.Column.{Column}
use Rattle.task.specs.declared.Position.{Position}
use Rattle.task.specs.declared.Step.{Step}
use Rattle.task.specs.declared.Block.{Block}
use Rattle.task.specs.Loops.{first, when}
use Rattle.task.specs.Task.{Task, State, block, at, column_count, size_of, goal_at, need_at, effect_at, each_column, per_column}
use Rattle.blocks.specs.declared.Cut.{Cut}

-- a set of positions, in which position p has weight 2 ^ p
abbrev pub PositionSet : Type 0
PositionSet = ℕ

unfoldable pub holds : PositionSet → Position → Bool
holds a p = eqb (a / 2 ^ p.0 % 2) 1

unfoldable pub only : Position → PositionSet
only p = 2 ^ p.0

-- every position of a column of that size
unfoldable pub every : ℕ → PositionSet
every size = 2 ^ size - 1

unfoldable pub common : PositionSet → PositionSet → PositionSet
common a b = bit_and a b

unfoldable pub without : PositionSet → PositionSet → PositionSet
without a b = bit_xor a (bit_and a b)

unfoldable pub is_empty : PositionSet → Bool
is_empty a = eqb a 0

-- what a block holds: one set of positions for each column
abbrev pub Sets : Type 0
Sets = List PositionSet

unfoldable pub set_at : Sets → Column → PositionSet
set_at b j = get_or b j.0 0

-- the blocks, by number
abbrev pub Blocks : Type 0
Blocks = List Sets

unfoldable pub block_at : Blocks → Block → Sets
block_at bs a = get_or bs a.0 []

-- a need lies in a's set; an effect, or else a need, lies in b's set; with neither, the two sets meet
unfoldable pub leads_at : Option Position → Option Position → PositionSet → PositionSet → Bool
leads_at none none a b = not (is_empty (common a b))
leads_at none (some e) a b = holds b e
leads_at (some n) none a b = holds a n && holds b n
leads_at (some n) (some e) a b = holds a n && holds b e

-- a goal that may be absent lies in the set
unfoldable pub goal_in : Option Position → PositionSet → Bool
goal_in none a = true
goal_in (some p) a = holds a p

-- the sets with the one of column j replaced
unfoldable pub with_set : Sets → Column → PositionSet → Sets
with_set b j a = set b j.0 a

-- the wanted positions of the block go to a new block with the next number, the rest stay under the old number
unfoldable pub cut_block : Blocks → Cut → Blocks
cut_block bs c =
    let b = block_at bs c.block in
    let old = set_at b c.column in
    set bs c.block.0 (with_set b c.column (without old c.wanted)) ++ (with_set b c.column (common old c.wanted) ∷ [])

-- the blocks after the cuts, made in order
unfoldable pub cut_all : Blocks → List Cut → Blocks
cut_all bs [] = bs
cut_all bs (c ∷ cs) = cut_all (cut_block bs c) cs

module _ (t : Task) where
  -- all states made from a block's sets
  unfoldable pub in_block : State → Sets → Bool
  in_block x b = each_column t (λ j. holds (set_at b j) (at x j))

  -- a block is a goal block when it contains a goal state
  unfoldable pub goal_block : Sets → Bool
  goal_block b = each_column t (λ j. goal_in (goal_at t j) (set_at b j))

  -- a step leads from block a to block b when some state of a can take it and lands in b
  unfoldable pub leads : Step → Sets → Sets → Bool
  leads s a b = each_column t (λ j. leads_at (need_at t s j) (effect_at t s j) (set_at a j) (set_at b j))

  -- block 0 first holds every state
  unfoldable pub whole : Sets
  whole = per_column t (λ j. every (size_of t j))

  unfoldable pub blocks_of : List Cut → Blocks
  blocks_of cs = cut_all (whole ∷ []) cs

  -- a cut names a block that is made and a column that is there, and its set is a non-empty proper part of the block's set
  unfoldable pub cut_ok : Blocks → Cut → Bool
  cut_ok bs c =
      let old = set_at (block_at bs c.block) c.column in
      ltb c.block.0 (length bs)
      && ltb c.column.0 (column_count t)
      && not (is_empty c.wanted)
      && is_empty (without c.wanted old)
      && not (is_empty (without old c.wanted))

  -- each cut may be made when its turn comes
  unfoldable pub cuts_ok : Blocks → List Cut → Bool
  cuts_ok bs [] = true
  cuts_ok bs (c ∷ cs) = cut_ok bs c && cuts_ok (cut_block bs c) cs

  unfoldable pub accepted : List Cut → Bool
  accepted cs = cuts_ok (whole ∷ []) cs

  -- the block that holds a state
  unfoldable pub block_of : Blocks → State → Option Block
  block_of bs x = first (length bs) (λ a. when (in_block x (block_at bs (block a))) (block a))
