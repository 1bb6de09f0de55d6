-- The blocks and the cuts as code has them: flat arrays of numbers. The row of block a begins at place `row_of a`, with a place for each column.
use Rattle.std.specs.Prelude.{Bool, ◌&&◌, cond, List, [], ◌∷◌, ℕ, zero, suc, ◌+◌, ◌*◌, ◌<◌, ◌≤◌, eqb, length, get_or, set}
use Rattle.task.specs.Loops.{tab}
use Rattle.task.specs.Sizes.{limits}
use Rattle.task.specs.Task.{State, column, position, block, at}
use Rattle.blocks.specs.declared.Cut.{Cut}
use Rattle.blocks.specs.Blocks.{Sets, Blocks, holds, common, without}

-- what stands i places past a place
unfoldable pub past : List ℕ → ℕ → ℕ → ℕ
past l place i = get_or l (place + i) 0

-- where the row of a block or a step begins
abbrev pub row_of : ℕ → ℕ
row_of a = a * limits.columns

-- the sets of block a
unfoldable pub sets_in : ℕ → List ℕ → ℕ → Sets
sets_in columns sets a = tab columns (past sets (row_of a))

-- the blocks that an array holds
unfoldable pub blocks_in : ℕ → ℕ → List ℕ → Blocks
blocks_in columns count sets = tab count (sets_in columns sets)

-- f 0, f 1, .. below n, laid into a list from a place on
unfoldable pub laid : ℕ → (ℕ → ℕ) → ℕ → List ℕ → List ℕ
laid zero f place l = l
laid (suc n) f place l = set (laid n f place l) (place + n) (f n)

-- a cut made in the array: the old block's row is copied to the next number, then each of the two gets its part
unfoldable pub cut_in : ℕ → ℕ → Cut → List ℕ → List ℕ
cut_in columns count c sets =
    let old = past sets (row_of c.block.0) c.column.0 in
    let copy = laid columns (past sets (row_of c.block.0)) (row_of count) sets in
    set (set copy (row_of count + c.column.0) (common old c.wanted)) (row_of c.block.0 + c.column.0) (without old c.wanted)

-- a cut can be made in an array of so many blocks: there is room for one block more, and the block and the column are there
pub record Cuttable (columns count : ℕ) (c : Cut) : Type 0 where
  pub wide : columns ≤ limits.columns
  pub room : count < limits.blocks
  pub made : c.block.0 < count
  pub there : c.column.0 < columns

abbrev pub cut : ℕ → ℕ → ℕ → Cut
cut a j w = record { block = block a; column = column j; wanted = w }

-- a cut as three numbers: block, column, wanted
unfoldable pub cut_place : Cut → List ℕ
cut_place c = c.block.0 ∷ c.column.0 ∷ c.wanted ∷ []

-- cut i of a list with three numbers for each
unfoldable pub cut_at : List ℕ → ℕ → Cut
cut_at l i = cut (get_or l (i * 3) 0) (get_or l (i * 3 + 1) 0) (get_or l (i * 3 + 2) 0)

unfoldable pub cuts_in : ℕ → List ℕ → List Cut
cuts_in count l = tab count (cut_at l)

-- a list of cuts can be followed: they are so few, they stand there, and each is on a column that a model can have
pub record Followable (count : ℕ) (l : List ℕ) : Type 0 where
  pub few : count < limits.blocks
  pub long : count * 3 ≤ length l
  pub columns : (i : ℕ) → i < count → get_or l (i * 3 + 1) 0 < limits.columns

-- in the columns of the cuts a state stands at positions that a column can have
pub record Placed (count : ℕ) (l : List ℕ) (x : State) : Type 0 where
  pub each : (i : ℕ) → i < count → (get_or x (get_or l (i * 3 + 1) 0) (position 0)).0 < limits.positions

-- the block of a state, cut by cut: a wanted state of the block that is cut goes to the new number
unfoldable pub goes_on : Cut → State → ℕ → Bool
goes_on c x a = eqb c.block.0 a && holds c.wanted (at x c.column)

unfoldable pub followed : List ℕ → State → ℕ → ℕ
followed l x zero = 0
followed l x (suc i) = cond (goes_on (cut_at l i) x (followed l x i)) (suc i) (followed l x i)

-- the same by what the state says, however it stands: whether it has a wanted position in a column
unfoldable pub followed_by : (ℕ → ℕ → Bool) → List ℕ → ℕ → ℕ
followed_by has l zero = 0
followed_by has l (suc i) =
    cond (eqb (get_or l (i * 3) 0) (followed_by has l i) && has (get_or l (i * 3 + 1) 0) (get_or l (i * 3 + 2) 0)) (suc i) (followed_by has l i)
