-- Demand 3: "Let N be the number of states the columns allow. For an accepted model and a room of 1 to 256 blocks, each flaw met before the room is
-- full brings exactly one cut by 01's rules; with room for N or more the run never ends open; an open run has filled its room. From cut to cut no
-- state's estimate falls, 'no way' ranking above every number." And 01: answers carry the number of blocks, which is the number of cuts plus one.
-- For `run` and for `elhavir_run`, for whoever knows only the contract. A run that is not refused has an accepted model and a room of 1 to 256.
-- A run meets its flaws with the cuts made so far, which are a front of those made in the end: `FlawMet t before k` says that with the cuts `before` it
-- meets a flaw, and that `k` is the cut that 01's step 4 asks for.
use Prim.Native.Nat.{ℕ, ◌+◌, ◌≤◌, ◌<◌}
use native.Mathlib.Omega.{arith}
use mathlib.Core.Path.{◌≡◌, sym, ◌∙◌}
use mathlib.Core.Bool.{true}
use mathlib.Core.List.{List, [], ◌∷◌, ◌++◌}
use lib.ListN.{length}
use Rattle.task.specs.Loops.{over}
use Rattle.task.specs.Sizes.{limits}
use Rattle.task.specs.Task.{Task, State, Accepted, state_count, is_state}
use Rattle.blocks.specs.declared.Cut.{Cut}
use Rattle.blocks.specs.Blocks.{accepted}
use Rattle.distances.specs.Distances.{NoMore, estimate}
use Rattle.sheets.specs.Holding.{task_on}
use Rattle.blocks.specs.Flat.{cut_place}
use Rattle.run.specs.Listing.{listed}
use Rattle.running.specs.declared.Answer.{Answer}
use Rattle.running.specs.declared.Answer.TheVariants.{Plan, NoPlan, Open}
use Rattle.fields.specs.Refusals.{Answered, Done, Refused}
use Rattle.running.specs.Running.{number, Runs}
use Rattle.run_laws.proofs.Flaws.{FlawMet}
use Rattle.run_laws.proofs.Answers as said
use Rattle.values.specs.Values.{bytes_of}
use Rattle.historian.specs.Entries.{EntryRuns}
use Rattle.demands.proofs.Numbers.{kind, blocks}
use Rattle.demands.proofs.Entry as entry

-- the number of blocks that an answer tells
pub blocks_told : Answered Answer → ℕ
blocks_told (Done (Plan n m b)) = b
blocks_told (Done (NoPlan b)) = b
blocks_told (Done (Open e b)) = b
blocks_told (Refused n) = 0

blocks-said : (t : Task) (room : ℕ) (cs : List Cut) (l₀ l : List ℕ) (a : Answered Answer) → said.Says t room cs l₀ l a → blocks_told a ≡ length cs + 1
unfolding blocks_told
blocks-said t room cs l₀ l (Done (Plan n m b)) h = h.0
blocks-said t room cs l₀ l (Done (NoPlan b)) h = h.0
blocks-said t room cs l₀ l (Done (Open e b)) h = h.0
blocks-said t room cs l₀ l (Refused n) h = absurd h

-- ---- run
module _ (s : List ℕ) (room : ℕ) (cuts rows : List ℕ) {a : Answered Answer} {c l : List ℕ} (done : Runs s room cuts rows a c l) (kept : number a ≡ 0) where
  abbrev t : Task
  t = task_on s

  pub ran : said.Ran s room cuts rows a c l
  ran = said.run-says s room cuts rows done kept

  pub accepted-and-room : Accepted t × (1 ≤ room) × (room ≤ limits.blocks)
  accepted-and-room = (ran.model, ran.some, ran.few)

  -- the cuts that were made
  abbrev pub made : List Cut
  made = ran.made

  pub cuts-listed : c ≡ over (listed cut_place made) cuts
  cuts-listed = ran.listed-cuts

  -- each flaw met before the room is full brings exactly one cut by 01's rules: the next one is that flaw's,
  pub flaw-brings-cut : (before after : List Cut) (k : Cut) → made ≡ before ++ after → FlawMet t before k → length before + 1 < room → (rest : List Cut) × (after ≡ k ∷ rest)
  flaw-brings-cut = ran.flaws.brought

  -- no cut is made without its flaw,
  pub cut-has-its-flaw : (before after : List Cut) (k : Cut) → made ≡ before ++ (k ∷ after) → FlawMet t before k
  cut-has-its-flaw = ran.flaws.of-flaw

  -- and a flaw that is met in the end has found the room full
  pub last-flaw-is-full : (k : Cut) → FlawMet t made k → length made + 1 ≡ room
  last-flaw-is-full = ran.flaws.last-full

  -- every cut is one that 01 accepts
  pub cuts-accepted : accepted t made ≡ true
  cuts-accepted = ran.ok

  -- the number of blocks is the number of listed cuts plus one, and within the room
  pub blocks-are-cuts-plus-one : blocks_told a ≡ length made + 1
  blocks-are-cuts-plus-one = blocks-said t room made rows l a ran.says

  pub blocks-within : (1 ≤ blocks_told a) × (blocks_told a ≤ room) × (room ≤ limits.blocks)
  blocks-within = (omega (arith, blocks-are-cuts-plus-one), omega (arith, blocks-are-cuts-plus-one, ran.within), ran.few)

  -- with room for N or more the run never ends open
  pub never-open : state_count t ≤ room → (e b : ℕ) → a ≡ Done (Open e b) → ⊥
  never-open = said.never-open s room cuts rows ran

  -- an open run has filled its room
  pub open-is-full : (e b : ℕ) → a ≡ Done (Open e b) → length made + 1 ≡ room
  open-is-full = said.open-is-full s room cuts rows ran

  -- from cut to cut no state's estimate falls
  pub estimates-never-fall : (before after : List Cut) (k : Cut) → made ≡ before ++ (k ∷ after) → (x : State) → is_state t x ≡ true → NoMore (estimate t before x) (estimate t (before ++ (k ∷ [])) x)
  estimates-never-fall = said.never-falls s room cuts rows ran

-- ---- elhavir_run: the cuts as bytes, and the answer of kind 1, 2 or 3
module _ (s : List ℕ) (room : ℕ) (cuts rows : List ℕ) {r : ℕ} {c l : List ℕ} (done : EntryRuns s room cuts rows r c l) (kept : kind r ≡ 0 → ⊥) where
  abbrev u : Task
  u = task_on s

  pub had : entry.EntryMade s room cuts rows done
  had = entry.entry-says s room cuts rows done kept

  pub entry-accepted-and-room : Accepted u × (1 ≤ room) × (room ≤ limits.blocks)
  entry-accepted-and-room = (had.model, had.some, had.few)

  abbrev pub entry-made : List Cut
  entry-made = had.made

  pub entry-cuts-listed : c ≡ over (bytes_of (listed cut_place entry-made)) cuts
  entry-cuts-listed = had.listed-cuts

  pub entry-flaw-brings-cut : (before after : List Cut) (k : Cut) → entry-made ≡ before ++ after → FlawMet u before k → length before + 1 < room → (rest : List Cut) × (after ≡ k ∷ rest)
  entry-flaw-brings-cut = had.flaws.brought

  pub entry-cut-has-its-flaw : (before after : List Cut) (k : Cut) → entry-made ≡ before ++ (k ∷ after) → FlawMet u before k
  entry-cut-has-its-flaw = had.flaws.of-flaw

  pub entry-last-flaw-is-full : (k : Cut) → FlawMet u entry-made k → length entry-made + 1 ≡ room
  entry-last-flaw-is-full = had.flaws.last-full

  pub entry-cuts-accepted : accepted u entry-made ≡ true
  entry-cuts-accepted = had.ok

  pub entry-blocks : blocks r ≡ length entry-made + 1
  entry-blocks = had.tells.blocks-are

  pub entry-blocks-within : (1 ≤ blocks r) × (blocks r ≤ room) × (room ≤ limits.blocks)
  entry-blocks-within = (omega (arith, entry-blocks), omega (arith, entry-blocks, had.within), had.few)

  pub entry-never-open : state_count u ≤ room → kind r ≡ 3 → ⊥
  entry-never-open h k = let z = (had.tells.open-right k).too_small in omega arith

  pub entry-open-is-full : kind r ≡ 3 → length entry-made + 1 ≡ room
  entry-open-is-full k = sym entry-blocks ∙ (had.tells.open-right k).full

  pub entry-estimates-never-fall : (before after : List Cut) (k : Cut) → entry-made ≡ before ++ (k ∷ after) → (x : State) → is_state u x ≡ true → NoMore (estimate u before x) (estimate u (before ++ (k ∷ [])) x)
  entry-estimates-never-fall = entry.never-falls s room cuts rows done had
