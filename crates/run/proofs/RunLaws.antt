-- What a run answers is right, for any accepted model: a plan is one and none is cheaper, "no plan" is said only where none exists, an open run
-- has filled its room and has no room for every state, and each cut is the one that the rules give for the blocks before it.
use mathlib.Core.Path.{◌≡◌, refl, ap, subst⁻¹}
use mathlib.Core.Bool.{true}
use mathlib.Core.List.{List, [], ◌∷◌, ◌++◌, map}
use mathlib.Core.Option
use mathlib.Core.Option.{Option, none, some, get_or}
use Prim.Native.Nat.{ℕ, suc, ◌+◌, ◌≤◌, ◌<◌}
use native.Mathlib.Omega.{arith}
use lib.ListN.{length}
use Rattle.task.specs.declared.Step.{Step}
use Rattle.task.specs.declared.Block.{Block}
use Rattle.task.specs.Task.{Task, Tenths, Accepted, block, state_count, cost_of, start, costs, IsPlan}
use Rattle.task.proofs.TaskLaws.{start-state}
use Rattle.blocks.specs.declared.Cut.{Cut}
use Rattle.blocks.specs.Blocks.{Blocks, accepted, blocks_of, block_of}
use Rattle.blocks.proofs.PartLaws.{Parts, CutFits}
use Rattle.blocks.proofs.CutLaws.{BlockIs, accepted-parts}
use Rattle.distances.specs.Distances.{Distance, Hop, NoMore, number, far, far_of, plus, zero_far, distances, estimate}
use Rattle.distances.proofs.EstimateLaws.{state-far, estimate-below}
use Rattle.run.specs.Run.{Walk, arrived, flawed, walk, trace, Look, hopeless, planned, flaw, look, look_from, look_walk, Answer, plan, no_plan, «open», end_of, Outcome}
use Rattle.run.proofs.TraceLaws.{trace-path}
use Rattle.run.proofs.FlawLaws.{WalkRight, walk-right, flaw-fits}

steps-cost : (t : Task) (hs : List Hop) → costs t (map (λ h. h.step) hs) ≡ (far t hs).cost
unfolding costs far plus zero_far
steps-cost t [] = refl
steps-cost t (h ∷ hs) = ap (λ (n : ℕ). cost_of t h.step + n) (steps-cost t hs)

module _ (t : Task) where
  -- a plan, and none is cheaper
  pub record Cheapest (ss : List Step) : Type 0 where
    pub plan : IsPlan t ss
    pub least : (ss' : List Step) → IsPlan t ss' → costs t ss ≤ costs t ss'

  -- no list of steps is a plan
  abbrev pub NoPlan : Type 0
  NoPlan = (ss : List Step) → IsPlan t ss → ⊥

no_number : {a : Tenths} → NoMore none (some a) → ⊥
no_number = elim [ ]

number-below : {a b : Tenths} → NoMore (some a) (some b) → a ≤ b
number-below (number h) = h

-- ---- one look
module _ (t : Task) (v : Accepted t) (cs : List Cut) (ok : accepted t cs ≡ true) where
  -- what a look is to find
  abbrev pub LookRight : Look → Type 0
  LookRight hopeless = NoPlan t
  LookRight (planned ss) = Cheapest t ss
  LookRight (flaw e c) = CutFits t (blocks_of t cs) c × (estimate t cs (start t) ≡ some e)

  good : Parts t (blocks_of t cs)
  good = accepted-parts t v cs ok

  -- no plan costs less than the start's estimate
  start-below : (o : Option Tenths) → estimate t cs (start t) ≡ o → (ss : List Step) → IsPlan t ss → NoMore o (some (costs t ss))
  unfolding IsPlan
  start-below o e ss h = rw e at (estimate-below t v cs ok ss (start t) (start-state t v) h)

  walked : (d : Distance) (hs : List Hop) → far t hs ≡ d → estimate t cs (start t) ≡ some d.cost → (w : Walk) → WalkRight t (blocks_of t cs) good (start t) hs w
      → LookRight (look_walk t (blocks_of t cs) d hs w)
  unfolding look_walk
  walked d hs e est arrived r =
      record {
        plan = unfold IsPlan in r;
        least = λ ss h.
            let c : (far t hs).cost ≡ d.cost = ap (λ (k : Distance). k.cost) e in
            omega (arith, steps-cost t hs, number-below (start-below (some d.cost) est ss h));
      }
  walked d hs e est (flawed b y w) r = (flaw-fits t (blocks_of t cs) good b y w r, est)

  looked : (a : Block) → BlockIs t (blocks_of t cs) (start t) a → (o : Option Distance) → far_of (distances t (blocks_of t cs)) a ≡ o → estimate t cs (start t) ≡ Option.map (λ d. d.cost) o
      → LookRight (look_from t (blocks_of t cs) (distances t (blocks_of t cs)) a o)
  unfolding look_from
  looked a i none e est = λ ss h. no_number (start-below none est ss h)
  looked a i (some d) e est =
      let bs : Blocks = blocks_of t cs in
      let hs : List Hop = trace t bs (distances t bs) d.steps a in
      let p = trace-path t bs d.steps a d i.made e refl in
      walked d hs p.1 est (walk t bs (start t) a hs) (walk-right t bs good v hs (start t) a i.made (start-state t v) i.inside p.0)

  pub look-right : LookRight (look t (blocks_of t cs))
  unfolding look estimate
  look-right =
      let bs : Blocks = blocks_of t cs in
      let r = state-far t bs good (start t) (start-state t v) in
      let q : get_or (block_of t bs (start t)) (block 0) ≡ r.block = rw r.is.found in
      subst⁻¹ (λ (a : Block). LookRight (look_from t bs (distances t bs) a (far_of (distances t bs) a))) q
      (looked r.block r.is (far_of (distances t bs) r.block) refl (ap (λ (o : Option Distance). Option.map (λ d. d.cost) o) r.far))

-- ---- the run

-- each cut is the one that the rules give for the flaw of the blocks before it
pub data Ruled (t : Task) : List Cut → Type 0 where
  none_yet : Ruled t []
  one_more : {cs : List Cut} {e : Tenths} {c : Cut} → Ruled t cs → look t (blocks_of t cs) ≡ flaw e c → Ruled t (cs ++ (c ∷ []))

module _ (t : Task) where
  -- what an answer is to be, with the cuts made
  abbrev pub Right : ℕ → List Cut → Answer → Type 0
  Right room cs (plan ss) = Cheapest t ss
  Right room cs no_plan = NoPlan t
  Right room cs («open» e) = (suc (length cs) ≡ room) × (room < state_count t) × (estimate t cs (start t) ≡ some e)

  pub record RunRight (room : ℕ) (o : Outcome) : Type 0 where
    pub made : accepted t o.made ≡ true
    pub ruled : Ruled t o.made
    pub fits : suc (length o.made) ≤ room
    pub ends : o.answer ≡ end_of (look t (blocks_of t o.made))
    pub right : Right room o.made o.answer
