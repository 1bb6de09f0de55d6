-- A plan has fewer steps than the run has blocks, so that rows for one block less than the room are enough.
use mathlib.Core.Path.{◌≡◌, refl, sym, ap, ◌∙◌}
use mathlib.Core.Bool.{true}
use mathlib.Core.List.{List, [], ◌∷◌, map}
use mathlib.Core.Option.{Option, none, some, get_or}
use Prim.Native.Nat.{ℕ, zero, suc, ◌≤◌, ◌<◌}
use native.Mathlib.Omega.{arith}
use lib.ListN.{length}
use Rattle.task.specs.declared.Step.{Step}
use Rattle.task.specs.declared.Block.{Block}
use Rattle.task.specs.Task.{Task, Accepted, block, start}
use Rattle.task.proofs.TaskLaws.{start-state}
use Rattle.task.specs.Sizes.{most_cost}
use Rattle.blocks.specs.declared.Cut.{Cut}
use Rattle.blocks.specs.Blocks.{Blocks, accepted, blocks_of, block_of}
use Rattle.blocks.proofs.CutLaws.{accepted-parts, blocks-length}
use Rattle.distances.specs.Distances.{Distance, Hop, Table, far_of, zero_far, distances}
use Rattle.distances.proofs.TableLaws.{rounds-bound}
use Rattle.distances.proofs.EstimateLaws.{state-far}
use Rattle.run.specs.Run.{Walk, arrived, flawed, walk, trace, next_hop, Look, hopeless, planned, flaw, look, look_from, look_walk, plan, end_of, run}
use Rattle.run.proofs.RunRightLaws.{run-right}

module _ (t : Task) (bs : Blocks) where
  trace-short : (l : Table) (n : ℕ) (a : Block) → length (trace t bs l n a) ≤ n
  unfolding trace
  trace-short l zero a = omega arith
  trace-short l (suc n) a = go (λ b. trace-short l n b) (next_hop t bs l a (get_or (far_of l a) zero_far))
    where
      go : ((b : Block) → length (trace t bs l n b) ≤ n) → (o : Option Hop) → length {A = Hop} (elim o [ none ↦ [] | some h ↦ h ∷ trace t bs l n h.to ]) ≤ suc n
      go ih none = omega arith
      go ih (some h) = omega (arith, ih h.to)

map-length : (hs : List Hop) → length (map (λ h. h.step) hs) ≡ length hs
map-length [] = refl
map-length (h ∷ hs) = ap suc (map-length hs)

-- how many steps a look's plan has; 0 where it has none
plan_steps : Look → ℕ
plan_steps hopeless = 0
plan_steps (planned ss) = length ss
plan_steps (flaw e c) = 0

module _ (t : Task) (v : Accepted t) (cs : List Cut) (ok : accepted t cs ≡ true) where
  bs : Blocks
  bs = blocks_of t cs

  walk-short : (d : Distance) (hs : List Hop) (w : Walk) → plan_steps (look_walk t (blocks_of t cs) d hs w) ≤ length hs
  unfolding look_walk plan_steps
  walk-short d hs arrived = omega (arith, map-length hs)
  walk-short d hs (flawed a x w) = omega arith

  from-short : (a : Block) → a.0 < length (blocks_of t cs) → (o : Option Distance) → far_of (distances t (blocks_of t cs)) a ≡ o
      → plan_steps (look_from t (blocks_of t cs) (distances t (blocks_of t cs)) a o) < length (blocks_of t cs)
  unfolding look_from plan_steps distances
  from-short a h none e = omega arith
  from-short a h (some d) e =
      let l = distances t (blocks_of t cs) in
      let hs : List Hop = trace t (blocks_of t cs) l d.steps a in
      let b = rounds-bound t (blocks_of t cs) most_cost v.tenths (length (blocks_of t cs)) a h e in
      omega (arith, b.0, trace-short t (blocks_of t cs) l d.steps a, walk-short d hs (walk t (blocks_of t cs) (start t) a hs))

  look-short : plan_steps (look t (blocks_of t cs)) < length (blocks_of t cs)
  unfolding look
  look-short =
      let r = state-far t (blocks_of t cs) (accepted-parts t v cs ok) (start t) (start-state t v) in
      let q : get_or (block_of t (blocks_of t cs) (start t)) (block 0) ≡ r.block = rw r.is.found in
      rw q (from-short r.block r.is.made (far_of (distances t (blocks_of t cs)) r.block) refl)

  ended-short : (l : Look) {ss : List Step} → plan ss ≡ end_of l → plan_steps l ≡ length ss
  unfolding end_of plan_steps
  ended-short (planned ss) e = sym cc
  ended-short hopeless e = let z : ◌≡◌ {A = ℕ} 0 1 = cc in absurd (omega arith)
  ended-short (flaw k c) e = let z : ◌≡◌ {A = ℕ} 0 1 = cc in absurd (omega arith)

module _ (t : Task) (v : Accepted t) (room : ℕ) (h : 1 ≤ room) where
  pub plan-short : (ss : List Step) → (run t room).answer ≡ plan ss → length ss < room
  plan-short ss e =
      let r = run-right t v room h in
      let cs = (run t room).made in
      let k = ended-short t v cs r.made (look t (blocks_of t cs)) (sym e ∙ r.ends) in
      omega (arith, k, look-short t v cs r.made, blocks-length t cs, r.fits)
