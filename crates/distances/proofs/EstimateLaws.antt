-- Estimates: each is the distance of its state's block; none is above the cost of a plan from there; along a step it falls by at most the step's
-- cost; and no cut makes one fall.
use mathlib.Core.Path.{◌≡◌, refl, sym, ap, ◌∙◌, subst}
use mathlib.Core.Bool.{true}
use mathlib.Core.List.{List, [], ◌∷◌, ◌++◌}
use mathlib.Core.Option.{Option, none, some, map}
use Prim.Native.Nat.{ℕ, suc, ◌+◌, ◌≤◌, ◌<◌}
use native.Mathlib.Omega.{arith}
use lib.ListN.{length}
use Rattle.task.specs.declared.Step.{Step}
use Rattle.task.specs.declared.Block.{Block}
use Rattle.task.specs.Sizes.{limits, most_cost, most_tenths}
use Rattle.task.specs.Task.{Task, State, Tenths, Accepted, step_count, cost_of, is_state, is_goal, can_take, taken, reaches, costs}
use Rattle.task.proofs.TaskLaws.{taken-state, first_step}
use Rattle.blocks.specs.declared.Cut.{Cut}
use Rattle.blocks.specs.Blocks.{Blocks, block_at, cut_block, cut_ok, accepted, blocks_of}
use Rattle.blocks.proofs.LeadLaws.{in_within, leads-sound, leads-mono, goal-sound, goal-mono}
use Rattle.blocks.proofs.PartLaws.{Parts, CutFits, Origin, origin, fits, cut_parts}
use Rattle.blocks.proofs.CutLaws.{BlockIs, block-of, accepted-parts, blocks_more, blocks-length}
use Rattle.distances.specs.Distances.{Distance, Hop, IsDistance, DistanceIs, NoMore, number, no_way, leads_to, is_path, far, far_of, plus, zero_far, distances, state_far, estimate}
use Rattle.distances.proofs.OrderLaws.{Below, below}
use Rattle.distances.proofs.LeastLaws.{PathOf, first_of, path-cons, below_all, distances-right}
use Rattle.distances.proofs.TableLaws.{rounds-bound}

abbrev cost_in : Option Distance → Option Tenths
cost_in o = map (λ d. d.cost) o

cost-below : (o : Option Distance) {d : Distance} → Below o d → NoMore (cost_in o) (some d.cost)
cost-below none h = elim h [ ]
cost-below (some e) (below h) = number h.cost

at-most-then : {a : Option Tenths} {b c : Tenths} → NoMore a (some b) → b ≤ c → NoMore a (some c)
at-most-then {c = c} (number {a = a} h) k = let l : a ≤ c = omega arith in number l

module _ (t : Task) (bs : Blocks) (good : Parts t bs) where
  -- the block of a state, and its distance
  pub record StateFar (x : State) : Type 0 where
    pub block : Block
    pub is : BlockIs t bs x block
    pub far : state_far t bs x ≡ far_of (distances t bs) block

  pub state-far : (x : State) → is_state t x ≡ true → StateFar x
  unfolding state_far
  state-far x h = let r = block-of t bs good x h in record { block = r.0; is = r.1; far = rw r.1.found }

  -- a path from a state's block is no less than the state's distance
  pub far-below : (x : State) (h : is_state t x ≡ true) (hs : List Hop) → is_path t bs (state-far x h).block hs ≡ true → Below (state_far t bs x) (far t hs)
  far-below x h hs w = let r = state-far x h in rw r.far (below_all t bs hs r.block r.is.made w)

  -- the distance of a goal state's block is zero
  goal-far : (x : State) → is_state t x ≡ true → is_goal t x ≡ true → Below (state_far t bs x) zero_far
  unfolding is_path far
  goal-far x h g = let r = state-far x h in far-below x h [] (goal-sound t x (block_at bs r.block) r.is.inside g)

  -- over a step, the distance after it and the step are no less than the distance before
  step-far : Accepted t → (x : State) → is_state t x ≡ true → (s : Step) → s.0 < step_count t → can_take t s x ≡ true
      → {d : Distance} → state_far t bs (taken t s x) ≡ some d → Below (state_far t bs x) (plus (cost_of t s) d)
  unfolding far leads_to
  step-far v x h s k c {d} e =
      let y : is_state t (taken t s x) ≡ true = taken-state t v s x h in
      let «from» = state-far x h in
      let to = state-far (taken t s x) y in
      let dist : IsDistance t bs to.block d = rw (sym to.far ∙ e) at (distances-right t bs to.block to.is.made) in
      let lead = leads-sound t s x (block_at bs «from».block) (block_at bs to.block) «from».is.inside c to.is.inside in
      let path = path-cons t bs «from».block (record { step = s; to = to.block }) dist.path.0 (record { known = k; made = to.is.made; leads = lead; rest = dist.path.1 }) in
      subst (λ (z : Distance). Below (state_far t bs x) (plus (cost_of t s) z)) dist.path.2 (far-below x h (record { step = s; to = to.block } ∷ dist.path.0) path)

-- ---- a cut
module _ (t : Task) (bs : Blocks) (c : Cut) (good : Parts t bs) (f : CutFits t bs c) where
  -- a path between the new blocks is one between the old, of the same cost and as many steps
  path-back : (hs : List Hop) (a : Block) (o : Origin t bs c good f a) → is_path t (cut_block bs c) a hs ≡ true → PathOf t bs o.parent (far t hs)
  unfolding is_path far leads_to
  path-back [] a o w = ([], goal-mono t (block_at (cut_block bs c) a) (block_at bs o.parent) o.shape o.within w, refl)
  path-back (h ∷ hs) a o w =
      let g = first_of t (cut_block bs c) a h hs w in
      let q = origin t bs c good f h.to g.made in
      let r = path-back hs h.to q g.rest in
      let lead =
      leads-mono t h.step (block_at (cut_block bs c) a) (block_at (cut_block bs c) h.to) (block_at bs o.parent) (block_at bs q.parent) o.shape o.within q.within g.leads in (
        record { step = h.step; to = q.parent } ∷ r.0,
        path-cons t bs o.parent (record { step = h.step; to = q.parent }) r.0 (record { known = g.known; made = q.known; leads = lead; rest = r.1 }),
        ap (plus (cost_of t h.step)) r.2,
      )

  -- no distance falls
  no-fall : (x : State) → is_state t x ≡ true → {d : Distance} → state_far t (cut_block bs c) x ≡ some d → Below (state_far t bs x) d
  no-fall x h {d} e =
      let new = state-far t (cut_block bs c) (cut_parts t bs c good f) x h in
      let old = state-far t bs good x h in
      let o = origin t bs c good f new.block new.is.made in
      let dist : IsDistance t (cut_block bs c) new.block d = rw (sym new.far ∙ e) at (distances-right t (cut_block bs c) new.block new.is.made) in
      let r = path-back dist.path.0 new.block o dist.path.1 in
      let same : o.parent ≡ old.block =
      good.apart x o.parent old.block o.known old.is.made (in_within t _ _ o.within x new.is.inside) old.is.inside in
      let p = subst (λ (b : Block). is_path t bs b r.0 ≡ true) same r.1 in
      subst (λ (z : Distance). Below (state_far t bs x) z) (r.2 ∙ dist.path.2) (far-below t bs good x h r.0 p)

-- ---- estimates
module _ (t : Task) (v : Accepted t) (cs : List Cut) (ok : accepted t cs ≡ true) where
  -- the estimate of a state is the cost of its block's distance, and "no way" where that has none
  pub record EstimateIs (x : State) (e : Option Tenths) : Type 0 where
    pub block : Block
    pub is : BlockIs t (blocks_of t cs) x block
    pub far : Option Distance
    pub distance : DistanceIs t (blocks_of t cs) block far
    pub cost : e ≡ map (λ d. d.cost) far

  pub estimate-is-distance : (x : State) → is_state t x ≡ true → EstimateIs x (estimate t cs x)
  unfolding estimate
  estimate-is-distance x h =
      let r = state-far t (blocks_of t cs) (accepted-parts t v cs ok) x h in
      record {
        block = r.block;
        is = r.is;
        far = far_of (distances t (blocks_of t cs)) r.block;
        distance = distances-right t (blocks_of t cs) r.block r.is.made;
        cost = rw r.far;
      }

  -- a step's cost and the next estimate are never below the estimate before
  pub estimate-consistent : (x : State) → is_state t x ≡ true → (s : Step) → s.0 < step_count t → can_take t s x ≡ true
      → NoMore (estimate t cs x) (map (λ e. cost_of t s + e) (estimate t cs (taken t s x)))
  unfolding estimate
  estimate-consistent x h s k c = go (state_far t bs (taken t s x)) refl
    where
      bs : Blocks
      bs = blocks_of t cs

      go : (o : Option Distance) → state_far t bs (taken t s x) ≡ o → NoMore (cost_in (state_far t bs x)) (map (λ e. cost_of t s + e) (cost_in o))
      go none e = no_way
      go (some d) e = unfold plus in cost-below (state_far t bs x) (step-far t bs (accepted-parts t v cs ok) v x h s k c e)

  -- no plan from a state costs less than its estimate
  pub estimate-below : (ss : List Step) (x : State) → is_state t x ≡ true → reaches t x ss ≡ true → NoMore (estimate t cs x) (some (costs t ss))
  unfolding reaches costs
  estimate-below [] x h r = unfold estimate zero_far in cost-below (state_far t (blocks_of t cs) x) (goal-far t (blocks_of t cs) (accepted-parts t v cs ok) x h r)
  estimate-below (s ∷ ss) x h r =
      let f = first_step t x s ss r in
      go (estimate t cs (taken t s x)) (estimate-below ss (taken t s x) (taken-state t v s x h) f.rest) (estimate-consistent x h s f.known f.can)
    where
      go : (o : Option Tenths) → NoMore o (some (costs t ss)) → NoMore (estimate t cs x) (map (λ e. cost_of t s + e) o) → NoMore (estimate t cs x) (some (cost_of t s + costs t ss))
      go none k n = elim k [ ]
      go (some e) (number k) n = at-most-then n (omega arith)

  -- from cut to cut no state's estimate falls, "no way" ranking above every number
  pub estimates-never-fall : (c : Cut) → cut_ok t (blocks_of t cs) c ≡ true → (x : State) → is_state t x ≡ true → NoMore (estimate t cs x) (estimate t (cs ++ (c ∷ [])) x)
  unfolding estimate
  estimates-never-fall c k x h =
      rw (blocks_more t cs c) (go (state_far t (cut_block (blocks_of t cs) c) x) refl)
    where
      go : (o : Option Distance) → state_far t (cut_block (blocks_of t cs) c) x ≡ o → NoMore (cost_in (state_far t (blocks_of t cs) x)) (cost_in o)
      go none e = no_way
      go (some d) e = cost-below (state_far t (blocks_of t cs) x) (no-fall t (blocks_of t cs) c (accepted-parts t v cs ok) (fits t (blocks_of t cs) c k) x h e)

  -- the largest distance of all blocks is below the mark for "no way"
  pub estimate-bound : length cs < limits.blocks → (x : State) → is_state t x ≡ true → (e : Tenths) → estimate t cs x ≡ some e
      → (e ≤ most_tenths) × (e < limits.no_way)
  unfolding estimate distances
  estimate-bound n x h e q =
      let r = state-far t (blocks_of t cs) (accepted-parts t v cs ok) x h in
      go r.block r.is.made (state_far t (blocks_of t cs) x) (sym r.far) q
    where
      go : (a : Block) → a.0 < length (blocks_of t cs) → (o : Option Distance) → far_of (distances t (blocks_of t cs)) a ≡ o → cost_in o ≡ some e
          → (e ≤ most_tenths) × (e < limits.no_way)
      go a k none far c = let z : ◌≡◌ {A = ℕ} 0 1 = cc in absurd (omega arith)
      go a k (some d) far c =
          let b = rounds-bound t (blocks_of t cs) most_cost v.tenths (length (blocks_of t cs)) a k far in
          let l : length (blocks_of t cs) ≡ suc (length cs) = blocks-length t cs in
          let z : d.cost ≡ e = cc in
          (omega (arith, b.0, b.1), omega (arith, b.0, b.1))
