-- The trace: each hop is the lowest that keeps the distance, and all together are a path of the block's own distance.
use mathlib.Core.Path.{◌≡◌, refl, ap, ◌∙◌, subst}
use mathlib.Core.Logic.{⊎_elim}
use mathlib.Core.Bool.{Bool, true, false, ◌&&◌}
use mathlib.Core.List.{List, [], ◌∷◌}
use mathlib.Core.Option.{Option, none, some}
use Prim.Native.Nat.{ℕ, zero, suc, ◌<◌}
use native.Mathlib.Omega.{arith}
use lib.ListN.{length}
use lib.Dec.{eqb}
use borrow.Author.Tests.{eqb-true, eq-eqb}
use Rattle.task.specs.declared.Step.{Step}
use Rattle.task.specs.declared.Block.{Block}
use Rattle.task.specs.Loops.{first, when}
use Rattle.task.specs.Task.{Task, Tenths, step, block, step_count, cost_of}
use Rattle.task.proofs.LoopLaws.{true-or-false, and_left, and_right, and_both, first_some, first-none, first_found, when-some, when-none}
use Rattle.blocks.specs.Blocks.{Blocks, block_at, goal_block}
use Rattle.distances.specs.Distances.{Distance, Hop, Table, AtMost, IsDistance, leads_to, is_path, far, far_of, plus, zero_far, distances}
use Rattle.distances.proofs.OrderLaws.{Below, below, zero_at_most, at-most-antisym, plus-mono}
use Rattle.distances.proofs.LeastLaws.{Arc, first_of, path-cons, below_all, distances-right}
use Rattle.run.specs.Run.{keeps, next_hop, trace}

pub keeps-some : (d : Distance) (w : Tenths) (o : Option Distance) → keeps d w o ≡ true → (e : Distance) × (o ≡ some e) × (plus w e ≡ d)
unfolding keeps
keeps-some d w none h = let z : ◌≡◌ {A = ℕ} 0 1 = cc in absurd (omega arith)
keeps-some d w (some e) h =
    let c : (plus w e).cost ≡ d.cost = eqb-true _ _ (and_left _ (eqb (plus w e).steps d.steps) h) in
    let s : (plus w e).steps ≡ d.steps = eqb-true _ _ (and_right (eqb (plus w e).cost d.cost) _ h) in
    (e, refl, λ i. record { cost = c i; steps = s i })

some-keeps : (d : Distance) (w : Tenths) (o : Option Distance) {e : Distance} → o ≡ some e → plus w e ≡ d → keeps d w o ≡ true
unfolding keeps
some-keeps d w o {e} p q = rw (p, q) (and_both (eq-eqb d.cost d.cost refl) (eq-eqb d.steps d.steps refl))

module _ (t : Task) (bs : Blocks) where
  -- an arc keeps the distance d of block a
  abbrev pub keeps_arc : Table → Block → Distance → Step → Block → Bool
  keeps_arc l a d s b = leads_to t bs s a b && keeps d (cost_of t s) (far_of l b)

  -- the lowest step number and, for that step, the lowest block number
  pub record Lowest (l : Table) (a : Block) (d : Distance) (h : Hop) : Type 0 where
    pub known : h.step.0 < step_count t
    pub made : h.to.0 < length bs
    pub keeps : keeps_arc l a d h.step h.to ≡ true
    pub no-lower-step : (s : Step) (b : Block) → s.0 < h.step.0 → b.0 < length bs → keeps_arc l a d s b ≡ false
    pub no-lower-block : (b : Block) → b.0 < h.to.0 → keeps_arc l a d h.step b ≡ false

  pub next-lowest : (l : Table) (a : Block) (d : Distance) {h : Hop} → next_hop t bs l a d ≡ some h → Lowest l a d h
  unfolding next_hop
  next-lowest l a d {h} e =
      let found : ℕ → ℕ → Option Hop = λ s b. when (keeps_arc l a d (step s) (block b)) (record { step = step s; to = block b }) in
      let p = first_some (step_count t) (λ s. first (length bs) (found s)) e in
      let q = first_some (length bs) (found p.place) p.here in
      let w = when-some (keeps_arc l a d (step p.place) (block q.place)) (record { step = step p.place; to = block q.place }) q.here in
      subst (λ (k : Hop). Lowest l a d k) w.1
      (record {
        known = p.below;
        made = q.below;
        keeps = w.0;
        no-lower-step = λ s b hs hb. when-none (keeps_arc l a d s b) _ (first-none (length bs) (found s.0) (p.before s.0 hs) b.0 hb);
        no-lower-block = λ b hb. when-none (keeps_arc l a d (step p.place) b) _ (q.before b.0 hb);
      })

  -- where an arc keeps the distance, one is found
  next-found : (l : Table) (a : Block) (d : Distance) (s : Step) (b : Block) → s.0 < step_count t → b.0 < length bs → keeps_arc l a d s b ≡ true
      → (h : Hop) × (next_hop t bs l a d ≡ some h)
  unfolding next_hop
  next-found l a d s b hs hb k =
      let found : ℕ → ℕ → Option Hop = λ s b. when (keeps_arc l a d (step s) (block b)) (record { step = step s; to = block b }) in
      let i = first_found (length bs) (found s.0) b.0 {a = record { step = s; to = b }} hb (rw k) in
      first_found (step_count t) (λ s. first (length bs) (found s)) s.0 hs i.1

  -- ---- the distances

  -- a block that is some steps from a goal block has an arc that keeps its distance
  kept-arc : (a : Block) (d : Distance) (n : ℕ) → a.0 < length bs → far_of (distances t bs) a ≡ some d → d.steps ≡ suc n → Arc t bs (distances t bs) a d
  unfolding far zero_far
  kept-arc a d n ha e s = go dist.path.0 dist.path.1 dist.path.2
    where
      dist : IsDistance t bs a d
      dist = rw e at (distances-right t bs a ha)

      go : (hs : List Hop) → is_path t bs a hs ≡ true → far t hs ≡ d → Arc t bs (distances t bs) a d
      go [] w q = let z : 0 ≡ d.steps = ap (λ (k : Distance). k.steps) q in absurd (omega arith)
      go (h ∷ hs) w q =
          let f = first_of t bs a h hs w in
          near (far_of (distances t bs) h.to) refl (below_all t bs hs h.to f.made f.rest)
        where
          near : (o : Option Distance) → far_of (distances t bs) h.to ≡ o → Below o (far t hs) → Arc t bs (distances t bs) a d
          near none ek b = elim b [ ]
          near (some k) ek (below b) =
              let f = first_of t bs a h hs w in
              let w : Tenths = cost_of t h.step in
              let dk : IsDistance t bs h.to k = rw ek at (distances-right t bs h.to f.made) in
              let longer = path-cons t bs a h dk.path.0 (record { known = f.known; made = f.made; leads = f.leads; rest = dk.path.1 }) in
              let up : AtMost (plus w k) d = subst (λ (z : Distance). AtMost (plus w k) z) q (plus-mono w b) in
              let down : AtMost d (plus w k) = subst (λ (z : Distance). AtMost d (plus w z)) dk.path.2 (dist.least (h ∷ dk.path.0) longer) in
              record { hop = h; known = f.known; made = f.made; leads = f.leads; next = k; is = ek; sum = at-most-antisym up down }

  next-arc : (a : Block) (d : Distance) (n : ℕ) → a.0 < length bs → far_of (distances t bs) a ≡ some d → d.steps ≡ suc n
      → (r : Arc t bs (distances t bs) a d) × (next_hop t bs (distances t bs) a d ≡ some r.hop)
  next-arc a d n ha e s =
      let r = kept-arc a d n ha e s in
      let test = and_both r.leads (some-keeps d (cost_of t r.hop.step) (far_of (distances t bs) r.hop.to) r.is r.sum) in
      let o = next-found (distances t bs) a d r.hop.step r.hop.to r.known r.made test in
      let h : Hop = o.0 in
      let p = next-lowest (distances t bs) a d o.1 in
      let k = keeps-some d (cost_of t h.step) (far_of (distances t bs) h.to) (and_right (leads_to t bs h.step a h.to) _ p.keeps) in
      let lead = and_left _ (keeps d (cost_of t h.step) (far_of (distances t bs) h.to)) p.keeps in
      (record { hop = h; known = p.known; made = p.made; leads = lead; next = k.0; is = k.1; sum = k.2 }, o.1)

  at-goal : (a : Block) (d : Distance) → IsDistance t bs a d → d.steps ≡ 0 → (is_path t bs a [] ≡ true) × (far t [] ≡ d)
  unfolding far plus
  at-goal a d dist s = go dist.path.0 dist.path.1 dist.path.2
    where
      go : (hs : List Hop) → is_path t bs a hs ≡ true → far t hs ≡ d → (is_path t bs a [] ≡ true) × (far t [] ≡ d)
      go [] w q = (w, q)
      go (h ∷ hs) w q = let z : suc (far t hs).steps ≡ d.steps = ap (λ (k : Distance). k.steps) q in absurd (omega arith)

  -- a goal block has cost 0 and 0 steps
  pub goal-zero : (a : Block) (d : Distance) → a.0 < length bs → goal_block t (block_at bs a) ≡ true → far_of (distances t bs) a ≡ some d → d ≡ zero_far
  unfolding is_path far
  goal-zero a d ha g e =
      let dist : IsDistance t bs a d = rw e at (distances-right t bs a ha) in
      at-most-antisym (dist.least [] g) (zero_at_most d)

  -- so a block from which the trace goes on is no goal block: it is the first goal block that the trace ends in
  pub goes-on : (a : Block) (d : Distance) → a.0 < length bs → far_of (distances t bs) a ≡ some d → 0 < d.steps → goal_block t (block_at bs a) ≡ false
  unfolding zero_far
  goes-on a d ha e h =
      ⊎_elim (λ (g : goal_block t (block_at bs a) ≡ true). absurd (omega (arith, ap (λ (x : Distance). x.steps) (goal-zero a d ha g e)))) (λ (g : goal_block t (block_at bs a) ≡ false). g)
      (true-or-false (goal_block t (block_at bs a)))

  pub trace-next : (l : Table) (n : ℕ) (a : Block) (d : Distance) (h : Hop) → far_of l a ≡ some d → next_hop t bs l a d ≡ some h → trace t bs l (suc n) a ≡ h ∷ trace t bs l n h.to
  unfolding trace
  trace-next l n a d h e q = rw (e, trace) (rw (q, trace))

  pub trace-none : (l : Table) (n : ℕ) (a : Block) (d : Distance) → far_of l a ≡ some d → next_hop t bs l a d ≡ none → trace t bs l (suc n) a ≡ []
  unfolding trace
  trace-none l n a d e q = rw (e, trace) (rw (q, trace))

  -- the trace is a path of the block's own distance
  pub trace-path : (n : ℕ) (a : Block) (d : Distance) → a.0 < length bs → far_of (distances t bs) a ≡ some d → d.steps ≡ n
      → (is_path t bs a (trace t bs (distances t bs) n a) ≡ true) × (far t (trace t bs (distances t bs) n a) ≡ d)
  unfolding trace far plus
  trace-path zero a d ha e s = at-goal a d (rw e at (distances-right t bs a ha)) s
  trace-path (suc n) a d ha e s =
      let r = next-arc a d n ha e s in
      let k = r.0 in
      let steps : suc k.next.steps ≡ d.steps = ap (λ (z : Distance). z.steps) k.sum in
      let ih = trace-path n k.hop.to k.next k.made k.is (omega arith) in
      let rest = trace t bs (distances t bs) n k.hop.to in
      rw (trace-next (distances t bs) n a d k.hop e r.1)
      (path-cons t bs a k.hop rest (record { known = k.known; made = k.made; leads = k.leads; rest = ih.0 }), ap (plus (cost_of t k.hop.step)) ih.1 ∙ k.sum)
