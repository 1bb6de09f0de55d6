-- Tables that are the distances: for code that works them out in another order than the rounds. A block has one distance, and a table that
-- one more round leaves as it is holds the distances.
use mathlib.Core.Path.{◌≡◌, refl, sym, ap, ◌∙◌, subst}
use mathlib.Core.Logic.{⊎_elim}
use mathlib.Core.Bool.{true}
use mathlib.Core.List.{List}
use mathlib.Core.Option.{Option, none, some}
use Prim.Native.Nat.{ℕ, zero, suc, ◌+◌, ◌*◌, ◌≤◌, ◌<◌}
use native.Mathlib.Omega.{arith}
use lib.ListN.{length}
use Rattle.task.specs.declared.Step.{Step}
use Rattle.task.specs.declared.Block.{Block}
use Rattle.task.specs.Task.{Task, Tenths, cost_of}
use Rattle.blocks.specs.Blocks.{Blocks, block_at, goal_block}
use Rattle.distances.specs.Distances.{Distance, Hop, Table, AtMost, DistanceIs, is_path, far, far_of, plus, zero_far, better, rounds, distances}
use Rattle.distances.proofs.OrderLaws.{Below, of-below, not-below, at-most-antisym}
use Rattle.distances.proofs.LeastLaws.{PathOf, Arc, step-below, round-found, arc-met, goal-met, round-at, distances-right}

-- a block has only one distance
pub distance-unique : (t : Task) (bs : Blocks) (a : Block) (o q : Option Distance) → DistanceIs t bs a o → DistanceIs t bs a q → o ≡ q
distance-unique t bs a none none h k = refl
distance-unique t bs a none (some e) h k = absurd (h k.path.0 k.path.1)
distance-unique t bs a (some d) none h k = absurd (k h.path.0 h.path.1)
distance-unique t bs a (some d) (some e) h k =
    ap {B = Option Distance} some
    (at-most-antisym
    (subst (λ (z : Distance). AtMost d z) k.path.2 (h.least k.path.0 k.path.1))
    (subst (λ (z : Distance). AtMost e z) h.path.2 (k.least h.path.0 h.path.1)))

module _ (t : Task) (bs : Blocks) where
  -- a table that is met by paths and at most every path holds the distances
  pub table-right : (l : Table) → ((a : Block) (d : Distance) → a.0 < length bs → far_of l a ≡ some d → PathOf t bs a d)
      → ((hs : List Hop) (a : Block) → a.0 < length bs → is_path t bs a hs ≡ true → Below (far_of l a) (far t hs))
      → (a : Block) → a.0 < length bs → far_of l a ≡ far_of (distances t bs) a
  table-right l met low a h = distance-unique t bs a (far_of l a) (far_of (distances t bs) a) (go (far_of l a) refl) (distances-right t bs a h)
    where
      go : (o : Option Distance) → far_of l a ≡ o → DistanceIs t bs a o
      go none e = λ hs w. not-below (rw e at (low hs a h w))
      go (some d) e = record { path = met a d h e; least = λ hs w. of-below (rw e at (low hs a h w)) }

  -- a table that one more round leaves as it is
  unfoldable pub Settled : Table → Type 0
  Settled l = (a : Block) → a.0 < length bs → far_of l a ≡ better t bs (goal_block t (block_at bs a)) l a

  settled-low : (l : Table) → Settled l → (n : ℕ) (hs : List Hop) → length hs ≤ n → (a : Block) → a.0 < length bs → is_path t bs a hs ≡ true → Below (far_of l a) (far t hs)
  unfolding Settled
  settled-low l s zero hs k a h w = rw (s a h) (step-below t bs l a (goal_block t (block_at bs a)) refl hs w (λ b hs' hb k' w'. absurd (omega arith)))
  settled-low l s (suc n) hs k a h w =
      rw (s a h) (step-below t bs l a (goal_block t (block_at bs a)) refl hs w (λ b hs' hb k' w'. settled-low l s n hs' (omega arith) b hb w'))

  settled-met : (l : Table) → Settled l → (n : ℕ) (a : Block) (d : Distance) → d.steps ≤ n → a.0 < length bs → far_of l a ≡ some d → PathOf t bs a d
  unfolding Settled plus
  settled-met l s zero a d k h e =
      ⊎_elim (λ p. goal-met t bs a p.0 p.1)
      (λ r. let q : suc r.next.steps ≡ d.steps = ap (λ (k : Distance). k.steps) r.sum in absurd (omega arith))
      (round-found t bs l a (goal_block t (block_at bs a)) (sym (s a h) ∙ e))
  settled-met l s (suc n) a d k h e =
      ⊎_elim (λ p. goal-met t bs a p.0 p.1)
      (λ r.
      let q : suc r.next.steps ≡ d.steps = ap (λ (k : Distance). k.steps) r.sum in
      arc-met t bs l a r (settled-met l s n r.hop.to r.next (omega arith) r.made r.is))
      (round-found t bs l a (goal_block t (block_at bs a)) (sym (s a h) ∙ e))

  -- it holds the distances
  pub settled-right : (l : Table) → Settled l → (a : Block) → a.0 < length bs → far_of l a ≡ far_of (distances t bs) a
  settled-right l s =
      table-right l (λ a d h e. settled-met l s d.steps a d (omega arith) h e) (λ hs a h w. settled-low l s (length hs) hs (omega arith) a h w)

  -- the largest distance: fewer steps than rounds, and no more than w for each
  pub rounds-bound : (w : Tenths) → ((s : Step) → cost_of t s ≤ w) → (n : ℕ) (a : Block) {d : Distance} → a.0 < length bs → far_of (rounds t bs n) a ≡ some d
      → (d.steps < n) × (d.cost ≤ w * d.steps)
  unfolding far_of rounds plus zero_far
  rounds-bound w f zero a h e = let z : ◌≡◌ {A = ℕ} 0 1 = cc in absurd (omega arith)
  rounds-bound w f (suc n) a {d} h e =
      ⊎_elim
      (λ p.
      let c : 0 ≡ d.cost = ap (λ (k : Distance). k.cost) p.1 in
      let k : 0 ≡ d.steps = ap (λ (k : Distance). k.steps) p.1 in
      (omega arith, omega arith))
      (λ (r : Arc t bs (rounds t bs n) a d).
      let ih = rounds-bound w f n r.hop.to {d = r.next} r.made r.is in
      let c : cost_of t r.hop.step + r.next.cost ≡ d.cost = ap (λ (k : Distance). k.cost) r.sum in
      let k : suc r.next.steps ≡ d.steps = ap (λ (k : Distance). k.steps) r.sum in
      (omega (arith, ih.0), subst (λ (i : ℕ). d.cost ≤ w * i) k (omega (arith, ih.1, f r.hop.step))))
      (round-found t bs (rounds t bs n) a (goal_block t (block_at bs a)) (sym (round-at t bs n a h) ∙ e))
