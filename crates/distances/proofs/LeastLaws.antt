-- The distances worked out in rounds are the least over all paths.
use mathlib.Core.Path.{◌≡◌, refl, sym, ap, ◌∙◌}
use mathlib.Core.Logic.{◌⊎◌, inl, inr, ⊎_elim}
use mathlib.Core.Bool.{Bool, true, false, ◌&&◌}
use mathlib.Core.List.{List, [], ◌∷◌}
use mathlib.Core.Option.{Option, none, some}
use Prim.Native.Nat.{ℕ, zero, suc, ◌≤◌, ◌<◌}
use native.Mathlib.Nat.{not-suc-le-zero}
use native.Mathlib.Omega.{arith}
use lib.ListN.{length}
use lib.Dec.{ltb}
use borrow.Author.Tests.{ltb-true, lt-ltb}
use Rattle.task.specs.declared.Block.{Block}
use Rattle.task.specs.Task.{Task, step, block, step_count, cost_of}
use Rattle.task.proofs.LoopLaws.{and_left, and_right, and_both, tab-at}
use Rattle.blocks.specs.Blocks.{Blocks, block_at, goal_block}
use Rattle.distances.specs.Distances.{Distance, Hop, Table, AtMost, DistanceIs, leads_to, is_path, far, far_of, plus, zero_far, onward, better, round, rounds, distances}
use Rattle.distances.proofs.OrderLaws.{Below, below, weaken, of-below, not-below, at-most-refl, at-most-trans, zero_at_most, plus-mono, plus-more, least-below, least-found, via-below, via-some}
use Rattle.distances.proofs.PigeonLaws.{In, here, there, Different, in-or-not, pigeon}

-- the numbers of the blocks that a path comes to
abbrev tos : List Hop → List ℕ
tos [] = []
tos (h ∷ hs) = h.to.0 ∷ tos hs

tos-length : (hs : List Hop) → length (tos hs) ≡ length hs
tos-length [] = refl
tos-length (h ∷ hs) = ap suc (tos-length hs)

module _ (t : Task) (bs : Blocks) where
  -- the parts of a path's first hop
  pub record First (a : Block) (h : Hop) (hs : List Hop) : Type 0 where
    pub known : h.step.0 < step_count t
    pub made : h.to.0 < length bs
    pub leads : leads_to t bs h.step a h.to ≡ true
    pub rest : is_path t bs h.to hs ≡ true

  pub first_of : (a : Block) (h : Hop) (hs : List Hop) → is_path t bs a (h ∷ hs) ≡ true → First a h hs
  unfolding is_path
  first_of a h hs w =
      let k : Bool = ltb h.step.0 (step_count t) in
      let m : Bool = ltb h.to.0 (length bs) in
      let l : Bool = leads_to t bs h.step a h.to in
      let r : Bool = is_path t bs h.to hs in
      let three : (k && m && l) ≡ true = and_left (k && m && l) r w in
      let two : (k && m) ≡ true = and_left (k && m) l three in
      record { known = ltb-true _ _ (and_left k m two); made = ltb-true _ _ (and_right k m two); leads = and_right (k && m) l three; rest = and_right (k && m && l) r w }

  pub path-cons : (a : Block) (h : Hop) (hs : List Hop) → First a h hs → is_path t bs a (h ∷ hs) ≡ true
  unfolding is_path
  path-cons a h hs f = and_both (and_both (and_both (lt-ltb h.step.0 _ f.known) (lt-ltb h.to.0 _ f.made)) f.leads) f.rest

  -- a path from block a that comes to d
  abbrev pub PathOf : Block → Distance → Type 0
  PathOf a d = (hs : List Hop) × (is_path t bs a hs ≡ true) × (far t hs ≡ d)

  pub round-at : (n : ℕ) (a : Block) → a.0 < length bs → far_of (rounds t bs (suc n)) a ≡ better t bs (goal_block t (block_at bs a)) (rounds t bs n) a
  unfolding far_of rounds round
  round-at n a h = tab-at (length bs) (λ a. better t bs (goal_block t (block_at bs (block a))) (rounds t bs n) (block a)) none a.0 h

  -- one round: at most every path whose rest the table is at most
  pub step-below : (l : Table) (a : Block) (g : Bool) → goal_block t (block_at bs a) ≡ g → (hs : List Hop) → is_path t bs a hs ≡ true
      → ((b : Block) (hs' : List Hop) → b.0 < length bs → length hs' < length hs → is_path t bs b hs' ≡ true → Below (far_of l b) (far t hs'))
      → Below (better t bs g l a) (far t hs)
  unfolding better onward far is_path
  step-below l a true e hs w ih = below (zero_at_most (far t hs))
  step-below l a false e [] w ih = let z : ◌≡◌ {A = ℕ} 0 1 = cc in absurd (omega arith)
  step-below l a false e (h ∷ hs) w ih =
      let f = first_of a h hs w in
      least-below (step_count t) _ h.step.0 f.known
      (least-below (length bs) _ h.to.0 f.made
      (rw f.leads (via-below (cost_of t h.step) (far_of l h.to) (ih h.to hs f.made (omega arith) f.rest))))

  -- an arc from block a to an entry of the table that comes to d
  pub record Arc (l : Table) (a : Block) (d : Distance) : Type 0 where
    pub hop : Hop
    pub known : hop.step.0 < step_count t
    pub made : hop.to.0 < length bs
    pub leads : leads_to t bs hop.step a hop.to ≡ true
    pub next : Distance
    pub is : far_of l hop.to ≡ some next
    pub sum : plus (cost_of t hop.step) next ≡ d

  -- what a round finds: a goal block, or an arc
  pub round-found : (l : Table) (a : Block) (g : Bool) {d : Distance} → better t bs g l a ≡ some d → ((g ≡ true) × (zero_far ≡ d)) ⊎ Arc l a d
  unfolding better onward
  round-found l a true {d} h = inl (refl, cc)
  round-found l a false {d} h =
      let r = least-found (step_count t) _ h in
      let q = least-found (length bs) _ r.2 in
      let v = via-some (leads_to t bs (step r.0) a (block q.0)) (cost_of t (step r.0)) (far_of l (block q.0)) q.2 in
      inr (record { hop = record { step = step r.0; to = block q.0 }; known = r.1; made = q.1; leads = v.0; next = v.1.0; is = v.1.1; sum = v.1.2 })

  -- and met by a path, where the table's entry is
  pub arc-met : (l : Table) (a : Block) {d : Distance} (r : Arc l a d) → PathOf r.hop.to r.next → PathOf a d
  unfolding far
  arc-met l a r w = (
    r.hop ∷ w.0,
    path-cons a r.hop w.0 (record { known = r.known; made = r.made; leads = r.leads; rest = w.1 }),
    ap (plus (cost_of t r.hop.step)) w.2 ∙ r.sum,
  )

  pub goal-met : (a : Block) {d : Distance} → goal_block t (block_at bs a) ≡ true → zero_far ≡ d → PathOf a d
  unfolding far is_path
  goal-met a g e = ([], g, e)

  -- after n rounds: at most every path of fewer than n steps
  below-paths : (n : ℕ) (hs : List Hop) (a : Block) → a.0 < length bs → length hs < n → is_path t bs a hs ≡ true → Below (far_of (rounds t bs n) a) (far t hs)
  below-paths zero hs a ha l w = absurd (not-suc-le-zero l)
  below-paths (suc n) hs a ha l w =
      rw (round-at n a ha)
      (step-below (rounds t bs n) a (goal_block t (block_at bs a)) refl hs w (λ b hs' hb k w'. below-paths n hs' b hb (omega arith) w'))

  -- and met by one
  met : (n : ℕ) (a : Block) {d : Distance} → a.0 < length bs → far_of (rounds t bs n) a ≡ some d → PathOf a d
  unfolding far_of rounds
  met zero a ha e = let z : ◌≡◌ {A = ℕ} 0 1 = cc in absurd (omega arith)
  met (suc n) a {d} ha e =
      ⊎_elim (λ p. goal-met a p.0 p.1)
      (λ (r : Arc (rounds t bs n) a d). arc-met (rounds t bs n) a r (met n r.hop.to {d = r.next} r.made r.is))
      (round-found (rounds t bs n) a (goal_block t (block_at bs a)) (sym (round-at n a ha) ∙ e))

  -- a path that meets no block twice and is no longer
  abbrev Simple : Block → Distance → Type 0
  Simple a d = (hs : List Hop) × (is_path t bs a hs ≡ true) × Different (a.0 ∷ tos hs) × AtMost (far t hs) d

  -- what is left of a path from a block that it meets
  suffix : (hs : List Hop) (a b : Block) → is_path t bs b hs ≡ true → Different (b.0 ∷ tos hs) → In a.0 (b.0 ∷ tos hs) → Simple a (far t hs)
  unfolding far
  suffix [] a b w d (here e) = let z : a ≡ b = ap block e in ([], rw z w, rw z d, at-most-refl (far t []))
  suffix [] a b w d (there i) = elim i [ ]
  suffix (h ∷ hs) a b w d (here e) = let z : a ≡ b = ap block e in (h ∷ hs, rw z w, rw z d, at-most-refl (far t (h ∷ hs)))
  suffix (h ∷ hs) a b w d (there i) =
      let r = suffix hs a h.to (first_of b h hs w).rest d.1 i in
      (r.0, r.1, r.2, at-most-trans r.3 (plus-more (cost_of t h.step) (far t hs)))

  simple : (hs : List Hop) (a : Block) → is_path t bs a hs ≡ true → Simple a (far t hs)
  unfolding far
  simple [] a w = ([], w, (elim [ ], tt), at-most-refl zero_far)
  simple (h ∷ hs) a w =
      let f = first_of a h hs w in
      let r = simple hs h.to f.rest in
      ⊎_elim
      (λ (i : In a.0 (h.to.0 ∷ tos r.0)).
      let q = suffix r.0 a h.to r.1 r.2 i in
      (q.0, q.1, q.2, at-most-trans q.3 (at-most-trans r.3 (plus-more (cost_of t h.step) (far t hs)))))
      (λ (n : In a.0 (h.to.0 ∷ tos r.0) → ⊥). (
        h ∷ r.0,
        path-cons a h r.0 (record { known = f.known; made = f.made; leads = f.leads; rest = r.1 }),
        (n, r.2),
        plus-mono (cost_of t h.step) r.3,
      ))
      (in-or-not a.0 (h.to.0 ∷ tos r.0))

  tos-below : (hs : List Hop) (a : Block) → a.0 < length bs → is_path t bs a hs ≡ true → (x : ℕ) → In x (a.0 ∷ tos hs) → x < length bs
  tos-below [] a h w x (here e) = rw e h
  tos-below [] a h w x (there i) = elim i [ ]
  tos-below (k ∷ hs) a h w x (here e) = rw e h
  tos-below (k ∷ hs) a h w x (there i) = let f = first_of a k hs w in tos-below hs k.to f.made f.rest x i

  -- as many rounds as there are blocks are enough
  pub below_all : (hs : List Hop) (a : Block) → a.0 < length bs → is_path t bs a hs ≡ true → Below (far_of (distances t bs) a) (far t hs)
  unfolding distances
  below_all hs a h w =
      let r = simple hs a w in
      let l : length (a.0 ∷ tos r.0) ≤ length bs = pigeon (length bs) (a.0 ∷ tos r.0) r.2 (tos-below r.0 a h r.1) in
      weaken (below-paths (length bs) r.0 a h (omega (arith, l, tos-length r.0)) r.1) r.3

  -- the computed distance is the distance
  pub distances-right : (a : Block) → a.0 < length bs → DistanceIs t bs a (far_of (distances t bs) a)
  distances-right a h = go (far_of (distances t bs) a) refl
    where
      go : (o : Option Distance) → far_of (distances t bs) a ≡ o → DistanceIs t bs a o
      go none e = λ hs w. not-below (rw e at (below_all hs a h w))
      go (some d) e = record { path = unfold distances in met (length bs) a h e; least = λ hs w. of-below (rw e at (below_all hs a h w)) }
