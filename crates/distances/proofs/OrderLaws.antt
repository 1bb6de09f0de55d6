-- The order of distances, and the least of some.
use mathlib.Core.Path.{◌≡◌, refl, sym, subst}
use mathlib.Core.Logic.{◌⊎◌, inl, inr, ⊎_elim}
use mathlib.Core.Bool.{Bool, true, false, ◌&&◌, ◌||◌}
use mathlib.Core.Option.{Option, none, some}
use Prim.Native.Nat.{ℕ, zero, suc, ◌+◌, ◌≤◌, ◌<◌, zero-le}
use native.Mathlib.Nat.{not-suc-le-zero}
use native.Mathlib.Omega.{arith}
use lib.Dec.{eqb, ltb}
use borrow.Author.Tests.{ltb-true, ltb-false, eqb-true, eq-eqb}
use Rattle.distances.specs.Distances.{Distance, AtMost, plus, zero_far, nearer, pick, least, via}
use Rattle.task.proofs.LoopLaws.{below_suc, true-or-false}

pub at-most-refl : (d : Distance) → AtMost d d
at-most-refl d = record { cost = omega arith; steps = λ e. omega arith }

pub at-most-trans : {d e f : Distance} → AtMost d e → AtMost e f → AtMost d f
at-most-trans {d} {e} {f} p q =
    record {
      cost = omega (arith, p.cost, q.cost);
      steps = λ (h : d.cost ≡ f.cost).
          omega (arith, p.steps (omega (arith, p.cost, q.cost)), q.steps (omega (arith, p.cost, q.cost)));
    }

pub at-most-antisym : {d e : Distance} → AtMost d e → AtMost e d → d ≡ e
at-most-antisym {d} {e} p q =
    let c : d.cost ≡ e.cost = omega (arith, p.cost, q.cost) in
    let s : d.steps ≡ e.steps = omega (arith, p.steps c, q.steps (sym c)) in
    λ i. record { cost = c i; steps = s i }

pub zero_at_most : (d : Distance) → AtMost zero_far d
unfolding zero_far
zero_at_most d = record { cost = zero-le; steps = λ e. zero-le }

pub plus-mono : (w : ℕ) {d e : Distance} → AtMost d e → AtMost (plus w d) (plus w e)
unfolding plus
plus-mono w {d} {e} p = record { cost = omega (arith, p.cost); steps = λ (h : w + d.cost ≡ w + e.cost). omega (arith, p.steps (omega arith)) }

pub plus-more : (w : ℕ) (d : Distance) → AtMost d (plus w d)
unfolding plus
plus-more w d = record { cost = omega arith; steps = λ h. omega arith }

-- the first is there, and at most the second
pub data Below : Option Distance → Distance → Type 0 where
  below : {d e : Distance} → AtMost d e → Below (some d) e

pub weaken : {x : Option Distance} {d e : Distance} → Below x d → AtMost d e → Below x e
weaken (below h) k = below (at-most-trans h k)

pub of-below : {d e : Distance} → Below (some d) e → AtMost d e
of-below (below h) = h

pub not-below : {e : Distance} → Below none e → ⊥
not-below = elim [ ]

or-true : (l q s : Bool) → (l || q && s) ≡ true → (l ≡ true) ⊎ ((q ≡ true) × (s ≡ true))
or-true true q s h = inl refl
or-true false true s h = inr (refl, h)
or-true false false s h = inl h

or-false : (l q s : Bool) → (l || q && s) ≡ false → (l ≡ false) × (q ≡ true → s ≡ false)
or-false true q s h = (h, λ z. cc)
or-false false true s h = (refl, λ z. h)
or-false false false s h = (refl, λ z. cc)

nearer-true : (d e : Distance) → nearer d e ≡ true → AtMost d e
unfolding nearer
nearer-true d e h =
    ⊎_elim
    (λ l. let k : d.cost < e.cost = ltb-true _ _ l in record { cost = omega arith; steps = λ (q : d.cost ≡ e.cost). absurd (omega arith) })
    (λ p.
    let c : d.cost ≡ e.cost = eqb-true _ _ p.0 in
    let k : d.steps < e.steps = ltb-true _ _ p.1 in
    record { cost = omega arith; steps = λ q. omega arith })
    (or-true (ltb d.cost e.cost) (eqb d.cost e.cost) (ltb d.steps e.steps) h)

nearer-false : (d e : Distance) → nearer d e ≡ false → AtMost e d
unfolding nearer
nearer-false d e h =
    let r = or-false (ltb d.cost e.cost) (eqb d.cost e.cost) (ltb d.steps e.steps) h in
    let k : e.cost ≤ d.cost = ltb-false _ _ r.0 in
    record { cost = k; steps = λ (q : e.cost ≡ d.cost). ltb-false d.steps e.steps (r.1 (eq-eqb d.cost e.cost (sym q))) }

pick-left : (x y : Option Distance) {e : Distance} → Below x e → Below (pick x y) e
unfolding pick
pick-left none y h = elim h [ ]
pick-left (some d) none h = h
pick-left (some d) (some c) {e} (below h) =
    ⊎_elim (λ (n : nearer c d ≡ true). rw n (below (at-most-trans (nearer-true c d n) h))) (λ (n : nearer c d ≡ false). rw n (below h)) (true-or-false (nearer c d))

pick-right : (x y : Option Distance) {e : Distance} → Below y e → Below (pick x y) e
unfolding pick
pick-right none y h = h
pick-right (some d) none h = elim h [ ]
pick-right (some d) (some c) {e} (below h) =
    ⊎_elim (λ (n : nearer c d ≡ true). rw n (below h)) (λ (n : nearer c d ≡ false). rw n (below (at-most-trans (nearer-false c d n) h))) (true-or-false (nearer c d))

pick-either : (x y : Option Distance) {d : Distance} → pick x y ≡ some d → (x ≡ some d) ⊎ (y ≡ some d)
unfolding pick
pick-either none y h = inr h
pick-either (some a) none h = inl h
pick-either (some a) (some b) {d} h =
    ⊎_elim (λ (n : nearer b a ≡ true). inr (rw n at h)) (λ (n : nearer b a ≡ false). inl (rw n at h)) (true-or-false (nearer b a))

pub least-below : (n : ℕ) (f : ℕ → Option Distance) (k : ℕ) {e : Distance} → k < n → Below (f k) e → Below (least n f) e
unfolding least
least-below zero f k h b = absurd (not-suc-le-zero h)
least-below (suc n) f k {e} h b =
    ⊎_elim (λ (q : k ≡ n). pick-right (least n f) (f n) (subst (λ (i : ℕ). Below (f i) e) q b))
    (λ (l : k < n). pick-left (least n f) (f n) (least-below n f k l b)) (below_suc h)

pub least-found : (n : ℕ) (f : ℕ → Option Distance) {d : Distance} → least n f ≡ some d → (k : ℕ) × (k < n) × (f k ≡ some d)
unfolding least
least-found zero f e = let z : ◌≡◌ {A = ℕ} 0 1 = cc in absurd (omega arith)
least-found (suc n) f e =
    ⊎_elim (λ p. let r = least-found n f p in (r.0, omega (arith, r.1), r.2)) (λ p. (n, omega arith, p)) (pick-either (least n f) (f n) e)

pub via-below : (w : ℕ) (x : Option Distance) {e : Distance} → Below x e → Below (via true w x) (plus w e)
unfolding via
via-below w none h = elim h [ ]
via-below w (some d) (below h) = below (plus-mono w h)

pub via-some : (b : Bool) (w : ℕ) (x : Option Distance) {d : Distance} → via b w x ≡ some d → (b ≡ true) × ((e : Distance) × (x ≡ some e) × (plus w e ≡ d))
unfolding via
via-some true w none h = let z : ◌≡◌ {A = ℕ} 0 1 = cc in absurd (omega arith)
via-some true w (some e) h = (refl, (e, refl, cc))
via-some false w x h = let z : ◌≡◌ {A = ℕ} 0 1 = cc in absurd (omega arith)
