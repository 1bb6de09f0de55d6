-- Dijkstra's algorithm over any graph: its invariant, and what follows of it.
use mathlib.Core.Path.{◌≡◌, refl, sym, ◌∙◌, ap}
use mathlib.Core.Logic.{inl, inr, ⊎_elim}
use mathlib.Core.Bool.{Bool, true, false, false≢true}
use mathlib.Core.List.{List, [], ◌∷◌}
use Prim.Native.Nat.{ℕ, zero, suc, ◌+◌, ◌*◌, ◌/◌, ◌%◌, ◌<◌, ◌≤◌}
use native.Mathlib.Nat.{not-suc-le-zero, le_of_suc-le-suc}
use native.Mathlib.Decide.{dec_lt, ℕ_discrete}
use native.Mathlib.Omega.{arith}
use lib.ListN.{length, get_or, set, replicate}
use lib.Seq.{get_or-set_same, get_or-set_other}
use Rattle.task.specs.Sizes.{limits, most_steps, most_cost, most_tenths, tenth}
use Rattle.settling.specs.Ways.{Path, here, step, NoWorse, no_way, IsDist}
use Rattle.settling.specs.Turns.{weight, Better, Relaxed, Nearest, Settled, Started}

-- how many of the flags are not set
unfoldable pub unset : List Bool → ℕ
unset [] = 0
unset (false ∷ l) = suc (unset l)
unset (true ∷ l) = unset l

pub unset-set : (l : List Bool) (b : ℕ) → b < length l → get_or l b false ≡ false → unset l ≡ unset (set l b true) + 1
unfolding unset
unset-set [] b h e = absurd (not-suc-le-zero h)
unset-set (false ∷ l) zero h e = omega arith
unset-set (true ∷ l) zero h e = absurd (false≢true (sym e))
unset-set (false ∷ l) (suc b) h e = let r = unset-set l b (le_of_suc-le-suc h) e in omega arith
unset-set (true ∷ l) (suc b) h e = unset-set l b (le_of_suc-le-suc h) e

pub unset-length : (l : List Bool) → unset l ≤ length l
unfolding unset
unset-length [] = omega arith
unset-length (false ∷ l) = let r = unset-length l in omega arith
unset-length (true ∷ l) = let r = unset-length l in omega arith

-- a flag as a number
unfoldable pub flag : Bool → ℕ
flag false = 0
flag true = 1

true-or-false : {P : Type 0} (g : Bool) → (g ≡ true → P) → (g ≡ false → P) → P
true-or-false true f h = f refl
true-or-false false f h = h refl

same_or_not : {P : Type 0} (a b : ℕ) → (a ≡ b → P) → ((a ≡ b → ⊥) → P) → P
same_or_not a b f g = elim (ℕ_discrete a b) [ yes e ↦ f e | no e ↦ g e ]

-- a value d of block a that a path has, of so few steps that z more make as many as there can be blocks, at most
pub record Reach (arc : ℕ → ℕ → ℕ → Type 0) (goal : ℕ → Type 0) (cost : ℕ → ℕ) (a d z : ℕ) : Type 0 where
  pub c : ℕ
  pub t : ℕ
  pub path : Path arc goal cost a c t
  pub key : d ≡ c * tenth + t
  pub few : t + z ≤ limits.blocks

-- between two turns: the values D, and the flags F, set for a settled block
pub record Inv (n : ℕ) (arc : ℕ → ℕ → ℕ → Type 0) (goal : ℕ → Type 0) (cost : ℕ → ℕ) (D : List ℕ) (F : List Bool) : Type 0 where
  pub top : (a : ℕ) → a < n → get_or D a 0 ≤ no_way
  pub reach : (a : ℕ) → a < n → get_or D a 0 < no_way → Reach arc goal cost a (get_or D a 0) (unset F + flag (get_or F a false))
  pub goals : (a : ℕ) → a < n → goal a → get_or D a 0 ≡ 0
  pub arcs : (a s b : ℕ) → arc a s b → get_or F b false ≡ true → get_or D a 0 ≤ get_or D b 0 + weight cost s
  pub order : (a b : ℕ) → a < n → b < n → get_or F a false ≡ true → get_or F b false ≡ false → get_or D a 0 ≤ get_or D b 0
  pub finite : (a : ℕ) → a < n → get_or F a false ≡ true → get_or D a 0 < no_way
  pub cheap : (b : ℕ) → get_or F b false ≡ true → (a s e : ℕ) → arc a s e → cost s ≤ most_cost

module _ (n : ℕ) (arc : ℕ → ℕ → ℕ → Type 0) (goal : ℕ → Type 0) (cost : ℕ → ℕ)
    (from : (a s b : ℕ) → arc a s b → a < n) (into : (a s b : ℕ) → arc a s b → b < n) where
  pub path-cost : ((a s b : ℕ) → arc a s b → cost s ≤ most_cost) → {a c t : ℕ} → Path arc goal cost a c t → c ≤ t * most_cost
  path-cost cheap (here g) = omega arith
  path-cost cheap {a} (step s b l p) = let h = path-cost cheap p in let k = cheap a s b l in omega arith

  -- what a settled block's flag and value, and an open one's, are after a turn
  module _ (D D' : List ℕ) (F : List Bool) (b : ℕ) (inv : Inv n arc goal cost D F) (near : Nearest n D F b) (r : Relaxed n arc cost D D' b) (room : b < length F) where
    flag_same : get_or (set F b true) b false ≡ true
    flag_same = get_or-set_same F b true false room

    flag-other : (a : ℕ) → (a ≡ b → ⊥) → get_or (set F b true) a false ≡ get_or F a false
    flag-other a h = get_or-set_other F b a true false h

    count : unset F ≡ unset (set F b true) + 1
    count = unset-set F b room near.open-yet

    -- no block gets a greater value
    down : (a : ℕ) → a < n → get_or D' a 0 ≤ get_or D a 0
    down a h = ⊎_elim (λ e. omega arith) (λ w. omega arith) (r.each a h)

    -- nor one that is below b's
    above : (a : ℕ) → a < n → get_or F a false ≡ false → get_or D b 0 ≤ get_or D' a 0
    above a h o = let l = near.least a h o in ⊎_elim (λ e. omega arith) (λ w. omega arith) (r.each a h)

    -- a settled block keeps its value, and so does b
    kept : (a : ℕ) → a < n → get_or F a false ≡ true → get_or D' a 0 ≡ get_or D a 0
    kept a h f =
        let l = inv.order a b h near.inside f near.open-yet in
        ⊎_elim (λ e. e) (λ w. omega arith) (r.each a h)

    kept_b : get_or D' b 0 ≡ get_or D b 0
    kept_b = ⊎_elim (λ e. e) (λ w. omega arith) (r.each b near.inside)

    -- a block other than b, after the turn, has the flag that it had
    other : (a : ℕ) (x : Bool) → get_or (set F b true) a false ≡ x → (a ≡ b → ⊥) → get_or F a false ≡ x
    other a x e h = sym (flag-other a h) ∙ e

    turn-top : (a : ℕ) → a < n → get_or D' a 0 ≤ no_way
    turn-top a h = let k = down a h in let l = inv.top a h in omega arith

    keeps : (a : ℕ) → Reach arc goal cost a (get_or D a 0) (unset F + flag (get_or F a false)) → get_or D' a 0 ≡ get_or D a 0
        → Reach arc goal cost a (get_or D' a 0) (unset (set F b true) + flag (get_or (set F b true) a false))
    unfolding flag
    keeps a w e =
        record {
          c = w.c;
          t = w.t;
          path = w.path;
          key = e ∙ w.key;
          few =
              let f = w.few in
              let k = count in
              same_or_not a b
              (λ q. let l : flag (get_or (set F b true) a false) ≡ 1 = rw (q, flag_same) refl in let o : flag (get_or F a false) ≡ 0 = rw (q, near.open-yet) refl in omega arith)
              (λ h. let l : flag (get_or (set F b true) a false) ≡ flag (get_or F a false) = ap flag (flag-other a h) in omega arith);
        }

    -- a block with a better value was open, and is not b
    gains : (a : ℕ) → a < n → Better arc cost D D' b a
        → Reach arc goal cost a (get_or D' a 0) (unset (set F b true) + flag (get_or (set F b true) a false))
    unfolding flag
    gains a h w =
        let p = inv.reach b near.inside near.known in
        let o = near.open-yet in
        record {
          c = cost w.s + p.c;
          t = p.t + 1;
          path = step w.s b w.leads p.path;
          key = let k = p.key in let e = w.now-is in omega arith;
          few =
              let f = p.few in
              let k = count in
              let v = w.less in
              same_or_not a b
              (λ q. let z : get_or D a 0 ≡ get_or D b 0 = rw q refl in omega arith)
              (λ d. let l : flag (get_or (set F b true) a false) ≡ flag (get_or F a false) = ap flag (flag-other a d) in
              true-or-false (get_or F a false)
              (λ s. let z = inv.order a b h near.inside s o in omega arith)
              (λ s. let z : flag (get_or F a false) ≡ 0 = rw s refl in let y : flag (get_or F b false) ≡ 0 = rw o refl in omega arith));
        }

    turn-reach : (a : ℕ) → a < n → get_or D' a 0 < no_way → Reach arc goal cost a (get_or D' a 0) (unset (set F b true) + flag (get_or (set F b true) a false))
    turn-reach a h l =
        ⊎_elim
        (λ e. keeps a (inv.reach a h (rw (← e) l)) e)
        (λ w. gains a h w)
        (r.each a h)

    turn-goals : (a : ℕ) → a < n → goal a → get_or D' a 0 ≡ 0
    turn-goals a h g = let k = inv.goals a h g in let l = down a h in omega arith

    turn-arcs : (a s e : ℕ) → arc a s e → get_or (set F b true) e false ≡ true → get_or D' a 0 ≤ get_or D' e 0 + weight cost s
    turn-arcs a s e l f =
        same_or_not e b
        (λ q. rw q (let k = r.tried a s (rw q at l) in let m = kept_b in omega arith))
        (λ h. let g = other e true f h in
        let k = inv.arcs a s e l g in
        let m = kept e (into a s e l) g in
        let d = down a (from a s e l) in
        omega arith)

    turn-order : (a e : ℕ) → a < n → e < n → get_or (set F b true) a false ≡ true → get_or (set F b true) e false ≡ false → get_or D' a 0 ≤ get_or D' e 0
    turn-order a e ha he fa fe =
        same_or_not e b
        (λ q. absurd (false≢true (sym fe ∙ rw q flag_same)))
        (λ h. let ge = other e false fe h in
        let u = above e he ge in
        same_or_not a b
        (λ q. rw q (let m = kept_b in omega arith))
        (λ g. let ga = other a true fa g in
        let m = kept a ha ga in
        let o = inv.order a b ha near.inside ga near.open-yet in
        omega arith))

    turn-finite : (a : ℕ) → a < n → get_or (set F b true) a false ≡ true → get_or D' a 0 < no_way
    turn-finite a h f =
        same_or_not a b
        (λ q. rw q (let m = kept_b in let k = near.known in omega arith))
        (λ g. let ga = other a true f g in
        let k = inv.finite a h ga in
        let d = down a h in
        omega arith)

    pub turn : Inv n arc goal cost D' (set F b true)
    turn =
        record {
          top = turn-top;
          reach = turn-reach;
          goals = turn-goals;
          arcs = turn-arcs;
          order = turn-order;
          finite = turn-finite;
          cheap = λ c f. r.cheap;
        }

  -- nothing is left open that has a value
  module _ (D : List ℕ) (F : List Bool) (inv : Inv n arc goal cost D F) (done : (k : ℕ) → k < n → get_or F k false ≡ false → no_way ≤ get_or D k 0) where
    settled : (a : ℕ) → a < n → get_or D a 0 < no_way → get_or F a false ≡ true
    settled a h l =
        true-or-false (get_or F a false) (λ e. e) (λ e. let k = done a h e in absurd (omega arith))

    -- a value's cost and steps, of a block with a path
    parts : (a : ℕ) → a < n → get_or D a 0 < no_way
        → Path arc goal cost a (get_or D a 0 / tenth) (get_or D a 0 % tenth) × (get_or D a 0 % tenth ≤ most_steps) × (get_or D a 0 / tenth ≤ most_tenths)
    unfolding flag
    parts a h l =
        let w = inv.reach a h l in
        let d = settled a h l in
        let s : flag (get_or F a false) ≡ 1 = rw d refl in
        let k = w.key in
        let f = w.few in
        let m = path-cost (inv.cheap a d) w.path in
        let ec : get_or D a 0 / tenth ≡ w.c = omega arith in
        let et : get_or D a 0 % tenth ≡ w.t = omega arith in
        (rw (ec, et) w.path, omega arith, omega arith)

    -- so few steps, and so much cost
    pub small-end : (a : ℕ) → a < n → get_or D a 0 < no_way → (get_or D a 0 % tenth ≤ most_steps) × (get_or D a 0 / tenth ≤ most_tenths)
    small-end a h l = ((parts a h l).1, (parts a h l).2)

    best : {a c t : ℕ} → a < n → Path arc goal cost a c t → (get_or D a 0 < no_way) × NoWorse (get_or D a 0 / tenth) (get_or D a 0 % tenth) c t
    best {a} h (here g) = let k = inv.goals a h g in (omega arith, inr (omega arith, omega arith))
    best {a} h (step {c = c} {t = t} s b l p) =
        let hb = into a s b l in
        let i = best hb p in
        let q = parts b hb i.0 in
        let q1 = q.1 in
        let q2 = q.2 in
        let d = settled b hb i.0 in
        let k = inv.arcs a s b l d in
        let x = inv.cheap b d a s b l in
        let low : get_or D a 0 < no_way = omega arith in
        let goes : Dec (get_or D a 0 / tenth < cost s + c) → NoWorse (get_or D a 0 / tenth) (get_or D a 0 % tenth) (cost s + c) (t + 1) =
        elim [ yes y ↦ inl y | no y ↦ ⊎_elim (λ v. inl (omega arith)) (λ v. inr (omega arith, omega arith)) i.1 ] in
        (low, goes (dec_lt (get_or D a 0 / tenth) (cost s + c)))

    pub at-end : (a : ℕ) → a < n → IsDist arc goal cost a (get_or D a 0)
    at-end a h = record { top = inv.top a h; some-path = λ l. (parts a h l).0; no-better = λ p. best h p }

-- once a nearest block is settled, no settled one is farther
pub settled-nearest : (n : ℕ) (arc : ℕ → ℕ → ℕ → Type 0) (goal : ℕ → Type 0) (cost : ℕ → ℕ) (D : List ℕ) (F : List Bool) (b : ℕ)
    → Inv n arc goal cost D F → Nearest n D F b → Settled n D (set F b true) b
settled-nearest n arc goal cost D F b inv near =
    record {
      low = λ a h e.
          same_or_not a b
          (λ q. rw q (omega arith))
          (λ d. inv.order a b h near.inside (sym (get_or-set_other F b a true false d) ∙ e) near.open-yet);
    }

pub none-set : (k a : ℕ) → get_or (replicate k false) a false ≡ false
none-set zero a = refl
none-set (suc k) zero = refl
none-set (suc k) (suc a) = none-set k a

-- before the first turn, with no flag set
module _ (n : ℕ) (arc : ℕ → ℕ → ℕ → Type 0) (g : ℕ → Bool) (cost : ℕ → ℕ) (D₀ D : List ℕ) (F : List Bool)
    (none : (a : ℕ) → get_or F a false ≡ false) (room : length F ≤ limits.blocks) (s : Started g n D₀ D) where
  pub begin : Inv n arc (λ a. g a ≡ true) cost D F
  unfolding flag
  begin =
      record {
        top = λ a h. rw (s.each a h) (true-or-false (g a) (λ e. rw e (omega arith)) (λ e. rw e (omega arith)));
        reach = λ a h l.
            true-or-false (g a)
            (λ e. record { c = 0; t = 0; path = here e; key = s.each a h ∙ rw e refl; few = let z : flag (get_or F a false) ≡ 0 = rw (none a) refl in let y = unset-length F in omega arith })
            (λ e. let q : get_or D a 0 ≡ no_way = s.each a h ∙ rw e refl in absurd (omega arith));
        goals = λ a h e. s.each a h ∙ rw e refl;
        arcs = λ a s b l f. absurd (false≢true (sym (none b) ∙ f));
        order = λ a b ha hb f o. absurd (false≢true (sym (none a) ∙ f));
        finite = λ a h f. absurd (false≢true (sym (none a) ∙ f));
        cheap = λ b f. absurd (false≢true (sym (none b) ∙ f));
      }
