-- The tests of column after column say what they are for: a step leads from block to block exactly where some state of the one can take it and
-- lands in the other, and a goal block is one that contains a goal state. So what leads, still leads between larger blocks.
use mathlib.Core.Path.{◌≡◌, refl, ap, ◌∙◌}
use mathlib.Core.Logic.{⊎_elim, ◌↔◌}
use mathlib.Core.Bool.{true, false}
use mathlib.Core.List.{[], ◌∷◌, ◌++◌}
use mathlib.Core.Option.{Option, none, some}
use Prim.Native.Nat.{ℕ, zero, suc, ◌<◌}
use native.Mathlib.Nat.{not-suc-le-zero}
use native.Mathlib.Omega.{arith}
use native.Mathlib.Numerals.{add-one}
use lib.ListN.{length, length-append, get_or-append}
use lib.Seq.{get_or_at}
use borrow.Author.Tests.{eqb-true, eq-eqb, not-true}
use Rattle.task.specs.declared.Column.{Column}
use Rattle.task.specs.declared.Position.{Position}
use Rattle.task.specs.declared.Step.{Step}
use Rattle.task.specs.Task.{Task, State, column, position, at, column_count, size_of, need_at, effect_at, goal_at, meets, changed, is_state, can_take, taken, is_goal}
use Rattle.task.proofs.LoopLaws.{and_left, and_right, and_both, below_suc}
use Rattle.task.proofs.TaskLaws.{column-passes, columns-pass, taken_at, state-intro}
use Rattle.blocks.specs.Blocks.{PositionSet, Sets, holds, is_empty, leads_at, goal_in, set_at, in_block, goal_block, leads}
use Rattle.blocks.proofs.SetLaws.{PartOf, some-held, in-common, common-held}

-- ---- one column

-- a position of a that meets the need and lands in b
pub record Passes (n e : Option Position) (a b : PositionSet) (p : Position) : Type 0 where
  pub held : holds a p ≡ true
  pub met : meets n p ≡ true
  pub lands : holds b (changed e p) ≡ true

met-position : (n p : Position) → meets (some n) p ≡ true → n ≡ p
unfolding meets
met-position n p h = ap position (eqb-true n.0 p.0 h)

met-itself : (n : Position) → meets (some n) n ≡ true
unfolding meets
met-itself n = eq-eqb n.0 n.0 refl

column-sound : (n e : Option Position) (a b : PositionSet) (p : Position) → Passes n e a b p → leads_at n e a b ≡ true
unfolding changed leads_at
column-sound none none a b p h = rw (common-held a b p h.held h.lands)
column-sound none (some e) a b p h = h.lands
column-sound (some n) none a b p h = rw (met-position n p h.met) (and_both h.held h.lands)
column-sound (some n) (some e) a b p h = rw (met-position n p h.met) (and_both h.held h.lands)

column-exact : (n e : Option Position) (a b : PositionSet) → is_empty a ≡ false → leads_at n e a b ≡ true → (p : Position) × Passes n e a b p
unfolding leads_at meets changed
column-exact none none a b f h = let r = in-common a b (not-true _ h) in (r.0, record { held = r.1; met = refl; lands = r.2 })
column-exact none (some e) a b f h = let r = some-held a f in (r.0, record { held = r.1; met = refl; lands = h })
column-exact (some n) none a b f h = (n, record { held = and_left _ (holds b n) h; met = met-itself n; lands = and_right (holds a n) _ h })
column-exact (some n) (some e) a b f h = (n, record { held = and_left _ (holds b e) h; met = met-itself n; lands = and_right (holds a n) _ h })

-- a position of a that meets the goal
pub record Fulfils (g : Option Position) (a : PositionSet) (p : Position) : Type 0 where
  pub held : holds a p ≡ true
  pub met : meets g p ≡ true

goal-column-sound : (g : Option Position) (a : PositionSet) (p : Position) → Fulfils g a p → goal_in g a ≡ true
unfolding goal_in
goal-column-sound none a p h = refl
goal-column-sound (some g) a p h = rw (met-position g p h.met) h.held

goal-column-exact : (g : Option Position) (a : PositionSet) → is_empty a ≡ false → goal_in g a ≡ true → (p : Position) × Fulfils g a p
unfolding goal_in meets
goal-column-exact none a f h = let r = some-held a f in (r.0, record { held = r.1; met = refl })
goal-column-exact (some g) a f h = (g, record { held = h; met = met-itself g })

-- ---- all columns

-- one choice for each column makes a list of positions
choose : (P : Column → Position → Type 0) (n : ℕ) → ((j : Column) → j.0 < n → (p : Position) × P j p)
    → (x : State) × (length x ≡ n) × ((j : Column) → j.0 < n → P j (at x j))
unfolding at
choose P zero f = ([], refl, λ j h. absurd (not-suc-le-zero h))
choose P (suc n) f =
    let r = choose P n (λ j h. f j (omega arith)) in
    let p = f (column n) (omega arith) in (
      r.0 ++ (p.0 ∷ []),
      length-append r.0 (p.0 ∷ []) ∙ rw (r.1, add-one),
      λ j h.
          ⊎_elim
          (λ (e : j.0 ≡ n). let q : j ≡ column n = ap column e in rw (q, get_or_at r.0 p.0 [] (position 0) n r.1) p.1)
          (λ (k : j.0 < n). rw (get_or-append r.0 (p.0 ∷ []) (position 0) j.0 (rw r.1 k)) (r.2 j k))
          (below_suc h),
    )

module _ (t : Task) where
  -- a block that is as it should be: a set for each column, of the column's positions, and none empty
  pub record Shaped (b : Sets) : Type 0 where
    pub long : length b ≡ column_count t
    pub inside : (j : Column) → j.0 < column_count t → (p : Position) → holds (set_at b j) p ≡ true → p.0 < size_of t j
    pub full : (j : Column) → j.0 < column_count t → is_empty (set_at b j) ≡ false

  -- every position of a lies in b
  abbrev pub Within : Sets → Sets → Type 0
  Within a b = (j : Column) → j.0 < column_count t → PartOf (set_at a j) (set_at b j)

  pub held_at : (b : Sets) (x : State) → in_block t x b ≡ true → (j : Column) → j.0 < column_count t → holds (set_at b j) (at x j) ≡ true
  unfolding in_block
  held_at b x h j k = column-passes t _ h j k

  pub in_within : (a b : Sets) → Within a b → (x : State) → in_block t x a ≡ true → in_block t x b ≡ true
  unfolding in_block
  in_within a b f x h = columns-pass t _ (λ j k. f j k (at x j) (held_at a x h j k))

  -- some state of a can take the step and lands in b
  pub record Crosses (s : Step) (a b : Sets) : Type 0 where
    pub state : State
    pub is : is_state t state ≡ true
    pub «from» : in_block t state a ≡ true
    pub can : can_take t s state ≡ true
    pub to : in_block t (taken t s state) b ≡ true

  pub leads-sound : (s : Step) (x : State) (a b : Sets) → in_block t x a ≡ true → can_take t s x ≡ true → in_block t (taken t s x) b ≡ true → leads t s a b ≡ true
  unfolding can_take leads
  leads-sound s x a b ha c hb =
      columns-pass t _ (λ j h.
      column-sound (need_at t s j) (effect_at t s j) (set_at a j) (set_at b j) (at x j)
      (record { held = held_at a x ha j h; met = column-passes t _ c j h; lands = rw (← taken_at t s x j h) (held_at b (taken t s x) hb j h) }))

  pub leads-exact : (s : Step) (a b : Sets) → Shaped a → (leads t s a b ≡ true) ↔ Crosses s a b
  unfolding leads in_block can_take
  leads-exact s a b g = (
    λ h.
        let r = choose (λ j p. Passes (need_at t s j) (effect_at t s j) (set_at a j) (set_at b j) p) (column_count t)
        (λ j k. column-exact (need_at t s j) (effect_at t s j) (set_at a j) (set_at b j) (g.full j k) (column-passes t _ h j k)) in
        record {
          state = r.0;
          is = state-intro t r.0 r.1 (λ j k. g.inside j k _ (r.2 j k).held);
          «from» = columns-pass t _ (λ j k. (r.2 j k).held);
          can = columns-pass t _ (λ j k. (r.2 j k).met);
          to = columns-pass t _ (λ j k. rw (taken_at t s r.0 j k) (r.2 j k).lands);
        },
    λ c. leads-sound s c.state a b c.«from» c.can c.to,
  )

  pub leads-mono : (s : Step) (a b a' b' : Sets) → Shaped a → Within a a' → Within b b' → leads t s a b ≡ true → leads t s a' b' ≡ true
  leads-mono s a b a' b' g f h l =
      let c = (leads-exact s a b g).0 l in
      leads-sound s c.state a' b' (in_within a a' f c.state c.«from») c.can (in_within b b' h (taken t s c.state) c.to)

  -- a goal state in the block
  pub record HasGoal (a : Sets) : Type 0 where
    pub state : State
    pub is : is_state t state ≡ true
    pub inside : in_block t state a ≡ true
    pub goal : is_goal t state ≡ true

  pub goal-sound : (x : State) (a : Sets) → in_block t x a ≡ true → is_goal t x ≡ true → goal_block t a ≡ true
  unfolding is_goal goal_block
  goal-sound x a h g =
      columns-pass t _ (λ j k. goal-column-sound (goal_at t j) (set_at a j) (at x j) (record { held = held_at a x h j k; met = column-passes t _ g j k }))

  pub goal-exact : (a : Sets) → Shaped a → (goal_block t a ≡ true) ↔ HasGoal a
  unfolding goal_block in_block is_goal
  goal-exact a g = (
    λ h.
        let r = choose (λ j p. Fulfils (goal_at t j) (set_at a j) p) (column_count t)
        (λ j k. goal-column-exact (goal_at t j) (set_at a j) (g.full j k) (column-passes t _ h j k)) in
        record {
          state = r.0;
          is = state-intro t r.0 r.1 (λ j k. g.inside j k _ (r.2 j k).held);
          inside = columns-pass t _ (λ j k. (r.2 j k).held);
          goal = columns-pass t _ (λ j k. (r.2 j k).met);
        },
    λ c. goal-sound c.state a c.inside c.goal,
  )

  pub goal-mono : (a a' : Sets) → Shaped a → Within a a' → goal_block t a ≡ true → goal_block t a' ≡ true
  goal-mono a a' g f h = let c = (goal-exact a g).0 h in goal-sound c.state a' (in_within a a' f c.state c.inside) c.goal
