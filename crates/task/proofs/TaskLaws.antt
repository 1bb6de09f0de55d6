-- Laws of the task: what holds of each column, and that a step leads from state to state.
use mathlib.Core.Path.{◌≡◌, refl}
use mathlib.Core.Bool.{Bool, true, false, ◌&&◌}
use mathlib.Core.List.{List, ◌∷◌}
use mathlib.Core.Option.{Option, none, some}
use Prim.Native.Nat.{ℕ, ◌<◌}
use lib.ListN.{length, get_or}
use lib.Dec.{eqb, ltb}
use borrow.Author.Tests.{ltb-true, lt-ltb, eq-eqb}
use Rattle.task.specs.declared.Column.{Column}
use Rattle.task.specs.declared.Position.{Position}
use Rattle.task.specs.declared.Step.{Step}
use Rattle.task.specs.Task.{Task, State, Accepted, column, position, at, column_count, step_count, size_of, start_at, effect_at, each_column, per_column, changed, is_state, start, can_take, taken, reaches}
use Rattle.task.proofs.LoopLaws.{and_left, and_right, and_both, all-at, all-intro, all-false, tab-at, tab-length}

module _ (t : Task) where
  pub column-passes : (p : Column → Bool) → each_column t p ≡ true → (j : Column) → j.0 < column_count t → p j ≡ true
  unfolding each_column
  column-passes p h j k = all-at (column_count t) (λ j. p (column j)) h j.0 k

  pub columns-pass : (p : Column → Bool) → ((j : Column) → j.0 < column_count t → p j ≡ true) → each_column t p ≡ true
  unfolding each_column
  columns-pass p f = all-intro (column_count t) (λ j. p (column j)) (λ j k. f (column j) k)

  -- where not every column passes, one fails
  pub column-fails : (p : Column → Bool) → each_column t p ≡ false → (j : Column) × (j.0 < column_count t) × (p j ≡ false)
  unfolding each_column
  column-fails p h = let r = all-false (column_count t) (λ j. p (column j)) h in (column r.0, r.1, r.2)

  pub per-length : {A : Type 0} (f : Column → A) → length (per_column t f) ≡ column_count t
  unfolding per_column
  per-length f = tab-length (column_count t) (λ j. f (column j))

  pub per-at : {A : Type 0} (f : Column → A) (d : A) (j : Column) → j.0 < column_count t → get_or (per_column t f) j.0 d ≡ f j
  unfolding per_column
  per-at f d j h = tab-at (column_count t) (λ j. f (column j)) d j.0 h

  -- ---- states
  pub position-below : (x : State) → is_state t x ≡ true → (j : Column) → j.0 < column_count t → (at x j).0 < size_of t j
  unfolding is_state
  position-below x h j k = ltb-true _ _ (column-passes (λ j. ltb (at x j).0 (size_of t j)) (and_right (eqb (length x) (column_count t)) _ h) j k)

  pub state-intro : (x : State) → length x ≡ column_count t → ((j : Column) → j.0 < column_count t → (at x j).0 < size_of t j) → is_state t x ≡ true
  unfolding is_state
  state-intro x l f = and_both (eq-eqb (length x) (column_count t) l) (columns-pass (λ j. ltb (at x j).0 (size_of t j)) (λ j k. lt-ltb (at x j).0 (size_of t j) (f j k)))

  pub start-at : (j : Column) → j.0 < column_count t → at (start t) j ≡ start_at t j
  unfolding at start
  start-at j h = per-at (start_at t) (position 0) j h

  pub start-state : Accepted t → is_state t (start t) ≡ true
  unfolding start
  start-state v = state-intro (start t) (per-length (start_at t)) (λ j h. rw (start-at j h) (v.starts j h))

  pub taken_at : (s : Step) (x : State) (j : Column) → j.0 < column_count t → at (taken t s x) j ≡ changed (effect_at t s j) (at x j)
  unfolding taken at
  taken_at s x j h = per-at (λ j. changed (effect_at t s j) (at x j)) (position 0) j h

  changed-below : (e : Option Position) (p : Position) (n : ℕ) → p.0 < n → ((q : Position) → e ≡ some q → q.0 < n) → (changed e p).0 < n
  unfolding changed
  changed-below none p n h f = h
  changed-below (some q) p n h f = f q refl

  -- a step taken in a state leads to a state
  pub taken-state : Accepted t → (s : Step) (x : State) → is_state t x ≡ true → is_state t (taken t s x) ≡ true
  unfolding taken
  taken-state v s x h =
      state-intro (taken t s x) (per-length (λ j. changed (effect_at t s j) (at x j)))
      (λ j k. rw (taken_at s x j k) (changed-below (effect_at t s j) (at x j) (size_of t j) (position-below x h j k) (λ q e. v.effects s j q k e)))

  -- the parts of a plan's first step
  pub record Taken (x : State) (s : Step) (ss : List Step) : Type 0 where
    pub known : s.0 < step_count t
    pub can : can_take t s x ≡ true
    pub rest : reaches t (taken t s x) ss ≡ true

  pub first_step : (x : State) (s : Step) (ss : List Step) → reaches t x (s ∷ ss) ≡ true → Taken x s ss
  unfolding reaches
  first_step x s ss r =
      let k : Bool = ltb s.0 (step_count t) in
      let two : (k && can_take t s x) ≡ true = and_left _ (reaches t (taken t s x) ss) r in
      record { known = ltb-true _ _ (and_left k (can_take t s x) two); can = and_right k _ two; rest = and_right (k && can_take t s x) _ r }
