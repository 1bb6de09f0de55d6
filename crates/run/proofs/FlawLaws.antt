-- A walk along a path ends in a plan or at a flaw, and the cut of each flaw is legal: it parts the flawed state from a state of the same block
-- that is wanted.
use mathlib.Core.Path.{◌≡◌, refl, sym, ap, ◌∙◌, subst}
use mathlib.Core.Logic.{⊎_elim}
use mathlib.Core.Bool.{Bool, true, false, not}
use mathlib.Core.List.{List, [], ◌∷◌, map}
use mathlib.Core.Option.{Option, none, some}
use Prim.Native.Nat.{ℕ, ◌<◌}
use lib.ListN.{length}
use borrow.Author.Tests.{eqb-true, lt-ltb, not-true, not-false}
use Rattle.task.specs.declared.Column.{Column}
use Rattle.task.specs.declared.Position.{Position}
use Rattle.task.specs.declared.Step.{Step}
use Rattle.task.specs.declared.Block.{Block}
use Rattle.task.specs.Loops.{when}
use Rattle.task.specs.Task.{Task, State, Accepted, column, position, at, column_count, step_count, size_of, need_at, effect_at, goal_at, meets, changed, is_state, per_column, can_take, taken, is_goal, reaches}
use Rattle.task.proofs.LoopLaws.{and_left, and_right, and_both, true-or-false, first_found, first_some, when-some, when-none}
use Rattle.task.proofs.TaskLaws.{column-passes, column-fails, per-at, taken_at, taken-state}
use Rattle.blocks.specs.Blocks.{PositionSet, Sets, Blocks, holds, common, without, set_at, block_at, leads_at, in_block, goal_block, leads}
use Rattle.blocks.proofs.SetLaws.{holds-common, holds-without, holds-only, holds-every, held-some, common-held}
use Rattle.blocks.proofs.LeadLaws.{held_at, goal-exact, leads-exact}
use Rattle.blocks.proofs.PartLaws.{Parts, CutFits, old_set, old_block}
use Rattle.distances.specs.Distances.{Hop, leads_to, is_path}
use Rattle.distances.proofs.LeastLaws.{first_of}
use Rattle.run.specs.Run.{Wanted, Walk, arrived, flawed, allowed, back_at, wanted_at, goal_wanted, need_wanted, back_wanted, walk, cut_column, cut_for}

-- ---- one column

-- a need or a goal allows the positions that meet it
allowed-holds : (size : ℕ) (o : Option Position) (p : Position) → p.0 < size → holds (allowed size o) p ≡ meets o p
unfolding allowed meets
allowed-holds size none p h = holds-every size p ∙ lt-ltb p.0 size h
allowed-holds size (some q) p h = holds-only q p

-- the next block's set taken back over a step holds a position that meets the need and lands in the next block
back-holds : (size : ℕ) (n e : Option Position) (b : PositionSet) (p : Position) → p.0 < size → meets n p ≡ true → holds b (changed e p) ≡ true → holds (back_at size n e b) p ≡ true
unfolding back_at meets changed
back-holds size none none b p h m l = l
back-holds size none (some e) b p h m l = holds-every size p ∙ lt-ltb p.0 size h
back-holds size (some n) e b p h m l = holds-only n p ∙ m

-- and none that meets the need and lands elsewhere
back-off : (size : ℕ) (n e : Option Position) (a b : PositionSet) (p : Position) → leads_at n e a b ≡ true → meets n p ≡ true → holds b (changed e p) ≡ false
    → holds (back_at size n e b) p ≡ false
unfolding back_at leads_at meets changed
back-off size none none a b p h m q = q
back-off size none (some e) a b p h m q = cc
back-off size (some n) none a b p h m q = let e : n ≡ p = ap position (eqb-true n.0 p.0 m) in let z : holds b p ≡ true = rw e at (and_right (holds a n) _ h) in cc
back-off size (some n) (some e) a b p h m q = let z : holds b e ≡ true = and_right (holds a n) _ h in cc

module _ (t : Task) (bs : Blocks) (good : Parts t bs) where
  -- a flaw in block b at state y: a state of the block is wanted in every column, and y is not in some
  pub record Flaw (b : Block) (y : State) (w : Wanted) : Type 0 where
    pub made : b.0 < length bs
    pub inside : in_block t y (block_at bs b) ≡ true
    pub other : State
    pub other-inside : in_block t other (block_at bs b) ≡ true
    pub wanted : (j : Column) → j.0 < column_count t → holds (wanted_at w j) (at other j) ≡ true
    pub off : (j : Column) × (j.0 < column_count t) × (holds (wanted_at w j) (at y j) ≡ false)

  -- positions of a block's states are positions of their columns
  below : (b : Block) → b.0 < length bs → (x : State) → in_block t x (block_at bs b) ≡ true → (j : Column) → j.0 < column_count t → (at x j).0 < size_of t j
  below b hb x i j k = (good.shaped b hb).inside j k (at x j) (held_at t (block_at bs b) x i j k)

  wanted-at : (f : Column → PositionSet) (j : Column) → j.0 < column_count t → wanted_at (per_column t f) j ≡ f j
  unfolding wanted_at
  wanted-at f j h = per-at t f 0 j h

  pub goal-flaw : (b : Block) (y : State) → b.0 < length bs → in_block t y (block_at bs b) ≡ true → goal_block t (block_at bs b) ≡ true → is_goal t y ≡ false → Flaw b y (goal_wanted t)
  unfolding is_goal goal_wanted
  goal-flaw b y hb i g n =
      let z = (goal-exact t (block_at bs b) (good.shaped b hb)).0 g in
      let r = column-fails t _ n in
      let w = wanted-at (λ j. allowed (size_of t j) (goal_at t j)) in
      record {
        made = hb;
        inside = i;
        other = z.state;
        other-inside = z.inside;
        wanted = λ j h. rw (w j h) (allowed-holds (size_of t j) (goal_at t j) (at z.state j) (below b hb z.state z.inside j h) ∙ column-passes t _ z.goal j h);
        off = (r.0, r.1, rw (w r.0 r.1) (allowed-holds (size_of t r.0) (goal_at t r.0) (at y r.0) (below b hb y i r.0 r.1) ∙ r.2));
      }

  pub need-flaw : (b : Block) (y : State) (s : Step) (c : Sets) → b.0 < length bs → in_block t y (block_at bs b) ≡ true → leads t s (block_at bs b) c ≡ true → can_take t s y ≡ false
      → Flaw b y (need_wanted t s)
  unfolding can_take need_wanted
  need-flaw b y s c hb i l n =
      let z = (leads-exact t s (block_at bs b) c (good.shaped b hb)).0 l in
      let r = column-fails t _ n in
      let w = wanted-at (λ j. allowed (size_of t j) (need_at t s j)) in
      record {
        made = hb;
        inside = i;
        other = z.state;
        other-inside = z.«from»;
        wanted = λ j h. rw (w j h) (allowed-holds (size_of t j) (need_at t s j) (at z.state j) (below b hb z.state z.«from» j h) ∙ column-passes t _ z.can j h);
        off = (r.0, r.1, rw (w r.0 r.1) (allowed-holds (size_of t r.0) (need_at t s r.0) (at y r.0) (below b hb y i r.0 r.1) ∙ r.2));
      }

  pub back-flaw : (b : Block) (y : State) (s : Step) (c : Sets) → b.0 < length bs → in_block t y (block_at bs b) ≡ true → leads t s (block_at bs b) c ≡ true → can_take t s y ≡ true
      → in_block t (taken t s y) c ≡ false → Flaw b y (back_wanted t s c)
  unfolding leads can_take in_block back_wanted
  back-flaw b y s c hb i l m n =
      let z = (leads-exact t s (block_at bs b) c (good.shaped b hb)).0 l in
      let r = column-fails t _ n in
      let w = wanted-at (λ j. back_at (size_of t j) (need_at t s j) (effect_at t s j) (set_at c j)) in
      record {
        made = hb;
        inside = i;
        other = z.state;
        other-inside = z.«from»;
        wanted = λ j h.
            rw (w j h)
            (back-holds (size_of t j) (need_at t s j) (effect_at t s j) (set_at c j) (at z.state j) (below b hb z.state z.«from» j h) (column-passes t _ z.can j h)
            (rw (← taken_at t s z.state j h) (held_at t c (taken t s z.state) z.to j h)));
        off = (
          r.0,
          r.1,
          rw (w r.0 r.1) (back-off (size_of t r.0) (need_at t s r.0) (effect_at t s r.0) (set_at (block_at bs b) r.0) (set_at c r.0) (at y r.0)
              (column-passes t _ l r.0 r.1) (column-passes t _ m r.0 r.1) (rw (taken_at t s y r.0 r.1) at r.2)),
        );
      }

  -- ---- the walk
  abbrev pub steps_of : List Hop → List Step
  steps_of hs = map (λ h. h.step) hs

  abbrev pub WalkRight : State → List Hop → Walk → Type 0
  WalkRight x hs arrived = reaches t x (steps_of hs) ≡ true
  WalkRight x hs (flawed b y w) = Flaw b y w

  longer : (h : Hop) (hs : List Hop) (x : State) → h.step.0 < step_count t → can_take t h.step x ≡ true → (r : Walk) → WalkRight (taken t h.step x) hs r → WalkRight x (h ∷ hs) r
  unfolding reaches
  longer h hs x k m arrived r = and_both (and_both (lt-ltb h.step.0 (step_count t) k) m) r
  longer h hs x k m (flawed b y w) r = r

  -- a step that lands outside the trace's next block is a flaw at the state before the step
  walk-off : (h : Hop) (hs : List Hop) (x : State) (a : Block) → can_take t h.step x ≡ true → in_block t (taken t h.step x) (block_at bs h.to) ≡ false
      → walk t bs x a (h ∷ hs) ≡ flawed a x (back_wanted t h.step (block_at bs h.to))
  unfolding walk
  walk-off h hs x a m l = rw (m, walk) (rw (l, walk) refl)

  -- a walk along a path ends in a plan or at a flaw
  pub walk-right : Accepted t → (hs : List Hop) (x : State) (a : Block) → a.0 < length bs → is_state t x ≡ true → in_block t x (block_at bs a) ≡ true → is_path t bs a hs ≡ true
      → WalkRight x hs (walk t bs x a hs)
  unfolding walk reaches is_path leads_to
  walk-right v [] x a ha hx i w =
      ⊎_elim (λ (g : is_goal t x ≡ true). rw (g, walk) g) (λ (g : is_goal t x ≡ false). rw (g, walk) (goal-flaw a x ha i w g)) (true-or-false (is_goal t x))
  walk-right v (h ∷ hs) x a ha hx i w =
      let f = first_of t bs a h hs w in
      let y : State = taken t h.step x in
      let c : Sets = block_at bs h.to in
      ⊎_elim
      (λ (m : can_take t h.step x ≡ true).
      ⊎_elim
      (λ (l : in_block t y c ≡ true).
      rw (m, walk) (rw (l, walk)
      (longer h hs x f.known m (walk t bs y h.to hs) (walk-right v hs (taken t h.step x) h.to f.made (taken-state t v h.step x hx) l f.rest))))
      (λ (l : in_block t y c ≡ false). rw (walk-off h hs x a m l) (back-flaw a x h.step c ha i f.leads m l))
      (true-or-false (in_block t y c)))
      (λ (m : can_take t h.step x ≡ false). rw (m, walk) (need-flaw a x h.step c ha i f.leads m))
      (true-or-false (can_take t h.step x))

  -- ---- the cut

  -- the lowest column whose present position isn't wanted
  pub record LowestOff (y : State) (w : Wanted) (j : Column) : Type 0 where
    pub there : j.0 < column_count t
    pub off : holds (wanted_at w j) (at y j) ≡ false
    pub no_lower : (i : Column) → i.0 < j.0 → holds (wanted_at w i) (at y i) ≡ true

  pub cut-column : (b : Block) (y : State) (w : Wanted) → Flaw b y w → LowestOff y w (cut_column t y w)
  unfolding cut_column
  cut-column b y w f =
      let off : Column → Bool = λ j. not (holds (wanted_at w j) (at y j)) in
      let test : ℕ → Option Column = λ j. when (off (column j)) (column j) in
      let o = f.off in
      let r = first_found (column_count t) test o.0.0 {a = o.0} o.1 (rw o.2) in
      let p = first_some (column_count t) test r.1 in
      let q = when-some (off (column p.place)) (column p.place) p.here in
      rw r.1 (subst (λ (j : Column). LowestOff y w j) q.1
      (record {
        there = p.below;
        off = not-true (holds (wanted_at w (column p.place)) (at y (column p.place))) q.0;
        no_lower = λ i h. not-false (holds (wanted_at w i) (at y i)) (when-none (off i) i (p.before i.0 h));
      }))

  -- the cut of a flaw is legal
  pub flaw-fits : (b : Block) (y : State) (w : Wanted) → Flaw b y w → CutFits t bs (cut_for t bs b y w)
  unfolding cut_for old_set old_block
  flaw-fits b y w f =
      let j : Column = cut_column t y w in
      let r = cut-column b y w f in
      let old : PositionSet = set_at (block_at bs b) j in
      let o : holds old (at y j) ≡ true = held_at t (block_at bs b) y f.inside j r.there in
      let c : holds (common old (wanted_at w j)) (at y j) ≡ false = holds-common old (wanted_at w j) (at y j) ∙ rw (o, r.off) in
      record {
        made = f.made;
        there = r.there;
        some = common-held old (wanted_at w j) (at f.other j) (held_at t (block_at bs b) f.other f.other-inside j r.there) (f.wanted j r.there);
        part = λ p q. and_left _ (holds (wanted_at w j) p) (sym (holds-common old (wanted_at w j) p) ∙ q);
        proper = held-some (without old (common old (wanted_at w j))) (at y j) (holds-without old (common old (wanted_at w j)) (at y j) ∙ rw (o, c));
      }
