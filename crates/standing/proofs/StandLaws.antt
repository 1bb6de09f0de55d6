-- A state that stands as a row of masks: the tests on masks are those of 01, a step taken on masks is the step, and the cut by coded wanted sets
-- is the cut.
use mathlib.Core.Path.{◌≡◌, refl, sym, ap, ◌∙◌}
use mathlib.Core.Logic.{◌≢◌, ⊎_elim}
use mathlib.Core.Bool.{Bool, true, false, not}
use mathlib.Core.List.{List}
use mathlib.Core.Option
use mathlib.Core.Option.{Option, none, some}
use Prim.Native.Nat.{ℕ, ◌≤◌, ◌<◌}
use native.Mathlib.Omega.{arith}
use lib.Dec.{eqb}
use lib.ListN.{get_or}
use borrow.Author.Tests.{eqb-true, eq-eqb, ne_eqb, lt-ltb}
use Rattle.task.specs.declared.Column.{Column}
use Rattle.task.specs.declared.Position.{Position}
use Rattle.task.specs.declared.Step.{Step}
use Rattle.task.specs.declared.Block.{Block}
use Rattle.task.specs.Loops.{when}
use Rattle.task.specs.Sizes.{limits}
use Rattle.task.specs.Task.{Task, State, column, position, at, column_count, step_count, size_of, need_at, effect_at, goal_at, meets, changed, is_state, each_column, can_take, taken, is_goal}
use Rattle.task.proofs.LoopLaws.{true-or-false, all-ext, tab-at, over-at, first-ext}
use Rattle.task.proofs.TaskLaws.{column-passes, per-at, position-below, taken_at}
use Rattle.blocks.specs.Blocks.{PositionSet, holds, only, common, is_empty, set_at, block_at, goal_in, in_block}
use Rattle.blocks.specs.Flat.{past, row_of, blocks_in}
use Rattle.blocks.specs.Masks.{wants, landing, lies, all_lie, Told, Stands, rows_from}
use Rattle.blocks.proofs.SetLaws.{holds-only, holds-every, in-common, common-held}
use Rattle.blocks.proofs.PartLaws.{Parts, same_or_not}
use Rattle.blocks.proofs.FlatLaws.{past-start, blocks-length, block-at, set-at}
use Rattle.blocks.proofs.MaskLaws.{none-empty, only-some, lies-goal, from_at}
use Rattle.run.specs.Run.{Wanted, wanted_at, allowed, back_at, goal_wanted, need_wanted, back_wanted, cut_column, cut_for}
use Rattle.run.proofs.FlawLaws.{Flaw, cut-column}
use Rattle.standing.specs.Standing.{landed, back_set, is_off, takes_by, goal_at_end, landed_at, lands_by, taken_by, back_row, off_at, lowest_off, cut_by}
use Rattle.standing.specs.Standing as standing

-- ---- one column

-- a need or a goal lies in the one position where that meets it
lies-meets : (o : Option Position) (p : Position) → lies (wants o) (only p) ≡ meets o p
unfolding goal_in meets
lies-meets none p = lies-goal none (only p)
lies-meets (some q) p = lies-goal (some q) (only p) ∙ holds-only p q ∙ turned p.0 q.0
  where
    turned : (a b : ℕ) → eqb a b ≡ eqb b a
    turned a b =
        ⊎_elim (λ (e : a ≡ b). eq-eqb a b e ∙ sym (eq-eqb b a (sym e))) (λ (n : a ≢ b). ne_eqb a b n ∙ sym (ne_eqb b a (λ z. n (sym z)))) (same_or_not a b)

-- one position and a set have none in common where the set does not hold it
pub apart-only : (p : Position) (b : PositionSet) → is_empty (common (only p) b) ≡ not (holds b p)
apart-only p b =
    ⊎_elim
    (λ (h : holds b p ≡ true). rw h (common-held (only p) b p (holds-only p p ∙ eq-eqb p.0 p.0 refl) h))
    (λ (h : holds b p ≡ false).
    rw h
    (⊎_elim (λ (e : is_empty (common (only p) b) ≡ true). e)
    (λ (e : is_empty (common (only p) b) ≡ false).
    let r = in-common (only p) b e in
    let q : p ≡ r.0 = ap position (eqb-true p.0 r.0.0 (sym (holds-only p r.0) ∙ r.1)) in
    let k : holds b p ≡ true = rw q r.2 in
    cc)
    (true-or-false (is_empty (common (only p) b)))))
    (true-or-false (holds b p))

pub twice : (b : Bool) → not (not b) ≡ b
twice true = refl
twice false = refl

-- where a step lands from a position that meets its need
landed-changed : (n e : Option Position) (p : Position) → meets n p ≡ true → landed (landing n e) (only p) ≡ only (changed e p)
unfolding landed landing wants changed meets
landed-changed none none p m = rw none-empty
landed-changed n (some e) p m = rw (only-some e)
landed-changed (some n) none p m = let z : n ≡ p = ap position (eqb-true n.0 p.0 m) in rw (only-some n, z)

-- a coded wanted set: 0 where the present position is wanted, or the set itself
pub data Codes : PositionSet → PositionSet → Position → Type 0 where
  anywhere : {c w : PositionSet} {p : Position} → c ≡ 0 → holds w p ≡ true → Codes c w p
  itself : {c w : PositionSet} {p : Position} → c ≡ w → is_empty w ≡ false → Codes c w p

off-is : (c w : PositionSet) (p : Position) → Codes c w p → is_off c (only p) ≡ not (holds w p)
unfolding is_off
off-is c w p (anywhere e h) = rw (e, none-empty, h)
off-is c w p (itself e h) = rw (e, h) (apart-only p w)

need-codes : (size : ℕ) (o : Option Position) (p : Position) → p.0 < size → Codes (wants o) (allowed size o) p
unfolding wants allowed
need-codes size none p h = anywhere refl (holds-every size p ∙ lt-ltb p.0 size h)
need-codes size (some q) p h = itself refl (only-some q)

back-codes : (size : ℕ) (n e : Option Position) (b : PositionSet) (p : Position) → p.0 < size → is_empty b ≡ false → Codes (back_set (wants n) (landing n e) b) (back_at size n e b) p
unfolding wants landing back_set back_at
back-codes size none none b p h f = let e : back_set 0 0 b ≡ b = rw none-empty in itself e f
back-codes size none (some e) b p h f = let z : back_set 0 (only e) b ≡ 0 = rw (none-empty, only-some e) in anywhere z (holds-every size p ∙ lt-ltb p.0 size h)
back-codes size (some n) e b p h f = let z : back_set (only n) (landing (some n) e) b ≡ only n = rw (only-some n) in itself z (only-some n)

-- ---- a row
module _ (t : Task) (columns count : ℕ) (needs lands goals sets : List ℕ) (told : Told t needs lands goals) (wide : column_count t ≡ columns) (x : State) (here : List ℕ) (stands : Stands t x here) where
  pub takes-is : (s : Step) → s.0 < step_count t → takes_by columns needs here s.0 ≡ can_take t s x
  unfolding takes_by all_lie can_take each_column Stands
  takes-is s hs =
      rw wide
      (all-ext columns _ _ (λ j h.
      let k : j < column_count t = omega arith in
      rw (past-start here j, told.need s (column j) hs k, stands (column j) k) (lies-meets (need_at t s (column j)) (at x (column j)))))

  pub goal-is : goal_at_end columns goals here ≡ is_goal t x
  unfolding goal_at_end all_lie is_goal each_column Stands
  goal-is =
      rw wide
      (all-ext columns _ _ (λ j h.
      let k : j < column_count t = omega arith in
      rw (past-start goals j, past-start here j, told.goal (column j) k, stands (column j) k) (lies-meets (goal_at t (column j)) (at x (column j)))))

  module _ (s : Step) (known : s.0 < step_count t) (can : can_take t s x ≡ true) where
    landed-is : (j : Column) → j.0 < column_count t → landed_at lands here s.0 j.0 ≡ only (at (taken t s x) j)
    unfolding landed_at can_take Stands
    landed-is j k =
        rw (told.land s j known k, stands j k, taken_at t s x j k) (landed-changed (need_at t s j) (effect_at t s j) (at x j) (column-passes t _ can j k))

    pub lands-is : (b : Block) → b.0 < count → lands_by columns lands sets here s.0 b.0 ≡ in_block t (taken t s x) (block_at (blocks_in columns count sets) b)
    unfolding lands_by in_block each_column
    lands-is b hb =
        rw (wide, block-at columns count sets b hb)
        (all-ext columns _ _ (λ j h.
        let k : j < column_count t = omega arith in
        rw (landed-is (column j) k, set-at columns sets b.0 (column j) h, apart-only) (twice _)))

    pub stands-taken : Stands t (taken t s x) (taken_by columns lands here s.0)
    unfolding Stands taken_by
    stands-taken j k = over-at columns (landed_at lands here s.0) here 0 j.0 (rw (← wide) k) ∙ landed-is j k

  -- ---- the cut
  module _ (good : Parts t (blocks_in columns count sets)) (is : is_state t x ≡ true) (narrow : columns ≤ limits.columns) where
    AllCodes : List ℕ → Wanted → Type 0
    AllCodes wanted w = (j : Column) → j.0 < column_count t → Codes (get_or wanted j.0 0) (wanted_at w j) (at x j)

    cut-column-is : (wanted : List ℕ) (w : Wanted) → AllCodes wanted w → lowest_off columns wanted here ≡ cut_column t x w
    unfolding lowest_off cut_column off_at Stands AllCodes
    cut-column-is wanted w f =
        rw wide
        (ap (λ (o : Option Column). Option.get_or o (column 0))
        (first-ext columns _ _ (λ j h.
        let k : j < column_count t = omega arith in
        let q : is_off (get_or wanted j 0) (get_or here j 0) ≡ not (holds (wanted_at w (column j)) (at x (column j))) =
        rw (stands (column j) k) (off-is (get_or wanted j 0) (wanted_at w (column j)) (at x (column j)) (f (column j) k)) in
        ap (λ (b : Bool). when b (column j)) q)))

    cut-is : (a : Block) (wanted : List ℕ) (w : Wanted) → Flaw t (blocks_in columns count sets) good a x w → AllCodes wanted w
        → cut_by columns sets here a wanted ≡ cut_for t (blocks_in columns count sets) a x w
    unfolding cut_by cut_for AllCodes
    cut-is a wanted w f codes =
        let j : Column = cut_column t x w in
        let r = cut-column t (blocks_in columns count sets) good a x w f in
        let ha : a.0 < count = rw (blocks-length columns count sets) at f.made in
        let k : j.0 < columns = rw wide at r.there in
        let s : set_at (block_at (blocks_in columns count sets) a) j ≡ past sets (row_of a.0) j.0 = rw (block-at columns count sets a ha) (set-at columns sets a.0 j k) in
        rw (cut-column-is wanted w codes, s, same (get_or wanted j.0 0) (wanted_at w j) (at x j) (codes j r.there) r.off)
      where
        same : (c w : PositionSet) (p : Position) → Codes c w p → holds w p ≡ false → c ≡ w
        same c w p (anywhere e h) n = let z : ◌≡◌ {A = ℕ} 0 1 = cc in absurd (omega arith)
        same c w p (itself e h) n = e

    pub goal-cut : (a : Block) → Flaw t (blocks_in columns count sets) good a x (goal_wanted t) → cut_by columns sets here a goals ≡ cut_for t (blocks_in columns count sets) a x (goal_wanted t)
    unfolding AllCodes wanted_at goal_wanted
    goal-cut a f =
        cut-is a goals (goal_wanted t) f
        (λ j k. rw (told.goal j k, per-at t (λ j. allowed (size_of t j) (goal_at t j)) 0 j k) (need-codes (size_of t j) (goal_at t j) (at x j) (position-below t x is j k)))

    pub need-cut : (a : Block) (s : Step) → s.0 < step_count t → Flaw t (blocks_in columns count sets) good a x (need_wanted t s)
        → cut_by columns sets here a (rows_from s.0 needs) ≡ cut_for t (blocks_in columns count sets) a x (need_wanted t s)
    unfolding AllCodes wanted_at need_wanted
    need-cut a s hs f =
        cut-is a (rows_from s.0 needs) (need_wanted t s) f
        (λ j k.
        rw (from_at s.0 needs j.0, told.need s j hs k, per-at t (λ j. allowed (size_of t j) (need_at t s j)) 0 j k)
        (need-codes (size_of t j) (need_at t s j) (at x j) (position-below t x is j k)))

    pub back_cut : (a : Block) (s : Step) (b : Block) → s.0 < step_count t → b.0 < count → Flaw t (blocks_in columns count sets) good a x (back_wanted t s (block_at (blocks_in columns count sets) b))
        → cut_by columns sets here a (back_row needs lands sets s.0 b.0) ≡ cut_for t (blocks_in columns count sets) a x (back_wanted t s (block_at (blocks_in columns count sets) b))
    unfolding AllCodes wanted_at back_wanted back_row standing.back_at
    back_cut a s b hs hb f =
        cut-is a (back_row needs lands sets s.0 b.0) (back_wanted t s (block_at (blocks_in columns count sets) b)) f
        (λ j k.
        let set : set_at (block_at (blocks_in columns count sets) b) j ≡ past sets (row_of b.0) j.0 =
        rw (block-at columns count sets b hb) (set-at columns sets b.0 j (rw (← wide) k)) in
        let full : is_empty (past sets (row_of b.0) j.0) ≡ false = rw set at ((good.shaped b (rw (blocks-length columns count sets) hb)).full j k) in
        rw (tab-at limits.columns (standing.back_at needs lands sets s.0 b.0) 0 j.0 (omega arith), told.need s j hs k, told.land s j hs k, per-at t (λ j. back_at (size_of t j) (need_at t s j) (effect_at t s j) (set_at (block_at (blocks_in columns count sets) b) j)) 0 j k, set)
        (back-codes (size_of t j) (need_at t s j) (effect_at t s j) (past sets (row_of b.0) j.0) (at x j) (position-below t x is j k) full))
