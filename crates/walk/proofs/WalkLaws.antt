-- The walk on the tables is the walk of 01: it comes to the same plan, or to the same flaw and its cut.
use mathlib.Core.Path.{◌≡◌, refl, sym, ap, ◌∙◌}
use mathlib.Core.Logic.{⊎_elim}
use mathlib.Core.Bool.{true, false, ◌&&◌}
use mathlib.Core.List.{List, [], ◌∷◌, ◌++◌, map, append-nil, append_assoc}
use mathlib.Core.Option.{Option, none, some}
use Prim.Native.Nat.{ℕ, zero, suc, ◌+◌, ◌*◌, ◌%◌, ◌≤◌, ◌<◌}
use native.Mathlib.Omega.{arith}
use native.Mathlib.Numerals.{add-one}
use lib.ListN.{length, get_or, set, length-set, length-map}
use lib.Seq.{get_or-set_same, get_or-set_other}
use Rattle.task.specs.declared.Step.{Step}
use Rattle.task.specs.declared.Block.{Block}
use Rattle.task.specs.Loops.{tab}
use Rattle.task.specs.Sizes.{limits, tenth}
use Rattle.task.specs.Task.{Task, State, Tenths, Accepted, step, step_count, cost_of, is_state, is_goal, can_take, taken, start}
use Rattle.task.proofs.LoopLaws.{and_left, and_right, true-or-false, tab-length, tab-ext}
use Rattle.task.proofs.TaskLaws.{taken-state, start-state}
use Rattle.blocks.specs.declared.Cut.{Cut}
use Rattle.blocks.specs.Blocks.{Blocks, block_at, in_block, leads}
use Rattle.blocks.specs.Flat.{blocks_in}
use Rattle.blocks.proofs.PartLaws.{Parts}
use Rattle.blocks.proofs.FlatLaws.{blocks-length}
use Rattle.blocks.proofs.CutLaws.{accepted-parts}
use Rattle.distances.specs.Distances.{Distance, Hop, Table, plus, far, zero_far, leads_to, is_path, far_of, distances}
use Rattle.blocks.specs.Masks.{Tables, Stands, rows_from, lands_in, goals_in}
use Rattle.settling.specs.Coded.{coded, coded_at}
use Rattle.settling.proofs.JoinLaws.{far-small}
use Rattle.run.specs.Run.{Walk, arrived, flawed, Look, planned, flaw, keeps, next_hop, trace, walk, cut_for, look_walk}
use Rattle.run.proofs.TraceLaws.{keeps-some, next-lowest, trace-next, trace-none, trace-path}
use Rattle.run.proofs.FlawLaws.{goal-flaw, need-flaw, back-flaw}
use Rattle.trace.specs.Hops.{Holds}
use Rattle.trace.proofs.HopLaws.{next-is}
use Rattle.masks.specs.declared.Tables.{Tables as CodeTables}
use Rattle.cutting.specs.declared.Blocks.{Blocks as CodeBlocks}
use Rattle.std.specs.Prelude.{Ok, Err, Some, None}
use Rattle.standing.specs.Standing.{takes_by, lands_by, goal_at_end, taken_by, back_row, cut_by, at_start}
use Rattle.walk.specs.Walking.{Found, Turn, Followed, outcome, arrive_by, turn_on, turn_by, follow_by, follow_from, Says, step_in, path_steps, seen, Known, Begins, walked}
use Rattle.standing.proofs.StartLaws.{start-stands}
use Rattle.standing.proofs.StandLaws.{takes-is, goal-is, lands-is, stands-taken, goal-cut, need-cut, back_cut}
use Rattle.walk.proofs.FollowLaws.{follow-none, follow-ended, follow-flawed, follow-went}

-- one step more on the path
path-more : (path : List Step) (i : ℕ) (s : Step) → i < length path → tab (i + 1) (step_in (set path i s)) ≡ tab i (step_in path) ++ (s ∷ [])
unfolding tab step_in
path-more path i s h =
    rw (add-one, get_or-set_same path i s (step 0) h)
    (ap (λ (l : List Step). l ++ (s ∷ [])) (tab-ext i _ _ (λ j k. get_or-set_other path i j s (step 0) (λ z. omega arith))))

abbrev seen_in : Tenths → Followed → Look
seen_in cost f = seen cost f.found f.path

module _ (t : Task) (v : Accepted t) (columns steps count : ℕ) (needs lands goals costs sets dist : List ℕ) (tables : Tables t columns steps needs lands goals costs)
    (good : Parts t (blocks_in columns count sets)) (few : count ≤ limits.blocks) (holds : Holds (distances t (blocks_in columns count sets)) count dist) (cost : Tenths) where
  abbrev bs : Blocks
  bs = blocks_in columns count sets

  abbrev ds : Table
  ds = distances t bs

  abbrev hops : ℕ → Block → List Hop
  hops n a = trace t bs ds n a

  abbrev left : ℕ → ℕ → Block → List ℕ → List Step → Followed
  left n i a here path = follow_by columns steps count needs lands goals costs sets dist n i a here path

  abbrev turn : Block → List ℕ → Turn
  turn a here = turn_by columns steps count needs lands costs sets dist a here

  -- the look of a walk along the hops that are left, after some steps
  look_on : List Step → List Hop → Walk → Look
  look_on before hs arrived = planned (before ++ map (λ h. h.step) hs)
  look_on before hs (flawed a x w) = flaw cost (cut_for t bs a x w)

  look-more : (before : List Step) (h : Hop) (hs : List Hop) (w : Walk) → look_on (before ++ (h.step ∷ [])) hs w ≡ look_on before (h ∷ hs) w
  unfolding look_on
  look-more before h hs arrived = ap planned (append_assoc before (h.step ∷ []) (map (λ h. h.step) hs))
  look-more before h hs (flawed a x w) = refl

  -- where a walk stands
  record At (x : State) (a : Block) (here : List ℕ) : Type 0 where
    made : a.0 < count
    is : is_state t x ≡ true
    inside : in_block t x (block_at bs a) ≡ true
    stands : Stands t x here

  long : length bs ≡ count
  long = blocks-length columns count sets

  narrow : columns ≤ 16
  narrow = omega (arith, v.columns.1, tables.wide)

  end_is : (i : ℕ) (a : Block) (x : State) (here : List ℕ) (path : List Step) → At x a here → is_path t bs a [] ≡ true
      → seen_in cost (outcome (arrive_by columns goals sets i a here) here path) ≡ look_on (tab i (step_in path)) [] (walk t bs x a [])
  unfolding arrive_by walk look_on is_path seen path_steps
  end_is i a x here path s w =
      let e : goal_at_end columns goals here ≡ is_goal t x = goal-is t columns count needs lands goals sets tables.told tables.wide x here s.stands in
      ⊎_elim
      (λ (g : is_goal t x ≡ true). rw (e, g, walk) (ap planned (sym (append-nil (tab i (step_in path))))))
      (λ (g : is_goal t x ≡ false).
      rw (e, g, walk)
      (ap (flaw cost)
      (goal-cut t columns count needs lands goals sets tables.told tables.wide x here s.stands good s.is narrow a
      (goal-flaw t bs good a x (rw long s.made) s.inside w g))))
      (true-or-false (is_goal t x))

  -- what n hops at most come to
  abbrev Follows : ℕ → Type 0
  Follows n =
      (i : ℕ) (a : Block) (x : State) (here : List ℕ) (path : List Step) (d : Distance) → At x a here → far_of ds a ≡ some d → d.steps ≡ n → i + n ≤ length path
      → seen_in cost (left n i a here path) ≡ look_on (tab i (step_in path)) (hops n a) (walk t bs x a (hops n a))

  -- a hop on the tables is judged as the next hop of 01
  turn-of : (a : Block) (here : List ℕ) (d : Distance) (o : Option Hop) → a.0 < count → far_of ds a ≡ some d
      → next_hop t bs ds a d ≡ o
      → turn a here ≡ turn_on columns needs lands sets a here o
  unfolding turn_by
  turn-of a here d o ha e q =
      ap (turn_on columns needs lands sets a here) (next-is t columns steps count needs lands goals costs sets dist tables v.tenths few holds a d ha e ∙ q)

  -- one hop more, along a hop that is found
  module _ (n : ℕ) (ih : Follows n) (i : ℕ) (a : Block) (x : State) (here : List ℕ) (path : List Step) (d : Distance) (s : At x a here) (e : far_of ds a ≡ some d) (k : d.steps ≡ suc n)
      (l : i + suc n ≤ length path) (h : Hop) (q : next_hop t bs ds a d ≡ some h) where
    leads_keeps : (leads_to t bs h.step a h.to && keeps d (cost_of t h.step) (far_of ds h.to)) ≡ true
    leads_keeps = (next-lowest t bs ds a d q).keeps

    lead : leads t h.step (block_at bs a) (block_at bs h.to) ≡ true
    unfolding leads_to
    lead = and_left (leads t h.step (block_at bs a) (block_at bs h.to)) (keeps d (cost_of t h.step) (far_of ds h.to)) leads_keeps

    known : h.step.0 < step_count t
    known = (next-lowest t bs ds a d q).known

    to_made : h.to.0 < count
    to_made = rw long at (next-lowest t bs ds a d q).made

    made : a.0 < length bs
    made = rw long s.made

    takes : takes_by columns needs here h.step.0 ≡ can_take t h.step x
    takes = takes-is t columns count needs lands goals sets tables.told tables.wide x here s.stands h.step known

    need-flawed : can_take t h.step x ≡ false → seen_in cost (left (suc n) i a here path) ≡ look_on (tab i (step_in path)) (h ∷ hops n h.to) (walk t bs x a (h ∷ hops n h.to))
    unfolding turn_on walk look_on seen path_steps
    need-flawed c =
        let w : turn a here ≡ Err (cut_by columns sets here a (rows_from h.step.0 needs)) = turn-of a here d (some h) s.made e q ∙ rw (takes, c) in
        rw (follow-flawed columns steps count needs lands goals costs sets dist n i a here path _ w, c, walk)
        (ap (flaw cost)
        (need-cut t columns count needs lands goals sets tables.told tables.wide x here s.stands good s.is narrow a h.step known
        (need-flaw t bs good a x h.step (block_at bs h.to) made s.inside lead c)))

    module _ (c : can_take t h.step x ≡ true) where
      lands-there : lands_by columns lands sets here h.step.0 h.to.0 ≡ in_block t (taken t h.step x) (block_at bs h.to)
      lands-there = lands-is t columns count needs lands goals sets tables.told tables.wide x here s.stands h.step known c h.to to_made

      back-flawed : in_block t (taken t h.step x) (block_at bs h.to) ≡ false
          → seen_in cost (left (suc n) i a here path) ≡ look_on (tab i (step_in path)) (h ∷ hops n h.to) (walk t bs x a (h ∷ hops n h.to))
      unfolding turn_on walk look_on seen path_steps
      back-flawed o =
          let w : turn a here ≡ Err (cut_by columns sets here a (back_row needs lands sets h.step.0 h.to.0)) =
          turn-of a here d (some h) s.made e q ∙ rw (takes, c, lands-there, o) in
          rw (follow-flawed columns steps count needs lands goals costs sets dist n i a here path _ w)
          (rw (c, walk) (rw (o, walk)
          (ap (flaw cost)
          (back_cut t columns count needs lands goals sets tables.told tables.wide x here s.stands good s.is narrow a h.step h.to known to_made
          (back-flaw t bs good a x h.step (block_at bs h.to) made s.inside lead c o)))))

      went_on : in_block t (taken t h.step x) (block_at bs h.to) ≡ true
          → seen_in cost (left (suc n) i a here path) ≡ look_on (tab i (step_in path)) (h ∷ hops n h.to) (walk t bs x a (h ∷ hops n h.to))
      unfolding turn_on walk plus
      went_on o =
          let w : turn a here ≡ Ok (Some (record { step = h.step; block = h.to })) = turn-of a here d (some h) s.made e q ∙ rw (takes, c, lands-there, o) in
          let f = keeps-some d (cost_of t h.step) (far_of ds h.to) (and_right (leads_to t bs h.step a h.to) _ leads_keeps) in
          let y : State = taken t h.step x in
          let z : suc f.0.steps ≡ d.steps = ap (λ (g : Distance). g.steps) f.2 in
          let there : At y h.to (taken_by columns lands here h.step.0) =
          record {
            made = to_made;
            is = taken-state t v h.step x s.is;
            inside = o;
            stands = stands-taken t columns count needs lands goals sets tables.told tables.wide x here s.stands h.step known c;
          } in
          let r = ih (i + 1) h.to y (taken_by columns lands here h.step.0) (set path i h.step) f.0 there f.1 (omega arith) (rw (length-set path i h.step) (omega arith)) in
          rw (follow-went columns steps count needs lands goals costs sets dist n i a here path (record { step = h.step; block = h.to }) w)
          (rw (c, walk) (rw (o, walk)
          (r
          ∙ ap (λ (before : List Step). look_on before (hops n h.to) (walk t bs y h.to (hops n h.to))) (path-more path i h.step (omega arith))
          ∙ look-more (tab i (step_in path)) h (hops n h.to) (walk t bs y h.to (hops n h.to)))))

    hopped : seen_in cost (left (suc n) i a here path) ≡ look_on (tab i (step_in path)) (h ∷ hops n h.to) (walk t bs x a (h ∷ hops n h.to))
    hopped =
        ⊎_elim
        (λ (c : can_take t h.step x ≡ true). ⊎_elim (went_on c) (back-flawed c) (true-or-false (in_block t (taken t h.step x) (block_at bs h.to))))
        need-flawed
        (true-or-false (can_take t h.step x))

  one_more : (n : ℕ) → Follows n → Follows (suc n)
  one_more n ih i a x here path d s e k l = go (next_hop t bs ds a d) refl
    where
      path-is : is_path t bs a (hops (suc n) a) ≡ true
      path-is = (trace-path t bs (suc n) a d (rw long s.made) e k).0

      go : (o : Option Hop) → next_hop t bs ds a d ≡ o
          → seen_in cost (left (suc n) i a here path) ≡ look_on (tab i (step_in path)) (hops (suc n) a) (walk t bs x a (hops (suc n) a))
      go none q =
          let none_left : hops (suc n) a ≡ [] = trace-none t bs ds n a d e q in
          let ends : turn a here ≡ Ok None = unfold turn_on in turn-of a here d none s.made e q in
          rw (follow-ended columns steps count needs lands goals costs sets dist n i a here path ends, none_left) (end_is i a x here path s (rw none_left at path-is))
      go (some h) q = rw (trace-next t bs ds n a d h e q) (hopped n ih i a x here path d s e k l h q)

  follow-is : (n : ℕ) → Follows n
  unfolding trace
  follow-is zero i a x here path d s e k l =
      rw (follow-none columns steps count needs lands goals costs sets dist i a here path) (end_is i a x here path s (trace-path t bs 0 a d (rw long s.made) e k).0)
  follow-is (suc n) i a x here path d s e k l = one_more n (follow-is n) i a x here path d s e k l

  look-whole : (d : Distance) (hs : List Hop) (path : List Step) (w : Walk) → d.cost ≡ cost → look_on (tab 0 (step_in path)) hs w ≡ look_walk t bs d hs w
  unfolding look_on look_walk tab
  look-whole d hs path arrived e = refl
  look-whole d hs path (flawed a x w) e = rw e

  whole_is : (a : Block) (x : State) (here : List ℕ) (path : List Step) (d : Distance) → At x a here → far_of ds a ≡ some d → d.steps ≤ length path → d.cost ≡ cost
      → seen_in cost (left d.steps 0 a here path) ≡ look_walk t bs d (hops d.steps a) (walk t bs x a (hops d.steps a))
  whole_is a x here path d s e l c = follow-is d.steps 0 a x here path d s e refl (omega arith) ∙ look-whole d (hops d.steps a) path (walk t bs x a (hops d.steps a)) c

-- ---- a plan has as many steps as the block's distance
far-length : (t : Task) (hs : List Hop) → (far t hs).steps ≡ length hs
unfolding far zero_far plus
far-length t [] = refl
far-length t (h ∷ hs) = ap suc (far-length t hs)

pub plan-long : (t : Task) (columns count : ℕ) (sets : List ℕ) (path : List Step) (x : State) (a : Block) (d : Distance) (n : ℕ) → a.0 < count → far_of (distances t (blocks_in columns count sets)) a ≡ some d
    → seen d.cost (Ok n) path ≡ walked t columns count sets x a d → n ≡ d.steps
unfolding seen path_steps walked
plan-long t columns count sets path x a d n ha e q = go (walk t bs x a hs) q
  where
    bs : Blocks
    bs = blocks_in columns count sets

    hs : List Hop
    hs = trace t bs (distances t bs) d.steps a

    go : (w : Walk) → planned (tab n (step_in path)) ≡ look_walk t bs d hs w → n ≡ d.steps
    go arrived q =
        let l : tab n (step_in path) ≡ map (λ h. h.step) hs = unfold look_walk in cc in
        sym (tab-length n (step_in path))
        ∙ ap length l
        ∙ length-map hs (λ h. h.step)
        ∙ sym (far-length t hs)
        ∙ ap (λ (k : Distance). k.steps) (trace-path t bs d.steps a d (rw (blocks-length columns count sets) ha) e refl).1
    go (flawed a x w) q = let z : ◌≡◌ {A = ℕ} 0 1 = unfold look_walk in cc in absurd (omega arith)

-- ---- what a walk came to on the tables is what 01 says, of any task whose tables they are
module _ (ts : CodeTables) (bs : CodeBlocks) (dist : List ℕ) (a : Block) (path : List Step) (made : a.0 < bs.count) (room : length path ≡ limits.blocks)
    (r : Found) (here' : List ℕ) (path' : List Step) (is : outcome r here' path' ≡ follow_from ts bs dist a path) where
  follow-right : (t : Task) (cs : List Cut) (d : Distance) → Begins t cs d ts bs a dist
      → seen d.cost r path' ≡ walked t ts.shape.columns bs.count bs.sets (start t) a d
  unfolding walked Holds coded_at coded
  follow-right t cs d b =
      let columns = ts.shape.columns in
      let l = blocks-length columns bs.count bs.sets in
      let good : Parts t (blocks_in columns bs.count bs.sets) = rw b.blocks (accepted-parts t b.tabled.task cs b.cuts) in
      let n : get_or dist a.0 0 ≡ d.cost * tenth + d.steps = b.dists a.0 made ∙ rw b.far in
      let small = far-small t (blocks_in columns bs.count bs.sets) b.tabled.task.tenths (omega (arith, bs.counted)) a d (omega arith) b.far in
      let k : d.steps ≡ get_or dist a.0 0 % tenth = omega (arith, small.0) in
      let e : outcome r here' path' ≡ follow_by columns ts.shape.steps bs.count ts.rows (lands_in ts.rows) (goals_in ts.rows) ts.costs bs.sets dist d.steps 0 a (at_start ts.rows) path = rw k is in
      ap (seen_in d.cost) e
      ∙ whole_is t b.tabled.task columns ts.shape.steps bs.count ts.rows (lands_in ts.rows) (goals_in ts.rows) ts.costs bs.sets dist b.tabled.own good bs.counted b.dists d.cost a (start t) (at_start ts.rows) path d
      (record { made = made; is = start-state t b.tabled.task; inside = b.inside; stands = start-stands t b.tabled.task (start t) ts.rows b.tabled.start }) b.far (omega (arith, small.0)) refl

  -- all that a walk's contract says, from one equation
  pub answers : Known ts.shape.steps r path'
      → Says r path' (follow_from ts bs dist a path) × Known ts.shape.steps r path'
      × ((t : Task) (cs : List Cut) (d : Distance) → Begins t cs d ts bs a dist → seen d.cost r path' ≡ walked t ts.shape.columns bs.count bs.sets (start t) a d)
  answers known = (record { found = ap (λ (x : Followed). x.found) is; path = ap (λ (x : Followed). x.path) is }, known, follow-right)
