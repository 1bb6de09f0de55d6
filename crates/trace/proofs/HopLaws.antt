-- The search for the next hop on numbers finds the one of the definitions.
use mathlib.Core.Path.{◌≡◌, refl, sym, ◌∙◌, ap, ap₂}
use mathlib.Core.Logic.{⊎_elim, ◌≢◌}
use mathlib.Core.Bool.{Bool, true, false, ◌&&◌, not, and-false}
use mathlib.Core.List.{List}
use mathlib.Core.Option.{Option, none, some}
use Prim.Native.Nat.{ℕ, suc, ◌+◌, ◌-◌, ◌*◌, ◌<◌, ◌≤◌}
use native.Mathlib.Omega.{arith}
use lib.Dec.{eqb, ltb}
use lib.ListN.{length, get_or}
use borrow.Author.Tests.{eq-eqb, ne_eqb, ltb-true, ltb-false, not-true}
use Rattle.task.specs.declared.Step.{Step}
use Rattle.task.specs.declared.Block.{Block}
use Rattle.task.specs.Loops.{first, when}
use Rattle.task.specs.Task.{Task, step, block, cost_of}
use Rattle.task.specs.Sizes.{limits, most_steps, most_cost, most_tenths, tenth}
use Rattle.task.proofs.LoopLaws.{and_left, true-or-false, all-false, all-fails, first_some, when-some, first-empty, first-ext, first-here, first_more}
use Rattle.blocks.specs.Blocks.{Blocks}
use Rattle.blocks.specs.Flat.{blocks_in}
use Rattle.blocks.specs.Masks.{all_lie, passes, leads_by, Tables, lands_in, goals_in}
use Rattle.blocks.proofs.FlatLaws.{blocks-length}
use Rattle.blocks.proofs.MaskLaws.{leads-by}
use Rattle.blocks.proofs.PartLaws.{same_or_not}
use Rattle.distances.specs.Distances.{Distance, Hop, far_of, plus, leads_to, distances}
use Rattle.arcs.specs.Arcs.{fits_in}
use Rattle.settling.specs.Ways.{no_way}
use Rattle.settling.specs.Coded.{coded, coded_at}
use Rattle.settling.proofs.JoinLaws.{far-small}
use Rattle.run.specs.Run.{keeps, next_hop}
use Rattle.trace.specs.declared.Hop.{Hop as CodeHop}
use Rattle.masks.specs.declared.Tables.{Tables as CodeTables}
use Rattle.cutting.specs.declared.Blocks.{Blocks as CodeBlocks}
use Rattle.std.specs.Prelude as prelude
use Rattle.trace.specs.Hops.{keeps_in, fits_by, may_take, hop, next_in, next_of, next_by, next_is, hop_of, Holds, NextIs, fits_on, Nexts}

-- the two loops
module _ (fits : ℕ → ℕ → Bool) where
  pub next-no : (s b : ℕ) (r : Bool) → r ≡ fits s b → r ≡ false → next_in fits s b ≡ none
  unfolding next_in
  next-no s b r e h = rw (← e, h)

  pub next-yes : (s b : ℕ) (r : Bool) → r ≡ fits s b → r ≡ true → next_in fits s b ≡ some (hop s b)
  unfolding next_in
  next-yes s b r e h = rw (← e, h)

  -- the search stands at a hop, or has found none
  pub found : (steps count s b : ℕ) → s < steps → b < count → first s (next_of count fits) ≡ none → first b (next_in fits s) ≡ none → next_in fits s b ≡ some (hop s b)
      → next_by steps count fits ≡ some (hop s b)
  unfolding next_by next_of
  found steps count s b hs hb no-step no_block here = first-here (λ s. first count (next_in fits s)) steps s hs no-step (first-here (next_in fits s) count b hb no_block here)

  -- a hop that is found is one of the steps, to one of the blocks
  pub next-below : (steps count : ℕ) (h : Hop) → next_by steps count fits ≡ some h → (h.step.0 < steps) × (h.to.0 < count)
  unfolding next_by next_of next_in
  next-below steps count h e =
      let p = first_some steps (λ s. first count (λ b. when (fits s b) (hop s b))) e in
      let q = first_some count (λ b. when (fits p.place b) (hop p.place b)) p.here in
      let w : hop p.place q.place ≡ h = (when-some (fits p.place q.place) (hop p.place q.place) q.here).1 in
      (rw (← w) p.below, rw (← w) q.below)

-- ---- the numbers keep a distance where the distances do
keeps-none : (d : Distance) (w : ℕ) → d.steps ≤ most_steps → d.cost ≤ most_tenths → keeps_in (coded (some d)) w (coded none) ≡ keeps d w none
unfolding keeps_in coded keeps
keeps-none d w s c = ne_eqb _ _ (λ (e : d.cost * tenth + d.steps ≡ no_way + (w * tenth + 1)). omega arith)

-- two costs and step counts in one number each are the same number exactly where both are the same
same-pairs : (d e : Distance) (w : ℕ) → d.steps ≤ most_steps → e.steps ≤ most_steps
    → eqb (d.cost * tenth + d.steps) (e.cost * tenth + e.steps + (w * tenth + 1)) ≡ (eqb (w + e.cost) d.cost && eqb (suc e.steps) d.steps)
same-pairs d e w s s' =
    let x : ℕ = d.cost * tenth + d.steps in
    let y : ℕ = e.cost * tenth + e.steps + (w * tenth + 1) in
    ⊎_elim
    (λ (c : w + e.cost ≡ d.cost).
    ⊎_elim
    (λ (n : suc e.steps ≡ d.steps). let q : x ≡ y = omega arith in eq-eqb x y q ∙ sym (rw (eq-eqb (w + e.cost) d.cost c, eq-eqb (suc e.steps) d.steps n)))
    (λ (n : suc e.steps ≢ d.steps). ne_eqb x y (λ (z : x ≡ y). n (omega arith)) ∙ sym (rw (ne_eqb (suc e.steps) d.steps n, and-false (eqb (w + e.cost) d.cost))))
    (same_or_not (suc e.steps) d.steps))
    (λ (c : w + e.cost ≢ d.cost). ne_eqb x y (λ (z : x ≡ y). c (omega arith)) ∙ sym (rw (ne_eqb (w + e.cost) d.cost c)))
    (same_or_not (w + e.cost) d.cost)

keeps-some : (d e : Distance) (w : ℕ) → d.steps ≤ most_steps → e.steps ≤ most_steps → keeps_in (coded (some d)) w (coded (some e)) ≡ keeps d w (some e)
unfolding keeps_in coded keeps plus
keeps-some = same-pairs

turned : (a b : Bool) → (a && b) ≡ (b && a)
turned true true = refl
turned true false = refl
turned false true = refl
turned false false = refl

-- ---- a step that can't be taken, or weighs more than the distance, is passed over; of any other the rest of the distance is looked for
module _ (columns : ℕ) (needs lands costs sets dist : List ℕ) (a s : ℕ) where
  pub fits-rest : (b rest : ℕ) → may_take columns needs costs sets dist a s ≡ true → rest ≡ get_or dist a 0 - (get_or costs s 0 * tenth + 1)
      → (eqb (get_or dist b 0) rest && leads_by columns needs lands sets s a b) ≡ fits_by columns needs lands costs sets dist a s b
  unfolding may_take fits_by keeps_in
  fits-rest b rest m e =
      let own : ℕ = get_or dist a 0 in
      let w : ℕ = get_or costs s 0 * tenth + 1 in
      let next : ℕ = get_or dist b 0 in
      let l = ltb-false own w (not-true (ltb own w) (and_left (not (ltb own w)) _ m)) in
      ap (λ (x : Bool). x && leads_by columns needs lands sets s a b)
      (⊎_elim
      (λ (z : next ≡ rest). eq-eqb next rest z ∙ sym (eq-eqb own (next + w) (omega arith)))
      (λ (z : next ≢ rest). ne_eqb next rest z ∙ sym (ne_eqb own (next + w) (λ y. z (omega arith))))
      (same_or_not next rest))

  no_lead : (b : ℕ) → fits_in columns needs sets s a ≡ false → leads_by columns needs lands sets s a b ≡ false
  unfolding fits_in all_lie leads_by passes
  no_lead b h = let r = all-false columns _ h in all-fails columns _ r.0 r.1 (rw r.2)

  no-fit : (b : ℕ) → may_take columns needs costs sets dist a s ≡ false → fits_by columns needs lands costs sets dist a s b ≡ false
  unfolding may_take fits_by keeps_in
  no-fit b m =
      let own : ℕ = get_or dist a 0 in
      let w : ℕ = get_or costs s 0 * tenth + 1 in
      ⊎_elim
      (λ (h : ltb own w ≡ true). let l = ltb-true own w h in rw (ne_eqb own (get_or dist b 0 + w) (λ z. omega arith)))
      (λ (h : ltb own w ≡ false). let f : fits_in columns needs sets s a ≡ false = rw h at m in rw (no_lead b f) (and-false (eqb own (get_or dist b 0 + w))))
      (true-or-false (ltb own w))

  -- no block is found for a step that is passed over
  pub none-passed : (count : ℕ) → may_take columns needs costs sets dist a s ≡ false → next_of count (fits_by columns needs lands costs sets dist a) s ≡ none
  unfolding next_of next_in
  none-passed count m = first-empty count _ (λ b k. rw (no-fit b m))

-- ---- the search on the tables is the one of the definitions
module _ (t : Task) (columns steps count : ℕ) (needs lands goals costs sets dist : List ℕ) (tables : Tables t columns steps needs lands goals costs)
    (cheap : (s : Step) → cost_of t s ≤ most_cost) (few : count ≤ limits.blocks) (holds : Holds (distances t (blocks_in columns count sets)) count dist) where
  bs : Blocks
  bs = blocks_in columns count sets

  long : length bs ≡ count
  unfolding bs
  long = blocks-length columns count sets

  keeps_same : (a b : Block) (d : Distance) (w : ℕ) → a.0 < count → b.0 < count → far_of (distances t bs) a ≡ some d
      → keeps_in (coded_at (distances t bs) a.0) w (coded_at (distances t bs) b.0) ≡ keeps d w (far_of (distances t bs) b)
  unfolding coded_at
  keeps_same a b d w ha hb e = rw e (go (far_of (distances t bs) b) refl)
    where
      l : length bs ≤ limits.blocks
      l = omega (arith, long)

      sd : (d.steps ≤ most_steps) × (d.cost ≤ most_tenths)
      sd = far-small t bs cheap l a d (rw long ha) e

      go : (o : Option Distance) → far_of (distances t bs) b ≡ o → keeps_in (coded (some d)) w (coded o) ≡ keeps d w o
      go none q = keeps-none d w sd.0 sd.1
      go (some k) q = keeps-some d k w sd.0 (far-small t bs cheap l b k (rw long hb) q).0

  fits-same : (a : Block) (d : Distance) → a.0 < count → far_of (distances t bs) a ≡ some d → (s b : ℕ) → s < steps → b < count
      → fits_by columns needs lands costs sets dist a.0 s b ≡ (leads_to t bs (step s) a (block b) && keeps d (cost_of t (step s)) (far_of (distances t bs) (block b)))
  unfolding fits_by bs Holds leads_to
  fits-same a d ha e s b hs hb =
      rw (holds a.0 ha, holds b hb, ← tables.cost (step s) hs)
      (ap₂ (λ (x y : Bool). x && y) (keeps_same a (block b) d (cost_of t (step s)) ha hb e)
      (leads-by t columns count needs lands goals sets tables.told tables.wide (step s) a (block b) (rw tables.long hs) ha hb)
      ∙ turned (keeps d (cost_of t (step s)) (far_of (distances t bs) (block b))) _)

  -- the search finds the next hop
  pub next-is : (a : Block) (d : Distance) → a.0 < count → far_of (distances t (blocks_in columns count sets)) a ≡ some d
      → next_by steps count (fits_by columns needs lands costs sets dist a.0) ≡ next_hop t (blocks_in columns count sets) (distances t (blocks_in columns count sets)) a d
  unfolding next_by next_of next_in next_hop bs
  next-is a d ha e =
      rw (tables.long, long)
      (first-ext steps _ _ (λ s hs. first-ext count _ _ (λ b hb. ap (λ (x : Bool). when x (hop s b)) (fits-same a d ha e s b hs hb))))

-- ---- the search as code makes it, turn by turn
module _ (ts : CodeTables) (bs : CodeBlocks) (dist : List ℕ) (a s : ℕ) where
  abbrev may : Bool
  may = may_take ts.shape.columns ts.rows ts.costs bs.sets dist a s

  abbrev fit : ℕ → Bool
  fit b = fits_on ts bs dist a s b

  -- step s is passed over
  pub passed : first s (next_of bs.count (fits_on ts bs dist a)) ≡ none → may ≡ false → first (s + 1) (next_of bs.count (fits_on ts bs dist a)) ≡ none
  passed before m = first_more _ s before (none-passed ts.shape.columns ts.rows (lands_in ts.rows) ts.costs bs.sets dist a s bs.count m)

  -- no block fits it
  pub none_fits : first s (next_of bs.count (fits_on ts bs dist a)) ≡ none → {b : ℕ} → b ≡ bs.count → first b (next_in (fits_on ts bs dist a) s) ≡ none
      → first (s + 1) (next_of bs.count (fits_on ts bs dist a)) ≡ none
  unfolding next_of
  none_fits before e none_yet = first_more _ s before (rw e at none_yet)

  module _ (b rest : ℕ) {r : Bool} (m : may ≡ true) (left : rest ≡ get_or dist a 0 - (get_or ts.costs s 0 * tenth + 1))
      (is : r ≡ (eqb (get_or dist b 0) rest && leads_by ts.shape.columns ts.rows (lands_in ts.rows) bs.sets s a b)) where
    same : r ≡ fit b
    same = is ∙ fits-rest ts.shape.columns ts.rows (lands_in ts.rows) ts.costs bs.sets dist a s b rest m left

    -- block b does not fit it
    pub unfit : first b (next_in (fits_on ts bs dist a) s) ≡ none → r ≡ false → first (b + 1) (next_in (fits_on ts bs dist a) s) ≡ none
    unfit before n = first_more _ b before (next-no (fits_on ts bs dist a) s b r same n)

    -- it does
    pub fit_here : s < ts.shape.steps → b < bs.count → first s (next_of bs.count (fits_on ts bs dist a)) ≡ none → first b (next_in (fits_on ts bs dist a) s) ≡ none
        → r ≡ true → next_is ts bs dist a ≡ some (hop s b)
    fit_here hs hb steps blocks y = found (fits_on ts bs dist a) ts.shape.steps bs.count s b hs hb steps blocks (next-yes (fits_on ts bs dist a) s b r same y)

-- no step has a hop
pub none-at-all : (ts : CodeTables) (bs : CodeBlocks) (dist : List ℕ) (a : ℕ) {s : ℕ} → s ≡ ts.shape.steps → first s (next_of bs.count (fits_on ts bs dist a)) ≡ none → next_is ts bs dist a ≡ none
unfolding next_by
none-at-all ts bs dist a e h = rw e at h

-- what the search answers is right of any task whose tables they are
pub answers : (ts : CodeTables) (bs : CodeBlocks) (dist : List ℕ) (a : Block) (r : prelude.Option CodeHop) → a.0 < bs.count
    → hop_of r ≡ next_is ts bs dist a.0 → (t : Task) → Nexts t ts bs dist a r
unfolding NextIs
answers ts bs dist a r h e t v own holds d q =
    e ∙ next-is t ts.shape.columns ts.shape.steps bs.count ts.rows (lands_in ts.rows) (goals_in ts.rows) ts.costs bs.sets dist own v.tenths bs.counted holds a d h q
