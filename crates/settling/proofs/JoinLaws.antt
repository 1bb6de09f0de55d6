-- The distances of the generic search are those of the blocks: a path of the one is a path of the other, of the same cost and as many steps.
use mathlib.Core.Path.{◌≡◌, refl, sym, ◌∙◌, ap, ap₂}
use mathlib.Core.Logic.{◌⊎◌, inl, inr, ⊎_elim}
use mathlib.Core.Bool.{true}
use mathlib.Core.List.{List, [], ◌∷◌, ◌++◌}
use mathlib.Core.Option
use mathlib.Core.Option.{Option, none, some, map}
use Prim.Native.Nat.{ℕ, suc, ◌+◌, ◌-◌, ◌*◌, ◌/◌, ◌%◌, ◌<◌, ◌≤◌}
use native.Mathlib.Decide.{dec_lt}
use native.Mathlib.Omega.{arith}
use native.Mathlib.Numerals.{add-one}
use lib.ListN.{length, get_or, drop}
use lib.Seq.{ext_get_or, get_or-drop, get_or-append-add}
use borrow.Author.Tests.{lt-ltb, le-ltb}
use Rattle.task.specs.declared.Step.{Step}
use Rattle.task.specs.declared.Block.{Block}
use Rattle.task.specs.Sizes.{limits, most_steps, most_cost, most_tenths, tenth}
use Rattle.task.specs.Loops.{tab, over}
use Rattle.task.specs.Task.{Task, Tenths, step, block, cost_of}
use Rattle.task.proofs.LoopLaws.{tab-length, over-length, over-at}
use Rattle.blocks.specs.Blocks.{Blocks}
use Rattle.blocks.specs.Flat.{blocks_in}
use Rattle.blocks.specs.Masks.{Tables}
use Rattle.blocks.proofs.FlatLaws.{blocks-length}
use Rattle.blocks.proofs.MaskLaws.{leads-by, goal-by}
use Rattle.distances.specs.Distances.{Distance, Hop, AtMost, DistanceIs, leads_to, is_path, far, far_of, plus, zero_far, distances}
use Rattle.settling.specs.Ways.{Path, here, step as hop, NoWorse, no_way, IsDist, AllDist}
use Rattle.arcs.specs.Arcs.{Arc, GoalIn, cost_in}
use Rattle.settling.specs.Coded.{coded, decoded, coded_at, coded_over}
use Rattle.distances.proofs.LeastLaws.{PathOf, first_of, path-cons, distances-right}
use Rattle.distances.proofs.TableLaws.{distance-unique, rounds-bound}

-- ---- a list written over, by its places
pub over-past : (f : ℕ → ℕ) (l : List ℕ) (n i : ℕ) → n ≤ i → get_or (over (tab n f) l) i 0 ≡ get_or l i 0
unfolding over
over-past f l n i h =
    let k = tab-length n f in
    let e : i ≡ length (tab n f) + (i - n) = omega arith in
    ap (λ (z : ℕ). get_or (tab n f ++ drop (length (tab n f)) l) z 0) e
    ∙ get_or-append-add (tab n f) (drop (length (tab n f)) l) (i - n) 0
    ∙ get_or-drop (length (tab n f)) l (i - n) 0
    ∙ ap (λ (z : ℕ). get_or l z 0) (sym e)

below_or_not : (i n : ℕ) → (i < n) ⊎ (n ≤ i)
below_or_not i n = elim (dec_lt i n) [ yes l ↦ inl l | no l ↦ inr (omega arith) ]

-- ---- numbers and distances
pub decoded-low : (n : ℕ) → n < no_way → decoded n ≡ some (record { cost = n / tenth; steps = n % tenth })
unfolding decoded
decoded-low n h = rw (lt-ltb n no_way h)

pub decoded-high : (n : ℕ) → no_way ≤ n → decoded n ≡ none
unfolding decoded
decoded-high n h = rw (le-ltb n no_way h)

-- a number up to the mark for "no way" is the one of its distance
pub coded-decoded : (n : ℕ) → n ≤ no_way → coded (decoded n) ≡ n
unfolding coded
coded-decoded n h =
    elim (dec_lt n no_way) [
      | yes l ↦ rw (decoded-low n l) (omega arith)
      | no l ↦ rw (decoded-high n (omega arith)) (omega arith)
    ]

-- ---- paths
module _ (t : Task) (columns count steps : ℕ) (needs lands goals costs sets : List ℕ) (tables : Tables t columns steps needs lands goals costs) where
  bs : Blocks
  bs = blocks_in columns count sets

  long : length bs ≡ count
  unfolding bs
  long = blocks-length columns count sets

  arc : ℕ → ℕ → ℕ → Type 0
  arc = Arc columns count steps needs lands sets

  arc-leads : (a s b : ℕ) → arc a s b → leads_to t bs (step s) (block a) (block b) ≡ true
  unfolding arc bs leads_to
  arc-leads a s b r =
      sym (leads-by t columns count needs lands goals sets tables.told tables.wide (step s) (block a) (block b) (rw tables.long r.by) r.out r.into) ∙ r.leads

  -- a path of the search is a path of the blocks
  path-there : {a c n : ℕ} → Path arc (GoalIn columns goals sets) (cost_in costs) a c n → a < count → PathOf t bs (block a) (record { cost = c; steps = n })
  unfolding is_path far zero_far plus arc bs
  path-there {a} (here g) h = ([], sym (goal-by t columns count needs lands goals sets tables.told tables.wide (block a) h) ∙ g, refl)
  path-there {a} (hop {c = c} {t = n} s b l p) h =
      let r = path-there p l.into in
      let w : Hop = record { step = step s; to = block b } in (
        w ∷ r.0,
        path-cons t bs (block a) w r.0 (record { known = rw tables.long l.by; made = rw long l.into; leads = arc-leads a s b l; rest = r.1 }),
        ap₂ (λ (x : Tenths) (d : Distance). record { cost = x + d.cost; steps = suc d.steps }) (tables.cost (step s) l.by) r.2 ∙ rw add-one refl,
      )

  -- and a path of the blocks is one of the search
  path-back : (hs : List Hop) (a : ℕ) → a < count → is_path t bs (block a) hs ≡ true → Path arc (GoalIn columns goals sets) (cost_in costs) a (far t hs).cost (far t hs).steps
  unfolding is_path far zero_far plus arc bs leads_to
  path-back [] a h w = here (goal-by t columns count needs lands goals sets tables.told tables.wide (block a) h ∙ w)
  path-back (x ∷ hs) a h w =
      let f = first_of t bs (block a) x hs w in
      let by : x.step.0 < steps = rw tables.long at f.known in
      let into : x.to.0 < count = rw long at f.made in
      let l : Arc columns count steps needs lands sets a x.step.0 x.to.0 =
      record { out = h; by = by; into = into; leads = leads-by t columns count needs lands goals sets tables.told tables.wide x.step (block a) x.to f.known h into ∙ f.leads } in
      rw (tables.cost x.step by, ← add-one) (hop x.step.0 x.to.0 l (path-back hs x.to.0 into f.rest))

  -- the number of a block is the number of its distance
  is-distance : (a d : ℕ) → a < count → IsDist arc (GoalIn columns goals sets) (cost_in costs) a d → DistanceIs t bs (block a) (decoded d)
  is-distance a d h r =
      elim (dec_lt d no_way) [
        | yes l ↦ rw (decoded-low d l) (
            record {
              path = path-there (r.some-path l) h;
              least = λ hs w. at-most (d / tenth) (d % tenth) (far t hs) (r.no-better (path-back hs a h w)).1;
            })
        | no l ↦ rw (decoded-high d (omega arith)) (λ hs w. l (r.no-better (path-back hs a h w)).0)
      ]
    where
      at-most : (c n : ℕ) (e : Distance) → NoWorse c n e.cost e.steps → AtMost (record { cost = c; steps = n }) e
      at-most c n e w =
          record {
            cost = ⊎_elim (λ k. omega arith) (λ k. omega arith) w;
            steps = λ q. ⊎_elim (λ k. omega arith) (λ k. omega arith) w;
          }

  number_is : (a d : ℕ) → a < count → IsDist arc (GoalIn columns goals sets) (cost_in costs) a d → d ≡ coded_at (distances t bs) a
  unfolding coded_at
  number_is a d h r =
      let e : decoded d ≡ far_of (distances t bs) (block a) = distance-unique t bs (block a) (decoded d) (far_of (distances t bs) (block a)) (is-distance a d h r) (distances-right t bs (block a) (rw long h)) in
      sym (coded-decoded d r.top) ∙ ap coded e

  -- what the search leaves is the table of the distances, and every other place as it was
  pub all_coded : (D D' : List ℕ) → length D ≡ limits.blocks → length D' ≡ limits.blocks → count ≤ limits.blocks
      → AllDist (Arc columns count steps needs lands sets) (GoalIn columns goals sets) (cost_in costs) count D D'
      → D' ≡ coded_over t (blocks_in columns count sets) count D
  unfolding coded_over arc bs
  all_coded D D' l l' h r =
      let f = coded_at (distances t (blocks_in columns count sets)) in
      ext_get_or 0 D' (over (tab count f) D) (l' ∙ sym (over-length count f D (omega arith) ∙ l))
      (λ i k. ⊎_elim
      (λ (b : i < count). number_is i (get_or D' i 0) b (r.each i b) ∙ sym (over-at count f D 0 i b))
      (λ (b : count ≤ i). r.rest i b ∙ sym (over-past f D count i b))
      (below_or_not i count))

-- ---- back from the numbers
module _ (t : Task) (bs : Blocks) (cheap : (s : Step) → cost_of t s ≤ most_cost) (few : length bs ≤ limits.blocks) where
  -- the largest distance
  pub far-small : (a : Block) (d : Distance) → a.0 < length bs → far_of (distances t bs) a ≡ some d
      → (d.steps ≤ most_steps) × (d.cost ≤ most_tenths)
  unfolding distances
  far-small a d h e = let b = rounds-bound t bs most_cost cheap (length bs) a h e in (omega (arith, b.0), omega (arith, b.0, b.1))

  -- a number is at most the mark for "no way", and says its distance
  pub record Says (n : ℕ) (o : Option Distance) : Type 0 where
    pub top : n ≤ no_way
    pub is : decoded n ≡ o

  pub coded-says : (a : Block) → a.0 < length bs → Says (coded_at (distances t bs) a.0) (far_of (distances t bs) a)
  unfolding coded_at coded
  coded-says a h = go (far_of (distances t bs) a) refl
    where
      go : (o : Option Distance) → far_of (distances t bs) a ≡ o → Says (coded o) o
      go none e = record { top = omega arith; is = decoded-high no_way (omega arith) }
      go (some d) e =
          let s = far-small a d h e in
          let n : ℕ = d.cost * tenth + d.steps in
          let c : n / tenth ≡ d.cost = omega (arith, s.0) in
          let k : n % tenth ≡ d.steps = omega (arith, s.0) in
          record {
            top = omega (arith, s.0, s.1);
            is = decoded-low n (omega (arith, s.0, s.1)) ∙ ap₂ {C = Option Distance} (λ (x y : ℕ). some (record { cost = x; steps = y })) c k;
          }

  -- its cost, and the mark where there is no way
  pub cost-said : (a : Block) → a.0 < length bs
      → coded_at (distances t bs) a.0 / tenth ≡ Option.get_or (map (λ d. d.cost) (far_of (distances t bs) a)) limits.no_way
  unfolding coded_at coded
  cost-said a h = go (far_of (distances t bs) a) refl
    where
      go : (o : Option Distance) → far_of (distances t bs) a ≡ o → coded o / tenth ≡ Option.get_or (map (λ d. d.cost) o) limits.no_way
      go none e = refl
      go (some d) e = omega (arith, (far-small a d h e).0)
