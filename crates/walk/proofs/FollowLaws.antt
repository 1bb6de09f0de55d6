-- The walk on the tables, turn by turn: what is left of it is what was to be done at first.
use mathlib.Core.Path.{◌≡◌, refl, sym, ap, ◌∙◌}
use mathlib.Core.Logic.{⊎_elim, ◌≢◌}
use mathlib.Core.Bool.{true, false}
use mathlib.Core.List.{List}
use mathlib.Core.Option.{Option, none, some}
use Prim.Native.Nat.{ℕ, suc, ◌+◌, ◌-◌, ◌<◌}
use native.Mathlib.Nat.{not-suc-le-zero}
use native.Mathlib.Omega.{arith}
use lib.ListN.{length, get_or, set, length-set}
use lib.Seq.{get_or-set_same, get_or-set_other}
use Rattle.task.specs.declared.Step.{Step}
use Rattle.task.specs.declared.Block.{Block}
use Rattle.task.specs.Sizes.{limits}
use Rattle.task.specs.Task.{step}
use Rattle.task.proofs.LoopLaws.{true-or-false}
use Rattle.blocks.specs.declared.Cut.{Cut}
use Rattle.blocks.specs.Masks.{rows_from}
use Rattle.blocks.proofs.PartLaws.{same_or_not}
use Rattle.distances.specs.Distances.{Hop}
use Rattle.trace.specs.Hops.{fits_by, next_by}
use Rattle.trace.proofs.HopLaws.{next-below}
use Rattle.trace.specs.declared.Hop.{Hop as CodeHop}
use Rattle.std.specs.Prelude.{Ok, Err, Some, None}
use Rattle.standing.specs.Standing.{takes_by, lands_by, goal_at_end, taken_by, cut_by, back_row}
use Rattle.walk.specs.Walking.{Found, Turn, Followed, outcome, arrive_by, turn_on, turn_by, stands_after, follow_by, Known}

module _ (columns steps count : ℕ) (needs lands goals costs sets dist : List ℕ) where
  abbrev turn : Block → List ℕ → Turn
  turn a here = turn_by columns steps count needs lands costs sets dist a here

  abbrev left : ℕ → ℕ → Block → List ℕ → List Step → Followed
  left n i a here path = follow_by columns steps count needs lands goals costs sets dist n i a here path

  abbrev ended : ℕ → Block → List ℕ → List Step → Followed
  ended i a here path = outcome (arrive_by columns goals sets i a here) here path

  -- ---- one turn
  pub follow-none : (i : ℕ) (a : Block) (here : List ℕ) (path : List Step) → left 0 i a here path ≡ ended i a here path
  unfolding follow_by
  follow-none i a here path = refl

  pub follow-ended : (n i : ℕ) (a : Block) (here : List ℕ) (path : List Step) → turn a here ≡ Ok None → left (suc n) i a here path ≡ ended i a here path
  unfolding follow_by
  follow-ended n i a here path e = rw (e, follow_by)

  pub follow-flawed : (n i : ℕ) (a : Block) (here : List ℕ) (path : List Step) (c : Cut) → turn a here ≡ Err c → left (suc n) i a here path ≡ outcome (Err c) here path
  unfolding follow_by
  follow-flawed n i a here path c e = rw (e, follow_by)

  pub follow-went : (n i : ℕ) (a : Block) (here : List ℕ) (path : List Step) (h : CodeHop) → turn a here ≡ Ok (Some h)
      → left (suc n) i a here path ≡ left n (i + 1) h.block (taken_by columns lands here h.step.0) (set path i h.step)
  unfolding follow_by
  follow-went n i a here path h e = rw (e, follow_by)

  -- a hop that is made is one of the steps, to one of the blocks
  pub went-below : (a : Block) (here : List ℕ) (h : CodeHop) → turn a here ≡ Ok (Some h) → (h.step.0 < steps) × (h.block.0 < count)
  unfolding turn_by turn_on
  went-below a here h w = go (next_by steps count (fits_by columns needs lands costs sets dist a.0)) refl w
    where
      go : (o : Option Hop) → next_by steps count (fits_by columns needs lands costs sets dist a.0) ≡ o → turn_on columns needs lands sets a here o ≡ Ok (Some h)
          → (h.step.0 < steps) × (h.block.0 < count)
      go none e q = let z : ◌≡◌ {A = ℕ} 0 1 = cc in absurd (omega arith)
      go (some k) e q =
          ⊎_elim
          (λ (c : takes_by columns needs here k.step.0 ≡ true).
          ⊎_elim
          (λ (l : lands_by columns lands sets here k.step.0 k.to.0 ≡ true).
          let r = next-below (fits_by columns needs lands costs sets dist a.0) steps count k e in
          let same : ◌≡◌ {A = Turn} (Ok (Some (record { step = k.step; block = k.to }))) (Ok (Some h)) = rw (c, l) at q in
          let p : k.step ≡ h.step = cc in
          let p' : k.to ≡ h.block = cc in
          (rw p at r.0, rw p' at r.1))
          (λ (l : lands_by columns lands sets here k.step.0 k.to.0 ≡ false).
          let same : ◌≡◌ {A = Turn} (Err (cut_by columns sets here a (back_row needs lands sets k.step.0 k.to.0))) (Ok (Some h)) = rw (c, l) at q in
          let z : ◌≡◌ {A = ℕ} 0 1 = cc in absurd (omega arith))
          (true-or-false (lands_by columns lands sets here k.step.0 k.to.0)))
          (λ (c : takes_by columns needs here k.step.0 ≡ false).
          let same : ◌≡◌ {A = Turn} (Err (cut_by columns sets here a (rows_from k.step.0 needs))) (Ok (Some h)) = rw c at q in
          let z : ◌≡◌ {A = ℕ} 0 1 = cc in absurd (omega arith))
          (true-or-false (takes_by columns needs here k.step.0))

  -- ---- the loop

  -- after i of n hops the walk stands in block a, and what is left makes the whole
  pub record Going (n : ℕ) (whole : Followed) (i : ℕ) (a : Block) (here : List ℕ) (path : List Step) : Type 0 where
    pub made : a.0 < count
    pub long : length path ≡ limits.blocks
    pub known : (k : ℕ) → k < i → (get_or path k (step 0)).0 < steps
    pub rest : left (n - i) i a here path ≡ whole

  pub going-none : (n : ℕ) (a : Block) (here : List ℕ) (path : List Step) → a.0 < count → length path ≡ limits.blocks → Going n (left n 0 a here path) 0 a here path
  going-none n a here path m l = record { made = m; long = l; known = λ k h. absurd (not-suc-le-zero h); rest = let e : n - 0 ≡ n = omega arith in rw e }

  module _ (n : ℕ) (whole : Followed) (i : ℕ) (a : Block) (here : List ℕ) (path : List Step) (going : Going n whole i a here path) where
    step_left : i < n → left (suc (n - (i + 1))) i a here path ≡ whole
    step_left h = let e : n - i ≡ suc (n - (i + 1)) = omega arith in rw e at going.rest

    -- a turn that goes on
    module _ (r : Turn) (here' : List ℕ) (is : r ≡ turn a here) (stands : here' ≡ stands_after columns lands here r) (h : i < n) where
      pub going_more : (next : CodeHop) → r ≡ Ok (Some next) → n < limits.blocks → Going n whole (i + 1) next.block here' (set path i next.step)
      unfolding stands_after
      going_more next e few =
          let w : turn a here ≡ Ok (Some next) = sym is ∙ e in
          let below = went-below a here next w in
          let there : here' ≡ taken_by columns lands here next.step.0 = stands ∙ ap (stands_after columns lands here) e in
          let l = going.long in
          record {
            made = below.1;
            long = length-set path i next.step ∙ l;
            known = λ k hk.
                ⊎_elim
                (λ (e : k ≡ i). rw (e, get_or-set_same path i next.step (step 0) (omega arith)) below.0)
                (λ (e : k ≢ i). rw (get_or-set_other path i k next.step (step 0) e) (going.known k (omega arith)))
                (same_or_not k i);
            rest = rw there (sym (follow-went (n - (i + 1)) i a here path next w) ∙ step_left h);
          }

      -- no hop is found
      pub going-ended : (f : Found) → r ≡ Ok None → f ≡ arrive_by columns goals sets i a here' → outcome f here' path ≡ whole
      unfolding stands_after
      going-ended f e fs =
          let same : here' ≡ here = stands ∙ ap (stands_after columns lands here) e in
          rw (fs, same) (sym (follow-ended (n - (i + 1)) i a here path (sym is ∙ e)) ∙ step_left h)

      -- a flaw
      pub going-flawed : (c : Cut) → r ≡ Err c → outcome (Err c) here' path ≡ whole
      unfolding stands_after
      going-flawed c e =
          let same : here' ≡ here = stands ∙ ap (stands_after columns lands here) e in
          rw same (sym (follow-flawed (n - (i + 1)) i a here path c (sym is ∙ e)) ∙ step_left h)

    -- all hops are made
    pub going-all : (f : Found) → n ≡ i → f ≡ arrive_by columns goals sets n a here → outcome f here path ≡ whole
    going-all f h fs = let e : n - i ≡ 0 = omega arith in rw (fs, h) (sym (follow-none i a here path) ∙ (rw e at going.rest))

    -- ---- the steps of the path
    pub known-end : (last : List ℕ) (f : Found) (hops : ℕ) → hops ≡ i → f ≡ arrive_by columns goals sets hops a last → i < limits.blocks → Known steps f path
    unfolding Known arrive_by
    known-end last f hops same fs few m e =
        ⊎_elim
        (λ (g : goal_at_end columns goals last ≡ true).
        let k : ◌≡◌ {A = Found} f (Ok hops) = rw g at fs in
        let z : hops ≡ m = cc in
        (omega arith, (λ j h. going.known j (omega arith))))
        (λ (g : goal_at_end columns goals last ≡ false).
        let k : ◌≡◌ {A = Found} f (Err (cut_by columns sets last a goals)) = rw g at fs in
        let z : ◌≡◌ {A = ℕ} 0 1 = cc in absurd (omega arith))
        (true-or-false (goal_at_end columns goals last))

    pub known-flawed : (c : Cut) → Known steps (Err c) path
    unfolding Known
    known-flawed c m e = let z : ◌≡◌ {A = ℕ} 0 1 = cc in absurd (omega arith)
