-- 01, "A run", step 4: the flaws that a run meets, and the cuts that they bring. A run looks at the blocks of the cuts made so far, which are always a
-- front of the cuts made in the end.
use Prim.Native.Nat.{ℕ, ◌+◌, ◌<◌}
use native.Mathlib.Omega.{arith}
use native.Mathlib.Decide.{dec_lt}
use mathlib.Core.Path.{◌≡◌, sym, ap, ◌∙◌, subst}
use mathlib.Core.List.{List, [], ◌∷◌, ◌++◌, append-nil}
use mathlib.Core.Option
use lib.ListN.{length, get_or, take, length-append, get_or-append}
use lib.Seq.{take-append-le, take-append_seam, get_or-append_seam, take_at, get_or_at}
use Rattle.task.specs.Task.{Task, Tenths}
use Rattle.blocks.specs.declared.Cut.{Cut}
use Rattle.blocks.specs.Blocks.{blocks_of}
use Rattle.run.specs.Run.{Outcome, Look, look, flaw, cut_of, end_of}
use Rattle.run.proofs.RunLaws.{Ruled, none_yet, one_more, Right, RunRight}

module _ (t : Task) where
  -- with the cuts made so far, a flaw is met, with its cut
  abbrev pub FlawMet : List Cut → Cut → Type 0
  FlawMet before c = (e : Tenths) × (look t (blocks_of t before) ≡ flaw e c)

  -- each flaw met before the room is full brings exactly one cut by the rules
  pub record OnePerFlaw (room : ℕ) (made : List Cut) : Type 0 where
    -- each cut is that of the flaw met just before it
    pub of-flaw : (before after : List Cut) (c : Cut) → made ≡ before ++ (c ∷ after) → FlawMet before c
    -- and each flaw met before the room is full has brought its cut
    pub brought : (before after : List Cut) (c : Cut) → made ≡ before ++ after → FlawMet before c → length before + 1 < room → (rest : List Cut) × (after ≡ c ∷ rest)
    -- a flaw that is met in the end has found the room full
    pub last-full : (c : Cut) → FlawMet made c → length made + 1 ≡ room

  ruled-at : {cs : List Cut} → Ruled t cs → (i : ℕ) (d : Cut) → i < length cs → FlawMet (take i cs) (get_or cs i d)
  ruled-at none_yet i d h = absurd (omega arith)
  ruled-at (one_more {cs = cs} {e = e} {c = c} r q) i d h = split (λ l. ruled-at r i d l) (dec_lt i (length cs))
    where
      at : (i : ℕ) (f : Tenths) (bs : List Cut) (b : Cut) → take i (cs ++ (c ∷ [])) ≡ bs → get_or (cs ++ (c ∷ [])) i d ≡ b → look t (blocks_of t bs) ≡ flaw f b → FlawMet (take i (cs ++ (c ∷ []))) (get_or (cs ++ (c ∷ [])) i d)
      at i f bs b x y w = (f, ap (λ (l : List Cut). look t (blocks_of t l)) x ∙ w ∙ ap (flaw f) (sym y))

      split : (i < length cs → FlawMet (take i cs) (get_or cs i d)) → Dec (i < length cs) → FlawMet (take i (cs ++ (c ∷ []))) (get_or (cs ++ (c ∷ [])) i d)
      split ih (yes l) = at i (ih l).0 (take i cs) (get_or cs i d) (take-append-le i cs (c ∷ []) (omega arith)) (get_or-append cs (c ∷ []) d i l) (ih l).1
      split ih (no l) =
          let z : length cs ≡ i = omega (arith, length-append cs (c ∷ [])) in
          at i e cs c (take_at cs (c ∷ []) i z) (get_or_at cs c [] d i z) q

  pub cut_at : {made : List Cut} → Ruled t made → (before after : List Cut) (c : Cut) → made ≡ before ++ (c ∷ after) → FlawMet before c
  cut_at {made = made} r before after c e =
      let n : length made ≡ length before + length (c ∷ after) = ap length e ∙ length-append before (c ∷ after) in
      let w = ruled-at r (length before) c (omega arith) in
      let x : take (length before) made ≡ before = ap (take (length before)) e ∙ take-append_seam before (c ∷ after) in
      let y : get_or made (length before) c ≡ c = ap (λ (l : List Cut). get_or l (length before) c) e ∙ get_or-append_seam before c after c in
      (w.0, ap (λ (l : List Cut). look t (blocks_of t l)) (sym x) ∙ w.1 ∙ ap (flaw w.0) y)

  -- a look meets no more than one flaw
  same-cut : (before : List Cut) (c d : Cut) → FlawMet before c → FlawMet before d → c ≡ d
  unfolding cut_of
  same-cut before c d p q = ap (λ (l : Look). Option.get_or (cut_of l) c) (sym p.1 ∙ q.1)

  module _ (room : ℕ) (o : Outcome) (r : RunRight t room o) where
    pub full : (c : Cut) → FlawMet o.made c → length o.made + 1 ≡ room
    unfolding end_of
    full c f = let z = subst (Right t room o.made) (r.ends ∙ ap end_of f.1) r.right in omega (arith, z.0)

    pub brings : (before after : List Cut) (c : Cut) → o.made ≡ before ++ after → FlawMet before c → length before + 1 < room → (rest : List Cut) × (after ≡ c ∷ rest)
    brings before [] c e f h =
        let q : o.made ≡ before = e ∙ append-nil before in
        absurd (omega (arith, full c (subst (λ (l : List Cut). FlawMet l c) (sym q) f), ap length q))
    brings before (d ∷ rest) c e f h = (rest, ap (λ (x : Cut). x ∷ rest) (same-cut before d c (cut_at r.ruled before rest d e) f))
