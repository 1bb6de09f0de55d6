-- A run with room for so many blocks answers rightly: it makes the cuts that the rules give, and ends as its last look says.
use mathlib.Core.Path.{◌≡◌, refl, sym, ap, ◌∙◌, subst, subst⁻¹}
use mathlib.Core.Bool.{true}
use mathlib.Core.List.{List, [], ◌∷◌, ◌++◌}
use mathlib.Core.Option.{none, some}
use Prim.Native.Nat.{ℕ, zero, suc, ◌+◌, ◌-◌, ◌≤◌}
use native.Mathlib.Omega.{arith}
use lib.ListN.{length, length-append}
use Rattle.task.specs.Task.{Task, Tenths, Accepted}
use Rattle.blocks.specs.declared.Cut.{Cut}
use Rattle.blocks.specs.Blocks.{cuts_ok, accepted, blocks_of}
use Rattle.blocks.proofs.PartLaws.{fits-ok}
use Rattle.blocks.proofs.CutLaws.{accepted-more, blocks-length}
use Rattle.blocks.proofs.CountLaws.{few}
use Rattle.run.specs.Run.{Look, hopeless, planned, flaw, look, «open», cut_of, end_of, Outcome, refine, run}
use Rattle.run.proofs.RunLaws.{LookRight, look-right, Ruled, none_yet, one_more, Right, RunRight}

module _ (t : Task) where
  -- what a run comes to that has room for so many cuts after the one of this look
  go_on : ℕ → List Cut → Look → Outcome
  go_on left cs l = elim (cut_of l) [ none ↦ record { answer = end_of l; made = cs } | some c ↦ refine t left (cs ++ (c ∷ [])) ]

  -- it looks at the blocks of all the cuts made so far
  refine-looks : (left : ℕ) (cs : List Cut) → refine t (suc left) cs ≡ go_on left cs (look t (blocks_of t cs))
  unfolding refine go_on
  refine-looks left cs = refl

module _ (t : Task) (v : Accepted t) where
  pub flaw-accepted : (cs : List Cut) → accepted t cs ≡ true → {e : Tenths} {c : Cut} → look t (blocks_of t cs) ≡ flaw e c → accepted t (cs ++ (c ∷ [])) ≡ true
  flaw-accepted cs ok {e} {c} q =
      let r : LookRight t v cs ok (flaw e c) = subst (LookRight t v cs ok) q (look-right t v cs ok) in
      accepted-more t cs c ok (fits-ok t (blocks_of t cs) c r.0)

  -- a flaw with the room full is right to be open: one block more than the room still holds no more blocks than states
  full-open : (cs : List Cut) (room : ℕ) → accepted t cs ≡ true → suc (length cs) ≡ room → {k : Tenths} {c : Cut} → look t (blocks_of t cs) ≡ flaw k c → Right t room cs («open» k)
  full-open cs room ok e {k} {c} q =
      let r : LookRight t v cs ok (flaw k c) = subst (LookRight t v cs ok) q (look-right t v cs ok) in
      let n = few t v (cs ++ (c ∷ [])) (flaw-accepted cs ok q) in
      let l : length (blocks_of t (cs ++ (c ∷ []))) ≡ suc (suc (length cs)) = blocks-length t (cs ++ (c ∷ [])) ∙ ap suc (length-append cs (c ∷ []) ∙ omega arith) in
      (e, omega arith, r.1)

  full-right : (cs : List Cut) (room : ℕ) → accepted t cs ≡ true → suc (length cs) ≡ room → (l : Look) → look t (blocks_of t cs) ≡ l → Right t room cs (end_of l)
  unfolding end_of
  full-right cs room ok e hopeless q = subst (LookRight t v cs ok) q (look-right t v cs ok)
  full-right cs room ok e (planned ss) q = subst (LookRight t v cs ok) q (look-right t v cs ok)
  full-right cs room ok e (flaw k c) q = full-open cs room ok e q

  refine-right : (left : ℕ) (cs : List Cut) (room : ℕ) → accepted t cs ≡ true → Ruled t cs → suc (length cs) + left ≡ room → RunRight t room (refine t left cs)
  unfolding refine go_on cut_of end_of
  refine-right zero cs room ok by e =
      record { made = ok; ruled = by; fits = omega arith; ends = refl; right = full-right cs room ok (omega arith) (look t (blocks_of t cs)) refl }
  refine-right (suc left) cs room ok by e =
      subst⁻¹ (RunRight t room) (refine-looks t left cs)
      (go (λ c ok' by'. refine-right left (cs ++ (c ∷ [])) room ok' by' (omega (arith, length-append cs (c ∷ [])))) (look t (blocks_of t cs)) refl)
    where
      ended : (l : Look) → look t (blocks_of t cs) ≡ l → Right t room cs (end_of l) → RunRight t room (record { answer = end_of l; made = cs })
      ended l q r = record { made = ok; ruled = by; fits = omega arith; ends = ap end_of (sym q); right = r }

      go : ((c : Cut) → accepted t (cs ++ (c ∷ [])) ≡ true → Ruled t (cs ++ (c ∷ [])) → RunRight t room (refine t left (cs ++ (c ∷ []))))
          → (l : Look) → look t (blocks_of t cs) ≡ l → RunRight t room (go_on t left cs l)
      go ih hopeless q = ended hopeless q (subst (LookRight t v cs ok) q (look-right t v cs ok))
      go ih (planned ss) q = ended (planned ss) q (subst (LookRight t v cs ok) q (look-right t v cs ok))
      go ih (flaw k c) q = ih c (flaw-accepted cs ok q) (one_more by q)

  -- a run answers rightly
  pub run-right : (room : ℕ) → 1 ≤ room → RunRight t room (run t room)
  unfolding run accepted cuts_ok
  run-right room h = refine-right (room - 1) [] room refl none_yet (omega arith)
