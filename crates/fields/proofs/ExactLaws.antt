-- 01, "Refusal numbers": a number is given exactly when its row applies and no earlier check does, and nothing is refused exactly when no check applies.
use Prim.Native.Nat.{ℕ, zero, suc, ◌<◌, zero-le, suc-le-suc}
use native.Mathlib.Nat.{le_of_suc-le-suc, not-suc-le-zero}
use native.Mathlib.Omega.{arith}
use mathlib.Core.Path.{◌≡◌, refl, sym, ap, ◌∙◌}
use mathlib.Core.Logic.{◌↔◌}
use mathlib.Core.Bool.{Bool, true, false, ◌&&◌, ◌||◌, and-eq-true_iff, false≢true, cond}
use mathlib.Core.List.{List, [], ◌∷◌, ◌++◌}
use lib.Dec.{eqb, ltb}
use lib.ListN.{length, get_or}
use borrow.Author.Tests.{eqb-true, eq-eqb, ltb-true}
use Rattle.fields.specs.Judging.{Entry, Check, check, checks_of, ◌then◌, refusal, each}
use Rattle.fields.proofs.JudgingLaws.{stop, go, checks-append, no-checks, passes, passed, refused-is}

abbrev pub no_check : Check
no_check = check 0 false

-- a check that applies with the number n, and before which none applies
pub record FirstToApply (cs : List Check) (n : ℕ) : Type 0 where
  pub place : ℕ
  pub below : place < length cs
  pub number : (get_or cs place no_check).number ≡ n
  pub applies : (get_or cs place no_check).applies ≡ true
  pub before : (k : ℕ) → k < place → (get_or cs k no_check).applies ≡ false

-- ---- which numbers checks have

-- every one of a list passes p
abbrev pub every : {A : Type 0} → (A → Bool) → List A → Bool
every p [] = true
every p (x ∷ xs) = p x && every p xs

-- n is one of the numbers
abbrev pub has : List ℕ → ℕ → Bool
has [] n = false
has (k ∷ ks) n = eqb n k || has ks n

-- the numbers of the checks pass p
abbrev pub Numbers : (ℕ → Bool) → List Check → Type 0
Numbers p cs = every (λ (c : Check). p c.number) cs ≡ true

-- no check has the number 0, which is no refusal
abbrev pub Numbered : List Check → Type 0
Numbered = Numbers (ltb 0)

module _ (p : ℕ → Bool) where
  append : (a b : List Check) → Numbers p a → Numbers p b → Numbers p (a ++ b)
  append [] b f g = g
  append (c ∷ a) b f g = let h = (and-eq-true_iff (p c.number) _).0 f in rw h.0 (append a b h.1 g)

  pub fields-append : (a b : List Entry) → Numbers p (checks_of a) → Numbers p (checks_of b) → Numbers p (checks_of (a ++ b))
  fields-append a b f g = rw (checks-append a b) (append (checks_of a) (checks_of b) f g)

  pub fields-each : (f : ℕ → List Entry) (n : ℕ) → ((i : ℕ) → Numbers p (checks_of (f i))) → Numbers p (checks_of (each n f))
  unfolding each checks_of
  fields-each f zero h = refl
  fields-each f (suc n) h = fields-append (each n f) (f n) (fields-each f n h) (h n)

  then-passes : (b : Bool) (n r : ℕ) → p n ≡ true → p r ≡ true → p (cond b n 0 then r) ≡ true
  unfolding ◌then◌
  then-passes true zero r f g = g
  then-passes true (suc n) r f g = f
  then-passes false n r f g = g

  refusal-passes : p 0 ≡ true → (cs : List Check) → Numbers p cs → p (refusal cs) ≡ true
  unfolding refusal
  refusal-passes z [] f = z
  refusal-passes z (c ∷ cs) f =
      let h = (and-eq-true_iff (p c.number) _).0 f in
      then-passes c.applies c.number (refusal cs) h.0 (refusal-passes z cs h.1)

  has-passes : (ns : List ℕ) (n : ℕ) → every p ns ≡ true → has ns n ≡ true → p n ≡ true
  has-passes [] n f h = absurd (false≢true h)
  has-passes (k ∷ ns) n f h = split (eqb n k) refl h (has-passes ns n ((and-eq-true_iff (p k) _).0 f).1)
    where
      split : (b : Bool) → eqb n k ≡ b → (b || has ns n) ≡ true → (has ns n ≡ true → p n ≡ true) → p n ≡ true
      split true e h next = ap p (eqb-true n k e) ∙ ((and-eq-true_iff (p k) _).0 f).0
      split false e h next = next h

  -- ---- numbers among ns, every one of which passes p
  module _ (ns : List ℕ) where
    wider : every p ns ≡ true → (cs : List Check) → Numbers (has ns) cs → Numbers p cs
    wider f [] g = refl
    wider f (c ∷ cs) g = let h = (and-eq-true_iff (has ns c.number) _).0 g in rw (has-passes ns c.number f h.0) (wider f cs h.1)

    pub numbers-append : every p ns ≡ true → (a b : List Check) → Numbers (has ns) a → Numbers p b → Numbers p (a ++ b)
    numbers-append f a b g h = append a b (wider f a g) h

    pub gives : every p (0 ∷ ns) ≡ true → (cs : List Check) → Numbers (has ns) cs → p (refusal cs) ≡ true
    gives f cs g = let h = (and-eq-true_iff (p 0) (every p ns)).0 f in refusal-passes h.0 cs (wider h.1 cs g)

first-numbered : (c : Check) (cs : List Check) → Numbered (c ∷ cs) → (c.number ≡ 0 → ⊥) × Numbered cs
first-numbered c cs f = let h = (and-eq-true_iff (ltb 0 c.number) _).0 f in (λ z. omega (arith, ltb-true 0 c.number h.0, z), h.1)

-- ---- one way
first-applies : (c : Check) (cs : List Check) (n : ℕ) → (c.number ≡ 0 → ⊥) → c.applies ≡ true → refusal (c ∷ cs) ≡ n → c.number ≡ n
unfolding refusal
first-applies c cs n z h e = sym (stop c.number (refusal cs) z) ∙ (rw h at e)

first_passes : (c : Check) (cs : List Check) → c.applies ≡ false → refusal (c ∷ cs) ≡ refusal cs
unfolding refusal
first_passes c cs h = rw h (go 0 (refusal cs) refl)

later : (c : Check) (cs : List Check) (n : ℕ) → c.applies ≡ false → FirstToApply cs n → FirstToApply (c ∷ cs) n
later c cs n h r =
    record { place = suc r.place; below = suc-le-suc r.below; number = r.number; applies = r.applies; before = before-later }
  where
    before-later : (k : ℕ) → k < suc r.place → (get_or (c ∷ cs) k no_check).applies ≡ false
    before-later zero l = h
    before-later (suc k) l = r.before k (le_of_suc-le-suc l)

pub applies-first : (cs : List Check) → Numbered cs → (n : ℕ) → (n ≡ 0 → ⊥) → refusal cs ≡ n → FirstToApply cs n
applies-first [] p n z e = absurd (z (sym e ∙ sym no-checks))
applies-first (c ∷ cs) p n z e = split c.applies refl (λ h. applies-first cs (first-numbered c cs p).1 n z (sym (first_passes c cs h) ∙ e))
  where
    split : (b : Bool) → c.applies ≡ b → (c.applies ≡ false → FirstToApply cs n) → FirstToApply (c ∷ cs) n
    split true h ih = record { place = 0; below = suc-le-suc zero-le; number = first-applies c cs n (first-numbered c cs p).0 h e; applies = h; before = λ k l. absurd (not-suc-le-zero l) }
    split false h ih = later c cs n h (ih h)

-- ---- the other way
found : (cs : List Check) (k n : ℕ) → (n ≡ 0 → ⊥) → k < length cs → (get_or cs k no_check).number ≡ n → (get_or cs k no_check).applies ≡ true → ((j : ℕ) → j < k → (get_or cs j no_check).applies ≡ false) → refusal cs ≡ n
unfolding refusal
found [] k n z l e h b = absurd (not-suc-le-zero l)
found (c ∷ cs) zero n z l e h b = rw (h, e) (stop n (refusal cs) z)
found (c ∷ cs) (suc k) n z l e h b = first_passes c cs (b 0 (omega arith)) ∙ found cs k n z (le_of_suc-le-suc l) e h (λ j q. b (suc j) (suc-le-suc q))

pub first-refuses : (cs : List Check) (n : ℕ) → (n ≡ 0 → ⊥) → FirstToApply cs n → refusal cs ≡ n
first-refuses cs n z r = found cs r.place n z r.below r.number r.applies r.before

-- ---- accepted or refused

-- no check applies
abbrev pub NoneApplies : List Check → Type 0
NoneApplies cs = (k : ℕ) → k < length cs → (get_or cs k no_check).applies ≡ false

none-quiet : (cs : List Check) → NoneApplies cs → refusal cs ≡ 0
none-quiet [] h = sym no-checks
none-quiet (c ∷ cs) h = sym (passes c.number c.applies cs (h 0 (suc-le-suc zero-le)) (sym (none-quiet cs (λ k l. h (suc k) (suc-le-suc l)))))

quiet_none : (cs : List Check) → Numbered cs → refusal cs ≡ 0 → NoneApplies cs
quiet_none [] p z k l = absurd (not-suc-le-zero l)
quiet_none (c ∷ cs) p z zero l = (passed c.number c.applies cs (first-numbered c cs p).0 z).0
quiet_none (c ∷ cs) p z (suc k) l =
    let h = first-numbered c cs p in
    quiet_none cs h.1 (passed c.number c.applies cs h.0 z).1 k (le_of_suc-le-suc l)

-- what an operation comes to that is made if no check applies, and else refused with the number of the first that does
pub record Judged {O : Type 0} (number : O → ℕ) (refused : ℕ → O) (cs : List Check) (made o : O) : Type 0 where
  pub told : number o ≡ refusal cs
  pub done : number o ≡ 0 → o ≡ made
  -- it is made exactly when no check applies
  pub accepts : NoneApplies cs ↔ (o ≡ made)
  -- the number n is returned exactly when its row applies and no earlier check does
  pub exactly : (n : ℕ) → (n ≡ 0 → ⊥) → (number o ≡ n) ↔ FirstToApply cs n
  -- and then everything lent is as found
  pub leaves : (n : ℕ) → (n ≡ 0 → ⊥) → number o ≡ n → o ≡ refused n

pub judges : {O : Type 0} (number : O → ℕ) (refused : ℕ → O) (ns : List ℕ) → every (ltb 0) ns ≡ true → (cs : List Check) → Numbers (has ns) cs → (made : O) → number made ≡ 0 → number (refused (refusal cs)) ≡ refusal cs
    → Judged number refused cs made (cond (eqb (refusal cs) 0) made (refused (refusal cs)))
judges number refused ns some cs among made none same =
    record {
      told = said (eqb R 0) refl;
      done = λ e. goes (sym (said (eqb R 0) refl) ∙ e);
      accepts = (λ n. goes (none-quiet cs n), λ e. quiet_none cs numbered (sym (said (eqb R 0) refl) ∙ ap number e ∙ none));
      exactly = λ n some. (λ e. applies-first cs numbered n some (sym (said (eqb R 0) refl) ∙ e), λ r. said (eqb R 0) refl ∙ first-refuses cs n some r);
      leaves = λ n some e. sym (refused-is refused cs made (sym e ∙ said (eqb R 0) refl) some);
    }
  where
    numbered : Numbered cs
    numbered = wider (ltb 0) ns some cs among

    R : ℕ
    R = refusal cs

    said : (b : Bool) → eqb R 0 ≡ b → number (cond b made (refused R)) ≡ R
    said true h = none ∙ sym (eqb-true R 0 h)
    said false h = same

    goes : R ≡ 0 → cond (eqb R 0) made (refused R) ≡ made
    goes z = ap (λ (b : Bool). cond b made (refused R)) (eq-eqb R 0 z)
