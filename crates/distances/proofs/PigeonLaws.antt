-- A list of different numbers below n has at most n entries.
use mathlib.Core.Path.{◌≡◌, refl, sym, ◌∙◌}
use mathlib.Core.Logic.{◌⊎◌, inl, inr, ⊎_elim}
use mathlib.Core.Bool.{Bool, true, false}
use mathlib.Core.List.{List, [], ◌∷◌}
use Prim.Native.Nat.{ℕ, zero, suc, ◌≤◌, ◌<◌, zero-le, suc-le-suc}
use native.Mathlib.Nat.{not-suc-le-zero}
use native.Mathlib.Omega.{arith}
use lib.Dec.{eqb}
use lib.ListN.{length}
use borrow.Author.Tests.{eqb-true, eqb-false, ne_eqb}
use Rattle.task.proofs.LoopLaws.{below_suc, true-or-false}

pub data In (x : ℕ) : List ℕ → Type 0 where
  here : {y : ℕ} {l : List ℕ} → x ≡ y → In x (y ∷ l)
  there : {y : ℕ} {l : List ℕ} → In x l → In x (y ∷ l)

abbrev pub Different : List ℕ → Type 0
Different [] = Unit {0}
Different (x ∷ l) = (In x l → ⊥) × Different l

not-in-nil : {x : ℕ} → In x [] → ⊥
not-in-nil = elim [ ]

in-cons : {x y : ℕ} {l : List ℕ} → In x (y ∷ l) → (x ≡ y) ⊎ In x l
in-cons (here e) = inl e
in-cons (there i) = inr i

pub in-or-not : (x : ℕ) (l : List ℕ) → In x l ⊎ (In x l → ⊥)
in-or-not x [] = inr not-in-nil
in-or-not x (y ∷ l) =
    ⊎_elim (λ (t : eqb x y ≡ true). inl (here (eqb-true x y t)))
    (λ (f : eqb x y ≡ false). ⊎_elim (λ i. inl (there i)) (λ n. inr (λ k. ⊎_elim (eqb-false x y f) n (in-cons k))) (in-or-not x l))
    (true-or-false (eqb x y))

abbrev keep : Bool → ℕ → List ℕ → List ℕ
keep true x l = l
keep false x l = x ∷ l

-- the list with no k
remove : ℕ → List ℕ → List ℕ
remove k [] = []
remove k (x ∷ l) = keep (eqb x k) x (remove k l)

in-keep : (b : Bool) (x : ℕ) (l : List ℕ) {y : ℕ} → In y (keep b x l) → ((y ≡ x) × (b ≡ false)) ⊎ In y l
in-keep true x l i = inr i
in-keep false x l (here e) = inl (e, refl)
in-keep false x l (there i) = inr i

in_remove : (k : ℕ) (l : List ℕ) {y : ℕ} → In y (remove k l) → In y l × (y ≡ k → ⊥)
unfolding remove
in_remove k [] i = absurd (not-in-nil i)
in_remove k (x ∷ l) i =
    ⊎_elim (λ p. (here p.0, λ e. eqb-false x k p.1 (sym p.0 ∙ e))) (λ j. let r = in_remove k l j in (there r.0, r.1)) (in-keep (eqb x k) x (remove k l) i)

remove-different : (k : ℕ) (l : List ℕ) → Different l → Different (remove k l)
unfolding remove
remove-different k [] d = tt
remove-different k (x ∷ l) d = go (remove-different k l d.1) (eqb x k)
  where
    go : Different (remove k l) → (b : Bool) → Different (keep b x (remove k l))
    go rest true = rest
    go rest false = (λ i. d.0 (in_remove k l i).0, rest)

remove_absent : (k : ℕ) (l : List ℕ) → (In k l → ⊥) → remove k l ≡ l
unfolding remove
remove_absent k [] n = refl
remove_absent k (x ∷ l) n = rw (ne_eqb x k (λ e. n (here (sym e))), remove_absent k l (λ i. n (there i)))

remove-length : (k : ℕ) (l : List ℕ) → Different l → length l ≤ suc (length (remove k l))
unfolding remove
remove-length k [] d = zero-le
remove-length k (x ∷ l) d =
    ⊎_elim (λ (t : eqb x k ≡ true). rw (t, remove_absent k l (λ i. d.0 (rw (← eqb-true x k t) at i))) (omega arith))
    (λ (f : eqb x k ≡ false). rw f (suc-le-suc (remove-length k l d.1))) (true-or-false (eqb x k))

pub pigeon : (n : ℕ) (l : List ℕ) → Different l → ((x : ℕ) → In x l → x < n) → length l ≤ n
pigeon zero [] d f = zero-le
pigeon zero (x ∷ l) d f = absurd (not-suc-le-zero (f x (here refl)))
pigeon (suc n) l d f =
    let ih = pigeon n (remove n l) (remove-different n l d) (λ x i. ⊎_elim (λ e. absurd ((in_remove n l i).1 e)) (λ h. h) (below_suc (f x (in_remove n l i).0))) in
    omega (arith, remove-length n l d, ih)
