-- Laws of sets of positions: what each operation holds. Past this file only `holds` is spoken of.
use mathlib.Core.Path.{◌≡◌, refl, sym, ap, ◌∙◌}
use mathlib.Core.Logic.{⊎_elim}
use mathlib.Core.Bool.{true, false, ◌&&◌, not}
use Prim.Native.Nat.{ℕ, zero, suc, ◌-◌, ◌/◌, ◌%◌, ◌^◌, ◌<◌}
use native.Mathlib.Omega.{arith}
use lib.Arith.{bin_ind}
use lib.Bits.{bit_and, bit_xor, and_shr, and_mod, xor_shr, xor_mod}
use lib.Pow.{shr-shr, pow_pos}
use lib.Dec.{eqb, ltb, eqb-suc-suc, eqb-zero-suc, eqb-suc-zero, leb-suc-suc, leb-suc-zero, leb-zero}
use borrow.Author.Tests.{eqb-false, ne_eqb, not-true}
use Rattle.task.specs.declared.Position.{Position}
use Rattle.task.specs.Task.{position}
use Rattle.task.proofs.LoopLaws.{and_left, and_right, and_both, true-or-false}
use Rattle.blocks.specs.Blocks.{PositionSet, holds, only, every, common, without, is_empty}

-- one digit
and-digit : (u v : ℕ) → u < 2 → v < 2 → eqb (bit_and u v) 1 ≡ (eqb u 1 && eqb v 1)
and-digit zero zero h k = refl
and-digit zero (suc zero) h k = refl
and-digit (suc zero) zero h k = refl
and-digit (suc zero) (suc zero) h k = refl
and-digit (suc (suc u)) v h k = absurd (omega arith)
and-digit zero (suc (suc v)) h k = absurd (omega arith)
and-digit (suc zero) (suc (suc v)) h k = absurd (omega arith)

xor-digit : (u v : ℕ) → u < 2 → v < 2 → eqb (bit_xor u (bit_and u v)) 1 ≡ (eqb u 1 && not (eqb v 1))
xor-digit zero zero h k = refl
xor-digit zero (suc zero) h k = refl
xor-digit (suc zero) zero h k = refl
xor-digit (suc zero) (suc zero) h k = refl
xor-digit (suc (suc u)) v h k = absurd (omega arith)
xor-digit zero (suc (suc v)) h k = absurd (omega arith)
xor-digit (suc zero) (suc (suc v)) h k = absurd (omega arith)

-- position 0 has weight 1
zero_held : holds (only (position 0)) (position 0) ≡ true
unfolding holds only
zero_held = refl

pub holds-common : (a b : PositionSet) (p : Position) → holds (common a b) p ≡ (holds a p && holds b p)
unfolding holds common
holds-common a b p =
    rw (and_shr a b p.0, and_mod (a / 2 ^ p.0) (b / 2 ^ p.0) 1) (and-digit (a / 2 ^ p.0 % 2) (b / 2 ^ p.0 % 2) (omega arith) (omega arith))

pub holds-without : (a b : PositionSet) (p : Position) → holds (without a b) p ≡ (holds a p && not (holds b p))
unfolding holds without
holds-without a b p =
    rw (xor_shr a (bit_and a b) p.0, and_shr a b p.0, xor_mod (a / 2 ^ p.0) (bit_and (a / 2 ^ p.0) (b / 2 ^ p.0)) 1, and_mod (a / 2 ^ p.0) (b / 2 ^ p.0) 1)
    (xor-digit (a / 2 ^ p.0 % 2) (b / 2 ^ p.0 % 2) (omega arith) (omega arith))

holds-suc : (a : PositionSet) (p : ℕ) → holds a (position (suc p)) ≡ holds (a / 2) (position p)
unfolding holds
holds-suc a p = ap (λ (n : ℕ). eqb (n % 2) 1) (ap (λ (e : ℕ). a / 2 ^ e) (omega arith) ∙ sym (shr-shr a 1 p))

holds-zero : (p : ℕ) → holds 0 (position p) ≡ false
unfolding holds
holds-zero zero = refl
holds-zero (suc p) = holds-suc 0 p ∙ holds-zero p

only-holds : (p q : ℕ) → holds (only (position p)) (position q) ≡ eqb p q
unfolding holds only
only-holds zero zero = zero_held
only-holds zero (suc q) = holds-suc 1 q ∙ holds-zero q ∙ sym (eqb-zero-suc q)
only-holds (suc p) zero = let e : 2 ^ suc p / 1 % 2 ≡ 0 = omega arith in ap (λ (n : ℕ). eqb n 1) e ∙ sym (eqb-suc-zero p)
only-holds (suc p) (suc q) =
    let e : 2 ^ suc p / 2 ≡ 2 ^ p = omega arith in
    holds-suc (2 ^ suc p) q ∙ ap (λ (n : ℕ). holds n (position q)) e ∙ only-holds p q ∙ sym (eqb-suc-suc p q)

every_holds : (n p : ℕ) → holds (every n) (position p) ≡ ltb p n
unfolding holds every
every_holds zero p = holds-zero p ∙ sym (leb-suc-zero p)
every_holds (suc n) zero =
    let e : (2 ^ suc n - 1) / 1 % 2 ≡ 1 = omega (arith, pow_pos n) in
    ap (λ (k : ℕ). eqb k 1) e ∙ sym (leb-suc-suc 0 n ∙ leb-zero n)
every_holds (suc n) (suc p) =
    let e : (2 ^ suc n - 1) / 2 ≡ 2 ^ n - 1 = omega (arith, pow_pos n) in
    holds-suc (2 ^ suc n - 1) p ∙ ap (λ (k : ℕ). holds k (position p)) e ∙ every_holds n p ∙ sym (leb-suc-suc (suc p) n)

pub holds-only : (p q : Position) → holds (only p) q ≡ eqb p.0 q.0
holds-only p q = only-holds p.0 q.0

pub holds-every : (n : ℕ) (p : Position) → holds (every n) p ≡ ltb p.0 n
holds-every n p = every_holds n p.0

-- a set is empty where it holds nothing
pub some-held : (a : PositionSet) → is_empty a ≡ false → (p : Position) × (holds a p ≡ true)
unfolding holds is_empty
some-held =
    bin_ind (λ (a : ℕ). is_empty a ≡ false → (p : Position) × (holds a p ≡ true))
    (λ h. let z : ◌≡◌ {A = ℕ} 0 1 = cc in absurd (omega arith))
    (λ a ih h. ⊎_elim (λ (e : holds a (position 0) ≡ true). (position 0, e))
    (λ (e : holds a (position 0) ≡ false).
    let r = ih (ne_eqb (a / 2) 0 (λ z. eqb-false a 0 h (omega (arith, eqb-false (a / 1 % 2) 1 e)))) in
    (position (suc r.0.0), holds-suc a r.0.0 ∙ r.1))
    (true-or-false (holds a (position 0))))

pub held-some : (a : PositionSet) (p : Position) → holds a p ≡ true → is_empty a ≡ false
unfolding is_empty
held-some a p h =
    ne_eqb a 0 (λ (z : a ≡ 0). let e : holds 0 p ≡ true = rw z at h in let f = holds-zero p.0 in let n : ◌≡◌ {A = ℕ} 0 1 = cc in omega arith)

-- ---- parts of sets

-- every position of a lies in b
abbrev pub PartOf : PositionSet → PositionSet → Type 0
PartOf a b = (p : Position) → holds a p ≡ true → holds b p ≡ true

pub part_of : (a b : PositionSet) → is_empty (without a b) ≡ true → PartOf a b
part_of a b e p h =
    ⊎_elim (λ (t : holds b p ≡ true). t)
    (λ (f : holds b p ≡ false). let k = held-some (without a b) p (holds-without a b p ∙ rw (h, f)) in cc)
    (true-or-false (holds b p))

pub is-part : (a b : PositionSet) → PartOf a b → is_empty (without a b) ≡ true
is-part a b f =
    ⊎_elim (λ (t : is_empty (without a b) ≡ true). t)
    (λ (n : is_empty (without a b) ≡ false).
    let r = some-held (without a b) n in
    let q : (holds a r.0 && not (holds b r.0)) ≡ true = sym (holds-without a b r.0) ∙ r.1 in
    let k = f r.0 (and_left (holds a r.0) _ q) in
    let l = not-true (holds b r.0) (and_right (holds a r.0) _ q) in
    cc)
    (true-or-false (is_empty (without a b)))

-- the position that two sets which meet have in common
pub in-common : (a b : PositionSet) → is_empty (common a b) ≡ false → (p : Position) × (holds a p ≡ true) × (holds b p ≡ true)
in-common a b h =
    let r = some-held (common a b) h in
    let q : (holds a r.0 && holds b r.0) ≡ true = sym (holds-common a b r.0) ∙ r.1 in
    (r.0, and_left _ (holds b r.0) q, and_right (holds a r.0) _ q)

pub common-held : (a b : PositionSet) (p : Position) → holds a p ≡ true → holds b p ≡ true → is_empty (common a b) ≡ false
common-held a b p h k = held-some (common a b) p (holds-common a b p ∙ and_both h k)
