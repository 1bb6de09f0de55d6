-- Differences of numbers, and sums of them.
use Prim.Native.Nat.{ℕ, zero, suc, ◌+◌, ◌-◌, ◌≤◌, ◌<◌, zero-le}
use native.Mathlib.Omega.{arith}
use native.Mathlib.Decide.{dec_lt}
use mathlib.Core.Path.{◌≡◌, refl, sym, ap, ap₂, ◌∙◌, subst, subst⁻¹}
use lib.Dec.{le→leb}
use lib.IntN.{ℤ, pos, negsuc, neg_ℤ, nat_abs, ◌+ℤ◌, ◌-ℤ◌, +ℤ_assoc, +ℤ_comm, +ℤ_idl, +ℤ_invl, +ℤ_invr, neg_ℤ-neg_ℤ, neg_ℤ-+ℤ}
use lib.Signed.{◌≤ℤ◌, le_z_yes, yes_non_neg, pos-nat_abs}
use borrow.Author.Tests.{lt-ltb, le-ltb}
use Rattle.replay.specs.Sums.{sum_from}

-- ---- a difference of two numbers is a number, or one below zero

pub less : (a b : ℕ) → b ≤ a → pos a -ℤ pos b ≡ pos (a - b)
less a zero h = let e : a + 0 ≡ a - 0 = omega arith in ap pos e
less a (suc b) h = rw (le-ltb a (suc b) h)

pub below : (a b : ℕ) → a < b → pos a -ℤ pos b ≡ negsuc (b - suc a)
below a zero h = absurd (omega arith)
below a (suc b) h = rw (lt-ltb a (suc b) h)

-- one after the other
pub between : (a b c : ℤ) → (a -ℤ b) +ℤ (b -ℤ c) ≡ a -ℤ c
between a b c =
    +ℤ_assoc a (neg_ℤ b) (b -ℤ c)
    ∙ ap (λ (x : ℤ). a +ℤ x) (sym (+ℤ_assoc (neg_ℤ b) b (neg_ℤ c)) ∙ ap (λ (x : ℤ). x +ℤ neg_ℤ c) (+ℤ_invl b) ∙ +ℤ_idl (neg_ℤ c))

-- a number less a difference
pub less-less : (c a b : ℤ) → c -ℤ (a -ℤ b) ≡ (c +ℤ b) -ℤ a
less-less c a b =
    ap (λ (x : ℤ). c +ℤ x) (neg_ℤ-+ℤ a (neg_ℤ b) ∙ ap (λ (x : ℤ). neg_ℤ a +ℤ x) (neg_ℤ-neg_ℤ b) ∙ +ℤ_comm (neg_ℤ a) b)
    ∙ sym (+ℤ_assoc c b (neg_ℤ a))

-- where it is not below zero
pub left_over : (c a b : ℕ) → a ≤ c + b → pos c -ℤ (pos a -ℤ pos b) ≡ pos (c + b - a)
left_over c a b h = less-less (pos c) (pos a) (pos b) ∙ less (c + b) a h

pub not-below : (n : ℕ) → pos 0 ≤ℤ pos n
not-below n = le_z_yes (le→leb 0 n zero-le)

pub left-not-below : (c a b : ℕ) → a ≤ c + b → pos 0 ≤ℤ (pos c -ℤ (pos a -ℤ pos b))
left-not-below c a b h = subst⁻¹ (λ (z : ℤ). pos 0 ≤ℤ z) (left_over c a b h) (not-below (c + b - a))

-- ---- how large a difference of numbers up to m is

-- a number below zero is at most every number, and at least another where it is no further from zero
low-pos : (m n : ℕ) → neg_ℤ (pos m) ≤ℤ pos n
low-pos zero n = not-below n
low-pos (suc m) n = le_z_yes tt

low-neg : (m n : ℕ) → suc n ≤ m → neg_ℤ (pos m) ≤ℤ negsuc n
low-neg zero n h = absurd (omega arith)
low-neg (suc m) n h = le_z_yes (le→leb n m (omega arith))

module _ (a b m : ℕ) where
  pub lowest : b ≤ m → neg_ℤ (pos m) ≤ℤ (pos a -ℤ pos b)
  lowest h = split (dec_lt a b)
    where
      split : Dec (a < b) → neg_ℤ (pos m) ≤ℤ (pos a -ℤ pos b)
      split (yes p) = subst⁻¹ (λ (z : ℤ). neg_ℤ (pos m) ≤ℤ z) (below a b p) (low-neg m (b - suc a) (omega arith))
      split (no p) = subst⁻¹ (λ (z : ℤ). neg_ℤ (pos m) ≤ℤ z) (less a b (omega arith)) (low-pos m (a - b))

  pub highest : a ≤ m → (pos a -ℤ pos b) ≤ℤ pos m
  highest h = split (dec_lt a b)
    where
      split : Dec (a < b) → (pos a -ℤ pos b) ≤ℤ pos m
      split (yes p) = subst⁻¹ (λ (z : ℤ). z ≤ℤ pos m) (below a b p) (le_z_yes tt)
      split (no p) = subst⁻¹ (λ (z : ℤ). z ≤ℤ pos m) (less a b (omega arith)) (le_z_yes (le→leb (a - b) m (omega arith)))

  pub size-most : a ≤ m → b ≤ m → nat_abs (pos a -ℤ pos b) ≤ m
  size-most h k = split (dec_lt a b)
    where
      split : Dec (a < b) → nat_abs (pos a -ℤ pos b) ≤ m
      split (yes p) = subst⁻¹ (λ (z : ℤ). nat_abs z ≤ m) (below a b p) (omega arith)
      split (no p) = subst⁻¹ (λ (z : ℤ). nat_abs z ≤ m) (less a b (omega arith)) (omega arith)

-- ---- sums

-- two differences added up
two : (a b c d : ℤ) → (a -ℤ b) +ℤ (c -ℤ d) ≡ (a +ℤ c) -ℤ (b +ℤ d)
two a b c d =
    +ℤ_assoc a (neg_ℤ b) (c +ℤ neg_ℤ d)
    ∙ ap (λ (x : ℤ). a +ℤ x) (sym (+ℤ_assoc (neg_ℤ b) c (neg_ℤ d)) ∙ ap (λ (x : ℤ). x +ℤ neg_ℤ d) (+ℤ_comm (neg_ℤ b) c) ∙ +ℤ_assoc c (neg_ℤ b) (neg_ℤ d))
    ∙ sym (+ℤ_assoc a c (neg_ℤ b +ℤ neg_ℤ d))
    ∙ ap (λ (x : ℤ). (a +ℤ c) +ℤ x) (sym (neg_ℤ-+ℤ b d))

pub sum_less : (f g : ℕ → ℤ) (n i : ℕ) → sum_from (λ k. f k -ℤ g k) i n ≡ sum_from f i n -ℤ sum_from g i n
unfolding sum_from
sum_less f g zero i = refl
sum_less f g (suc n) i = ap (λ (x : ℤ). (f i -ℤ g i) +ℤ x) (sum_less f g n (suc i)) ∙ two (f i) (g i) (sum_from f (suc i) n) (sum_from g (suc i) n)

pub sum-ext : (f g : ℕ → ℤ) (n i : ℕ) → ((k : ℕ) → i ≤ k → k < i + n → f k ≡ g k) → sum_from f i n ≡ sum_from g i n
unfolding sum_from
sum-ext f g zero i h = refl
sum-ext f g (suc n) i h = rw (h i (omega arith) (omega arith), sum-ext f g n (suc i) (λ k a b. h k (omega arith) (omega arith)))

-- each step of a stretch from a number to the next: the first number less the last
pub sum-steps : (f : ℕ → ℤ) (e : ℕ → ℤ) (n i j : ℕ) → i + n ≡ j → ((k : ℕ) → i ≤ k → k < j → f k ≡ e k -ℤ e (suc k)) → sum_from f i n ≡ e i -ℤ e j
unfolding sum_from
sum-steps f e zero i j q h = let p : i ≡ j = omega arith in sym (+ℤ_invr (e i)) ∙ ap (λ (k : ℕ). e i -ℤ e k) p
sum-steps f e (suc n) i j q h =
    ap (λ (x : ℤ). x +ℤ sum_from f (suc i) n) (h i (omega arith) (omega arith))
    ∙ ap (λ (x : ℤ). (e i -ℤ e (suc i)) +ℤ x) (sum-steps f e n (suc i) j (omega arith) (λ k a b. h k (omega arith) b))
    ∙ between (e i) (e (suc i)) (e j)

-- none below zero: the sum is not, and where it is zero each of them is
module _ (f : ℕ → ℤ) where
  abbrev NoneBelow : ℕ → ℕ → Type 0
  NoneBelow i n = (k : ℕ) → i ≤ k → k < i + n → pos 0 ≤ℤ f k

  number_is : (z : ℤ) → pos 0 ≤ℤ z → pos (nat_abs z) ≡ z
  number_is z h = pos-nat_abs z (yes_non_neg h)

  pub sum-not-below : (n i : ℕ) → NoneBelow i n → pos 0 ≤ℤ sum_from f i n
  unfolding sum_from
  sum-not-below zero i h = not-below 0
  sum-not-below (suc n) i h =
      let a = number_is (f i) (h i (omega arith) (omega arith)) in
      let b = number_is (sum_from f (suc i) n) (sum-not-below n (suc i) (λ k p q. h k (omega arith) (omega arith))) in
      subst (λ (z : ℤ). pos 0 ≤ℤ z) (ap₂ (λ (x y : ℤ). x +ℤ y) a b) (not-below (nat_abs (f i) + nat_abs (sum_from f (suc i) n)))

  pub sum-zero : (n i : ℕ) → NoneBelow i n → sum_from f i n ≡ pos 0 → (k : ℕ) → i ≤ k → k < i + n → f k ≡ pos 0
  unfolding sum_from
  sum-zero zero i h e k p q = absurd (omega arith)
  sum-zero (suc n) i h e k p q = split (λ z l. sum-zero n (suc i) (λ k a b. h k (omega arith) (omega arith)) z k l (omega arith)) (dec_lt i k)
    where
      a : pos (nat_abs (f i)) ≡ f i
      a = number_is (f i) (h i (omega arith) (omega arith))

      b : pos (nat_abs (sum_from f (suc i) n)) ≡ sum_from f (suc i) n
      b = number_is (sum_from f (suc i) n) (sum-not-below n (suc i) (λ k p q. h k (omega arith) (omega arith)))

      none : nat_abs (f i) + nat_abs (sum_from f (suc i) n) ≡ 0
      none = ap nat_abs (ap₂ (λ (x y : ℤ). x +ℤ y) a b ∙ e)

      split : (sum_from f (suc i) n ≡ pos 0 → i < k → f k ≡ pos 0) → Dec (i < k) → f k ≡ pos 0
      split ih (yes l) = let z : nat_abs (sum_from f (suc i) n) ≡ 0 = omega (arith, none) in ih (sym b ∙ ap pos z) l
      split ih (no l) =
          let j : k ≡ i = omega arith in
          let z : nat_abs (f i) ≡ 0 = omega (arith, none) in
          ap f j ∙ sym a ∙ ap pos z
