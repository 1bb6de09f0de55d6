-- Laws of loops over the numbers below n.
use mathlib.Core.Path.{◌≡◌, refl, sym, ap, ◌∙◌}
use mathlib.Core.Logic.{◌⊎◌, inl, inr, ⊎_elim}
use mathlib.Core.Bool.{Bool, true, false, ◌&&◌}
use mathlib.Core.List.{List, [], ◌∷◌, ◌++◌, map, append_assoc}
use mathlib.Core.Option.{Option, none, some}
use Prim.Native.Nat.{ℕ, zero, suc, ◌+◌, ◌≤◌, ◌<◌}
use native.Mathlib.Nat.{eq-or-lt_of_le, le_of_suc-le-suc, not-suc-le-zero}
use native.Mathlib.Omega.{arith}
use native.Mathlib.Numerals.{add-one}
use lib.ListN.{length, get_or, set, drop, length-append, length-drop, length-map, get_or-append}
use lib.Seq.{get_or_at}
use Rattle.task.specs.Loops.{all, first, or_else, when, tab, over}

pub and_left : (a b : Bool) → (a && b) ≡ true → a ≡ true
and_left true b h = refl
and_left false b h = h

pub and_right : (a b : Bool) → (a && b) ≡ true → b ≡ true
and_right true b h = h
and_right false b h = cc

pub and_both : {a b : Bool} → a ≡ true → b ≡ true → (a && b) ≡ true
and_both {a} {b} p q = rw (p, q)

pub and-five : (a b c d e : Bool) → (a && b && c && d && e) ≡ true → (a ≡ true) × (b ≡ true) × (c ≡ true) × (d ≡ true) × (e ≡ true)
and-five a b c d e h =
    let h₄ = and_left (a && b && c && d) e h in
    let h₃ = and_left (a && b && c) d h₄ in
    let h₂ = and_left (a && b) c h₃ in
    (and_left a b h₂, and_right a b h₂, and_right (a && b) c h₃, and_right (a && b && c) d h₄, and_right (a && b && c && d) e h)

pub true-or-false : (b : Bool) → (b ≡ true) ⊎ (b ≡ false)
true-or-false true = inl refl
true-or-false false = inr refl

pub below_suc : {j n : ℕ} → j < suc n → (j ≡ n) ⊎ (j < n)
below_suc h = eq-or-lt_of_le (le_of_suc-le-suc h)

pub all-at : (n : ℕ) (p : ℕ → Bool) → all n p ≡ true → (j : ℕ) → j < n → p j ≡ true
unfolding all
all-at zero p t j h = absurd (not-suc-le-zero h)
all-at (suc n) p t j h =
    ⊎_elim (λ (e : j ≡ n). rw e (and_right (all n p) (p n) t)) (λ (k : j < n). all-at n p (and_left (all n p) (p n) t) j k) (below_suc h)

pub all-intro : (n : ℕ) (p : ℕ → Bool) → ((j : ℕ) → j < n → p j ≡ true) → all n p ≡ true
unfolding all
all-intro zero p f = refl
all-intro (suc n) p f = and_both (all-intro n p (λ j h. f j (omega arith))) (f n (omega arith))

pub all-fails : (n : ℕ) (p : ℕ → Bool) (j : ℕ) → j < n → p j ≡ false → all n p ≡ false
all-fails n p j h f = ⊎_elim (λ (t : all n p ≡ true). let k = all-at n p t j h in cc) (λ (e : all n p ≡ false). e) (true-or-false (all n p))

pub all-suc : (n : ℕ) (p : ℕ → Bool) → all n p ≡ true → p n ≡ true → all (suc n) p ≡ true
unfolding all
all-suc n p h k = and_both h k

-- where a test over all fails, it fails somewhere
pub all-false : (n : ℕ) (p : ℕ → Bool) → all n p ≡ false → (j : ℕ) × (j < n) × (p j ≡ false)
unfolding all
all-false zero p h = let z : ◌≡◌ {A = ℕ} 0 1 = cc in absurd (omega arith)
all-false (suc n) p h =
    ⊎_elim (λ (t : all n p ≡ true). (n, omega arith, rw t at h)) (λ (f : all n p ≡ false). let r = all-false n p f in (r.0, omega (arith, r.1), r.2)) (true-or-false (all n p))

pub tab-length : {A : Type 0} (n : ℕ) (f : ℕ → A) → length (tab n f) ≡ n
unfolding tab
tab-length zero f = refl
tab-length (suc n) f = length-append (tab n f) (f n ∷ []) ∙ rw (tab-length n f, add-one)

pub tab-at : {A : Type 0} (n : ℕ) (f : ℕ → A) (d : A) (j : ℕ) → j < n → get_or (tab n f) j d ≡ f j
unfolding tab
tab-at zero f d j h = absurd (not-suc-le-zero h)
tab-at (suc n) f d j h =
    ⊎_elim (λ (e : j ≡ n). rw e (get_or_at (tab n f) (f n) [] d n (tab-length n f)))
    (λ (k : j < n). get_or-append (tab n f) (f n ∷ []) d j (rw tab-length k) ∙ tab-at n f d j k) (below_suc h)

-- what `first` finds: it stands at some place, and nothing stands before it
pub record Found {A : Type 0} (n : ℕ) (f : ℕ → Option A) (a : A) : Type 0 where
  pub place : ℕ
  pub below : place < n
  pub here : f place ≡ some a
  pub before : (i : ℕ) → i < place → f i ≡ none

pub or-none : {A : Type 0} (a b : Option A) → or_else a b ≡ none → (a ≡ none) × (b ≡ none)
or-none none b h = (refl, h)
or-none (some x) b h = let z : ◌≡◌ {A = ℕ} 0 1 = cc in absurd (omega arith)

or_some : {A : Type 0} (a b : Option A) {x : A} → or_else a b ≡ some x → (a ≡ some x) ⊎ ((a ≡ none) × (b ≡ some x))
or_some none b h = inr (refl, h)
or_some (some y) b h = inl h

pub first-none : {A : Type 0} (n : ℕ) (f : ℕ → Option A) → first n f ≡ none → (j : ℕ) → j < n → f j ≡ none
unfolding first
first-none zero f e j h = absurd (not-suc-le-zero h)
first-none (suc n) f e j h =
    ⊎_elim (λ (q : j ≡ n). rw q (or-none (first n f) (f n) e).1) (λ (k : j < n). first-none n f (or-none (first n f) (f n) e).0 j k) (below_suc h)

pub first_some : {A : Type 0} (n : ℕ) (f : ℕ → Option A) {a : A} → first n f ≡ some a → Found n f a
unfolding first
first_some zero f e = let z : ◌≡◌ {A = ℕ} 0 1 = cc in absurd (omega arith)
first_some (suc n) f e =
    ⊎_elim
    (λ p. let r = first_some n f p in record { place = r.place; below = omega arith; here = r.here; before = r.before })
    (λ p. record { place = n; below = omega arith; here = p.1; before = first-none n f p.0 })
    (or_some (first n f) (f n) e)

pub first_found : {A : Type 0} (n : ℕ) (f : ℕ → Option A) (j : ℕ) {a : A} → j < n → f j ≡ some a → (b : A) × (first n f ≡ some b)
first_found n f j {a} h e = go (first n f) refl
  where
    go : (o : Option _) → first n f ≡ o → (b : _) × (first n f ≡ some b)
    go (some b) q = (b, q)
    go none q = let p = first-none n f q j h in let z : ◌≡◌ {A = ℕ} 0 1 = cc in absurd (omega arith)

-- ---- what is found first, turn by turn
module _ {A : Type 0} (f : ℕ → Option A) where
  pub first-nothing : first 0 f ≡ none
  unfolding first
  first-nothing = refl

  pub first_more : (n : ℕ) → first n f ≡ none → f n ≡ none → first (n + 1) f ≡ none
  unfolding first
  first_more n h k = rw (add-one, h, k)

  pub first-here : (n i : ℕ) {x : A} → i < n → first i f ≡ none → f i ≡ some x → first n f ≡ some x
  unfolding first
  first-here zero i l h k = absurd (not-suc-le-zero l)
  first-here (suc n) i l h k =
      ⊎_elim (λ (e : i ≡ n). rw (← e, h, k)) (λ (b : i < n). rw (first-here n i b h k)) (below_suc l)

pub first-ext : {A : Type 0} (n : ℕ) (f g : ℕ → Option A) → ((i : ℕ) → i < n → f i ≡ g i) → first n f ≡ first n g
unfolding first
first-ext zero f g e = refl
first-ext (suc n) f g e = rw (first-ext n f g (λ i h. e i (omega arith)), e n (omega arith))

pub first-empty : {A : Type 0} (n : ℕ) (f : ℕ → Option A) → ((i : ℕ) → i < n → f i ≡ none) → first n f ≡ none
unfolding first
first-empty zero f e = refl
first-empty (suc n) f e = rw (first-empty n f (λ i h. e i (omega arith)), e n (omega arith))

pub when-some : {A : Type 0} (b : Bool) (x : A) {y : A} → when b x ≡ some y → (b ≡ true) × (x ≡ y)
when-some true x h = (refl, cc)
when-some false x h = let z : ◌≡◌ {A = ℕ} 0 1 = cc in absurd (omega arith)

pub when-none : {A : Type 0} (b : Bool) (x : A) → when b x ≡ none → b ≡ false
when-none true x h = let z : ◌≡◌ {A = ℕ} 0 1 = cc in absurd (omega arith)
when-none false x h = refl

-- one turn more, as code counts it
pub all_more : (n : ℕ) (p : ℕ → Bool) → all n p ≡ true → p n ≡ true → all (n + 1) p ≡ true
all_more n p h k = rw add-one (all-suc n p h k)

pub all-ext : (n : ℕ) (p q : ℕ → Bool) → ((j : ℕ) → j < n → p j ≡ q j) → all n p ≡ all n q
unfolding all
all-ext zero p q e = refl
all-ext (suc n) p q e = rw (all-ext n p q (λ j h. e j (omega arith)), e n (omega arith))

pub tab-ext : {A : Type 0} (n : ℕ) (f g : ℕ → A) → ((j : ℕ) → j < n → f j ≡ g j) → tab n f ≡ tab n g
unfolding tab
tab-ext zero f g e = refl
tab-ext (suc n) f g e = rw (tab-ext n f g (λ j h. e j (omega arith)), e n (omega arith))

-- ---- a list written over, place by place
set_after : {A : Type 0} (a l : List A) (v : A) → set (a ++ l) (length a) v ≡ a ++ set l 0 v
set_after [] l v = refl
set_after (x ∷ a) l v = ap (λ (k : List _). x ∷ k) (set_after a l v)

set_first : {A : Type 0} (l : List A) (i : ℕ) (v : A) → i < length l → set (drop i l) 0 v ≡ v ∷ drop (suc i) l
set_first [] i v h = absurd (not-suc-le-zero h)
set_first (x ∷ l) zero v h = refl
set_first (x ∷ l) (suc i) v h = set_first l i v (le_of_suc-le-suc h)

pub over_none : {A : Type 0} (f : ℕ → A) (l : List A) → over (tab 0 f) l ≡ l
unfolding over tab
over_none f l = refl

pub over-more : {A : Type 0} (n : ℕ) (f : ℕ → A) (l : List A) → n < length l → over (tab (n + 1) f) l ≡ set (over (tab n f) l) n (f n)
unfolding over tab
over-more n f l h =
    let k : length (tab n f ++ (f n ∷ [])) ≡ suc n = length-append (tab n f) (f n ∷ []) ∙ rw (tab-length n f, add-one) in
    let e : set (tab n f ++ drop n l) (length (tab n f)) (f n) ≡ tab n f ++ (f n ∷ drop (suc n) l) = rw (set_after, set_first l n (f n) h) in
    rw (add-one, k, append_assoc, tab-length n f) (sym (rw (tab-length n f) at e))

pub over-length : {A : Type 0} (n : ℕ) (f : ℕ → A) (l : List A) → n ≤ length l → length (over (tab n f) l) ≡ length l
unfolding over
over-length n f l h = rw (length-append, tab-length n f, length-drop) (omega arith)

-- one place more
pub over-set : {A : Type 0} (f : ℕ → A) (i : ℕ) (v : A) (l l₀ : List A) → l ≡ over (tab i f) l₀ → i < length l₀ → v ≡ f i → set l i v ≡ over (tab (i + 1) f) l₀
over-set f i v l l₀ e h k = rw (e, k) (sym (over-more i f l₀ h))

-- and all of them, where the loop stands at their number
pub over-end : {A : Type 0} (f : ℕ → A) (l : List A) {t : List A} (i n : ℕ) → i ≤ n → n ≤ i → t ≡ over (tab i f) l → t ≡ over (tab n f) l
over-end f l i n h g e = let q : i ≡ n = omega arith in e ∙ ap (λ (k : ℕ). over (tab k f) l) q

-- what was written stands at its place
pub over-at : {A : Type 0} (n : ℕ) (f : ℕ → A) (l : List A) (d : A) (i : ℕ) → i < n → get_or (over (tab n f) l) i d ≡ f i
unfolding over
over-at n f l d i h = get_or-append (tab n f) _ d i (omega (arith, tab-length n f)) ∙ tab-at n f d i h

-- the length of an array of structs, from what owning it tells
pub length-mapped : (X Y : Type 0) (f : X → Y) (l : List X) (n : ℕ) → length (map f l) ≡ n → length l ≡ n
length-mapped X Y f l n p = sym (length-map l f) ∙ p
