-- Laws of the first refusal.
use Prim.Native.Nat.{ℕ, zero, suc, ◌+◌, ◌*◌, ◌≤◌, ◌<◌}
use native.Mathlib.Numerals.{add-one}
use native.Mathlib.Omega.{arith}
use native.Mathlib.Decide.{dec_lt}
use mathlib.Core.Path.{◌≡◌, refl, sym, ap, ap₂, ◌∙◌}
use mathlib.Core.Bool.{Bool, true, false, not, ◌||◌, cond}
use mathlib.Core.List.{List, [], ◌∷◌, ◌++◌}
use borrow.Author.Tests.{ltb-false, le-leb, lt-leb, lt-ltb, le-ltb, ne_eqb}
use lib.Dec.{eqb, ltb}
use lib.ListN.{length}
use Rattle.fields.specs.Judging.{Field, Entry, Check, on_sheet, in_table, entry, check, outside, ◌then◌, checks_of, refusal, judged, each}

-- ---- the first refusal of two
pub stop : (a b : ℕ) → (a ≡ 0 → ⊥) → a then b ≡ a
unfolding ◌then◌
stop zero b h = absurd (h refl)
stop (suc a) b h = refl

pub go : (a b : ℕ) → a ≡ 0 → a then b ≡ b
unfolding ◌then◌
go zero b h = refl
go (suc a) b h = absurd (omega arith)

pub neither : (a b : ℕ) → a then b ≡ 0 → (a ≡ 0) × (b ≡ 0)
unfolding ◌then◌
neither zero b h = (refl, h)
neither (suc a) b h = absurd (omega arith)

assoc : (a b c : ℕ) → a then (b then c) ≡ (a then b) then c
unfolding ◌then◌
assoc zero b c = refl
assoc (suc a) b c = refl

-- ---- one list of checks after the other
pub refusal-append : (a b : List Check) → refusal (a ++ b) ≡ refusal a then refusal b
unfolding refusal ◌then◌
refusal-append [] b = refl
refusal-append (c ∷ a) b = ap (λ (x : ℕ). cond c.applies c.number 0 then x) (refusal-append a b) ∙ assoc (cond c.applies c.number 0) (refusal a) (refusal b)

pub checks-append : (a b : List Entry) → checks_of (a ++ b) ≡ checks_of a ++ checks_of b
unfolding checks_of
checks-append [] b = refl
checks-append (e ∷ a) b = ap (λ (x : List Check). check 1 (not e.field.here) ∷ check e.number e.bad ∷ x) (checks-append a b)

pub judged-append : (a b : List Entry) → judged (a ++ b) ≡ judged a then judged b
unfolding judged
judged-append a b = ap refusal (checks-append a b) ∙ refusal-append (checks_of a) (checks_of b)

-- the answer r of a judge that stands first, and the answer x after one that refused nothing
pub stopped : {r : ℕ} (a b : List Entry) → r ≡ judged a → (r ≡ 0 → ⊥) → r ≡ judged (a ++ b)
stopped a b e h = e ∙ sym (judged-append a b ∙ stop (judged a) (judged b) (λ z. h (e ∙ z)))

pub went : {r x : ℕ} (a b : List Entry) → r ≡ judged a → r ≡ 0 → x ≡ judged b → x ≡ judged (a ++ b)
went a b e z h = h ∙ sym (judged-append a b ∙ go (judged a) (judged b) (sym e ∙ z))

pub both : (a b : List Entry) → judged (a ++ b) ≡ 0 → (judged a ≡ 0) × (judged b ≡ 0)
both a b h = neither (judged a) (judged b) (sym (judged-append a b) ∙ h)

-- the same, before checks that are not of a field
pub last-stopped : {r : ℕ} (a : List Entry) (b : List Check) → r ≡ judged a → (r ≡ 0 → ⊥) → r ≡ refusal (checks_of a ++ b)
unfolding judged
last-stopped a b e h = e ∙ sym (refusal-append (checks_of a) b ∙ stop (refusal (checks_of a)) (refusal b) (λ z. h (e ∙ z)))

pub last-went : {r x : ℕ} (a : List Entry) (b : List Check) → r ≡ judged a → r ≡ 0 → x ≡ refusal b → x ≡ refusal (checks_of a ++ b)
unfolding judged
last-went a b e z h = h ∙ sym (refusal-append (checks_of a) b ∙ go (refusal (checks_of a)) (refusal b) (sym e ∙ z))

pub last-both : (a : List Entry) (b : List Check) → refusal (checks_of a ++ b) ≡ 0 → (judged a ≡ 0) × (refusal b ≡ 0)
unfolding judged
last-both a b h = neither (refusal (checks_of a)) (refusal b) (sym (refusal-append (checks_of a) b) ∙ h)

-- ---- single checks
pub applies : (n : ℕ) (b : Bool) (cs : List Check) → b ≡ true → (n ≡ 0 → ⊥) → n ≡ refusal (check n b ∷ cs)
unfolding refusal
applies n b cs h z = rw h (sym (stop n (refusal cs) z))

pub passes : {x : ℕ} (n : ℕ) (b : Bool) (cs : List Check) → b ≡ false → x ≡ refusal cs → x ≡ refusal (check n b ∷ cs)
unfolding refusal
passes n b cs h e = rw h (e ∙ sym (go 0 (refusal cs) refl))

pub no-checks : ◌≡◌ {A = ℕ} 0 (refusal [])
unfolding refusal
no-checks = refl

picked : (n : ℕ) (b : Bool) → (n ≡ 0 → ⊥) → cond b n 0 ≡ 0 → b ≡ false
picked n true z h = absurd (z h)
picked n false z h = refl

pub passed : (n : ℕ) (b : Bool) (cs : List Check) → (n ≡ 0 → ⊥) → refusal (check n b ∷ cs) ≡ 0 → (b ≡ false) × (refusal cs ≡ 0)
unfolding refusal
passed n b cs z h = let r = neither (cond b n 0) (refusal cs) h in (picked n b z r.0, r.1)

-- ---- a loop that judges f 0, f 1, .. and holds that none before i refused: it goes on, stops at the refusal r, or ends
pub each_more : {A : Type 0} (n : ℕ) (f : ℕ → List A) → each (n + 1) f ≡ each n f ++ f n
unfolding each
each_more n f = rw add-one refl

pub none : (f : ℕ → List Entry) → judged (each 0 f) ≡ 0
unfolding each judged checks_of refusal
none f = refl

pub pass : {r : ℕ} (i : ℕ) (f : ℕ → List Entry) → judged (each i f) ≡ 0 → r ≡ judged (f i) → r ≡ 0 → judged (each (i + 1) f) ≡ 0
pass i f h e z = ap judged (each_more i f) ∙ judged-append (each i f) (f i) ∙ go (judged (each i f)) (judged (f i)) h ∙ sym e ∙ z

first-stop : (i n : ℕ) (f : ℕ → List Entry) → i < n → judged (each i f) ≡ 0 → (judged (f i) ≡ 0 → ⊥) → judged (each n f) ≡ judged (f i)
unfolding each
first-stop i zero f l h e = absurd (omega arith)
first-stop i (suc n) f l h e = judged-append (each n f) (f n) ∙ split (λ p. first-stop i n f p h e) (dec_lt i n)
  where
    split : (i < n → judged (each n f) ≡ judged (f i)) → Dec (i < n) → judged (each n f) then judged (f n) ≡ judged (f i)
    split ih (yes p) = stop (judged (each n f)) (judged (f n)) (λ z. e (sym (ih p) ∙ z)) ∙ ih p
    split ih (no p) =
        let q : n ≡ i = omega arith in
        ap (λ (k : ℕ). judged (each k f) then judged (f k)) q ∙ go (judged (each i f)) (judged (f i)) h

pub hit : {r : ℕ} (i n : ℕ) (f : ℕ → List Entry) → i < n → judged (each i f) ≡ 0 → r ≡ judged (f i) → (r ≡ 0 → ⊥) → r ≡ judged (each n f)
hit i n f l h e z = e ∙ sym (first-stop i n f l h (λ q. z (e ∙ q)))

pub end : (i n : ℕ) (f : ℕ → List Entry) → i ≤ n → n ≤ i → judged (each i f) ≡ 0 → 0 ≡ judged (each n f)
end i n f l g h = let q : i ≡ n = omega arith in sym h ∙ ap (λ (k : ℕ). judged (each k f)) q

-- no refusal among n: none at each
pub judged-at : (n : ℕ) (f : ℕ → List Entry) → judged (each n f) ≡ 0 → (i : ℕ) → i < n → judged (f i) ≡ 0
unfolding each
judged-at zero f h i l = absurd (omega arith)
judged-at (suc n) f h i l = split (judged-at n f (both (each n f) (f n) h).0 i) (dec_lt i n)
  where
    split : (i < n → judged (f i) ≡ 0) → Dec (i < n) → judged (f i) ≡ 0
    split ih (yes p) = ih p
    split ih (no p) =
        let q : i ≡ n = omega arith in
        ap (λ (k : ℕ). judged (f k)) q ∙ (both (each n f) (f n) h).1

-- ---- the cases of one field
module _ (w : ℕ) (f : Field) (number : ℕ) (bad : Bool) where
  pub cut : f.here ≡ false → 1 ≡ judged (entry w f number bad ∷ [])
  unfolding judged checks_of
  cut h = applies 1 (not f.here) _ (rw h refl) (omega arith)

  pub spoilt : f.here ≡ true → bad ≡ true → number ≡ judged (entry w f number bad ∷ [])
  unfolding judged checks_of refusal ◌then◌
  spoilt h b = rw (h, b) (zero-last number)
    where
      zero-last : (n : ℕ) → n ≡ n then 0
      zero-last zero = refl
      zero-last (suc n) = refl

  pub good : f.here ≡ true → bad ≡ false → 0 ≡ judged (entry w f number bad ∷ [])
  unfolding judged checks_of
  good h b = passes 1 (not f.here) _ (rw h refl) (passes number bad _ b no-checks)

  -- what no refusal says
  pub fine : (number ≡ 0 → ⊥) → judged (entry w f number bad ∷ []) ≡ 0 → (f.here ≡ true) × (bad ≡ false)
  unfolding judged checks_of
  fine z h = let r = passed 1 (not f.here) _ (omega arith) h in (there f.here r.0, (passed number bad _ z r.1).0)
    where
      there : (b : Bool) → not b ≡ false → b ≡ true
      there true e = refl
      there false e = sym e

-- a list of fields without refusal: each is there and good
pub first_fine : (e : Entry) (es : List Entry) → (e.number ≡ 0 → ⊥) → judged (e ∷ es) ≡ 0 → ((e.field.here ≡ true) × (e.bad ≡ false)) × (judged es ≡ 0)
first_fine e es z h = let r = both (e ∷ []) es h in (fine e.width e.field e.number e.bad z r.0, r.1)

-- a field of a sheet, and a place of a table, that is there or not
pub sheet-here : (s : List ℕ) (at w : ℕ) → at + w ≤ 8 * length s → (on_sheet s at w).here ≡ true
sheet-here s at w h = le-leb (at + w) (8 * length s) h

pub sheet-cut : (s : List ℕ) (at w : ℕ) → 8 * length s < at + w → (on_sheet s at w).here ≡ false
sheet-cut s at w h = lt-leb (at + w) (8 * length s) h

pub place_here : (t : List ℕ) (i : ℕ) → i < length t → (in_table t i).here ≡ true
place_here t i h = lt-ltb i (length t) h

pub place-cut : (t : List ℕ) (i : ℕ) → length t ≤ i → (in_table t i).here ≡ false
place-cut t i h = le-ltb i (length t) h

-- low to high, or not
pub below-low : (low high v : ℕ) → v < low → outside low high v ≡ true
unfolding outside
below-low low high v h = rw (lt-ltb v low h) refl

pub above-high : (low high v : ℕ) → low ≤ v → high < v → outside low high v ≡ true
unfolding outside
above-high low high v l h = rw (le-ltb v low l, lt-ltb high v h) refl

pub inside : (low high v : ℕ) → low ≤ v → v ≤ high → outside low high v ≡ false
unfolding outside
inside low high v l h = rw (le-ltb v low l, le-ltb high v h) refl

pub inside-means : (low high v : ℕ) → outside low high v ≡ false → (low ≤ v) × (v ≤ high)
unfolding outside
inside-means low high v h = let r = or-false (ltb v low) (ltb high v) h in (ltb-false v low r.0, ltb-false high v r.1)
  where
    or-false : (a b : Bool) → (a || b) ≡ false → (a ≡ false) × (b ≡ false)
    or-false true b e = let z : ◌≡◌ {A = ℕ} 0 1 = cc in absurd (omega arith)
    or-false false b e = (refl, e)

-- an operation that is refused comes to its refusal
pub refused-is : {O : Type 0} (refused : ℕ → O) (cs : List Check) (done : O) {r : ℕ} → r ≡ refusal cs → (r ≡ 0 → ⊥) → refused r ≡ cond (eqb (refusal cs) 0) done (refused (refusal cs))
refused-is refused cs done e z = rw (ne_eqb (refusal cs) 0 (λ q. z (e ∙ q))) (ap refused e)

-- lists that agree at each turn are the same
pub each-ext : {A : Type 0} (n : ℕ) (f g : ℕ → List A) → ((i : ℕ) → i < n → f i ≡ g i) → each n f ≡ each n g
unfolding each
each-ext zero f g h = refl
each-ext (suc n) f g h = ap₂ (λ (x y : List _). x ++ y) (each-ext n f g (λ i l. h i (omega arith))) (h n (omega arith))
