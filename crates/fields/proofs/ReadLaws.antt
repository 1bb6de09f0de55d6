-- What code has of a field: the cases of judging it.
use Rattle.std.proofs.lemmas.List.{get_or_past}
use Rattle.std.proofs.lemmas.Option.{slice_get_within, get_or_from_slice_get}
use Rattle.std.proofs.Common.{IsSome, ◌∙◌, sym, Option, Some, None, MatchOption, slice_get, unwrap_or, get_or, ℕ, ◌<◌, ◌≤◌, ◌≡◌, Bool, true, false, List, [], ◌∷◌, leb, ltb, length, refl, arith}
use borrow.Author.Tests.{le-leb, lt-leb, lt-ltb, le-ltb}
use mathlib.Core.Bool.{cond, ◌||◌}
use Rattle.fields.specs.Judging.{Field, in_table, read, entry, free, outside, judged, follows, refusal}
use Rattle.fields.proofs.JudgingLaws.{place_here, place-cut, cut, spoilt, good, inside, applies, passes, no-checks}

-- a field that is complete is read, and no other
module _ (f : Field) where
  pub read-none : None ≡ read f → f.here ≡ false
  unfolding read
  read-none e = split f.here e
    where
      split : (b : Bool) → None ≡ cond b (Some f.value) None → b ≡ false
      split true h = cc
      split false h = refl

  pub read-some : {v : ℕ} → Some v ≡ read f → (f.here ≡ true) × (v ≡ f.value)
  unfolding read
  read-some {v} e = split f.here e
    where
      split : (b : Bool) → Some v ≡ cond b (Some f.value) None → (b ≡ true) × (v ≡ f.value)
      split true h = (refl, cc)
      split false h = cc

  pub read_here : f.here ≡ true → Some f.value ≡ read f
  unfolding read
  read_here h = rw h refl

  pub there : {r : Option ℕ} → f.here ≡ true → r ≡ read f → IsSome r
  there h e = rw (e ∙ sym (read_here h)) refl

  pub read-cut : f.here ≡ false → None ≡ read f
  unfolding read
  read-cut h = rw h refl

or-true : (a : Bool) → (a || true) ≡ true
or-true true = refl
or-true false = refl

pub too-low : (low high v : ℕ) → v < low → outside low high v ≡ true
unfolding outside
too-low low high v h = rw (lt-ltb v low h) refl

pub too-high : (low high v : ℕ) → high < v → outside low high v ≡ true
unfolding outside
too-high low high v h = rw (lt-ltb high v h) (or-true (ltb v low))

module _ (w : ℕ) (f : Field) (n : ℕ) where
  pub none-judged : (bad : Bool) → None ≡ read f → 1 ≡ judged (entry w f n bad ∷ [])
  none-judged bad e = cut w f n bad (read-none f e)

  pub low-judged : (low high : ℕ) {v : ℕ} → Some v ≡ read f → v < low → n ≡ judged (entry w f n (outside low high f.value) ∷ [])
  low-judged low high {v} e h = let r = read-some f e in spoilt w f n _ r.0 (too-low low high f.value (omega (arith, r.1)))

  pub high-judged : (low high : ℕ) {v : ℕ} → Some v ≡ read f → high < v → n ≡ judged (entry w f n (outside low high f.value) ∷ [])
  high-judged low high {v} e h = let r = read-some f e in spoilt w f n _ r.0 (too-high low high f.value (omega (arith, r.1)))

  pub inside-judged : (low high : ℕ) {v : ℕ} → Some v ≡ read f → low ≤ v → v ≤ high → 0 ≡ judged (entry w f n (outside low high f.value) ∷ [])
  inside-judged low high {v} e l h = let r = read-some f e in good w f n _ r.0 (inside low high f.value (omega (arith, r.1)) (omega (arith, r.1)))

  pub end-judged : (end : ℕ) {v : ℕ} → Some v ≡ read f → end ≤ v → n ≡ judged (entry w f n (leb end f.value) ∷ [])
  end-judged end {v} e h = let r = read-some f e in spoilt w f n _ r.0 (le-leb end f.value (omega (arith, r.1)))

  pub below-judged : (end : ℕ) {v : ℕ} → Some v ≡ read f → v < end → 0 ≡ judged (entry w f n (leb end f.value) ∷ [])
  below-judged end {v} e h = let r = read-some f e in good w f n _ r.0 (lt-leb end f.value (omega (arith, r.1)))

pub free-judged : (w : ℕ) (f : Field) {v : ℕ} → Some v ≡ read f → 0 ≡ judged (free w f ∷ [])
free-judged w f e = good w f 1 false (read-some f e).0 refl

-- bytes that follow, or none
pub some-follow : (end : ℕ) (s : List ℕ) → end < length s → 6 ≡ refusal (follows end s ∷ [])
some-follow end s h = applies 6 (ltb end (length s)) [] (lt-ltb end (length s) h) (λ z. omega arith)

pub none-follow : (end : ℕ) (s : List ℕ) → length s ≤ end → 0 ≡ refusal (follows end s ∷ [])
none-follow end s h = passes 6 (ltb end (length s)) [] (le-ltb end (length s) h) no-checks

pub ruleset judging = (none-judged, low-judged, high-judged, inside-judged, end-judged, below-judged, free-judged, some-follow, none-follow)

-- a number of a table that is there or not, as `place` gives it
pub placed : (t : List ℕ) (i : ℕ) (r : Option ℕ) → MatchOption r (length t ≤ i) (λ v. (x : ℕ) × (slice_get t i ≡ Some x) × (v ≡ x)) → r ≡ read (in_table t i)
placed t i None h = read-cut (in_table t i) (place-cut t i h)
placed t i (Some v) (x, e, q) =
    rw (q, sym (get_or_from_slice_get t i x 0 e)) (read_here (in_table t i) (place_here t i (slice_get_within t i x e)))

-- the same; 0 past the table's end
pub placed-or : (t : List ℕ) (i : ℕ) (r : Option ℕ) → MatchOption r (length t ≤ i) (λ v. (x : ℕ) × (slice_get t i ≡ Some x) × (v ≡ x)) → unwrap_or r 0 ≡ get_or t i 0
placed-or t i None h = sym (get_or_past t i 0 h)
placed-or t i (Some v) (x, e, q) = q ∙ sym (get_or_from_slice_get t i x 0 e)
