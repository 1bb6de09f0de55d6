-- Laws of bytes put one after the other.
use Prim.Native.Nat.{ℕ, zero, suc, ◌+◌, ◌-◌, ◌*◌, ◌/◌, ◌^◌, ◌≤◌, ◌<◌}
use native.Mathlib.Nat.{le_trans, pow-le-pow_right}
use native.Mathlib.Decide.{dec_lt}
use native.Mathlib.Omega.{arith}
use mathlib.Core.Path.{◌≡◌, refl, sym, ap, ap₂, ◌∙◌, subst}
use mathlib.Core.List.{List, ◌++◌}
use mathlib.Core.Option
use mathlib.Core.Option.{Option, some, none}
use lib.Dec.{ltb}
use lib.ListN.{length, get_or, take, length-append}
use borrow.Author.Tests.{lt-ltb, ltb-true}
use Rattle.io.specs.Digits.{last_digits, IsDigitCount}
use Rattle.task.specs.Loops.{first, when}
use Rattle.task.proofs.LoopLaws.{first_found, first_some, when-some}
use Rattle.fields.specs.Judging.{each}
use Rattle.fields.specs.Places.{puts}
use Rattle.fields.proofs.JudgingLaws.{each_more}
use Rattle.fields.proofs.PlaceLaws.{puts-append, puts-length, puts-part}
use borrow.Rule.Slice.PartMut.{put_mid}
use Rattle.lines.specs.Lines.{width, decimal, labelled, space, line_end, row_line, Put}

-- one after the other
pub join : {at r r' : ℕ} {xs ys l l' l'' : List ℕ} → Put at xs l r l' → Put r ys l' r' l'' → Put at (xs ++ ys) l r' l''
join {at} {r} {r'} {xs} {ys} {l} {l'} p q =
    record {
      next = omega (arith, p.next, q.next, length-append xs ys);
      bytes = q.bytes ∙ ap₂ (λ (x : ℕ) (m : List ℕ). puts x ys m) p.next p.bytes ∙ sym (puts-append at xs ys l);
    }

pub same-long : {at r : ℕ} {xs l l' : List ℕ} → Put at xs l r l' → length l' ≡ length l
same-long {at} {r} {xs} {l} p = ap length p.bytes ∙ puts-length at xs l

-- a text copied to its place
pub text_put : (text out : List ℕ) (at : ℕ) {part : List ℕ} → at + length text ≤ length out → part ≡ text
    → Put at text out (at + length text) (put_mid at (at + length text - at) out part)
text_put text out at h e =
    record { next = refl; bytes = ap (put_mid at (at + length text - at) out) e ∙ puts-part at _ text out (omega arith) (omega arith) }

-- ---- a number
abbrev enough : ℕ → ℕ → Option ℕ
enough n k = when (ltb n (10 ^ (k + 1))) (k + 1)

-- the fewest digits that hold a number
pub fewest-width : (n k : ℕ) → IsDigitCount 10 1 n k → k ≤ 20 → k ≡ width n
unfolding width
fewest-width n k f h =
    let e : k - 1 + 1 ≡ k = omega (arith, f.0) in
    let here : enough n (k - 1) ≡ some k = rw e (rw (lt-ltb n (10 ^ k) f.1) refl) in
    let r = first_found 20 (enough n) (k - 1) (omega (arith, f.0)) here in
    let w = first_some 20 (enough n) r.1 in
    let p = when-some (ltb n (10 ^ (w.place + 1))) (w.place + 1) w.here in
    let most : w.place ≤ k - 1 = not-later w.place (k - 1) (λ l. let q = w.before (k - 1) l in cc) in
    let least : k - 1 ≤ w.place = not-later (k - 1) w.place (λ l. let q = le_trans (pow-le-pow_right {n = 10} (omega arith) {i = w.place + 1} {j = k - 1} (omega arith)) (f.2 (omega arith)) in omega (arith, ltb-true n (10 ^ (w.place + 1)) p.0)) in
    let z : k ≡ r.0 = omega (arith, p.1, f.0) in
    rw r.1 z
  where
    not-later : (a b : ℕ) → (b < a → ◌≡◌ {A = ℕ} 0 1) → a ≤ b
    not-later a b g = split (dec_lt b a)
      where
        split : Dec (b < a) → a ≤ b
        split (yes l) = let z = g l in absurd (omega arith)
        split (no l) = omega arith

digits_long : (k n : ℕ) → length (last_digits 10 k n) ≡ k
digits_long zero n = refl
digits_long (suc k) n = length-append (last_digits 10 k (n / 10)) _ ∙ omega (arith, digits_long k (n / 10))

pub decimal-short : (n : ℕ) → length (decimal n) ≤ 20
unfolding decimal width
decimal-short n = split (first 20 (enough n)) refl
  where
    split : (o : Option ℕ) → first 20 (enough n) ≡ o → length (last_digits 10 (Option.get_or (first 20 (enough n)) 20) n) ≤ 20
    split none e = rw e (omega (arith, digits_long 20 n))
    split (some b) e =
        let w = first_some 20 (enough n) e in
        let p = when-some (ltb n (10 ^ (w.place + 1))) (w.place + 1) w.here in
        rw e (omega (arith, digits_long b n, p.1, w.below))

-- a number of 64 bits has at most 20 digits
fewest-short : (n k : ℕ) → n < 2 ^ 64 → IsDigitCount 10 1 n k → k ≤ 20
fewest-short n k h f = split (dec_lt 20 k)
  where
    split : Dec (20 < k) → k ≤ 20
    split (yes l) = let q : 10 ^ 20 ≤ n = le_trans (pow-le-pow_right {n = 10} (omega arith) {i = 20} {j = k - 1} (omega arith)) (f.2 (omega arith)) in absurd (omega arith)
    split (no l) = omega arith

module _ (n k : ℕ) (text : List ℕ) (h : n < 2 ^ 64) (f : IsDigitCount 10 1 n k) (e : take k text ≡ last_digits 10 k n) where
  pub number_short : length (take k text) ≤ 20
  number_short = omega (arith, ap length e, digits_long k n, fewest-short n k h f)

  pub number_put : {at r : ℕ} {l l' : List ℕ} → Put at (take k text) l r l' → Put at (decimal n) l r l'
  unfolding decimal
  number_put {at} {r} {l} {l'} p = subst (λ (x : List ℕ). Put at x l r l') (e ∙ ap (λ (j : ℕ). last_digits 10 j n) (fewest-width n k f (fewest-short n k h f))) p

-- what is left after a text and a number
pub labelled-most : {at r : ℕ} {l l' : List ℕ} (text : List ℕ) (n : ℕ) → Put at (labelled text n) l r l' → r ≤ at + (length text + 20)
unfolding labelled
labelled-most text n p = omega (arith, p.next, length-append text (decimal n), decimal-short n)

pub decimal-most : {at r : ℕ} {l l' : List ℕ} (n : ℕ) → Put at (decimal n) l r l' → r ≤ at + 20
decimal-most n p = omega (arith, p.next, decimal-short n)

pub joined : {at r r' : ℕ} {l l' l'' : List ℕ} (text : List ℕ) (n : ℕ) → Put at text l r l' → Put r (decimal n) l' r' l'' → Put at (labelled text n) l r' l''
unfolding labelled
joined text n p q = join p q

-- a row of three numbers
abbrev line_of : ℕ → ℕ → ℕ → ℕ → List ℕ
line_of i d e f = decimal (i + 1) ++ (labelled space d ++ (labelled space e ++ (labelled space f ++ line_end)))

pub row-joined : (list : List ℕ) (i a b c : ℕ) {at r r₁ r₂ r₃ r₄ : ℕ} {l l₁ l₂ l₃ l₄ l₅ : List ℕ} → a ≡ get_or list (i * 3) 0 → b ≡ get_or list (i * 3 + 1) 0 → c ≡ get_or list (i * 3 + 2) 0 → Put at (decimal (i + 1)) l r₁ l₁
    → Put r₁ (labelled space a) l₁ r₂ l₂ → Put r₂ (labelled space b) l₂ r₃ l₃ → Put r₃ (labelled space c) l₃ r₄ l₄ → Put r₄ line_end l₄ r l₅ → Put at (row_line list i) l r l₅
unfolding row_line
row-joined list i a b c {at} {r} {r₁} {r₂} {r₃} {r₄} {l} {l₁} {l₂} {l₃} {l₄} {l₅} x y z p q s t u =
    subst (λ (k : List ℕ). Put at k l r l₅) (ap (λ (k : ℕ). line_of i k b c) x ∙ ap (λ (k : ℕ). line_of i (get_or list (i * 3) 0) k c) y ∙ ap (line_of i (get_or list (i * 3) 0) (get_or list (i * 3 + 1) 0)) z)
    (join p (join q (join s (join t u))))

-- ---- rows
pub rows_none : (list out : List ℕ) (at : ℕ) → Put at (each 0 (row_line list)) out at out
unfolding each puts
rows_none list out at = record { next = omega arith; bytes = refl }

pub rows_more : (list : List ℕ) (i : ℕ) {at next next' : ℕ} {out₀ out out' : List ℕ} → Put at (each i (row_line list)) out₀ next out → Put next (row_line list i) out next' out'
    → Put at (each (i + 1) (row_line list)) out₀ next' out'
rows_more list i {at} {next' = next'} {out₀ = out₀} {out' = out'} p q = subst (λ (x : List ℕ). Put at x out₀ next' out') (sym (each_more i (row_line list))) (join p q)
