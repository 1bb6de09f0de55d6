-- Laws of fields packed without gaps: what was put is there, bytes that hold the same fields are the same, and bytes that follow stay.
use Prim.Native.Nat.{ℕ, zero, suc, ◌+◌, ◌-◌, ◌*◌, ◌^◌, ◌≤◌, ◌<◌}
use native.Mathlib.Nat.{add_assoc, add-zero, suc-mul}
use native.Mathlib.Omega.{arith}
use native.Mathlib.Decide.{dec_lt}
use mathlib.Core.Path.{◌≡◌, refl, sym, ap, ◌∙◌, subst}
use mathlib.Core.List.{List, [], ◌∷◌, ◌++◌}
use lib.ListN.{length, get_or, take, drop, replicate, length-replicate, get_or-replicate, get_or-eq_default, take-append-drop}
use lib.Seq.{length-take-le, get_or-take}
use Rattle.fields.specs.Bits.{byte_values, bit_at, field_at, put_field}
use Rattle.fields.specs.Judging.{Entry, each}
use Rattle.fields.specs.Packing.{bits_in, packed, zeros, bytes_for, sheet_of}
use Rattle.fields.proofs.JudgingLaws.{each_more}
use Rattle.fields.proofs.FieldLaws.{field_lt}
use Rattle.fields.proofs.PutLaws.{Bytes, length-field, field-before, field-cong, field-same, field-bits, bytes-field, append-field, same_bits}

-- the bytes s have the values of the fields from bit position at on
abbrev pub Holds : List ℕ → ℕ → List Entry → Type 0
Holds s at [] = Unit {0}
Holds s at (e ∷ es) = (field_at s at e.width ≡ e.field.value) × Holds s (at + e.width) es

-- each value has room in its field
abbrev pub Fit : List Entry → Type 0
Fit [] = Unit {0}
Fit (e ∷ es) = (e.field.value < 2 ^ e.width) × Fit es

-- one field more, its position and value known by other names
pub put_next : (w : ℕ) {a b x y : ℕ} {t l u : List ℕ} → u ≡ put_field a w x t → a ≡ b → x ≡ y → t ≡ l → u ≡ put_field b w y l
put_next w e p q r = e ∙ (λ k. put_field (p k) w (q k) (r k))

-- ---- one list after the other
pub bits-append : (a b : List Entry) → bits_in (a ++ b) ≡ bits_in a + bits_in b
unfolding bits_in
bits-append [] b = omega arith
bits-append (e ∷ a) b = omega (arith, bits-append a b)

pub packed-append : (at : ℕ) (a b : List Entry) (l : List ℕ) → packed at (a ++ b) l ≡ packed (at + bits_in a) b (packed at a l)
unfolding packed bits_in
packed-append at [] b l = rw add-zero refl
packed-append at (e ∷ a) b l =
    packed-append (at + e.width) a b _ ∙ ap (λ (x : ℕ). packed x b (packed (at + e.width) a (put_field at e.width e.field.value l))) (add_assoc at e.width (bits_in a))

pub holds-append : (s : List ℕ) (at : ℕ) (a b : List Entry) → Holds s at a → Holds s (at + bits_in a) b → Holds s at (a ++ b)
unfolding bits_in
holds-append s at [] b p q = subst (λ (x : ℕ). Holds s x b) (add-zero at) q
holds-append s at (e ∷ a) b p q =
    (p.0, holds-append s (at + e.width) a b p.1 (subst (λ (x : ℕ). Holds s x b) (sym (add_assoc at e.width (bits_in a))) q))

pub holds-split : (s : List ℕ) (at : ℕ) (a b : List Entry) → Holds s at (a ++ b) → Holds s at a × Holds s (at + bits_in a) b
unfolding bits_in
holds-split s at [] b p = (tt, subst (λ (x : ℕ). Holds s x b) (sym (add-zero at)) p)
holds-split s at (e ∷ a) b p =
    let r = holds-split s (at + e.width) a b p.1 in
    ((p.0, r.0), subst (λ (x : ℕ). Holds s x b) (add_assoc at e.width (bits_in a)) r.1)

pub fit_append : (a b : List Entry) → Fit a → Fit b → Fit (a ++ b)
fit_append [] b p q = q
fit_append (e ∷ a) b p q = (p.0, fit_append a b p.1 q)

-- ---- lists of c bits each
module _ (f : ℕ → List Entry) (c : ℕ) (same : (i : ℕ) → bits_in (f i) ≡ c) where
  pub bits_each : (n : ℕ) → bits_in (each n f) ≡ n * c
  unfolding each bits_in
  bits_each zero = omega arith
  bits_each (suc n) = bits-append (each n f) (f n) ∙ omega (arith, bits_each n, same n, suc-mul n c)

  pub holds-each : (s : List ℕ) (at n : ℕ) → ((i : ℕ) → i < n → Holds s (at + i * c) (f i)) → Holds s at (each n f)
  unfolding each
  holds-each s at zero h = tt
  holds-each s at (suc n) h =
      holds-append s at (each n f) (f n) (holds-each s at n (λ i l. h i (omega arith)))
      (subst (λ (x : ℕ). Holds s (at + x) (f n)) (sym (bits_each n)) (h n (omega arith)))

  pub holds_at : (s : List ℕ) (at n : ℕ) → Holds s at (each n f) → (i : ℕ) → i < n → Holds s (at + i * c) (f i)
  unfolding each
  holds_at s at zero h i l = absurd (omega arith)
  holds_at s at (suc n) h i l = split (holds_at s at n r.0 i) (dec_lt i n)
    where
      r : Holds s at (each n f) × Holds s (at + bits_in (each n f)) (f n)
      r = holds-split s at (each n f) (f n) h

      split : (i < n → Holds s (at + i * c) (f i)) → Dec (i < n) → Holds s (at + i * c) (f i)
      split ih (yes p) = ih p
      split ih (no p) =
          let q : n ≡ i = omega arith in
          subst (λ (k : ℕ). Holds s (at + k * c) (f k)) q (subst (λ (x : ℕ). Holds s (at + x) (f n)) (bits_each n) r.1)

  -- a loop that puts them
  pub packed_more : (at i : ℕ) (l : List ℕ) {t : List ℕ} → t ≡ packed at (each i f) l → packed (at + i * c) (f i) t ≡ packed at (each (i + 1) f) l
  packed_more at i l {t} e =
      sym
      (ap (λ (x : List Entry). packed at x l) (each_more i f) ∙ packed-append at (each i f) (f i) l
      ∙ ap (λ (x : ℕ). packed (at + x) (f i) (packed at (each i f) l)) (bits_each i) ∙ ap (packed (at + i * c) (f i)) (sym e))

pub fit-each : (f : ℕ → List Entry) (n : ℕ) → ((i : ℕ) → i < n → Fit (f i)) → Fit (each n f)
unfolding each
fit-each f zero h = tt
fit-each f (suc n) h = fit_append (each n f) (f n) (fit-each f n (λ i l. h i (omega arith))) (h n (omega arith))

pub packed_none : (at : ℕ) (f : ℕ → List Entry) (l : List ℕ) → l ≡ packed at (each 0 f) l
unfolding packed each
packed_none at f l = refl

pub packed-end : (at : ℕ) (f : ℕ → List Entry) (l : List ℕ) {t : List ℕ} (i n : ℕ) → i ≤ n → n ≤ i → t ≡ packed at (each i f) l → t ≡ packed at (each n f) l
packed-end at f l i n h g e = let q : i ≡ n = omega arith in e ∙ ap (λ (k : ℕ). packed at (each k f) l) q

-- ---- what putting leaves
pub packed-length : (at : ℕ) (es : List Entry) (l : List ℕ) → length (packed at es l) ≡ length l
unfolding packed
packed-length at [] l = refl
packed-length at (e ∷ es) l = packed-length (at + e.width) es _ ∙ length-field at e.width e.field.value l

packed-before : (at : ℕ) (es : List Entry) (l : List ℕ) (k : ℕ) → k < at → bit_at (packed at es l) k ≡ bit_at l k
unfolding packed
packed-before at [] l k h = refl
packed-before at (e ∷ es) l k h = packed-before (at + e.width) es _ k (omega arith) ∙ field-before at e.width e.field.value l k h

pub packed-bytes : (at : ℕ) (es : List Entry) (l : List ℕ) → Bytes l → Bytes (packed at es l)
unfolding packed
packed-bytes at [] l h = h
packed-bytes at (e ∷ es) l h = packed-bytes (at + e.width) es _ (bytes-field at e.width e.field.value l h)

-- what was put is there
pub packed-holds : (at : ℕ) (es : List Entry) (l : List ℕ) → Fit es → at + bits_in es ≤ 8 * length l → Holds (packed at es l) at es
unfolding packed bits_in
packed-holds at [] l p h = tt
packed-holds at (e ∷ es) l p h =
    let t = put_field at e.width e.field.value l in (
      field-cong (packed (at + e.width) es t) t at e.width (λ k q. packed-before (at + e.width) es t (at + k) (omega arith)) ∙ field-same at e.width e.field.value l p.0 (omega arith),
      packed-holds (at + e.width) es t p.1 (omega (arith, length-field at e.width e.field.value l)),
    )

-- bytes that follow stay
pub packed-rest : (r : List ℕ) (at : ℕ) (es : List Entry) (l : List ℕ) → at + bits_in es ≤ 8 * length l → packed at es (l ++ r) ≡ packed at es l ++ r
unfolding packed bits_in
packed-rest r at [] l h = refl
packed-rest r at (e ∷ es) l h =
    ap (packed (at + e.width) es) (append-field r at e.width e.field.value l (omega arith))
    ∙ packed-rest r (at + e.width) es _ (omega (arith, length-field at e.width e.field.value l))

-- values that were read have room in their fields
pub holds-fit : (s : List ℕ) (at : ℕ) (es : List Entry) → Holds s at es → Fit es
holds-fit s at [] p = tt
holds-fit s at (e ∷ es) p = (subst (λ (x : ℕ). x < 2 ^ e.width) p.0 (field_lt s at e.width), holds-fit s (at + e.width) es p.1)

-- ---- bytes that hold the same fields have the same bits, and are the same
holds_agree : (s t : List ℕ) (at : ℕ) (es : List Entry) → Holds s at es → Holds t at es → (k : ℕ) → at ≤ k → k < at + bits_in es → bit_at s k ≡ bit_at t k
unfolding bits_in
holds_agree s t at [] p q k l h = absurd (omega arith)
holds_agree s t at (e ∷ es) p q k l h = split (λ b. holds_agree s t (at + e.width) es p.1 q.1 k b (omega arith)) (dec_lt k (at + e.width))
  where
    split : (at + e.width ≤ k → bit_at s k ≡ bit_at t k) → Dec (k < at + e.width) → bit_at s k ≡ bit_at t k
    split ih (yes b) =
        let d : at + (k - at) ≡ k = omega arith in
        rw d at (field-bits s t at e.width (p.0 ∙ sym q.0) (k - at) (omega arith))
    split ih (no b) = ih (omega arith)

pub unique : (s t : List ℕ) (es : List Entry) → Bytes s → Bytes t → length s ≡ length t → bits_in es ≡ 8 * length s → Holds s 0 es → Holds t 0 es → s ≡ t
unique s t es bs bt e b p q = same_bits s t e bs bt (λ k h. holds_agree s t 0 es p q k (omega arith) (omega arith))

-- ---- whole sheets
pub length-zeros : (b : ℕ) → length (zeros b) ≡ b
unfolding zeros
length-zeros b = length-replicate {A = ℕ} b 0

pub bytes-zeros : (b : ℕ) → Bytes (zeros b)
unfolding zeros
bytes-zeros b i = split (dec_lt i b)
  where
    split : Dec (i < b) → get_or (replicate b 0) i 0 < byte_values
    split (yes p) = rw (get_or-replicate {A = ℕ} b i 0 0 p) (omega arith)
    split (no p) = rw (get_or-eq_default {A = ℕ} (replicate b 0) 0 {n = i} (omega (arith, length-replicate {A = ℕ} b 0))) (omega arith)

pub bytes_take : (b : ℕ) (l : List ℕ) → b ≤ length l → Bytes l → Bytes (take b l)
bytes_take b l q h i = split (dec_lt i b)
  where
    split : Dec (i < b) → get_or (take b l) i 0 < byte_values
    split (yes p) = rw (get_or-take b l i 0 p) (h i)
    split (no p) = rw (get_or-eq_default (take b l) 0 {n = i} (omega (arith, length-take-le b l q))) (omega arith)

module _ (es : List Entry) (b : ℕ) (fit : Fit es) (whole : bits_in es ≡ 8 * b) where
  bytes-needed : bytes_for (bits_in es) ≡ b
  unfolding bytes_for
  bytes-needed = omega arith

  pub sheet-length : length (sheet_of es) ≡ b
  unfolding sheet_of
  sheet-length = packed-length 0 es _ ∙ length-zeros (bytes_for (bits_in es)) ∙ bytes-needed

  pub sheet-holds : Holds (sheet_of es) 0 es
  unfolding sheet_of
  sheet-holds = packed-holds 0 es _ fit (omega (arith, length-zeros (bytes_for (bits_in es)), bytes-needed))

  pub sheet-bytes : Bytes (sheet_of es)
  unfolding sheet_of
  sheet-bytes = packed-bytes 0 es _ (bytes-zeros (bytes_for (bits_in es)))

  -- bytes that hold the fields and nothing else are their sheet
  pub sheet-only : (s : List ℕ) → Bytes s → length s ≡ b → Holds s 0 es → sheet_of es ≡ s
  sheet-only s h e p = unique (sheet_of es) s es sheet-bytes h (sheet-length ∙ sym e) (whole ∙ ap (λ (x : ℕ). 8 * x) (sym sheet-length)) sheet-holds p

  -- fields put over other bytes: their sheet, and then what stood after it
  pub packed-over : (l : List ℕ) → Bytes l → b ≤ length l → packed 0 es l ≡ sheet_of es ++ drop (length (sheet_of es)) l
  packed-over l h e =
      let t = length-take-le b l e in
      ap (packed 0 es) (sym (take-append-drop b l)) ∙ packed-rest (drop b l) 0 es (take b l) (omega arith)
      ∙ ap (λ (x : List ℕ). x ++ drop b l) (sym (sheet-only (packed 0 es (take b l)) (packed-bytes 0 es _ (bytes_take b l e h)) (packed-length 0 es (take b l) ∙ t) (packed-holds 0 es (take b l) fit (omega arith))))
      ∙ ap (λ (x : ℕ). sheet_of es ++ drop x l) (sym sheet-length)
