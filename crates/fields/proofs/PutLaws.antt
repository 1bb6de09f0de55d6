-- Laws of putting bits and fields.
use Prim.Native.Nat.{ℕ, zero, suc, ◌+◌, ◌-◌, ◌*◌, ◌/◌, ◌%◌, ◌^◌, ◌≤◌, ◌<◌}
use native.Mathlib.Nat.{mul_assoc, add_assoc, add-mul, mod-lt, lt_of_lt_of_le, pow-suc, div-eq_of_lt, div-one}
use native.Mathlib.Numerals.{add-one}
use native.Mathlib.Omega.{arith}
use native.Mathlib.Decide.{dec_lt, ℕ_discrete}
use lib.Pow.{pow-add, pow_pos, high, low, shr-shr, shr_lt, mod-mod-pow, field}
use lib.Arith.{digits_lt}
use mathlib.Core.Path.{◌≡◌, refl, sym, ap, ◌∙◌, subst}
use mathlib.Core.List.{List, ◌++◌}
use lib.ListN.{length, get_or, set, length-set, get_or-append}
use lib.Seq.{get_or-set_same, get_or-set_other, set_out, set-append_left, ext_get_or}
use Rattle.fields.specs.Bits.{byte_values, bit_at, field_at, with_bit, put_bit, put_field}
use Rattle.fields.proofs.FieldLaws.{bit-lt}

double : (e : ℕ) → 2 * 2 ^ e ≡ 2 ^ (1 + e)
double e = sym (pow-add 2 1 e)

module _ (x e b : ℕ) (bit : b < 2) where
  -- what lies below bit e + 1 is below 2 ^ (e + 1)
  rest_lt : b * 2 ^ e + x % 2 ^ e < 2 ^ (1 + e)
  rest_lt = rw (← double e) (digits_lt bit (mod-lt x (pow_pos e)))

  -- the bits above e are as they were
  pub with-high : with_bit x e b / 2 ^ (1 + e) ≡ x / 2 ^ (1 + e)
  unfolding with_bit
  with-high = rw double (high (x / 2 ^ (1 + e)) (1 + e) rest_lt)

  -- in two digits of 2 ^ e
  with-digits : with_bit x e b ≡ (x / (2 * 2 ^ e) * 2 + b) * 2 ^ e + x % 2 ^ e
  unfolding with_bit
  with-digits = simp (add-mul, mul_assoc, add_assoc)

  pub with-low : with_bit x e b % 2 ^ e ≡ x % 2 ^ e
  with-low = ap (λ (y : ℕ). y % 2 ^ e) with-digits ∙ low (x / (2 * 2 ^ e) * 2 + b) e (mod-lt x (pow_pos e))

  -- bit e is b
  pub with-same : with_bit x e b / 2 ^ e % 2 ≡ b
  with-same =
      ap (λ (y : ℕ). y / 2 ^ e % 2) with-digits ∙ ap (λ (y : ℕ). y % 2) (high (x / (2 * 2 ^ e) * 2 + b) e (mod-lt x (pow_pos e))) ∙ omega arith

  -- each other bit is as it was
  above : (d : ℕ) → with_bit x e b / 2 ^ (1 + e + d) % 2 ≡ x / 2 ^ (1 + e + d) % 2
  above d = ap (λ (y : ℕ). y % 2) (sym (shr-shr (with_bit x e b) (1 + e) d) ∙ ap (λ (y : ℕ). y / 2 ^ d) with-high ∙ shr-shr x (1 + e) d)

  below : (d k : ℕ) → e ≡ d + (1 + k) → with_bit x e b / 2 ^ k % 2 ≡ x / 2 ^ k % 2
  below d k q = sym (field (with_bit x e b) 1 k) ∙ ap (λ (y : ℕ). y / 2 ^ k) (part (with_bit x e b) ∙ ap (λ (y : ℕ). y % 2 ^ (1 + k)) with-low ∙ sym (part x)) ∙ field x 1 k
    where
      -- the lowest bits of the lowest e bits
      part : (y : ℕ) → y % 2 ^ (1 + k) ≡ y % 2 ^ e % 2 ^ (1 + k)
      part y = sym (ap (λ (n : ℕ). y % 2 ^ n % 2 ^ (1 + k)) q ∙ mod-mod-pow y d (1 + k))

  pub with-other : (k : ℕ) → (k ≡ e → ⊥) → with_bit x e b / 2 ^ k % 2 ≡ x / 2 ^ k % 2
  with-other k n = split (dec_lt k e)
    where
      split : Dec (k < e) → with_bit x e b / 2 ^ k % 2 ≡ x / 2 ^ k % 2
      split (yes p) = below (e - (1 + k)) k (omega arith)
      split (no p) =
          let q : 1 + e + (k - (1 + e)) ≡ k = omega arith in
          subst (λ (z : ℕ). with_bit x e b / 2 ^ z % 2 ≡ x / 2 ^ z % 2) q (above (k - (1 + e)))

  -- a byte stays one
  pub with_byte : x < byte_values → e < 8 → with_bit x e b < byte_values
  unfolding with_bit
  with_byte hx he =
      let q : (7 - e) + (1 + e) ≡ 8 = omega arith in
      let h : x / 2 ^ (1 + e) < 2 ^ (7 - e) = shr_lt (7 - e) (1 + e) (rw q hx) in
      let r : x / 2 ^ (1 + e) * 2 ^ (1 + e) + (b * 2 ^ e + x % 2 ^ e) < 2 ^ (7 - e) * 2 ^ (1 + e) = digits_lt h rest_lt in
      rw double (lt_of_lt_of_le r (omega (arith, rw q at (pow-add 2 (7 - e) (1 + e)))))

pub length-bit : (k b : ℕ) (l : List ℕ) → length (put_bit k b l) ≡ length l
unfolding put_bit
length-bit k b l = length-set l (k / 8) _

pub length-field : (at w v : ℕ) (l : List ℕ) → length (put_field at w v l) ≡ length l
unfolding put_field
length-field at zero v l = refl
length-field at (suc w) v l = length-bit (at + w) (v % 2) (put_field at w (v / 2) l) ∙ length-field at w (v / 2) l

-- the bit that was put is there
pub bit-same : (k b : ℕ) (l : List ℕ) → b < 2 → k < 8 * length l → bit_at (put_bit k b l) k ≡ b
unfolding bit_at put_bit
bit-same k b l hb hk = rw (get_or-set_same l (k / 8) (with_bit (get_or l (k / 8) 0) (7 - k % 8) b) 0 (omega arith)) (with-same (get_or l (k / 8) 0) (7 - k % 8) b hb)

-- each other bit is as it was
pub bit-other : (k b : ℕ) (l : List ℕ) (j : ℕ) → b < 2 → (j ≡ k → ⊥) → bit_at (put_bit k b l) j ≡ bit_at l j
unfolding bit_at put_bit
bit-other k b l j hb n = split (dec_lt (k / 8) (length l)) (ℕ_discrete (j / 8) (k / 8))
  where
    y : ℕ
    y = with_bit (get_or l (k / 8) 0) (7 - k % 8) b

    split : Dec (k / 8 < length l) → Dec (j / 8 ≡ k / 8) → get_or (set l (k / 8) y) (j / 8) 0 / 2 ^ (7 - j % 8) % 2 ≡ get_or l (j / 8) 0 / 2 ^ (7 - j % 8) % 2
    split (yes p) (yes q) = rw q (rw (get_or-set_same l (k / 8) y 0 p) (with-other (get_or l (k / 8) 0) (7 - k % 8) b hb (7 - j % 8) (λ z. n (omega arith))))
    split (yes p) (no q) = rw (get_or-set_other l (k / 8) (j / 8) y 0 q) refl
    split (no p) q = rw (set_out l (k / 8) y (omega arith)) refl

-- the bits before a field that was put are as they were
pub field-before : (at w v : ℕ) (l : List ℕ) (j : ℕ) → j < at → bit_at (put_field at w v l) j ≡ bit_at l j
unfolding put_field
field-before at zero v l j h = refl
field-before at (suc w) v l j h = bit-other (at + w) (v % 2) (put_field at w (v / 2) l) j (omega arith) (omega arith) ∙ field-before at w (v / 2) l j h

-- a field goes by its bits alone
pub field-cong : (s t : List ℕ) (at w : ℕ) → ((k : ℕ) → k < w → bit_at s (at + k) ≡ bit_at t (at + k)) → field_at s at w ≡ field_at t at w
unfolding field_at
field-cong s t at zero h = refl
field-cong s t at (suc w) h = omega (arith, field-cong s t at w (λ k l. h k (omega arith)), h w (omega arith))

-- the field that was put is there
pub field-same : (at w v : ℕ) (l : List ℕ) → v < 2 ^ w → at + w ≤ 8 * length l → field_at (put_field at w v l) at w ≡ v
unfolding put_field field_at
field-same at zero v l hv hl = omega arith
field-same at (suc w) v l hv hl =
    let m = put_field at w (v / 2) l in
    let len = length-field at w (v / 2) l in
    let ih = field-same at w (v / 2) l (omega (arith, pow-suc 2 w)) (omega arith) in
    let keep = field-cong (put_bit (at + w) (v % 2) m) m at w (λ k h. bit-other (at + w) (v % 2) m (at + k) (omega arith) (omega arith)) in
    let last = bit-same (at + w) (v % 2) m (omega arith) (omega arith) in
    omega arith

-- a field of s put at its place has the bits of s
pub put-field : (s l : List ℕ) (at w : ℕ) → at + w ≤ 8 * length l → (k : ℕ) → k < w → bit_at (put_field at w (field_at s at w) l) (at + k) ≡ bit_at s (at + k)
unfolding put_field field_at
put-field s l at zero hl k h = absurd (omega arith)
put-field s l at (suc w) hl k h = split (put-field s l at w (omega arith) k) (dec_lt k w)
  where
    v : ℕ
    v = 2 * field_at s at w + bit_at s (at + w)

    b2 : bit_at s (at + w) < 2
    b2 = bit-lt s (at + w)

    front : v / 2 ≡ field_at s at w
    front = omega (arith, b2)

    last : v % 2 ≡ bit_at s (at + w)
    last = omega (arith, b2)

    m : List ℕ
    m = put_field at w (v / 2) l

    split : (k < w → bit_at (put_field at w (field_at s at w) l) (at + k) ≡ bit_at s (at + k)) → Dec (k < w) → bit_at (put_bit (at + w) (v % 2) m) (at + k) ≡ bit_at s (at + k)
    split ih (yes p) = bit-other (at + w) (v % 2) m (at + k) (omega arith) (omega arith) ∙ ap (λ (x : ℕ). bit_at (put_field at w x l) (at + k)) front ∙ ih p
    split ih (no p) =
        let q : k ≡ w = omega arith in
        ap (λ (x : ℕ). bit_at (put_bit (at + w) (v % 2) m) (at + x)) q ∙ bit-same (at + w) (v % 2) m (omega arith) (omega (arith, length-field at w (v / 2) l)) ∙ last ∙ ap (λ (x : ℕ). bit_at s (at + x)) (sym q)

-- the bits of s and t agree before p
abbrev pub Agree : ℕ → List ℕ → List ℕ → Type 0
Agree p s t = (k : ℕ) → k < p → bit_at s k ≡ bit_at t k

-- the first w bits of byte i are its highest
high_bits : (s : List ℕ) (i w d : ℕ) → w + d ≡ 8 → get_or s i 0 < byte_values → field_at s (8 * i) w ≡ get_or s i 0 / 2 ^ d
unfolding field_at bit_at
high_bits s i zero d q h = let e : d ≡ 8 = omega arith in sym (ap (λ (z : ℕ). get_or s i 0 / 2 ^ z) e ∙ div-eq_of_lt h)
high_bits s i (suc w) d q h =
    let x = get_or s i 0 in
    let e₁ : (8 * i + w) / 8 ≡ i = omega arith in
    let e₂ : 7 - (8 * i + w) % 8 ≡ d = omega arith in
    let b : get_or s ((8 * i + w) / 8) 0 / 2 ^ (7 - (8 * i + w) % 8) % 2 ≡ x / 2 ^ d % 2 = rw (e₁, e₂) in
    omega (arith, high_bits s i w (d + 1) (omega arith) h, shr-shr x d 1)

-- byte i is the field of its eight bits
pub byte-field : (s : List ℕ) (i : ℕ) → get_or s i 0 < byte_values → field_at s (8 * i) 8 ≡ get_or s i 0
byte-field s i h = high_bits s i 8 0 (omega arith) h ∙ div-one (get_or s i 0)

-- bytes are their bits
abbrev pub Bytes : List ℕ → Type 0
Bytes s = (i : ℕ) → get_or s i 0 < byte_values

pub same_bits : (s t : List ℕ) → length s ≡ length t → Bytes s → Bytes t → Agree (8 * length s) s t → s ≡ t
same_bits s t e hs ht a =
    ext_get_or 0 s t e (λ i l. sym (byte-field s i (hs i)) ∙ field-cong s t (8 * i) 8 (λ k h. a (8 * i + k) (omega arith)) ∙ byte-field t i (ht i))

-- a loop that puts the field from its highest bit on
pub put-none : (at v : ℕ) (l : List ℕ) → l ≡ put_field at 0 v l
unfolding put_field
put-none at v l = refl

pub put-more : (at w v k : ℕ) (l : List ℕ) {m : List ℕ} → k < w → m ≡ put_field at k (v / 2 ^ (w - k)) l → put_bit (at + k) (v / 2 ^ (w - 1 - k) % 2) m ≡ put_field at (k + 1) (v / 2 ^ (w - (k + 1))) l
unfolding put_field
put-more at w v k l {m} h e =
    let q : w - suc k ≡ w - 1 - k = omega arith in
    let d : w - 1 - k + 1 ≡ w - k = omega arith in
    rw (add-one, q) (ap (put_bit (at + k) (v / 2 ^ (w - 1 - k) % 2)) (e ∙ ap (λ (x : ℕ). put_field at k x l) (sym (shr-shr v (w - 1 - k) 1 ∙ ap (λ (x : ℕ). v / 2 ^ x) d))))

-- bytes stay bytes
bytes-bit : (k b : ℕ) (l : List ℕ) → b < 2 → Bytes l → Bytes (put_bit k b l)
unfolding put_bit
bytes-bit k b l hb h i = split (dec_lt (k / 8) (length l)) (ℕ_discrete i (k / 8))
  where
    y : ℕ
    y = with_bit (get_or l (k / 8) 0) (7 - k % 8) b

    split : Dec (k / 8 < length l) → Dec (i ≡ k / 8) → get_or (set l (k / 8) y) i 0 < byte_values
    split (yes p) (yes q) = rw (q, get_or-set_same l (k / 8) y 0 p) (with_byte (get_or l (k / 8) 0) (7 - k % 8) b hb (h (k / 8)) (omega arith))
    split (yes p) (no q) = rw (get_or-set_other l (k / 8) i y 0 q) (h i)
    split (no p) q = rw (set_out l (k / 8) y (omega arith)) (h i)

pub bytes-field : (at w v : ℕ) (l : List ℕ) → Bytes l → Bytes (put_field at w v l)
unfolding put_field
bytes-field at zero v l h = h
bytes-field at (suc w) v l h = bytes-bit (at + w) (v % 2) (put_field at w (v / 2) l) (omega arith) (bytes-field at w (v / 2) l h)

-- bytes after those that are put stay as they are
module _ (r : List ℕ) where
  append-bit : (k b : ℕ) (l : List ℕ) → k < 8 * length l → put_bit k b (l ++ r) ≡ put_bit k b l ++ r
  unfolding put_bit
  append-bit k b l h =
      ap (λ (x : ℕ). set (l ++ r) (k / 8) (with_bit x (7 - k % 8) b)) (get_or-append l r 0 (k / 8) (omega arith))
      ∙ set-append_left l r (k / 8) _ (omega arith)

  pub append-field : (at w v : ℕ) (l : List ℕ) → at + w ≤ 8 * length l → put_field at w v (l ++ r) ≡ put_field at w v l ++ r
  unfolding put_field
  append-field at zero v l h = refl
  append-field at (suc w) v l h =
      ap (put_bit (at + w) (v % 2)) (append-field at w (v / 2) l (omega arith))
      ∙ append-bit (at + w) (v % 2) (put_field at w (v / 2) l) (omega (arith, length-field at w (v / 2) l))

-- equal fields have equal bits
pub field-bits : (s t : List ℕ) (at w : ℕ) → field_at s at w ≡ field_at t at w → (k : ℕ) → k < w → bit_at s (at + k) ≡ bit_at t (at + k)
unfolding field_at
field-bits s t at zero e k h = absurd (omega arith)
field-bits s t at (suc w) e k h = split (field-bits s t at w front k) (dec_lt k w)
  where
    front : field_at s at w ≡ field_at t at w
    front = omega (arith, e, bit-lt s (at + w), bit-lt t (at + w))

    last : bit_at s (at + w) ≡ bit_at t (at + w)
    last = omega (arith, e, bit-lt s (at + w), bit-lt t (at + w))

    split : (k < w → bit_at s (at + k) ≡ bit_at t (at + k)) → Dec (k < w) → bit_at s (at + k) ≡ bit_at t (at + k)
    split ih (yes p) = ih p
    split ih (no p) = let q : k ≡ w = omega arith in rw q last
