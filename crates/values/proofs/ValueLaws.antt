-- Laws of values put as bytes.
use Rattle.std.proofs.Common.{ℕ, ◌+◌, ◌-◌, ◌*◌, ◌≤◌, ◌≡◌, refl, sym, ap, ◌∙◌, List, [], ◌++◌, append_assoc, map, map-id, length, get_or, take, drop, length-take-le, drop_of_length-le, append-nil, ℤ, pos, negsuc, w32, of_z, to_z, SFits, to_z-of_z, arith}
use mathlib.Core.List.{map-append}
use lib.ListN.{length-map, get_or-append}
use borrow.Rule.Slice.PartMut.{put_mid}
use Rattle.task.specs.Loops.{tab, over}
use Rattle.task.proofs.LoopLaws.{tab-length}
use Rattle.fields.specs.Judging.{each}
use Rattle.fields.specs.Places.{puts}
use Rattle.fields.proofs.JudgingLaws.{each-ext}
use Rattle.fields.proofs.PlaceLaws.{each-length, puts-length, puts-next, puts-over, puts-part}
use Rattle.values.specs.Values.{value_bytes, bytes_at, bytes_of, twos, signed_bytes}

pub four : (vs : List ℕ) (i : ℕ) → length (bytes_at vs i) ≡ 4
unfolding bytes_at value_bytes
four vs i = refl

-- the first places of a list, written over on their own
pub over-front : {A : Type 0} (f : ℕ → A) (n : ℕ) (l : List A) → n ≤ length l → over (tab n f) (take n l) ++ drop n l ≡ over (tab n f) l
unfolding over
over-front f n l h =
    let none : drop (length (tab n f)) (take n l) ≡ [] = drop_of_length-le (take n l) (omega (arith, tab-length n f, length-take-le n l h)) in
    ap (λ (x : List _). (tab n f ++ x) ++ drop n l) none ∙ ap (λ (x : List _). x ++ drop n l) (append-nil (tab n f)) ∙ ap (λ (i : ℕ). tab n f ++ drop i l) (sym (tab-length n f))

-- the bits of a signed number are its two's complement
pub twos_bits : (z : ℤ) → SFits w32 z → of_z w32 (to_z w32 (of_z w32 z)) ≡ twos z
unfolding twos
twos_bits (pos n) f = ap (of_z w32) (to_z-of_z f)
twos_bits (negsuc n) f = ap (of_z w32) (to_z-of_z f)

-- one value more
pub value-put : (vs : List ℕ) (i v : ℕ) (l : List ℕ) {t : List ℕ} → i * 4 + 4 ≤ length l → v ≡ get_or vs i 0 → t ≡ puts 0 (each i (bytes_at vs)) l
    → put_mid (i * 4) (i * 4 + 4 - i * 4) t (value_bytes v) ≡ puts 0 (each (i + 1) (bytes_at vs)) l
unfolding bytes_at value_bytes
value-put vs i v l {t} h q e =
    let n : length t ≡ length l = ap length e ∙ puts-length 0 (each i (bytes_at vs)) l in
    puts-part (i * 4) _ (value_bytes v) t (omega arith) (omega arith) ∙ ap (λ (x : ℕ). puts (i * 4) (value_bytes x) t) q ∙ puts-next (bytes_at vs) 4 (four vs) i l e

-- ---- numbers of which each has a worth
module _ {A : Type 0} (worth : A → ℕ) where
  -- the first of them, over the front of the bytes
  values-over : (xs ys : List A) (l : List ℕ) (n : ℕ) → n ≡ length xs → n * 4 ≤ length l → puts 0 (each n (bytes_at (map worth (xs ++ ys)))) l ≡ over (bytes_of (map worth xs)) l
  unfolding over bytes_of bytes_at
  values-over xs ys l n e h =
      let vs = map worth xs in
      let m : n ≡ length vs = e ∙ sym (length-map xs worth) in
      let q : each n (bytes_at (map worth (xs ++ ys))) ≡ each (length vs) (bytes_at vs) =
      ap (λ (x : List ℕ). each n (bytes_at x)) (map-append worth xs ys) ∙ ap (λ (k : ℕ). each k (bytes_at (vs ++ map worth ys))) m
      ∙ each-ext (length vs) _ _ (λ i b. ap value_bytes (get_or-append vs (map worth ys) 0 i b)) in
      ap (λ (x : List ℕ). puts 0 x l) q ∙ puts-over (each (length vs) (bytes_at vs)) l (omega (arith, each-length (bytes_at vs) 4 (four vs) (length vs)))

  -- the same of a list that was itself written over
  pub list_over : (xs old ys : List A) (l : List ℕ) (n : ℕ) {vs : List A} → vs ≡ over xs old → n ≡ length xs → n * 4 ≤ length l
      → puts 0 (each n (bytes_at (map worth (vs ++ ys)))) l ≡ over (bytes_of (map worth xs)) l
  unfolding over
  list_over xs old ys l n e k h =
      let rest = drop (length xs) old ++ ys in
      ap (λ (x : List A). puts 0 (each n (bytes_at (map worth x))) l) (ap (λ (x : List A). x ++ ys) e ∙ append_assoc xs (drop (length xs) old) ys)
      ∙ values-over xs rest l n k h

pub signed-over : (xs old ys : List ℤ) (l : List ℕ) (n : ℕ) {vs : List ℤ} → vs ≡ over xs old → n ≡ length xs → n * 4 ≤ length l
    → puts 0 (each n (bytes_at (map twos (vs ++ ys)))) l ≡ over (signed_bytes xs) l
unfolding signed_bytes
signed-over xs old ys l n e k h = list_over twos xs old ys l n e k h

pub unsigned-over : (xs old ys l : List ℕ) (n : ℕ) {vs : List ℕ} → vs ≡ over xs old → n ≡ length xs → n * 4 ≤ length l
    → puts 0 (each n (bytes_at (map (λ (v : ℕ). v) (vs ++ ys)))) l ≡ over (bytes_of xs) l
unsigned-over xs old ys l n e k h = list_over (λ (v : ℕ). v) xs old ys l n e k h ∙ ap (λ (x : List ℕ). over (bytes_of x) l) (map-id xs)

pub nothing_put : (vs l : List ℕ) → puts 0 (each 0 (bytes_at vs)) l ≡ l
unfolding puts each
nothing_put vs l = refl
