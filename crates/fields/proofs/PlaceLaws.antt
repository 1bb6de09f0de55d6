-- Laws of values put into a table one after the other, and of what stands at its places.
use Prim.Native.Nat.{ℕ, zero, suc, ◌+◌, ◌-◌, ◌*◌, ◌≤◌, ◌<◌}
use native.Mathlib.Nat.{add-zero, zero-add, suc-mul, mul-le-mul, le_refl, le_of_suc-le-suc}
use native.Mathlib.Omega.{arith}
use native.Mathlib.Numerals.{add-one}
use native.Mathlib.Decide.{dec_lt}
use mathlib.Core.Path.{◌≡◌, refl, sym, ap, ap₂, ◌∙◌}
use mathlib.Core.Bool.{true}
use mathlib.Core.List.{List, [], ◌∷◌, ◌++◌, append_assoc}
use lib.ListN.{length, get_or, set, take, drop, length-set, length-append, length-drop, get_or-append}
use borrow.Rule.Slice.PartMut.{put_mid}
use Rattle.std.proofs.Common.{take-append-drop}
use lib.Seq.{length-take-le, take_all, get_or-take, take-add, drop-cons, drop-drop}
use borrow.Author.Tests.{lt-ltb}
use Rattle.fields.specs.Judging.{Field, in_table, each}
use Rattle.fields.specs.Places.{puts}
use Rattle.fields.proofs.JudgingLaws.{each_more, place_here}

pub puts-length : {A : Type 0} (at : ℕ) (xs l : List A) → length (puts at xs l) ≡ length l
unfolding puts
puts-length at [] l = refl
puts-length at (x ∷ xs) l = puts-length (at + 1) xs (set l at x) ∙ length-set l at x

pub puts-append : {A : Type 0} (at : ℕ) (a b l : List A) → puts at (a ++ b) l ≡ puts (at + length a) b (puts at a l)
unfolding puts
puts-append at [] b l = rw add-zero refl
puts-append at (x ∷ a) b l =
    let e : at + 1 + length a ≡ at + suc (length a) = omega arith in
    puts-append (at + 1) a b (set l at x) ∙ ap (λ (k : ℕ). puts k b (puts (at + 1) a (set l at x))) e

-- lists of c values each
module _ {A : Type 0} (f : ℕ → List A) (c : ℕ) (same : (i : ℕ) → length (f i) ≡ c) where
  pub each-length : (n : ℕ) → length (each n f) ≡ n * c
  unfolding each
  each-length zero = omega arith
  each-length (suc n) = length-append (each n f) (f n) ∙ omega (arith, each-length n, same n, suc-mul n c)

-- a loop that puts them
module _ {A : Type 0} (f : ℕ → List A) (c : ℕ) (same : (i : ℕ) → length (f i) ≡ c) where
  pub puts-more : (at i : ℕ) (l : List A) {t : List A} → t ≡ puts at (each i f) l → puts (at + i * c) (f i) t ≡ puts at (each (i + 1) f) l
  puts-more at i l {t} e =
      sym
      (ap (λ (x : List A). puts at x l) (each_more i f) ∙ puts-append at (each i f) (f i) l
      ∙ ap (λ (x : ℕ). puts (at + x) (f i) (puts at (each i f) l)) (each-length f c same i) ∙ ap (puts (at + i * c) (f i)) (sym e))

pub puts-next : {A : Type 0} (f : ℕ → List A) (c : ℕ) → ((i : ℕ) → length (f i) ≡ c) → (i : ℕ) (l : List A) {t : List A} → t ≡ puts 0 (each i f) l → puts (i * c) (f i) t ≡ puts 0 (each (i + 1) f) l
puts-next f c same i l {t} e = ap (λ (x : ℕ). puts x (f i) t) (sym (zero-add (i * c))) ∙ puts-more f c same 0 i l e

pub puts_none : {A : Type 0} (at : ℕ) (f : ℕ → List A) (l : List A) → l ≡ puts at (each 0 f) l
unfolding puts each
puts_none at f l = refl

pub puts-end : {A : Type 0} (at : ℕ) (f : ℕ → List A) (l : List A) {t : List A} (i n : ℕ) → i ≤ n → n ≤ i → t ≡ puts at (each i f) l → t ≡ puts at (each n f) l
puts-end at f l i n h g e = let q : i ≡ n = omega arith in e ∙ ap (λ (k : ℕ). puts at (each k f) l) q

set_after : {A : Type 0} (a : List A) (y x : A) (l : List A) → set (a ++ (y ∷ l)) (length a) x ≡ (a ++ (x ∷ [])) ++ l
set_after [] y x l = refl
set_after (z ∷ a) y x l = ap (λ (k : List _). z ∷ k) (set_after a y x l)

puts-after : {A : Type 0} (a xs l : List A) → length xs ≤ length l → puts (length a) xs (a ++ l) ≡ a ++ (xs ++ drop (length xs) l)
unfolding puts
puts-after a [] l h = refl
puts-after a (x ∷ xs) [] h = absurd (omega arith)
puts-after a (x ∷ xs) (y ∷ l) h =
    let e : length (a ++ (x ∷ [])) ≡ length a + 1 = length-append a (x ∷ []) in
    ap (puts (length a + 1) xs) (set_after a y x l) ∙ ap (λ (k : ℕ). puts k xs ((a ++ (x ∷ [])) ++ l)) (sym e)
    ∙ puts-after (a ++ (x ∷ [])) xs l (le_of_suc-le-suc h) ∙ append_assoc a (x ∷ []) (xs ++ drop (length xs) l)

-- put from the front: the values, and then what stood after them
pub puts-over : {A : Type 0} (xs l : List A) → length xs ≤ length l → puts 0 xs l ≡ xs ++ drop (length xs) l
puts-over xs l h = puts-after [] xs l h

-- what a write to a part leaves
pub puts-part : {A : Type 0} (at k : ℕ) (xs l : List A) → at + k ≤ length l → length xs ≡ k → put_mid at k l xs ≡ puts at xs l
puts-part at k xs l h e =
    let front = take at l in
    let n : length front ≡ at = length-take-le at l (omega arith) in
    let whole : puts 0 front l ≡ l = puts-over front l (omega arith) ∙ ap (λ (i : ℕ). front ++ drop i l) n ∙ take-append-drop at l in
    let rest : drop (length (front ++ xs)) l ≡ drop k (drop at l) = ap (λ (i : ℕ). drop i l) (length-append front xs ∙ omega arith) ∙ sym (drop-drop k at l) in
    sym
    (ap (puts at xs) (sym whole) ∙ ap (λ (i : ℕ). puts i xs (puts 0 front l)) (sym (zero-add _ ∙ n)) ∙ sym (puts-append 0 front xs l)
    ∙ puts-over (front ++ xs) l (omega (arith, length-append front xs)) ∙ append_assoc front xs _ ∙ ap (λ (y : List _). front ++ (xs ++ y)) rest)

get_d_after : {A : Type 0} (d : A) (a b : List A) (k : ℕ) → get_or (a ++ b) (length a + k) d ≡ get_or b k d
get_d_after d [] b k = let e : 0 + k ≡ k = omega arith in rw e refl
get_d_after d (x ∷ a) b k = let e : suc (length a) + k ≡ suc (length a + k) = omega arith in rw e (get_d_after d a b k)

-- value k of turn i stands at place i c + k
module _ {A : Type 0} (d : A) (f : ℕ → List A) (c : ℕ) (same : (i : ℕ) → length (f i) ≡ c) where
  pub each_item : (n i k : ℕ) → i < n → k < c → get_or (each n f) (i * c + k) d ≡ get_or (f i) k d
  unfolding each
  each_item zero i k h l = absurd (omega arith)
  each_item (suc n) i k h l = split (λ p. each_item n i k p l) (dec_lt i n)
    where
      long : length (each n f) ≡ n * c
      long = each-length f c same n

      inside : i < n → i * c + k < length (each n f)
      inside p = omega (arith, long, suc-mul i c, mul-le-mul {n₁ = suc i} {m₁ = c} {n₂ = n} {m₂ = c} p (le_refl c))

      split : (i < n → get_or (each n f) (i * c + k) d ≡ get_or (f i) k d) → Dec (i < n) → get_or (each n f ++ f n) (i * c + k) d ≡ get_or (f i) k d
      split ih (yes p) = get_or-append (each n f) (f n) d (i * c + k) (inside p) ∙ ih p
      split ih (no p) =
          let e : i ≡ n = omega arith in
          rw e (ap (λ (x : ℕ). get_or (each n f ++ f n) (x + k) d) (sym long) ∙ get_d_after d (each n f) (f n) k)

-- of numbers
pub each_at : (f : ℕ → List ℕ) (c : ℕ) → ((i : ℕ) → length (f i) ≡ c) → (n i k : ℕ) → i < n → k < c → get_or (each n f) (i * c + k) 0 ≡ get_or (f i) k 0
each_at = each_item 0

-- ---- lists cut out of a table one after the other are its front
pub slices : (f : ℕ → List ℕ) (c n at : ℕ) (l : List ℕ) → ((i : ℕ) → i < n → f i ≡ take c (drop (at + i * c) l)) → each n f ≡ take (n * c) (drop at l)
unfolding each
slices f c zero at l h = let z : 0 * c ≡ 0 = omega arith in rw z refl
slices f c (suc n) at l h =
    ap₂ (λ (x y : List ℕ). x ++ y) (slices f c n at l (λ i k. h i (omega arith))) (h n (omega arith) ∙ ap (take c) (sym (drop-drop (n * c) at l)))
    ∙ sym (take-add (n * c) c (drop at l)) ∙ ap (λ (x : ℕ). take x (drop at l)) (sym (suc-mul n c))

pub one : (l : List ℕ) (i : ℕ) → i < length l → take 1 (drop i l) ≡ get_or l i 0 ∷ []
one l i h = rw (drop-cons l i 0 h) refl

pub two : (l : List ℕ) (i : ℕ) → i + 1 < length l → take 2 (drop i l) ≡ get_or l i 0 ∷ get_or l (i + 1) 0 ∷ []
two l i h = rw (drop-cons l i 0 (omega arith)) (ap (λ (x : List ℕ). get_or l i 0 ∷ x) (rw add-one (one l (suc i) (omega arith))))

pub three : (l : List ℕ) (i : ℕ) → i + 2 < length l → take 3 (drop i l) ≡ get_or l i 0 ∷ get_or l (i + 1) 0 ∷ get_or l (i + 2) 0 ∷ []
three l i h =
    let z : suc i + 1 ≡ i + 2 = omega arith in
    rw (drop-cons l i 0 (omega arith)) (ap (λ (x : List ℕ). get_or l i 0 ∷ x) (rw add-one (two l (suc i) (omega arith) ∙ rw z refl)))

-- ---- fields of tables
pub same-field : (f g : Field) → f.here ≡ true → g.here ≡ true → f.value ≡ g.value → f ≡ g
same-field f g hf hg v = λ k. record { here = (hf ∙ sym hg) k; value = v k }

-- a place of a table that begins with values is the field that its value was taken from
pub filled-place : (xs rest : List ℕ) (k : ℕ) (f : Field) → k < length xs → f.here ≡ true → get_or xs k 0 ≡ f.value → in_table (xs ++ rest) k ≡ f
filled-place xs rest k f h here e = same-field (in_table (xs ++ rest) k) f (lt-ltb k (length (xs ++ rest)) (omega (arith, length-append xs rest))) here (get_or-append xs rest 0 k h ∙ e)

-- a place among the first k is there, and holds its value, exactly as in the list of them
place-taken : (k : ℕ) (t : List ℕ) (i : ℕ) → i < k → in_table (take k t) i ≡ in_table t i
place-taken k t i l = split (dec_lt (length t) k)
  where
    split : Dec (length t < k) → in_table (take k t) i ≡ in_table t i
    split (yes h) = ap (λ (x : List ℕ). in_table x i) (take_all k t (omega arith))
    split (no h) = same-field (in_table (take k t) i) (in_table t i) (place_here (take k t) i (omega (arith, length-take-le k t (omega arith)))) (place_here t i (omega arith)) (get_or-take k t i 0 l)

pub same_place : (k : ℕ) (a b : List ℕ) → take k a ≡ take k b → (i : ℕ) → i < k → in_table a i ≡ in_table b i
same_place k a b e i l = sym (place-taken k a i l) ∙ ap (λ (x : List ℕ). in_table x i) e ∙ place-taken k b i l

-- a tail that is taken whole, as a slice from its middle on has it
pub rest_all : (s : List ℕ) (n : ℕ) → take (length s - n) (drop n s) ≡ drop n s
rest_all s n = take_all (length s - n) (drop n s) (simp length-drop (omega arith))
