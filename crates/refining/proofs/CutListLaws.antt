-- A cut put into a list of cuts, after those that stand there.
use Prim.Native.Nat.{ℕ, ◌+◌, ◌*◌, ◌≤◌, ◌<◌}
use native.Mathlib.Nat.{zero-add}
use native.Mathlib.Omega.{arith}
use mathlib.Core.Path.{◌≡◌, refl, sym, ap, ◌∙◌}
use mathlib.Core.List.{List, [], ◌∷◌, ◌++◌}
use lib.ListN.{length, get_or, set, length-set, length-append}
use lib.Seq.{get_or-set_same, get_or-set_other}
use Rattle.task.proofs.LoopLaws.{tab-ext}
use Rattle.fields.specs.Places.{puts}
use Rattle.fields.proofs.PlaceLaws.{puts-append}
use Rattle.blocks.specs.declared.Cut.{Cut}
use Rattle.blocks.specs.Flat.{cut_at, cuts_in, cut_place}
use Rattle.blocks.proofs.FollowLaws.{cuts-more, cuts-length}
use Rattle.run.specs.Listing.{listed}

module _ (n : ℕ) (c : Cut) (l : List ℕ) where
  abbrev next : List ℕ
  next = puts (n * 3) (cut_place c) l

  outside : (k : ℕ) → k < n * 3 → get_or next k 0 ≡ get_or l k 0
  unfolding puts cut_place
  outside k h =
      get_or-set_other (set (set l (n * 3) c.block.0) (n * 3 + 1) c.column.0) (n * 3 + 1 + 1) k c.wanted 0 (λ e. omega arith)
      ∙ get_or-set_other (set l (n * 3) c.block.0) (n * 3 + 1) k c.column.0 0 (λ e. omega arith)
      ∙ get_or-set_other l (n * 3) k c.block.0 0 (λ e. omega arith)

  module _ (room : n * 3 + 3 ≤ length l) where
    block-put : get_or next (n * 3) 0 ≡ c.block.0
    unfolding puts cut_place
    block-put =
        get_or-set_other (set (set l (n * 3) c.block.0) (n * 3 + 1) c.column.0) (n * 3 + 1 + 1) (n * 3) c.wanted 0 (λ e. omega arith)
        ∙ get_or-set_other (set l (n * 3) c.block.0) (n * 3 + 1) (n * 3) c.column.0 0 (λ e. omega arith)
        ∙ get_or-set_same l (n * 3) c.block.0 0 (omega arith)

    column-put : get_or next (n * 3 + 1) 0 ≡ c.column.0
    unfolding puts cut_place
    column-put =
        get_or-set_other (set (set l (n * 3) c.block.0) (n * 3 + 1) c.column.0) (n * 3 + 1 + 1) (n * 3 + 1) c.wanted 0 (λ e. omega arith)
        ∙ get_or-set_same (set l (n * 3) c.block.0) (n * 3 + 1) c.column.0 0 (omega (arith, length-set l (n * 3) c.block.0))

    wanted-put : get_or next (n * 3 + 2) 0 ≡ c.wanted
    unfolding puts cut_place
    wanted-put =
        let two : n * 3 + 2 ≡ n * 3 + 1 + 1 = omega arith in
        let a = set l (n * 3) c.block.0 in
        ap (λ (k : ℕ). get_or next k 0) two
        ∙ get_or-set_same (set a (n * 3 + 1) c.column.0) (n * 3 + 1 + 1) c.wanted 0 (omega (arith, length-set l (n * 3) c.block.0, length-set a (n * 3 + 1) c.column.0))

    pub cut-put : cuts_in (n + 1) next ≡ cuts_in n l ++ (c ∷ [])
    cut-put = cuts-more n next ∙ same
      where
        kept : (i : ℕ) → i < n → cut_at next i ≡ cut_at l i
        kept i h = unfold cut_at in rw (outside (i * 3) (omega arith), outside (i * 3 + 1) (omega arith), outside (i * 3 + 2) (omega arith)) refl

        last : cut_at next n ≡ c
        last = unfold cut_at in rw (block-put, column-put, wanted-put) refl

        front : cuts_in n next ≡ cuts_in n l
        front = unfold cuts_in in tab-ext n (cut_at next) (cut_at l) kept

        same : cuts_in n next ++ (cut_at next n ∷ []) ≡ cuts_in n l ++ (c ∷ [])
        same = rw (front, last) refl

listed-append : (a b : List Cut) → listed cut_place (a ++ b) ≡ listed cut_place a ++ listed cut_place b
unfolding listed cut_place
listed-append [] b = refl
listed-append (c ∷ a) b = ap (λ (x : List ℕ). c.block.0 ∷ c.column.0 ∷ c.wanted ∷ x) (listed-append a b)

-- a list of places of three values each
pub listed-three : {A : Type 0} (f : A → List ℕ) → ((x : A) → length (f x) ≡ 3) → (xs : List A) → length (listed f xs) ≡ length xs * 3
unfolding listed
listed-three f h [] = refl
listed-three f h (x ∷ xs) = length-append (f x) (listed f xs) ∙ omega (arith, h x, listed-three f h xs)

pub listed-length : (cs : List Cut) → length (listed cut_place cs) ≡ length cs * 3
unfolding cut_place
listed-length = listed-three cut_place (λ c. refl)

-- the list that was lent, with one cut more put into it
pub list-more : (n : ℕ) (c : Cut) (l l₀ : List ℕ) → l ≡ puts 0 (listed cut_place (cuts_in n l)) l₀ → puts (n * 3) (cut_place c) l ≡ puts 0 (listed cut_place (cuts_in n l ++ (c ∷ []))) l₀
list-more n c l l₀ e =
    let cs = cuts_in n l in
    let xs = listed cut_place cs in
    let long : 0 + length xs ≡ n * 3 = zero-add (length xs) ∙ listed-length cs ∙ ap (λ (k : ℕ). k * 3) (cuts-length n l) in
    ap (puts (n * 3) (cut_place c)) e
    ∙ ap (λ (k : ℕ). puts k (cut_place c) (puts 0 xs l₀)) (sym long)
    ∙ sym (puts-append 0 xs (cut_place c) l₀)
    ∙ ap (λ (x : List ℕ). puts 0 x l₀) (sym (listed-append cs (c ∷ []) ∙ ap (λ (x : List ℕ). xs ++ x) (alone c)))
  where
    alone : (c : Cut) → listed cut_place (c ∷ []) ≡ cut_place c
    alone c = unfold listed cut_place in refl
