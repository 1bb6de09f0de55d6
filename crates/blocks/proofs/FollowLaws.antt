-- The cuts of a list, made one after another in an array, and following them to the block of a state.
use mathlib.Core.Path.{◌≡◌, refl, sym, ap, ◌∙◌}
use mathlib.Core.Logic.{⊎_elim, ◌≢◌}
use mathlib.Core.Bool.{Bool, true, false, cond, and-false}
use mathlib.Core.List.{List, [], ◌∷◌, ◌++◌}
use mathlib.Core.Option.{some}
use Prim.Native.Nat.{ℕ, zero, suc, ◌+◌, ◌*◌, ◌≤◌, ◌<◌}
use native.Mathlib.Nat.{not-suc-le-zero}
use native.Mathlib.Omega.{arith}
use native.Mathlib.Numerals.{add-one}
use lib.ListN.{length, get_or, take}
use lib.Seq.{get_or-take}
use borrow.Author.Tests.{eq-eqb, ne_eqb}
use Rattle.task.specs.declared.Block.{Block}
use Rattle.task.specs.Loops.{tab}
use Rattle.task.specs.Task.{Task, State, Accepted, column, block, position, at, column_count, is_state}
use Rattle.task.proofs.LoopLaws.{and_left, and_right, tab-length, below_suc}
use Rattle.blocks.specs.declared.Cut.{Cut}
use Rattle.blocks.specs.Blocks.{Blocks, holds, block_at, cut_block, in_block, whole, cut_ok, cuts_ok, cut_all, accepted, blocks_of, block_of}
use Rattle.blocks.specs.Flat.{cut_at, cuts_in, goes_on, followed, followed_by}
use Rattle.blocks.proofs.LeadLaws.{in_within}
use Rattle.blocks.proofs.PartLaws.{same_or_not, Parts, CutFits, Origin, origin, fits, cut_parts}
use Rattle.blocks.proofs.CutLaws.{whole_parts, accepted-parts, blocks_more, blocks-length, block-only}

pub followed-none : (l : List ℕ) (x : State) → followed l x 0 ≡ 0
unfolding followed
followed-none l x = refl

-- following n cuts leads to one of the blocks 0 to n
pub followed-most : (l : List ℕ) (x : State) (n : ℕ) → followed l x n ≤ n
unfolding followed
followed-most l x zero = omega arith
followed-most l x (suc i) = pick-most (goes_on (cut_at l i) x (followed l x i)) (followed-most l x i)
  where
    pick-most : (b : Bool) → followed l x i ≤ i → cond b (suc i) (followed l x i) ≤ suc i
    pick-most true h = omega arith
    pick-most false h = omega arith

-- one cut more: the state goes on, or stays
module _ (has : ℕ → ℕ → Bool) (l : List ℕ) where
  pub by-none : 0 ≡ followed_by has l 0
  unfolding followed_by
  by-none = refl

  module _ (i a : ℕ) (is : a ≡ followed_by has l i) where
    pub by-on : get_or l (i * 3) 0 ≡ a → has (get_or l (i * 3 + 1) 0) (get_or l (i * 3 + 2) 0) ≡ true → i + 1 ≡ followed_by has l (i + 1)
    unfolding followed_by
    by-on e h = sym (rw (add-one, ← is, eq-eqb _ _ e, h) refl)

    pub by-other : get_or l (i * 3) 0 ≢ a → a ≡ followed_by has l (i + 1)
    unfolding followed_by
    by-other n = sym (rw (add-one, ← is, ne_eqb _ _ n) refl)

    pub by-unwanted : has (get_or l (i * 3 + 1) 0) (get_or l (i * 3 + 2) 0) ≡ false → a ≡ followed_by has l (i + 1)
    unfolding followed_by
    by-unwanted h = sym (rw (add-one, ← is, h, and-false) refl)

-- of a state as the task has it
pub by-state : (l : List ℕ) (x : State) (n : ℕ) → followed_by (λ j w. holds w (at x (column j))) l n ≡ followed l x n
unfolding followed_by followed goes_on cut_at
by-state l x zero = refl
by-state l x (suc i) = rw (by-state l x i) refl

-- a block of a cut, by where its parent is
module _ (t : Task) (bs : Blocks) (c : Cut) (good : Parts t bs) (f : CutFits t bs c) (x : State) (is : is_state t x ≡ true) (a : Block) (made : a.0 < length bs) (inside : in_block t x (block_at bs a) ≡ true) where
  -- the new number for a wanted state of the block that is cut, the old one for any other
  abbrev pub to : ℕ → Block
  to n = block (cond (goes_on c x a.0) n a.0)

  side : (o : Block) (r : Origin t bs c good f o) → in_block t x (block_at (cut_block bs c) o) ≡ true → r.parent ≡ a → r.fresh ≡ goes_on c x a.0
  unfolding goes_on
  side o r i e =
      ⊎_elim
      (λ (q : c.block.0 ≡ a.0).
      let z : a ≡ c.block = ap block (sym q) in
      rw (eq-eqb c.block.0 a.0 q) (sym (r.side (e ∙ z) x i)))
      (λ (q : c.block.0 ≢ a.0). rw (ne_eqb c.block.0 a.0 q) (other r.fresh refl q))
      (same_or_not c.block.0 a.0)
    where
      other : (u : Bool) → r.fresh ≡ u → c.block.0 ≢ a.0 → u ≡ false
      other true p q = absurd (q (ap (λ (k : Block). k.0) (sym (r.whose p) ∙ e)))
      other false p q = refl

  pub goes-on : (in_block t x (block_at (cut_block bs c) (to (length bs))) ≡ true) × ((to (length bs)).0 < length (cut_block bs c))
  goes-on =
      let w = (cut_parts t bs c good f).covers x is in
      let r = origin t bs c good f w.0 w.1 in
      let e : r.parent ≡ a = good.apart x r.parent a r.known made (in_within t _ _ r.within x w.2) inside in
      let s = side w.0 r w.2 e in
      let n : w.0 ≡ block (cond (goes_on c x a.0) (length bs) a.0) = r.number ∙ rw (s, e) (out (goes_on c x a.0)) in
      (rw n at w.2, rw n at w.1)
    where
      out : (u : Bool) → cond u (block (length bs)) a ≡ block (cond u (length bs) a.0)
      out true = refl
      out false = refl

-- places past the columns do not count
pub followed-take : (l : List ℕ) (x : State) (k n : ℕ) → ((i : ℕ) → i < n → get_or l (i * 3 + 1) 0 < k) → followed l (take k x) n ≡ followed l x n
unfolding followed goes_on cut_at at
followed-take l x k zero h = refl
followed-take l x k (suc n) h = rw (followed-take l x k n (λ i b. h i (omega arith)), get_or-take k x (get_or l (n * 3 + 1) 0) (position 0) (h n (omega arith)))

-- ---- a list of cuts, one cut more
pub cuts-none : (l : List ℕ) → cuts_in 0 l ≡ []
unfolding cuts_in tab
cuts-none l = refl

pub cuts-more : (n : ℕ) (l : List ℕ) → cuts_in (n + 1) l ≡ cuts_in n l ++ (cut_at l n ∷ [])
unfolding cuts_in tab
cuts-more n l = rw add-one refl

pub cuts-length : (n : ℕ) (l : List ℕ) → length (cuts_in n l) ≡ n
unfolding cuts_in
cuts-length n l = tab-length n (cut_at l)

-- ---- the whole list
module _ (t : Task) (v : Accepted t) where
  split : (cs : List Cut) (c : Cut) (bs : Blocks) → cuts_ok t bs (cs ++ (c ∷ [])) ≡ true → (cuts_ok t bs cs ≡ true) × (cut_ok t (cut_all bs cs) c ≡ true)
  unfolding cuts_ok cut_all
  split [] c bs h = (refl, and_left (cut_ok t bs c) true h)
  split (d ∷ cs) c bs h =
      let l = and_left (cut_ok t bs d) (cuts_ok t (cut_block bs d) (cs ++ (c ∷ []))) h in
      let r = split cs c (cut_block bs d) (and_right (cut_ok t bs d) _ h) in
      (rw (l, r.0), r.1)

  -- an accepted list without its last cut
  pub accepted-less : (cs : List Cut) (c : Cut) → accepted t (cs ++ (c ∷ [])) ≡ true → (accepted t cs ≡ true) × (cut_ok t (blocks_of t cs) c ≡ true)
  unfolding accepted blocks_of
  accepted-less cs c h = split cs c (whole t ∷ []) h

  Here : List ℕ → State → ℕ → Type 0
  Here l x n = (in_block t x (block_at (blocks_of t (cuts_in n l)) (block (followed l x n))) ≡ true) × (followed l x n < length (blocks_of t (cuts_in n l)))

  more : (n : ℕ) (l : List ℕ) → cuts_in (suc n) l ≡ cuts_in n l ++ (cut_at l n ∷ [])
  more n l = rw (← add-one) (cuts-more n l)

  here : (l : List ℕ) (x : State) → is_state t x ≡ true → (n : ℕ) → accepted t (cuts_in n l) ≡ true → Here l x n
  unfolding Here followed
  here l x is zero h = unfold cuts_in tab blocks_of cut_all in first
    where
      first : (in_block t x (block_at (whole t ∷ []) (block 0)) ≡ true) × (0 < 1)
      first = let w = (whole_parts t v).covers x is in let e : w.0 ≡ block 0 = ap block (omega (arith, w.1)) in (rw e at w.2, omega arith)
  here l x is (suc n) h =
      let c = cut_at l n in
      let cs = cuts_in n l in
      let s = accepted-less cs c (rw more at h) in
      let i = here l x is n s.0 in
      let k : length (blocks_of t cs) ≡ suc n = blocks-length t cs ∙ ap suc (cuts-length n l) in
      let g = goes-on t (blocks_of t cs) c (accepted-parts t v cs s.0) (fits t (blocks_of t cs) c s.1) x is (block (followed l x n)) i.1 i.0 in
      rw (more, blocks_more) (rw k at g)

  -- following the cuts finds the block of a state
  pub follow-finds : (l : List ℕ) (n : ℕ) → accepted t (cuts_in n l) ≡ true → (x : State) → is_state t x ≡ true → block_of t (blocks_of t (cuts_in n l)) x ≡ some (block (followed l x n))
  unfolding Here
  follow-finds l n h x is =
      let r = here l x is n h in
      block-only t (blocks_of t (cuts_in n l)) (accepted-parts t v (cuts_in n l) h) x is (block (followed l x n)) r.1 r.0

  pub cut-columns : (l : List ℕ) (n : ℕ) → accepted t (cuts_in n l) ≡ true → (i : ℕ) → i < n → get_or l (i * 3 + 1) 0 < column_count t
  unfolding cut_at
  cut-columns l zero h i b = absurd (not-suc-le-zero b)
  cut-columns l (suc n) h i b =
      let s = accepted-less (cuts_in n l) (cut_at l n) (rw more at h) in
      ⊎_elim (λ (e : i ≡ n). rw e (fits t (blocks_of t (cuts_in n l)) (cut_at l n) s.1).there) (λ (k : i < n). cut-columns l n s.0 i k) (below_suc b)

  -- the same of a state with places past the columns
  pub follow-block : (l : List ℕ) (n : ℕ) → accepted t (cuts_in n l) ≡ true → (x : State) → is_state t (take (column_count t) x) ≡ true
      → block_of t (blocks_of t (cuts_in n l)) (take (column_count t) x) ≡ some (block (followed l x n))
  follow-block l n h x is = follow-finds l n h (take (column_count t) x) is ∙ rw (followed-take l x (column_count t) n (cut-columns l n h))
