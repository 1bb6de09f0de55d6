-- Laws of the flat arrays: what is written where, the first block, a cut made, and the block of a state found by following the cuts.
use mathlib.Core.Path.{◌≡◌, refl, sym, ap, ◌∙◌}
use mathlib.Core.Logic.{◌⊎◌, inl, inr, ⊎_elim, ◌≢◌}
use mathlib.Core.Bool.{false}
use mathlib.Core.List.{List, [], ◌∷◌, ◌++◌, append-nil}
use Prim.Native.Nat.{ℕ, zero, suc, ◌+◌, ◌-◌, ◌≤◌, ◌<◌}
use native.Mathlib.Nat.{not-suc-le-zero, zero-add}
use native.Mathlib.Omega.{arith}
use native.Mathlib.Numerals.{add-one}
use lib.ListN.{length, get_or, set, drop, length-set, length-drop, drop_of_length-le, get_or-append}
use Rattle.std.specs.List.{copy_within}
use Rattle.std.proofs.lemmas.List.Edits.{paste_none, paste_more}
use lib.Seq.{paste, get_or-drop, get_or-set_same, get_or-set_other, ext_get_or}
use Rattle.task.specs.declared.Column.{Column}
use Rattle.task.specs.declared.Block.{Block}
use Rattle.task.specs.Loops.{tab, over}
use Rattle.task.specs.Task.{Task, column, at, column_count, size_of, per_column}
use Rattle.task.specs.Sizes.{block_places}
use Rattle.task.proofs.TaskLaws.{per-length}
use Rattle.task.proofs.LoopLaws.{over-length, tab-at, tab-length, tab-ext, below_suc}
use Rattle.blocks.specs.declared.Cut.{Cut}
use Rattle.blocks.specs.Blocks.{Sets, Blocks, every, common, without, set_at, block_at, with_set, cut_block, whole, cut_ok}
use Rattle.blocks.specs.Flat.{past, row_of, sets_in, blocks_in, laid, cut_in, Cuttable}
use Rattle.blocks.specs.Masks.{parts}
use borrow.Author.Tests.{lt-ltb, le-ltb}
use Rattle.blocks.proofs.PartLaws.{same_or_not, old_block, old_set, rest_block, new_block, cut-is}

-- ---- lists of known length

-- every place written over
pub over-all : {A : Type 0} (n : ℕ) (f : ℕ → A) (l : List A) → length l ≡ n → over (tab n f) l ≡ tab n f
unfolding over
over-all n f l h = rw (tab-length n f, drop_of_length-le l {i = n} (omega arith), append-nil)

pub tab-set : {A : Type 0} (n : ℕ) (f g : ℕ → A) (a : ℕ) (v d : A) → g a ≡ v → ((i : ℕ) → i < n → i ≢ a → g i ≡ f i) → tab n g ≡ set (tab n f) a v
tab-set n f g a v d e h =
    let lg = tab-length n g in
    let lf = tab-length n f in
    ext_get_or d (tab n g) (set (tab n f) a v) (lg ∙ sym (length-set (tab n f) a v ∙ lf))
    (λ i b.
    let k : i < n = omega arith in
    tab-at n g d i k
    ∙ ⊎_elim
    (λ (q : i ≡ a). ap g q ∙ e ∙ sym (rw q (get_or-set_same (tab n f) a v d (omega arith))))
    (λ (q : i ≢ a). h i k q ∙ sym (get_or-set_other (tab n f) a i v d q ∙ tab-at n f d i k))
    (same_or_not i a))

-- what stands past the first place
pub past-start : (l : List ℕ) (i : ℕ) → past l 0 i ≡ get_or l i 0
unfolding past
past-start l i = rw zero-add

-- ---- values laid from a place on
module _ (f : ℕ → ℕ) (place : ℕ) (l : List ℕ) where
  pub laid_none : laid 0 f place l ≡ l
  unfolding laid
  laid_none = refl

  pub laid_more : (n : ℕ) → laid (n + 1) f place l ≡ set (laid n f place l) (place + n) (f n)
  unfolding laid
  laid_more n = rw add-one refl

  -- one store more
  pub laid-set : (i at v : ℕ) {t : List ℕ} → t ≡ laid i f place l → at ≡ place + i → v ≡ f i → set t at v ≡ laid (i + 1) f place l
  laid-set i at v e p q = rw (e, p, q) (sym (laid_more i))

  pub laid-length : (n : ℕ) → length (laid n f place l) ≡ length l
  unfolding laid
  laid-length zero = refl
  laid-length (suc n) = length-set (laid n f place l) (place + n) (f n) ∙ laid-length n

  pub laid-outside : (n i : ℕ) → (i < place) ⊎ (place + n ≤ i) → get_or (laid n f place l) i 0 ≡ get_or l i 0
  unfolding laid
  laid-outside zero i h = refl
  laid-outside (suc n) i h =
      get_or-set_other (laid n f place l) (place + n) i (f n) 0 (λ q. ⊎_elim (λ k. omega arith) (λ k. omega arith) h)
      ∙ laid-outside n i (⊎_elim (λ k. inl k) (λ k. inr (omega arith)) h)

  pub laid-at : (n j : ℕ) → j < n → place + n ≤ length l → get_or (laid n f place l) (place + j) 0 ≡ f j
  unfolding laid
  laid-at zero j h k = absurd (not-suc-le-zero h)
  laid-at (suc n) j h k =
      let e = laid-length n in
      ⊎_elim
      (λ (q : j ≡ n). rw q (get_or-set_same (laid n f place l) (place + n) (f n) 0 (omega arith)))
      (λ (q : j < n). get_or-set_other (laid n f place l) (place + n) (place + j) (f n) 0 (λ z. omega arith) ∙ laid-at n j q (omega arith))
      (below_suc h)

-- a row copied within the list
laid-pasted : (l : List ℕ) (here there n : ℕ) → here + n ≤ length l → there + n ≤ length l → paste l there (drop here l) n ≡ laid n (past l here) there l
unfolding laid past
laid-pasted l here there zero h k = sym (paste_none l there (drop here l))
laid-pasted l here there (suc n) h k =
    rw (← laid-pasted l here there n (omega arith) (omega arith), ← get_or-drop here l n 0)
    (rw add-one at (sym (paste_more l there (drop here l) n 0 (omega arith) (simp length-drop (omega arith)))))

pub laid-copied : (l : List ℕ) (here there n : ℕ) → here + n ≤ length l → there + n ≤ length l → copy_within l here (here + n) there ≡ laid n (past l here) there l
laid-copied l here there n h k = let e : here + n - here ≡ n = omega arith in rw e (laid-pasted l here there n h k)

-- ---- the blocks that an array holds
pub blocks-length : (columns count : ℕ) (sets : List ℕ) → length (blocks_in columns count sets) ≡ count
unfolding blocks_in
blocks-length columns count sets = tab-length count (sets_in columns sets)

pub block-at : (columns count : ℕ) (sets : List ℕ) (a : Block) → a.0 < count → block_at (blocks_in columns count sets) a ≡ sets_in columns sets a.0
unfolding block_at blocks_in
block-at columns count sets a h = tab-at count (sets_in columns sets) [] a.0 h

pub set-at : (columns : ℕ) (sets : List ℕ) (a : ℕ) (j : Column) → j.0 < columns → set_at (sets_in columns sets a) j ≡ past sets (row_of a) j.0
unfolding set_at sets_in
set-at columns sets a j h = tab-at columns (past sets (row_of a)) 0 j.0 h

-- ---- block 0

pub first-long : (t : Task) (l : List ℕ) → column_count t ≤ length l → length (over (whole t) l) ≡ length l
unfolding whole per_column
first-long t l h = over-length (column_count t) (λ j. every (size_of t (column j))) l h

-- the array holds block 0
pub first_made : (t : Task) (sets : List ℕ) → blocks_in (column_count t) 1 (over (whole t) sets) ≡ whole t ∷ []
unfolding blocks_in tab sets_in past over
first_made t sets =
    ap (λ (b : Sets). b ∷ [])
    (sym (ext_get_or 0 (whole t) (tab (column_count t) (past (over (whole t) sets) 0)) (long ∙ sym (tab-length (column_count t) (past (over (whole t) sets) 0)))
    (λ i h.
    let k : i < column_count t = rw long at h in
    sym (tab-at (column_count t) (past (over (whole t) sets) 0) 0 i k ∙ rw zero-add (get_or-append (whole t) (drop (length (whole t)) sets) 0 i h)))))
  where
    long : length (whole t) ≡ column_count t
    long = unfold whole in per-length t (λ j. every (size_of t j))

-- ---- a cut made in the array
module _ (columns count : ℕ) (c : Cut) (sets : List ℕ) (can : Cuttable columns count c) (long : length sets ≡ block_places) where
  a : ℕ
  a = c.block.0

  j : ℕ
  j = c.column.0

  old : ℕ
  old = past sets (row_of a) j

  copy : List ℕ
  copy = laid columns (past sets (row_of a)) (row_of count) sets

  with-new : List ℕ
  with-new = set copy (row_of count + j) (common old c.wanted)

  is : cut_in columns count c sets ≡ set with-new (row_of a + j) (without old c.wanted)
  unfolding cut_in a j old copy with-new
  is = refl

  copy-long : length copy ≡ block_places
  unfolding copy
  copy-long = laid-length (past sets (row_of a)) (row_of count) sets columns ∙ long

  new-long : length with-new ≡ block_places
  unfolding with-new
  new-long = length-set copy (row_of count + j) (common old c.wanted) ∙ copy-long

  at_rest : past (cut_in columns count c sets) (row_of a) j ≡ without old c.wanted
  unfolding past a j
  at_rest = rw is (get_or-set_same with-new (row_of a + j) (without old c.wanted) 0 (omega (arith, new-long)))

  at_new : past (cut_in columns count c sets) (row_of count) j ≡ common old c.wanted
  unfolding past a j with-new
  at_new =
      rw is
      (get_or-set_other with-new (row_of a + j) (row_of count + j) (without old c.wanted) 0 (λ z. omega arith)
      ∙ get_or-set_same copy (row_of count + j) (common old c.wanted) 0 (omega (arith, copy-long)))

  at-copied : (i : ℕ) → i < columns → i ≢ j → past (cut_in columns count c sets) (row_of count) i ≡ past sets (row_of a) i
  unfolding past a j with-new copy
  at-copied i h n =
      rw is
      (get_or-set_other with-new (row_of a + j) (row_of count + i) (without old c.wanted) 0 (λ z. omega arith)
      ∙ get_or-set_other copy (row_of count + j) (row_of count + i) (common old c.wanted) 0 (λ z. n (omega arith))
      ∙ laid-at (past sets (row_of a)) (row_of count) sets columns i h (omega arith))

  at-kept : (b i : ℕ) → b < count → i < columns → (row_of b + i ≢ row_of a + j) → past (cut_in columns count c sets) (row_of b) i ≡ past sets (row_of b) i
  unfolding past a j with-new copy
  at-kept b i h k n =
      rw is
      (get_or-set_other with-new (row_of a + j) (row_of b + i) (without old c.wanted) 0 n
      ∙ get_or-set_other copy (row_of count + j) (row_of b + i) (common old c.wanted) 0 (λ z. omega arith)
      ∙ laid-outside (past sets (row_of a)) (row_of count) sets columns (row_of b + i) (inl (omega arith)))

  old-is : old_block (blocks_in columns count sets) c ≡ sets_in columns sets a
  unfolding old_block a
  old-is = block-at columns count sets c.block can.made

  old-set : old_set (blocks_in columns count sets) c ≡ old
  unfolding old_set old a j
  old-set = rw old-is (set-at columns sets a c.column can.there)

  rest-is : sets_in columns (cut_in columns count c sets) a ≡ rest_block (blocks_in columns count sets) c
  unfolding rest_block with_set sets_in a j
  rest-is =
      rw (old-set, old-is)
      (tab-set columns (past sets (row_of a)) (past (cut_in columns count c sets) (row_of a)) j (without old c.wanted) 0 at_rest
      (λ i k n. at-kept a i can.made k (λ z. n (omega arith))))

  new_is : sets_in columns (cut_in columns count c sets) count ≡ new_block (blocks_in columns count sets) c
  unfolding new_block with_set sets_in a j
  new_is =
      rw (old-set, old-is)
      (tab-set columns (past sets (row_of a)) (past (cut_in columns count c sets) (row_of count)) j (common old c.wanted) 0 at_new (λ i k n. at-copied i k n))

  other-is : (b : ℕ) → b < count → b ≢ a → sets_in columns (cut_in columns count c sets) b ≡ sets_in columns sets b
  unfolding sets_in a j
  other-is b h n = tab-ext columns _ _ (λ i k. at-kept b i h k (λ z. n (omega arith)))

  -- the array holds the blocks after the cut
  pub cut-made : blocks_in columns (count + 1) (cut_in columns count c sets) ≡ cut_block (blocks_in columns count sets) c
  unfolding blocks_in tab a
  cut-made =
      rw (add-one, cut-is, new_is)
      (ap (λ (l : Blocks). l ++ (new_block (blocks_in columns count sets) c ∷ []))
      (tab-set count (sets_in columns sets) (sets_in columns (cut_in columns count c sets)) a (rest_block (blocks_in columns count sets) c) [] rest-is other-is))

-- ---- the test of one cut
module _ (t : Task) (columns count : ℕ) (sets : List ℕ) (c : Cut) (wide : column_count t ≡ columns) where
  pub no_block : count ≤ c.block.0 → false ≡ cut_ok t (blocks_in columns count sets) c
  unfolding cut_ok
  no_block h = rw (blocks-length columns count sets, le-ltb c.block.0 count h)

  pub no-column : c.block.0 < count → columns ≤ c.column.0 → false ≡ cut_ok t (blocks_in columns count sets) c
  unfolding cut_ok
  no-column h k = rw (blocks-length columns count sets, lt-ltb c.block.0 count h, wide, le-ltb c.column.0 columns k)

  pub by_parts : c.block.0 < count → c.column.0 < columns → parts c.wanted (past sets (row_of c.block.0) c.column.0) ≡ cut_ok t (blocks_in columns count sets) c
  unfolding cut_ok parts
  by_parts h k =
      rw (blocks-length columns count sets, lt-ltb c.block.0 count h, wide, lt-ltb c.column.0 columns k, block-at columns count sets c.block h, set-at columns sets c.block.0 c.column k)
