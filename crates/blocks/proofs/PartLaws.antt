-- The blocks part the states: every state is in one block and no two, and an accepted cut keeps that.
use mathlib.Core.Path.{◌≡◌, refl, sym, ap, ◌∙◌}
use mathlib.Core.Logic.{◌⊎◌, inl, inr, ⊎_elim, ◌≢◌}
use mathlib.Core.Bool.{Bool, true, false, not, cond}
use mathlib.Core.List.{[], ◌∷◌, ◌++◌}
use Prim.Native.Nat.{ℕ, suc, ◌<◌}
use native.Mathlib.Decide.{ℕ_discrete}
use native.Mathlib.Omega.{arith}
use native.Mathlib.Numerals.{add-one}
use lib.ListN.{length, set, length-set, length-append, get_or-append}
use lib.Seq.{get_or-set_same, get_or-set_other, get_or_at}
use borrow.Author.Tests.{ltb-true, lt-ltb, not-true}
use Rattle.task.specs.declared.Column.{Column}
use Rattle.task.specs.declared.Position.{Position}
use Rattle.task.specs.declared.Block.{Block}
use Rattle.task.specs.Task.{Task, State, column, block, at, column_count, is_state}
use Rattle.task.proofs.LoopLaws.{and-five, and_left, and_right, and_both, true-or-false, below_suc}
use Rattle.task.proofs.TaskLaws.{columns-pass}
use Rattle.blocks.specs.declared.Cut.{Cut}
use Rattle.blocks.specs.Blocks.{PositionSet, Sets, Blocks, holds, common, without, is_empty, set_at, block_at, with_set, cut_block, in_block, cut_ok}
use Rattle.blocks.proofs.SetLaws.{PartOf, holds-common, holds-without, some-held, common-held, part_of, is-part}
use Rattle.blocks.proofs.LeadLaws.{Shaped, Within, held_at, in_within}

-- the same number or not, as a case
pub same_or_not : (a b : ℕ) → (a ≡ b) ⊎ (a ≢ b)
same_or_not a b = elim (ℕ_discrete a b) [ yes e ↦ inl e | no n ↦ inr n ]

-- ---- the sets of a block with one set replaced
pub with-same : (b : Sets) (j : Column) (s : PositionSet) → j.0 < length b → set_at (with_set b j s) j ≡ s
unfolding set_at with_set
with-same b j s h = get_or-set_same b j.0 s 0 h

pub with-other : (b : Sets) (j i : Column) (s : PositionSet) → i.0 ≢ j.0 → set_at (with_set b j s) i ≡ set_at b i
unfolding set_at with_set
with-other b j i s h = get_or-set_other b j.0 i.0 s 0 h

-- ---- the blocks after a cut
module _ (bs : Blocks) (c : Cut) where
  -- the block that is cut, its set, and its two parts
  unfoldable pub old_block : Sets
  old_block = block_at bs c.block

  unfoldable pub old_set : PositionSet
  old_set = set_at old_block c.column

  unfoldable pub rest_block : Sets
  rest_block = with_set old_block c.column (without old_set c.wanted)

  unfoldable pub new_block : Sets
  new_block = with_set old_block c.column (common old_set c.wanted)

  pub cut-is : cut_block bs c ≡ set bs c.block.0 rest_block ++ (new_block ∷ [])
  unfolding cut_block old_block old_set rest_block new_block
  cut-is = refl

  pub cut-length : length (cut_block bs c) ≡ suc (length bs)
  cut-length = rw (cut-is, length-append, length-set, add-one)

  pub at_rest : c.block.0 < length bs → block_at (cut_block bs c) c.block ≡ rest_block
  unfolding block_at
  at_rest h =
      rw cut-is
      (get_or-append (set bs c.block.0 rest_block) (new_block ∷ []) [] c.block.0 (rw length-set h)
      ∙ get_or-set_same bs c.block.0 rest_block [] h)

  pub at_other : (a : Block) → a.0 < length bs → a.0 ≢ c.block.0 → block_at (cut_block bs c) a ≡ block_at bs a
  unfolding block_at
  at_other a h n =
      rw cut-is
      (get_or-append (set bs c.block.0 rest_block) (new_block ∷ []) [] a.0 (rw length-set h)
      ∙ get_or-set_other bs c.block.0 a.0 rest_block [] n)

  pub at_new : block_at (cut_block bs c) (block (length bs)) ≡ new_block
  unfolding block_at
  at_new = rw cut-is (get_or_at (set bs c.block.0 rest_block) new_block [] [] (length bs) (length-set bs c.block.0 rest_block))

module _ (t : Task) where
  with-within : (b : Sets) (j : Column) (s : PositionSet) → j.0 < length b → PartOf s (set_at b j) → Within t (with_set b j s) b
  with-within b j s h f i k p q =
      ⊎_elim
      (λ (e : i.0 ≡ j.0). let z : i ≡ j = ap column e in rw z (f p (rw (z, with-same b j s h) at q)))
      (λ (n : i.0 ≢ j.0). rw (with-other b j i s n) at q)
      (same_or_not i.0 j.0)

  in-with : (b : Sets) (j : Column) (s : PositionSet) (x : State) → j.0 < length b → in_block t x b ≡ true → holds s (at x j) ≡ true
      → in_block t x (with_set b j s) ≡ true
  unfolding in_block
  in-with b j s x h k q =
      columns-pass t _ (λ i l.
      ⊎_elim
      (λ (e : i.0 ≡ j.0). let z : i ≡ j = ap column e in rw (z, with-same b j s h) q)
      (λ (n : i.0 ≢ j.0). rw (with-other b j i s n) (held_at t b x k i l))
      (same_or_not i.0 j.0))

  shaped-with : (b : Sets) (j : Column) (s : PositionSet) → Shaped t b → j.0 < column_count t → PartOf s (set_at b j) → is_empty s ≡ false
      → Shaped t (with_set b j s)
  unfolding with_set
  shaped-with b j s g h f n =
      let l : j.0 < length b = rw g.long h in
      record {
        long = length-set b j.0 s ∙ g.long;
        inside = λ i k p q. g.inside i k p (with-within b j s l f i k p q);
        full = λ i k.
            ⊎_elim
            (λ (e : i.0 ≡ j.0). let z : i ≡ j = ap column e in rw (z, with-same b j s l) n)
            (λ (e : i.0 ≢ j.0). rw (with-other b j i s e) (g.full i k))
            (same_or_not i.0 j.0);
      }

  -- every state lies in exactly one block
  pub record Parts (bs : Blocks) : Type 0 where
    pub shaped : (a : Block) → a.0 < length bs → Shaped t (block_at bs a)
    pub covers : (x : State) → is_state t x ≡ true → (a : Block) × (a.0 < length bs) × (in_block t x (block_at bs a) ≡ true)
    pub apart : (x : State) (a b : Block) → a.0 < length bs → b.0 < length bs → in_block t x (block_at bs a) ≡ true → in_block t x (block_at bs b) ≡ true → a ≡ b

  -- what an accepted cut is
  pub record CutFits (bs : Blocks) (c : Cut) : Type 0 where
    pub made : c.block.0 < length bs
    pub there : c.column.0 < column_count t
    pub some : is_empty c.wanted ≡ false
    pub part : PartOf c.wanted (old_set bs c)
    pub proper : is_empty (without (old_set bs c) c.wanted) ≡ false

  pub fits : (bs : Blocks) (c : Cut) → cut_ok t bs c ≡ true → CutFits bs c
  unfolding cut_ok old_set old_block
  fits bs c h =
      let r = and-five _ _ _ _ _ h in
      record {
        made = ltb-true _ _ r.0;
        there = ltb-true _ _ r.1;
        some = not-true _ r.2;
        part = part_of c.wanted (old_set bs c) r.3;
        proper = not-true _ r.4;
      }

  pub fits-ok : (bs : Blocks) (c : Cut) → CutFits bs c → cut_ok t bs c ≡ true
  unfolding cut_ok old_set old_block
  fits-ok bs c f =
      rw (lt-ltb c.block.0 (length bs) f.made, lt-ltb c.column.0 (column_count t) f.there, f.some, is-part c.wanted (old_set bs c) f.part, f.proper)

  -- ---- a cut
  module _ (bs : Blocks) (c : Cut) (good : Parts bs) (f : CutFits bs c) where
    -- where a block comes from, and on which side of the cut it is: the wanted part is the new block
    pub record Origin (a : Block) : Type 0 where
      pub parent : Block
      pub fresh : Bool
      pub known : parent.0 < length bs
      pub number : a ≡ cond fresh (block (length bs)) parent
      pub whose : fresh ≡ true → parent ≡ c.block
      pub within : Within t (block_at (cut_block bs c) a) (block_at bs parent)
      pub side : parent ≡ c.block → (x : State) → in_block t x (block_at (cut_block bs c) a) ≡ true → holds c.wanted (at x c.column) ≡ fresh
      pub shape : Shaped t (block_at (cut_block bs c) a)

    old-shape : Shaped t (old_block bs c)
    unfolding old_block
    old-shape = good.shaped c.block f.made

    pub long : c.column.0 < length (old_block bs c)
    long = rw old-shape.long f.there

    -- a part of the old block
    origin-with : (a : Block) (s : PositionSet) (fresh : Bool) → block_at (cut_block bs c) a ≡ with_set (old_block bs c) c.column s
        → a ≡ cond fresh (block (length bs)) c.block → PartOf s (old_set bs c) → is_empty s ≡ false
        → ((p : Position) → holds s p ≡ true → holds c.wanted p ≡ fresh) → Origin a
    unfolding old_set old_block
    origin-with a s fresh e n sub full which =
        record {
          parent = c.block;
          fresh = fresh;
          known = f.made;
          number = n;
          whose = λ z. refl;
          within = rw e (with-within (old_block bs c) c.column s long sub);
          side = λ z x h.
              which (at x c.column)
              (rw (with-same (old_block bs c) c.column s long) at (held_at t (with_set (old_block bs c) c.column s) x (rw e at h) c.column f.there));
          shape = rw e (shaped-with (old_block bs c) c.column s old-shape f.there sub full);
        }

    new-full : is_empty (common (old_set bs c) c.wanted) ≡ false
    new-full = let r = some-held c.wanted f.some in common-held (old_set bs c) c.wanted r.0 (f.part r.0 r.1) r.1

    origin-new : Origin (block (length bs))
    unfolding new_block
    origin-new =
        origin-with (block (length bs)) (common (old_set bs c) c.wanted) true (at_new bs c) refl
        (λ p h. and_left _ (holds c.wanted p) (sym (holds-common (old_set bs c) c.wanted p) ∙ h))
        new-full
        (λ p h. and_right (holds (old_set bs c) p) _ (sym (holds-common (old_set bs c) c.wanted p) ∙ h))

    origin-rest : Origin c.block
    unfolding rest_block
    origin-rest =
        origin-with c.block (without (old_set bs c) c.wanted) false (at_rest bs c f.made) refl
        (λ p h. and_left _ (not (holds c.wanted p)) (sym (holds-without (old_set bs c) c.wanted p) ∙ h))
        f.proper
        (λ p h. not-true _ (and_right (holds (old_set bs c) p) _ (sym (holds-without (old_set bs c) c.wanted p) ∙ h)))

    origin-other : (a : Block) → a.0 < length bs → a.0 ≢ c.block.0 → Origin a
    origin-other a h n =
        record {
          parent = a;
          fresh = false;
          known = h;
          number = refl;
          whose = λ z. cc;
          within = λ j k p q. rw (at_other bs c a h n) at q;
          side = λ e. absurd (n (ap (λ (k : Block). k.0) e));
          shape = rw (at_other bs c a h n) (good.shaped a h);
        }

    pub origin : (a : Block) → a.0 < length (cut_block bs c) → Origin a
    origin a h =
        ⊎_elim (λ (e : a.0 ≡ length bs). let z : a ≡ block (length bs) = ap block e in rw z origin-new)
        (λ (k : a.0 < length bs).
        ⊎_elim (λ (e : a.0 ≡ c.block.0). let z : a ≡ c.block = ap block e in rw z origin-rest)
        (λ (n : a.0 ≢ c.block.0). origin-other a k n) (same_or_not a.0 c.block.0))
        (below_suc (rw cut-length at h))

    same-side : {a b : Block} (p : Origin a) (q : Origin b) (x : State) → p.parent ≡ q.parent
        → in_block t x (block_at (cut_block bs c) a) ≡ true → in_block t x (block_at (cut_block bs c) b) ≡ true → p.fresh ≡ q.fresh
    same-side {a} {b} p q x e ia ib = go p.fresh refl q.fresh refl
      where
        go : (u : Bool) → p.fresh ≡ u → (v : Bool) → q.fresh ≡ v → p.fresh ≡ q.fresh
        go true pu v qv = let z = p.whose pu in sym (p.side z x ia) ∙ q.side (sym e ∙ z) x ib
        go false pu true qv = let z = q.whose qv in sym (p.side (e ∙ z) x ia) ∙ q.side z x ib
        go false pu false qv = pu ∙ sym qv

    -- the part of the old block that holds a state of it
    old-covered : (x : State) → in_block t x (old_block bs c) ≡ true
        → (a : Block) × (a.0 < length (cut_block bs c)) × (in_block t x (block_at (cut_block bs c) a) ≡ true)
    unfolding old_set rest_block new_block
    old-covered x i =
        let l = cut-length bs c in
        let o : holds (old_set bs c) (at x c.column) ≡ true = held_at t (old_block bs c) x i c.column f.there in
        ⊎_elim
        (λ (w : holds c.wanted (at x c.column) ≡ true). (
          block (length bs),
          omega arith,
          rw (at_new bs c) (in-with (old_block bs c) c.column _ x long i (holds-common (old_set bs c) c.wanted _ ∙ and_both o w)),
        ))
        (λ (w : holds c.wanted (at x c.column) ≡ false). (
          c.block,
          omega (arith, f.made),
          rw (at_rest bs c f.made) (in-with (old_block bs c) c.column _ x long i (holds-without (old_set bs c) c.wanted _ ∙ rw (o, w))),
        ))
        (true-or-false (holds c.wanted (at x c.column)))

    covered : (x : State) → is_state t x ≡ true → (a : Block) × (a.0 < length (cut_block bs c)) × (in_block t x (block_at (cut_block bs c) a) ≡ true)
    unfolding old_block
    covered x h =
        let r = good.covers x h in
        ⊎_elim
        (λ (e : r.0.0 ≡ c.block.0). let z : r.0 ≡ c.block = ap block e in old-covered x (rw z at r.2))
        (λ (n : r.0.0 ≢ c.block.0). (r.0, omega (arith, r.1, cut-length bs c), rw (at_other bs c r.0 r.1 n) r.2))
        (same_or_not r.0.0 c.block.0)

    pub cut_parts : Parts (cut_block bs c)
    cut_parts =
        record {
          shaped = λ a h. (origin a h).shape;
          covers = covered;
          apart = λ x a b ha hb ia ib.
              let p = origin a ha in
              let q = origin b hb in
              let e : p.parent ≡ q.parent = good.apart x p.parent q.parent p.known q.known (in_within t _ _ p.within x ia) (in_within t _ _ q.within x ib) in
              let s : p.fresh ≡ q.fresh = same-side p q x e ia ib in
              p.number ∙ ap (λ (u : Bool). cond u (block (length bs)) p.parent) s ∙ ap (λ (k : Block). cond q.fresh (block (length bs)) k) e ∙ sym q.number;
        }
