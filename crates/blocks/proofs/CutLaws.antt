-- Block 0 alone parts the states, and so do the blocks of any accepted list of cuts; there is one block more than cuts.
use mathlib.Core.Path.{◌≡◌, refl, sym, ap, ◌∙◌}
use mathlib.Core.Bool.{true}
use mathlib.Core.List.{List, [], ◌∷◌, ◌++◌}
use mathlib.Core.Option.{Option, some}
use Prim.Native.Nat.{ℕ, suc, ◌+◌, ◌<◌}
use native.Mathlib.Omega.{arith}
use lib.ListN.{length}
use borrow.Author.Tests.{ltb-true, lt-ltb}
use Rattle.task.specs.declared.Column.{Column}
use Rattle.task.specs.declared.Block.{Block}
use Rattle.task.specs.Loops.{when}
use Rattle.task.specs.Task.{Task, State, Accepted, block, at, column_count, size_of, is_state}
use Rattle.task.proofs.LoopLaws.{and_left, and_right, and_both, first_some, first_found, when-some}
use Rattle.task.proofs.TaskLaws.{columns-pass, per-length, per-at, position-below}
use Rattle.blocks.specs.declared.Cut.{Cut}
use Rattle.blocks.specs.Blocks.{PositionSet, Blocks, holds, every, set_at, block_at, cut_block, in_block, whole, cut_ok, cuts_ok, cut_all, accepted, blocks_of, block_of}
use Rattle.blocks.proofs.SetLaws.{holds-every, held-some}
use Rattle.blocks.proofs.LeadLaws.{Shaped}
use Rattle.blocks.proofs.PartLaws.{Parts, fits, cut_parts, cut-length}

module _ (t : Task) (v : Accepted t) where
  pub whole_set : (j : Column) → j.0 < column_count t → set_at (whole t) j ≡ every (size_of t j)
  unfolding set_at whole
  whole_set j h = per-at t (λ j. every (size_of t j)) 0 j h

  whole-shape : Shaped t (whole t)
  unfolding whole
  whole-shape =
      record {
        long = per-length t (λ j. every (size_of t j));
        inside = λ j h p q. ltb-true p.0 (size_of t j) (sym (holds-every (size_of t j) p) ∙ ap (λ (s : PositionSet). holds s p) (sym (whole_set j h)) ∙ q);
        full = λ j h.
            let first : holds (every (size_of t j)) (record { 0 = 0 }) ≡ true = holds-every (size_of t j) _ ∙ lt-ltb 0 (size_of t j) (v.sizes j h).0 in
            rw (whole_set j h) (held-some (every (size_of t j)) _ first);
      }

  pub whole_parts : Parts t (whole t ∷ [])
  unfolding block_at in_block
  whole_parts =
      record {
        shaped = λ a h. let e : a ≡ block 0 = ap block (omega arith) in rw e whole-shape;
        covers = λ x h. (
          block 0,
          omega arith,
          columns-pass t _ (λ j k. rw (whole_set j k) (holds-every (size_of t j) (at x j) ∙ lt-ltb (at x j).0 (size_of t j) (position-below t x h j k))),
        );
        apart = λ x a b ha hb ia ib. ap block (omega arith);
      }

  cuts-parts : (cs : List Cut) (bs : Blocks) → Parts t bs → cuts_ok t bs cs ≡ true → Parts t (cut_all bs cs)
  unfolding cuts_ok cut_all
  cuts-parts [] bs g h = g
  cuts-parts (c ∷ cs) bs g h =
      cuts-parts cs (cut_block bs c) (cut_parts t bs c g (fits t bs c (and_left _ (cuts_ok t (cut_block bs c) cs) h))) (and_right (cut_ok t bs c) _ h)

  pub accepted-parts : (cs : List Cut) → accepted t cs ≡ true → Parts t (blocks_of t cs)
  unfolding accepted blocks_of
  accepted-parts cs h = cuts-parts cs (whole t ∷ []) whole_parts h

-- ---- one cut more
cut-all-more : (cs : List Cut) (c : Cut) (bs : Blocks) → cut_all bs (cs ++ (c ∷ [])) ≡ cut_block (cut_all bs cs) c
unfolding cut_all
cut-all-more [] c bs = refl
cut-all-more (d ∷ cs) c bs = cut-all-more cs c (cut_block bs d)

cut-all-length : (cs : List Cut) (bs : Blocks) → length (cut_all bs cs) ≡ length bs + length cs
unfolding cut_all
cut-all-length [] bs = omega arith
cut-all-length (c ∷ cs) bs = omega (arith, cut-all-length cs (cut_block bs c), cut-length bs c)

module _ (t : Task) where
  pub blocks_more : (cs : List Cut) (c : Cut) → blocks_of t (cs ++ (c ∷ [])) ≡ cut_block (blocks_of t cs) c
  unfolding blocks_of
  blocks_more cs c = cut-all-more cs c (whole t ∷ [])

  cuts-ok-more : (cs : List Cut) (c : Cut) (bs : Blocks) → cuts_ok t bs cs ≡ true → cut_ok t (cut_all bs cs) c ≡ true → cuts_ok t bs (cs ++ (c ∷ [])) ≡ true
  unfolding cuts_ok cut_all
  cuts-ok-more [] c bs h k = and_both k refl
  cuts-ok-more (d ∷ cs) c bs h k =
      and_both (and_left (cut_ok t bs d) (cuts_ok t (cut_block bs d) cs) h) (cuts-ok-more cs c (cut_block bs d) (and_right (cut_ok t bs d) _ h) k)

  pub accepted-more : (cs : List Cut) (c : Cut) → accepted t cs ≡ true → cut_ok t (blocks_of t cs) c ≡ true → accepted t (cs ++ (c ∷ [])) ≡ true
  unfolding accepted blocks_of
  accepted-more cs c h k = cuts-ok-more cs c (whole t ∷ []) h k

  -- the number of blocks is the number of cuts plus one
  pub blocks-length : (cs : List Cut) → length (blocks_of t cs) ≡ suc (length cs)
  unfolding blocks_of
  blocks-length cs = omega (arith, cut-all-length cs (whole t ∷ []))

  -- ---- the block of a state
  pub record BlockIs (bs : Blocks) (x : State) (a : Block) : Type 0 where
    pub found : block_of t bs x ≡ some a
    pub made : a.0 < length bs
    pub inside : in_block t x (block_at bs a) ≡ true

  pub block-of : (bs : Blocks) → Parts t bs → (x : State) → is_state t x ≡ true → (a : Block) × BlockIs bs x a
  unfolding block_of
  block-of bs g x h =
      let test : ℕ → Option Block = λ a. when (in_block t x (block_at bs (block a))) (block a) in
      let r = g.covers x h in
      let q = first_found (length bs) test r.0.0 {a = r.0} r.1 (rw r.2) in
      let p = first_some (length bs) test q.1 in
      let w = when-some (in_block t x (block_at bs (block p.place))) (block p.place) p.here in
      let e : block p.place ≡ q.0 = w.1 in
      let n : p.place ≡ q.0.0 = ap (λ (k : Block). k.0) e in
      (q.0, record { found = q.1; made = rw n at p.below; inside = rw e at w.0 })

  -- a state has no other block
  pub block-only : (bs : Blocks) → Parts t bs → (x : State) → is_state t x ≡ true → (a : Block) → a.0 < length bs → in_block t x (block_at bs a) ≡ true → block_of t bs x ≡ some a
  block-only bs g x h a m i =
      let r = block-of bs g x h in
      r.1.found ∙ ap {B = Option Block} some (g.apart x r.0 a r.1.made m r.1.inside i)
