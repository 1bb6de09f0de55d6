-- The start's block, from cut to cut.
use Prim.Native.Nat.{ℕ}
use mathlib.Core.Path.{◌≡◌, refl, sym, ap, ◌∙◌}
use mathlib.Core.Bool.{Bool, true, false, cond, ◌&&◌}
use mathlib.Core.List.{List, [], ◌∷◌, ◌++◌}
use mathlib.Core.Option.{Option, some, get_or}
use lib.Dec.{eqb}
use lib.ListN.{length}
use Rattle.task.specs.declared.Block.{Block}
use Rattle.task.specs.Sizes.{start_row}
use Rattle.task.specs.Task.{Task, Accepted, block, start}
use Rattle.task.proofs.TaskLaws.{start-state}
use Rattle.blocks.specs.declared.Cut.{Cut}
use Rattle.blocks.specs.Blocks.{accepted, blocks_of, block_of}
use Rattle.blocks.specs.Flat.{goes_on}
use Rattle.blocks.specs.Masks.{start_in, Stands}
use Rattle.blocks.proofs.PartLaws.{fits}
use Rattle.blocks.proofs.CutLaws.{BlockIs, accepted-parts, block-of, blocks_more, block-only}
use Rattle.blocks.proofs.FollowLaws.{goes-on, accepted-less}
use Rattle.blocks.proofs.MaskLaws.{from_at}
use Rattle.standing.proofs.StandLaws.{apart-only, twice}
use Rattle.refining.specs.Refining.{start_block}

module _ (t : Task) (v : Accepted t) (cs : List Cut) (a : Block) (from : block_of t (blocks_of t cs) (start t) ≡ some a) where
  pub start-there : accepted t cs ≡ true → BlockIs t (blocks_of t cs) (start t) a
  start-there ok =
      let r = block-of t (blocks_of t cs) (accepted-parts t v cs ok) (start t) (start-state t v) in
      let e : r.0 ≡ a = ap (λ (o : Option Block). get_or o (block 0)) (sym r.1.found ∙ from) in
      rw e at r.1

  module _ (tables : List ℕ) (stands : Stands t (start t) (start_in tables)) (c : Cut) (ok : accepted t (cs ++ (c ∷ [])) ≡ true) where
    moves : (new : ℕ) → start_block a c new tables ≡ block (cond (goes_on c (start t) a.0) new a.0)
    unfolding start_block goes_on Stands
    moves new =
        rw (← from_at start_row tables c.column.0, stands c.column (fits t (blocks_of t cs) c (accepted-less t v cs c ok).1).there, apart-only, twice)
        (out (eqb c.block.0 a.0 && _))
      where
        out : (u : Bool) → cond u (block new) a ≡ block (cond u new a.0)
        out true = refl
        out false = refl

    -- one cut more
    pub start-goes : (count : ℕ) → length (blocks_of t cs) ≡ count → block_of t (blocks_of t (cs ++ (c ∷ []))) (start t) ≡ some (start_block a c count tables)
    start-goes count l =
        let less = accepted-less t v cs c ok in
        let here = start-there less.0 in
        let g = goes-on t (blocks_of t cs) c (accepted-parts t v cs less.0) (fits t (blocks_of t cs) c less.1) (start t) (start-state t v) a here.made here.inside in
        let k = rw l at g in
        rw moves (block-only t (blocks_of t (cs ++ (c ∷ []))) (accepted-parts t v (cs ++ (c ∷ [])) ok) (start t) (start-state t v) _ (rw blocks_more k.1) (rw blocks_more k.0))
