-- Block 0 stands alone, and the start lies there.
use mathlib.Core.Path.{◌≡◌, refl, ◌∙◌}
use mathlib.Core.Bool.{true}
use mathlib.Core.List.{[], ◌∷◌}
use mathlib.Core.Option.{some}
use Prim.Native.Nat.{ℕ}
use Rattle.cutting.specs.declared.Blocks.{Blocks}
use Rattle.task.specs.Task.{Task, Accepted, block, start}
use Rattle.task.proofs.TaskLaws.{start-state}
use Rattle.blocks.specs.Blocks.{whole, cuts_ok, cut_all, accepted, blocks_of, block_of}
use Rattle.blocks.specs.Flat.{blocks_in}
use Rattle.blocks.proofs.FollowLaws.{cuts-none, followed-none, follow-finds}
use Rattle.refining.specs.Refining.{Parted}

module _ (t : Task) (v : Accepted t) where
  none-ok : accepted t [] ≡ true
  unfolding accepted cuts_ok
  none-ok = refl

  start_first : block_of t (blocks_of t []) (start t) ≡ some (block 0)
  start_first = rw (cuts-none, followed-none) at (follow-finds t v [] 0 (rw cuts-none none-ok) (start t) (start-state t v))

  pub first-parted : (columns : ℕ) (bs : Blocks) → blocks_in columns bs.count bs.sets ≡ whole t ∷ [] → Parted t [] columns (block 0) bs
  first-parted columns bs e = record { ok = none-ok; blocks = e ∙ whole-only; from = start_first }
    where
      whole-only : whole t ∷ [] ≡ blocks_of t []
      whole-only = unfold blocks_of cut_all in refl
