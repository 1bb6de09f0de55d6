-- The cost that a table of distances has for the block of a state is the state's estimate.
use Prim.Native.Nat.{ℕ, suc, ◌+◌, ◌/◌, ◌<◌}
use native.Mathlib.Omega.{arith}
use mathlib.Core.Path.{◌≡◌, sym, ap, ◌∙◌}
use mathlib.Core.Bool.{true}
use mathlib.Core.List.{List}
use mathlib.Core.Option
use mathlib.Core.Option.{Option, some, map}
use lib.ListN.{length, get_or}
use Rattle.task.specs.declared.Block.{Block}
use Rattle.task.specs.Sizes.{limits, tenth}
use Rattle.task.specs.Task.{Task, State, Accepted, block, is_state}
use Rattle.task.proofs.LoopLaws.{over-at}
use Rattle.blocks.specs.Blocks.{accepted, blocks_of, block_of}
use Rattle.blocks.specs.Flat.{cuts_in, followed}
use Rattle.blocks.proofs.CutLaws.{blocks-length}
use Rattle.blocks.proofs.FollowLaws.{cuts-length, followed-most, follow-finds}
use Rattle.distances.specs.Distances.{Distance, far_of, distances, state_far, estimate}
use Rattle.settling.specs.Coded.{coded_at, coded_over}
use Rattle.settling.proofs.JoinLaws.{cost-said}

module _ (t : Task) (v : Accepted t) (l : List ℕ) (count : ℕ) (ok : accepted t (cuts_in count l) ≡ true) (few : count < limits.blocks) where
  pub made : length (blocks_of t (cuts_in count l)) ≡ suc count
  made = blocks-length t (cuts_in count l) ∙ ap suc (cuts-length count l)

  pub cost-found : (old dist : List ℕ) → dist ≡ coded_over t (blocks_of t (cuts_in count l)) (count + 1) old → (x : State) → is_state t x ≡ true
      → get_or dist (followed l x count) 0 / tenth ≡ Option.get_or (estimate t (cuts_in count l) x) limits.no_way
  unfolding estimate state_far coded_over
  cost-found old dist d x is =
      let f : ℕ = followed l x count in
      let b : block_of t (blocks_of t (cuts_in count l)) x ≡ some (block f) = follow-finds t v l count ok x is in
      let low : f < count + 1 = omega (arith, followed-most l x count) in
      let g : get_or dist f 0 ≡ coded_at (distances t (blocks_of t (cuts_in count l))) f = ap (λ (z : List ℕ). get_or z f 0) d ∙ over-at (count + 1) _ old 0 f low in
      ap (λ (z : ℕ). z / tenth) g
      ∙ cost-said t (blocks_of t (cuts_in count l)) v.tenths (omega (arith, made)) (block f) (omega (arith, made))
      ∙ ap (λ (o : Option Block). Option.get_or (map (λ (z : Distance). z.cost)
      (far_of (distances t (blocks_of t (cuts_in count l))) (Option.get_or o (block 0)))) limits.no_way) (sym b)
