use Prim.Native.Nat.{◌≤◌, ◌^◌}
use lib.Pow.{pow_pos, pow_mono}
use Rattle.task.specs.Sizes.{limits}
use Rattle.blocks.specs.Blocks.{every}
use Rattle.blocks.proofs.MaskLaws.{shift_one}
use borrow.Author.Rules.{rules}
use Rattle.cutting.proofs.every_position.Goals as goal

pub overflow_sub-result : goal.overflow_sub-result
overflow_sub-result c = let s = c.args.size in rw (shift_one s 64 (search rules)) (pow_pos s)

pub overflow_cast-result-2 : goal.overflow_cast-result-2
overflow_cast-result-2 c =
    let s = c.args.size in
    let l : 2 ^ s ≤ 2 ^ limits.positions = pow_mono {i = s} {j = limits.positions} (search rules) in
    rw (shift_one s 64 (search rules)) (search (l, rules))

pub returns : goal.returns
unfolding every
returns c = rw (shift_one c.args.size 64 (search rules))
