use native.Mathlib.Omega.{arith}
use Rattle.std.proofs.lemmas.Bool.Decides.{nat_tests}
use Rattle.fields.specs.Judging.{outside, refusal, ◌then◌}
use Rattle.running.specs.Running.{room_checks}
use Rattle.running.proofs.judge_room.Goals as goal

pub returns-then-blocks-lt1 : goal.returns-then-blocks-lt1
unfolding room_checks refusal ◌then◌ outside
returns-then-blocks-lt1 c = grind (arith, nat_tests)

pub returns-then-cuts-places : goal.returns-then-cuts-places
unfolding room_checks refusal ◌then◌ outside
returns-then-cuts-places c = grind (arith, nat_tests)

pub returns : goal.returns
unfolding room_checks refusal ◌then◌ outside
returns c = grind (arith, nat_tests)
