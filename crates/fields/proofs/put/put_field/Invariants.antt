use Rattle.fields.specs.Bits.{put_field}
use Rattle.std.proofs.Common.{◌≡◌, ◌/◌, ◌-◌, ◌^◌}
use Rattle.fields.proofs.put.put_field.Given as goal

abbrev pub invariant-loop-k : goal.invariant-loop-k
invariant-loop-k l = l.out ≡ put_field l.at l.k (l.v / 2 ^ (l.w - l.k)) l.initial.out
