-- An answer of code is known by what it is told as.
use Prim.Native.Nat.{ℕ}
use mathlib.Core.Path.{◌≡◌}
use Rattle.std.specs.Prelude.{Result, Ok, Err}
use Rattle.fields.specs.Refusals.{number}
use Rattle.fields.proofs.RefusalLaws.{same_number}
use Rattle.replay.specs.declared.ReplayRefusal.{ReplayRefusal}
use Rattle.replay.specs.declared.ReplayRefusal.TheVariants as why
use Rattle.replay.specs.Replay.{told_replay}

pub same_told_replay : (a b : Result ℕ ReplayRefusal) → told_replay a ≡ told_replay b → a ≡ b
same_told_replay (Ok m) (Ok n) e = cc
same_told_replay (Ok m) (Err (why.Judged r)) e = cc
same_told_replay (Ok m) (Err (why.Step row)) e = cc
same_told_replay (Err (why.Judged r)) (Ok n) e = cc
same_told_replay (Err (why.Judged r)) (Err (why.Judged s)) e = let q : number r ≡ number s = cc in let p : r ≡ s = same_number r s q in cc
same_told_replay (Err (why.Judged r)) (Err (why.Step row)) e = cc
same_told_replay (Err (why.Step row)) (Ok n) e = cc
same_told_replay (Err (why.Step row)) (Err (why.Judged s)) e = cc
same_told_replay (Err (why.Step row)) (Err (why.Step other)) e = cc
