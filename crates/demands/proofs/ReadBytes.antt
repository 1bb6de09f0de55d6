-- What the program prints for the bytes that it has read is what it has to print for the whole input.
use Prim.Native.Nat.{ℕ}
use mathlib.Core.Path.{subst}
use mathlib.Core.List.{List}
use lib.ListN.{take}
use Rattle.lines.specs.Lines.{input_bytes, Put, Prints}
use Rattle.demands.proofs.FirstBytes.{printed-reads}

pub put-printed-reads : (file out : List ℕ) {r : ℕ} {out' : List ℕ} → Prints (take input_bytes file) out r out' → Prints file out r out'
put-printed-reads file out {r} {out'} = subst (λ (x : List ℕ). Put 0 x out r out') (printed-reads file)
