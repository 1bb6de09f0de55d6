-- The historian's numbers: any answer of a run takes apart into kind, blocks, steps and value, and values that were put as bytes are taken from them
-- again.
use Prim.Native.Nat.{ℕ, ◌+◌, ◌*◌, ◌/◌, ◌%◌, ◌^◌, ◌<◌}
use native.Mathlib.Omega.{arith}
use native.Mathlib.Nat.{add-zero}
use mathlib.Core.Path.{◌≡◌, ◌∙◌}
use mathlib.Core.List.{List}
use lib.ListN.{length, get_or, get_or-append}
use Rattle.fields.specs.Bits.{byte_values}
use Rattle.task.specs.Loops.{over}
use Rattle.fields.specs.Judging.{each}
use Rattle.fields.proofs.PlaceLaws.{each-length, each_at}
use Rattle.values.specs.Values.{value_bytes, bytes_at, bytes_of, value_on}
use Rattle.values.proofs.ValueLaws.{four}

-- ---- an answer's parts, as the header takes them
abbrev pub kind : ℕ → ℕ
kind r = r / 2 ^ 56

abbrev pub blocks : ℕ → ℕ
blocks r = r / 2 ^ 44 % 2 ^ 12

abbrev pub steps : ℕ → ℕ
steps r = r / 2 ^ 32 % 2 ^ 12

abbrev pub value : ℕ → ℕ
value r = r % 2 ^ 32

pub record Parts (r k b n v : ℕ) : Type 0 where
  pub kind-is : kind r ≡ k
  pub blocks_is : blocks r ≡ b
  pub steps-is : steps r ≡ n
  pub value-is : value r ≡ v

pub takes-apart : (k b n v : ℕ) → b < 2 ^ 12 → n < 2 ^ 12 → v < 2 ^ 32 → Parts (k * 2 ^ 56 + b * 2 ^ 44 + n * 2 ^ 32 + v) k b n v
takes-apart k b n v hb hn hv = record { kind-is = omega arith; blocks_is = omega arith; steps-is = omega arith; value-is = omega arith }

-- ---- value k of a list of bytes, as a C program takes it
four_bytes : (v : ℕ) → v < 2 ^ 32 → v / 2 ^ 24 % byte_values * 2 ^ 24 + v / 2 ^ 16 % byte_values * 2 ^ 16 + v / 2 ^ 8 % byte_values * 2 ^ 8 + v % byte_values ≡ v
four_bytes v h =
    let a : v / 2 ^ 8 / byte_values ≡ v / 2 ^ 16 = omega arith in
    let b : v / 2 ^ 16 / byte_values ≡ v / 2 ^ 24 = omega arith in
    let c : v / 2 ^ 24 % byte_values ≡ v / 2 ^ 24 = omega arith in
    omega (arith, a, b, c)

module _ (vs bytes₀ : List ℕ) (k : ℕ) (h : k < length vs) where
  byte_at : (i : ℕ) → i < 4 → get_or (over (bytes_of vs) bytes₀) (k * 4 + i) 0 ≡ get_or (value_bytes (get_or vs k 0)) i 0
  unfolding over bytes_of bytes_at
  byte_at i l =
      get_or-append (each (length vs) (bytes_at vs)) _ 0 (k * 4 + i) (omega (arith, each-length (bytes_at vs) 4 (four vs) (length vs)))
      ∙ each_at (bytes_at vs) 4 (four vs) (length vs) k i h l

  -- it is the value that was put there
  pub value-back : get_or vs k 0 < 2 ^ 32 → value_on (over (bytes_of vs) bytes₀) k ≡ get_or vs k 0
  unfolding value_bytes
  value-back small =
      let z : get_or (over (bytes_of vs) bytes₀) (k * 4) 0 ≡ get_or vs k 0 / 2 ^ 24 % byte_values = rw add-zero at (byte_at 0 (omega arith)) in
      rw (z, byte_at 1 (omega arith), byte_at 2 (omega arith), byte_at 3 (omega arith)) (four_bytes (get_or vs k 0) small)
