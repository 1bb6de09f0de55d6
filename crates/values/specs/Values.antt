-- 01, "The planner's boundary": in the historian's lists each value is four bytes, most significant first. 02's signed values are in two's complement.
use Rattle.std.specs.Prelude.{ℕ, suc, ◌+◌, ◌-◌, ◌*◌, ◌/◌, ◌%◌, ◌^◌, List, [], ◌∷◌, map, ℤ, pos, negsuc, length, get_or}
use Rattle.fields.specs.Bits.{byte_values}
use Rattle.task.specs.Loops.{tab}
use Rattle.fields.specs.Judging.{each}

-- a value is four bytes, most significant first
unfoldable pub value_bytes : ℕ → List ℕ
value_bytes v = v / 2 ^ 24 % byte_values ∷ v / 2 ^ 16 % byte_values ∷ v / 2 ^ 8 % byte_values ∷ v % byte_values ∷ []

-- the bytes of value i of a list
unfoldable pub bytes_at : List ℕ → ℕ → List ℕ
bytes_at vs i = value_bytes (get_or vs i 0)

-- the values of a list one after the other
unfoldable pub bytes_of : List ℕ → List ℕ
bytes_of vs = each (length vs) (bytes_at vs)

-- value k of a list of bytes
abbrev pub value_on : List ℕ → ℕ → ℕ
value_on bytes k = get_or bytes (k * 4) 0 * 2 ^ 24 + get_or bytes (k * 4 + 1) 0 * 2 ^ 16 + get_or bytes (k * 4 + 2) 0 * 2 ^ 8 + get_or bytes (k * 4 + 3) 0

-- all of them; bytes short of a whole value are none
unfoldable pub values_on : List ℕ → List ℕ
values_on bytes = tab (length bytes / 4) (value_on bytes)

-- a signed value in two's complement
unfoldable pub twos : ℤ → ℕ
twos (pos n) = n
twos (negsuc n) = 2 ^ 32 - suc n

-- the bytes of a list of signed values
unfoldable pub signed_bytes : List ℤ → List ℕ
signed_bytes zs = bytes_of (map twos zs)
