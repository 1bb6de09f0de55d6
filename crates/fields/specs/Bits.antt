-- 01, "Sheets": the bits of a list of bytes, most significant first, and the fields made of them. Past the end every bit is 0.
use Rattle.std.specs.Prelude.{ℕ, zero, suc, ◌+◌, ◌-◌, ◌*◌, ◌/◌, ◌%◌, ◌^◌, List, get_or, set}

-- a byte is below this
abbrev pub byte_values : ℕ
byte_values = 256

-- code reads and puts fields of at most so many bits, and none that begins farther than this
abbrev pub widest_field : ℕ
widest_field = 32

abbrev pub farthest_bit : ℕ
farthest_bit = 65536

-- bit k of the bytes s, where bit 0 is the first byte's most significant
unfoldable pub bit_at : List ℕ → ℕ → ℕ
bit_at s k = get_or s (k / 8) 0 / 2 ^ (7 - k % 8) % 2

-- the value of the w bits from bit position at on
unfoldable pub field_at : List ℕ → ℕ → ℕ → ℕ
field_at s at zero = 0
field_at s at (suc w) = 2 * field_at s at w + bit_at s (at + w)

-- x with its bit of weight 2 ^ e made b
unfoldable pub with_bit : ℕ → ℕ → ℕ → ℕ
with_bit x e b = x / (2 * 2 ^ e) * (2 * 2 ^ e) + (b * 2 ^ e + x % 2 ^ e)

-- the bytes l with bit k made b
unfoldable pub put_bit : ℕ → ℕ → List ℕ → List ℕ
put_bit k b l = set l (k / 8) (with_bit (get_or l (k / 8) 0) (7 - k % 8) b)

-- the bytes l with the w bits from bit position at on made the value v
unfoldable pub put_field : ℕ → ℕ → ℕ → List ℕ → List ℕ
put_field at zero v l = l
put_field at (suc w) v l = put_bit (at + w) (v % 2) (put_field at w (v / 2) l)
