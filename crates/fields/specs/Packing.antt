-- 01, "Sheets": fields are packed without gaps.
use Rattle.std.specs.Prelude.{ℕ, ◌+◌, ◌/◌, List, [], ◌∷◌, replicate}
use Rattle.fields.specs.Bits.{put_field}
use Rattle.fields.specs.Judging.{Entry}

-- how many bits the fields take
unfoldable pub bits_in : List Entry → ℕ
bits_in [] = 0
bits_in (e ∷ es) = e.width + bits_in es

-- the bytes l with the fields put one after the other from bit position at on
unfoldable pub packed : ℕ → List Entry → List ℕ → List ℕ
packed at [] l = l
packed at (e ∷ es) l = packed (at + e.width) es (put_field at e.width e.field.value l)

unfoldable pub zeros : ℕ → List ℕ
zeros n = replicate n 0

-- how many bytes hold so many bits
unfoldable pub bytes_for : ℕ → ℕ
bytes_for bits = (bits + 7) / 8

-- the bytes of the fields
unfoldable pub sheet_of : List Entry → List ℕ
sheet_of es = packed 0 es (zeros (bytes_for (bits_in es)))
