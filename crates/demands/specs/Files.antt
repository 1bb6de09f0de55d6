-- 01: "The program reads standard input: room in 16 bits, then a model sheet. Fewer than two bytes is refusal 1." What a file has, how it is judged, and which
-- refusal a printed text tells.
use Rattle.std.specs.Prelude.{ℕ, ◌+◌, ◌-◌, ◌*◌, cond, List, [], ◌∷◌, ◌++◌, eqb, ltb, length, get_or, drop}
use Rattle.fields.specs.Bits.{field_at}
use Rattle.fields.specs.Judging.{Check, check}
use Rattle.sheets.specs.ModelSheet.{sheet_checks}
use Rattle.running.specs.Running.{room_check}

abbrev pub room_in : List ℕ → ℕ
room_in file = field_at file 0 16

abbrev pub sheet_in : List ℕ → List ℕ
sheet_in file = drop 2 file

-- the checks of a file, in 01's order: 1 where the room's two bytes are not there, the sheet, then 7
unfoldable pub file_checks : List ℕ → List Check
file_checks file = check 1 (ltb (length file) 2) ∷ (sheet_checks (sheet_in file) ++ (room_check (room_in file) ∷ []))

-- the number whose decimal digits stand before the end of a line, after those that made n
unfoldable pub digits_on : ℕ → List ℕ → ℕ
digits_on n [] = n
digits_on n (c ∷ cs) = cond (eqb c 10) n (digits_on (n * 10 + (c - 48)) cs)

-- the refusal number that a text tells: of "refused n" the digits from byte 8 on; 0 where it does not begin with an r
unfoldable pub refusal_on : List ℕ → ℕ
refusal_on text = cond (eqb (get_or text 0 0) 114) (digits_on 0 (drop 8 text)) 0
