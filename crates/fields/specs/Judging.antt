-- 01, "Refusal numbers": how fields are judged, wherever they come from. Readers and writers share this.
use Rattle.std.specs.Prelude.{ℕ, zero, suc, ◌+◌, ◌*◌, Bool, true, false, not, ◌||◌, cond, Option, Some, None}
use Rattle.std.specs.Prelude.{List, [], ◌∷◌, ◌++◌, length, get_or, eqb, leb, ltb}
use Rattle.fields.specs.Bits.{field_at}

infixr 30 ◌then◌
-- a field: whether it is complete, and its value
pub record Field : Type 0 where
  pub here : Bool
  pub value : ℕ

-- the field of w bits at bit position at of the bytes s
abbrev pub on_sheet : List ℕ → ℕ → ℕ → Field
on_sheet s at w = record { here = leb (at + w) (8 * length s); value = field_at s at w }

-- the place i of a table that a writer is lent
abbrev pub in_table : List ℕ → ℕ → Field
in_table t i = record { here = ltb i (length t); value = get_or t i 0 }

-- a number that a writer is given
abbrev pub given : ℕ → Field
given v = record { here = true; value = v }

-- what code has of a field: its value, where it is complete
unfoldable pub read : Field → Option ℕ
read f = cond f.here (Some f.value) None

-- a field of a sheet: its bits, and the refusal number of a value that is bad
pub record Entry : Type 0 where
  pub width : ℕ
  pub field : Field
  pub number : ℕ
  pub bad : Bool

abbrev pub entry : ℕ → Field → ℕ → Bool → Entry
entry w f number bad = record { width = w; field = f; number = number; bad = bad }

-- a field of which every value is good
abbrev pub free : ℕ → Field → Entry
free w f = entry w f 1 false

-- not low to high
unfoldable pub outside : ℕ → ℕ → ℕ → Bool
outside low high v = ltb v low || ltb high v

-- a check: a refusal number, and whether its row applies
pub record Check : Type 0 where
  pub number : ℕ
  pub applies : Bool

abbrev pub check : ℕ → Bool → Check
check n b = record { number = n; applies = b }

-- bytes follow what ends after so many of them: judged last, by whoever has the end of the whole
abbrev pub follows : ℕ → List ℕ → Check
follows end s = check 6 (ltb end (length s))

-- fields in sheet order, each judged as soon as it is complete: 1 where it is not complete, then its value
unfoldable pub checks_of : List Entry → List Check
checks_of [] = []
checks_of (e ∷ es) = check 1 (not e.field.here) ∷ check e.number e.bad ∷ checks_of es

-- the first refusal of two; 0 is no refusal
unfoldable pub ◌then◌ : ℕ → ℕ → ℕ
zero then b = b
suc a then b = suc a

-- the number of the first check that applies; 0 where none does
unfoldable pub refusal : List Check → ℕ
refusal [] = 0
refusal (c ∷ cs) = cond c.applies c.number 0 then refusal cs

-- what is done where nothing is refused; else what a refusal with that number answers, which has nothing of what would have been done
abbrev pub unless_refused : {A : Type 0} → ℕ → A → (ℕ → A) → A
unless_refused n done refused = cond (eqb n 0) done (refused n)

-- the refusal that a list of fields gets
unfoldable pub judged : List Entry → ℕ
judged es = refusal (checks_of es)

-- f 0, then f 1, .. below n, one list after the other
unfoldable pub each : {A : Type 0} → ℕ → (ℕ → List A) → List A
each zero f = []
each (suc n) f = each n f ++ f n
