-- 01, "Refusal numbers": the table, and an answer in its words.
use Rattle.std.specs.Prelude.{ℕ, Result, Ok, Err}
use Rattle.fields.specs.declared.refusal.Refusal.{Refusal}
use Rattle.fields.specs.declared.refusal.Refusal.TheVariants.{Incomplete, Form, Counts, Size, Position, Rest, Room, Places, Cut, Model, States, Log}

-- the number of a refusal
abbrev pub number : Refusal → ℕ
number Incomplete = 1
number Form = 2
number Counts = 3
number Size = 4
number Position = 5
number Rest = 6
number Room = 7
number Places = 8
number Cut = 9
number Model = 10
number States = 11
number Log = 15

-- an answer's refusal number; 0 for none
abbrev pub refusal_number : {A : Type 0} → Result A Refusal → ℕ
refusal_number (Ok a) = 0
refusal_number (Err r) = number r

-- an answer in 01's words: what was asked for, or the number of a refusal
pub data Answered (A : Type 0) : Type 0 where
  Done : A → Answered A
  Refused : ℕ → Answered A

abbrev pub told : {A : Type 0} → Result A Refusal → Answered A
told (Ok a) = Done a
told (Err r) = Refused (number r)

-- the same, where of what was asked for only a part is told
abbrev pub told_as : {A B : Type 0} → (A → B) → Result A Refusal → Answered B
told_as f (Ok a) = Done (f a)
told_as f (Err r) = Refused (number r)

-- the refusal number of what is told; 0 for none
abbrev pub told_number : {A : Type 0} → Answered A → ℕ
told_number (Done a) = 0
told_number (Refused n) = n
