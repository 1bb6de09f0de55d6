-- 01, "The small re-thread": the lines that the program prints, in ASCII.
use Rattle.std.specs.Prelude.{ℕ, ◌+◌, ◌*◌, ◌/◌, ◌^◌, ◌≡◌, cond, List, [], ◌∷◌, ◌++◌, ltb, length, get_or, drop}
use Rattle.std.proofs.Math.Option
use Rattle.io.specs.Digits.{last_digits}
use Rattle.task.specs.Loops.{first, when}
use Rattle.task.specs.Task.{Task}
use Rattle.fields.specs.Bits.{field_at}
use Rattle.fields.specs.Judging.{refusal, each, unless_refused}
use Rattle.fields.specs.Places.{puts}
use Rattle.fields.specs.Refusals.{Answered, Done, Refused}
use Rattle.sheets.specs.ModelSheet.{sheet_checks}
use Rattle.sheets.specs.Holding.{task_on}
use Rattle.run.specs.Run as run
use Rattle.run.specs.Run.{block_count, rows_of}
use Rattle.run.specs.Listing.{listed, row_place}
use Rattle.running.specs.declared.Answer.{Answer}
use Rattle.running.specs.declared.Answer.TheVariants.{Plan, NoPlan, Open}
use Rattle.running.specs.Running.{room_check, returned}

-- as many decimal digits are enough for 64 bits
abbrev pub most_digits : ℕ
most_digits = 20

-- how many decimal digits a number has
unfoldable pub width : ℕ → ℕ
width n = Option.get_or (first most_digits (λ k. when (ltb n (10 ^ (k + 1))) (k + 1))) most_digits

unfoldable pub decimal : ℕ → List ℕ
decimal n = last_digits 10 (width n) n

-- no line has more bytes, and no change sheet more than the program's buffer
abbrev pub line_bytes : ℕ
line_bytes = 128

abbrev pub output_bytes : ℕ
output_bytes = 65536

-- of its input the program reads no more bytes
abbrev pub input_bytes : ℕ
input_bytes = 4096

-- the fixed texts
abbrev pub plan_text : List ℕ
plan_text = 112 ∷ 108 ∷ 97 ∷ 110 ∷ 32 ∷ []

abbrev pub no_plan_text : List ℕ
no_plan_text = 110 ∷ 111 ∷ 32 ∷ 112 ∷ 108 ∷ 97 ∷ 110 ∷ 32 ∷ 98 ∷ 108 ∷ 111 ∷ 99 ∷ 107 ∷ 115 ∷ 32 ∷ []

abbrev pub open_text : List ℕ
open_text = 111 ∷ 112 ∷ 101 ∷ 110 ∷ 32 ∷ []

abbrev pub refused_text : List ℕ
refused_text = 114 ∷ 101 ∷ 102 ∷ 117 ∷ 115 ∷ 101 ∷ 100 ∷ 32 ∷ []

abbrev pub steps_text : List ℕ
steps_text = 32 ∷ 115 ∷ 116 ∷ 101 ∷ 112 ∷ 115 ∷ 32 ∷ []

abbrev pub blocks_text : List ℕ
blocks_text = 32 ∷ 98 ∷ 108 ∷ 111 ∷ 99 ∷ 107 ∷ 115 ∷ 32 ∷ []

abbrev pub space : List ℕ
space = 32 ∷ []

-- a text and a number
unfoldable pub labelled : List ℕ → ℕ → List ℕ
labelled text n = text ++ decimal n

abbrev pub line_end : List ℕ
line_end = 10 ∷ []

-- kind, cost, steps, blocks
unfoldable pub first_line : Answered Answer → List ℕ
first_line (Done (Plan cost steps blocks)) = labelled plan_text cost ++ (labelled steps_text steps ++ (labelled blocks_text blocks ++ line_end))
first_line (Done (NoPlan blocks)) = labelled no_plan_text blocks ++ line_end
first_line (Done (Open estimate blocks)) = labelled open_text estimate ++ (labelled blocks_text blocks ++ line_end)
first_line (Refused n) = labelled refused_text n ++ line_end

-- row, step, tenths, tenths left after it: row i of a list, counted from 1
unfoldable pub row_line : List ℕ → ℕ → List ℕ
row_line list i =
    decimal (i + 1)
    ++ (labelled space (get_or list (i * 3) 0) ++ (labelled space (get_or list (i * 3 + 1) 0) ++ (labelled space (get_or list (i * 3 + 2) 0) ++ line_end)))

-- a line for each row of a list
unfoldable pub row_lines : List ℕ → List ℕ
row_lines list = each (length list / 3) (row_line list)

-- ---- what is printed

-- for a run that is made: the first line, and the rows of a plan
unfoldable pub made_lines : Task → run.Outcome → List ℕ
made_lines t o = first_line (Done (returned t (block_count o) o.answer)) ++ row_lines (listed row_place (rows_of t o.answer))

-- the sheet is judged, then 7
unfoldable pub ran_lines : List ℕ → ℕ → List ℕ
ran_lines s room =
    unless_refused (refusal (sheet_checks s ++ (room_check room ∷ []))) (made_lines (task_on s) (run.run (task_on s) room)) (λ n. first_line (Refused n))

-- room in 16 bits, then a model sheet; fewer than two bytes is refusal 1
unfoldable pub printed : List ℕ → List ℕ
printed input = cond (ltb (length input) 2) (first_line (Refused 1)) (ran_lines (drop 2 input) (field_at input 0 16))

-- ---- bytes put one after the other: from place at on, and where the next goes
pub record Put (at : ℕ) (xs l : List ℕ) (r : ℕ) (l' : List ℕ) : Type 0 where
  pub next : r ≡ at + length xs
  pub bytes : l' ≡ puts at xs l

-- what `put_printed` promises for every input: how many bytes it put, and the buffer at exit
abbrev pub Prints : (input out : List ℕ) → ℕ → (out' : List ℕ) → Type 0
Prints input out r out' = Put 0 (printed input) out r out'
