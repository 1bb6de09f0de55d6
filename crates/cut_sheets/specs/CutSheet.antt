-- 01, "Sheets" and "Refusal numbers", of the cut sheet: a whole model sheet, and from the next byte the cut part.
use Rattle.std.specs.Prelude.{ℕ, ◌+◌, ◌*◌, Bool, not, ◌&&◌, List, [], ◌∷◌, ◌++◌, length, get_or, drop, eqb, leb}
use Rattle.task.specs.Loops.{all}
use Rattle.fields.specs.Judging.{Check, in_table, given, check, checks_of, each}
use Rattle.fields.specs.Packing.{sheet_of}
use Rattle.sheets.specs.ModelSheet.{model_end, of_sheet, entries, sheet_checks}
use Rattle.sheets.specs.Holding.{task_on}
use Rattle.sheets.specs.LentTables.{too_few}
use Rattle.blocks.specs.declared.Cut.{Cut}
use Rattle.cut_sheets.specs.CutPart.{CutFields, CutSource, cuts_named, cut_entries, count_of, cut_on, cut_bytes, cut_checks}

-- the tail, starting after the inner model sheet
unfoldable pub tail_of : List ℕ → List ℕ
tail_of s = drop (model_end s) s

-- the bytes a stand at the front of the bytes s
unfoldable pub at_front : List ℕ → List ℕ → Bool
at_front a s = leb (length a) (length s) && all (length a) (λ i. eqb (get_or a i 0) (get_or s i 0))

-- the given model sheet, the inner model, 10, the cut part
unfoldable pub cut_sheet_checks : List ℕ → List ℕ → List Check
cut_sheet_checks model s =
    sheet_checks model
    ++ (checks_of (entries (of_sheet s)) ++ (check 10 (not (at_front model s)) ∷ cut_checks (task_on model) (tail_of s)))

-- ---- rebuilding fills a list with the cuts

-- the cuts of a cut sheet
unfoldable pub cuts_of : List ℕ → List Cut
cuts_of s = cuts_named (cut_on (tail_of s)) (count_of (tail_of s))

-- a place of the list is three values: block, column, wanted
unfoldable pub cut_values : (ℕ → CutFields) → ℕ → List ℕ
cut_values c i = (c i).block.value ∷ (c i).column.value ∷ (c i).wanted.value ∷ []

unfoldable pub cut_list : List ℕ → List ℕ
cut_list s = each (count_of (tail_of s)) (cut_values (cut_on (tail_of s)))

-- and last 8
unfoldable pub rebuild_checks : List ℕ → List ℕ → List ℕ → List Check
rebuild_checks model s cuts = cut_sheet_checks model s ++ (too_few (count_of (tail_of s) * 3) cuts ∷ [])

-- ---- writing a cut sheet

-- the fields of a lent list of cuts
unfoldable pub cut_lent : List ℕ → ℕ → CutFields
cut_lent cuts i = record { block = in_table cuts (i * 3); column = in_table cuts (i * 3 + 1); wanted = in_table cuts (i * 3 + 2) }

unfoldable pub of_cuts : ℕ → List ℕ → CutSource
of_cuts count cuts = record { form = given 2; count = given count; cut = cut_lent cuts; fill = given 0 }

-- the bytes of the cut sheet
unfoldable pub cut_sheet_of : List ℕ → ℕ → List ℕ → List ℕ
cut_sheet_of model count cuts = model ++ sheet_of (cut_entries (task_on model) (of_cuts count cuts))

-- the model sheet, the count, the cuts
unfoldable pub given_checks : List ℕ → ℕ → List ℕ → List Check
given_checks model count cuts = sheet_checks model ++ checks_of (cut_entries (task_on model) (of_cuts count cuts))

-- then 8
unfoldable pub write_cuts_checks : List ℕ → ℕ → List ℕ → List ℕ → List Check
write_cuts_checks model count cuts sheet = given_checks model count cuts ++ (too_few (length model + cut_bytes count) sheet ∷ [])
