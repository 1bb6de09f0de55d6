-- Demand 1, of files longer than the program reads (decision 50): "Every file .. is accepted or refused by the numbers in 01." And 01, "Sheets": "the largest
-- sheet has 3,365 bytes". Every field that a sheet can have lies within them, so that a longer front of a sheet is accepted or refused as the whole is, and the
-- bytes past the first 4,096 change nothing that is printed for a file.
use Prim.Native.Nat.{ℕ, suc, ◌+◌, ◌-◌, ◌*◌, ◌≤◌, ◌<◌}
use native.Mathlib.Omega.{arith}
use native.Mathlib.Decide.{dec_lt, ℕ_discrete}
use mathlib.Core.Path.{◌≡◌, refl, sym, ap, ◌∙◌}
use mathlib.Core.List.{List, [], ◌∷◌}
use lib.Dec.{ltb}
use lib.ListN.{length, take, drop, length-drop}
use lib.Seq.{length-take-le, take_all, take-add, drop_at}
use borrow.Author.Tests.{le-ltb, lt-ltb}
use Rattle.task.specs.Sizes.{limits}
use Rattle.fields.specs.Bits.{field_at}
use Rattle.fields.specs.Judging.{Field, Entry, on_sheet, judged, refusal}
use Rattle.fields.specs.Packing.{bytes_for}
use Rattle.fields.proofs.JudgingLaws.{stop, passes, refusal-append, refused-is, sheet-here, applies}
use Rattle.fields.proofs.PartLaws.{field-take}
use Rattle.sheets.specs.ModelSheet.{header_part, fields_part, entries, model_bits, columns_of, steps_of, column_on, cost_on, marks_on, sheet_with, of_sheet}
use Rattle.sheets.specs.ModelSheet.{model_end, sheet_checks, judge_part, judge_sheet}
use Rattle.sheets.proofs.SheetLaws.{bits-le, header-fine, part-header, part-done, part-fine, sheet-stopped, sheet-end}
use Rattle.fields.proofs.PlaceLaws.{same-field}
use Rattle.sheets.proofs.RoundLaws.{Same, same-fields, bits-next}
use Rattle.sheet_laws.proofs.Largest.{largest}
use Rattle.fields.specs.Refusals.{Refused}
use Rattle.running.specs.Running.{room_check}
use Rattle.lines.specs.Lines.{input_bytes, first_line, printed}
use Rattle.demands.specs.Files.{room_in, sheet_in, file_checks}
use Rattle.demands.proofs.Printed.{run_lines, printed-is}

-- where no field is refused, bytes follow the largest sheet
follows : (s : List ℕ) → judge_part s ≡ 0 → 3365 < length s → 6 ≡ judge_sheet s
unfolding bytes_for
follows s z l =
    let h = part-fine s z in
    sheet-end s refl z refl
    (applies 6 (ltb (model_end s) (length s)) [] (lt-ltb (model_end s) (length s) (omega (arith, bits-le (columns_of s) (steps_of s) h.columns h.steps))) (λ q. omega arith))

-- ---- a sheet's first b bytes, more than the largest sheet has
module _ (b : ℕ) (large : 3365 < b) (s : List ℕ) (long : b ≤ length s) where
  abbrev front : List ℕ
  front = take b s

  front_long : length front ≡ b
  front_long = length-take-le b s long

  -- every field that a sheet can have is the same in both
  same_at : (at w : ℕ) → at + w ≤ 26920 → on_sheet front at w ≡ on_sheet s at w
  same_at at w h =
      same-field (on_sheet front at w) (on_sheet s at w) (sheet-here front at w (omega (arith, front_long))) (sheet-here s at w (omega arith))
      (field-take s b at w (omega arith))

  abbrev n : ℕ
  n = columns_of s

  abbrev m : ℕ
  m = steps_of s

  module _ (hn : n ≤ limits.columns) (hm : m ≤ limits.steps) where
    within : (j : ℕ) → j < m → model_bits n j + 16 + n * 12 ≤ 26913
    within j h = omega (arith, bits-next n j, bits-le n (suc j) hn (omega arith))

    front_same : Same (sheet_with front n m) (sheet_with s n m) n m
    unfolding sheet_with column_on cost_on marks_on
    front_same =
        record {
          form = same_at 0 4 (omega arith);
          columns = same_at 4 5 (omega arith);
          steps = same_at 9 8 (omega arith);
          column = λ i h k. record {
            size = same_at (17 + i * 17) 6 (omega arith) k;
            start = same_at (17 + i * 17 + 6) 5 (omega arith) k;
            goal = same_at (17 + i * 17 + 6 + 5) 6 (omega arith) k;
          };
          cost = λ j h. same_at (model_bits n j) 16 (omega (arith, within j h));
          marks = λ j i h l k. record {
            need = same_at (model_bits n j + 16 + i * 12) 6 (omega (arith, within j h)) k;
            effect = same_at (model_bits n j + 16 + i * 12 + 6) 6 (omega (arith, within j h)) k;
          };
          fill = same_at (model_bits n m) _ (omega (arith, bits-le n m hn hm));
        }

  abbrev header : List ℕ → List Entry
  header x = header_part (on_sheet x 0 4) (on_sheet x 4 5) (on_sheet x 9 8)

  same-header : judged (header front) ≡ judged (header s)
  same-header = λ k. judged (header_part (same_at 0 4 (omega arith) k) (same_at 4 5 (omega arith) k) (same_at 9 8 (omega arith) k))

  -- a refusal in the header comes before every other field
  stopped-there : (judged (header s) ≡ 0 → ⊥) → (x : List ℕ) → judged (header s) ≡ judged (header x)
      → judged (header s) ≡ judged (fields_part (sheet_with x n m) n m)
  unfolding sheet_with
  stopped-there z x e = part-header (sheet_with x n m) n m e z

  part_same : judge_part s ≡ judge_part front
  unfolding judge_part entries of_sheet sheet_with
  part_same = part-done front (counted 4 5 (omega arith)) (counted 9 8 (omega arith)) (split (ℕ_discrete (judged (header s)) 0))
    where
      counted : (at w : ℕ) → at + w ≤ 26920 → field_at s at w ≡ field_at front at w
      counted at w h = ap (λ (f : Field). f.value) (sym (same_at at w h))

      split : Dec (judged (header s) ≡ 0) → judge_part s ≡ judged (fields_part (sheet_with front n m) n m)
      split (yes z) =
          let h = header-fine (on_sheet s 0 4) (on_sheet s 4 5) (on_sheet s 9 8) z in
          ap judged (sym (same-fields (sheet_with front n m) (sheet_with s n m) n m (front_same h.columns h.steps)))
      split (no z) = sym (stopped-there z s refl) ∙ stopped-there z front (sym same-header)

  front-judged : judge_sheet front ≡ judge_sheet s
  front-judged = split (ℕ_discrete (judge_part s) 0)
    where
      split : Dec (judge_part s ≡ 0) → judge_sheet front ≡ judge_sheet s
      split (yes z) = sym (follows front (sym part_same ∙ z) (omega (arith, front_long))) ∙ follows s z (omega arith)
      split (no z) = sym (sheet-stopped front part_same z) ∙ sheet-stopped s refl z

-- the first b bytes of any sheet are accepted or refused as the whole is
pub first-bytes-judge : (b : ℕ) → 3365 < b → (s : List ℕ) → judge_sheet (take b s) ≡ judge_sheet s
first-bytes-judge b large s = split (dec_lt (length s) b)
  where
    split : Dec (length s < b) → judge_sheet (take b s) ≡ judge_sheet s
    split (yes h) = ap judge_sheet (take_all b s (omega arith))
    split (no h) = front-judged b large s (omega arith)

-- ---- what is printed

-- for an input that is too long for a sheet: the refusal of its sheet
too_long : (file : List ℕ) → 3367 < length file → printed file ≡ first_line (Refused (judge_sheet (sheet_in file)))
unfolding file_checks judge_sheet
too_long file h =
    let s = sheet_in file in
    let z : judge_sheet s ≡ 0 → ⊥ = λ q. omega (arith, largest s q, length-drop 2 file) in
    let sheet = sym (refusal-append (sheet_checks s) (room_check (room_in file) ∷ []) ∙ stop (judge_sheet s) _ z) in
    let e : judge_sheet s ≡ refusal (file_checks file) = passes 1 (ltb (length file) 2) _ (le-ltb (length file) 2 (omega arith)) sheet in
    printed-is file ∙ sym (refused-is (λ k. first_line (Refused k)) (file_checks file) (run_lines file) e z)

pub first-bytes-printed : (b : ℕ) → 3365 < b → (file : List ℕ) → printed (take (2 + b) file) ≡ printed file
first-bytes-printed b large file = split (dec_lt (length file) (2 + b))
  where
    split : Dec (length file < 2 + b) → printed (take (2 + b) file) ≡ printed file
    split (yes h) = ap printed (take_all (2 + b) file (omega arith))
    split (no h) =
        let l = length-take-le (2 + b) file (omega arith) in
        let d : sheet_in (take (2 + b) file) ≡ take b (sheet_in file) =
        ap (drop 2) (take-add 2 b file) ∙ drop_at (take 2 file) (take b (drop 2 file)) 2 (length-take-le 2 file (omega arith)) in
        too_long (take (2 + b) file) (omega arith)
        ∙ ap (λ (k : ℕ). first_line (Refused k)) (ap judge_sheet d ∙ first-bytes-judge b large (sheet_in file))
        ∙ sym (too_long file (omega arith))

-- the bytes past the first 4,096 change nothing
pub printed-reads : (file : List ℕ) → printed (take input_bytes file) ≡ printed file
printed-reads = first-bytes-printed (input_bytes - 2) (omega arith)
