-- 01, "Refusal numbers": "Input places beyond a writer's counts are not read." Lists of cuts that agree on the first places, as many as the count says, give
-- the same cut sheet and the same refusals.
use Prim.Native.Nat.{ℕ, ◌+◌, ◌*◌}
use native.Mathlib.Omega.{arith}
use mathlib.Core.Path.{◌≡◌, refl, ap}
use mathlib.Core.Bool.{cond}
use mathlib.Core.List.{List, [], ◌∷◌, ◌++◌}
use lib.Dec.{eqb}
use lib.ListN.{length, take}
use Rattle.task.specs.Loops.{over}
use Rattle.fields.specs.Judging.{Entry, checks_of, refusal}
use Rattle.fields.specs.Refusals.{Done, Refused}
use Rattle.fields.specs.Packing.{sheet_of}
use Rattle.sheets.specs.ModelSheet.{sheet_checks}
use Rattle.sheets.specs.Holding.{task_on}
use Rattle.sheets.specs.LentTables.{too_few}
use Rattle.fields.proofs.PlaceLaws.{same_place}
use Rattle.cut_sheets.specs.CutPart.{cut_entries, cut_bytes}
use Rattle.cut_sheets.specs.CutSheet.{cut_lent, of_cuts, cut_sheet_of, given_checks, write_cuts_checks}
use Rattle.cut_sheets.proofs.CutPartLaws.{SameCuts, same-fields}
use Rattle.cut_writing.specs.CutWriting.{write_cuts_outcome, writing_cuts}

module _ (model : List ℕ) (count : ℕ) (cuts cuts' : List ℕ) (same : take (count * 3) cuts ≡ take (count * 3) cuts') where
  first-same : SameCuts (of_cuts count cuts) (of_cuts count cuts') count
  unfolding of_cuts cut_lent
  first-same =
      record {
        form = refl;
        count = refl;
        cut = λ i h x. record {
          block = same_place (count * 3) cuts cuts' same (i * 3) (omega arith) x;
          column = same_place (count * 3) cuts cuts' same (i * 3 + 1) (omega arith) x;
          wanted = same_place (count * 3) cuts cuts' same (i * 3 + 2) (omega arith) x;
        };
        fill = refl;
      }

  same_entries : cut_entries (task_on model) (of_cuts count cuts) ≡ cut_entries (task_on model) (of_cuts count cuts')
  unfolding cut_entries of_cuts
  same_entries = same-fields (task_on model) (of_cuts count cuts) (of_cuts count cuts') count first-same

  pub first-places : (sheet : List ℕ) → writing_cuts model count cuts sheet ≡ writing_cuts model count cuts' sheet
  unfolding writing_cuts write_cuts_checks given_checks cut_sheet_of
  first-places sheet =
      ap (λ (es : List Entry).
      let r = refusal ((sheet_checks model ++ checks_of es) ++ (too_few (length model + cut_bytes count) sheet ∷ [])) in
      cond (eqb r 0) (write_cuts_outcome (Done (length model + cut_bytes count)) (over (model ++ sheet_of es) sheet)) (write_cuts_outcome (Refused r) sheet)) same_entries
