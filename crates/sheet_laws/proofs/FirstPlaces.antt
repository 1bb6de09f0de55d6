-- 01, "Refusal numbers": "Input places beyond a writer's counts are not read." Tables that agree on the first places, as many as the counts say, give the same
-- sheet and the same refusals. Two tables agree on their first k places when `take k` of both is the same: a table that ends before them
-- agrees only with one that ends there too.
use Prim.Native.Nat.{ℕ, suc, ◌+◌, ◌*◌, ◌<◌}
use native.Mathlib.Nat.{suc-mul, mul-le-mul, le_refl}
use native.Mathlib.Omega.{arith}
use mathlib.Core.Path.{◌≡◌, refl, ap}
use mathlib.Core.Bool.{cond}
use mathlib.Core.List.{List, [], ◌∷◌, ◌++◌}
use lib.Dec.{eqb}
use lib.ListN.{take}
use Rattle.task.specs.Loops.{over}
use Rattle.fields.specs.Judging.{Entry, checks_of, refusal}
use Rattle.fields.specs.Packing.{sheet_of}
use Rattle.fields.proofs.PlaceLaws.{same_place}
use Rattle.sheets.specs.ModelSheet.{Source, entries, model_bytes}
use Rattle.sheets.specs.LentTables.{column_in, marks_in, of_tables, too_few, write_checks}
use Rattle.sheets.proofs.RoundLaws.{Same, same-fields}
use Rattle.fields.specs.Refusals.{Done, Refused}
use Rattle.writing.specs.Writing.{write_outcome, writing}

module _ (n m : ℕ) (f f' c c' k k' : List ℕ) (frames : take (n * 3) f ≡ take (n * 3) f') (costs : take m c ≡ take m c') (marks : take (m * (n * 2)) k ≡ take (m * (n * 2)) k') where
  abbrev P : Source
  P = of_tables n m f c k

  abbrev Q : Source
  Q = of_tables n m f' c' k'

  in-marks : (j i : ℕ) → j < m → i < n → j * (n * 2) + i * 2 + 1 < m * (n * 2)
  in-marks j i h l = omega (arith, suc-mul j (n * 2), mul-le-mul {n₁ = suc j} {m₁ = n * 2} {n₂ = m} {m₂ = n * 2} (omega arith) (le_refl (n * 2)))

  first-same : Same P Q n m
  unfolding of_tables column_in marks_in
  first-same =
      record {
        form = refl;
        columns = refl;
        steps = refl;
        column = λ i h x. record {
          size = same_place (n * 3) f f' frames (i * 3) (omega arith) x;
          start = same_place (n * 3) f f' frames (i * 3 + 1) (omega arith) x;
          goal = same_place (n * 3) f f' frames (i * 3 + 2) (omega arith) x;
        };
        cost = λ j h. same_place m c c' costs j h;
        marks = λ j i h l x. record {
          need = same_place (m * (n * 2)) k k' marks (j * (n * 2) + i * 2) (omega (arith, in-marks j i h l)) x;
          effect = same_place (m * (n * 2)) k k' marks (j * (n * 2) + i * 2 + 1) (in-marks j i h l) x;
        };
        fill = refl;
      }

  same_entries : entries P ≡ entries Q
  unfolding entries of_tables
  same_entries = same-fields P Q n m first-same

  pub first-places : (sheet : List ℕ) → writing P sheet ≡ writing Q sheet
  unfolding writing write_checks of_tables
  first-places sheet =
      ap (λ (es : List Entry).
      let r = refusal (checks_of es ++ (too_few (model_bytes n m) sheet ∷ [])) in
      cond (eqb r 0) (write_outcome (Done (model_bytes n m)) (over (sheet_of es) sheet)) (write_outcome (Refused r) sheet)) same_entries
