-- Laws for the code that judges a question: each refusal is the one that the definition gives, and what is left is the estimates.
use Prim.Native.Nat.{ℕ, ◌-◌, ◌/◌, ◌≤◌, ◌<◌}
use native.Mathlib.Omega.{arith}
use native.Mathlib.Decide.{dec_lt}
use mathlib.Core.Path.{◌≡◌, refl, sym, ap, ap₂, ◌∙◌}
use mathlib.Core.Bool.{Bool, true, false, cond}
use mathlib.Core.List.{List, [], ◌∷◌}
use lib.Dec.{ltb}
use lib.ListN.{length, get_or, take, length-take, get_or-eq_default}
use Rattle.std.proofs.Common.{get_or-take}
use borrow.Author.Tests.{lt-ltb, le-ltb, eq-eqb}
use Rattle.task.specs.Loops.{over}
use Rattle.task.specs.Task.{Task, column, column_count}
use Rattle.fields.specs.Judging.{check, refusal}
use Rattle.fields.specs.Refusals.{Done, Refused}
use Rattle.fields.proofs.JudgingLaws.{stop, go, applies, passes, no-checks, refusal-append, refused-is}
use Rattle.sheets.specs.LentTables.{too_few}
use Rattle.sheets.specs.Holding.{task_on}
use Rattle.sheets.specs.ModelSheet.{judge_sheet}
use Rattle.masks.specs.declared.Tables.{Tables}
use Rattle.cutting.specs.declared.Blocks.{Blocks}
use Rattle.preparing.specs.Preparing.{Prepared}
use Rattle.cut_sheets.specs.CutPart.{cuts_named, cut_on, count_of}
use Rattle.cut_sheets.specs.CutSheet.{tail_of, cut_sheet_checks, cuts_of}
use Rattle.cut_reading.specs.Rebuilding.{SheetJudged}
use Rattle.cut_reading.proofs.RebuildLaws.{sheets-ok, start-within}
use Rattle.asking.specs.Question.{states_in, bad_states, estimates_of, question_checks, question_outcome, asking, Asks}
use Rattle.asking.specs.Posing.{SizesOf, Posed, Answerable}

-- the answer of the code that judges states
eleven : (b : Bool) {r : ℕ} → r ≡ cond b 11 0 → (r ≡ 0 → ⊥) → (b ≡ true) × (r ≡ 11)
eleven true e z = (refl, e)
eleven false e z = absurd (z e)

fine : (b : Bool) {r : ℕ} → r ≡ cond b 11 0 → r ≡ 0 → b ≡ false
fine true e z = absurd (omega arith)
fine false e z = refl

-- a place whose number is not 0 is there
reaches : (l : List ℕ) (i : ℕ) → 0 < get_or l i 0 → i < length l
reaches l i h = split (dec_lt i (length l))
  where
    split : Dec (i < length l) → i < length l
    split (yes k) = k
    split (no k) = absurd (omega (arith, h, get_or-eq_default l 0 {n = i} (omega arith)))

module _ (m s states est : List ℕ) where
  refusing : {r : ℕ} → r ≡ refusal (question_checks m s states est) → (r ≡ 0 → ⊥) → Asks m s states est (Refused r) est
  unfolding asking
  refusing e z = refused-is (λ n. question_outcome (Refused n) est) (question_checks m s states est) _ e z

  -- a refusal of the sheets
  pub sheets-refused : {r : ℕ} {exit : Blocks} → SheetJudged m s r exit → (r ≡ 0 → ⊥) → Asks m s states est (Refused r) est
  unfolding question_checks
  sheets-refused j z =
      refusing (j.refused ∙ sym (refusal-append (cut_sheet_checks m s) _ ∙ stop (refusal (cut_sheet_checks m s)) _ (λ q. z (j.refused ∙ q)))) z

  module _ {exit : Blocks} (j : SheetJudged m s 0 exit) where
    after : {x : ℕ} → x ≡ refusal (check 11 (bad_states (task_on m) states) ∷ too_few (states_in (task_on m) states) est ∷ []) → x ≡ refusal (question_checks m s states est)
    unfolding question_checks
    after e = e ∙ sym (refusal-append (cut_sheet_checks m s) _ ∙ go (refusal (cut_sheet_checks m s)) _ (sym j.refused))

    pub within : length m ≤ length s
    within = start-within m s [] j

    pub model-fine : judge_sheet m ≡ 0
    model-fine = (sheets-ok m s [] j).0

    module _ {g : Tables} (p : Prepared (task_on m) g) where
      abbrev columns : ℕ
      columns = g.shape.columns

      wide : column_count (task_on m) ≡ columns
      wide = p.tabled.own.wide

      some-columns : 0 < columns
      some-columns = omega (arith, p.tabled.task.columns.0, wide)

      asked : states_in (task_on m) states ≡ length states / columns
      unfolding states_in
      asked = ap (λ (n : ℕ). length states / n) wide

      -- the sizes of the columns, at the front of those that a model can have
      sizes-there : columns ≤ length g.sizes
      sizes-there =
          let i : ℕ = columns - 1 in
          let h : i < column_count (task_on m) = omega (arith, some-columns, wide) in
          let k : i < length g.sizes = reaches g.sizes i (omega (arith, p.sizes (column i) h, p.tabled.task.sizes (column i) h)) in
          omega (arith, k)

      long : length (take columns g.sizes) ≡ columns
      long = simp length-take (omega (arith, sizes-there))

      pub some-taken : 0 < length (take columns g.sizes)
      some-taken = omega (arith, long, some-columns)

      module _ {bad : ℕ} (b : (t : Task) → SizesOf t (take columns g.sizes) → bad ≡ cond (bad_states t states) 11 0) where
        said : bad ≡ cond (bad_states (task_on m) states) 11 0
        said =
            b (task_on m) (
              wide ∙ sym long,
              λ j h.
                  let q : j < columns = omega (arith, long) in
                  p.sizes (column j) (omega (arith, q, wide)) ∙ sym (get_or-take columns g.sizes j 0 q),
            )

        -- a refusal of the states
        pub states-refused : (bad ≡ 0 → ⊥) → Asks m s states est (Refused bad) est
        states-refused n =
            let q = eleven (bad_states (task_on m) states) said n in
            refusing (q.1 ∙ after (applies 11 (bad_states (task_on m) states) _ q.0 (λ h. omega arith))) n

        module _ (k : bad ≡ 0) where
          good : bad_states (task_on m) states ≡ false
          good = fine (bad_states (task_on m) states) said k

          -- too few places
          pub places-refused : length est < length states / columns → Asks m s states est (Refused 8) est
          places-refused h =
              refusing
              (after (passes 11 (bad_states (task_on m) states) _ good (applies 8 (ltb (length est) (states_in (task_on m) states)) [] (lt-ltb (length est) (states_in (task_on m) states) (omega (arith, asked))) (λ q. omega arith))))
              (λ q. omega arith)

          module _ (h : length states / columns ≤ length est) {part : List ℕ} (q : part ≡ tail_of s) where
            pub posed : Posed (task_on m) part g exit states
            posed = record { tabled = p.tabled; fine = rw q (sheets-ok m s [] j).2; made = rw (q, sym wide) (j.made refl); good = good }

            pub answerable : Answerable part g exit states (length est)
            answerable = record { task = task_on m; posed = posed; room = omega (arith, asked) }

            -- the estimates are there
            pub answered : {next : List ℕ} → next ≡ over (estimates_of (task_on m) (cuts_named (cut_on part) (count_of part)) states) est
                → Asks m s states est (Done (length states / columns)) next
            unfolding asking cuts_of
            answered a =
                let n : 0 ≡ refusal (question_checks m s states est) =
                after (passes 11 (bad_states (task_on m) states) _ good (passes 8 (ltb (length est) (states_in (task_on m) states)) [] (le-ltb (length est) (states_in (task_on m) states) (omega (arith, asked))) no-checks)) in
                let o = a ∙ ap (λ (l : List ℕ). over (estimates_of (task_on m) (cuts_named (cut_on l) (count_of l)) states) est) q in
                simp (eq-eqb (refusal (question_checks m s states est)) 0 (sym n)) (ap₂ question_outcome (ap Done (sym asked)) o)
