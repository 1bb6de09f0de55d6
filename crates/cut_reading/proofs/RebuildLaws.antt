-- Laws for the code that reads a cut sheet.
use Prim.Native.Nat.{ℕ, ◌-◌, ◌*◌, ◌≤◌, ◌<◌}
use native.Mathlib.Omega.{arith}
use mathlib.Core.Path.{◌≡◌, refl, sym, ap, ap₂, ◌∙◌, subst}
use mathlib.Core.Bool.{Bool, true, false}
use mathlib.Core.List.{List, [], ◌∷◌, ◌++◌}
use lib.Dec.{eqb, ltb}
use lib.ListN.{length, take, drop, take-append-drop}
use borrow.Author.Tests.{lt-ltb, le-ltb, eq-eqb}
use Rattle.std.specs.List.{starts_with}
use Rattle.std.proofs.lemmas.Bool.Decides.{Decides-eqb}
use Rattle.std.proofs.lemmas.Slice.Eq.{starts_is}
use Rattle.task.specs.Loops.{tab, over}
use Rattle.task.specs.Task.{column_count}
use Rattle.fields.specs.Judging.{refusal, each}
use Rattle.fields.specs.Refusals.{Done, Refused}
use Rattle.fields.specs.Places.{puts}
use Rattle.fields.proofs.JudgingLaws.{stop, go, applies, passes, no-checks, refusal-append, refused-is}
use Rattle.fields.proofs.PlaceLaws.{each-length, puts-over, rest_all}
use Rattle.sheets.specs.LentTables.{too_few}
use Rattle.blocks.specs.Blocks.{whole, cut_all, blocks_of}
use Rattle.blocks.specs.Flat.{blocks_in}
use Rattle.cutting.specs.declared.Blocks.{Blocks}
use Rattle.sheets.specs.ModelSheet.{columns_of, judge_part, judge_sheet}
use Rattle.sheets.specs.Holding.{task_on}
use Rattle.preparing.proofs.WholeLaws.{whole-made}
use Rattle.cut_sheets.specs.CutPart.{CutFields, cuts_named, cut_on, count_of, judge_cuts}
use Rattle.cut_sheets.specs.CutSheet.{tail_of, at_front, cut_sheet_checks, cut_values, cut_list, rebuild_checks}
use Rattle.cut_sheets.specs.Judged.{Made, PartJudged}
use Rattle.cut_sheets.proofs.CutSheetLaws.{tail-is, front-refusal, model-refused, inner-refused, ten-refused, front-take, front-append, sheet-accepted, values_length}
use Rattle.cut_reading.specs.Rebuilding.{SheetJudged, rebuild_outcome, rebuilding, Rebuilds}

-- ---- bytes at the front of others, as the library tests it
module _ (a s : List ℕ) {r : Bool} (e : r ≡ starts_with eqb s a) where
  pub front_is : r ≡ true → at_front a s ≡ true
  front_is h = ap (at_front a) ((starts_is Decides-eqb s a r e).0 h) ∙ front-append a (drop (length a) s)

  pub front-not : r ≡ false → at_front a s ≡ false
  front-not h = split (at_front a s) refl
    where
      split : (b : Bool) → at_front a s ≡ b → at_front a s ≡ false
      split true q =
          let f : s ≡ a ++ drop (length a) s = sym (take-append-drop (length a) s) ∙ ap (λ (l : List ℕ). l ++ drop (length a) s) (front-take a s q).1 in
          let k : r ≡ true = (starts_is Decides-eqb s a r e).1 (drop (length a) s) f in
          cc
      split false q = q

-- ---- block 0 alone
pub whole-block : (m : List ℕ) {columns : ℕ} → columns ≡ columns_of m → (f : ℕ → CutFields) (sets : List ℕ) (next : Blocks) → next.count ≡ 1 → next.sets ≡ over (whole (task_on m)) sets → Made (task_on m) f columns 0 next
unfolding blocks_of cut_all cuts_named tab
whole-block m {columns} w f sets next k n = ap (λ (c : ℕ). blocks_in columns c next.sets) k ∙ whole-made m w sets n

-- ---- the answers of judging both sheets
module _ (m s : List ℕ) where
  stops : {r : ℕ} (exit : Blocks) → r ≡ refusal (cut_sheet_checks m s) → (r ≡ 0 → ⊥) → SheetJudged m s r exit
  stops exit e z = record { refused = e; made = λ n. absurd (z n) }

  pub stops-model : {a : ℕ} (exit : Blocks) → a ≡ judge_sheet m → (a ≡ 0 → ⊥) → SheetJudged m s a exit
  stops-model exit e z = stops exit (model-refused m s e z) z

  pub stops-inner : {a : ℕ} (exit : Blocks) → judge_sheet m ≡ 0 → a ≡ judge_part s → (a ≡ 0 → ⊥) → SheetJudged m s a exit
  stops-inner exit ok e z = stops exit (inner-refused m s ok e z) z

  pub stops-ten : (exit : Blocks) → judge_sheet m ≡ 0 → judge_part s ≡ 0 → at_front m s ≡ false → SheetJudged m s 10 exit
  stops-ten exit ok e h = stops exit (ten-refused m s ok e h) (λ n. omega arith)

  -- the cut part was judged, in the array that held block 0
  pub ends : {x columns : ℕ} {part : List ℕ} (exit : Blocks) → judge_sheet m ≡ 0 → column_count (task_on m) ≡ columns → at_front m s ≡ true → part ≡ drop (length m) s
      → PartJudged judge_cuts (task_on m) part columns x exit → SheetJudged m s x exit
  ends {x} {columns} {part} exit ok w front p j =
      let t : part ≡ tail_of s = p ∙ sym (tail-is m ok s front) in
      record {
        refused = j.refusal ∙ ap (judge_cuts (task_on m)) t ∙ sym (front-refusal m s ok front);
        made = λ n.
            subst (λ (l : List ℕ). Made (task_on m) (cut_on l) (column_count (task_on m)) (count_of l) exit) t
            (subst (λ (k : ℕ). Made (task_on m) (cut_on part) k (count_of part) exit) (sym w) (j.made n));
      }

-- ---- rebuilding
module _ (m s cuts : List ℕ) where
  pub refusing : {r : ℕ} → r ≡ refusal (rebuild_checks m s cuts) → (r ≡ 0 → ⊥) → Rebuilds m s cuts (Refused r) cuts
  unfolding rebuilding
  refusing e z = refused-is (λ n. rebuild_outcome (Refused n) cuts) (rebuild_checks m s cuts) _ e z

  -- a refusal of the sheets
  pub sheets-refused : {r : ℕ} {exit : Blocks} → SheetJudged m s r exit → (r ≡ 0 → ⊥) → Rebuilds m s cuts (Refused r) cuts
  unfolding rebuild_checks
  sheets-refused j z =
      refusing (j.refused ∙ sym (refusal-append (cut_sheet_checks m s) _ ∙ stop (refusal (cut_sheet_checks m s)) _ (λ q. z (j.refused ∙ q)))) z

  module _ {exit : Blocks} (j : SheetJudged m s 0 exit) where
    pub sheets-ok : (judge_sheet m ≡ 0) × (at_front m s ≡ true) × (judge_cuts (task_on m) (tail_of s) ≡ 0)
    sheets-ok = sheet-accepted m s (sym j.refused)

    pub start-within : length m ≤ length s
    start-within = (front-take m s sheets-ok.1).0

    pub part-is : take (length s - length m) (drop (length m) s) ≡ tail_of s
    part-is = rest_all s (length m) ∙ sym (tail-is m sheets-ok.0 s sheets-ok.1)

    places : {x : ℕ} → x ≡ refusal (too_few (count_of (tail_of s) * 3) cuts ∷ []) → x ≡ refusal (rebuild_checks m s cuts)
    unfolding rebuild_checks
    places e = e ∙ sym (refusal-append (cut_sheet_checks m s) _ ∙ go (refusal (cut_sheet_checks m s)) _ (sym j.refused))

    module _ {n : ℕ} {part : List ℕ} (p : part ≡ tail_of s) (e : n ≡ count_of part) where
      count-is : n ≡ count_of (tail_of s)
      count-is = e ∙ ap count_of p

      -- too few places
      pub places-refused : length cuts < n * 3 → Rebuilds m s cuts (Refused 8) cuts
      places-refused h =
          refusing (places (applies 8 (ltb (length cuts) (count_of (tail_of s) * 3)) [] (lt-ltb (length cuts) (count_of (tail_of s) * 3) (omega (arith, count-is))) (λ q. omega arith))) (λ q. omega arith)

      -- the cuts are there
      pub filled : {next : List ℕ} → n * 3 ≤ length cuts → next ≡ puts 0 (each n (cut_values (cut_on part))) cuts → Rebuilds m s cuts (Done n) next
      unfolding rebuilding over cut_list
      filled h f =
          let q : 0 ≡ refusal (rebuild_checks m s cuts) = places (passes 8 (ltb (length cuts) (count_of (tail_of s) * 3)) [] (le-ltb (length cuts) (count_of (tail_of s) * 3) (omega (arith, count-is))) no-checks) in
          let l : length (each n (cut_values (cut_on part))) ≡ n * 3 = each-length (cut_values (cut_on part)) 3 (values_length (cut_on part)) n in
          let o : puts 0 (each n (cut_values (cut_on part))) cuts ≡ over (cut_list s) cuts =
          puts-over (each n (cut_values (cut_on part))) cuts (omega arith) ∙ ap₂ (λ (k : ℕ) (t : List ℕ). over (each k (cut_values (cut_on t))) cuts) count-is p in
          simp (eq-eqb (refusal (rebuild_checks m s cuts)) 0 (sym q)) (ap₂ rebuild_outcome (ap Done count-is) (f ∙ o))
