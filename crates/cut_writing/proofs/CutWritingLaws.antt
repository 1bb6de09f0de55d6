-- Laws for the code that writes a cut sheet.
use Prim.Native.Nat.{ℕ, zero, suc, ◌+◌, ◌-◌, ◌*◌, ◌^◌, ◌≤◌, ◌<◌}
use native.Mathlib.Omega.{arith}
use mathlib.Core.Path.{◌≡◌, refl, sym, ap, ap₂, ◌∙◌}
use mathlib.Core.List.{List, [], ◌∷◌, ◌++◌, append_assoc, append-nil}
use lib.ListN.{length, get_or, take, drop, length-append, length-drop, drop_of_length-le}
use lib.Dec.{ltb}
use lib.Seq.{get_or-drop, take_all, drop_at, take_at, drop-drop}
use borrow.Author.Tests.{ltb-true, lt-ltb, le-ltb, eq-eqb}
use borrow.Rule.Slice.PartMut.{put_mid}
use Rattle.task.specs.Sizes.{limits, most_steps}
use Rattle.task.specs.Loops.{over}
use Rattle.task.specs.Task.{Task, Accepted}
use Rattle.fields.specs.Bits.{put_field}
use Rattle.fields.specs.Judging.{Entry, given, entry, outside, refusal, judged, each}
use Rattle.fields.proofs.JudgingLaws.{go, stop, neither, stopped, went, good, spoilt, above-high, inside, refusal-append, applies, passes, no-checks, refused-is}
use Rattle.fields.specs.Refusals.{Done, Refused}
use Rattle.fields.specs.Packing.{packed, sheet_of}
use Rattle.fields.proofs.PutLaws.{Bytes}
use Rattle.fields.proofs.PackingLaws.{packed-append, packed-over}
use Rattle.cutting.specs.declared.Blocks.{Blocks}
use Rattle.sheets.specs.ModelSheet.{fill_bits, fill_part, sheet_checks, judge_sheet}
use Rattle.cut_sheets.specs.CutPart.{CutSource, cut_header, cut_part, cut_bits, cut_bytes, cut_fields, cut_entries}
use Rattle.cut_sheets.specs.CutSheet.{cut_lent, of_cuts, cut_sheet_of, given_checks, write_cuts_checks}
use Rattle.sheets.specs.LentTables.{too_few}
use Rattle.sheets.specs.Holding.{task_on}
use Rattle.sheets.proofs.HeldTaskLaws.{accepted-task}
use Rattle.cut_writing.specs.CutWriting.{write_cuts_outcome, writing_cuts, WritesCuts}
use Rattle.cut_sheets.specs.Judged.{CutsJudged}
use Rattle.cut_sheets.proofs.CutPartLaws.{H, C, F, at-cuts, at_fill, part-fine, part-bits, cut-whole}
use Rattle.cut_sheets.proofs.CutRoundLaws as round

-- ---- the cut part put, field by field
module _ (t : Task) (count : ℕ) (cuts : List ℕ) where
  abbrev P : CutSource
  P = of_cuts count cuts

  pub part-put : (l : List ℕ) {l₁ l₂ l₃ l₄ : List ℕ} {b : ℕ} → l₁ ≡ put_field 0 4 2 l → l₂ ≡ put_field 4 8 count l₁ → l₃ ≡ packed 12 (each count (cut_part t (cut_lent cuts))) l₂
      → b ≡ cut_bits count → l₄ ≡ put_field b (fill_bits b) 0 l₃ → l₄ ≡ packed 0 (cut_entries t P) l
  unfolding cut_entries cut_fields cut_header fill_part of_cuts packed
  part-put l {l₁} {l₂} {l₃} e₁ e₂ e₃ q e₄ =
      let h : l₂ ≡ packed 0 (H t P count) l = e₂ ∙ ap (put_field 4 8 count) e₁ in
      e₄ ∙ ap (λ (x : ℕ). put_field x (fill_bits x) 0 l₃) q
      ∙ sym
      (packed-append 0 (H t P count) (C t P count ++ F t P count) l
      ∙ ap₂ (λ (x : ℕ) (u : List ℕ). packed x (C t P count ++ F t P count) u) (at-cuts t [] P count) (sym h)
      ∙ packed-append 12 (C t P count) (F t P count) l₂
      ∙ ap₂ (λ (x : ℕ) (u : List ℕ). packed x (F t P count) u) (at_fill t [] P count) (sym e₃))

-- ---- what a writer is given
module _ (t : Task) (count : ℕ) (cuts : List ℕ) where
  abbrev Form : Entry
  Form = entry 4 (given 2) 2 (outside 2 2 2)

  abbrev Count : Entry
  Count = entry 8 (given count) 9 (outside 0 most_steps count)

  abbrev Rest : List Entry
  Rest = C t (of_cuts count cuts) count ++ F t (of_cuts count cuts) count

  form-good : 0 ≡ judged (Form ∷ [])
  unfolding outside
  form-good = good 4 (given 2) 2 (outside 2 2 2) refl refl

  -- more cuts than that are refused at the count
  pub too-many : limits.blocks ≤ count → 9 ≡ judged (cut_entries t (of_cuts count cuts))
  unfolding cut_entries cut_fields cut_header of_cuts
  too-many h =
      went (Form ∷ []) (Count ∷ Rest) form-good refl
      (stopped (Count ∷ []) Rest (spoilt 8 (given count) 9 (outside 0 most_steps count) refl (above-high 0 most_steps count (omega arith) (omega arith))) (λ z. omega arith))

  past-count : {r : ℕ} → count < limits.blocks → r ≡ judged Rest → r ≡ judged (cut_entries t (of_cuts count cuts))
  unfolding cut_entries cut_fields cut_header of_cuts
  past-count h e =
      went (Form ∷ []) (Count ∷ Rest) form-good refl (went (Count ∷ []) Rest (good 8 (given count) 9 (outside 0 most_steps count) refl (inside 0 most_steps count (omega arith) (omega arith))) refl e)

  fill-good : 0 ≡ judged (F t (of_cuts count cuts) count)
  unfolding fill_part of_cuts outside
  fill-good = good (fill_bits (cut_bits count)) (given 0) 6 (outside 0 0 0) refl refl

  -- else the cuts decide
  pub lent-judged : {r columns : ℕ} {exit : Blocks} → count < limits.blocks → CutsJudged t (cut_lent cuts) columns count r exit → r ≡ judged (cut_entries t (of_cuts count cuts))
  unfolding of_cuts
  lent-judged {r} h j = past-count h (split r j.refusal)
    where
      split : (x : ℕ) → x ≡ judged (C t (of_cuts count cuts) count) → x ≡ judged Rest
      split zero e = went (C t (of_cuts count cuts) count) (F t (of_cuts count cuts) count) e refl fill-good
      split (suc x) e = stopped (C t (of_cuts count cuts) count) (F t (of_cuts count cuts) count) e (λ z. omega arith)

  -- an accepted list has its places
  pub given-places : judged (cut_entries t (of_cuts count cuts)) ≡ 0 → (count < limits.blocks) × (count * 3 ≤ length cuts)
  unfolding cut_entries of_cuts cut_lent
  given-places h =
      let f = part-fine t (of_cuts count cuts) count h in
      (omega (arith, f.count.1), places count refl (λ i l. ltb-true (i * 3 + 2) (length cuts) (f.cut i l).wanted))
    where
      places : (n : ℕ) → n ≡ count → ((i : ℕ) → i < count → i * 3 + 2 < length cuts) → count * 3 ≤ length cuts
      places zero e g = omega arith
      places (suc n) e g = omega (arith, g n (omega arith))

module _ (model : List ℕ) (count : ℕ) (cuts : List ℕ) where
  abbrev t : Task
  t = task_on model

  pub given-model : {r : ℕ} → r ≡ judge_sheet model → (r ≡ 0 → ⊥) → r ≡ refusal (given_checks model count cuts)
  unfolding given_checks judge_sheet
  given-model e z = e ∙ sym (refusal-append (sheet_checks model) _ ∙ stop (refusal (sheet_checks model)) _ (λ y. z (e ∙ y)))

  pub given-cuts : {x : ℕ} → judge_sheet model ≡ 0 → x ≡ judged (cut_entries t (of_cuts count cuts)) → x ≡ refusal (given_checks model count cuts)
  unfolding given_checks judge_sheet judged
  given-cuts ok x = x ∙ sym (refusal-append (sheet_checks model) _ ∙ go (refusal (sheet_checks model)) _ ok)

  -- what no refusal says
  pub given-ok : refusal (given_checks model count cuts) ≡ 0 → (judge_sheet model ≡ 0) × (judged (cut_entries t (of_cuts count cuts)) ≡ 0)
  unfolding given_checks judge_sheet judged
  given-ok h = neither (refusal (sheet_checks model)) _ (sym (refusal-append (sheet_checks model) _) ∙ h)

  pub places-given : 0 ≡ refusal (given_checks model count cuts) → (count < limits.blocks) × (count * 3 ≤ length cuts)
  places-given e = given-places t count cuts (given-ok (sym e)).1

-- ---- a tail that is lent and comes back
module _ (m d : List ℕ) where
  long : length (m ++ d) ≡ length m + length d
  long = length-append m d

  pub tail_all : take (length (m ++ d) - length m) (drop (length m) (m ++ d)) ≡ d
  tail_all = ap (take (length (m ++ d) - length m)) (drop_at m d (length m) refl) ∙ take_all (length (m ++ d) - length m) d (omega (arith, long))

  pub put-tail : (part : List ℕ) → put_mid (length m) (length (m ++ d) - length m) (m ++ d) part ≡ m ++ part
  put-tail part =
      let rest : drop (length (m ++ d) - length m) (drop (length m) (m ++ d)) ≡ [] =
      ap (drop (length (m ++ d) - length m)) (drop_at m d (length m) refl) ∙ drop_of_length-le d {i = length (m ++ d) - length m} (omega (arith, long)) in
      ap₂ (λ (a b : List ℕ). a ++ (part ++ b)) (take_at m d (length m) refl) rest ∙ ap (λ (l : List ℕ). m ++ l) (append-nil part)

  -- two lists written over a third, one after the other
  pub over-two : (u l : List ℕ) → m ++ (u ++ drop (length u) (drop (length m) l)) ≡ over (m ++ u) l
  unfolding over
  over-two u l =
      let e : length m + length u ≡ length (m ++ u) = sym (length-append m u) in
      sym (append_assoc m u _) ∙ ap (λ (k : List ℕ). (m ++ u) ++ k) (drop-drop (length u) (length m) l ∙ ap (λ (k : ℕ). drop k l) e)

-- ---- the answer
module _ (model : List ℕ) (count : ℕ) (cuts sheet : List ℕ) where
  abbrev bytes : ℕ
  bytes = length model + cut_bytes count

  refusing : {r : ℕ} → r ≡ refusal (write_cuts_checks model count cuts sheet) → (r ≡ 0 → ⊥) → WritesCuts model count cuts sheet (Refused r) sheet
  unfolding writing_cuts
  refusing e z = refused-is (λ n. write_cuts_outcome (Refused n) sheet) (write_cuts_checks model count cuts sheet) _ e z

  pub given-refused : {r : ℕ} → r ≡ refusal (given_checks model count cuts) → (r ≡ 0 → ⊥) → WritesCuts model count cuts sheet (Refused r) sheet
  unfolding write_cuts_checks
  given-refused e z =
      refusing (e ∙ sym (refusal-append (given_checks model count cuts) _ ∙ stop (refusal (given_checks model count cuts)) _ (λ q. z (e ∙ q)))) z

  module _ (e : 0 ≡ refusal (given_checks model count cuts)) where
    places : {x : ℕ} → x ≡ refusal (too_few bytes sheet ∷ []) → x ≡ refusal (write_cuts_checks model count cuts sheet)
    unfolding write_cuts_checks
    places q = q ∙ sym (refusal-append (given_checks model count cuts) _ ∙ go (refusal (given_checks model count cuts)) _ (sym e))

    pub room-refused : length sheet < bytes → WritesCuts model count cuts sheet (Refused 8) sheet
    room-refused h = refusing (places (applies 8 (ltb (length sheet) bytes) [] (lt-ltb (length sheet) bytes h) (λ q. omega arith))) (λ q. omega arith)

    task-ok : judge_sheet model ≡ 0 → Accepted (task_on model)
    unfolding task_on
    task-ok o = accepted-task model o

    ok-parts : (judge_sheet model ≡ 0) × (judged (cut_entries (task_on model) (of_cuts count cuts)) ≡ 0)
    ok-parts = given-ok model count cuts (sym e)

    abbrev E : List Entry
    E = cut_entries (task_on model) (of_cuts count cuts)

    -- the part, put over the bytes past the model
    put-past : (v : Accepted (task_on model)) → Bytes sheet → bytes ≤ length sheet → ((i : ℕ) → i < count → get_or cuts (i * 3 + 2) 0 < 2 ^ 32)
        → packed 0 E (drop (length model) sheet) ≡ sheet_of E ++ drop (length (sheet_of E)) (drop (length model) sheet)
    unfolding cut_entries of_cuts cut_lent
    put-past v b h w =
        packed-over E (cut_bytes count) (round.part-fits (task_on model) v (of_cuts count cuts) ok-parts.1 wide) (part-bits (task_on model) (of_cuts count cuts) count ∙ cut-whole count) (drop (length model) sheet)
        (λ i. rw (get_or-drop (length model) sheet i 0) (b (length model + i))) (omega (arith, length-drop (length model) sheet))
      where
        wide : (i : ℕ) → i < count → ((of_cuts count cuts).cut i).wanted.value < 2 ^ 32
        wide i l = w i l

    pub put_written : Bytes sheet → bytes ≤ length sheet → ((i : ℕ) → i < count → get_or cuts (i * 3 + 2) 0 < 2 ^ 32) → {n : ℕ} {front part exit : List ℕ} → n ≡ bytes
        → front ≡ model ++ drop (length model) sheet → part ≡ packed 0 E (take (length front - length model) (drop (length model) front)) → exit ≡ put_mid (length model) (length front - length model) front part
        → WritesCuts model count cuts sheet (Done n) exit
    unfolding writing_cuts cut_sheet_of over
    put_written b h w {n} {front} {part} {exit} q f p x =
        let d = drop (length model) sheet in
        let i : part ≡ sheet_of E ++ drop (length (sheet_of E)) d =
        p ∙ ap (λ (l : List ℕ). packed 0 E (take (length l - length model) (drop (length model) l))) f ∙ ap (packed 0 E) (tail_all model d) ∙ put-past (task-ok ok-parts.0) b h w in
        let o : exit ≡ over (model ++ sheet_of E) sheet =
        x ∙ ap (λ (l : List ℕ). put_mid (length model) (length l - length model) l part) f ∙ put-tail model d part ∙ ap (λ (l : List ℕ). model ++ l) i ∙ over-two model d (sheet_of E) sheet in
        let k : 0 ≡ refusal (write_cuts_checks model count cuts sheet) = places (passes 8 (ltb (length sheet) bytes) [] (le-ltb (length sheet) bytes h) no-checks) in
        simp (eq-eqb (refusal (write_cuts_checks model count cuts sheet)) 0 (sym k)) (ap₂ write_cuts_outcome (ap Done q) o)
