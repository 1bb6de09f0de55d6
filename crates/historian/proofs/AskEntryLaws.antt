-- A question on byte lists is the question on lists of so many values, its estimates put as bytes.
use Prim.Native.Nat.{ℕ, min, ◌*◌, ◌/◌, ◌≤◌}
use native.Mathlib.Omega.{arith}
use native.Mathlib.Decide.{ℕ_discrete}
use mathlib.Core.Path.{◌≡◌, sym, ap, ◌∙◌, subst}
use mathlib.Core.Logic.{⊎_elim}
use mathlib.Core.Bool.{Bool, true, false}
use mathlib.Core.List.{List, [], ◌∷◌, ◌++◌}
use lib.Dec.{ltb}
use lib.ListN.{length, take, drop, length-append}
use lib.Seq.{length-take-le}
use borrow.Author.Tests.{eq-eqb, ne_eqb, ltb-false}
use Rattle.task.specs.Loops.{over}
use Rattle.task.specs.Sizes.{limits}
use Rattle.task.specs.Task.{Task}
use Rattle.task.proofs.LoopLaws.{tab-length, true-or-false}
use Rattle.fields.specs.Judging.{check, refusal, each, ◌then◌}
use Rattle.fields.specs.Places.{puts}
use Rattle.fields.proofs.JudgingLaws.{applies, passed, neither, refusal-append}
use Rattle.sheets.specs.LentTables.{too_few}
use Rattle.cut_sheets.specs.CutSheet.{cut_sheet_checks, cuts_of}
use Rattle.fields.specs.Refusals.{Answered, Done, Refused}
use Rattle.asking.specs.Question.{states_in, bad_states, estimate_at, estimates_of, question_checks, question_outcome, asking, Asks}
use Rattle.asking.specs.Question as question
use Rattle.asking.proofs.AnswerLaws.{few-states}
use Rattle.values.proofs.PlacesLaws.{same_test}
use Rattle.values.specs.Values.{bytes_at, values_on}
use Rattle.values.proofs.ValueLaws.{unsigned-over}
use Rattle.historian.specs.Entries.{ask_checks, ask_entry_outcome, ask_entry, EntryAsks}
use Rattle.historian.proofs.WholeLaws.{whole-values, plain, CanPut}
use Rattle.sheets.specs.Holding.{task_on}

module _ (model s states l : List ℕ) where
  abbrev t : Task
  t = task_on model

  abbrev n : ℕ
  n = states_in t states

  abbrev N : ℕ
  N = refusal (question_checks model s states l)

  abbrev estimates : List ℕ
  estimates = estimates_of t (cuts_of s) states

  module _ {a : Answered ℕ} {l' : List ℕ} (e : Asks model s states l a l') where
    made : N ≡ 0 → question_outcome a l' ≡ question_outcome (Done n) (over estimates l)
    unfolding asking
    made z = e ∙ simp (eq-eqb N 0 z)

    not_made : (N ≡ 0 → ⊥) → question_outcome a l' ≡ question_outcome (Refused N) l
    unfolding asking
    not_made z = e ∙ simp (ne_eqb N 0 z)

    fits : N ≡ 0 → (n ≤ limits.states) × (n ≤ length l)
    unfolding question_checks
    fits z =
        let p = (neither (refusal (cut_sheet_checks model s)) _ (sym (refusal-append (cut_sheet_checks model s) _) ∙ z)).1 in
        let q = passed 11 (bad_states t states) _ (λ y. omega arith) p in
        let r = passed 8 (ltb (length l) n) [] (λ y. omega arith) q.1 in
        (few-states t states q.0, ltb-false (length l) n r.0)

    record Made (k : ℕ) : Type 0 where
      ok : N ≡ 0
      few : k ≤ limits.states
      there : k ≤ length l
      within : k ≤ length l'
      list : l' ≡ over estimates l
      long : k ≡ length estimates

    answered : (k : ℕ) → a ≡ Done k → Made k
    unfolding estimates_of over
    answered k h = split (ℕ_discrete N 0)
      where
        split : Dec (N ≡ 0) → Made k
        split (no z) =
            let m = ap (λ (x : question.QuestionOutcome). x.answer) (not_made z) in
            let y : ◌≡◌ {A = ℕ} 0 1 = cc in
            absurd (omega arith)
        split (yes z) =
            let m = ap (λ (x : question.QuestionOutcome). x.answer) (made z) in
            let q : k ≡ n = cc in
            let f = fits z in
            let v : l' ≡ over estimates l = ap (λ (o : question.QuestionOutcome). o.estimates) (made z) in
            let g : k ≡ length estimates = q ∙ sym (tab-length n (estimate_at t (cuts_of s) states)) in
            record {
              ok = z;
              few = omega (arith, f.0);
              there = omega (arith, f.1);
              within = omega (arith, ap length v, length-append estimates (drop (length estimates) l), g);
              list = v;
              long = g;
            }

    refused : (k : ℕ) → a ≡ Refused k → (N ≡ 0 → ⊥) × (k ≡ N)
    refused k h = split (ℕ_discrete N 0)
      where
        split : Dec (N ≡ 0) → (N ≡ 0 → ⊥) × (k ≡ N)
        split (yes z) =
            let m = ap (λ (x : question.QuestionOutcome). x.answer) (made z) in
            let y : ◌≡◌ {A = ℕ} 0 1 = cc in
            absurd (omega arith)
        split (no z) =
            let m = ap (λ (x : question.QuestionOutcome). x.answer) (not_made z) in
            let q : k ≡ N = cc in
            (z, q)

  -- ---- 8 is judged on the places lent: a list that has as many of them as a question can have states
  module _ (bytes : List ℕ) (lent : length l ≡ min (length bytes / 4) limits.states) where
    abbrev TailSame : Type 0
    TailSame = refusal (check 11 (bad_states t states) ∷ too_few n (values_on bytes) ∷ []) ≡ refusal (check 11 (bad_states t states) ∷ too_few n l ∷ [])

    tail-same : TailSame
    tail-same = ⊎_elim bad good (true-or-false (bad_states t states))
      where
        bad : bad_states t states ≡ true → TailSame
        bad h = sym (applies 11 (bad_states t states) _ h (λ z. omega arith)) ∙ applies 11 (bad_states t states) _ h (λ z. omega arith)

        good : bad_states t states ≡ false → TailSame
        good h =
            let k = few-states t states h in
            ap (λ (x : Bool). refusal (check 11 (bad_states t states) ∷ check 8 x ∷ []))
            (same_test (length (values_on bytes)) n (length l) n (λ p. omega (arith, whole-values bytes))
            (λ p. omega (arith, k, whole-values bytes)))

    checks-same : refusal (ask_checks model s states bytes) ≡ N
    unfolding question_checks
    checks-same = refusal-append (cut_sheet_checks model s) _ ∙ ap (λ (x : ℕ). refusal (cut_sheet_checks model s) then x) tail-same ∙ sym (refusal-append (cut_sheet_checks model s) _)

    told : {a : Answered ℕ} {l' : List ℕ} (e : Asks model s states l a l') (k : ℕ) → a ≡ Done k → (ys : List ℕ) {bytes' : List ℕ} → bytes' ≡ puts 0 (each k (bytes_at (plain (l' ++ ys)))) bytes
        → EntryAsks model s states bytes 0 bytes'
    unfolding ask_entry
    told e k q ys w =
        let r = answered e k q in
        let b : k * 4 ≤ length bytes = omega (arith, r.there) in
        let x = w ∙ unsigned-over estimates l ys bytes k r.list r.long b in
        simp (eq-eqb (refusal (ask_checks model s states bytes)) 0 (checks-same ∙ r.ok)) (ap (ask_entry_outcome 0) x)

    told-refused : {a : Answered ℕ} {l' : List ℕ} (e : Asks model s states l a l') (k : ℕ) → a ≡ Refused k → EntryAsks model s states bytes k bytes
    unfolding ask_entry
    told-refused e k q =
        let r = refused e k q in
        simp (ne_eqb (refusal (ask_checks model s states bytes)) 0 (λ v. r.0 (sym checks-same ∙ v))) (ap (λ (x : ℕ). ask_entry_outcome x bytes) (r.1 ∙ sym checks-same))

-- ---- the same with the first values of a list to work in, of as many places as are lent and can matter
module _ (model s states bytes list : List ℕ) {n : ℕ} (h : length list ≡ limits.states) (p : n ≡ min (length bytes / 4) limits.states) {a : Answered ℕ} {l' : List ℕ} (e : Asks model s states (take n list) a l') where
  part : length (take n list) ≡ n
  part = length-take-le n list (omega arith)

  pub asked-go : {k : ℕ} → a ≡ Done k → CanPut k (l' ++ drop n list) bytes
  asked-go {k} q =
      let w = answered model s states (take n list) e k q in
      record { room = omega (arith, w.there, part); given = omega (arith, w.within, length-append l' (drop n list)) }

  pub asked_in : {k : ℕ} → a ≡ Done k → {bytes' : List ℕ} → bytes' ≡ puts 0 (each k (bytes_at (plain (l' ++ drop n list)))) bytes → EntryAsks model s states bytes 0 bytes'
  asked_in {k} q = told model s states (take n list) bytes (part ∙ p) e k q (drop n list)

  pub refused-in : {k x : ℕ} → a ≡ Refused k → x ≡ k → EntryAsks model s states bytes x bytes
  refused-in {k} q z = subst (λ (y : ℕ). EntryAsks model s states bytes y bytes) (sym z) (told-refused model s states (take n list) bytes (part ∙ p) e k q)
