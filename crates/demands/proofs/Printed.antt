-- Demand 1, of files: "Every file, number and lent table is accepted or refused by the numbers in 01." And 01: "The program reads standard input: room in 16
-- bits, then a model sheet. Fewer than two bytes is refusal 1."
-- The program prints the bytes that `put_printed` puts at the front of a buffer, which has to have 65,536 places. For whoever knows only the contract of
-- `put_printed`: they are the line of a refusal with number n exactly when the check of number n is the first that applies, the lines of the run exactly
-- when none applies, and nothing in the buffer past them is changed. The number is taken from the bytes themselves. And demand 2: where none applies, the
-- answer printed is right.
use Prim.Native.Nat.{ℕ, ◌≤◌}
use native.Mathlib.Nat.{zero-add}
use native.Mathlib.Omega.{arith}
use mathlib.Core.Path.{◌≡◌, refl, sym, ap, ◌∙◌, subst}
use mathlib.Core.Logic.{⊎_elim}
use mathlib.Core.Bool.{Bool, true, false, cond}
use mathlib.Core.List.{List, [], ◌∷◌, ◌++◌}
use lib.Dec.{eqb, ltb}
use lib.ListN.{length, take, drop}
use lib.Seq.{take-append_seam, drop-append_seam}
use borrow.Author.Tests.{eqb-true}
use Rattle.task.specs.Loops.{first, over}
use Rattle.task.specs.Sizes.{limits}
use Rattle.task.specs.Task.{Task, Accepted}
use Rattle.task.proofs.LoopLaws.{true-or-false}
use Rattle.fields.specs.Judging.{refusal}
use Rattle.fields.proofs.ExactLaws.{has, Numbers, numbers-append, gives, Judged, judges}
use Rattle.fields.proofs.JudgingLaws.{applies, passes, passed}
use Rattle.fields.proofs.PlaceLaws.{puts-over}
use Rattle.sheets.specs.ModelSheet.{sheet_checks}
use Rattle.sheets.specs.Holding.{task_on}
use Rattle.sheet_laws.proofs.Refusals as sheet
use Rattle.run.specs.Run as run
use Rattle.run.specs.Run.{plan, no_plan, «open»}
use Rattle.run.proofs.RunLaws.{Right}
use Rattle.run.proofs.RunRightLaws.{run-right}
use Rattle.fields.specs.Refusals.{Done, Refused}
use Rattle.running.specs.Running.{returned}
use Rattle.lines.specs.Lines.{output_bytes, width, decimal, labelled, first_line, made_lines, ran_lines, printed, Prints}
use Rattle.lines.proofs.LengthLaws.{printed-fits, ran-accepted}
use Rattle.demands.specs.Files.{room_in, sheet_in, file_checks, digits_on, refusal_on}

-- which numbers a file can get
abbrev pub numbers : List ℕ
numbers = 1 ∷ (sheet.numbers ++ (7 ∷ []))

-- ---- what is seen: a buffer, and how many of its first bytes are printed
pub record Shown : Type 0 where
  pub count : ℕ
  pub buffer : List ℕ

abbrev pub shown : ℕ → List ℕ → Shown
shown k l = record { count = k; buffer = l }

-- lines over the front of a buffer; what stood past them still does
abbrev pub showing : List ℕ → List ℕ → Shown
showing lines out = shown (length lines) (over lines out)

abbrev pub text_of : Shown → List ℕ
text_of o = take o.count o.buffer

text-shown : (lines out : List ℕ) → text_of (showing lines out) ≡ lines
unfolding over
text-shown lines out = take-append_seam lines (drop (length lines) out)

-- the lines of a run tell none
run-tells : (t : Task) (b : ℕ) (a : run.Answer) (rows : List ℕ) → refusal_on (first_line (Done (returned t b a)) ++ rows) ≡ 0
unfolding refusal_on returned first_line labelled
run-tells t b (plan ss) rows = refl
run-tells t b no_plan rows = refl
run-tells t b («open» e) rows = refl

-- ---- what is printed, by these checks
module _ (file : List ℕ) where
  abbrev R : ℕ
  R = refusal (file_checks file)

  -- the lines of the run that the file asks for
  abbrev pub run_lines : List ℕ
  run_lines = made_lines (task_on (sheet_in file)) (run.run (task_on (sheet_in file)) (room_in file))

  abbrev refused_or : ℕ → List ℕ
  refused_or n = cond (eqb n 0) run_lines (first_line (Refused n))

  pub printed-is : printed file ≡ refused_or R
  unfolding printed ran_lines file_checks
  printed-is = ⊎_elim short long (true-or-false (ltb (length file) 2))
    where
      by_length : Bool → List ℕ
      by_length b = cond b (first_line (Refused 1)) (ran_lines (sheet_in file) (room_in file))

      short : ltb (length file) 2 ≡ true → printed file ≡ refused_or R
      short h = ap by_length h ∙ ap refused_or (applies 1 (ltb (length file) 2) _ h (λ z. omega arith))

      long : ltb (length file) 2 ≡ false → printed file ≡ refused_or R
      long h = ap by_length h ∙ ap refused_or (passes 1 (ltb (length file) 2) _ h refl)

  file-numbers : Numbers (has numbers) (file_checks file)
  unfolding file_checks
  file-numbers = numbers-append (has numbers) sheet.numbers refl (sheet_checks (sheet_in file)) _ (sheet.sheet-numbers (sheet_in file)) refl

  -- a refusal's line tells its number
  refused-tells : refusal_on (first_line (Refused R)) ≡ R
  unfolding refusal_on digits_on first_line labelled decimal width first
  refused-tells = eqb-true _ R (gives (λ n. eqb (refusal_on (first_line (Refused n))) n) numbers refl (file_checks file) file-numbers)

  module _ (out : List ℕ) where
    abbrev pub refused_with : ℕ → Shown
    refused_with n = showing (first_line (Refused n)) out

    seen : (lines : List ℕ) → refusal_on (text_of (showing lines out)) ≡ refusal_on lines
    seen lines = ap refusal_on (text-shown lines out)

    picked : (b : Bool) (x y : List ℕ) → cond b (showing x out) (showing y out) ≡ showing (cond b x y) out
    picked true x y = refl
    picked false x y = refl

    printer : Judged (λ (o : Shown). refusal_on (text_of o)) refused_with (file_checks file) (showing run_lines out) (showing (printed file) out)
    unfolding made_lines
    printer =
        let o = run.run (task_on (sheet_in file)) (room_in file) in
        let none = seen run_lines ∙ run-tells (task_on (sheet_in file)) (run.block_count o) o.answer _ in
        subst (Judged _ _ _ _) (picked (eqb R 0) run_lines (first_line (Refused R)) ∙ ap (λ (x : List ℕ). showing x out) (sym printed-is))
        (judges _ refused_with numbers refl (file_checks file) file-numbers (showing run_lines out) none (seen (first_line (Refused R)) ∙ refused-tells))

-- ---- put_printed
module _ (file out : List ℕ) (room : output_bytes ≤ length out) {r : ℕ} {out' : List ℕ} (done : Prints file out r out') where
  put-shown : shown r out' ≡ showing (printed file) out
  unfolding over
  put-shown =
      let n : r ≡ length (printed file) = done.next ∙ zero-add (length (printed file)) in
      let l : out' ≡ over (printed file) out = done.bytes ∙ puts-over (printed file) out (omega (arith, printed-fits file)) in
      λ i. shown (n i) (l i)

  -- the bytes printed
  pub put-printed-text : take r out' ≡ printed file
  put-printed-text = ap text_of put-shown ∙ text-shown (printed file) out

  -- nothing past them is changed
  pub put-printed-past : drop r out' ≡ drop r out
  unfolding over
  put-printed-past =
      ap (λ (o : Shown). drop o.count o.buffer) put-shown
      ∙ drop-append_seam (printed file) (drop (length (printed file)) out)
      ∙ ap (λ (o : Shown). drop o.count out) (sym put-shown)

  -- they are accepted or refused by the numbers in 01. A refusal's line is all that is put (`leaves`)
  pub put-printed-judged : Judged (λ (o : Shown). refusal_on (text_of o)) (refused_with file out) (file_checks file) (showing (run_lines file) out) (shown r out')
  put-printed-judged = subst (Judged _ _ _ _) (sym put-shown) (printer file out)

  pub put-printed-numbers : has (0 ∷ numbers) (refusal_on (take r out')) ≡ true
  put-printed-numbers = ap (has (0 ∷ numbers)) put-printed-judged.told ∙ gives (has (0 ∷ numbers)) numbers refl (file_checks file) (file-numbers file)

  -- ---- demand 2, of what is printed where no refusal is told: the lines are those of an answer that is right
  module _ (kept : refusal_on (take r out') ≡ 0) where
    abbrev t : Task
    t = task_on (sheet_in file)

    pub put-printed-accepted : Accepted t × (1 ≤ room_in file) × (room_in file ≤ limits.blocks)
    unfolding file_checks
    put-printed-accepted =
        let fine = sym put-printed-judged.told ∙ kept in
        ran-accepted (sheet_in file) (room_in file) (passed 1 (ltb (length file) 2) _ (λ z. omega arith) fine).1

    pub put-printed-run : take r out' ≡ run_lines file
    put-printed-run = ap text_of (put-printed-judged.done kept) ∙ text-shown (run_lines file) out

    pub put-printed-right : Right t (room_in file) (run.run t (room_in file)).made (run.run t (room_in file)).answer
    put-printed-right = (run-right t put-printed-accepted.0 (room_in file) put-printed-accepted.1).right

-- one outcome
pub put-printed-one : (file out : List ℕ) {r r'' : ℕ} {out' out'' : List ℕ} → Prints file out r out' → Prints file out r'' out'' → (r ≡ r'') × (out' ≡ out'')
put-printed-one file out p q = (p.next ∙ sym q.next, p.bytes ∙ sym q.bytes)
