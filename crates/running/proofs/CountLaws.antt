-- What a run leaves: its answer, and room in the lists for its cuts and rows.
use Prim.Native.Nat.{ℕ, ◌+◌, ◌-◌, ◌*◌, ◌≤◌, ◌<◌}
use native.Mathlib.Omega.{arith}
use native.Mathlib.Decide.{ℕ_discrete}
use mathlib.Core.Path.{◌≡◌, refl, sym, ap, ap₂, ◌∙◌, subst}
use mathlib.Core.Logic.{◌⊎◌, inl, inr, ⊎_elim}
use mathlib.Core.Bool.{Bool, true, false}
use mathlib.Core.List.{List, [], ◌∷◌}
use lib.Dec.{ltb}
use lib.ListN.{length, drop, length-append}
use borrow.Author.Tests.{eq-eqb, ne_eqb}
use Rattle.task.specs.declared.Step.{Step}
use Rattle.task.specs.Loops.{over}
use Rattle.task.specs.Sizes.{limits}
use Rattle.task.specs.Task.{Task, Accepted}
use Rattle.task.proofs.LoopLaws.{true-or-false}
use Rattle.fields.specs.Judging.{check, outside, refusal, ◌then◌}
use Rattle.fields.specs.Refusals.{Answered, Done, Refused}
use Rattle.fields.proofs.JudgingLaws.{applies, neither, refusal-append, inside-means}
use Rattle.sheets.specs.ModelSheet.{sheet_checks, judge_sheet}
use Rattle.sheets.specs.Holding.{task_on}
use Rattle.sheets.proofs.HeldTaskLaws.{accepted-task}
use Rattle.run.specs.Run as run
use Rattle.run.specs.Run.{plan, no_plan, «open», block_count, rows_of}
use Rattle.run.proofs.RunRightLaws.{run-right}
use Rattle.run.proofs.LengthLaws.{plan-short}
use Rattle.blocks.specs.Flat.{cut_place}
use Rattle.run.specs.Listing.{listed, row_place}
use Rattle.refining.proofs.CutListLaws.{listed-length}
use Rattle.running.specs.declared.Answer.{Answer}
use Rattle.running.specs.declared.Answer.TheVariants.{Plan, NoPlan, Open}
use Rattle.running.specs.Running as running
use Rattle.running.specs.Running.{room_checks, run_checks, returned, run_outcome, made}
use Rattle.running.proofs.RowLaws.{three}
use Rattle.running.proofs.RunningLaws.{Fits, room_fits}
use Rattle.running.specs.Counts.{cut_value_count, row_count, row_value_count, Counted}

-- ---- the numbers of an answer
module _ (t : Task) (blocks : ℕ) where
  cuts-told : (a : run.Answer) → cut_value_count (Done (returned t blocks a)) ≡ (blocks - 1) * 3
  unfolding returned cut_value_count
  cuts-told (plan ss) = refl
  cuts-told no_plan = refl
  cuts-told («open» e) = refl

  rows_told : (a : run.Answer) → row_value_count (Done (returned t blocks a)) ≡ length (listed row_place (rows_of t a))
  unfolding returned row_count row_value_count rows_of listed
  rows_told (plan ss) = sym (three t ss)
  rows_told no_plan = refl
  rows_told («open» e) = refl

  counted-told : (a : run.Answer) → 1 ≤ blocks → blocks ≤ limits.blocks → ((ss : List Step) → a ≡ plan ss → length ss < limits.blocks) → Counted (Done (returned t blocks a))
  unfolding returned Counted
  counted-told (plan ss) h g short = (h, g, let q = short ss refl in omega arith)
  counted-told no_plan h g short = (h, g)
  counted-told («open» e) h g short = (h, g)

  rows_few : (room : ℕ) (a : run.Answer) → 1 ≤ room → ((ss : List Step) → a ≡ plan ss → length ss < room) → row_value_count (Done (returned t blocks a)) ≤ (room - 1) * 3
  unfolding returned row_count row_value_count
  rows_few room (plan ss) h short = let q = short ss refl in omega arith
  rows_few room no_plan h short = omega arith
  rows_few room («open» e) h short = omega arith

-- an answer has no more rows than there can be blocks
pub few-rows : (a : Answered Answer) → Counted a → row_count a ≤ limits.blocks
unfolding Counted row_count
few-rows (Done (Plan cost steps blocks)) h = h.2
few-rows (Done (NoPlan blocks)) h = omega arith
few-rows (Done (Open estimate blocks)) h = omega arith
few-rows (Refused n) h = omega arith

-- ---- lists of other lengths are judged alike where for every room that there is they have the places
module _ (s : List ℕ) (room : ℕ) (c r c' r' : List ℕ) where
  -- whether a list has too few places
  abbrev few : List ℕ → Bool
  few l = ltb (length l) ((room - 1) * 3)

  module _ (same : room ≤ limits.blocks → (few c ≡ few c') × (few r ≡ few r')) where
    abbrev RoomSame : Type 0
    RoomSame = refusal (room_checks room c r) ≡ refusal (room_checks room c' r')

    abbrev out : Bool
    out = outside 1 limits.blocks room

    room-same : RoomSame
    unfolding room_checks
    room-same = ⊎_elim bad good (true-or-false out)
      where
        bad : out ≡ true → refusal (check 7 out ∷ check 8 (few c) ∷ check 8 (few r) ∷ []) ≡ refusal (check 7 out ∷ check 8 (few c') ∷ check 8 (few r') ∷ [])
        bad h = sym (applies 7 out _ h (λ z. omega arith)) ∙ applies 7 out _ h (λ z. omega arith)

        good : out ≡ false → refusal (check 7 out ∷ check 8 (few c) ∷ check 8 (few r) ∷ []) ≡ refusal (check 7 out ∷ check 8 (few c') ∷ check 8 (few r') ∷ [])
        good h =
            let e = same (inside-means 1 limits.blocks room h).1 in
            ap₂ (λ (x y : Bool). refusal (check 7 out ∷ check 8 x ∷ check 8 y ∷ [])) e.0 e.1

    pub lists-same : refusal (run_checks s room c r) ≡ refusal (run_checks s room c' r')
    unfolding run_checks
    lists-same =
        refusal-append (sheet_checks s) (room_checks room c r) ∙ ap (λ (x : ℕ). refusal (sheet_checks s) then x) room-same
        ∙ sym (refusal-append (sheet_checks s) (room_checks room c' r'))

-- ---- a run and its outcome
module _ (s : List ℕ) (room : ℕ) (c r : List ℕ) where
  abbrev pub t : Task
  t = task_on s

  abbrev pub o : run.Outcome
  o = run.run t room

  abbrev pub cut_list : List ℕ
  cut_list = listed cut_place o.made

  abbrev pub row_list : List ℕ
  row_list = listed row_place (rows_of t o.answer)

  module _ (a : Answered Answer) (c' r' : List ℕ) where
    -- a run that was made
    pub record Ran : Type 0 where
      pub ok : refusal (run_checks s room c r) ≡ 0
      pub answer : a ≡ Done (returned t (block_count o) o.answer)
      pub cut-list : c' ≡ over cut_list c
      pub row-list : r' ≡ over row_list r

    pub record NotRan : Type 0 where
      pub bad : refusal (run_checks s room c r) ≡ 0 → ⊥
      pub answer : a ≡ Refused (refusal (run_checks s room c r))
      pub same-cuts : c' ≡ c

  -- what the code that goes on has to know
  pub record Known (a : Answered Answer) (c' r' : List ℕ) : Type 0 where
    pub counted : Counted a
    pub cuts_fit : cut_value_count a ≤ length c
    pub rows_fit : row_value_count a ≤ length r
    pub cuts-in : cut_value_count a ≤ length c'
    pub rows_in : row_value_count a ≤ length r'

  module _ {a : Answered Answer} {c' r' : List ℕ} (e : running.Runs s room c r a c' r') where
    pub ran-or-not : Ran a c' r' ⊎ NotRan a c' r'
    unfolding running.running made
    ran-or-not = split (ℕ_discrete (refusal (run_checks s room c r)) 0)
      where
        split : Dec (refusal (run_checks s room c r) ≡ 0) → Ran a c' r' ⊎ NotRan a c' r'
        split (yes z) =
            let m : run_outcome a c' r' ≡ made t o c r = e ∙ simp (eq-eqb (refusal (run_checks s room c r)) 0 z) in
            inl (record { ok = z; answer = ap (λ (x : running.RunOutcome). x.answer) m; cut-list = ap (λ (x : running.RunOutcome). x.cuts) m; row-list = ap (λ (x : running.RunOutcome). x.rows) m })
        split (no z) =
            let m : run_outcome a c' r' ≡ run_outcome (Refused (refusal (run_checks s room c r))) c r = e ∙ simp (ne_eqb (refusal (run_checks s room c r)) 0 z) in
            inr (record { bad = z; answer = ap (λ (x : running.RunOutcome). x.answer) m; same-cuts = ap (λ (x : running.RunOutcome). x.cuts) m })

    module _ (w : Ran a c' r') where
      parts : (refusal (sheet_checks s) ≡ 0) × (refusal (room_checks room c r) ≡ 0)
      unfolding run_checks
      parts = neither (refusal (sheet_checks s)) (refusal (room_checks room c r)) (sym (refusal-append (sheet_checks s) (room_checks room c r)) ∙ w.ok)

      pub fits : Fits room c r
      fits = room_fits room c r parts.1

      pub accepted : Accepted t
      unfolding task_on
      accepted = accepted-task s (unfold judge_sheet in parts.0)

      few-blocks : length o.made + 1 ≤ room
      few-blocks = omega (arith, (run-right t accepted room fits.some).fits)

      short : (ss : List Step) → o.answer ≡ plan ss → length ss < room
      short = plan-short t accepted room fits.some

      pub cuts-long : cut_value_count a ≡ length cut_list
      unfolding block_count
      cuts-long = ap cut_value_count w.answer ∙ cuts-told t (block_count o) o.answer ∙ omega (arith, listed-length o.made)

      pub rows_long : row_value_count a ≡ length row_list
      rows_long = ap row_value_count w.answer ∙ rows_told t (block_count o) o.answer

    pub known : Known a c' r'
    unfolding Counted cut_value_count row_count row_value_count block_count over
    known = ⊎_elim yes-ran not-ran ran-or-not
      where
        yes-ran : Ran a c' r' → Known a c' r'
        yes-ran w =
            let f = fits w in
            let b = few-blocks w in
            record {
              counted = subst Counted (sym w.answer) (counted-told t (block_count o) o.answer (omega arith) (omega (arith, f.few)) (λ ss q. omega (arith, short w ss q, f.few)));
              cuts_fit = omega (arith, cuts-long w, listed-length o.made, f.cuts_fit, b);
              rows_fit = omega (arith, ap row_value_count w.answer, rows_few t (block_count o) room o.answer f.some (short w), f.rows_fit);
              cuts-in = omega (arith, cuts-long w, ap length w.cut-list, length-append cut_list (drop (length cut_list) c));
              rows_in = omega (arith, rows_long w, ap length w.row-list, length-append row_list (drop (length row_list) r));
            }

        not-ran : NotRan a c' r' → Known a c' r'
        not-ran n = subst (λ (x : Answered Answer). Known x c' r' → Known a c' r') n.answer (λ x. x) (record { counted = tt; cuts_fit = omega arith; rows_fit = omega arith; cuts-in = omega arith; rows_in = omega arith })
