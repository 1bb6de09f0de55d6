-- How long the printed lines are: a first line has at most 128 bytes, a row's line too, and a plan has fewer rows than there can be blocks. So 65,536 bytes hold them.
use Prim.Native.Nat.{ℕ, zero, suc, ◌+◌, ◌*◌, ◌/◌, ◌≤◌, ◌<◌}
use native.Mathlib.Omega.{arith}
use native.Mathlib.Decide.{ℕ_discrete}
use mathlib.Core.Path.{◌≡◌, refl, sym, ◌∙◌}
use mathlib.Core.Bool.{Bool, true, false, cond}
use mathlib.Core.List.{List, [], ◌∷◌, ◌++◌}
use lib.Dec.{ltb}
use lib.ListN.{length, get_or, drop, length-append}
use borrow.Author.Tests.{eq-eqb, ne_eqb}
use Rattle.task.specs.declared.Step.{Step}
use Rattle.task.specs.Sizes.{limits}
use Rattle.task.specs.Task.{Task, Accepted}
use Rattle.fields.specs.Bits.{field_at}
use Rattle.fields.specs.Judging.{outside, refusal, each}
use Rattle.fields.proofs.JudgingLaws.{neither, refusal-append, passed, inside-means}
use Rattle.sheets.specs.ModelSheet.{sheet_checks, judge_sheet}
use Rattle.sheets.specs.Holding.{task_on}
use Rattle.sheets.proofs.HeldTaskLaws.{accepted-task}
use Rattle.run.specs.Run as run
use Rattle.run.specs.Run.{plan, no_plan, «open», rows_of}
use Rattle.run.proofs.LengthLaws.{plan-short}
use Rattle.run.specs.Listing.{listed, row_place}
use Rattle.fields.specs.Refusals.{Done, Refused}
use Rattle.running.specs.Running.{room_check, returned}
use Rattle.running.proofs.RowLaws.{three}
use Rattle.lines.specs.Lines.{decimal, labelled, space, line_end, first_line, row_line, row_lines, made_lines, ran_lines, printed, line_bytes, output_bytes}
use Rattle.lines.proofs.LineLaws.{decimal-short}
use Rattle.lines.proofs.PrintedLaws.{label-short, first_short}

each-most : (n : ℕ) (f : ℕ → List ℕ) → ((i : ℕ) → length (f i) ≤ line_bytes) → length (each n f) ≤ n * line_bytes
unfolding each
each-most zero f h = omega arith
each-most (suc n) f h = omega (arith, length-append (each n f) (f n), h n, each-most n f h)

row-short : (list : List ℕ) (i : ℕ) → length (row_line list i) ≤ line_bytes
unfolding row_line
row-short list i =
    let x = get_or list (i * 3) 0 in
    let y = get_or list (i * 3 + 1) 0 in
    let z = get_or list (i * 3 + 2) 0 in
    let last = labelled space z ++ line_end in
    let a = length-append (labelled space z) line_end in
    let b = length-append (labelled space y) last in
    let c = length-append (labelled space x) (labelled space y ++ last) in
    let d = length-append (decimal (i + 1)) (labelled space x ++ (labelled space y ++ last)) in
    omega (arith, a, b, c, d, decimal-short (i + 1), label-short space x, label-short space y, label-short space z)

module _ (t : Task) where
  abbrev values : run.Answer → List ℕ
  values a = listed row_place (rows_of t a)

  few-rows : (a : run.Answer) → ((ss : List Step) → a ≡ plan ss → length ss < limits.blocks) → length (values a) / 3 < limits.blocks
  unfolding rows_of listed
  few-rows (plan ss) h = omega (arith, three t ss, h ss refl)
  few-rows no_plan h = omega arith
  few-rows («open» e) h = omega arith

  made-short : (o : run.Outcome) → ((ss : List Step) → o.answer ≡ plan ss → length ss < limits.blocks) → length (made_lines t o) ≤ output_bytes
  unfolding made_lines row_lines
  made-short o h =
      let a = Done (returned t (run.block_count o) o.answer) in
      let vs = values o.answer in
      omega (arith, length-append (first_line a) (row_lines vs), first_short a, each-most (length vs / 3) (row_line vs) (row-short vs), few-rows o.answer h)

-- ---- a sheet and a room that are not refused
module _ (s : List ℕ) (room : ℕ) where
  abbrev N : ℕ
  N = refusal (sheet_checks s ++ (room_check room ∷ []))

  pub ran-accepted : N ≡ 0 → Accepted (task_on s) × (1 ≤ room) × (room ≤ limits.blocks)
  unfolding judge_sheet task_on
  ran-accepted z =
      let p = neither (refusal (sheet_checks s)) _ (sym (refusal-append (sheet_checks s) _) ∙ z) in
      let r = inside-means 1 limits.blocks room (passed 7 (outside 1 limits.blocks room) [] (λ y. omega arith) p.1).0 in
      (accepted-task s p.0, r.0, r.1)

  ran-short : length (ran_lines s room) ≤ output_bytes
  unfolding ran_lines
  ran-short = split (ℕ_discrete N 0)
    where
      split : Dec (N ≡ 0) → length (ran_lines s room) ≤ output_bytes
      split (yes z) =
          let v = ran-accepted z in
          simp (eq-eqb N 0 z) (made-short (task_on s) (run.run (task_on s) room) (λ ss e. omega (arith, plan-short (task_on s) v.0 room v.1 ss e, v.2)))
      split (no z) = simp (ne_eqb N 0 z) (omega (arith, first_short (Refused N)))

pub printed-fits : (input : List ℕ) → length (printed input) ≤ output_bytes
unfolding printed
printed-fits input = pick-short (ltb (length input) 2)
  where
    pick-short : (b : Bool) → length (cond b (first_line (Refused 1)) (ran_lines (drop 2 input) (field_at input 0 16))) ≤ output_bytes
    pick-short true = omega (arith, first_short (Refused 1))
    pick-short false = ran-short (drop 2 input) (field_at input 0 16)
