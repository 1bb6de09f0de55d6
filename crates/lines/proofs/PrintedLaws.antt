-- What is printed for an input: the lines of its run.
use Prim.Native.Nat.{ℕ, ◌+◌, ◌-◌, ◌*◌, ◌/◌, ◌≤◌, ◌<◌}
use native.Mathlib.Omega.{arith}
use mathlib.Core.Path.{◌≡◌, sym, ap, ap₂, ◌∙◌, subst}
use mathlib.Core.Logic.{⊎_elim}
use mathlib.Core.Bool.{true, false}
use mathlib.Core.List.{List, [], ◌∷◌, ◌++◌, append-nil}
use lib.Dec.{ltb}
use lib.ListN.{length, get_or, drop, take, length-append, get_or-append}
use lib.Seq.{length-take-le}
use borrow.Author.Tests.{eq-eqb, ne_eqb, lt-ltb, le-ltb}
use Rattle.task.specs.Loops.{over}
use Rattle.task.specs.Sizes.{limits, most_values}
use Rattle.task.proofs.LoopLaws.{true-or-false}
use Rattle.fields.specs.Bits.{field_at}
use Rattle.fields.specs.Judging.{check, outside, refusal, each, ◌then◌}
use Rattle.fields.proofs.JudgingLaws.{applies, passes, no-checks, refusal-append, inside-means, each-ext}
use Rattle.sheets.specs.ModelSheet.{sheet_checks}
use Rattle.fields.proofs.PlaceLaws.{rest_all}
use Rattle.io.specs.Counts.{IsPrefixLen}
use Rattle.running.specs.declared.Answer.{Answer}
use Rattle.running.specs.declared.Answer.TheVariants.{Plan, NoPlan, Open}
use Rattle.fields.specs.Refusals.{Answered, Done, Refused}
use Rattle.running.specs.Running.{room_checks, run_checks, Runs}
use Rattle.running.specs.Counts.{row_count, row_value_count, Counted}
use Rattle.running.proofs.CountLaws as count
use Rattle.lines.specs.Lines.{line_bytes, output_bytes, decimal, labelled, plan_text, no_plan_text, open_text, refused_text, steps_text, blocks_text, space, line_end, first_line, row_line, row_lines, made_lines, ran_lines, printed, Put}
use Rattle.lines.proofs.LineLaws.{join, same-long, decimal-short}

pub label-short : (text : List ℕ) (n : ℕ) → length (labelled text n) ≤ length text + 20
unfolding labelled
label-short text n = omega (arith, length-append text (decimal n), decimal-short n)

pub first_short : (a : Answered Answer) → length (first_line a) ≤ line_bytes
unfolding first_line
first_short (Done (Plan c n b)) =
    omega (arith, length-append (labelled plan_text c) (labelled steps_text n ++ (labelled blocks_text b ++ line_end)), length-append (labelled steps_text n) (labelled blocks_text b ++ line_end), length-append (labelled blocks_text b) line_end, label-short plan_text c, label-short steps_text n, label-short blocks_text b)
first_short (Done (NoPlan b)) = omega (arith, length-append (labelled no_plan_text b) line_end, label-short no_plan_text b)
first_short (Done (Open e b)) = omega (arith, length-append (labelled open_text e) (labelled blocks_text b ++ line_end), length-append (labelled blocks_text b) line_end, label-short open_text e, label-short blocks_text b)
first_short (Refused n) = omega (arith, length-append (labelled refused_text n) line_end, label-short refused_text n)

abbrev line_from : ℕ → ℕ → ℕ → ℕ → List ℕ
line_from i d e f = decimal (i + 1) ++ (labelled space d ++ (labelled space e ++ (labelled space f ++ line_end)))

-- rows stand at the front of a list
front-rows : (xs ys : List ℕ) (k : ℕ) → k * 3 ≤ length xs → each k (row_line (xs ++ ys)) ≡ each k (row_line xs)
unfolding row_line
front-rows xs ys k h =
    each-ext k _ _
    (λ i l.
    ap (λ (x : ℕ). line_from i x (get_or (xs ++ ys) (i * 3 + 1) 0) (get_or (xs ++ ys) (i * 3 + 2) 0)) (get_or-append xs ys 0 (i * 3) (omega arith))
    ∙ ap (λ (x : ℕ). line_from i (get_or xs (i * 3) 0) x (get_or (xs ++ ys) (i * 3 + 2) 0)) (get_or-append xs ys 0 (i * 3 + 1) (omega arith))
    ∙ ap (line_from i (get_or xs (i * 3) 0) (get_or xs (i * 3 + 1) 0)) (get_or-append xs ys 0 (i * 3 + 2) (omega arith)))

-- what is printed for a run
abbrev pub RanPut : (s : List ℕ) (room : ℕ) (l : List ℕ) → ℕ → List ℕ → Type 0
RanPut s room l at l' = record { put : Put 0 (ran_lines s room) l at l'; short : at ≤ output_bytes }

module _ (s : List ℕ) (room : ℕ) (c r : List ℕ) (h : (length c ≡ most_values) × (length r ≡ most_values)) where
  abbrev N : ℕ
  N = refusal (sheet_checks s ++ (check 7 (outside 1 limits.blocks room) ∷ []))

  -- lists for the most cuts and rows that there can be are enough for every room
  room-same : refusal (check 7 (outside 1 limits.blocks room) ∷ []) ≡ refusal (room_checks room c r)
  unfolding room_checks
  room-same = ⊎_elim bad good (true-or-false (outside 1 limits.blocks room))
    where
      bad : outside 1 limits.blocks room ≡ true → refusal (check 7 (outside 1 limits.blocks room) ∷ []) ≡ refusal (room_checks room c r)
      bad q = sym (applies 7 (outside 1 limits.blocks room) _ q (λ z. omega arith)) ∙ applies 7 (outside 1 limits.blocks room) _ q (λ z. omega arith)

      good : outside 1 limits.blocks room ≡ false → refusal (check 7 (outside 1 limits.blocks room) ∷ []) ≡ refusal (room_checks room c r)
      good q =
          let i = inside-means 1 limits.blocks room q in
          sym (passes 7 (outside 1 limits.blocks room) [] q no-checks)
          ∙ passes 7 (outside 1 limits.blocks room) _ q (passes 8 (ltb (length c) ((room - 1) * 3)) _ (le-ltb (length c) ((room - 1) * 3) (omega (arith, h.0, i.1))) (passes 8 (ltb (length r) ((room - 1) * 3)) [] (le-ltb (length r) ((room - 1) * 3) (omega (arith, h.1, i.1))) no-checks))

  checks-same : N ≡ refusal (run_checks s room c r)
  unfolding run_checks
  checks-same = refusal-append (sheet_checks s) _ ∙ ap (λ (x : ℕ). refusal (sheet_checks s) then x) room-same ∙ sym (refusal-append (sheet_checks s) (room_checks room c r))

  module _ {a : Answered Answer} {c' r' : List ℕ} (e : Runs s room c r a c' r') where
    pub counted : Counted a
    counted = (count.known s room c r e).counted

    pub rows-go : {k at : ℕ} {l l' : List ℕ} → k ≡ row_count a → output_bytes ≤ length l → Put 0 (first_line a) l at l' → record { within : k * 3 ≤ length r'; room : at + k * line_bytes ≤ length l' }
    unfolding row_value_count
    rows-go q m p =
        let w = count.known s room c r e in
        record { within = omega (arith, w.rows_in); room = omega (arith, w.rows_fit, h.1, p.next, first_short a, same-long p) }

    row_list : List ℕ
    row_list = count.row_list s room c r

    lines-ran : count.Ran s room c r a c' r' → {k : ℕ} → k ≡ row_count a → first_line a ++ each k (row_line r') ≡ ran_lines s room
    unfolding ran_lines made_lines row_lines over row_list row_value_count
    lines-ran b {k} q =
        let n : k ≡ length row_list / 3 = omega (arith, q, count.rows_long s room c r e b) in
        let x : each k (row_line r') ≡ each (length row_list / 3) (row_line row_list) =
        ap₂ (λ (j : ℕ) (m : List ℕ). each j (row_line m)) n b.row-list ∙ front-rows row_list (drop (length row_list) r) (length row_list / 3) (omega arith) in
        simp (eq-eqb N 0 (checks-same ∙ b.ok)) (ap₂ (λ (u : Answered Answer) (m : List ℕ). first_line u ++ m) b.answer x)

    lines-not : count.NotRan s room c r a c' r' → {k : ℕ} → k ≡ row_count a → first_line a ++ each k (row_line r') ≡ ran_lines s room
    unfolding ran_lines row_count each
    lines-not b {k} q =
        let z : k ≡ 0 = q ∙ ap row_count b.answer in
        ap₂ (λ (u : Answered Answer) (j : ℕ). first_line u ++ each j (row_line r')) b.answer z ∙ append-nil _ ∙ ap (λ (j : ℕ). first_line (Refused j)) (sym checks-same) ∙ sym (simp (ne_eqb N 0 (λ v. b.bad (sym checks-same ∙ v))))

    same-lines : {k : ℕ} → k ≡ row_count a → first_line a ++ each k (row_line r') ≡ ran_lines s room
    same-lines z = ⊎_elim (λ (b : count.Ran s room c r a c' r'). lines-ran b z) (λ (b : count.NotRan s room c r a c' r'). lines-not b z) (count.ran-or-not s room c r e)

    -- the first line, and the rows after it
    pub lines-put : {k at at' : ℕ} {l l' l'' : List ℕ} → k ≡ row_count a → Put 0 (first_line a) l at l' → Put at (each k (row_line r')) l' at' l'' → at' ≤ at + k * line_bytes → RanPut s room l at' l''
    unfolding row_value_count
    lines-put {k} {at} {at'} {l} {l'} {l''} z p q b =
        let g = count.known s room c r e in
        record {
          put = subst (λ (x : List ℕ). Put 0 x l at' l'') (same-lines z) (join p q);
          short = omega (arith, b, g.rows_fit, h.1, p.next, first_short a);
        }

    -- the first line alone
    pub line-put : {at : ℕ} {l l' : List ℕ} → 0 ≡ row_count a → Put 0 (first_line a) l at l' → RanPut s room l at l'
    unfolding each
    line-put {at} {l} {l'} z p =
        record { put = subst (λ (x : List ℕ). Put 0 x l at l') (sym (append-nil (first_line a)) ∙ same-lines z) p; short = omega (arith, p.next, first_short a) }

-- ---- the input
module _ (input : List ℕ) {l l' : List ℕ} {at : ℕ} (room : output_bytes ≤ length l) where
  counts : {xs : List ℕ} → Put 0 xs l at l' → at ≤ output_bytes → IsPrefixLen at l'
  counts p h = let m : at ≤ length l' = omega (arith, same-long p) in (m, sym (length-take-le at l' m))

  pub printed-short : length input < 2 → Put 0 (first_line (Refused 1)) l at l' → Put 0 (printed input) l at l' × IsPrefixLen at l'
  unfolding printed
  printed-short h p = (simp (lt-ltb (length input) 2 h) p, counts p (omega (arith, p.next, first_short (Refused 1))))

  pub printed-run : 2 ≤ length input → {n : ℕ} → n ≡ field_at input 0 16 → RanPut (take (length input - 2) (drop 2 input)) n l at l' → Put 0 (printed input) l at l' × IsPrefixLen at l'
  unfolding printed
  printed-run h {n} e p = (simp (le-ltb (length input) 2 h) (subst (λ (x : List ℕ). Put 0 x l at l') (ap₂ ran_lines (rest_all input 2) e) p.put), counts p.put p.short)
