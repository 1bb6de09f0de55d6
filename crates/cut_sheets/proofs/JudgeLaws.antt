-- Laws for the code that judges a cut part: what reading a cut says, and what each early end and each step of the loop says.
use Prim.Native.Nat.{ℕ, ◌+◌, ◌*◌, ◌≤◌, ◌<◌}
use native.Mathlib.Omega.{arith}
use native.Mathlib.Numerals.{add-one}
use mathlib.Core.Path.{◌≡◌, refl, sym, ap, ap₂, ◌∙◌, subst}
use mathlib.Core.Bool.{Bool, true, false, not, ◌&&◌, cond}
use mathlib.Core.List.{List, [], ◌∷◌, ◌++◌}
use lib.Dec.{ltb}
use lib.ListN.{length, replicate, length-replicate}
use borrow.Author.Tests.{lt-ltb, le-ltb}
use Rattle.task.specs.Sizes.{limits, most_steps}
use Rattle.task.specs.Task.{Task, column_count, column, block, no_column}
use Rattle.task.proofs.LoopLaws.{and_both}
use Rattle.fields.specs.Bits.{field_at}
use Rattle.std.proofs.Common.{Some}
use Rattle.fields.proofs.ReadLaws.{read-some}
use Rattle.fields.specs.Judging.{read, Entry, Check, on_sheet, check, checks_of, entry, outside, follows, refusal, judged, each, ◌then◌}
use Rattle.fields.specs.Refusals.{Done, Refused}
use Rattle.fields.proofs.FieldLaws.{field_lt}
use Rattle.sheets.specs.ModelSheet.{fill_bits, fill_part}
use Rattle.fields.proofs.JudgingLaws.{stopped, went, sheet-here, sheet-cut, place_here, place-cut, pass, hit, end, last-stopped, last-went}
use Rattle.blocks.specs.declared.Cut.{Cut}
use Rattle.blocks.specs.Blocks.{Sets, cut_ok, cut_block, blocks_of}
use Rattle.blocks.specs.Flat.{blocks_in, Cuttable}
use Rattle.blocks.proofs.PartLaws.{fits}
use Rattle.blocks.proofs.CutLaws as cuts
use Rattle.blocks.proofs.CutLaws.{blocks_more}
use Rattle.blocks.proofs.FlatLaws.{blocks-length}
use Rattle.cutting.specs.declared.Blocks.{Blocks}
use Rattle.cut_sheets.specs.CutPart.{CutFields, cut_named, cuts_named, cut_read, cut_header, cut_part, cut_on, cut_bits, cut_fields, cut_entries, count_of, cut_part_with, of_cut_part, cut_end, judge_cut_part, cut_checks, judge_cuts}
use Rattle.cut_sheets.specs.CutSheet.{cut_lent}
use Rattle.cut_sheets.specs.Judged.{Made, CutsJudged, PartJudged}
use Rattle.cut_sheets.proofs.CutPartLaws.{cuts-more, cuts-length}

-- the cut that three values name
pub named : (s : List ℕ) (i : ℕ) {a b w : ℕ} → a ≡ field_at s (cut_bits i) 8 → b ≡ field_at s (cut_bits i + 8) 4 → w ≡ field_at s (cut_bits i + 8 + 4) 32
    → ◌≡◌ {A = Cut} (record { block = block a; column = column b; wanted = w }) (cut_named (cut_on s i))
unfolding cut_named cut_on
named s i p q r = λ k. record { block = block (p k); column = column (q k); wanted = r k }

-- ---- a cut as it is read, wherever its fields come from
and-false : (b : Bool) {c : Bool} → c ≡ false → (b && c) ≡ false
and-false true e = e
and-false false e = refl

module _ (f : CutFields) where
  abbrev pub Here : Bool
  Here = f.block.here && f.column.here && f.wanted.here

  abbrev pub Room : Bool
  Room = ltb f.block.value limits.blocks && ltb f.column.value limits.columns

  pub no-block : limits.blocks ≤ f.block.value → Room ≡ false
  no-block h = ap (λ (b : Bool). b && ltb f.column.value limits.columns) (le-ltb f.block.value limits.blocks h)

  pub no-column : limits.columns ≤ f.column.value → Room ≡ false
  no-column h = and-false (ltb f.block.value limits.blocks) (le-ltb f.column.value limits.columns h)

  -- the last field is not there
  pub read-short : f.wanted.here ≡ false → Refused 1 ≡ cut_read f
  unfolding cut_read
  read-short h = sym (ap (λ (b : Bool). cond b (cond Room (Done (cut_named f)) (Refused 9)) (Refused 1)) (and-false (f.block.here && f.column.here) h))

  module _ (there : (f.block.here ≡ true) × (f.column.here ≡ true) × (f.wanted.here ≡ true)) where
    past-here : cut_read f ≡ cond Room (Done (cut_named f)) (Refused 9)
    unfolding cut_read
    past-here = ap (λ (b : Bool). cond b (cond Room (Done (cut_named f)) (Refused 9)) (Refused 1)) (and_both (and_both there.0 there.1) there.2)

    -- a number has no room in its field, and names nothing that is there
    pub read-wide : Room ≡ false → Refused 9 ≡ cut_read f
    read-wide h = sym (past-here ∙ ap (λ (b : Bool). cond b (Done (cut_named f)) (Refused 9)) h)

    pub read-whole : {c : Cut} → f.block.value < limits.blocks → f.column.value < limits.columns → c ≡ cut_named f → Done c ≡ cut_read f
    read-whole a b e =
        ap Done e
        ∙ sym (past-here ∙ ap (λ (b : Bool). cond b (Done (cut_named f)) (Refused 9)) (and_both (lt-ltb f.block.value limits.blocks a) (lt-ltb f.column.value limits.columns b)))

-- the fields of cut i of a part are there
module _ (s : List ℕ) (i : ℕ) where
  pub sheet-short : 8 * length s < cut_bits (i + 1) → (cut_on s i).wanted.here ≡ false
  unfolding cut_on cut_bits
  sheet-short h = sheet-cut s (cut_bits i + 8 + 4) 32 (omega arith)

  pub sheet-whole : cut_bits (i + 1) ≤ 8 * length s → ((cut_on s i).block.here ≡ true) × ((cut_on s i).column.here ≡ true) × ((cut_on s i).wanted.here ≡ true)
  unfolding cut_on cut_bits
  sheet-whole h = (sheet-here s (cut_bits i) 8 (omega arith), sheet-here s (cut_bits i + 8) 4 (omega arith), sheet-here s (cut_bits i + 8 + 4) 32 (omega arith))

-- the fields of cut i of a lent list are there
module _ (cuts : List ℕ) (i : ℕ) where
  pub lent-short : length cuts < i * 3 + 3 → (cut_lent cuts i).wanted.here ≡ false
  unfolding cut_lent
  lent-short h = place-cut cuts (i * 3 + 2) (omega arith)

  pub lent-whole : i * 3 + 3 ≤ length cuts → ((cut_lent cuts i).block.here ≡ true) × ((cut_lent cuts i).column.here ≡ true) × ((cut_lent cuts i).wanted.here ≡ true)
  unfolding cut_lent
  lent-whole h = (place_here cuts (i * 3) (omega arith), place_here cuts (i * 3 + 1) (omega arith), place_here cuts (i * 3 + 2) (omega arith))

-- ---- one cut, by what it was read as
part-number : (x y z k : Bool) → refusal (check 1 (not x) ∷ check 1 false ∷ check 1 (not y) ∷ check 1 false ∷ check 1 (not z) ∷ check 9 (not k) ∷ []) ≡ cond (x && y && z) (cond k 0 9) 1
unfolding refusal ◌then◌
part-number false y z k = refl
part-number true false z k = refl
part-number true true false k = refl
part-number true true true false = refl
part-number true true true true = refl

refused-number : (x y k : Bool) (c : Cut) {n : ℕ} → (k ≡ true → y ≡ true) → Refused n ≡ cond x (cond y (Done c) (Refused 9)) (Refused 1) → n ≡ cond x (cond k 0 9) 1
refused-number false y k c h e = cc
refused-number true true k c h e = cc
refused-number true false false c h e = cc
refused-number true false true c h e = let q = h refl in cc

done-number : (x y k : Bool) {c d : Cut} → Done d ≡ cond x (cond y (Done c) (Refused 9)) (Refused 1) → (d ≡ c) × (◌≡◌ {A = ℕ} (cond k 0 9) (cond x (cond k 0 9) 1))
done-number false y k e = cc
done-number true false k e = cc
done-number true true k e = (cc, refl)

module _ (t : Task) (f : ℕ → CutFields) (i : ℕ) where
  abbrev Ok : Cut → Bool
  Ok c = cut_ok t (blocks_of t (cuts_named f i)) c

  cut-number : judged (cut_part t f i) ≡ cond (Here (f i)) (cond (Ok (cut_named (f i))) 0 9) 1
  unfolding cut_part judged checks_of
  cut-number = part-number (f i).block.here (f i).column.here (f i).wanted.here (Ok (cut_named (f i)))

  -- a cut that the blocks take has room for its numbers
  in-room : column_count t ≤ limits.columns → i < most_steps → Ok (cut_named (f i)) ≡ true → Room (f i) ≡ true
  unfolding cut_named
  in-room w h k =
      let p = fits t (blocks_of t (cuts_named f i)) (cut_named (f i)) k in
      and_both (lt-ltb (f i).block.value limits.blocks (omega (arith, p.made, cuts.blocks-length t (cuts_named f i), cuts-length f i)))
      (lt-ltb (f i).column.value limits.columns (omega (arith, p.there)))

  -- no cut was read: its refusal is that of its part
  pub refused-judged : {n : ℕ} → column_count t ≤ limits.columns → i < most_steps → Refused n ≡ cut_read (f i) → n ≡ judged (cut_part t f i)
  unfolding cut_read
  refused-judged w h e = refused-number (Here (f i)) (Room (f i)) (Ok (cut_named (f i))) (cut_named (f i)) (in-room w h) e ∙ sym cut-number

  -- else it is the cut that the fields name, and the blocks so far decide
  pub done-judged : {c : Cut} → Done c ≡ cut_read (f i) → (c ≡ cut_named (f i)) × (◌≡◌ {A = ℕ} (cond (Ok (cut_named (f i))) 0 9) (judged (cut_part t f i)))
  unfolding cut_read
  done-judged e =
      let p = done-number (Here (f i)) (Room (f i)) (Ok (cut_named (f i))) e in
      (p.0, p.1 ∙ sym cut-number)

-- ---- what the test of a cut says whatever the task
pub any_task : ℕ → Task
any_task columns = record { columns = replicate columns no_column; steps = [] }

any-columns : (columns : ℕ) → column_count (any_task columns) ≡ columns
unfolding column_count any_task
any-columns columns = length-replicate columns no_column

pub taken : (columns count : ℕ) (sets : List ℕ) (c : Cut) → ((t : Task) → column_count t ≡ columns → true ≡ cut_ok t (blocks_in columns count sets) c) → (c.block.0 < count) × (c.column.0 < columns)
taken columns count sets c h =
    let t = any_task columns in
    let f = fits t (blocks_in columns count sets) c (sym (h t (any-columns columns))) in
    (omega (arith, f.made, blocks-length columns count sets), omega (arith, f.there, any-columns columns))

-- ---- the loop

-- before any cut there is one block, whatever was counted
module _ (t : Task) (f : ℕ → CutFields) (columns count : ℕ) (sets : List ℕ) (m : blocks_in columns count sets ≡ blocks_of t (cuts_named f 0)) where
  first-alone : count ≡ 1
  first-alone = omega (arith, blocks-length columns count sets, ap length m, cuts.blocks-length t (cuts_named f 0), cuts-length f 0)

  pub first-made : blocks_in columns 1 sets ≡ blocks_of t (cuts_named f 0)
  first-made = subst (λ n. blocks_in columns n sets ≡ blocks_of t (cuts_named f 0)) first-alone m

-- what the loop holds
pub record Going (t : Task) (f : ℕ → CutFields) (columns i : ℕ) (blocks : Blocks) : Type 0 where
  pub passed : judged (each i (cut_part t f)) ≡ 0
  pub made : Made t f columns i blocks

module _ (t : Task) (f : ℕ → CutFields) (columns i : ℕ) (blocks : Blocks) where
  -- no cut was read
  pub going-unread : {n count : ℕ} → column_count t ≡ columns → columns ≤ limits.columns → i < count → count < limits.blocks → (n ≡ 0 → ⊥) → Going t f columns i blocks → Refused n ≡ cut_read (f i)
      → CutsJudged t f columns count n blocks
  going-unread {n} {count} w v h k z g e =
      let q : n ≡ judged (cut_part t f i) = refused-judged t f i (omega arith) (omega arith) e in
      record { refusal = hit i count (cut_part t f) h g.passed q z; made = λ y. absurd (z y) }

  module _ {c : Cut} {r : Bool} (w : column_count t ≡ columns) (d : Done c ≡ cut_read (f i)) (q : (u : Task) → column_count u ≡ columns → r ≡ cut_ok u (blocks_in columns blocks.count blocks.sets) c) (g : Going t f columns i blocks) where
    cut-is : c ≡ cut_named (f i)
    cut-is = (done-judged t f i d).0

    number-is : ◌≡◌ {A = ℕ} (cond r 0 9) (judged (cut_part t f i))
    number-is =
        ap (λ (b : Bool). cond b 0 9) (q t w ∙ ap₂ (λ (bs : List Sets) (k : Cut). cut_ok t bs k) g.made cut-is) ∙ (done-judged t f i d).1

    -- the blocks do not take the cut
    pub going-untaken : {count : ℕ} → i < count → r ≡ false → CutsJudged t f columns count 9 blocks
    going-untaken {count} h z =
        let e : 9 ≡ judged (cut_part t f i) = ap (λ (b : Bool). cond b 0 9) (sym z) ∙ number-is in
        record { refusal = hit i count (cut_part t f) h g.passed e (λ y. omega arith); made = λ y. absurd (omega arith) }

    -- a cut that was taken is made: the array then holds the blocks of one cut more
    pub going_on : {next : Blocks} → r ≡ true → blocks_in columns next.count next.sets ≡ cut_block (blocks_in columns blocks.count blocks.sets) c → Going t f columns (i + 1) next
    going_on z n =
        record {
          passed = pass i (cut_part t f) g.passed (ap (λ (b : Bool). cond b 0 9) (sym z) ∙ number-is) refl;
          made =
              n ∙ ap₂ cut_block g.made cut-is
              ∙ sym (blocks_more t (cuts_named f i) (cut_named (f i))) ∙ ap (blocks_of t) (sym (cuts-more f i) ∙ ap (cuts_named f) (sym (add-one i)));
        }

pub going_end : (t : Task) (f : ℕ → CutFields) (columns i count : ℕ) (blocks : Blocks) → i ≤ count → count ≤ i → Going t f columns i blocks → CutsJudged t f columns count 0 blocks
going_end t f columns i count blocks h g q =
    let e : i ≡ count = omega arith in
    record { refusal = end i count (cut_part t f) h g q.passed; made = λ z. subst (λ (k : ℕ). Made t f columns k blocks) e q.made }

-- a cut that was taken can be made, whatever the task
module _ (columns : ℕ) (blocks : Blocks) (c : Cut) {r : Bool} (wide : columns ≤ limits.columns) (room : blocks.count < limits.blocks) (q : (t : Task) → column_count t ≡ columns → r ≡ cut_ok t (blocks_in columns blocks.count blocks.sets) c) (z : r ≡ true) where
  pub cuttable : Cuttable columns blocks.count c
  cuttable =
      let there = taken columns blocks.count blocks.sets c (λ t e. sym z ∙ q t e) in
      record { wide = wide; room = room; made = there.0; there = there.1 }

-- ---- the whole part, by what each of its parts was judged
module _ (t : Task) (s : List ℕ) where
  abbrev Form : Entry
  Form = entry 4 (on_sheet s 0 4) 2 (outside 2 2 (field_at s 0 4))

  abbrev Count : Entry
  Count = entry 8 (on_sheet s 4 8) 9 (outside 0 most_steps (field_at s 4 8))

  abbrev Cuts : ℕ → List Entry
  Cuts n = each n (cut_part t (cut_on s))

  abbrev Fill : ℕ → List Entry
  Fill n = fill_part (cut_bits n) (on_sheet s (cut_bits n) (fill_bits (cut_bits n)))

  abbrev Rest : List Entry
  Rest = Cuts (count_of s) ++ Fill (count_of s)

  whole_part : {r : ℕ} → r ≡ judged (Form ∷ Count ∷ Rest) → r ≡ judge_cut_part t s
  unfolding judge_cut_part cut_entries cut_fields cut_header of_cut_part cut_part_with
  whole_part e = e

  refused : (exit : Blocks) (columns : ℕ) {r : ℕ} → (r ≡ 0 → ⊥) → r ≡ judged (Form ∷ Count ∷ Rest) → PartJudged judge_cut_part t s columns r exit
  refused exit columns z e = record { refusal = whole_part e; made = λ n. absurd (z n) }

  pub form-refused : (exit : Blocks) (columns : ℕ) {a : ℕ} → a ≡ judged (Form ∷ []) → (a ≡ 0 → ⊥) → PartJudged judge_cut_part t s columns a exit
  form-refused exit columns ea za = refused exit columns za (stopped (Form ∷ []) (Count ∷ Rest) ea za)

  module _ (ea : 0 ≡ judged (Form ∷ [])) where
    pub count-refused : (exit : Blocks) (columns : ℕ) {b : ℕ} → b ≡ judged (Count ∷ []) → (b ≡ 0 → ⊥) → PartJudged judge_cut_part t s columns b exit
    count-refused exit columns eb zb = refused exit columns zb (went (Form ∷ []) (Count ∷ Rest) ea refl (stopped (Count ∷ []) Rest eb zb))

    module _ {n : ℕ} (eb : 0 ≡ judged (Count ∷ [])) (en : n ≡ count_of s) where
      past-header : {r : ℕ} → r ≡ judged Rest → r ≡ judged (Form ∷ Count ∷ Rest)
      past-header e = went (Form ∷ []) (Count ∷ Rest) ea refl (went (Count ∷ []) Rest eb refl e)

      -- a refusal of the cuts
      pub cuts-refused : (exit : Blocks) (columns : ℕ) {c : ℕ} → CutsJudged t (cut_on s) columns n c exit → (c ≡ 0 → ⊥) → PartJudged judge_cut_part t s columns c exit
      cuts-refused exit columns j z =
          refused exit columns z (past-header (stopped (Cuts (count_of s)) (Fill (count_of s)) (j.refusal ∙ ap (λ (k : ℕ). judged (Cuts k)) en) z))

      module _ (exit : Blocks) (columns : ℕ) (j : CutsJudged t (cut_on s) columns n 0 exit) where
        past-cuts : {d : ℕ} → d ≡ judged (Fill n) → d ≡ judged Rest
        past-cuts e = went (Cuts (count_of s)) (Fill (count_of s)) (j.refusal ∙ ap (λ (k : ℕ). judged (Cuts k)) en) refl (e ∙ ap (λ (k : ℕ). judged (Fill k)) en)

        -- else the fill decides
        pub fill-judged : {d : ℕ} → d ≡ judged (Fill n) → PartJudged judge_cut_part t s columns d exit
        fill-judged e = record { refusal = whole_part (past-header (past-cuts e)); made = λ q. subst (λ (k : ℕ). Made t (cut_on s) columns k exit) en (j.made refl) }

-- ---- a part that nothing follows, by what the part at its front was judged, and its end
module _ (t : Task) (s : List ℕ) (columns : ℕ) where
  abbrev Follows : List Check
  Follows = follows (cut_end s) s ∷ []

  pub tail-refused : {a : ℕ} {exit : Blocks} → PartJudged judge_cut_part t s columns a exit → (a ≡ 0 → ⊥) → PartJudged judge_cuts t s columns a exit
  unfolding judge_cut_part judge_cuts cut_checks
  tail-refused j z = record { refusal = last-stopped (cut_entries t (of_cut_part s)) Follows j.refusal z; made = λ n. absurd (z n) }

  pub tail-end : {end x : ℕ} {exit : Blocks} → PartJudged judge_cut_part t s columns 0 exit → end ≡ cut_end s → x ≡ refusal (follows end s ∷ []) → PartJudged judge_cuts t s columns x exit
  unfolding judge_cut_part judge_cuts cut_checks
  tail-end j q f =
      record {
        refusal = last-went (cut_entries t (of_cut_part s)) Follows j.refusal refl (f ∙ ap (λ (k : ℕ). refusal (follows k s ∷ [])) q);
        made = λ n. j.made refl;
      }

-- the count of a part whose header was accepted
pub count-below : (s : List ℕ) {n : ℕ} → n ≡ count_of s → n < limits.blocks
count-below s e = omega (arith, field_lt s 4 8)

pub count-read : (s : List ℕ) {n : ℕ} → Some n ≡ read (on_sheet s 4 8) → n ≡ count_of s
count-read s e = (read-some (on_sheet s 4 8) e).1
