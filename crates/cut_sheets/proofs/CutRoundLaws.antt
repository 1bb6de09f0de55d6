-- Cuts written and read back are the same, and accepted bytes of a cut part come back the same.
use Prim.Native.Nat.{ℕ, ◌+◌, ◌*◌, ◌^◌, ◌≤◌, ◌<◌}
use native.Mathlib.Omega.{arith}
use mathlib.Core.Path.{◌≡◌, refl, sym, ap, ◌∙◌, subst}
use mathlib.Core.List.{List, [], ◌++◌}
use mathlib.Core.Bool.{true}
use lib.ListN.{length}
use lib.Dec.{ltb}
use lib.Pow.{pow_pos}
use borrow.Author.Tests.{leb-true, le-ltb, ltb-false}
use Rattle.task.specs.Sizes.{most_steps}
use Rattle.task.specs.Task.{Task, Accepted}
use Rattle.fields.specs.Judging.{Field, Entry, judged}
use Rattle.fields.specs.Packing.{bits_in, sheet_of}
use Rattle.fields.proofs.JudgingLaws.{last-both, last-went, passed, passes, no-checks}
use Rattle.fields.proofs.PutLaws.{Bytes}
use Rattle.fields.proofs.PackingLaws.{Holds, Fit, fit_append, fit-each, holds-fit, sheet-length, sheet-holds, sheet-only}
use Rattle.blocks.specs.Blocks.{accepted, blocks_of}
use Rattle.blocks.proofs.PartLaws.{fits}
use Rattle.blocks.proofs.CutLaws.{blocks-length}
use Rattle.sheets.specs.ModelSheet.{fill_bits, fill_part}
use Rattle.cut_sheets.specs.CutPart.{CutFields, CutSource, cut_named, cuts_named, cut_header, cut_part, cut_bits, cut_fields, cut_entries, count_of, cut_on, cut_part_with, of_cut_part, cut_bytes, cut_end, cut_checks, judge_cuts}
use Rattle.cut_sheets.proofs.CutPartLaws.{H, C, F, cut-whole, part-bits, CutReads, holds-reads, reads-holds, CutFine, PartFine, part-fine, cuts-length, cuts-accepted, SameCuts, same-fields, reads_same}

-- a cut that is accepted has room in its fields
module _ (t : Task) (v : Accepted t) (c : ℕ → CutFields) (i : ℕ) (h : i < most_steps) (ok : CutFine t c i) where
  pub block-fits : (c i).block.value < 2 ^ 8
  unfolding cut_named
  block-fits =
      let f = fits t (blocks_of t (cuts_named c i)) (cut_named (c i)) ok.ok in
      omega (arith, f.made, blocks-length t (cuts_named c i), cuts-length c i)

  pub column_fits : (c i).column.value < 2 ^ 4
  unfolding cut_named
  column_fits = let f = fits t (blocks_of t (cuts_named c i)) (cut_named (c i)) ok.ok in omega (arith, f.there, v.columns.1)

-- ---- written and read back
module _ (t : Task) (v : Accepted t) (p : CutSource) (ok : judged (cut_entries t p) ≡ 0) (sets : (i : ℕ) → i < p.count.value → (p.cut i).wanted.value < 2 ^ 32) where
  abbrev n : ℕ
  n = p.count.value

  good : PartFine t p n
  unfolding cut_entries
  good = part-fine t p n ok

  abbrev E : List Entry
  E = cut_fields t p n

  whole : bits_in E ≡ 8 * cut_bytes n
  whole = part-bits t p n ∙ cut-whole n

  pub part-fits : Fit E
  unfolding cut_fields cut_header cut_part fill_part
  part-fits =
      fit_append (H t p n) (C t p n ++ F t p n) (omega (arith, good.form.1), (omega (arith, good.count.1), tt))
      (fit_append (C t p n) (F t p n)
      (fit-each (cut_part t p.cut) n (λ i h.
      let l : i < most_steps = omega (arith, good.count.1) in
      (block-fits t v p.cut i l (good.cut i h), (column_fits t v p.cut i l (good.cut i h), (sets i h, tt)))))
      (omega (arith, good.fill.1, pow_pos (fill_bits (cut_bits n))), tt))

  abbrev T : List ℕ
  T = sheet_of E

  pub written-length : length T ≡ cut_bytes n
  written-length = sheet-length E (cut_bytes n) part-fits whole

  written-reads : CutReads T p n
  written-reads = holds-reads t T p n (sheet-holds E (cut_bytes n) part-fits whole)

  -- the bytes of an accepted list of cuts have its fields
  pub written_same : SameCuts (of_cut_part T) p n
  unfolding of_cut_part
  written_same = subst (λ (x : ℕ). SameCuts (cut_part_with T x) p n) (sym written-reads.count) (reads_same t T p n good written-reads written-length)

  pub written-entries : cut_entries t (of_cut_part T) ≡ cut_entries t p
  unfolding cut_entries
  written-entries =
      ap (λ (x : ℕ). cut_fields t (of_cut_part T) x) (ap (λ (f : Field). f.value) written_same.count) ∙ same-fields t (of_cut_part T) p n written_same

  -- with no refusal
  pub written-accepted : judge_cuts t T ≡ 0
  unfolding judge_cuts cut_checks
  written-accepted =
      let e : cut_end T ≡ length T = ap cut_bytes written-reads.count ∙ sym written-length in
      let z : judged (cut_entries t (of_cut_part T)) ≡ 0 = ap judged written-entries ∙ ok in
      sym (last-went (cut_entries t (of_cut_part T)) _ (sym z) refl (passes 6 (ltb (cut_end T) (length T)) [] (le-ltb (cut_end T) (length T) (omega arith)) no-checks))

-- ---- read and written again
module _ (t : Task) (s : List ℕ) (ok : judge_cuts t s ≡ 0) where
  split-ok : (judged (cut_entries t (of_cut_part s)) ≡ 0) × (length s ≤ cut_end s)
  unfolding judge_cuts cut_checks
  split-ok =
      let r = last-both (cut_entries t (of_cut_part s)) _ ok in
      (r.0, ltb-false (cut_end s) (length s) (passed 6 (ltb (cut_end s) (length s)) [] (omega arith) r.1).0)

  pub own-judged : judged (cut_entries t (of_cut_part s)) ≡ 0
  own-judged = split-ok.0

  pub own-fine : PartFine t (of_cut_part s) (count_of s)
  unfolding cut_entries of_cut_part cut_part_with
  own-fine = part-fine t (of_cut_part s) (count_of s) own-judged

  -- the cuts of an accepted part are accepted
  pub own-accepted : accepted t (cuts_named (cut_on s) (count_of s)) ≡ true
  unfolding of_cut_part cut_part_with
  own-accepted = cuts-accepted t (cut_on s) (count_of s) (λ i l. (own-fine.cut i l).ok)

  -- an accepted part is as long as its count says
  pub exact-length : length s ≡ cut_end s
  unfolding of_cut_part cut_part_with
  exact-length =
      let b = cut_bits (count_of s) in
      omega (arith, split-ok.1, cut-whole (count_of s), leb-true (b + fill_bits b) (8 * length s) own-fine.fill.0)

  own-holds : Holds s 0 (cut_entries t (of_cut_part s))
  unfolding cut_entries of_cut_part cut_part_with cut_on
  own-holds =
      reads-holds t s (of_cut_part s) (count_of s)
      (record { form = refl; count = refl; block = λ i l. refl; column = λ i l. refl; wanted = λ i l. refl; fill = refl })

  own-whole : bits_in (cut_entries t (of_cut_part s)) ≡ 8 * cut_end s
  unfolding cut_entries of_cut_part cut_part_with
  own-whole = part-bits t (of_cut_part s) (count_of s) ∙ cut-whole (count_of s)

  -- accepted bytes come back the same
  pub read-write : Bytes s → sheet_of (cut_entries t (of_cut_part s)) ≡ s
  read-write bs = sheet-only (cut_entries t (of_cut_part s)) (cut_end s) (holds-fit s 0 (cut_entries t (of_cut_part s)) own-holds) own-whole s bs exact-length own-holds
