-- The cut part, there and back: what an accepted part says of each field, what its bytes are read as, and that it is written as it was read.
use Prim.Native.Nat.{ℕ, zero, suc, ◌+◌, ◌*◌, ◌≤◌, ◌<◌}
use native.Mathlib.Omega.{arith}
use mathlib.Core.Path.{◌≡◌, refl, sym, ap, ap₂, subst}
use mathlib.Core.Bool.{true, not}
use mathlib.Core.List.{List, [], ◌∷◌, ◌++◌}
use lib.ListN.{length}
use borrow.Author.Tests.{not-false}
use Rattle.task.specs.Sizes.{most_steps}
use Rattle.task.specs.Task.{Task}
use Rattle.task.specs.Loops.{tab}
use Rattle.task.proofs.LoopLaws.{tab-length, tab-ext}
use Rattle.fields.specs.Bits.{field_at}
use Rattle.fields.specs.Judging.{Entry, on_sheet, entry, free, outside, judged, each}
use Rattle.fields.specs.Packing.{bits_in, bytes_for}
use Rattle.fields.proofs.JudgingLaws.{both, first_fine, judged-at, inside-means, sheet-here, each-ext}
use Rattle.fields.proofs.PlaceLaws.{same-field}
use Rattle.fields.proofs.PackingLaws.{Holds, bits-append, bits_each, holds-append, holds-split, holds-each, holds_at}
use Rattle.blocks.specs.declared.Cut.{Cut}
use Rattle.blocks.specs.Blocks.{cut_ok, cuts_ok, accepted, blocks_of}
use Rattle.blocks.proofs.CutLaws.{accepted-more}
use Rattle.sheets.specs.ModelSheet.{fill_bits, fill_part}
use Rattle.sheets.proofs.RoundLaws.{fill-fine}
use Rattle.cut_sheets.specs.CutPart.{CutFields, CutSource, cut_named, cuts_named, cut_header, cut_part, cut_bits, cut_fields, cut_on, cut_part_with, cut_bytes}

-- ---- bits
pub cut-bits : (t : Task) (c : ℕ → CutFields) (i : ℕ) → bits_in (cut_part t c i) ≡ 44
unfolding cut_part bits_in
cut-bits t c i = refl

pub cut-whole : (n : ℕ) → cut_bits n + fill_bits (cut_bits n) ≡ 8 * cut_bytes n
unfolding bytes_for
cut-whole n = omega arith

-- the cut part has at most 1,404 bytes
pub largest-part : (n : ℕ) → n ≤ most_steps → cut_bytes n ≤ 1404
unfolding cut_bits bytes_for
largest-part n h = omega arith

module _ (t : Task) (p : CutSource) (n : ℕ) where
  abbrev pub H : List Entry
  H = cut_header p.form p.count

  abbrev pub C : List Entry
  C = each n (cut_part t p.cut)

  abbrev pub F : List Entry
  F = fill_part (cut_bits n) p.fill

  header-bits : bits_in H ≡ 12
  unfolding cut_header bits_in
  header-bits = refl

  cuts-bits : bits_in C ≡ n * 44
  cuts-bits = bits_each (cut_part t p.cut) 44 (cut-bits t p.cut) n

  fill-bits : bits_in F ≡ fill_bits (cut_bits n)
  unfolding fill_part bits_in
  fill-bits = omega arith

  pub part-bits : bits_in (cut_fields t p n) ≡ cut_bits n + fill_bits (cut_bits n)
  unfolding cut_fields cut_bits
  part-bits = omega (arith, bits-append H (C ++ F), bits-append C F, header-bits, cuts-bits, fill-bits)

-- ---- the bytes s have the values of p at the positions of n cuts
pub record CutReads (s : List ℕ) (p : CutSource) (n : ℕ) : Type 0 where
  pub form : field_at s 0 4 ≡ p.form.value
  pub count : field_at s 4 8 ≡ p.count.value
  pub block : (i : ℕ) → i < n → field_at s (cut_bits i) 8 ≡ (p.cut i).block.value
  pub column : (i : ℕ) → i < n → field_at s (cut_bits i + 8) 4 ≡ (p.cut i).column.value
  pub wanted : (i : ℕ) → i < n → field_at s (cut_bits i + 8 + 4) 32 ≡ (p.cut i).wanted.value
  pub fill : field_at s (cut_bits n) (fill_bits (cut_bits n)) ≡ p.fill.value

module _ (t : Task) (s : List ℕ) (p : CutSource) (n : ℕ) where
  pub at-cuts : 0 + bits_in (H t p n) ≡ 12
  at-cuts = omega (arith, header-bits t p n)

  pub at_fill : 12 + bits_in (C t p n) ≡ cut_bits n
  unfolding cut_bits
  at_fill = omega (arith, cuts-bits t p n)

  pub holds-reads : Holds s 0 (cut_fields t p n) → CutReads s p n
  unfolding cut_fields cut_header cut_part cut_bits fill_part
  holds-reads h =
      let a = holds-split s 0 (H t p n) (C t p n ++ F t p n) h in
      let b = holds-split s 12 (C t p n) (F t p n) (subst (λ (x : ℕ). Holds s x (C t p n ++ F t p n)) at-cuts a.1) in
      let f = subst (λ (x : ℕ). Holds s x (F t p n)) at_fill b.1 in
      let c = holds_at (cut_part t p.cut) 44 (cut-bits t p.cut) s 12 n b.0 in
      record {
        form = a.0.0;
        count = a.0.1.0;
        block = λ i l. (c i l).0;
        column = λ i l. (c i l).1.0;
        wanted = λ i l. (c i l).1.1.0;
        fill = f.0;
      }

  pub reads-holds : CutReads s p n → Holds s 0 (cut_fields t p n)
  unfolding cut_fields cut_header cut_part cut_bits fill_part
  reads-holds r =
      holds-append s 0 (H t p n) (C t p n ++ F t p n) (r.form, (r.count, tt))
      (subst (λ (x : ℕ). Holds s x (C t p n ++ F t p n)) (sym at-cuts)
      (holds-append s 12 (C t p n) (F t p n)
      (holds-each (cut_part t p.cut) 44 (cut-bits t p.cut) s 12 n (λ i l. (r.block i l, (r.column i l, (r.wanted i l, tt)))))
      (subst (λ (x : ℕ). Holds s x (F t p n)) (sym at_fill) (r.fill, tt))))

-- ---- what no refusal says of each field
pub record CutFine (t : Task) (c : ℕ → CutFields) (i : ℕ) : Type 0 where
  pub block : (c i).block.here ≡ true
  pub column : (c i).column.here ≡ true
  pub wanted : (c i).wanted.here ≡ true
  pub ok : cut_ok t (blocks_of t (cuts_named c i)) (cut_named (c i)) ≡ true

pub cut-fine : (t : Task) (c : ℕ → CutFields) (i : ℕ) → judged (cut_part t c i) ≡ 0 → CutFine t c i
unfolding cut_part
cut-fine t c i h =
    let a = first_fine (free 8 (c i).block) _ (omega arith) h in
    let b = first_fine (free 4 (c i).column) _ (omega arith) a.1 in
    let d = first_fine (entry 32 (c i).wanted 9 (not (cut_ok t (blocks_of t (cuts_named c i)) (cut_named (c i))))) [] (omega arith) b.1 in
    record { block = a.0.0; column = b.0.0; wanted = d.0.0; ok = not-false _ d.0.1 }

pub record PartFine (t : Task) (p : CutSource) (n : ℕ) : Type 0 where
  pub form : (p.form.here ≡ true) × (p.form.value ≡ 2)
  pub count : (p.count.here ≡ true) × (p.count.value ≤ most_steps)
  pub cut : (i : ℕ) → i < n → CutFine t p.cut i
  pub fill : (p.fill.here ≡ true) × (p.fill.value ≡ 0)

pub part-fine : (t : Task) (p : CutSource) (n : ℕ) → judged (cut_fields t p n) ≡ 0 → PartFine t p n
unfolding cut_fields cut_header
part-fine t p n h =
    let a = both (H t p n) (C t p n ++ F t p n) h in
    let b = both (C t p n) (F t p n) a.1 in
    let f = first_fine (entry 4 p.form 2 (outside 2 2 p.form.value)) _ (omega arith) a.0 in
    let c = first_fine (entry 8 p.count 9 (outside 0 most_steps p.count.value)) [] (omega arith) f.1 in
    let q = inside-means 2 2 p.form.value f.0.1 in
    record {
      form = (f.0.0, omega arith);
      count = (c.0.0, (inside-means 0 most_steps p.count.value c.0.1).1);
      cut = λ i l. cut-fine t p.cut i (judged-at n (cut_part t p.cut) b.0 i l);
      fill = fill-fine (cut_bits n) p.fill b.1;
    }

-- ---- the cuts of an accepted part are accepted
pub cuts-more : (c : ℕ → CutFields) (i : ℕ) → cuts_named c (suc i) ≡ cuts_named c i ++ (cut_named (c i) ∷ [])
unfolding cuts_named tab
cuts-more c i = refl

pub cuts-length : (c : ℕ → CutFields) (i : ℕ) → length (cuts_named c i) ≡ i
unfolding cuts_named
cuts-length c i = tab-length i (λ k. cut_named (c k))

pub cuts-accepted : (t : Task) (c : ℕ → CutFields) (n : ℕ) → ((i : ℕ) → i < n → cut_ok t (blocks_of t (cuts_named c i)) (cut_named (c i)) ≡ true) → accepted t (cuts_named c n) ≡ true
cuts-accepted t c zero h = unfold cuts_named accepted cuts_ok tab in refl
cuts-accepted t c (suc n) h = rw (cuts-more c n) (accepted-more t (cuts_named c n) (cut_named (c n)) (cuts-accepted t c n (λ i l. h i (omega arith))) (h n (omega arith)))

-- ---- the same fields
pub record SameCuts (p q : CutSource) (n : ℕ) : Type 0 where
  pub form : p.form ≡ q.form
  pub count : p.count ≡ q.count
  pub cut : (i : ℕ) → i < n → p.cut i ≡ q.cut i
  pub fill : p.fill ≡ q.fill

module _ (t : Task) (p q : CutSource) (n : ℕ) (e : SameCuts p q n) where
  pub same-cuts : (i : ℕ) → i ≤ n → cuts_named p.cut i ≡ cuts_named q.cut i
  unfolding cuts_named
  same-cuts i h = tab-ext i (λ k. cut_named (p.cut k)) (λ k. cut_named (q.cut k)) (λ k l. ap cut_named (e.cut k (omega arith)))

  same-cut : (i : ℕ) → i < n → cut_part t p.cut i ≡ cut_part t q.cut i
  unfolding cut_part
  same-cut i h =
      ap₂ (λ (f : CutFields) (cs : List Cut). free 8 f.block ∷ free 4 f.column ∷ entry 32 f.wanted 9 (not (cut_ok t (blocks_of t cs) (cut_named f))) ∷ []) (e.cut i h) (same-cuts i (omega arith))

  pub same-fields : cut_fields t p n ≡ cut_fields t q n
  unfolding cut_fields
  same-fields =
      λ k. cut_header (e.form k) (e.count k) ++ (each-ext n (cut_part t p.cut) (cut_part t q.cut) same-cut k ++ fill_part (cut_bits n) (e.fill k))

-- bytes that have the values of accepted fields, and are as long as their part, have the same fields
module _ (t : Task) (s : List ℕ) (p : CutSource) (n : ℕ) (ok : PartFine t p n) (r : CutReads s p n) (long : length s ≡ cut_bytes n) where
  here : (at w : ℕ) → at + w ≤ cut_bits n → (on_sheet s at w).here ≡ true
  here at w h = sheet-here s at w (omega (arith, cut-whole n))

  below : (i : ℕ) → i < n → cut_bits i + 44 ≤ cut_bits n
  unfolding cut_bits
  below i h = omega arith

  twelve : 12 ≤ cut_bits n
  unfolding cut_bits
  twelve = omega arith

  pub reads_same : SameCuts (cut_part_with s n) p n
  unfolding cut_part_with cut_on
  reads_same =
      record {
        form = same-field _ _ (here 0 4 (omega (arith, twelve))) ok.form.0 r.form;
        count = same-field _ _ (here 4 8 (omega (arith, twelve))) ok.count.0 r.count;
        cut = λ i h k. record {
          block = same-field (on_sheet s (cut_bits i) 8) (p.cut i).block (here (cut_bits i) 8 (omega (arith, below i h))) (ok.cut i h).block (r.block i h) k;
          column = same-field (on_sheet s (cut_bits i + 8) 4) (p.cut i).column (here (cut_bits i + 8) 4 (omega (arith, below i h))) (ok.cut i h).column (r.column i h) k;
          wanted = same-field (on_sheet s (cut_bits i + 8 + 4) 32) (p.cut i).wanted (here (cut_bits i + 8 + 4) 32 (omega (arith, below i h))) (ok.cut i h).wanted (r.wanted i h) k;
        };
        fill = same-field _ _ (sheet-here s (cut_bits n) (fill_bits (cut_bits n)) (omega (arith, cut-whole n))) ok.fill.0 r.fill;
      }
