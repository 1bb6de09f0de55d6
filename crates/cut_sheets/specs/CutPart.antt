-- 01, "Sheets" and "Refusal numbers", of the cut part: its fields in sheet order, how each is judged, and where each stands.
use Rattle.std.specs.Prelude.{ℕ, ◌+◌, ◌*◌, not, ◌&&◌, cond, ltb, List, [], ◌∷◌, ◌++◌}
use Rattle.task.specs.Sizes.{limits, most_steps}
use Rattle.task.specs.Loops.{tab}
use Rattle.task.specs.Task.{Task}
use Rattle.fields.specs.Bits.{field_at}
use Rattle.fields.specs.Judging.{Field, Entry, Check, on_sheet, entry, free, outside, follows, checks_of, refusal, judged, each}
use Rattle.fields.specs.Packing.{bytes_for}
use Rattle.fields.specs.Refusals.{Answered, Done, Refused}
use Rattle.blocks.specs.declared.Cut.{Cut}
use Rattle.blocks.specs.Blocks.{cut_ok, blocks_of}
use Rattle.blocks.specs.Flat.{cut}
use Rattle.sheets.specs.ModelSheet.{fill_bits, fill_part}

-- the fields of a cut
pub record CutFields : Type 0 where
  pub block : Field
  pub column : Field
  pub wanted : Field

-- where the fields of a cut part come from: a sheet's bits, or what a writer is given and lent
pub record CutSource : Type 0 where
  pub form : Field
  pub count : Field
  pub cut : ℕ → CutFields
  pub fill : Field

-- the cut that three fields name, and the first i cuts
unfoldable pub cut_named : CutFields → Cut
cut_named f = cut f.block.value f.column.value f.wanted.value

-- a cut, read from its fields: 1 where one of them is not there, 9 where a number has no room in its field and so names nothing
unfoldable pub cut_read : CutFields → Answered Cut
cut_read f =
    cond (f.block.here && f.column.here && f.wanted.here)
    (cond (ltb f.block.value limits.blocks && ltb f.column.value limits.columns) (Done (cut_named f)) (Refused 9))
    (Refused 1)

unfoldable pub cuts_named : (ℕ → CutFields) → ℕ → List Cut
cuts_named c i = tab i (λ k. cut_named (c k))

-- ---- the fields in sheet order, each with its bits and what is refused of its value

-- form 4 bits, value 2; cuts 8, at most most_steps, which only a writer can be given more of
unfoldable pub cut_header : Field → Field → List Entry
cut_header form count = entry 4 form 2 (outside 2 2 form.value) ∷ entry 8 count 9 (outside 0 most_steps count.value) ∷ []

-- cut i: block 8 bits, column 4, wanted set 32; judged when its three fields are there, by the blocks that the cuts before it made
unfoldable pub cut_part : Task → (ℕ → CutFields) → ℕ → List Entry
cut_part t c i =
    free 8 (c i).block
    ∷ free 4 (c i).column
    ∷ entry 32 (c i).wanted 9 (not (cut_ok t (blocks_of t (cuts_named c i)) (cut_named (c i))))
    ∷ []

-- how many bits the header and n cuts take: cut n would begin there
unfoldable pub cut_bits : ℕ → ℕ
cut_bits n = 12 + n * 44

-- no part takes more
abbrev pub most_cut_bits : ℕ
most_cut_bits = 12 + most_steps * 44

unfoldable pub cut_fields : Task → CutSource → ℕ → List Entry
cut_fields t p n = cut_header p.form p.count ++ (each n (cut_part t p.cut) ++ fill_part (cut_bits n) p.fill)

-- the whole cut part
unfoldable pub cut_entries : Task → CutSource → List Entry
cut_entries t p = cut_fields t p p.count.value

-- ---- where the fields stand in a cut part
abbrev pub count_of : List ℕ → ℕ
count_of s = field_at s 4 8

unfoldable pub cut_on : List ℕ → ℕ → CutFields
cut_on s i = record { block = on_sheet s (cut_bits i) 8; column = on_sheet s (cut_bits i + 8) 4; wanted = on_sheet s (cut_bits i + 8 + 4) 32 }

-- the fields of the bytes s, read as a part of n cuts
unfoldable pub cut_part_with : List ℕ → ℕ → CutSource
cut_part_with s n = record { form = on_sheet s 0 4; count = on_sheet s 4 8; cut = cut_on s; fill = on_sheet s (cut_bits n) (fill_bits (cut_bits n)) }

unfoldable pub of_cut_part : List ℕ → CutSource
of_cut_part s = cut_part_with s (count_of s)

-- the bytes of a part of n cuts
abbrev pub cut_bytes : ℕ → ℕ
cut_bytes n = bytes_for (cut_bits n)

-- where the part at the front of s ends
abbrev pub cut_end : List ℕ → ℕ
cut_end s = cut_bytes (count_of s)

-- ---- the refusal of a cut part; 0 for none

-- of the part at the front of s, whatever follows
unfoldable pub judge_cut_part : Task → List ℕ → ℕ
judge_cut_part t s = judged (cut_entries t (of_cut_part s))

-- of s as a whole: bytes that follow come last
unfoldable pub cut_checks : Task → List ℕ → List Check
cut_checks t s = checks_of (cut_entries t (of_cut_part s)) ++ (follows (cut_end s) s ∷ [])

unfoldable pub judge_cuts : Task → List ℕ → ℕ
judge_cuts t s = refusal (cut_checks t s)
