-- What judging the cuts of a part leaves: its answer, and the blocks that the cuts made.
use Rattle.std.specs.Prelude.{ℕ, ◌≡◌, List}
use Rattle.task.specs.Task.{Task}
use Rattle.fields.specs.Judging.{judged, each}
use Rattle.blocks.specs.Blocks.{blocks_of}
use Rattle.blocks.specs.Flat.{blocks_in}
use Rattle.cutting.specs.declared.Blocks.{Blocks}
use Rattle.cut_sheets.specs.CutPart.{CutFields, cuts_named, cut_part, cut_on, count_of}

-- the blocks are those of the first i cuts
abbrev pub Made : Task → (ℕ → CutFields) → ℕ → ℕ → Blocks → Type 0
Made t c columns i blocks = blocks_in columns blocks.count blocks.sets ≡ blocks_of t (cuts_named c i)

-- all cuts were judged, and made where none was refused
pub record CutsJudged (t : Task) (c : ℕ → CutFields) (columns count r : ℕ) (blocks : Blocks) : Type 0 where
  pub refusal : r ≡ judged (each count (cut_part t c))
  pub made : r ≡ 0 → Made t c columns count blocks

-- a whole part was judged: the part at the front of s (`judge_cut_part`), or all of s (`judge_cuts`)
pub record PartJudged (judge : Task → List ℕ → ℕ) (t : Task) (s : List ℕ) (columns r : ℕ) (blocks : Blocks) : Type 0 where
  pub refusal : r ≡ judge t s
  pub made : r ≡ 0 → Made t (cut_on s) columns (count_of s) blocks
