-- Laws for the code that answers a question.
use Prim.Native.Nat.{ℕ, ◌+◌, ◌*◌, ◌/◌, ◌≤◌, ◌<◌}
use native.Mathlib.Omega.{arith}
use mathlib.Core.Path.{◌≡◌, sym, ap, ap₂, ◌∙◌}
use mathlib.Core.Bool.{true, false}
use mathlib.Core.List.{List}
use lib.ListN.{length, get_or}
use Rattle.task.specs.Loops.{tab, over}
use Rattle.task.specs.Sizes.{limits, tenth}
use Rattle.task.specs.Task.{Task, Accepted, block, column_count}
use Rattle.task.proofs.LoopLaws.{over-at, tab-length}
use Rattle.fields.specs.Judging.{each}
use Rattle.fields.specs.Places.{puts}
use Rattle.fields.proofs.PlaceLaws.{puts-length}
use Rattle.blocks.specs.Blocks.{Sets, accepted, blocks_of}
use Rattle.blocks.specs.Flat.{blocks_in, cut_at, cuts_in}
use Rattle.blocks.proofs.CutLaws.{blocks-length}
use Rattle.cutting.specs.declared.Blocks.{Blocks}
use Rattle.blocks.proofs.PartLaws.{fits}
use Rattle.distances.specs.Distances.{distances}
use Rattle.settling.specs.Coded.{coded_at, coded_over, Measured}
use Rattle.settling.proofs.JoinLaws.{coded-says}
use Rattle.settling.proofs.CostLaws.{made}
use Rattle.cut_sheets.specs.CutPart.{cut_named, cuts_named, cut_on, count_of, judge_cuts, of_cut_part, cut_part_with}
use Rattle.cut_sheets.specs.CutSheet.{cut_values}
use Rattle.cut_sheets.specs.Judged.{Made}
use Rattle.cut_sheets.proofs.CutRoundLaws.{own-fine, own-accepted}
use Rattle.asking.specs.Question.{wide_state, cost_found, states_in, bad_states, estimates_of}
use Rattle.asking.proofs.AnswerLaws.{estimates-found}
use Rattle.asking.proofs.ListLaws.{column-listed, cuts-listed}

-- The cuts of an accepted part in a list, and the distances of their blocks.
module _ (t : Task) {columns : ℕ} (wide : column_count t ≡ columns) (v : Accepted t) (part : List ℕ) (blocks : Blocks) (ok : judge_cuts t part ≡ 0) (stand : Made t (cut_on part) columns (count_of part) blocks)
    {count : ℕ} (e : count ≡ count_of part) (few : count < limits.blocks) (old : List ℕ) (room : count * 3 ≤ length old)
    {cuts : List ℕ} (f : cuts ≡ puts 0 (each count (cut_values (cut_on part))) old) where
  pub list : cuts_in count cuts ≡ cuts_named (cut_on part) (count_of part)
  list = ap (cuts_in count) f ∙ cuts-listed (cut_on part) count old room ∙ ap (cuts_named (cut_on part)) e

  pub good-cuts : accepted t (cuts_in count cuts) ≡ true
  good-cuts = rw list (own-accepted t part ok)

  stands : blocks_in columns blocks.count blocks.sets ≡ blocks_of t (cuts_in count cuts)
  stands = rw list stand

  -- there is one block more than cuts
  many : blocks.count ≡ count + 1
  unfolding blocks_in cuts_in
  many = sym (tab-length blocks.count _) ∙ ap length stands ∙ blocks-length t (cuts_in count cuts) ∙ omega (arith, tab-length count (cut_at cuts))

  pub column-small : (i : ℕ) → i < count → get_or cuts (i * 3 + 1) 0 < columns
  unfolding of_cut_part cut_part_with cut_named
  column-small i h =
      let k = (fits t _ _ ((own-fine t part ok).cut i (omega (arith, e))).ok).there in
      omega (arith, k, wide, ap (λ (x : List ℕ). get_or x (i * 3 + 1) 0) f ∙ column-listed (cut_on part) count old room i h)

  module _ (dist₀ : List ℕ) {dist : List ℕ} (d : dist ≡ coded_over t (blocks_in columns blocks.count blocks.sets) blocks.count dist₀) where
    pub coded : dist ≡ coded_over t (blocks_of t (cuts_in count cuts)) (count + 1) dist₀
    coded = d ∙ ap₂ (λ (bs : List Sets) (n : ℕ). coded_over t bs n dist₀) stands many

    dist-small : (a : ℕ) → a ≤ count → get_or dist a 0 / tenth ≤ limits.no_way
    unfolding coded_over
    dist-small a h =
        let bs = blocks_of t (cuts_in count cuts) in
        let k = made t v cuts count good-cuts few in
        let s = (coded-says t bs v.tenths (omega (arith, k)) (block a) (omega (arith, k))).top in
        let g : get_or dist a 0 ≡ coded_at (distances t bs) a = ap (λ (z : List ℕ). get_or z a 0) coded ∙ over-at (count + 1) _ dist₀ 0 a (omega arith) in
        omega (arith, g, s)

    -- the cuts can be followed, and each of their blocks has a cost
    pub measured : Measured count cuts dist
    measured =
        let l : length cuts ≡ length old = ap length f ∙ puts-length 0 (each count (cut_values (cut_on part))) old in
        record {
          follows = record { few = few; long = omega arith; columns = λ i h. omega (arith, column-small i h, v.columns.1, wide) };
          costs = dist-small;
        }

    pub answered : (states old-estimates : List ℕ) → bad_states t states ≡ false → {est : List ℕ}
        → est ≡ over (tab (length states / columns) (λ k. cost_found dist cuts count (wide_state columns states k))) old-estimates
        → est ≡ over (estimates_of t (cuts_named (cut_on part) (count_of part)) states) old-estimates
    unfolding states_in
    answered states o good h =
        h
        ∙ ap (λ (n : ℕ). over (tab (length states / n) (λ k. cost_found dist cuts count (wide_state n states k))) o) (sym wide)
        ∙ ap (λ (x : List ℕ). over x o) (estimates-found t v cuts count good-cuts few dist₀ dist coded states good ∙ ap (λ l. estimates_of t l states) list)
