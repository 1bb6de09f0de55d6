-- Laws for one look: what code finds from the distances and the walk is the definition's look at the blocks.
use Prim.Native.Nat.{ℕ, ◌/◌, ◌%◌, ◌≤◌, ◌<◌}
use native.Mathlib.Omega.{arith}
use mathlib.Core.Path.{◌≡◌, refl, sym, ap, ◌∙◌}
use mathlib.Core.List.{List}
use mathlib.Core.Option.{some}
use lib.ListN.{length, get_or}
use Rattle.task.specs.declared.Block.{Block}
use Rattle.task.specs.declared.Step.{Step}
use Rattle.masks.specs.declared.Tables.{Tables}
use Rattle.cutting.specs.declared.Blocks.{Blocks as CodeBlocks}
use Rattle.std.specs.Prelude.{Ok, Err}
use Rattle.task.specs.Sizes.{limits, tenth}
use Rattle.task.specs.Task.{Task, start}
use Rattle.task.proofs.LoopLaws.{over-at}
use Rattle.blocks.specs.declared.Cut.{Cut}
use Rattle.blocks.specs.Blocks.{Blocks, blocks_of}
use Rattle.blocks.specs.Flat.{blocks_in}
use Rattle.masks.specs.Tables.{Tabled}
use Rattle.blocks.proofs.CutLaws.{BlockIs}
use Rattle.blocks.proofs.FlatLaws.{blocks-length}
use Rattle.distances.specs.Distances.{Distance, far_of, distances}
use Rattle.settling.specs.Ways.{no_way}
use Rattle.settling.specs.Coded.{decoded, coded_at, coded_over}
use Rattle.settling.proofs.JoinLaws.{far-small, coded-says, decoded-low, decoded-high}
use Rattle.run.specs.Run.{Look, hopeless, look_from, look}
use Rattle.trace.specs.Hops.{Holds}
use Rattle.walk.specs.Walking.{Found, Begins, seen, Known, walked}
use Rattle.refining.specs.Refining.{Parted, look_of, seen_by, KnownSeen}
use Rattle.refining.proofs.FromLaws.{start-there}

-- ---- what was seen of a walk
pub seen-look : (far : ℕ) (f : Found) (path : List Step) → look_of (seen_by far f) path ≡ seen (far / tenth) f path
unfolding seen_by look_of seen
seen-look far (Ok n) path = refl
seen-look far (Err c) path = refl

pub seen-known : (far steps : ℕ) (f : Found) (path : List Step) → Known steps f path → KnownSeen steps (seen_by far f) path
unfolding seen_by Known KnownSeen
seen-known far steps (Ok n) path h = h n refl
seen-known far steps (Err c) path h = tt

-- ---- a look
module _ (t : Task) (cs : List Cut) {ts : Tables} (g : Tabled t ts) {a : Block} {held : CodeBlocks} (m : Parted t cs ts.shape.columns a held) where
  abbrev bs : Blocks
  bs = blocks_of t cs

  long : length bs ≡ held.count
  long = ap length (sym m.blocks) ∙ blocks-length ts.shape.columns held.count held.sets

  there : BlockIs t bs (start t) a
  there = start-there t g.task cs a m.from m.ok

  pub from-made : a.0 < held.count
  from-made = omega (arith, there.made, long)

  looks : look t bs ≡ look_from t bs (distances t bs) a (far_of (distances t bs) a)
  unfolding look
  looks = rw m.from refl

  -- ---- its distance
  module _ (old : List ℕ) {dist : List ℕ} (d : dist ≡ coded_over t (blocks_in ts.shape.columns held.count held.sets) held.count old) where
    coded : dist ≡ coded_over t bs held.count old
    coded = rw m.blocks at d

    holds : Holds (distances t bs) held.count dist
    unfolding Holds coded_over
    holds b h = ap (λ (l : List ℕ). get_or l b 0) coded ∙ over-at held.count (coded_at (distances t bs)) old 0 b h

    abbrev n : ℕ
    n = get_or dist a.0 0

    said : decoded n ≡ far_of (distances t bs) a
    unfolding Holds
    said = ap decoded (holds a.0 from-made) ∙ (coded-says t bs g.task.tenths (omega (arith, long, held.counted)) a there.made).is

    -- no way
    pub no-way : no_way ≤ n → hopeless ≡ look t bs
    unfolding look_from
    no-way h = sym (looks ∙ ap (look_from t bs (distances t bs) a) (sym said ∙ decoded-high n h))

    module _ (h : n < no_way) where
      abbrev pub far : Distance
      far = record { cost = n / tenth; steps = n % tenth }

      far-is : far_of (distances t bs) a ≡ some far
      far-is = sym said ∙ decoded-low n h

      pub steps-small : n % tenth < limits.blocks
      steps-small = let s = (far-small t bs g.task.tenths (omega (arith, long, held.counted)) a far there.made far-is).0 in omega arith

      pub begins : Begins t cs far ts held a dist
      begins =
          record {
            tabled = g;
            cuts = m.ok;
            blocks = m.blocks;
            dists = rw m.blocks holds;
            inside = rw m.blocks there.inside;
            far = rw m.blocks far-is;
          }

      -- the walk from it
      pub walks : {l : Look} → l ≡ walked t ts.shape.columns held.count held.sets (start t) a far → l ≡ look t bs
      unfolding walked look_from
      walks e = e ∙ rw m.blocks (sym (looks ∙ ap (look_from t bs (distances t bs) a) far-is))
