-- Laws for the loop of a run: each cut that it makes is the one of the definition, and where it ends the run ends.
use Prim.Native.Nat.{ℕ, zero, suc, ◌+◌, ◌-◌, ◌*◌, ◌≤◌, ◌<◌}
use native.Mathlib.Omega.{arith}
use native.Mathlib.Numerals.{add-one}
use mathlib.Core.Path.{◌≡◌, refl, sym, ap, ◌∙◌}
use mathlib.Core.Bool.{true}
use mathlib.Core.List.{List, [], ◌∷◌, ◌++◌}
use mathlib.Core.Option.{none}
use lib.ListN.{length}
use Rattle.task.specs.Loops.{over}
use Rattle.task.specs.declared.Block.{Block}
use Rattle.task.specs.declared.Step.{Step}
use Rattle.masks.specs.declared.Tables.{Tables}
use Rattle.masks.specs.Tables.{Tabled}
use Rattle.cutting.specs.declared.Blocks.{Blocks}
use Rattle.task.specs.Sizes.{limits}
use Rattle.task.specs.Task.{Task, Accepted, Tenths, block, column_count}
use Rattle.fields.specs.Places.{puts}
use Rattle.fields.proofs.PlaceLaws.{puts-length, puts-over}
use Rattle.blocks.specs.declared.Cut.{Cut}
use Rattle.blocks.specs.Blocks.{accepted, blocks_of, cut_block}
use Rattle.blocks.specs.Flat.{blocks_in, cuts_in, cut_place, Cuttable}
use Rattle.blocks.proofs.PartLaws.{fits}
use Rattle.blocks.proofs.CutLaws.{blocks-length, blocks_more}
use Rattle.blocks.proofs.FlatLaws.{blocks-length as held-length}
use Rattle.blocks.proofs.FollowLaws.{cuts-none, cuts-length, accepted-less}
use Rattle.run.specs.Run as run
use Rattle.run.specs.Run.{flaw, look, cut_of, end_of, Outcome, refine}
use Rattle.run.proofs.RunRightLaws.{flaw-accepted}
use Rattle.refining.specs.declared.Seen.TheVariants.{Hopeless, Planned, Flaw}
use Rattle.refining.specs.declared.Seen as code
use Rattle.refining.specs.declared.Ended.{Ended}
use Rattle.run.specs.Listing.{listed}
use Rattle.refining.specs.Refining.{Parted, Uncut, start_block, look_of, answer_of, blocks_told, end_by, KnownSeen, KnownEnd, RunEnds}
use Rattle.refining.proofs.FromLaws.{start-goes}
use Rattle.refining.proofs.CutListLaws.{cut-put, list-more, listed-length}

-- ---- the definition's loop
module _ (t : Task) where
  refine-flaw : (left : ℕ) (cs : List Cut) {e : Tenths} {c : Cut} → look t (blocks_of t cs) ≡ flaw e c → refine t (suc left) cs ≡ refine t left (cs ++ (c ∷ []))
  unfolding refine cut_of
  refine-flaw left cs q = rw (q, refine) refl

  ended : (cs : List Cut) → Outcome
  ended cs = record { answer = end_of (look t (blocks_of t cs)); made = cs }

  refine-full : (cs : List Cut) → refine t 0 cs ≡ ended cs
  unfolding refine ended
  refine-full cs = refl

  refine-ended : (left : ℕ) (cs : List Cut) → cut_of (look t (blocks_of t cs)) ≡ none → refine t left cs ≡ ended cs
  unfolding refine ended
  refine-ended zero cs q = refl
  refine-ended (suc left) cs q = rw (q, refine) refl

-- ---- code's loop
module _ (t : Task) (columns spare : ℕ) (cuts₀ : List ℕ) where
  -- so many cuts of the run were made
  pub record Grown (cuts : List ℕ) (bs : Blocks) (a : Block) (made : ℕ) : Type 0 where
    pub same : length cuts ≡ length cuts₀
    pub count : bs.count ≡ made + 1
    pub stand : Parted t (cuts_in made cuts) columns a bs
    pub left : refine t spare [] ≡ refine t (spare - made) (cuts_in made cuts)
    pub list : cuts ≡ puts 0 (listed cut_place (cuts_in made cuts)) cuts₀

module _ (t : Task) (ts : Tables) (own : Tabled t ts) (spare : ℕ) (few : spare < limits.blocks) (cuts₀ : List ℕ) (room : spare * 3 ≤ length cuts₀) where
  abbrev columns : ℕ
  columns = ts.shape.columns

  abbrev v : Accepted t
  v = own.task

  wide : column_count t ≡ ts.shape.columns
  wide = own.own.wide

  abbrev G : List ℕ → Blocks → Block → ℕ → Type 0
  G = Grown t ts.shape.columns spare cuts₀

  pub grown-none : (bs : Blocks) → Uncut t ts.shape.columns bs → G cuts₀ bs (block 0) 0
  unfolding listed puts
  grown-none bs m =
      let z : spare ≡ spare - 0 = omega arith in
      let alone : length (blocks_of t []) ≡ 1 = blocks-length t [] in
      record {
        same = refl;
        count = sym (held-length ts.shape.columns bs.count bs.sets) ∙ ap length m.blocks ∙ alone;
        stand = rw (cuts-none cuts₀) m;
        left = rw (cuts-none cuts₀) (ap (λ (k : ℕ). refine t k []) z);
        list = rw (cuts-none cuts₀) refl;
      }

  module _ {cuts : List ℕ} {bs : Blocks} {a : Block} {made : ℕ} (g : G cuts bs a made) {e : Tenths} {c : Cut} (q : look t (blocks_of t (cuts_in made cuts)) ≡ flaw e c) where
    cs : List Cut
    cs = cuts_in made cuts

    ok : accepted t (cuts_in made cuts ++ (c ∷ [])) ≡ true
    ok = flaw-accepted t v (cuts_in made cuts) g.stand.ok q

    -- the cut can be made
    pub cuttable : made < spare → Cuttable columns bs.count c
    cuttable h =
        let f = fits t (blocks_of t (cuts_in made cuts)) c (accepted-less t v (cuts_in made cuts) c ok).1 in
        let n = g.count in
        record {
          wide = omega (arith, v.columns.1, wide);
          room = omega arith;
          made = omega (arith, f.made, blocks-length t (cuts_in made cuts), cuts-length made cuts);
          there = omega (arith, f.there, wide);
        }

    pub grown-more : made < spare → {cuts' : List ℕ} {bs' : Blocks} {a' : Block} → cuts' ≡ puts (made * 3) (cut_place c) cuts → bs'.count ≡ bs.count + 1
        → blocks_in columns bs'.count bs'.sets ≡ cut_block (blocks_in columns bs.count bs.sets) c → a' ≡ start_block a c bs.count ts.rows → G cuts' bs' a' (made + 1)
    grown-more h {cuts'} {bs'} ec en es ea =
        let put : cuts_in (made + 1) cuts' ≡ cuts_in made cuts ++ (c ∷ []) = ap (cuts_in (made + 1)) ec ∙ cut-put made c cuts (omega (arith, g.same)) in
        let n : spare - made ≡ suc (spare - (made + 1)) = omega arith in
        let l : length (blocks_of t (cuts_in made cuts)) ≡ bs.count = blocks-length t (cuts_in made cuts) ∙ rw (cuts-length made cuts, g.count, add-one) refl in
        record {
          same = ap length ec ∙ puts-length (made * 3) (cut_place c) cuts ∙ g.same;
          count = en ∙ ap (λ (k : ℕ). k + 1) g.count;
          stand = record {
            ok = rw put ok;
            blocks = rw put (es ∙ ap (λ (x : List (List ℕ)). cut_block x c) g.stand.blocks ∙ sym (blocks_more t (cuts_in made cuts) c));
            from = rw (put, ea) (start-goes t v (cuts_in made cuts) a g.stand.from ts.rows own.start c ok bs.count l);
          };
          left = g.left ∙ ap (λ (k : ℕ). refine t k (cuts_in made cuts)) n ∙ refine-flaw t (spare - (made + 1)) (cuts_in made cuts) q ∙ ap (refine t (spare - (made + 1))) (sym put);
          list = ec ∙ list-more made c cuts cuts₀ g.list ∙ ap (λ (x : List Cut). puts 0 (listed cut_place x) cuts₀) (sym put);
        }

  -- ---- the end
  module _ {cuts : List ℕ} {bs : Blocks} {a : Block} {made : ℕ} (g : G cuts bs a made) (within : made ≤ spare) (steps : ℕ) (l : code.Seen) (path : List Step)
      (q : look_of l path ≡ look t (blocks_of t (cuts_in made cuts))) (k : KnownSeen steps l path) where
    said : (l : code.Seen) → answer_of (end_by l bs.count) path ≡ end_of (look_of l path)
    unfolding answer_of end_by end_of look_of
    said Hopeless = refl
    said (Planned n) = refl
    said (Flaw e c) = refl

    count : (l : code.Seen) → blocks_told (end_by l bs.count) ≡ bs.count
    unfolding blocks_told end_by
    count Hopeless = refl
    count (Planned n) = refl
    count (Flaw e c) = refl

    known : (l : code.Seen) → KnownSeen steps l path → KnownEnd steps (end_by l bs.count) path
    unfolding KnownSeen KnownEnd end_by
    known Hopeless h = h
    known (Planned n) h = h
    known (Flaw e c) h = h

    ends : refine t (spare - made) (cuts_in made cuts) ≡ ended t (cuts_in made cuts) → RunEnds (refine t spare []) (end_by l bs.count) steps cuts₀ cuts path
    unfolding ended over run.block_count
    ends f =
        let o = g.left ∙ f in
        let m : length (listed cut_place (cuts_in made cuts)) ≡ made * 3 = listed-length (cuts_in made cuts) ∙ ap (λ (n : ℕ). n * 3) (cuts-length made cuts) in
        record {
          answer = said l ∙ ap end_of q ∙ ap (λ (x : Outcome). x.answer) (sym o);
          blocks = count l ∙ rw (o, cuts-length made cuts) g.count;
          list = rw o (g.list ∙ puts-over (listed cut_place (cuts_in made cuts)) cuts₀ (omega (arith, m)));
          known = known l k;
        }

    -- the room is full
    pub ends-full : spare ≡ made → RunEnds (refine t spare []) (end_by l bs.count) steps cuts₀ cuts path
    ends-full h =
        let z : spare - made ≡ 0 = omega arith in
        ends (ap (λ (n : ℕ). refine t n (cuts_in made cuts)) z ∙ refine-full t (cuts_in made cuts))

    -- a look without a flaw
    pub ends-early : cut_of (look_of l path) ≡ none → RunEnds (refine t spare []) (end_by l bs.count) steps cuts₀ cuts path
    ends-early n = ends (refine-ended t (spare - made) (cuts_in made cuts) (ap cut_of (sym q) ∙ n))

-- ---- the loop, for every task whose tables these are
module _ (ts : Tables) (spare : ℕ) (cuts₀ : List ℕ) (bs₀ : Blocks) where
  pub record Growing (cuts : List ℕ) (bs : Blocks) (a : Block) (made : ℕ) : Type 0 where
    pub grown : (t : Task) → Tabled t ts → Uncut t ts.shape.columns bs₀ → Grown t ts.shape.columns spare cuts₀ cuts bs a made

module _ {ts : Tables} {spare : ℕ} {cuts₀ : List ℕ} {bs₀ : Blocks} (few : spare < limits.blocks) (room : spare * 3 ≤ length cuts₀) where
  pub growing-none : Growing ts spare cuts₀ bs₀ cuts₀ bs₀ (block 0) 0
  growing-none = record { grown = λ t g m. grown-none t ts g spare few cuts₀ room bs₀ m }

  module _ {cuts : List ℕ} {bs : Blocks} {a : Block} {made : ℕ} (r : Growing ts spare cuts₀ bs₀ cuts bs a made) (path : List Step) (l : code.Seen)
      (q : (t : Task) (cs : List Cut) → Tabled t ts → Parted t cs ts.shape.columns a bs → look_of l path ≡ look t (blocks_of t cs)) where
    looked : (t : Task) → Tabled t ts → Uncut t ts.shape.columns bs₀ → look_of l path ≡ look t (blocks_of t (cuts_in made cuts))
    looked t g m = q t (cuts_in made cuts) g (r.grown t g m).stand

    -- a flaw
    module _ {e : Tenths} {c : Cut} (is : l ≡ Flaw e c) where
      flawed : (t : Task) → Tabled t ts → Uncut t ts.shape.columns bs₀ → look t (blocks_of t (cuts_in made cuts)) ≡ flaw e c
      unfolding look_of
      flawed t g m = rw is at (sym (looked t g m))

      pub flaw-cuttable : made < spare → (t : Task) → Tabled t ts → Uncut t ts.shape.columns bs₀ → Cuttable ts.shape.columns bs.count c
      flaw-cuttable h t g m = cuttable t ts g spare few cuts₀ room (r.grown t g m) (flawed t g m) h

      pub growing-more : made < spare → {cuts' : List ℕ} {bs' : Blocks} {a' : Block} → cuts' ≡ puts (made * 3) (cut_place c) cuts → bs'.count ≡ bs.count + 1
          → blocks_in ts.shape.columns bs'.count bs'.sets ≡ cut_block (blocks_in ts.shape.columns bs.count bs.sets) c → a' ≡ start_block a c bs.count ts.rows
          → Growing ts spare cuts₀ bs₀ cuts' bs' a' (made + 1)
      growing-more h ec en es ea = record { grown = λ t g m. grown-more t ts g spare few cuts₀ room (r.grown t g m) (flawed t g m) h ec en es ea }

    -- the end
    module _ (k : KnownSeen ts.shape.steps l path) {o : Ended} (w : o ≡ end_by l bs.count) where
      pub run-full : spare ≡ made → (t : Task) → Tabled t ts → Uncut t ts.shape.columns bs₀ → RunEnds (refine t spare []) o ts.shape.steps cuts₀ cuts path
      run-full h t g m = rw w (ends-full t ts g spare few cuts₀ room (r.grown t g m) (omega arith) ts.shape.steps l path (looked t g m) k h)

      pub run-early : made ≤ spare → cut_of (look_of l path) ≡ none → (t : Task) → Tabled t ts → Uncut t ts.shape.columns bs₀
          → RunEnds (refine t spare []) o ts.shape.steps cuts₀ cuts path
      run-early h n t g m = rw w (ends-early t ts g spare few cuts₀ room (r.grown t g m) h ts.shape.steps l path (looked t g m) k n)

-- a look that is no flaw asks for no cut
pub no-flaw : (l : code.Seen) (path : List Step) → ((e : Tenths) (c : Cut) → l ≡ Flaw e c → ⊥) → cut_of (look_of l path) ≡ none
unfolding cut_of look_of
no-flaw Hopeless path h = refl
no-flaw (Planned n) path h = refl
no-flaw (Flaw e c) path h = absurd (h e c refl)
