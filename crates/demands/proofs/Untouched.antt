-- 01, "A run": "Rows stay untouched for 'no plan' and 'open'; places past the last one used stay untouched." For `run` and `elhavir_run`, for whoever
-- knows only the contract. A place is three values, in the historian's lists twelve bytes.
use Prim.Native.Nat.{ℕ, ◌*◌}
use native.Mathlib.Omega.{arith}
use native.Mathlib.Decide.{ℕ_discrete}
use mathlib.Core.Path.{◌≡◌, refl, sym, ap, ◌∙◌}
use mathlib.Core.List.{List, [], ◌∷◌, ◌++◌}
use lib.ListN.{length, drop}
use Rattle.task.specs.Loops.{over}
use Rattle.fields.specs.Judging.{refusal}
use Rattle.fields.proofs.PlaceLaws.{each-length}
use Rattle.sheets.specs.Holding.{task_on}
use Rattle.run.specs.Run.{rows}
use Rattle.blocks.specs.Flat.{cut_place}
use Rattle.run.specs.Listing.{listed, row_place}
use Rattle.refining.proofs.CutListLaws.{listed-length}
use Rattle.running.specs.declared.Answer.{Answer}
use Rattle.running.specs.declared.Answer.TheVariants.{Plan, NoPlan, Open}
use Rattle.fields.specs.Refusals.{Answered, Done, Refused}
use Rattle.running.specs.Running.{number, RunOutcome, Runs}
use Rattle.running.proofs.RowLaws.{three}
use Rattle.run_laws.proofs.Answers as said
use Rattle.values.specs.Values.{bytes_at, bytes_of}
use Rattle.values.proofs.ValueLaws.{four}
use Rattle.historian.specs.Entries.{entry_checks, RunEntryOutcome, EntryRuns}
use Rattle.demands.proofs.Numbers.{kind, steps}
use Rattle.demands.proofs.Refusals.{run-judged, entry-refused}
use Rattle.demands.proofs.Entry as entry
use Rattle.demands.proofs.Answers.{plan-right, entry-plan-right}
use Rattle.demands.proofs.Cuts as cut

-- ---- places past the last one used

drop-front : {A : Type 0} (a l : List A) → drop (length a) (a ++ l) ≡ l
drop-front [] l = refl
drop-front (x ∷ a) l = drop-front a l

-- what stands past n values written over a list is what stood there
pub past : (n : ℕ) (new old : List ℕ) {l : List ℕ} → l ≡ over new old → length new ≡ n → drop n l ≡ drop n old
unfolding over
past n new old e k = rw (sym k, e) (drop-front new (drop (length new) old))

pub bytes-length : (vs : List ℕ) → length (bytes_of vs) ≡ length vs * 4
unfolding bytes_of
bytes-length vs = each-length (bytes_at vs) 4 (four vs) (length vs)

-- ---- run
module _ (s : List ℕ) (room : ℕ) (cuts rs : List ℕ) {c l : List ℕ} where
  -- a refusal's number is not 0, and it leaves everything lent as found
  refused-untouched : (n : ℕ) → Runs s room cuts rs (Refused n) c l → Dec (n ≡ 0) → l ≡ rs
  unfolding number
  refused-untouched n done (yes z) = absurd (said.run-says s room cuts rs done z).says
  refused-untouched n done (no z) = ap (λ (o : RunOutcome). o.rows) ((run-judged s room cuts rs done).leaves n z refl)

  -- only a plan writes rows: for "no plan" and "open" they stay untouched, and after a refusal
  pub rows-untouched : (a : Answered Answer) → Runs s room cuts rs a c l → ((cost n b : ℕ) → a ≡ Done (Plan cost n b) → ⊥) → l ≡ rs
  unfolding number
  rows-untouched (Done (Plan cost n b)) done h = absurd (h cost n b refl)
  rows-untouched (Done (NoPlan b)) done h = (said.run-says s room cuts rs done refl).says.1
  rows-untouched (Done (Open e b)) done h = (said.run-says s room cuts rs done refl).says.1
  rows-untouched (Refused n) done h = refused-untouched n done (ℕ_discrete n 0)

module _ (s : List ℕ) (room : ℕ) (cuts rs : List ℕ) {a : Answered Answer} {c l : List ℕ} (done : Runs s room cuts rs a c l) where
  pub cuts-past-untouched : (kept : number a ≡ 0) → drop (length (cut.made s room cuts rs done kept) * 3) c ≡ drop (length (cut.made s room cuts rs done kept) * 3) cuts
  cuts-past-untouched kept = past _ (listed cut_place (cut.made s room cuts rs done kept)) cuts (cut.cuts-listed s room cuts rs done kept) (listed-length _)

-- after a plan of n steps
pub rows-past-untouched : (s : List ℕ) (room : ℕ) (cuts rs : List ℕ) {cost n b : ℕ} {c l : List ℕ} → Runs s room cuts rs (Done (Plan cost n b)) c l → drop (n * 3) l ≡ drop (n * 3) rs
rows-past-untouched s room cuts rs {n = n} done =
    let p = plan-right s room cuts rs done in
    past (n * 3) (listed row_place (rows (task_on s) p.steps)) rs p.listed-rows (three (task_on s) p.steps ∙ ap (λ (k : ℕ). k * 3) (sym p.count-is))

-- ---- elhavir_run
module _ (s : List ℕ) (room : ℕ) (cuts rs : List ℕ) {r : ℕ} {c l : List ℕ} (done : EntryRuns s room cuts rs r c l) where
  pub entry-rows-untouched : (kind r ≡ 1 → ⊥) → l ≡ rs
  entry-rows-untouched h = split (ℕ_discrete (refusal (entry_checks s room cuts rs)) 0)
    where
      told : entry.EntryMade s room cuts rs done → Dec (kind r ≡ 2) → l ≡ rs
      told m (yes k) = (m.tells.no-plan-right k).untouched
      told m (no k) = (m.tells.open-right (omega (arith, m.tells.kinds))).untouched

      split : Dec (refusal (entry_checks s room cuts rs) ≡ 0) → l ≡ rs
      split (yes z) = told (entry.entry-ran s room cuts rs done z) (ℕ_discrete (kind r) 2)
      split (no z) = ap (λ (o : RunEntryOutcome). o.rows) (done ∙ entry-refused s room cuts rs z)

  pub entry-cuts-past-untouched : (kept : kind r ≡ 0 → ⊥) → drop (length (cut.entry-made s room cuts rs done kept) * 12) c ≡ drop (length (cut.entry-made s room cuts rs done kept) * 12) cuts
  entry-cuts-past-untouched kept =
      let m = cut.entry-made s room cuts rs done kept in
      past (length m * 12) (bytes_of (listed cut_place m)) cuts (cut.entry-cuts-listed s room cuts rs done kept) (omega (arith, bytes-length (listed cut_place m), listed-length m))

  pub entry-rows-past-untouched : kind r ≡ 1 → drop (steps r * 12) l ≡ drop (steps r * 12) rs
  entry-rows-past-untouched k =
      let p = entry-plan-right s room cuts rs done k in
      let vs = listed row_place (rows (task_on s) p.list) in
      past (steps r * 12) (bytes_of vs) rs p.written (omega (arith, bytes-length vs, three (task_on s) p.list, p.count))
