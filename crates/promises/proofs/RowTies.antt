-- Lists of structs are lent to `rows::put_rows` and `rows::run`. They are tied to the theorems by their contracts, and not by functions above them: each asks
-- nothing of its caller, and what it ensures is its promise and nothing else.
use mathlib.Core.Path.{◌≡◌, refl}
use seplogic.Ra.Ura.{Ura}
use base.Logic.{SProp, emp}
use prog.Memory.{Memory}
use prog.Routine.{Routine}
use types.Logic.{Logic}
use contract.Lifetimes.{Lfts}
use contract.Monad.{Fun, fact}
use denote.Triple.Clauses.{AtExit}
use borrow.Fn.World.{ArgsD, ResD}
use Rattle.fields.specs.Refusals.{told}
use Rattle.rows.specs.Rows.{PutsRows, RowRuns}
use Rattle.rows.specs.contracts.put_rows as put-rows
use Rattle.rows.specs.contracts.run as run

-- for every model of the logic, as the functions' theorems have it
module _ {M : Type 1} {𝓤 : Ura M} (𝓛 : Logic 𝓤) (mem : Memory → SProp 𝓤) (meant : Routine → Fun 𝓤) where
  -- rows, values, n
  module _ (κs : Lfts 2) (given : ArgsD put-rows.signature κs) where
    pub put-rows-asks-nothing : (put-rows.clauses 𝓛 mem meant κs given).requires tt ≡ emp 𝓤
    put-rows-asks-nothing = refl

    pub put-rows-promises : (r : ResD put-rows.signature κs) (left : AtExit put-rows.ended κs)
        → (put-rows.clauses 𝓛 mem meant κs given).ensures tt r left
        ≡ fact 𝓤 (PutsRows given.0.now given.1.0.now given.1.1.0 r left.0.now)
    put-rows-promises r left = refl

  -- sheet, room, cuts, rows
  module _ (κs : Lfts 3) (given : ArgsD run.signature κs) where
    pub run-asks-nothing : (run.clauses 𝓛 mem meant κs given).requires tt ≡ emp 𝓤
    run-asks-nothing = refl

    pub run-promises : (r : ResD run.signature κs) (left : AtExit run.ended κs)
        → (run.clauses 𝓛 mem meant κs given).ensures tt r left
        ≡ fact 𝓤 (RowRuns given.0.now given.1.0 given.1.1.0.now given.1.1.1.0.now (told r) left.1.1.0.now left.1.1.1.0.now)
    run-promises r left = refl
