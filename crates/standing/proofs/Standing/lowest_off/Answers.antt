use mathlib.Core.Path.{refl}
use native.Mathlib.Omega.{arith}
use lib.ListN.{get_or}
use Rattle.std.proofs.Common.{rules}
use Rattle.std.proofs.lemmas.Iterator.{YieldsList-from_range}
use Rattle.std.proofs.lemmas.Iterator.Search.{find_from_yields_List}
use Rattle.standing.specs.Standing.{is_off}
use Rattle.standing.proofs.RowLaws.{found-first}
use Rattle.standing.proofs.Standing.lowest_off.Goals as goal

pub returns-clause-lowest : goal.returns-clause-lowest
returns-clause-lowest c =
    let g = c.args in
    let w = g.wanted.now in
    let h = g.self.now.sets in
    let e = find_from_yields_List (λ j. is_off (get_or w j 0) (get_or h j 0)) _ _ _ c.find.ensures.ran (YieldsList-from_range 0 g.columns g.columns refl (omega arith)) (λ x b q k. search rules) in
    found-first w h g.columns _ _ _ e c.map.ensures.cases (λ x y k. search rules)
