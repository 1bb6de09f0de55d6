use mathlib.Core.Path.{refl, sym, ◌∙◌, ap}
use borrow.Author.Rules.{rules}
use Rattle.std.specs.Prelude.{Err}
use Rattle.walk.specs.Walking.{Turn, stands_after}
use Rattle.walk.proofs.TurnLaws.{turn-ended, hop-below, turn-need, turn-back, turn-went}
use Rattle.walk.proofs.hop.Goals as goal

pub returns-in_default : goal.returns-in_default
unfolding stands_after
returns-in_default c =
    let g = c.args in
    record { turned = turn-ended g.tables.now g.blocks.now g.dist.now g.a g.here.now.sets _ c.next_hop.ensures.searched c.in_default.is; stands = refl }

pub can_take-requires : goal.can_take-requires
can_take-requires c =
    let g = c.args in
    let h = hop-below g.tables.now g.blocks.now g.dist.now g.a g.here.now.sets _ c.next_hop.ensures.searched c.in-Some.next c.in-Some.is in
    search (h, rules)

pub returns-then-not-can_take : goal.returns-then-not-can_take
unfolding stands_after
returns-then-not-can_take c =
    let g = c.args in
    let can = sym c.can_take.ensures ∙ c.if-not-can_take.true in record {
      turned = ap {B = Turn} Err (rw c.from.ensures at c.row_cut.ensures)
          ∙ turn-need g.tables.now g.blocks.now g.dist.now g.a g.here.now.sets _ c.next_hop.ensures.searched c.in-Some.next c.in-Some.is can;
      stands = refl;
    }

pub lands_in-requires : goal.lands_in-requires
lands_in-requires c =
    let g = c.args in
    let h = hop-below g.tables.now g.blocks.now g.dist.now g.a g.here.now.sets _ c.next_hop.ensures.searched c.in-Some.next c.in-Some.is in
    search (h, rules)

pub back_cut-requires : goal.back_cut-requires
back_cut-requires c =
    let g = c.args in
    let h = hop-below g.tables.now g.blocks.now g.dist.now g.a g.here.now.sets _ c.next_hop.ensures.searched c.in-Some.next c.in-Some.is in
    search (h, rules)

pub returns-then-not-lands_in : goal.returns-then-not-lands_in
unfolding stands_after
returns-then-not-lands_in c =
    let g = c.args in
    let can = sym c.can_take.ensures ∙ c.if-not-can_take.false in
    let lands = sym c.lands_in.ensures ∙ c.if-not-lands_in.true in record {
      turned = ap {B = Turn} Err c.back_cut.ensures ∙ turn-back g.tables.now g.blocks.now g.dist.now g.a g.here.now.sets _ c.next_hop.ensures.searched c.in-Some.next c.in-Some.is can lands;
      stands = refl;
    }

pub take-requires : goal.take-requires
take-requires c =
    let g = c.args in
    let h = hop-below g.tables.now g.blocks.now g.dist.now g.a g.here.now.sets _ c.next_hop.ensures.searched c.in-Some.next c.in-Some.is in
    search (h, rules)

pub returns : goal.returns
unfolding stands_after
returns c =
    let g = c.args in
    let can = sym c.can_take.ensures ∙ c.if-not-can_take.false in
    let lands = sym c.lands_in.ensures ∙ c.if-not-lands_in.false in
    record { turned = turn-went g.tables.now g.blocks.now g.dist.now g.a g.here.now.sets _ c.next_hop.ensures.searched c.in-Some.next c.in-Some.is can lands; stands = c.take.ensures }
