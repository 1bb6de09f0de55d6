use mathlib.Core.Path.{◌∙◌}
use Rattle.asking.proofs.StateLaws.{fits_is, answers, uneven, too-many, no-position, all-good}
use Rattle.asking.proofs.judge_states.Goals as goal
use Rattle.asking.proofs.judge_states.Goals.{then-states-columns-ne0-via-then-states-columns-ne0, then-states-columns-ne0-via-else-states-columns-ne0+then-states-columns-gt-STATES, then-states-columns-ne0-via-else-states-columns-ne0+else-states-columns-gt-STATES+then-not-are_positions}

pub returns-then-states-columns-ne0 : goal.returns-then-states-columns-ne0
returns-then-states-columns-ne0 c =
    let g = c.args in
    elim c.then-states-columns-ne0.branch [
      | then-states-columns-ne0-via-then-states-columns-ne0 w ↦ answers g.sizes.now g.states.now c.requires (uneven _ _ w.if-states-columns-ne0.true)
      | then-states-columns-ne0-via-else-states-columns-ne0+then-states-columns-gt-STATES w ↦ answers g.sizes.now g.states.now c.requires (too-many _ _ w.if-states-columns-gt-STATES.true)
      | then-states-columns-ne0-via-else-states-columns-ne0+else-states-columns-gt-STATES+then-not-are_positions w ↦
          answers g.sizes.now g.states.now c.requires (no-position _ _ (fits_is _ _ _ w.are_positions.ensures ∙ w.if-not-are_positions.true))
    ]

pub returns : goal.returns
returns c =
    let g = c.args in
    answers g.sizes.now g.states.now c.requires
    (all-good _ _ c.if-states-columns-ne0.false c.if-states-columns-gt-STATES.false (fits_is _ _ _ c.are_positions.ensures ∙ c.if-not-are_positions.false))
