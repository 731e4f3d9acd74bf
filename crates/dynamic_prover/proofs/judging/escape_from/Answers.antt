use Rattle.std.proofs.Common.{false, refl, ap, ◌∙◌}
use Rattle.pair_tracker.specs.Ways.{word_by, ways_word}
use Rattle.pair_tracker.proofs.WordSteps.{word_said}
use Rattle.dynamic_prover.specs.declared.own_cells.OwnCells.{OwnCells}
use Rattle.dynamic_prover.specs.declared.shape.Shape.{Shape}
use Rattle.dynamic_prover.specs.inner.Own.{own_as}
use Rattle.dynamic_prover.specs.inner.Ways.{any_end, can_pass, least_ways}
use Rattle.dynamic_prover.specs.inner.Legs.{leg_end}
use Rattle.dynamic_prover.specs.inner.Spots.{shape_at}
use Rattle.dynamic_prover.proofs.Tables.{legs_from}
use Rattle.dynamic_prover.proofs.judging.escape_from.Goals as goal

pub returns-clause-escape : goal.returns-clause-escape
returns-clause-escape c =
    let legs = c.args.legs.now in
    let lead = leg_end (shape_at c.args.spot) in
    let start = own_as c.args.pair false in
    let said = word_said (can_pass lead legs start) (ways_word 0 (least_ways lead legs start)) c.in_ok-directions.directions
    (c.in_ok-directions.ensures.word
    ∙ ap (λ (s : Shape). word_by any_end (leg_end s) 0 legs c.own_cells-start.result) c.shape.ensures
    ∙ ap (λ (q : OwnCells). word_by any_end lead 0 legs q) c.own_cells-start.ensures) in (
      said.0,
      record { prim = refl; size = refl; agg = refl; vic = refl; content = c.content.ensures; directions = said.1 },
    )

pub word_from-requires-clause-from : goal.word_from-requires-clause-from
word_from-requires-clause-from c = legs_from c.args.legs.now c.requires.few
