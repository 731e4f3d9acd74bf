use Rattle.bist_app.proofs.Common.{◌∙◌, refl, true}
use Rattle.bist_app.proofs.TakenNames.{taken_by_chip, taken_if_earlier, first_taken, own_so_far, all_own}
use Rattle.bist_app.proofs.chip.check_names.Goals as goal
use Rattle.bist_app.proofs.chip.check_names.Goals.{then-eq-via-then-eq, then-eq-via-else-eq+then-is_earlier}

pub returns-then-eq-clause-answer : goal.returns-then-eq-clause-answer
returns-then-eq-clause-answer c =
    let chip = c.args.chip.now in
    let memories = c.args.memories.now in
    let unit = c.loop-unit.unit in
    elim c.then-eq.branch [
      | then-eq-via-then-eq w ↦ first_taken chip memories unit true refl
          (taken_by_chip chip memories unit c.index-memories-unit.result c.as_str.result.now c.loop-unit-test.true c.index-memories-unit.is
          (c.as_str.ensures.value ∙ c.module_of.ensures) w.if-eq.ensures)
          c.loop-unit.invariant
      | then-eq-via-else-eq+then-is_earlier w ↦ first_taken chip memories unit w.is_earlier.result w.if-is_earlier.true
          (taken_if_earlier chip memories unit c.index-memories-unit.result c.as_str.result.now w.name.result.now w.is_earlier.result c.loop-unit-test.true c.index-memories-unit.is
          (c.as_str.ensures.value ∙ c.module_of.ensures) w.if-eq.ensures w.name.ensures w.is_earlier.ensures)
          c.loop-unit.invariant
    ]

pub loop-unit-preserved : goal.loop-unit-preserved
loop-unit-preserved c =
    let chip = c.args.chip.now in
    let memories = c.args.memories.now in
    let unit = c.loop-unit.unit in
    own_so_far chip memories unit c.is_earlier.result c.if-is_earlier.false
    (taken_if_earlier chip memories unit c.index-memories-unit.result c.as_str.result.now c.name.result.now c.is_earlier.result c.loop-unit-test.true c.index-memories-unit.is
    (c.as_str.ensures.value ∙ c.module_of.ensures) c.if-eq.ensures c.name.ensures c.is_earlier.ensures)
    c.loop-unit.invariant

pub returns-clause-answer : goal.returns-clause-answer
returns-clause-answer c = all_own c.args.chip.now c.args.memories.now c.loop-unit.unit c.loop-unit-test.false c.loop-unit.invariant
