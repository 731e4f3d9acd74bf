use Rattle.std.proofs.Common.{◌∙◌, ap, ◌%◌, ◌^◌}
use Rattle.bench.proofs.Outputs.{within}
use Rattle.bench.proofs.Turning.{turn_is}
use Rattle.bench.proofs.cycle.turn.Goals as goal

pub clock-outputs-requires-clause-within : goal.clock-outputs-requires-clause-within
clock-outputs-requires-clause-within g c = within c.args.memory.now c.args.design.now.tree c.args.pins c.requires.ports c.requires.pins

pub returns-clause-turned : goal.returns-clause-turned
returns-clause-turned g c =
    turn_is c.args.design.now.tree c.args.memory.now c.args.cycle c.args.design.now.registers c.clock-outputs.new.design.registers c.args.pins
    c.args.rdata c.cycle_box-answer.result c.low_bits.result c.clock-outputs.result _ _ c.bits.ensures.memory c.requires.ports c.requires.pins
    c.requires.word c.clock-outputs.ensures.cycle c.requires.fitted c.cycle_box-answer.ensures.answer c.cycle_box-answer.ensures.new
    (c.low_bits.ensures.value ∙ ap (λ n. c.cycle_box-answer.result % 2 ^ n) c.bits.ensures.value)
