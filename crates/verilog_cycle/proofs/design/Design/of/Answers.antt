use Rattle.std.proofs.Common.{◌+◌, length, refl}
use Rattle.verilog_code.specs.Code.{meaning}
use Rattle.verilog_code.proofs.Knowing.{known_nothing}
use Rattle.verilog_cycle.proofs.design.Design.of.Goals as goal

pub invariant_of-result : goal.invariant_of-result
invariant_of-result c = (c.requires.built, c.requires.holds, c.requires.opens, c.requires.reading, known_nothing 0 meaning (length c.args.parts.registers.items + length c.args.parts.inputs.items) c.args.parts.program.steps.items c.args.parts.cells.values.items c.requires.reading)

pub returns : goal.returns
returns c = record {
  legal = c.requires.built.legal;
  loopless = c.requires.loopless;
  tree = refl;
  zero = c.requires.zero;
  nets = c.requires.built.nets;
}
