use Rattle.fault_syntax.specs.Answers.{RefusesAt}
use Rattle.fault_syntax.specs.ListText.{Primitive as OnePrimitive, LineText}
use Rattle.fault_syntax.specs.Parts.{Brings}
use Rattle.fault_syntax.proofs.LineByLine.{accepted, refuses, lines_one}
use Rattle.fault_syntax.proofs.ListExact.{settled}
use Rattle.dynamic_core.proofs.list.read_list.Goals as goal

pub returns-clause-accepted : goal.returns-clause-accepted
returns-clause-accepted c =
    accepted LineText Brings OnePrimitive RefusesAt settled (λ prims. prims.items) c.args.bytes.now c.read_statics.result c.read_statics.ensures.ok c.read_statics.ensures.refused

pub returns-clause-refuses : goal.returns-clause-refuses
returns-clause-refuses c =
    refuses LineText Brings OnePrimitive RefusesAt settled (λ prims. prims.items) c.args.bytes.now c.read_statics.result c.read_statics.ensures.ok c.read_statics.ensures.refused

pub returns-clause-one_reading : goal.returns-clause-one_reading
returns-clause-one_reading c = lines_one LineText Brings OnePrimitive RefusesAt settled c.args.bytes.now
