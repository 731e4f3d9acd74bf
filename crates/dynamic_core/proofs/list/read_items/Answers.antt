use Rattle.fault_syntax.proofs.LineByLine.{accepted, refuses}
use Rattle.fault_syntax.specs.declared.words.AllowedNames.TheVariants.{Every}
use Rattle.fault_syntax.specs.ListText.{Primitive as OnePrimitive, ItemLine}
use Rattle.dynamic_core.specs.ItemParts.{RefusesOn, BringsIn}
use Rattle.dynamic_core.proofs.ListExact.{settled, list_one}
use Rattle.dynamic_core.proofs.list.read_items.Goals as goal

pub returns-clause-accepted : goal.returns-clause-accepted
returns-clause-accepted c =
    accepted ItemLine (BringsIn Every) OnePrimitive (RefusesOn Every) settled (λ items. items.items) c.args.bytes.now c.read_lines.result c.read_lines.ensures.ok c.read_lines.ensures.refused

pub returns-clause-refuses : goal.returns-clause-refuses
returns-clause-refuses c =
    refuses ItemLine (BringsIn Every) OnePrimitive (RefusesOn Every) settled (λ items. items.items) c.args.bytes.now c.read_lines.result c.read_lines.ensures.ok c.read_lines.ensures.refused

pub returns-clause-one_reading : goal.returns-clause-one_reading
returns-clause-one_reading c = list_one c.args.bytes.now
