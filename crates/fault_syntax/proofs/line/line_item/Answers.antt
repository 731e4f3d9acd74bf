use Rattle.fault_syntax.proofs.LineExact.{says}
use Rattle.fault_syntax.proofs.line.line_item.Goals as goal

pub returns : goal.returns
returns c = says c.args.set c.args.text.now c.read_item.result c.read_item.ensures
