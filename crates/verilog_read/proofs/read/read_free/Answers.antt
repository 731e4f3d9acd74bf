use Rattle.verilog_tree.specs.Grammar.{ByPrecedence}
use Rattle.verilog_tree.specs.Spells.{all_limits}
use Rattle.verilog_read.proofs.Contract.{read_formed, read_first, read_says, read_spells, spelled_read}
use Rattle.verilog_text.proofs.ReadingLaws.{one_text}
use Rattle.verilog_read.proofs.read.read_free.Goals as goal

pub returns-clause-ok : goal.returns-clause-ok
returns-clause-ok c = read_spells ByPrecedence c.args.bytes.now c.scan_text.result c.scan_text.ensures

pub returns-clause-accepted : goal.returns-clause-accepted
returns-clause-accepted c = λ v h. spelled_read ByPrecedence c.args.bytes.now v c.scan_text.result c.scan_text.ensures h

pub returns-clause-one_module : goal.returns-clause-one_module
returns-clause-one_module c = λ v w p q. one_text all_limits ByPrecedence c.args.bytes.now v w p q

pub returns-clause-says : goal.returns-clause-says
returns-clause-says c = read_says ByPrecedence c.args.bytes.now c.scan_text.result c.scan_text.ensures

pub returns-clause-fault : goal.returns-clause-fault
returns-clause-fault c = λ n f. read_first ByPrecedence c.args.bytes.now c.scan_text.result c.scan_text.ensures n f

pub returns-clause-formed : goal.returns-clause-formed
returns-clause-formed c = read_formed ByPrecedence c.args.bytes.now c.scan_text.result c.scan_text.ensures
