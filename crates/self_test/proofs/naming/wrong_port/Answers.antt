use Rattle.std.proofs.Common.{map}
use Rattle.verilog_tree.specs.Plain.{plain_port}
use Rattle.self_test.proofs.Wrong.{none_exactly, names_exactly}
use Rattle.self_test.proofs.naming.wrong_port.Goals as goal

pub returns-clause-told : goal.returns-clause-told
returns-clause-told c = names_exactly (λ n. n.bytes) c.args.memory.now (map plain_port c.args.ports.now) c.named.result c.named.ensures

pub returns-clause-none : goal.returns-clause-none
returns-clause-none c = none_exactly (λ n. n.bytes) c.args.memory.now (map plain_port c.args.ports.now) c.named.result c.named.ensures
