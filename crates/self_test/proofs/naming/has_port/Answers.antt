use Rattle.std.proofs.Common.{map, refl, sym, ◌∙◌}
use Rattle.verilog_tree.specs.declared.tree.Port.{Port}
use Rattle.verilog_tree.specs.Plain.{plain_port}
use Rattle.self_test.specs.WrongPort.{same_port, has_port}
use Rattle.self_test.proofs.AnyOf.{any_found, any_past, any_none}
use Rattle.self_test.proofs.naming.has_port.Goals as goal

pub loop-other-init : goal.loop-other-init
loop-other-init c = refl

pub bounds-ports-other-index : goal.bounds-ports-other-index
bounds-ports-other-index c = c.loop-other-test.true

pub returns-then-same_port : goal.returns-then-same_port
returns-then-same_port c =
    any_found (λ (q : Port). same_port (plain_port c.args.port.now) (plain_port q)) (λ l. has_port (plain_port c.args.port.now) (map plain_port l)) (λ x xs. refl)
    c.args.ports.now c.loop-other.other-index c.other-item.result c.loop-other-test.true c.other-item.is (sym c.same_port.ensures ∙ c.if-same_port.true) c.loop-other.invariant

pub loop-other-preserved : goal.loop-other-preserved
loop-other-preserved c =
    any_past (λ (q : Port). same_port (plain_port c.args.port.now) (plain_port q)) (λ l. has_port (plain_port c.args.port.now) (map plain_port l)) (λ x xs. refl)
    c.args.ports.now c.loop-other.other-index c.other-item.result c.loop-other-test.true c.other-item.is (sym c.same_port.ensures ∙ c.if-same_port.false) c.loop-other.invariant

pub returns : goal.returns
returns c =
    any_none (λ (q : Port). same_port (plain_port c.args.port.now) (plain_port q)) (λ l. has_port (plain_port c.args.port.now) (map plain_port l)) (λ x xs. refl) c.args.ports.now c.loop-other.other-index c.loop-other-test.false refl c.loop-other.invariant
