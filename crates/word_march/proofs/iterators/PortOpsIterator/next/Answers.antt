use Rattle.std.proofs.Common.{◌<◌, ◌∷◌, length, map, arith, sym, ◌∙◌, ap}
use Rattle.word_march.specs.declared.operations.PortOp.{PortOp}
use Rattle.word_march.specs.Commands.{port_op}
use Rattle.word_march.specs.Standing.{ops_left}
use Rattle.word_march.proofs.Next.{next_operation, next_command}
use Rattle.word_march.proofs.iterators.PortOpsIterator.next.Goals as goal

pub returns-clause-steps : goal.returns-clause-steps
returns-clause-steps c =
    let march = c.self.inside.march.now in
    let memory = c.self.inside.memory.now in
    let more : c.self.inside.place.background < length memory.backgrounds =
    let within = c.self.invariant.background in let same = ap length c.backgrounds.ensures.value in omega arith in
    let q = c.place_behind-self-inside.result in
    sym c.self.view_is
    ∙ next_command march memory c.self.inside.place q c.operation_at-operation.result
    (next_operation march memory c.self.inside.place q c.operation_at-operation.result c.self.invariant more
    c.operation_at-operation.ensures.operation c.place_behind-self-inside.ensures.behind)
    ∙ ap (λ (x : PortOp). x ∷ map (port_op memory) (ops_left march memory q)) (sym c.at_port.ensures)

pub returns-clause-goes : goal.returns-clause-goes
returns-clause-goes c = record {
  on = λ _. (tt, tt, omega (arith, ap length (returns-clause-steps c)));
  keeps = tt;
  rests = λ _. tt;
}
