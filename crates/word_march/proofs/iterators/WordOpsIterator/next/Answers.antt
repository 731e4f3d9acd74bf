use Rattle.std.proofs.Common.{◌<◌, length, arith, sym, ◌∙◌, ap}
use Rattle.word_march.proofs.Next.{next_operation}
use Rattle.word_march.proofs.iterators.WordOpsIterator.next.Goals as goal

pub returns-clause-steps : goal.returns-clause-steps
returns-clause-steps c =
    let march = c.self.inside.march.now in
    let memory = c.self.inside.memory.now in
    let more : c.self.inside.place.background < length memory.backgrounds =
    let within = c.self.invariant.background in let same = ap length c.backgrounds.ensures.value in omega arith in
    sym c.self.view_is
    ∙ next_operation march memory c.self.inside.place c.place_behind-self-inside.result c.operation_at-operation.result c.self.invariant more
    c.operation_at-operation.ensures.operation c.place_behind-self-inside.ensures.behind

pub returns-clause-goes : goal.returns-clause-goes
returns-clause-goes c = record {
  on = λ _. (tt, tt, omega (arith, ap length (returns-clause-steps c)));
  keeps = tt;
  rests = λ _. tt;
}
