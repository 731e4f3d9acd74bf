use Rattle.memory_desc.proofs.Common.{ap, arith, items_after, length, next_term_of, sym, ◌∙◌, ◌∷◌}
use Rattle.memory_desc.specs.inner.Heard.{terms_of}
use Rattle.memory_desc.proofs.TermLaws.{term_next}
use Rattle.memory_desc.proofs.Left.{one_left}
use Rattle.memory_desc.proofs.row_reader.TermsIterator.next.Goals as goal

pub invariant_of-self : goal.invariant_of-self
invariant_of-self c = let n = c.in-Ok-Some-default in (one_left next_term_of term_next c.self.inside.left.now n.left.now n.next n.ensures n.field-0-0-is c.self.invariant).0

pub returns-in-Ok-Some-default-clause-steps : goal.returns-in-Ok-Some-default-clause-steps
returns-in-Ok-Some-default-clause-steps c =
    let n = c.in-Ok-Some-default in
    sym c.self.view_is ∙ ap (λ o. items_after o (terms_of c.self.inside.left.now)) c.in-Some.is
    ∙ ap (λ xs. c.in-Some.term ∷ xs) (one_left next_term_of term_next c.self.inside.left.now n.left.now n.next n.ensures n.field-0-0-is c.self.invariant).1

pub returns-in-Ok-Some-default-clause-goes : goal.returns-in-Ok-Some-default-clause-goes
returns-in-Ok-Some-default-clause-goes c = record {
  on = λ _. (tt, tt, omega (arith, ap length (returns-in-Ok-Some-default-clause-steps c)));
  keeps = tt;
  rests = λ _. tt;
}
