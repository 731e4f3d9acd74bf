use Rattle.memory_desc.proofs.Common.{List, Term, index_terms, terms_text, ◌++◌, ◌≡◌}
use Rattle.memory_desc.proofs.print.put_row.Given as goal

abbrev pub invariant-loop-j : goal.invariant-loop-j
invariant-loop-j l = (ts : List Term) → l.out.items ++ terms_text l.mark ts ≡ l.initial.out.items ++ terms_text 61 (index_terms l.names l.j ts)
