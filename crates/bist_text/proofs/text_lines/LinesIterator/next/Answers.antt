use Rattle.std.proofs.Common.{rules, length, ℕ, refl, arith, length-drop, inl, inr, ap}
use Rattle.std.proofs.lemmas.List.{take_all}
use Rattle.bist_text.proofs.LineLemmas.{line_step}
use Rattle.bist_text.proofs.text_lines.LinesIterator.next.Goals as goal
use Rattle.bist_text.proofs.text_lines.LinesIterator.next.Goals.{then-ended, else-ended}

pub returns-clause-steps : goal.returns-clause-steps
returns-clause-steps c = line_step c.args.self.now.number c.args.self.now.start c.line_len-length.result c.if-ended.taken c.args.self.now.rest.now _ _ c.line_len-length.ensures.value (search rules) refl (take_all _ _ (omega (arith, length-drop {A = ℕ}))) (elim c.if-ended.branch [ then-ended w ↦ inl (w.if-ended.true, w.taken-is) | else-ended w ↦ inr (w.if-ended.false, w.taken-is) ])

pub returns-clause-goes : goal.returns-clause-goes
returns-clause-goes c = record {
  on = λ _. (tt, tt, omega (arith, ap length (returns-clause-steps c)));
  keeps = tt;
  rests = λ _. tt;
}
