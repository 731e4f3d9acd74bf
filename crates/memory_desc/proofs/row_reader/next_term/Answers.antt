use Rattle.memory_desc.proofs.Common.{None, Read, ap, end_of, is_caret, marked_term_of, ne_eqb, next_term_of, onward, stuck, sym, took, ◌∙◌, ◌≡◌}
use Rattle.memory_desc.proofs.Passed.{on_both}
use Rattle.memory_desc.proofs.TermReads.{over}
use Rattle.memory_desc.proofs.row_reader.next_term.Goals as goal

pub returns-then-first-ne94 : goal.returns-then-first-ne94
returns-then-first-ne94 c =
    let b = c.blanks-text.result.now in
    let ends : (o : Read (Unit {0})) → end_of b ≡ o → next_term_of c.args.text.now ≡ onward o (λ _ x. took None x) = λ o. over is_caret marked_term_of c.args.text.now b o c.blanks-text.ensures c.in-len1-up.len_at_least (ne_eqb _ 94 c.if-first-ne94.true) in
    on_both c.ended.result c.ended.ensures (λ r h. ends (took tt r.1.now) h.1 ∙ ap (λ v. took v r.1.now) (sym h.0)) (λ left h. ends (stuck left.now) h)
