use Rattle.bist_text.proofs.Blanks.{blanks_have}
use Rattle.memory_desc.proofs.Common.{List, None, Read, [], arith, get_or, if◌then◌else◌, is_blank, length, refl, remark_of, spaced, spaced_word_of, true, ℕ, Bool, ap, end_of, hex_word_of, is_hex, next_word_of, onward, stuck, sym, took, ◌∙◌, ◌∷◌, ◌≡◌, ◌≤◌}
use Rattle.memory_desc.proofs.Passed.{on_both, refused, stuck_on, took_on}
use Rattle.memory_desc.proofs.TermReads.{behind_blank, over}
use Rattle.memory_desc.proofs.word_reader.next_word.Goals as goal

-- behind a blank stands a word
word_begun : (a b : List ℕ) → 1 ≤ length a → is_blank (get_or a 0 0) ≡ true → b ≡ spaced a → 1 ≤ length b → is_hex (get_or b 0 0) ≡ true → next_word_of a ≡ hex_word_of b
word_begun a b l e s m h = behind_blank a l e ∙ ap spaced_word_of (sym s) ∙ go b m h
  where
    go : (b : List ℕ) → 1 ≤ length b → is_hex (get_or b 0 0) ≡ true → spaced_word_of b ≡ hex_word_of b
    go [] m h = absurd (omega arith)
    go (c ∷ b) m h = ap (λ (t : Bool). if t then hex_word_of (c ∷ b) else remark_of None (c ∷ b)) h

pub returns-in_err-word-in-len1-up-text : goal.returns-in_err-word-in-len1-up-text
returns-in_err-word-in-len1-up-text c =
    refused _ _ c.from_residual.result c.in_err-word-in-len1-up-text.field-0.0 c.from_residual.ensures
    (word_begun c.args.text.now c.blanks-text.result.now c.in-len1-up.len_at_least (sym (blanks_have _) ∙ sym c.contains.ensures ∙ c.if-not-contains.false) c.blanks-text.ensures
    c.in-len1-up-text.len_at_least (sym c.is_ascii_hexdigit.ensures.value ∙ c.if-not-is_ascii_hexdigit.false)
    ∙ stuck_on _ c.in_err-word-in-len1-up-text.ensures)

pub returns-in_ok-word-in-len1-up-text : goal.returns-in_ok-word-in-len1-up-text
returns-in_ok-word-in-len1-up-text c =
    word_begun c.args.text.now c.blanks-text.result.now c.in-len1-up.len_at_least (sym (blanks_have _) ∙ sym c.contains.ensures ∙ c.if-not-contains.false) c.blanks-text.ensures
    c.in-len1-up-text.len_at_least (sym c.is_ascii_hexdigit.ensures.value ∙ c.if-not-is_ascii_hexdigit.false)
    ∙ took_on _ c.in_ok-word-in-len1-up-text.ensures refl

pub returns-then-not-is_ascii_hexdigit : goal.returns-then-not-is_ascii_hexdigit
returns-then-not-is_ascii_hexdigit c =
    let b = c.blanks-text.result.now in
    let ends : (o : Read (Unit {0})) → end_of b ≡ o → next_word_of c.args.text.now ≡ onward o (λ _ x. took None x) =
    λ o h. behind_blank c.args.text.now c.in-len1-up.len_at_least (sym (blanks_have _) ∙ sym c.contains.ensures ∙ c.if-not-contains.false)
    ∙ over is_hex hex_word_of c.args.text.now b o c.blanks-text.ensures c.in-len1-up-text.len_at_least (sym c.is_ascii_hexdigit.ensures.value ∙ c.if-not-is_ascii_hexdigit.true) h in
    on_both c.ended-then-not-is_ascii_hexdigit.result c.ended-then-not-is_ascii_hexdigit.ensures (λ r h. ends (took tt r.1.now) h.1 ∙ ap (λ v. took v r.1.now) (sym h.0)) (λ left h. ends (stuck left.now) h)
