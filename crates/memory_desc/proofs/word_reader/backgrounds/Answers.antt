use Rattle.std.proofs.Common.{rules}
use Rattle.memory_desc.proofs.Common.{Read, Some, end_of, log, onward, plain_content, stuck, List, [], arith, get_or, if◌then◌else◌, length, listed_of, log_of, next_word_of, ne_eqb, ap, refl, sym, took, ℕ, Bool, ◌<◌, ◌∙◌, ◌∷◌, ◌≡◌, ◌≢◌, ◌≤◌}
use Rattle.memory_desc.specs.inner.Heard.{backgrounds_of, log_end_of}
use Rattle.memory_desc.proofs.Passed.{on_both, refused, stuck_on, took_on}
use Rattle.memory_desc.proofs.TermReads.{Rest, rest_is}
use Rattle.memory_desc.proofs.WordLaws.{word_next}
use Rattle.memory_desc.proofs.Left.{all_stuck, all_took, all_whole, goes_on, shorter}
use Rattle.memory_desc.proofs.word_reader.backgrounds.Goals.{After-hex_number, then-text-lt1, else-text-lt1+in_default-1}
use Rattle.memory_desc.proofs.word_reader.backgrounds.Goals as goal

-- by the first byte
log_begun : (b : List ℕ) → 1 ≤ length b → get_or b 0 0 ≡ 108 → backgrounds_of b ≡ log_end_of (Rest b)
log_begun [] l e = absurd (omega arith)
log_begun (c ∷ b) l e = ap (λ (c : ℕ). backgrounds_of (c ∷ b)) e ∙ ap log_end_of (sym (rest_is c b))

list_empty : (b : List ℕ) → length b < 1 → backgrounds_of b ≡ listed_of b
list_empty [] l = refl
list_empty (c ∷ b) l = absurd (omega arith)

list_begun : (b : List ℕ) → get_or b 0 0 ≢ 108 → backgrounds_of b ≡ listed_of b
list_begun [] n = refl
list_begun (c ∷ b) n = ap (λ (t : Bool). if t then log_of (c ∷ b) else listed_of (c ∷ b)) (ne_eqb c 108 n)

listed : (c : After-hex_number) → backgrounds_of c.args.text.now ≡ listed_of c.args.text.now
listed c = elim c.if-text-lt1.branch [ then-text-lt1 w ↦ list_empty c.args.text.now (search rules) | else-text-lt1+in_default-1 w ↦ list_begun c.args.text.now (search rules) ]

pub returns-in_err-rest : goal.returns-in_err-rest
returns-in_err-rest c = refused _ _ c.from_residual.result c.in_err-rest.field-0.0 c.from_residual.ensures (log_begun c.args.text.now c.in-108.len_at_least (omega arith) ∙ stuck_on _ c.in_err-rest.ensures)

pub returns-in_err-rest-2 : goal.returns-in_err-rest-2
returns-in_err-rest-2 c =
    let r = c.from_residual-in_err-rest-2 in
    refused _ _ r.result c.in_err-rest-2.field-0.0 r.ensures (log_begun c.args.text.now c.in-108.len_at_least (omega arith) ∙ took_on _ c.in_ok-rest.ensures (stuck_on _ c.in_err-rest-2.ensures))

pub returns-in-108 : goal.returns-in-108
returns-in-108 c =
    let ends : (o : Read (Unit {0})) → end_of c.in_ok-rest-2.rest.now ≡ o → backgrounds_of c.args.text.now ≡ onward o (λ _ x. took (Some log) x) = λ o e.
    log_begun c.args.text.now c.in-108.len_at_least (omega arith) ∙ took_on _ c.in_ok-rest.ensures (took_on _ c.in_ok-rest-2.ensures (ap (λ o. onward o (λ _ x. took (Some log) x)) e)) in
    on_both c.ended.result c.ended.ensures (λ r h. ends (took tt r.1.now) h.1 ∙ ap (λ v. took (Some (plain_content v)) r.1.now) (sym h.0)) (λ left h. ends (stuck left.now) h)

pub returns-in_err-first : goal.returns-in_err-first
returns-in_err-first c =
    let r = c.from_residual-in_err-first in
    refused _ _ r.result c.in_err-first.field-0.0 r.ensures (listed (goal.at.returns-in_err-first c).After-hex_number ∙ stuck_on _ c.in_err-first.ensures)

pub returns-in_err-next : goal.returns-in_err-next
returns-in_err-next c =
    let r = c.from_residual-in_err-next in
    refused _ _ r.result c.in_err-next.field-0.0 r.ensures
    (listed (goal.at.returns-in_err-next c).After-hex_number
    ∙ took_on _ c.in_ok-first.ensures (stuck_on _ (all_stuck next_word_of word_next c.in_ok-first.further.now c.loop-next.left.now _ c.loop-next.invariant c.in_err-next.ensures)))

pub invariant_of-words : goal.invariant_of-words
invariant_of-words c = all_whole next_word_of word_next c.in_ok-first.further.now c.loop-next.left.now c.in_ok-next.rest.now c.loop-next.invariant c.in_ok-next.ensures c.in_default-next.is

pub returns-in_default-next : goal.returns-in_default-next
returns-in_default-next c =
    listed (goal.at.returns-in_default-next c).After-hex_number
    ∙ took_on _ c.in_ok-first.ensures
    (took_on _ (all_took next_word_of word_next c.in_ok-first.further.now c.loop-next.left.now c.in_ok-next.rest.now c.loop-next.invariant c.in_ok-next.ensures c.in_default-next.is) refl)

pub loop-next-smaller : goal.loop-next-smaller
loop-next-smaller c = shorter next_word_of word_next c.loop-next.left.now c.in_ok-next.rest.now c.in-Some.field-0 c.in_ok-next.ensures c.in-Some.is

pub loop-next-preserved : goal.loop-next-preserved
loop-next-preserved c = goes_on next_word_of word_next c.in_ok-first.further.now c.loop-next.left.now c.in_ok-next.rest.now c.in-Some.field-0 c.loop-next.invariant c.in_ok-next.ensures c.in-Some.is
