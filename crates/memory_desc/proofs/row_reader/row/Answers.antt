use Rattle.memory_desc.proofs.Common.{ap, byte_of, next_term_of, refl, sym, term_of, ◌∙◌, ◌≡◌}
use Rattle.memory_desc.specs.inner.Heard.{row_from_of, row_of}
use Rattle.memory_desc.proofs.Passed.{refused, stuck_on, took_on}
use Rattle.memory_desc.proofs.TermLaws.{term_next}
use Rattle.memory_desc.proofs.Left.{all_stuck, all_took, all_whole, goes_on, shorter}
use Rattle.memory_desc.proofs.row_reader.row.Goals.{After-next_term}
use Rattle.memory_desc.proofs.row_reader.row.Goals as goal

pub returns-in_err-text : goal.returns-in_err-text
returns-in_err-text c = refused _ _ c.from_residual.result c.in_err-text.field-0.0 c.from_residual.ensures (stuck_on _ c.in_err-text.ensures)

pub returns-in_err-bit : goal.returns-in_err-bit
returns-in_err-bit c =
    let r = c.from_residual-in_err-bit in refused _ _ r.result c.in_err-bit.field-0.0 r.ensures (took_on _ c.in_ok-text.ensures (stuck_on _ c.in_err-bit.ensures))

pub returns-in_err-text-2 : goal.returns-in_err-text-2
returns-in_err-text-2 c =
    let r = c.from_residual-in_err-text-2 in
    refused _ _ r.result c.in_err-text-2.field-0.0 r.ensures
    (took_on _ c.in_ok-text.ensures (took_on _ c.in_ok-bit.ensures (stuck_on _ (ap (byte_of 61) (sym c.blanks.ensures) ∙ c.in_err-text-2.ensures))))

pub returns-in_err-first : goal.returns-in_err-first
returns-in_err-first c =
    let r = c.from_residual-in_err-first in
    refused _ _ r.result c.in_err-first.field-0.0 r.ensures
    (took_on _ c.in_ok-text.ensures (took_on _ c.in_ok-bit.ensures (took_on _ (ap (byte_of 61) (sym c.blanks.ensures) ∙ c.in_ok-text-2.ensures) (stuck_on _ (ap term_of (sym c.blanks-2.ensures) ∙ c.in_err-first.ensures)))))

-- up to the first term
first : (c : After-next_term) → row_of c.args.text.now ≡ row_from_of c.in_ok-bit.bit c.in_ok-first.first c.in_ok-first.further.now
first c =
    took_on _ c.in_ok-text.ensures
    (took_on _ c.in_ok-bit.ensures (took_on _ (ap (byte_of 61) (sym c.blanks.ensures) ∙ c.in_ok-text-2.ensures) (took_on _ (ap term_of (sym c.blanks-2.ensures) ∙ c.in_ok-first.ensures) refl)))

pub returns-in_err-next : goal.returns-in_err-next
returns-in_err-next c =
    let r = c.from_residual-in_err-next in
    refused _ _ r.result c.in_err-next.field-0.0 r.ensures
    (first (goal.at.returns-in_err-next c).After-next_term ∙ stuck_on _ (all_stuck next_term_of term_next c.in_ok-first.further.now c.loop-next.left.now _ c.loop-next.invariant c.in_err-next.ensures))

pub invariant_of-terms : goal.invariant_of-terms
invariant_of-terms c = all_whole next_term_of term_next c.in_ok-first.further.now c.loop-next.left.now c.in_ok-next.rest.now c.loop-next.invariant c.in_ok-next.ensures c.in_default.is

pub returns-in_default : goal.returns-in_default
returns-in_default c =
    first (goal.at.returns-in_default c).After-next_term
    ∙ took_on _ (all_took next_term_of term_next c.in_ok-first.further.now c.loop-next.left.now c.in_ok-next.rest.now c.loop-next.invariant c.in_ok-next.ensures c.in_default.is) refl

pub loop-next-smaller : goal.loop-next-smaller
loop-next-smaller c = shorter next_term_of term_next c.loop-next.left.now c.in_ok-next.rest.now c.in-Some.field-0 c.in_ok-next.ensures c.in-Some.is

pub loop-next-preserved : goal.loop-next-preserved
loop-next-preserved c = goes_on next_term_of term_next c.in_ok-first.further.now c.loop-next.left.now c.in_ok-next.rest.now c.in-Some.field-0 c.loop-next.invariant c.in_ok-next.ensures c.in-Some.is
