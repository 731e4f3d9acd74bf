use Rattle.std.proofs.Common.{◌≡◌, ℕ, slice_index, ◌∙◌, inl, inr}
use Rattle.scrambler.specs.Linear.{dot}
use Rattle.scrambler.proofs.Clearing.{none_taken}
use Rattle.scrambler.proofs.LinearLemmas.{dot_below, two_digits}
use Rattle.scrambler.proofs.elimination.first_taken.Goals as goal

pub loop-l-preserved : goal.loop-l-preserved
loop-l-preserved c =
    let taken : ℕ → ℕ = λ k. dot c.args.row (slice_index c.args.vectors.now k) in
    let digits = dot_below c.args.row (slice_index c.args.vectors.now c.loop-l.l) in
    let here : taken c.loop-l.l ≡ 0 =
    elim (two_digits (taken c.loop-l.l) digits) [ inl z ↦ z | inr o ↦ absurd (c.if-dot-eq1.false (c.dot.ensures ∙ o)) ] in
    none_taken taken c.args.from c.loop-l.l c.loop-l.invariant here
