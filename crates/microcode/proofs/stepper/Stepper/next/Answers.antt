use Rattle.std.proofs.Common.{Option, Some, ◌∷◌, ◌∙◌, sym, ap, subst}
use Rattle.microcode.specs.declared.place.Extent.{Extent}
use Rattle.microcode.specs.declared.place.CodePlace.{CodePlace}
use Rattle.microcode.specs.Running.{IsAt, IsBehind}
use Rattle.microcode.specs.Steps.{Step, Stepping, IsSteppingAt, LeavesAt, Leaves, one_run}
use Rattle.microcode.proofs.Behind.{within}
use Rattle.microcode.proofs.Stepped.{behind_leaves, step_is}
use Rattle.microcode.proofs.stepper.Stepper.next.Goals as goal

pub instr_at-instr-requires : goal.instr_at-instr-requires
instr_at-instr-requires c =
    let s = c.self.inside in
    let at = subst (λ (p : Option CodePlace). IsSteppingAt s.code.now s.words p) c.in_ok-place.was c.self.invariant.somewhere in
    within at.0 (one_run s.words) s.code.now c.in_ok-place.place at.1

pub returns : goal.returns
returns c march left h =
    let s = c.self.inside in
    let p = c.in_ok-place.place in
    let here : LeavesAt march s.code.now s.words s.place left = subst (λ (t : Stepping). Leaves march t left) (sym c.self.view_is) h in
    let at : LeavesAt march s.code.now s.words (Some p) left = subst (λ (q : Option CodePlace). LeavesAt march s.code.now s.words q left) c.in_ok-place.was here in
    let q = c.place_behind-self-inside.result in
    let behind : IsBehind march s.code.now (one_run s.words) p q =
    subst (λ (g : Extent). IsAt march s.code.now g p → IsBehind march s.code.now g p q) c.one_run.ensures (c.place_behind-self-inside.ensures march) at.0 in
    let b = behind_leaves march s.code.now s.words p q c.self.invariant.some at.0 behind in
    let step = step_is march s.code.now s.words p c.instr_at-instr.result c.index_of-index.result c.self.invariant.some at.0 c.instr_at-instr.ensures c.index_of-index.ensures in
    (b.0, at.1 ∙ b.1 ∙ ap (λ (x : Step). x ∷ b.0) step, b.2)
