use Rattle.std.proofs.Common.{◌∙◌, subst, List, length, ◌≤◌}
use Rattle.std.proofs.lemmas.Bool.{false≢true}
use Rattle.march_core.specs.March.{MarchElement, all_ops, IsMarch}
use Rattle.march_core.specs.Building.{IsFilled, IsRefused}
use Rattle.march_core.specs.Operation.{IsConsistent}
use Rattle.march_core.proofs.Built.{filled_march}
use Rattle.march_core.proofs.Scanning.{refused_no_march}
use Rattle.march_core.proofs.Refusals.{refuses_so, refuses_none}
use Rattle.march_core.proofs.builder.MarchBuilder.finish.Goals as goal

pub from_elements-requires-clause-march : goal.from_elements-requires-clause-march
from_elements-requires-clause-march c =
    filled_march c.self.inside.elements.items c.self.inside.total c.self.invariant
    (subst (λ (l : List MarchElement). length l ≤ 64) c.as_slice.ensures.value c.as_slice.ensures.fits)
    (subst IsFilled c.as_slice.ensures.value (c.is_filled.ensures.0 c.if-not-is_filled.false))
    (subst (λ (l : List MarchElement). IsConsistent (all_ops l)) c.as_slice-2.ensures.value c.in_default.ensures)

pub returns-in-Err-clause-variant : goal.returns-in-Err-clause-variant
returns-in-Err-clause-variant c =
    let same = c.as_slice-2.ensures.value ∙ c.self.view_is in (
      (λ e. absurd (false≢true e)),
      λ march. absurd (refused_no_march c.args.self c.in-Err.fault (subst (λ (l : List MarchElement). IsRefused l c.in-Err.fault) same c.in-Err.ensures) march),
    )

pub returns-in-Err-clause-refusal : goal.returns-in-Err-clause-refusal
returns-in-Err-clause-refusal c =
    let same = c.as_slice-2.ensures.value ∙ c.self.view_is in
    refuses_so _ c.args.self c.in-Err.fault (subst (λ (l : List MarchElement). IsRefused l c.in-Err.fault) same c.in-Err.ensures)

pub returns-clause-refusal : goal.returns-clause-refusal
returns-clause-refusal c =
    let march : IsMarch c.self.inside.elements.items =
    filled_march c.self.inside.elements.items c.self.inside.total c.self.invariant
    (subst (λ (l : List MarchElement). length l ≤ 64) c.as_slice.ensures.value c.as_slice.ensures.fits)
    (subst IsFilled c.as_slice.ensures.value (c.is_filled.ensures.0 c.if-not-is_filled.false))
    (subst (λ (l : List MarchElement). IsConsistent (all_ops l)) c.as_slice-2.ensures.value c.in_default.ensures) in
    refuses_none _ c.args.self c.from_elements.result (subst IsMarch c.self.view_is march)
