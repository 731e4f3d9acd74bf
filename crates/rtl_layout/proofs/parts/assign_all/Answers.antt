use Rattle.std.proofs.Common.{◌≡◌, ◌∷◌, [], length, sym, ap, subst, ◌∙◌, append_assoc, append-nil, arith}
use Rattle.std.specs.Vec.Iter.{into_iter_items}
use Rattle.verilog_tree.specs.Plain.{AssignItem}
use Rattle.rtl_layout.specs.inner.Rows.{AreRows}
use Rattle.rtl_layout.proofs.Rowed.{one_written, nothing_left}
use Rattle.rtl_layout.proofs.parts.assign_all.Goals as goal

pub loop-target-preserved : goal.loop-target-preserved
loop-target-preserved g c =
    let at = c.loop-target in
    let steps = c.in-Some.ensures.steps.0 in (
      append_assoc at.yielded ((c.in-Some.target, c.in-Some.built) ∷ []) _ ∙ rw (← steps) at.invariant.0,
      one_written AssignItem at.yielded c.in-Some.target c.in-Some.built c.in_ok-built.field-0 _ _ _ at.invariant.1 c.in_ok-built.was c.in_ok-assign.ensures,
      let was = at.invariant.2 in
          let gone = c.in-Some.ensures.steps.1 in
          let short = ap length steps in
          omega arith,
    )

pub returns : goal.returns
returns g c =
    let at = c.loop-target in
    let none = c.in-None.ensures.steps in
    let empty : into_iter_items at.target-iterator ≡ [] = nothing_left _ (sym at.invariant.2 ∙ none.0) in
    let all = sym (append-nil at.yielded) ∙ rw empty at at.invariant.0 ∙ c.into_iter-target-iterator.ensures.into_iter_gives.0 ∙ c.in_ok-items.ensures.items in
    λ ws are. at.invariant.1 ws (subst (λ l. AreRows AssignItem l ws) (sym all) are)
