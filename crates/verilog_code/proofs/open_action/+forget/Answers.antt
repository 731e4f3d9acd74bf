use Rattle.std.proofs.Common.{◌≡◌, ◌+◌, map, drop, sym, ap, ◌∙◌}
use Rattle.verilog_code.specs.declared.action.Action.{Action}
use Rattle.verilog_code.specs.OpenActions.{OpenValues, OpenDoing, forget_all, forget_branches, open_action, open_branch}
use Rattle.verilog_code.proofs.Loops.{next_of}
use Rattle.verilog_code.proofs.Opened.{set_opened, if_opened, case_opened}
use Rattle.verilog_code.proofs.open_action.+forget.Goals as goal

pub forget_all-loop-action-preserved : goal.forget_all-loop-action-preserved
forget_all-loop-action-preserved t c =
    let actions = c.args.actions.now in
    let i = c.loop-action.action-index in
    ap (forget_all (map open_action (drop (i + 1) actions))) c.forget.ensures
    ∙ ap (λ l. forget_all (map open_action l) c.loop-action.next) (sym (next_of actions i c.action-item.result c.loop-action-test.true c.action-item.is))
    ∙ c.loop-action.invariant

-- what a node forgets, the action forgets
forgets : (action node : Action) (does : OpenDoing) (old new : OpenValues) → action ≡ node → open_action node ≡ does → new ≡ does.forget old → new ≡ (open_action action).forget old
forgets action node does old new is opened e = e ∙ ap (λ d. d.forget old) (sym (ap open_action is ∙ opened))

pub forget-returns-in-Set : goal.forget-returns-in-Set
forget-returns-in-Set t c = forgets c.args.action.now _ _ c.args.next.now _ c.in-Set.is (set_opened c.in-Set.place c.in-Set.field-1) c.set.ensures

pub forget-returns-in-If : goal.forget-returns-in-If
forget-returns-in-If t c =
    let node = c.in-If in
    forgets c.args.action.now _ _ c.args.next.now _ node.is (if_opened node.field-0 node.a node.b) (
    c.forget_all-in-If.ensures ∙ ap (λ l. forget_all (map open_action l) c.forget_all.new.next) c.deref-in-If.ensures.value
    ∙ ap (forget_all (map open_action node.b.items)) (c.forget_all.ensures ∙ ap (λ l. forget_all (map open_action l) c.args.next.now) c.deref.ensures.value))

pub forget-returns-in-Case : goal.forget-returns-in-Case
forget-returns-in-Case t c =
    let node = c.in-Case in
    forgets c.args.action.now _ _ c.args.next.now _ node.is (case_opened node.field-0 node.branches node.other) (
    c.forget_all-in-Case.ensures ∙ ap (λ l. forget_all (map open_action l) c.forget_branches.new.next) c.deref-in-Case-2.ensures.value
    ∙ ap (forget_all (map open_action node.other.items)) (c.forget_branches.ensures ∙ ap (λ l. forget_branches (map open_branch l) c.args.next.now) c.deref-in-Case.ensures.value))
