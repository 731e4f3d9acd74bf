use Rattle.std.proofs.Common.{◌≡◌, ◌≢◌, ◌+◌, ℕ, not, Option, Some, None, cond, map, drop, sym, ap, ◌∙◌}
use Rattle.std.proofs.lemmas.Bool.{ne_eqb}
use Rattle.verilog_tree.specs.Meaning.{truth}
use Rattle.verilog_code.specs.declared.action.Action.{Action}
use Rattle.verilog_code.specs.OpenCode.{open_meaning}
use Rattle.verilog_code.specs.Places.{put}
use Rattle.verilog_code.specs.OpenActions.{OpenValues, OpenDoing, open_run_branch, by_number, forget_all, forget_branches, open_run_all, open_action, open_branch}
use Rattle.verilog_code.proofs.Loops.{next_of}
use Rattle.verilog_code.proofs.Opened.{set_opened, if_opened, case_opened}
use Rattle.verilog_code.proofs.open_action.+open_act.Goals as goal

pub act_all-loop-action-preserved : goal.act_all-loop-action-preserved
act_all-loop-action-preserved t c =
    let actions = c.args.actions.now in
    let vs = c.args.values.now in
    let i = c.loop-action.action-index in
    ap (open_run_all (map open_action (drop (i + 1) actions)) vs) c.act.ensures
    ∙ ap (λ l. open_run_all (map open_action l) vs c.loop-action.next) (sym (next_of actions i c.action-item.result c.loop-action-test.true c.action-item.is))
    ∙ c.loop-action.invariant

-- what a node does, the action does
acted : (action node : Action) (does : OpenDoing) (vs old new : OpenValues) → action ≡ node → open_action node ≡ does → new ≡ does.run vs old → new ≡ (open_action action).run vs old
acted action node does vs old new is opened e = e ∙ ap (λ d. d.run vs old) (sym (ap open_action is ∙ opened))

unknown : (o : Option ℕ) (f : ℕ → OpenValues) (new all : OpenValues) → o ≡ None → new ≡ all → new ≡ by_number o f all
unknown o f new all none e = e ∙ ap (λ p. by_number p f all) (sym none)

known : (o : Option ℕ) (v : ℕ) (f : ℕ → OpenValues) (new all : OpenValues) → o ≡ Some v → new ≡ f v → new ≡ by_number o f all
known o v f new all some e = e ∙ ap (λ p. by_number p f all) (sym some)

no_zero : (v : ℕ) (x y new : OpenValues) → v ≢ 0 → new ≡ x → new ≡ cond (truth v) x y
no_zero v x y new other e = e ∙ ap (λ t. cond (not t) x y) (sym (ne_eqb v 0 other))

zeros : (v : ℕ) (x y new : OpenValues) → v ≡ 0 → new ≡ y → new ≡ cond (truth v) x y
zeros v x y new is e = e ∙ ap (λ w. cond (truth w) x y) (sym is)

pub act-returns-in-Set : goal.act-returns-in-Set
act-returns-in-Set t c =
    let vs = c.args.values.now in
    acted c.args.action.now _ _ vs c.args.next.now _ c.in-Set.is (set_opened c.in-Set.place c.in-Set.x) (c.set.ensures ∙ ap (put c.args.next.now c.in-Set.place) (c.open_value.ensures ∙ ap (open_meaning vs) c.deref.ensures))

pub act-returns-in-None : goal.act-returns-in-None
act-returns-in-None t c =
    let vs = c.args.values.now in
    let old = c.args.next.now in
    let worth = sym (c.open_value-in-If.ensures ∙ ap (open_meaning vs) c.deref-in-If.ensures) in
    acted c.args.action.now _ _ vs old _ c.in-If.is (if_opened c.in-If.c c.in-If.a c.in-If.b) (
    unknown _ _ _ _ (worth ∙ c.in-None.is)
    (c.forget_all-in-None.ensures ∙ ap (λ l. forget_all (map open_action l) c.forget_all.new.next) c.deref-in-None-2.ensures.value
    ∙ ap (forget_all (map open_action c.in-If.b.items)) (c.forget_all.ensures ∙ ap (λ l. forget_all (map open_action l) old) c.deref-in-None.ensures.value)))

pub act-returns-then-c-ne0 : goal.act-returns-then-c-ne0
act-returns-then-c-ne0 t c =
    let vs = c.args.values.now in
    let old = c.args.next.now in
    let worth = sym (c.open_value-in-If.ensures ∙ ap (open_meaning vs) c.deref-in-If.ensures) in
    acted c.args.action.now _ _ vs old _ c.in-If.is (if_opened c.in-If.c c.in-If.a c.in-If.b) (
    known _ c.in-Some.c _ _ _ (worth ∙ c.in-Some.is)
    (no_zero c.in-Some.c _ _ _ c.if-c-ne0.true (c.act_all.ensures ∙ ap (λ l. open_run_all (map open_action l) vs old) c.deref-then-c-ne0.ensures.value)))

pub act-returns-else-c-ne0 : goal.act-returns-else-c-ne0
act-returns-else-c-ne0 t c =
    let vs = c.args.values.now in
    let old = c.args.next.now in
    let worth = sym (c.open_value-in-If.ensures ∙ ap (open_meaning vs) c.deref-in-If.ensures) in
    acted c.args.action.now _ _ vs old _ c.in-If.is (if_opened c.in-If.c c.in-If.a c.in-If.b) (
    known _ c.in-Some.c _ _ _ (worth ∙ c.in-Some.is)
    (zeros c.in-Some.c _ _ _ c.if-c-ne0.false (c.act_all-else-c-ne0.ensures ∙ ap (λ l. open_run_all (map open_action l) vs old) c.deref-else-c-ne0.ensures.value)))

pub act-returns-in-None-open_value : goal.act-returns-in-None-open_value
act-returns-in-None-open_value t c =
    let vs = c.args.values.now in
    let old = c.args.next.now in
    let worth = sym (c.open_value-in-Case.ensures ∙ ap (open_meaning vs) c.deref-in-Case.ensures) in
    acted c.args.action.now _ _ vs old _ c.in-Case.is (case_opened c.in-Case.x c.in-Case.branches c.in-Case.other) (
    unknown _ _ _ _ (worth ∙ c.in-None-open_value.is)
    (c.forget_all-in-None-open_value.ensures ∙ ap (λ l. forget_all (map open_action l) c.forget_branches.new.next) c.deref-in-None-open_value-2.ensures.value
    ∙ ap (forget_all (map open_action c.in-Case.other.items)) (c.forget_branches.ensures ∙ ap (λ l. forget_branches (map open_branch l) old) c.deref-in-None-open_value.ensures.value)))

pub act-returns-then-not-act_branch : goal.act-returns-then-not-act_branch
act-returns-then-not-act_branch t c =
    let vs = c.args.values.now in
    let old = c.args.next.now in
    let worth = sym (c.open_value-in-Case.ensures ∙ ap (open_meaning vs) c.deref-in-Case.ensures) in
    let v = c.in-Some-open_value.subject in
    let other = open_run_all (map open_action c.in-Case.other.items) in
    acted c.args.action.now _ _ vs old _ c.in-Case.is (case_opened c.in-Case.x c.in-Case.branches c.in-Case.other) (
    known _ v _ _ _ (worth ∙ c.in-Some-open_value.is)
    (c.act_all-then-not-act_branch.ensures ∙ ap (λ l. open_run_all (map open_action l) vs c.act_branch.new.next) c.deref-then-not-act_branch.ensures.value
    ∙ c.if-not-act_branch.ensures other ∙ ap (λ l. open_run_branch v (map open_branch l) other vs old) c.deref-in-Some-open_value.ensures.value))

pub act-returns-else-not-act_branch : goal.act-returns-else-not-act_branch
act-returns-else-not-act_branch t c =
    let vs = c.args.values.now in
    let old = c.args.next.now in
    let worth = sym (c.open_value-in-Case.ensures ∙ ap (open_meaning vs) c.deref-in-Case.ensures) in
    let v = c.in-Some-open_value.subject in
    let other = open_run_all (map open_action c.in-Case.other.items) in
    acted c.args.action.now _ _ vs old _ c.in-Case.is (case_opened c.in-Case.x c.in-Case.branches c.in-Case.other) (
    known _ v _ _ _ (worth ∙ c.in-Some-open_value.is)
    (c.if-not-act_branch.ensures other ∙ ap (λ l. open_run_branch v (map open_branch l) other vs old) c.deref-in-Some-open_value.ensures.value))
