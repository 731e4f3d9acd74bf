use Rattle.std.proofs.Common.{◌≡◌, ◌≢◌, ◌+◌, ℕ, not, Vec, Box, Global, List, cond, map, drop, sym, ap, ◌∙◌}
use Rattle.std.proofs.lemmas.Bool.{ne_eqb}
use Rattle.verilog_tree.specs.Meaning.{truth}
use Rattle.verilog_code.specs.declared.code.Code.{Code}
use Rattle.verilog_code.specs.declared.action.Action.{Action}
use Rattle.verilog_code.specs.declared.action.Action as A
use Rattle.verilog_code.specs.declared.action.Branch.{Branch}
use Rattle.verilog_code.specs.Code.{meaning}
use Rattle.verilog_code.specs.Places.{put}
use Rattle.verilog_code.specs.Actions.{Run, action_run, actions_run, branch_run, run_branch}
use Rattle.verilog_code.proofs.Loops.{next_of}
use Rattle.verilog_code.proofs.action.+act.Goals as goal

pub act_all-loop-action-preserved : goal.act_all-loop-action-preserved
act_all-loop-action-preserved t c =
    let vs = c.args.values.now in
    let i = c.loop-action.action-index in
    ap (actions_run (drop (i + 1) c.args.actions.now) vs) c.act.ensures
    ∙ ap (λ l. actions_run l vs c.loop-action.next) (sym (next_of c.args.actions.now i c.action-item.result c.loop-action-test.true c.action-item.is))
    ∙ c.loop-action.invariant

set_runs : (place : ℕ) (x : Box Code Global) → action_run (A.Set place x) ≡ (λ vs old. put old place (meaning vs x.value))
set_runs place x = search A.the_lemmas

if_runs : (x : Box Code Global) (a b : Vec Action Global) → action_run (A.If x a b) ≡ (λ vs old. cond (truth (meaning vs x.value)) (actions_run a.items vs old) (actions_run b.items vs old))
if_runs x a b = search A.the_lemmas

case_runs : (x : Box Code Global) (bs : Vec Branch Global) (d : Vec Action Global) → action_run (A.Case x bs d) ≡ (λ vs old. run_branch (meaning vs x.value) (map branch_run bs.items) (actions_run d.items) vs old)
case_runs x bs d = search A.the_lemmas

-- what a node does, the action does
acted : (action node : Action) (does : Run) (vs old new : List ℕ) → action ≡ node → action_run node ≡ does → new ≡ does vs old → new ≡ action_run action vs old
acted action node does vs old new is runs e = e ∙ ap (λ (r : Run). r vs old) (sym (ap action_run is ∙ runs))

no_zero : (v w : ℕ) (x y new : List ℕ) → v ≢ 0 → v ≡ w → new ≡ x → new ≡ cond (truth w) x y
no_zero v w x y new other is e = e ∙ ap (λ t. cond (not t) x y) (sym (ne_eqb v 0 other)) ∙ ap (λ k. cond (truth k) x y) is

zeros : (v w : ℕ) (x y new : List ℕ) → v ≡ 0 → v ≡ w → new ≡ y → new ≡ cond (truth w) x y
zeros v w x y new none is e = e ∙ ap (λ k. cond (truth k) x y) (sym none ∙ is)

pub act-returns-in-Set : goal.act-returns-in-Set
act-returns-in-Set t c =
    let vs = c.args.values.now in
    let old = c.args.next.now in
    acted c.args.action.now _ _ vs old _ c.in-Set.is (set_runs c.in-Set.place c.in-Set.x)
    (c.set.ensures ∙ ap (put old c.in-Set.place) (c.value.ensures ∙ ap (meaning vs) c.deref.ensures))

pub act-returns-then-value-ne0 : goal.act-returns-then-value-ne0
act-returns-then-value-ne0 t c =
    let vs = c.args.values.now in
    let old = c.args.next.now in
    acted c.args.action.now _ _ vs old _ c.in-If.is (if_runs c.in-If.c c.in-If.a c.in-If.b) (
    no_zero c.value-in-If.result _ _ _ _ c.if-value-ne0.true (c.value-in-If.ensures ∙ ap (meaning vs) c.deref-in-If.ensures)
    (c.act_all.ensures ∙ ap (λ l. actions_run l vs old) c.deref-then-value-ne0.ensures.value))

pub act-returns-else-value-ne0 : goal.act-returns-else-value-ne0
act-returns-else-value-ne0 t c =
    let vs = c.args.values.now in
    let old = c.args.next.now in
    acted c.args.action.now _ _ vs old _ c.in-If.is (if_runs c.in-If.c c.in-If.a c.in-If.b) (
    zeros c.value-in-If.result _ _ _ _ c.if-value-ne0.false (c.value-in-If.ensures ∙ ap (meaning vs) c.deref-in-If.ensures)
    (c.act_all-else-value-ne0.ensures ∙ ap (λ l. actions_run l vs old) c.deref-else-value-ne0.ensures.value))

-- the branch of a value
branched : (v w : ℕ) (bs cs : List Branch) (other : Run) (vs old : List ℕ) → v ≡ w → bs ≡ cs → run_branch v (map branch_run bs) other vs old ≡ run_branch w (map branch_run cs) other vs old
branched v w bs cs other vs old same is = ap (λ k. run_branch k (map branch_run bs) other vs old) same ∙ ap (λ l. run_branch w (map branch_run l) other vs old) is

pub act-returns-then-not-act_branch : goal.act-returns-then-not-act_branch
act-returns-then-not-act_branch t c =
    let vs = c.args.values.now in
    let old = c.args.next.now in
    let other = actions_run c.in-Case.other.items in
    acted c.args.action.now _ _ vs old _ c.in-Case.is (case_runs c.in-Case.x c.in-Case.branches c.in-Case.other) (
    c.act_all-then-not-act_branch.ensures ∙ ap (λ l. actions_run l vs c.act_branch.new.next) c.deref-then-not-act_branch.ensures.value ∙ c.if-not-act_branch.ensures other
    ∙ branched c.value-in-Case.result _ _ _ other vs old (c.value-in-Case.ensures ∙ ap (meaning vs) c.deref-in-Case.ensures) c.deref-in-Case-2.ensures.value)

pub act-returns-else-not-act_branch : goal.act-returns-else-not-act_branch
act-returns-else-not-act_branch t c =
    let vs = c.args.values.now in
    let old = c.args.next.now in
    let other = actions_run c.in-Case.other.items in
    acted c.args.action.now _ _ vs old _ c.in-Case.is (case_runs c.in-Case.x c.in-Case.branches c.in-Case.other) (
    c.if-not-act_branch.ensures other
    ∙ branched c.value-in-Case.result _ _ _ other vs old (c.value-in-Case.ensures ∙ ap (meaning vs) c.deref-in-Case.ensures) c.deref-in-Case-2.ensures.value)
