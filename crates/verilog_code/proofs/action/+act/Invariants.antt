use Rattle.std.proofs.Common.{◌≡◌, map, drop}
use Rattle.verilog_code.specs.Actions.{Run, actions_run, run_branch, branch_run}
use Rattle.verilog_code.proofs.action.+act.Given as goal

abbrev pub invariant-act_all-loop-action : goal.invariant-act_all-loop-action
invariant-act_all-loop-action l = actions_run (drop l.action-index l.actions) l.values l.next ≡ actions_run l.actions l.values l.initial.next

abbrev pub invariant-act_branch-loop-branch : goal.invariant-act_branch-loop-branch
invariant-act_branch-loop-branch l = (d : Run) → run_branch l.subject (map branch_run (drop l.branch-index l.branches)) d l.values l.next ≡ run_branch l.subject (map branch_run l.branches) d l.values l.initial.next
