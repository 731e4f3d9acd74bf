use Rattle.std.proofs.Common.{◌≡◌, map, drop}
use Rattle.verilog_code.specs.OpenActions.{OpenValues, open_run_all, open_action, open_run_branch, open_branch}
use Rattle.verilog_code.proofs.open_action.+open_act.Given as goal

abbrev pub invariant-act_all-loop-action : goal.invariant-act_all-loop-action
invariant-act_all-loop-action l = open_run_all (map open_action (drop l.action-index l.actions)) l.values l.next ≡ open_run_all (map open_action l.actions) l.values l.initial.next

abbrev pub invariant-act_branch-loop-branch : goal.invariant-act_branch-loop-branch
invariant-act_branch-loop-branch l = (d : OpenValues → OpenValues → OpenValues) → open_run_branch l.subject (map open_branch (drop l.branch-index l.branches)) d l.values l.next ≡ open_run_branch l.subject (map open_branch l.branches) d l.values l.initial.next
