use Rattle.std.proofs.Common.{◌≡◌, map, drop}
use Rattle.verilog_code.specs.OpenActions.{forget_all, forget_branches, open_action, open_branch}
use Rattle.verilog_code.proofs.open_action.+forget.Given as goal

abbrev pub invariant-forget_all-loop-action : goal.invariant-forget_all-loop-action
invariant-forget_all-loop-action l = forget_all (map open_action (drop l.action-index l.actions)) l.next ≡ forget_all (map open_action l.actions) l.initial.next

abbrev pub invariant-forget_branches-loop-branch : goal.invariant-forget_branches-loop-branch
invariant-forget_branches-loop-branch l = forget_branches (map open_branch (drop l.branch-index l.branches)) l.next ≡ forget_branches (map open_branch l.branches) l.initial.next
