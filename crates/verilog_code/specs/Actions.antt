-- Public. What statements over numbered values do to the next values.
use Rattle.std.specs.Prelude.{ℕ, Bool, false, cond, nat_eq, ◌||◌, List, [], ◌∷◌, map}
use Rattle.verilog_tree.specs.Meaning.{truth}
use Rattle.verilog_code.specs.declared.action.Action.{Action}
use Rattle.verilog_code.specs.declared.action.Action.TheOpen.{Action-F, Branch-F, Set, If, Case}
use Rattle.verilog_code.specs.declared.action.Action.TheFolds.{fold-Action, fold-Branch}
use Rattle.verilog_code.specs.declared.action.Branch.{Branch}
use Rattle.verilog_code.specs.Code.{meaning}
use Rattle.verilog_code.specs.Places.{put}

-- from the values and the next values so far to the next values
abbrev pub Run : Type 0
Run = List ℕ → List ℕ → List ℕ

-- labels, and what is done at one of them
pub record BranchRun : Type 0 where
  pub labels : List ℕ
  pub run : Run

abbrev pub run_all : List Run → Run
run_all [] vs old = old
run_all (r ∷ rs) vs old = run_all rs vs (r vs old)

abbrev pub labelled : ℕ → List ℕ → Bool
labelled v [] = false
labelled v (l ∷ ls) = nat_eq v l || labelled v ls

-- the first branch with this label, or else the last
abbrev pub run_branch : ℕ → List BranchRun → Run → Run
run_branch v [] d vs old = d vs old
run_branch v (b ∷ bs) d vs old = cond (labelled v b.labels) (b.run vs old) (run_branch v bs d vs old)

abbrev pub action_layer : Action-F Run BranchRun → Run
action_layer (Set n x) vs old = put old n (meaning vs x.value)
action_layer (If c a b) vs old = cond (truth (meaning vs c.value)) (run_all a.items vs old) (run_all b.items vs old)
action_layer (Case x bs d) vs old = run_branch (meaning vs x.value) bs.items (run_all d.items) vs old

abbrev pub branch_layer : Branch-F Run BranchRun → BranchRun
branch_layer b = record { labels = b.labels.items; run = run_all b.body.items }

abbrev pub action_run : Action → Run
action_run = fold-Action Run BranchRun action_layer branch_layer

abbrev pub branch_run : Branch → BranchRun
branch_run = fold-Branch Run BranchRun action_layer branch_layer

-- what actions in order do
abbrev pub actions_run : List Action → Run
actions_run as' = run_all (map action_run as')
