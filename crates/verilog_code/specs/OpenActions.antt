-- Public. What statements over numbered values do to the next values where some are open.
use Rattle.std.specs.Prelude.{ℕ, cond, List, [], ◌∷◌, Option, Some, None}
use Rattle.verilog_tree.specs.Meaning.{truth}
use Rattle.verilog_code.specs.declared.action.Action.{Action}
use Rattle.verilog_code.specs.declared.action.Action.TheOpen.{Action-F, Branch-F, Set, If, Case}
use Rattle.verilog_code.specs.declared.action.Action.TheFolds.{fold-Action, fold-Branch}
use Rattle.verilog_code.specs.declared.action.Branch.{Branch}
use Rattle.verilog_code.specs.declared.code.Code.{Code}
use Rattle.verilog_code.specs.Actions.{labelled}
use Rattle.verilog_code.specs.OpenCode.{open_meaning}
use Rattle.verilog_code.specs.Places.{put}

abbrev pub OpenValues : Type 0
OpenValues = List (Option ℕ)

-- what is done to the next values so far, and what becomes of them where it isn't known whether it is done
pub record OpenDoing : Type 0 where
  pub run : OpenValues → OpenValues → OpenValues
  pub forget : OpenValues → OpenValues

pub record OpenBranch : Type 0 where
  pub labels : List ℕ
  pub run : OpenValues → OpenValues → OpenValues
  pub forget : OpenValues → OpenValues

abbrev pub open_run_all : List OpenDoing → OpenValues → OpenValues → OpenValues
open_run_all [] vs old = old
open_run_all (d ∷ ds) vs old = open_run_all ds vs (d.run vs old)

abbrev pub forget_all : List OpenDoing → OpenValues → OpenValues
forget_all [] old = old
forget_all (d ∷ ds) old = forget_all ds (d.forget old)

abbrev pub forget_branches : List OpenBranch → OpenValues → OpenValues
forget_branches [] old = old
forget_branches (b ∷ bs) old = forget_branches bs (b.forget old)

-- the first branch with this label, or else the last
abbrev pub open_run_branch : ℕ → List OpenBranch → (OpenValues → OpenValues → OpenValues) → OpenValues → OpenValues → OpenValues
open_run_branch v [] d vs old = d vs old
open_run_branch v (b ∷ bs) d vs old = cond (labelled v b.labels) (b.run vs old) (open_run_branch v bs d vs old)

-- by the number, where there is one
abbrev pub by_number : Option ℕ → (ℕ → OpenValues) → OpenValues → OpenValues
by_number None f unknown = unknown
by_number (Some v) f unknown = f v

abbrev pub open_action_layer : Action-F OpenDoing OpenBranch → OpenDoing
open_action_layer (Set n x) = record {
  run = λ vs old. put old n (open_meaning vs x.value);
  forget = λ old. put old n None;
}
open_action_layer (If c a b) = record {
  run = λ vs old. by_number (open_meaning vs c.value)
      (λ v. cond (truth v) (open_run_all a.items vs old) (open_run_all b.items vs old))
      (forget_all b.items (forget_all a.items old));
  forget = λ old. forget_all b.items (forget_all a.items old);
}
open_action_layer (Case x bs d) = record {
  run = λ vs old. by_number (open_meaning vs x.value) (λ v. open_run_branch v bs.items (open_run_all d.items) vs old)
      (forget_all d.items (forget_branches bs.items old));
  forget = λ old. forget_all d.items (forget_branches bs.items old);
}

abbrev pub open_branch_layer : Branch-F OpenDoing OpenBranch → OpenBranch
open_branch_layer b = record { labels = b.labels.items; run = open_run_all b.body.items; forget = forget_all b.body.items }

abbrev pub open_action : Action → OpenDoing
open_action = fold-Action OpenDoing OpenBranch open_action_layer open_branch_layer

abbrev pub open_branch : Branch → OpenBranch
open_branch = fold-Branch OpenDoing OpenBranch open_action_layer open_branch_layer

-- ---- what single actions do

abbrev pub open_set : ℕ → Code → OpenDoing
open_set n c = record {
  run = λ vs old. put old n (open_meaning vs c);
  forget = λ old. put old n None;
}

abbrev pub open_if : Code → List OpenDoing → List OpenDoing → OpenDoing
open_if c a b = record {
  run = λ vs old. by_number (open_meaning vs c) (λ v. cond (truth v) (open_run_all a vs old) (open_run_all b vs old))
      (forget_all b (forget_all a old));
  forget = λ old. forget_all b (forget_all a old);
}

abbrev pub open_case : Code → List OpenBranch → List OpenDoing → OpenDoing
open_case c bs d = record {
  run = λ vs old. by_number (open_meaning vs c) (λ v. open_run_branch v bs (open_run_all d) vs old) (forget_all d (forget_branches bs old));
  forget = λ old. forget_all d (forget_branches bs old);
}
