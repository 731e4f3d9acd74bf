-- Public. What the actions of statements have to do where some values are open.
use Rattle.std.specs.Prelude.{◌≡◌, ℕ, true, List, Option, None}
use Rattle.verilog_tree.specs.Plain.{Statement, Statements, Arms, ModuleItem}
use Rattle.verilog_tree.specs.Formed.{statement_formed, statements_formed, arms_formed}
use Rattle.verilog_tree.specs.Rules.{statement_widths, statements_widths, arms_widths}
use Rattle.verilog_open.specs.Open.{unsure, targets_of, targets, arm_targets, open_sets_of, open_sets, open_arm_sets, open_block_sets}
use Rattle.verilog_code.specs.Places.{run_blocks}
use Rattle.verilog_code.specs.OpenActions.{OpenValues, OpenDoing, OpenBranch, open_run_all, forget_all, forget_branches, open_run_branch}
use Rattle.verilog_cycle.specs.Compile.{Narrow, Below, open_valued}
use Rattle.verilog_open.specs.Laws.{BlocksWide}
use Rattle.verilog_cycle.specs.Does.{written}

-- the numbers of these names are within their widths
abbrev pub OpenWithin : (List ℕ → ℕ) → List (List ℕ) → OpenValues → Type 0
OpenWithin w ns vs = (m : List ℕ) → Below (open_valued ns vs m) (w m)

-- what is done is what a statement that keeps the rules sets, and what is forgotten is all that it may set
pub record OpenDoes (w : List ℕ → ℕ) (ns : List (List ℕ)) (s : Statement) (d : OpenDoing) : Type 0 where
  pub does : Narrow w → statement_formed s ≡ true → statement_widths w s ≡ None → (vs : OpenValues) → OpenWithin w ns vs
      → (old : OpenValues) → d.run vs old ≡ written ns (open_sets_of w (open_valued ns vs) s) old
  pub forgets : (old : OpenValues) → d.forget old ≡ written ns (unsure (targets_of s)) old

pub record OpenDoesAll (w : List ℕ → ℕ) (ns : List (List ℕ)) (ss : Statements) (ds : List OpenDoing) : Type 0 where
  pub does : Narrow w → statements_formed ss ≡ true → statements_widths w ss ≡ None → (vs : OpenValues)
      → OpenWithin w ns vs → (old : OpenValues)
      → open_run_all ds vs old ≡ written ns (open_sets w (open_valued ns vs) ss) old
  pub forgets : (old : OpenValues) → forget_all ds old ≡ written ns (unsure (targets ss)) old

pub record OpenDoesArms (w : List ℕ → ℕ) (ns : List (List ℕ)) (as' : Arms) (bs : List OpenBranch) : Type 0 where
  pub does : Narrow w → arms_formed as' ≡ true → (k : ℕ) → arms_widths w k as' ≡ None → (vs : OpenValues)
      → OpenWithin w ns vs → (v : ℕ) (d : OpenValues → OpenValues → OpenValues) (ps : List (List ℕ × Option ℕ))
      → ((old : OpenValues) → d vs old ≡ written ns ps old) → (old : OpenValues)
      → open_run_branch v bs d vs old ≡ written ns (open_arm_sets w (open_valued ns vs) v as' ps) old
  pub forgets : (old : OpenValues) → forget_branches bs old ≡ written ns (unsure (arm_targets as')) old

pub record OpenDoesBlocks (w : List ℕ → ℕ) (ns : List (List ℕ)) (is : List ModuleItem) (bs : List (List OpenDoing)) : Type 0 where
  pub does : Narrow w → BlocksWide w is → (vs : OpenValues) → OpenWithin w ns vs → (old : OpenValues)
      → run_blocks open_run_all bs vs old ≡ written ns (open_block_sets w (open_valued ns vs) is) old
