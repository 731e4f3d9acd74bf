-- Public. What the actions of statements have to do.
use Rattle.std.specs.Prelude.{◌≡◌, ℕ, ◌^◌, ◌<◌, Bool, true, false, List, [], ◌∷◌, None}
use Rattle.verilog_tree.specs.Plain.{Statement, Statements, Arms, ModuleItem, AlwaysItem}
use Rattle.verilog_tree.specs.Formed.{statement_formed, statements_formed, arms_formed}
use Rattle.verilog_tree.specs.Meaning.{sets_of, sets, arm_sets, block_sets}
use Rattle.verilog_tree.specs.Rules.{statement_widths, statements_widths, arms_widths}
use Rattle.verilog_open.specs.Laws.{BlocksWide}
use Rattle.verilog_code.specs.Places.{put, run_blocks}
use Rattle.verilog_code.specs.Actions.{Run, BranchRun, run_all, run_branch}
use Rattle.verilog_cycle.specs.Compile.{Narrow}
use Rattle.verilog_tree.specs.Names.{number}
use Rattle.verilog_cycle.specs.Nets.{valued}

-- each of these pairs set, in order, where a name has a place among these values
abbrev pub written : {A : Type 0} → List (List ℕ) → List (List ℕ × A) → List A → List A
written ns [] old = old
written ns (p ∷ ps) old = written ns ps (put old (number ns p.0) p.1)

-- the values of these names are within their widths
abbrev pub Within : (List ℕ → ℕ) → List (List ℕ) → List ℕ → Type 0
Within w ns vs = (m : List ℕ) → valued ns vs m < 2 ^ w m

-- what is done is what a statement that keeps the rules sets
pub record Does (w : List ℕ → ℕ) (ns : List (List ℕ)) (s : Statement) (run : Run) : Type 0 where
  pub does : Narrow w → statement_formed s ≡ true → statement_widths w s ≡ None → (vs : List ℕ) → Within w ns vs
      → (old : List ℕ) → run vs old ≡ written ns (sets_of w (valued ns vs) s) old

pub record DoesAll (w : List ℕ → ℕ) (ns : List (List ℕ)) (ss : Statements) (rs : List Run) : Type 0 where
  pub does : Narrow w → statements_formed ss ≡ true → statements_widths w ss ≡ None → (vs : List ℕ) → Within w ns vs
      → (old : List ℕ) → run_all rs vs old ≡ written ns (sets w (valued ns vs) ss) old

pub record DoesArms (w : List ℕ → ℕ) (ns : List (List ℕ)) (as' : Arms) (bs : List BranchRun) : Type 0 where
  pub does : Narrow w → arms_formed as' ≡ true → (k : ℕ) → arms_widths w k as' ≡ None → (vs : List ℕ) → Within w ns vs
      → (v : ℕ) (d : Run) (ds : List (List ℕ × ℕ)) → ((old : List ℕ) → d vs old ≡ written ns ds old) → (old : List ℕ)
      → run_branch v bs d vs old ≡ written ns (arm_sets w (valued ns vs) v as' ds) old

pub record DoesBlocks (w : List ℕ → ℕ) (ns : List (List ℕ)) (is : List ModuleItem) (bs : List (List Run)) : Type 0 where
  pub does : Narrow w → BlocksWide w is → (vs : List ℕ) → Within w ns vs → (old : List ℕ)
      → run_blocks run_all bs vs old ≡ written ns (block_sets w (valued ns vs) is) old

abbrev pub is_always : ModuleItem → Bool
is_always (AlwaysItem c ss) = true
is_always other = false
