-- What the actions of statements do, by the code and the actions in them.
use Rattle.std.proofs.Common.{◌≡◌, ℕ, Vec, Box, Global, List, cond, map, sym, ap, subst, ◌∙◌}
use Rattle.arrayvec.specs.ArrayString.{ArrayString}
use Rattle.verilog_tree.specs.declared.tree.Expr.{Expr}
use Rattle.verilog_tree.specs.declared.tree.Arm.{Arm}
use Rattle.verilog_tree.specs.declared.tree.Stmt.{Stmt}
use Rattle.verilog_tree.specs.declared.tree.Stmt as S
use Rattle.verilog_tree.specs.Plain.{Statement, plain, plain_stmt, plain_stmts, arms}
use Rattle.verilog_tree.specs.inner.Plain.{plain_arm}
use Rattle.verilog_tree.specs.Meaning.{truth}
use Rattle.verilog_tree.specs.Names.{number}
use Rattle.verilog_tree.proofs.Layers.{plain_set, plain_if, plain_case}
use Rattle.verilog_code.specs.declared.code.Code.{Code}
use Rattle.verilog_code.specs.declared.action.Action.{Action}
use Rattle.verilog_code.specs.declared.action.Branch.{Branch}
use Rattle.verilog_code.specs.declared.action.Action as A
use Rattle.verilog_code.specs.Code.{meaning}
use Rattle.verilog_code.specs.Actions.{Run, run_all, action_run, actions_run, branch_run, run_branch}
use Rattle.verilog_code.specs.Places.{put}
use Rattle.verilog_code.specs.OpenActions.{open_run_all, forget_all, open_action, open_branch, open_set, open_if, open_case}
use Rattle.verilog_cycle.specs.Compile.{Compiles}
use Rattle.verilog_cycle.specs.Does.{Does, DoesAll, DoesArms}
use Rattle.verilog_cycle.specs.OpenDoes.{OpenDoes, OpenDoesAll, OpenDoesArms}
use Rattle.verilog_cycle.proofs.Acting.{set_does, if_does, case_does}
use Rattle.verilog_cycle.proofs.OpenActing.{set_opens, if_opens, case_opens}

set_runs : (place : ℕ) (x : Box Code Global) → action_run (A.Set place x) ≡ (λ vs old. put old place (meaning vs x.value))
set_runs place x = search A.the_lemmas

set_opened : (place : ℕ) (x : Box Code Global) → open_action (A.Set place x) ≡ open_set place x.value
set_opened place x = search A.the_lemmas

if_runs : (x : Box Code Global) (a b : Vec Action Global) → action_run (A.If x a b) ≡ (λ vs old. cond (truth (meaning vs x.value)) (actions_run a.items vs old) (actions_run b.items vs old))
if_runs x a b = search A.the_lemmas

if_opened : (x : Box Code Global) (a b : Vec Action Global) → open_action (A.If x a b) ≡ open_if x.value (map open_action a.items) (map open_action b.items)
if_opened x a b = search A.the_lemmas

case_runs : (x : Box Code Global) (bs : Vec Branch Global) (d : Vec Action Global) → action_run (A.Case x bs d) ≡ (λ vs old. run_branch (meaning vs x.value) (map branch_run bs.items) (actions_run d.items) vs old)
case_runs x bs d = search A.the_lemmas

case_opened : (x : Box Code Global) (bs : Vec Branch Global) (d : Vec Action Global) → open_action (A.Case x bs d) ≡ open_case x.value (map open_branch bs.items) (map open_action d.items)
case_opened x bs d = search A.the_lemmas

pub branch_runs : (ls : Vec ℕ Global) (b : Vec Action Global) → branch_run (record { labels = ls; body = b }) ≡ record { labels = ls.items; run = run_all (map action_run b.items) }
branch_runs ls b = search A.the_lemmas

pub branch_opened : (ls : Vec ℕ Global) (b : Vec Action Global) → open_branch (record { labels = ls; body = b }) ≡ record { labels = ls.items; run = open_run_all (map open_action b.items); forget = forget_all (map open_action b.items) }
branch_opened ls b = search A.the_lemmas

module _ (w : List ℕ → ℕ) (ns : List (List ℕ)) where
  pub set_acts : (s : Stmt) (n : ArrayString) (y : Expr) (k place : ℕ) (x : Box Code Global) → s ≡ S.Set n y → place ≡ number ns n.bytes → Compiles w ns (plain y) k x.value → Does w ns (plain_stmt s) (action_run (A.Set place x))
  set_acts s n y k place x is e g =
      subst (λ (z : Statement). Does w ns z (action_run (A.Set place x))) (sym (ap plain_stmt is ∙ plain_set n y))
      (set_does w ns n.bytes (plain y) k x.value (action_run (A.Set place x)) g (λ vs old. ap (λ (r : Run). r vs old) (set_runs place x) ∙ ap (λ p. put old p (meaning vs x.value)) e))

  pub set_acts_open : (s : Stmt) (n : ArrayString) (y : Expr) (k place : ℕ) (x : Box Code Global) → s ≡ S.Set n y → place ≡ number ns n.bytes → Compiles w ns (plain y) k x.value → OpenDoes w ns (plain_stmt s) (open_action (A.Set place x))
  set_acts_open s n y k place x is e g =
      subst (λ (z : Statement). OpenDoes w ns z (open_action (A.Set place x))) (sym (ap plain_stmt is ∙ plain_set n y))
      (set_opens w ns n.bytes (plain y) k x.value (open_action (A.Set place x)) g (set_opened place x ∙ ap (λ p. open_set p x.value) e))

  pub if_acts : (s : Stmt) (y : Expr) (c d : Vec Stmt Global) (cs ds : List Stmt) (k : ℕ) (x : Box Code Global) (a b : Vec Action Global) → s ≡ S.If y c d → cs ≡ c.items → ds ≡ d.items → Compiles w ns (plain y) k x.value → DoesAll w ns (plain_stmts cs) (map action_run a.items) → DoesAll w ns (plain_stmts ds) (map action_run b.items) → Does w ns (plain_stmt s) (action_run (A.If x a b))
  if_acts s y c d cs ds k x a b is ec ed g da db =
      subst (λ (z : Statement). Does w ns z (action_run (A.If x a b))) (sym (ap plain_stmt is ∙ plain_if y c d))
      (if_does w ns (plain y) (plain_stmts c.items) (plain_stmts d.items) k x.value (map action_run a.items) (map action_run b.items) (action_run (A.If x a b)) g
      (subst (λ l. DoesAll w ns (plain_stmts l) (map action_run a.items)) ec da) (subst (λ l. DoesAll w ns (plain_stmts l) (map action_run b.items)) ed db) (λ vs old. ap (λ (r : Run). r vs old) (if_runs x a b)))

  pub if_acts_open : (s : Stmt) (y : Expr) (c d : Vec Stmt Global) (cs ds : List Stmt) (k : ℕ) (x : Box Code Global) (a b : Vec Action Global) → s ≡ S.If y c d → cs ≡ c.items → ds ≡ d.items → Compiles w ns (plain y) k x.value → OpenDoesAll w ns (plain_stmts cs) (map open_action a.items) → OpenDoesAll w ns (plain_stmts ds) (map open_action b.items) → OpenDoes w ns (plain_stmt s) (open_action (A.If x a b))
  if_acts_open s y c d cs ds k x a b is ec ed g da db =
      subst (λ (z : Statement). OpenDoes w ns z (open_action (A.If x a b))) (sym (ap plain_stmt is ∙ plain_if y c d))
      (if_opens w ns (plain y) (plain_stmts c.items) (plain_stmts d.items) k x.value (map open_action a.items) (map open_action b.items) (open_action (A.If x a b)) g
      (subst (λ l. OpenDoesAll w ns (plain_stmts l) (map open_action a.items)) ec da) (subst (λ l. OpenDoesAll w ns (plain_stmts l) (map open_action b.items)) ed db) (if_opened x a b))

  pub case_acts : (s : Stmt) (y : Expr) (cs : Vec Arm Global) (d : Vec Stmt Global) (as' : List Arm) (ds : List Stmt) (k : ℕ) (x : Box Code Global) (bs : Vec Branch Global) (b : Vec Action Global) → s ≡ S.Case y cs d → as' ≡ cs.items → ds ≡ d.items → Compiles w ns (plain y) k x.value → DoesArms w ns (arms (map plain_arm as')) (map branch_run bs.items) → DoesAll w ns (plain_stmts ds) (map action_run b.items) → Does w ns (plain_stmt s) (action_run (A.Case x bs b))
  case_acts s y cs d as' ds k x bs b is ec ed g da db =
      subst (λ (z : Statement). Does w ns z (action_run (A.Case x bs b))) (sym (ap plain_stmt is ∙ plain_case y cs d))
      (case_does w ns (plain y) (arms (map plain_arm cs.items)) (plain_stmts d.items) k x.value (map branch_run bs.items) (map action_run b.items) (action_run (A.Case x bs b)) g
      (subst (λ l. DoesArms w ns (arms (map plain_arm l)) (map branch_run bs.items)) ec da) (subst (λ l. DoesAll w ns (plain_stmts l) (map action_run b.items)) ed db) (λ vs old. ap (λ (r : Run). r vs old) (case_runs x bs b)))

  pub case_acts_open : (s : Stmt) (y : Expr) (cs : Vec Arm Global) (d : Vec Stmt Global) (as' : List Arm) (ds : List Stmt) (k : ℕ) (x : Box Code Global) (bs : Vec Branch Global) (b : Vec Action Global) → s ≡ S.Case y cs d → as' ≡ cs.items → ds ≡ d.items → Compiles w ns (plain y) k x.value → OpenDoesArms w ns (arms (map plain_arm as')) (map open_branch bs.items) → OpenDoesAll w ns (plain_stmts ds) (map open_action b.items) → OpenDoes w ns (plain_stmt s) (open_action (A.Case x bs b))
  case_acts_open s y cs d as' ds k x bs b is ec ed g da db =
      subst (λ (z : Statement). OpenDoes w ns z (open_action (A.Case x bs b))) (sym (ap plain_stmt is ∙ plain_case y cs d))
      (case_opens w ns (plain y) (arms (map plain_arm cs.items)) (plain_stmts d.items) k x.value (map open_branch bs.items) (map open_action b.items) (open_action (A.Case x bs b)) g
      (subst (λ l. OpenDoesArms w ns (arms (map plain_arm l)) (map open_branch bs.items)) ec da) (subst (λ l. OpenDoesAll w ns (plain_stmts l) (map open_action b.items)) ed db) (case_opened x bs b))
