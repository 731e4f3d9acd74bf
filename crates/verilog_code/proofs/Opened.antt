-- What a node of an action does, by the code and the actions in it.
use Rattle.std.proofs.Common.{◌≡◌, ℕ, Vec, Box, Global, map}
use Rattle.verilog_code.specs.declared.code.Code.{Code}
use Rattle.verilog_code.specs.declared.action.Action.{Action}
use Rattle.verilog_code.specs.declared.action.Action as A
use Rattle.verilog_code.specs.declared.action.Branch.{Branch}
use Rattle.verilog_code.specs.OpenActions.{open_set, open_if, open_case, open_action, open_branch}

pub set_opened : (place : ℕ) (x : Box Code Global) → open_action (A.Set place x) ≡ open_set place x.value
set_opened place x = search A.the_lemmas

pub if_opened : (x : Box Code Global) (a b : Vec Action Global) → open_action (A.If x a b) ≡ open_if x.value (map open_action a.items) (map open_action b.items)
if_opened x a b = search A.the_lemmas

pub case_opened : (x : Box Code Global) (bs : Vec Branch Global) (d : Vec Action Global) → open_action (A.Case x bs d) ≡ open_case x.value (map open_branch bs.items) (map open_action d.items)
case_opened x bs d = search A.the_lemmas
