-- Inner. Where the lines of a statement stand.
use Rattle.std.specs.Prelude.{ℕ, ◌+◌, Bool, true, nat_lt, ◌&&◌}
use Rattle.verilog_tree.specs.Plain.{Statement, SetTo, IfElse, CaseOf, Statements, Done, Then, Arms, NoArm, ArmOf}

-- whether no line of the text at this depth stands deeper than 99
abbrev mutual
  pub statement_shallow : ℕ → Statement → Bool
  statement_shallow depth (SetTo n x) = nat_lt depth 100
  statement_shallow depth (IfElse c a b) = nat_lt depth 100 && statements_shallow (depth + 1) a && statements_shallow (depth + 1) b
  statement_shallow depth (CaseOf x as' d) = nat_lt depth 100 && arms_shallow (depth + 1) as' && nat_lt (depth + 1) 100
      && statements_shallow (depth + 2) d

  pub arms_shallow : ℕ → Arms → Bool
  arms_shallow depth NoArm = true
  arms_shallow depth (ArmOf ls ss as') = nat_lt depth 100 && statements_shallow (depth + 1) ss && arms_shallow depth as'

  pub statements_shallow : ℕ → Statements → Bool
  statements_shallow depth Done = true
  statements_shallow depth (Then s ss) = statement_shallow depth s && statements_shallow depth ss
