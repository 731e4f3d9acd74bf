-- Inner. For proofs and private contracts alone: what the code's operators that wait are.
use Rattle.std.specs.Prelude.{List, [], ◌∷◌}
use Rattle.verilog_tree.specs.Plain.{plain}
use Rattle.verilog_tree.specs.declared.tree.Expr.{Expr}
use Rattle.verilog_text.specs.Flat as F
use Rattle.verilog_read.specs.declared.operators.Left.{Left}

abbrev pub left_of : Left → F.Left
left_of l = record { operand = plain l.operand; operator = l.operator }

-- the last first, before others
abbrev pub lefts_on : List Left → List F.Left → List F.Left
lefts_on [] ws = ws
lefts_on (l ∷ ls) ws = lefts_on ls (left_of l ∷ ws)

abbrev pub lefts_of : List Left → List F.Left
lefts_of ls = lefts_on ls []

abbrev pub waiting_of : List Left → Expr → F.Waiting
waiting_of ls x = record { lefts = lefts_of ls; last = plain x }
