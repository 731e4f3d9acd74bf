-- Inner. For proofs and private contracts alone, beside Printed: the layout of a module's text. Every line ends with a line feed, and each depth is two blanks.
use Rattle.std.specs.Prelude.{ℕ, ◌+◌, List, ◌++◌, codes}
use Rattle.verilog_tree.specs.Plain.{Statements}
use Rattle.verilog_emit.specs.Printed.{line, unless_empty, statements_text}

-- ---- statements

-- what stands behind the first body of an if
abbrev pub else_text : ℕ → Statements → List ℕ
else_text depth ss = unless_empty ss (line depth (codes "end else begin") ++ statements_text (depth + 1) ss)

-- what stands behind the arms of a case
abbrev pub default_text : ℕ → Statements → List ℕ
default_text depth ss = unless_empty ss (line (depth + 1) (codes "default: begin") ++ statements_text (depth + 2) ss
    ++ line (depth + 1) (codes "end"))
