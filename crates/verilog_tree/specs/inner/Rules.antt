-- Inner. For proofs and private contracts alone, beside Rules: the first rule that a module breaks.
use Rattle.std.specs.Prelude.{◌≡◌, ℕ, Option, None, Result, Ok, Err}
use Rattle.verilog_tree.specs.declared.fault.TreeFault.{TreeFault}
use Rattle.verilog_tree.specs.Rules.{Break, Tells}

-- The same, and else the answer is this number.
abbrev pub RefusesOr : Option Break → ℕ → Result ℕ TreeFault → Type 0
RefusesOr o k (Ok j) = (o ≡ None) × (j ≡ k)
RefusesOr o k (Err f) = Tells f o
