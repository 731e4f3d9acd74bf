-- Inner. For proofs and private contracts alone, beside Refusals: what stands at a byte of a text that is refused, and which refusal is the first.
use Rattle.verilog_tree.specs.Grammar.{Parenthesised}
use Rattle.std.specs.Prelude.{ℕ, List}
use Rattle.verilog_tree.specs.declared.fault.ReadFault.{ReadFault}
use Rattle.verilog_text.specs.Refusals.{StandsIn}

abbrev pub Stands : List ℕ → ReadFault → Type 0
Stands b f = StandsIn Parenthesised b f
