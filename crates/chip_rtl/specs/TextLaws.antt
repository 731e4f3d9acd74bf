-- Public. What holds of the tokens of chips.
use Rattle.std.specs.Prelude.{◌≡◌, List}
use Rattle.verilog_tree.specs.Plain.{ModuleTree}
use Rattle.verilog_tree.specs.Tokens.{Token}
use Rattle.verilog_tree.specs.Grammar.{Parenthesised}
use Rattle.verilog_tree.specs.Spells.{Derives, bounded}
use Rattle.chip_rtl.specs.ChipTree.{TopTree}
use Rattle.chip_rtl.specs.ChipGrammar.{ChipTokens}

-- No tokens are two modules.
abbrev pub NoTwoModules : Type 0
NoTwoModules = (ts : List Token) (m n : ModuleTree) → Derives Parenthesised bounded ts m → Derives Parenthesised bounded ts n → m ≡ n

-- No tokens are two chips.
abbrev pub NoTwoChips : Type 0
NoTwoChips = (ms ns : List ModuleTree) (t u : TopTree) (ts : List Token) → ChipTokens bounded ms t ts
    → ChipTokens bounded ns u ts → (ms ≡ ns) × (t ≡ u)
