-- Inner. For proofs and private contracts alone, beside Reading: the reader of a module's text as a machine over bytes, within limits.
use Rattle.std.specs.Prelude.{◌≡◌, ℕ, true, List}
use Rattle.bist_text.specs.Lexed.{Both}
use Rattle.bist_text.specs.inner.Lexed.{both_rest}
use Rattle.verilog_tree.specs.Plain.{ModuleTree}
use Rattle.verilog_tree.specs.Spells.{Limits, all_keep}
use Rattle.verilog_tree.specs.Tokens.{Token}
use Rattle.verilog_text.specs.inner.Following.{rest}
use Rattle.verilog_text.specs.Lexing.{Lexer}
use Rattle.verilog_text.specs.inner.Lexing.{unread}
use Rattle.verilog_text.specs.Places.{State}

-- what may still follow, within the limits
abbrev pub rest_in : Limits → State → List Token → ModuleTree → Type 0
rest_in limits s ts v = (all_keep limits ts ≡ true) × rest limits.counts s ts v

abbrev pub unread_in : Limits → Both State Lexer → List ℕ → ModuleTree → Type 0
unread_in limits q b v = both_rest unread (rest_in limits) q b v
