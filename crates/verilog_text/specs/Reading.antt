-- Public. The reader of a module's text as a machine over bytes, within limits.
use Rattle.std.specs.Prelude.{ℕ, List, Option, None, if◌then◌else◌}
use Rattle.bist_text.specs.Lexed.{Both, both_step, both_value}
use Rattle.bist_text.specs.Machine.{Outcome, scan}
use Rattle.verilog_tree.specs.declared.tokens.Within.TheVariants.{Between}
use Rattle.verilog_tree.specs.Plain.{ModuleTree}
use Rattle.verilog_tree.specs.Grammar.{Style}
use Rattle.verilog_tree.specs.Spells.{Limits, keeps}
use Rattle.verilog_tree.specs.Tokens.{Token}
use Rattle.verilog_text.specs.Expected.{live_in}
use Rattle.verilog_text.specs.Lexing.{Lexer, InGap, lex, last}
use Rattle.verilog_text.specs.Places.{State, AtItem, Begin}
use Rattle.verilog_text.specs.Steps.{step, value}

-- a token that keeps the limits
abbrev pub step_in : Limits → State → Token → Option State
step_in limits s t = if keeps limits t then step limits.counts s t else None

-- where a text begins
abbrev pub start : Style → Both State Lexer
start y = record { parser = AtItem (Begin y); lexer = InGap Between }

-- what a byte does, and what the end
abbrev pub byte_step : Limits → Both State Lexer → ℕ → Option (Both State Lexer)
byte_step limits q c = both_step lex (step_in limits) (live_in limits) q c

abbrev pub end_value : Limits → Both State Lexer → Option ModuleTree
end_value limits q = both_value last (step_in limits) value q

-- what the machine makes of a text
abbrev pub reads : Style → Limits → List ℕ → Outcome ModuleTree
reads y limits b = scan (byte_step limits) (end_value limits) b (start y) 0
