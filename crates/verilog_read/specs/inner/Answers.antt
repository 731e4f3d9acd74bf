-- Inner. What the code answers to a token, by what the step is.
use Rattle.std.specs.Prelude.{true, if◌then◌else◌, ◌≡◌, Bool, false, ℕ, ⊤, List, Option, Some, None, Result, Ok, Err}
use Rattle.bist_text.specs.ReservedWords.{is_among, reserved_words}
use Rattle.verilog_tree.specs.Grammar.{Limit, Style, deeper}
use Rattle.verilog_read.specs.inner.Holding.{is_expected}
use Rattle.verilog_tree.specs.Tokens.{Token, Identifier}
use Rattle.verilog_tree.specs.declared.tokens.Mark.TheVariants.{Open}
use Rattle.arrayvec.specs.ArrayString.{ArrayString}
use Rattle.verilog_read.specs.inner.Frames.{holder}
use Rattle.verilog_text.specs.Places.{Head, Around, InAlways, Alone, begin_expr, State, AtExpr}
use Rattle.verilog_read.specs.inner.Spots.{state_of}
use Rattle.verilog_text.specs.Steps.{in_room}
use Rattle.verilog_read.specs.declared.places.Holder.{Holder}
use Rattle.verilog_read.specs.declared.places.Outer.{Outer}
use Rattle.verilog_read.specs.declared.fault.ParseFault.TheVariants.{Unexpected, NoMemory}
use Rattle.verilog_read.specs.declared.fault.ParseFault.{ParseFault}
use Rattle.verilog_read.specs.declared.places.Place.{Place}

-- the holder that was the innermost, or there was none
abbrev pub Released : Around → Option Holder → Around → Head → List ℕ → Type 0
Released old None new h c = old ≡ InAlways h c
Released old (Some f) new h c = old ≡ holder f new

-- what the code answers, by what the step is
abbrev pub Goes : Option State → Result Place ParseFault → Outer → Type 0
Goes st (Ok p) w = st ≡ Some (state_of p w)
Goes st (Err Unexpected) w = st ≡ None
Goes st (Err NoMemory) w = ⊤

-- an expression in parentheses begins, where there is room
abbrev pub opens_expr : Limit → ℕ → Style → Alone → Token → Option State
opens_expr limit q y b t = if is_expected Open t then in_room (deeper limit q) (λ p. AtExpr (begin_expr y p b)) else None

-- the name that a token is, if it is one
abbrev pub name_unless : Bool → List ℕ → Option (List ℕ)
name_unless true n = None
name_unless false n = Some n

abbrev pub a_name : Token → Option (List ℕ)
a_name (Identifier n) = name_unless (is_among n reserved_words) n
a_name _ = None

abbrev pub bytes_of : Option ArrayString → Option (List ℕ)
bytes_of None = None
bytes_of (Some n) = Some n.bytes

abbrev pub found : Option (List ℕ) → (List ℕ → State) → Option State
found None f = None
found (Some n) f = Some (f n)
