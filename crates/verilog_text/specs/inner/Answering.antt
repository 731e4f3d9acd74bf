-- Inner. For proofs and private contracts alone, beside Answering: what the reader does at each byte and at the end, with the place where the token that is read began.
use Rattle.std.specs.Prelude.{Option, Some, None}
use Rattle.bist_text.specs.Lexed.{Both}
use Rattle.verilog_tree.specs.Tokens.{Token}
use Rattle.verilog_text.specs.Lexing.{Lexer}
use Rattle.verilog_text.specs.Places.{State}
use Rattle.verilog_text.specs.Answering.{take_token, Move, is_between, arrive, ended}

-- the same, of a state within the limits
abbrev pub read_within : Both State Lexer → Lexer → Option Token → Move
read_within q l None = arrive q.parser l (is_between q.lexer)
read_within q l (Some t) = ended (take_token q.parser t) l
