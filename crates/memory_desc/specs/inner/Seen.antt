-- Inner. For proofs and private contracts alone: what the code has of a line, as a value.
use Rattle.std.specs.Prelude.{ℕ, Option, Some, Result, Ok, Err, option_map}
use Rattle.bist_text.specs.declared.keyed_lines.LineFault.{LineFault}
use Rattle.memory_desc.specs.LineText.{Content, version, name, words, bits, latency, polarity, pause, scramble, log, backgrounds}
use Rattle.memory_desc.specs.Statements.{Statement}
use Rattle.memory_desc.specs.declared.content.Content.{Content as ReadContent}
use Rattle.memory_desc.specs.declared.content.Content.TheVariants as C
use Rattle.memory_desc.specs.declared.content.Quantity.{Quantity}
use Rattle.memory_desc.specs.declared.content.Quantity.TheVariants as Q
use Rattle.memory_desc.specs.declared.content.Statement.{Statement as ReadStatement}

abbrev pub number_content : Quantity → ℕ → Content
number_content Q.Version n = version n
number_content Q.Words n = words n
number_content Q.Bits n = bits n
number_content Q.Latency n = latency n
number_content Q.Pause n = pause n

-- the number or the polarity that a content is; another where it is none
abbrev pub number_or : ℕ → Option Content → ℕ
number_or otherwise (Some (version n)) = n
number_or otherwise (Some (words n)) = n
number_or otherwise (Some (bits n)) = n
number_or otherwise (Some (latency n)) = n
number_or otherwise (Some (pause n)) = n
number_or otherwise (Some (polarity w)) = w
number_or otherwise other = otherwise

abbrev pub plain_content : ReadContent → Content
plain_content (C.Number quantity n) = number_content quantity n
plain_content (C.Name b) = name b.now
plain_content (C.Polarity w) = polarity w
plain_content (C.Scramble bit ts) = scramble bit ts
plain_content C.Log = log
plain_content (C.Backgrounds ws) = backgrounds ws

abbrev pub plain_statement : ReadStatement → Statement
plain_statement s = record { line = s.line; content = plain_content s.content }

abbrev pub plain_line_content : Option ReadContent → Option Content
plain_line_content v = option_map plain_content v

abbrev pub plain_said : Result (Option ReadContent) LineFault → Result (Option Content) LineFault
plain_said (Ok v) = Ok (plain_line_content v)
plain_said (Err f) = Err f
