-- Inner. For proofs and private contracts alone: what the code answers, by what the machine does.
use Rattle.std.specs.Prelude.{◌≡◌, ◌||◌, ⊤, true, Result, Ok, Err}
use Rattle.bist_text.specs.Lexed.{Both}
use Rattle.verilog_tree.specs.declared.tree.Module.{Module}
use Rattle.verilog_tree.specs.Plain.{plain_module}
use Rattle.verilog_tree.specs.Tokens.{Number}
use Rattle.verilog_tree.specs.declared.fault.ReadFault.{ReadFault}
use Rattle.verilog_tree.specs.declared.fault.ReadFault.TheVariants as R
use Rattle.verilog_read.specs.declared.places.Outer.{Outer}
use Rattle.verilog_read.specs.declared.places.Place.{Place}
use Rattle.verilog_read.specs.declared.read.Next.{Next}
use Rattle.verilog_text.specs.declared.fault.ByteFault.{ByteFault}
use Rattle.verilog_text.specs.declared.fault.ByteFault.TheVariants.{Unexpected, TooDeep, LongName, OutOfRange, NoMemory}
use Rattle.verilog_read.specs.declared.lexer.LexFault.{LexFault}
use Rattle.verilog_read.specs.declared.lexer.LexFault.TheVariants as L
use Rattle.verilog_read.specs.declared.lexer.LexStep.{LexStep}
use Rattle.verilog_read.specs.declared.lexer.Scanner.{Scanner}
use Rattle.verilog_text.specs.Answering.{Taking, Leads, Refused, OneTooMany, Move, Goes, Stops, Answer, Finished, Faulty, while_live, stuck}
use Rattle.verilog_text.specs.inner.Answering.{read_within}
use Rattle.verilog_text.specs.Expected.{taken, takes_names, takes_literals}
use Rattle.verilog_read.specs.inner.Lexemes.{lexer_of, tokens_of}
use Rattle.verilog_text.specs.Lexing.{Lexer, last}
use Rattle.verilog_text.specs.Places.{State}
use Rattle.verilog_read.specs.inner.Spots.{state_of}

abbrev pub both_of : Place → Outer → Scanner → Both State Lexer
both_of p w l = record { parser = state_of p w; lexer = lexer_of l }

-- a token that ends
abbrev pub Takes : Taking → Result (Unit {0}) ByteFault → Place → Outer → Type 0
Takes t (Ok u) p w = t ≡ Leads (state_of p w)
Takes t (Err Unexpected) p w = t ≡ Refused
Takes t (Err TooDeep) p w = t ≡ OneTooMany
Takes t (Err NoMemory) p w = ⊤
Takes t (Err LongName) p w = ⊥
Takes t (Err OutOfRange) p w = ⊥

abbrev pub Moves : Move → Result Next ByteFault → Place → Outer → Type 0
Moves m (Ok n) p w = m ≡ Goes (both_of p w n.lexer) n.fresh
Moves m (Err NoMemory) p w = ⊤
Moves m (Err Unexpected) p w = m ≡ Stops Unexpected
Moves m (Err TooDeep) p w = m ≡ Stops TooDeep
Moves m (Err LongName) p w = m ≡ Stops LongName
Moves m (Err OutOfRange) p w = m ≡ Stops OutOfRange

-- a byte of the lexer
abbrev pub Scanned : Both State Lexer → Move → Result LexStep LexFault → Type 0
Scanned q m (Ok r) = m ≡ read_within q (lexer_of r.lexer) (tokens_of r.token)
Scanned q m (Err L.Unexpected) = m ≡ stuck q.parser (last q.lexer)
Scanned q m (Err L.LongName) = m ≡ while_live (takes_names q.parser) (Stops LongName)
Scanned q m (Err L.LargeNumber) = m ≡ while_live (taken q.parser (Number true 0) || takes_literals q.parser) (Stops OutOfRange)
Scanned q m (Err L.WrongLiteral) = m ≡ while_live (takes_literals q.parser) (Stops OutOfRange)

-- the module that is read, or the fault; or there was no memory
abbrev pub Gives : Answer → Result Module ReadFault → Type 0
Gives a (Ok m) = a ≡ Finished (plain_module m)
Gives a (Err R.NoMemory) = ⊤
Gives a (Err fault) = a ≡ Faulty fault
