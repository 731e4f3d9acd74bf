-- Public. What the reader does at each byte and at the end, with the place where the token that is read began.
use Rattle.verilog_tree.specs.Spells.{bounded}
use Rattle.verilog_tree.specs.Grammar.{Style}
use Rattle.std.specs.Prelude.{ℕ, ◌+◌, Bool, true, false, List, [], ◌∷◌, Option, Some, None, if◌then◌else◌}
use Rattle.bist_text.specs.Lexed.{Both}
use Rattle.verilog_tree.specs.declared.tokens.Within.TheVariants.{Between}
use Rattle.verilog_tree.specs.Plain.{ModuleTree}
use Rattle.verilog_tree.specs.Tokens.{Token}
use Rattle.verilog_tree.specs.declared.fault.ReadFault.{ReadFault}
use Rattle.verilog_tree.specs.declared.fault.ReadFault.TheVariants as R
use Rattle.verilog_text.specs.declared.fault.ByteFault.{ByteFault}
use Rattle.verilog_text.specs.declared.fault.ByteFault.TheVariants.{Unexpected, TooDeep, LongName, OutOfRange, NoMemory}
use Rattle.verilog_text.specs.Expected.{taken, live, name_fits, number_fits, most_of}
use Rattle.verilog_text.specs.Lexing.{Lexer, InGap, lex, last}
use Rattle.verilog_text.specs.Places.{State}
use Rattle.verilog_text.specs.Reading.{start}
use Rattle.verilog_text.specs.Steps.{step, value}

-- what a token does: it leads to a state; the grammar does not take it; or it is an opening too many
pub data Taking : Type 0 where
  Leads : State → Taking
  Refused : Taking
  OneTooMany : Taking

abbrev pub taking : Option State → Bool → Taking
taking (Some s) t = Leads s
taking None true = OneTooMany
taking None false = Refused

abbrev pub take_token : State → Token → Taking
take_token s t = taking (step bounded s t) (taken s t)

-- what a byte does: it leads to a state, where a token may have begun with it; or it is refused
pub data Move : Type 0 where
  Goes : Both State Lexer → Bool → Move
  Stops : ByteFault → Move

abbrev pub is_between : Lexer → Bool
is_between (InGap Between) = true
is_between _ = false

-- where what is begun can go on
abbrev pub while_live : Bool → Move → Move
while_live true m = m
while_live false m = Stops Unexpected

-- within the limits of names and numbers
abbrev pub within : Bool → Bool → Move → Move
within false n m = Stops LongName
within true false m = Stops OutOfRange
within true true m = m

abbrev pub gone : State → Lexer → Bool → Move
gone s l fresh = Goes (record { parser = s; lexer = l }) fresh

abbrev pub arrive : State → Lexer → Bool → Move
arrive s l fresh = while_live (live s l) (gone s l fresh)

-- a token that ends
abbrev pub ended : Taking → Lexer → Move
ended (Leads s) l = arrive s l true
ended Refused l = Stops Unexpected
ended OneTooMany l = Stops TooDeep

-- a byte that begins and continues no token: the token before it may be an opening too many
abbrev pub stuck_at : Taking → Move
stuck_at (Leads s) = Stops Unexpected
stuck_at Refused = Stops Unexpected
stuck_at OneTooMany = Stops TooDeep

abbrev pub stuck : State → Option (Option Token) → Move
stuck s (Some (Some t)) = stuck_at (take_token s t)
stuck s (Some None) = Stops Unexpected
stuck s None = Stops Unexpected

abbrev pub read_on : Both State Lexer → Lexer → Option Token → Move
read_on q l None = while_live (live q.parser l)
    (within (name_fits l) (number_fits (most_of q.parser) l) (gone q.parser l (is_between q.lexer)))
read_on q l (Some t) = ended (take_token q.parser t) l

abbrev pub lexed : Both State Lexer → Option (Lexer × Option Token) → Move
lexed q None = stuck q.parser (last q.lexer)
lexed q (Some r) = read_on q r.0 r.1

abbrev pub byte_move : Both State Lexer → ℕ → Move
byte_move q c = lexed q (lex q.lexer c)

-- ---- a text

pub data Answer : Type 0 where
  Finished : ModuleTree → Answer
  Faulty : ReadFault → Answer

-- the fault of byte i, where the token that is read began at byte k
abbrev pub fault_at : ByteFault → ℕ → ℕ → ReadFault
fault_at Unexpected k i = R.Unexpected i
fault_at TooDeep k i = R.TooDeep k
fault_at LongName k i = R.LongName i
fault_at OutOfRange k i = R.OutOfRange i
fault_at NoMemory k i = R.NoMemory

abbrev pub value_answer : Option ModuleTree → Answer
value_answer None = Faulty R.Truncated
value_answer (Some v) = Finished v

abbrev pub last_answer : Taking → ℕ → Answer
last_answer (Leads s) k = value_answer (value s)
last_answer Refused k = Faulty R.Truncated
last_answer OneTooMany k = Faulty (R.TooDeep k)

abbrev pub end_answer : State → Option (Option Token) → ℕ → Answer
end_answer s None k = Faulty R.Truncated
end_answer s (Some None) k = value_answer (value s)
end_answer s (Some (Some t)) k = last_answer (take_token s t) k

abbrev pub on_move : Move → ℕ → ℕ → (Both State Lexer → ℕ → Answer) → Answer
on_move (Goes z fresh) k i f = f z (if fresh then i else k)
on_move (Stops f) k i g = Faulty (fault_at f k i)

abbrev pub run : List ℕ → Both State Lexer → ℕ → ℕ → Answer
run [] q k i = end_answer q.parser (last q.lexer) k
run (c ∷ b) q k i = on_move (byte_move q c) k i (λ z j. run b z j (i + 1))

abbrev pub answer : Style → List ℕ → Answer
answer y b = run b (start y) 0 0
