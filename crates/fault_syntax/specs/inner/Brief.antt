-- Inner. For proofs and private contracts alone, beside Brief: the reader of a state, and its answer.
use Rattle.std.specs.Prelude.{Option, Result, Ok, Err, option_map}
use Rattle.bist_text.specs.Machine.{Outcome, read, unexpected, truncated}
use Rattle.fault_syntax.specs.declared.reader.Reader.{Reader}
use Rattle.fault_syntax.specs.declared.reader.ReadItem.{ReadItem}
use Rattle.fault_syntax.specs.declared.reader.Refusal.{Refusal}
use Rattle.fault_syntax.specs.declared.reader.Refusal.TheVariants.{Unexpected, Truncated}
use Rattle.fault_syntax.specs.ListText.{Item}
use Rattle.fault_syntax.specs.inner.Places.{State}
use Rattle.fault_syntax.specs.Brief.{brief_of, read_item_of}

abbrev pub reader_of : State → Reader
reader_of s = record { place = s.place; agg = option_map brief_of s.agg; sense = brief_of s.sense; after = s.after; answer = s.answer; kind = s.kind }

-- what is answered for an outcome of the machine
abbrev pub answer_of : Outcome (Option Item) → Result ReadItem Refusal
answer_of (read v) = Ok (read_item_of v)
answer_of (unexpected k) = Err (Unexpected k)
answer_of truncated = Err Truncated
