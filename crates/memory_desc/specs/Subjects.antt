-- Trusted. What statements speak of, and the statements about something.
use Rattle.std.specs.Prelude.{◌==◌, Bool, true, false, List, Option, find}
use Rattle.memory_desc.specs.LineText.{Content, version, name, words, bits, latency, polarity, pause, scramble, log, backgrounds}
pub use Rattle.bist_text.specs.KeyedTexts.{content_of}
use Rattle.memory_desc.specs.Statements.{Statement}
use Rattle.memory_desc.specs.declared.content.Subject.{Subject}
use Rattle.memory_desc.specs.declared.content.Subject.TheVariants.{Version, Name, Words, Bits, Latency, Polarity, Pause, Row, Backgrounds}

abbrev pub subject : Content → Subject
subject (version n) = Version
subject (name b) = Name
subject (words n) = Words
subject (bits n) = Bits
subject (latency n) = Latency
subject (polarity w) = Polarity
subject (pause n) = Pause
subject (scramble i ts) = Row i
subject log = Backgrounds
subject (backgrounds ws) = Backgrounds

abbrev pub is_same : Subject → Subject → Bool
is_same Version Version = true
is_same Name Name = true
is_same Words Words = true
is_same Bits Bits = true
is_same Latency Latency = true
is_same Polarity Polarity = true
is_same Pause Pause = true
is_same (Row i) (Row j) = i == j
is_same Backgrounds Backgrounds = true
is_same q r = false

abbrev pub is_about : Subject → Statement → Bool
is_about q s = is_same q (subject s.content)

-- the first statement about something
abbrev pub about : Subject → List Statement → Option Statement
about q ss = find (is_about q) ss

-- what the first statement about something says
abbrev pub said : Subject → List Statement → Option Content
said q ss = content_of (about q ss)
