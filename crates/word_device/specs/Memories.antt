-- Trusted. Any memory of words behind its port. What it does to an operation, in an idle cycle and in a pause is given; the answers under way, the count of
-- idle cycles, the scrambled addresses and the inverted bits are those of every memory.
use Rattle.std.specs.Prelude.{◌==◌, ◌+◌, ◌^◌, ◌%◌, ℕ, zero, suc, Bool, true, false, nat_lt, if◌then◌else◌, Option, Some, None, List, [], ◌∷◌, ◌++◌, drop, slice_index, bit_xor}
use Rattle.scrambler.specs.Scrambling.{Scrambling, logical}
use Rattle.word_march.specs.declared.operations.WordOp.{WordOp}
use Rattle.word_device.specs.declared.device.Planted.{Planted}
use Rattle.word_device.specs.declared.device.PortCmd.{PortCmd}
use Rattle.word_device.specs.declared.shape.Shape.{Shape}
use Rattle.word_device.specs.Chips.{words_after, reply_to, words_paused}

-- ---- what all have

-- the index below n that has this logical address
abbrev pub index_at : Scrambling → ℕ → ℕ → Option ℕ
index_at s addr zero = None
index_at s addr (suc n) = if logical s n == addr then Some n else index_at s addr n

-- the index of the word with this address, of which the high bits play no part; some addresses may have no word
unfoldable pub addressed : Shape → ℕ → Option ℕ
addressed shape addr = index_at shape.scramble (addr % 2 ^ shape.scramble.width) shape.words

-- the command on the stored word
abbrev pub stored_op : Shape → PortCmd → ℕ → WordOp
stored_op shape cmd k = record { write = cmd.we; index = k; word = bit_xor (cmd.wdata % 2 ^ shape.bits) shape.polarity }

-- a read shows the stored word without the polarity, and a write shows 0
abbrev pub shown : Bool → ℕ → ℕ → ℕ
shown true polarity word = 0
shown false polarity word = bit_xor word polarity

-- the count of idle cycles goes up to the pause
abbrev pub idle_more : Shape → ℕ → ℕ
idle_more shape idle = if nat_lt idle shape.pause then idle + 1 else shape.pause

-- its answer goes to the end of those under way, and the first of them is what the cycle answers
abbrev pub queued : List ℕ → ℕ → List ℕ
queued pending own = pending ++ own ∷ []

-- ---- a memory

-- what an operation leaves of a memory's state, what it replies, and what an idle cycle leaves, and a pause
pub record Behaviour (S : Type 0) : Type 0 where
  pub after : S → WordOp → S
  pub reply : S → WordOp → ℕ
  pub idled : S → S
  pub paused : S → S

-- a memory behind its port: its state, the answers under way, and the count of idle cycles
pub record Memory (S : Type 0) : Type 0 where
  pub state : S
  pub pending : List ℕ
  pub idle : ℕ

module _ {S : Type 0} (b : Behaviour S) (shape : Shape) where
  -- a command that is enabled, on the word with its address
  abbrev pub acted_at : S → PortCmd → Option ℕ → S
  acted_at s cmd None = s
  acted_at s cmd (Some k) = b.after s (stored_op shape cmd k)

  abbrev pub answer_at : S → PortCmd → Option ℕ → ℕ
  answer_at s cmd None = 0
  answer_at s cmd (Some k) = shown cmd.we shape.polarity (b.reply s (stored_op shape cmd k))

  -- an idle cycle, which is a pause where the count has reached that
  abbrev pub rested : S → ℕ → S
  rested s idle = if idle_more shape idle == shape.pause then b.paused s else b.idled s

  -- what the command itself is answered; and what the cycle answers, the first of those under way
  abbrev pub own_answer : Memory S → PortCmd → ℕ
  own_answer m cmd = if cmd.en then answer_at m.state cmd (addressed shape cmd.addr) else 0

  abbrev pub cycle_answer : Memory S → PortCmd → ℕ
  cycle_answer m cmd = slice_index (queued m.pending (own_answer m cmd)) 0

  abbrev pub memory_after : Memory S → PortCmd → Memory S
  memory_after m cmd = record {
    state = if cmd.en then acted_at m.state cmd (addressed shape cmd.addr) else rested m.state m.idle;
    pending = drop 1 (queued m.pending (own_answer m cmd));
    idle = if cmd.en then 0 else idle_more shape m.idle;
  }

-- words, with at most one planted instance of a primitive
abbrev pub words_with : Option Planted → Behaviour (List ℕ)
words_with planted = record { after = words_after planted; reply = reply_to planted; idled = λ words. words; paused = words_paused planted }
