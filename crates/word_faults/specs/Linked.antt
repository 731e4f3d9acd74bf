-- Trusted. A memory of words with a linked fault at bits of different words.
use Rattle.std.specs.Prelude.{◌≡◌, ◌≢◌, ℕ, false, IsSome, ◌&&◌, if◌then◌else◌, Option, Some, None, List}
use Rattle.fault_core.specs.Primitive.{is_retention}
use Rattle.memory_desc.specs.Descriptions.{Description}
use Rattle.word_march.specs.declared.operations.WordOp.{WordOp}
use Rattle.word_device.specs.declared.device.BitPlace.{BitPlace}
use Rattle.word_device.specs.declared.device.Planted.{Planted}
use Rattle.word_device.specs.Chips.{FitsMemory, with_bit_in, bits_hold, matches, plain_words, plain_reply, answered}
use Rattle.word_device.specs.Memories.{Behaviour, Memory}
use Rattle.word_device.specs.Answers.{HasWords, Claim}
use Rattle.linked_faults.specs.declared.link.Link.{Link}

-- the bits of the first aggressor, the second, and the victim; an aggressor that there isn't plays no part
pub record Bits : Type 0 where
  pub a : BitPlace
  pub b : BitPlace
  pub v : BitPlace

-- an aggressor's place, where there is an aggressor
abbrev pub bit_beside : {A : Type 0} → Option A → BitPlace → Option BitPlace
bit_beside None at = None
bit_beside (Some sense) at = Some at

-- each of the two primitives as an instance at these bits
abbrev pub first_of : Link → Bits → Planted
first_of link at = record { prim = link.first; agg = bit_beside link.first.agg at.a; vic = at.v }

abbrev pub second_of : Link → Bits → Planted
second_of link at = record { prim = link.second; agg = bit_beside link.second.agg (if link.is_shared then at.a else at.b); vic = at.v }

-- They are in the memory: the victim's bit, and in other words those of the aggressors that there are. Two aggressors are in different words.
pub record FitsBits (link : Link) (at : Bits) (words bits : ℕ) : Type 0 where
  pub first : FitsMemory (first_of link at) words bits
  pub second : FitsMemory (second_of link at) words bits
  pub apart : IsSome link.first.agg → IsSome link.second.agg → link.is_shared ≡ false → at.a.word ≢ at.b.word

-- one operation: its plain part, then the effect of the primitive whose act it is
abbrev pub linked_words : Link → Bits → List ℕ → WordOp → List ℕ
linked_words link at words o =
    if matches (first_of link at) words o then with_bit_in (plain_words words o) at.v link.first.after
    else if matches (second_of link at) words o then with_bit_in (plain_words words o) at.v link.second.after
    else plain_words words o

abbrev pub linked_reply : Link → Bits → List ℕ → WordOp → ℕ
linked_reply link at words o =
    if matches (first_of link at) words o then answered link.first.answer at.v (plain_reply words o)
    else if matches (second_of link at) words o then answered link.second.answer at.v (plain_reply words o)
    else plain_reply words o

-- a pause: the effect of the primitive that loses its state over it
abbrev pub linked_paused : Link → Bits → List ℕ → List ℕ
linked_paused link at words =
    if is_retention link.first && bits_hold (first_of link at) words then with_bit_in words at.v link.first.after
    else if is_retention link.second && bits_hold (second_of link at) words then with_bit_in words at.v link.second.after
    else words

-- an idle cycle that ends no pause changes nothing
abbrev pub linked : Link → Bits → Behaviour (List ℕ)
linked link at = record {
  after = linked_words link at;
  reply = linked_reply link at;
  idled = λ words. words;
  paused = linked_paused link at;
}

-- said of each memory with this fault, at any bits that fit
abbrev pub EachLinked : Claim → Description → Link → Type 0
EachLinked Says d link =
    (m : Memory (List ℕ)) (at : Bits) → HasWords d m → FitsBits link at d.words d.bits → Says (List ℕ) (linked link at) m
