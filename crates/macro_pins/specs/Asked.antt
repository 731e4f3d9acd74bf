-- Public. What the pins of a macro ask of it in a cycle. Only a whole command is one: in a cycle in which a part of the lanes is on, or a
-- pin isn't at its value, nothing is said of what the macro does.
use Rattle.std.specs.Prelude.{◌≡◌, ◌-◌, ◌^◌, ℕ, Bool, true, false, cond, not, List, [], ◌∷◌, bit_xor}
use Rattle.macro_pins.specs.declared.pins.PinKind.{PinKind}
use Rattle.macro_pins.specs.declared.pins.PinKind.TheVariants.{Enable, Write, ReadAlone, WriteAlone, Address, Data, Mask, Pass, Fixed, Tie}
use Rattle.macro_pins.specs.Pins.{PinTree, Pins, has_enable}

-- the largest number of w bits
abbrev pub ones : ℕ → ℕ
ones w = 2 ^ w - 1

-- the value of a pin that means this number: each bit inverted where 0 is on
abbrev pub level : PinTree → ℕ → ℕ
level p n = cond p.low (bit_xor n (ones p.width)) n

-- every bit is on, or off
abbrev pub switched : PinTree → Bool → ℕ
switched p on = cond p.low (cond on 0 (ones p.width)) (cond on (ones p.width) 0)

-- a command, or none
pub record Asked : Type 0 where
  pub en : Bool
  pub we : Bool
  pub addr : ℕ
  pub wdata : ℕ

-- whether a pin of the ways is on; without an enable it is off where there is no command
abbrev pub writing : Bool → Asked → Bool
writing enabled a = cond enabled a.we (cond a.en a.we false)

abbrev pub reading_alone : Asked → Bool
reading_alone a = cond a.en (not a.we) false

abbrev pub writing_alone : Asked → Bool
writing_alone a = cond a.en a.we false

-- A pin with this value asks for this command. With an enable that is off, the other pins of the port can have any value.
abbrev pub PinAsks : Bool → PinKind → PinTree → Asked → ℕ → Type 0
PinAsks enabled Enable p a v = v ≡ switched p a.en
PinAsks enabled Write p a v = (cond enabled a.en true ≡ true) → v ≡ switched p (writing enabled a)
PinAsks enabled ReadAlone p a v = v ≡ switched p (reading_alone a)
PinAsks enabled WriteAlone p a v = v ≡ switched p (writing_alone a)
PinAsks enabled Address p a v = a.en ≡ true → v ≡ level p a.addr
PinAsks enabled Data p a v = a.en ≡ true → a.we ≡ true → v ≡ level p a.wdata
PinAsks enabled Mask p a v = a.en ≡ true → v ≡ switched p true
PinAsks enabled Pass p a v = Unit {0}
PinAsks enabled Fixed p a v = v ≡ p.value
PinAsks enabled Tie p a v = v ≡ p.value

abbrev pub AllAsk : Bool → List PinTree → Asked → (List ℕ → ℕ) → Type 0
AllAsk enabled [] a e = Unit {0}
AllAsk enabled (p ∷ ps) a e = PinAsks enabled p.kind p a (e p.name) × AllAsk enabled ps a e

-- the pins with these values ask for this command
abbrev pub PinsAsk : Pins → Asked → (List ℕ → ℕ) → Type 0
PinsAsk p a e = AllAsk (has_enable p.inputs) p.inputs a e
