-- Public. What the pins of a port say can be told from their values, and what it is for a macro to go on whatever they hold.
use Rattle.std.specs.Prelude.{◌≡◌, ◌≤◌, ◌<◌, ◌^◌, ℕ, List, [], ◌∷◌, Option, Some, None, length}
use Rattle.macro_pins.specs.Pins.{Pins}
use Rattle.macro_pins.specs.Asked.{Asked, PinsAsk}
use Rattle.macro_pins.specs.Ports.{IsPort, SameAsked}
use Rattle.macro_pins.specs.Macros.{Values, PortMemory, own, Stands, Held, MacroCycle}

-- What the values at the pins ask for, where they ask for a whole command or for none.
pub record Decoder (p : Pins) : Type 0 where
  pub asked : Values → Option Asked
  pub sound : (e : Values) (a : Asked) → asked e ≡ Some a → PinsAsk p a e
  pub complete : (e : Values) (a : Asked) → PinsAsk p a e → (b : Asked) × (asked e ≡ Some b) × SameAsked a b

-- the pins of a port have one
abbrev pub PortDecodes : Type 0
PortDecodes = (p : Pins) → IsPort p → Decoder p

-- a memory does the same in cycles that ask for the same
pub record TellsAsked {S : Type 0} (m : PortMemory S) : Type 0 where
  pub after : (s : S) (a b : Asked) → SameAsked a b → m.after s a ≡ m.after s b
  pub answer : (s : S) (a b : Asked) → SameAsked a b → own m s a ≡ own m s b

-- each word that is due has so many bits
abbrev pub AllLow : ℕ → List (Option ℕ) → Type 0
AllLow bits [] = Unit {0}
AllLow bits (None ∷ ws) = AllLow bits ws
AllLow bits (Some w ∷ ws) = (w < 2 ^ bits) × AllLow bits ws

-- what a macro of words of so many bits can hold: a state of its kind, and at least one place for a word under way
pub record IsHeld {S : Type 0} (Good : S → Type 0) (bits : ℕ) (h : Held S) : Type 0 where
  pub good : Good h.state
  pub some : 1 ≤ length h.due
  pub low : AllLow bits h.due

-- A macro that goes on whatever its pins hold, in words of so many bits.
pub record GoesOn {S : Type 0} (m : PortMemory S) (Good : S → Type 0) (p : Pins) (bits : ℕ) : Type 0 where
  pub left : Values → Held S → Held S
  pub goes : (e : Values) (h : Held S) → IsHeld Good bits h → Stands h.due (e p.rdata) → MacroCycle m Good p e h (left e h)
  pub held : (e : Values) (h : Held S) → IsHeld Good bits h → IsHeld Good bits (left e h)
  -- what stands at its pins
  pub word : Held S → ℕ
  pub stands : (h : Held S) → IsHeld Good bits h → Stands h.due (word h)
  pub low : (h : Held S) → IsHeld Good bits h → word h < 2 ^ bits
