-- Public. The pins of a macro, as contracts see them.
use Rattle.std.specs.Prelude.{◌≡◌, ◌≤◌, ◌<◌, ◌^◌, ℕ, Bool, true, false, ◌||◌, List, [], ◌∷◌, map}
use Rattle.macro_pins.specs.declared.pins.PinKind.{PinKind}
use Rattle.macro_pins.specs.declared.pins.PinKind.TheVariants.{Enable, Address}
use Rattle.macro_pins.specs.declared.pins.Pin.{Pin}
use Rattle.macro_pins.specs.declared.pins.Macro.{Macro}

-- an input: what it is to the port, its name, whether 0 is on, its width, and its value where it is fixed or tied
pub record PinTree : Type 0 where
  pub kind : PinKind
  pub name : List ℕ
  pub low : Bool
  pub width : ℕ
  pub value : ℕ

-- the inputs of the one port and the further ones, the output with the word that was read, and how many registers stand
-- between the self-test and the macro on either way
pub record Pins : Type 0 where
  pub name : List ℕ
  pub clk : List ℕ
  pub rdata : List ℕ
  pub inputs : List PinTree
  pub before : ℕ
  pub after : ℕ

abbrev pub plain_pin : Pin → PinTree
plain_pin p = record { kind = p.kind; name = p.name.bytes; low = p.low; width = p.width; value = p.value }

abbrev pub pins_of : Macro → Pins
pins_of m = record {
  name = m.name.bytes;
  clk = m.clk.bytes;
  rdata = m.rdata.bytes;
  inputs = map plain_pin m.pins.items;
  before = m.before;
  after = m.after;
}

-- whether a pin enables commands of both ways
abbrev pub is_enable : PinKind → Bool
is_enable Enable = true
is_enable other = false

-- whether some pin does: without one, the pins of the ways enable
abbrev pub has_enable : List PinTree → Bool
has_enable [] = false
has_enable (p ∷ ps) = is_enable p.kind || has_enable ps

-- a pin can be driven: its value is one of its width, and an address of w bits has room
pub record IsDrivable (w : ℕ) (p : PinTree) : Type 0 where
  pub some : 1 ≤ p.width
  pub narrow : p.width ≤ 64
  pub fits : p.value < 2 ^ p.width
  pub room : p.kind ≡ Address → w ≤ p.width
