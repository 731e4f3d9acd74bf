-- Public. Which pins are those of a port: of each two commands, and of a command and none, they tell which it is.
use Rattle.std.specs.Prelude.{◌≡◌, ◌≤◌, ◌||◌, ◌&&◌, ℕ, Bool, true, false, List, [], ◌∷◌}
use Rattle.macro_pins.specs.declared.pins.PinKind.{PinKind}
use Rattle.macro_pins.specs.declared.pins.PinKind.TheVariants.{Write, ReadAlone, WriteAlone, Address, Data}
use Rattle.macro_pins.specs.Pins.{PinTree, Pins, has_enable}
use Rattle.macro_pins.specs.Asked.{Asked, PinsAsk}

abbrev pub is_way : PinKind → Bool
is_way Write = true
is_way WriteAlone = true
is_way other = false

abbrev pub is_read_alone : PinKind → Bool
is_read_alone ReadAlone = true
is_read_alone other = false

abbrev pub is_write_alone : PinKind → Bool
is_write_alone WriteAlone = true
is_write_alone other = false

abbrev pub is_address : PinKind → Bool
is_address Address = true
is_address other = false

abbrev pub is_data : PinKind → Bool
is_data Data = true
is_data other = false

-- some pin is of these kinds
abbrev pub has : (PinKind → Bool) → List PinTree → Bool
has test [] = false
has test (p ∷ ps) = test p.kind || has test ps

abbrev pub AllWide : List PinTree → Type 0
AllWide [] = Unit {0}
AllWide (p ∷ ps) = (1 ≤ p.width) × AllWide ps

-- an address, a word to write, and what tells a write from a read and either from none: an enable, or a pin of each way
pub record IsPort (p : Pins) : Type 0 where
  pub wide : AllWide p.inputs
  pub address : has is_address p.inputs ≡ true
  pub word : has is_data p.inputs ≡ true
  pub way : has is_way p.inputs ≡ true
  pub enable : (has_enable p.inputs || (has is_read_alone p.inputs && has is_write_alone p.inputs)) ≡ true

-- the same command, or none both times
pub record SameAsked (a b : Asked) : Type 0 where
  pub en : a.en ≡ b.en
  pub we : a.en ≡ true → a.we ≡ b.we
  pub addr : a.en ≡ true → a.addr ≡ b.addr
  pub wdata : a.en ≡ true → a.we ≡ true → a.wdata ≡ b.wdata

-- the pins of a port ask for one thing
abbrev pub AskOne : Type 0
AskOne = (p : Pins) (a b : Asked) (e : List ℕ → ℕ) → IsPort p → PinsAsk p a e → PinsAsk p b e → SameAsked a b
