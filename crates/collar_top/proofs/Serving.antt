-- Which pins are those of a port, and can be driven.
use Rattle.std.proofs.Common.{◌≡◌, ◌≤◌, true, ◌&&◌, ◌||◌, ℕ, List, [], ◌∷◌, map, All}
use Rattle.std.proofs.lemmas.List.Elements.{All-nil, All-cons, All-head, All-tail}
use Rattle.bist_bits.specs.Vector.{IsVector}
use Rattle.macro_pins.specs.declared.pins.Macro.{Macro}
use Rattle.macro_pins.specs.declared.pins.Pin.{Pin}
use Rattle.macro_pins.specs.declared.pins.PinKind.TheVariants.{Address}
use Rattle.macro_pins.specs.Pins.{pins_of, plain_pin, has_enable, IsDrivable}
use Rattle.macro_pins.specs.Ports.{has, is_address, is_data, is_read_alone, is_write_alone, is_way, AllWide, IsPort}

pub drivable : (p : Pin) (a : ℕ) → (p.kind ≡ Address → a ≤ p.width) → IsVector p.width p.value → IsDrivable a (plain_pin p)
drivable p a room v = record { some = v.positive; narrow = v.narrow; fits = v.fits; room = room }

pub has_room : (p : Pin) (a : ℕ) → IsDrivable a (plain_pin p) → p.kind ≡ Address → a ≤ p.width
has_room p a h = h.room

pub has_value : (p : Pin) (a : ℕ) → IsDrivable a (plain_pin p) → IsVector p.width p.value
has_value p a h = record { positive = h.some; narrow = h.narrow; fits = h.fits }

abbrev Driven : ℕ → Pin → Type 0
Driven a p = IsDrivable a (plain_pin p)

pub no_pins : (a : ℕ) → All (λ (p : Pin). IsDrivable a (plain_pin p)) []
no_pins a = All-nil (Driven a)

pub more_pins : (a : ℕ) (p : Pin) (ps : List Pin) → IsDrivable a (plain_pin p) → All (λ (q : Pin). IsDrivable a (plain_pin q)) ps → All (λ (q : Pin). IsDrivable a (plain_pin q)) (p ∷ ps)
more_pins a p ps h all = All-cons (Driven a) p ps h all

pub first_pin : (a : ℕ) (p : Pin) (ps : List Pin) → All (λ (q : Pin). IsDrivable a (plain_pin q)) (p ∷ ps) → IsDrivable a (plain_pin p)
first_pin a p ps all = All-head (Driven a) p ps all

pub rest_pins : (a : ℕ) (p : Pin) (ps : List Pin) → All (λ (q : Pin). IsDrivable a (plain_pin q)) (p ∷ ps) → All (λ (q : Pin). IsDrivable a (plain_pin q)) ps
rest_pins a p ps all = All-tail (Driven a) p ps all

all_wide : (a : ℕ) (ps : List Pin) → All (λ (p : Pin). IsDrivable a (plain_pin p)) ps → AllWide (map plain_pin ps)
all_wide a [] all = tt
all_wide a (p ∷ ps) all = let one : Driven a p = All-head (Driven a) p ps all in (one.some, all_wide a ps (All-tail (Driven a) p ps all))

pub port : (a : ℕ) (m : Macro) → All (λ (q : Pin). IsDrivable a (plain_pin q)) m.pins.items
    → has is_address (map plain_pin m.pins.items) ≡ true → has is_data (map plain_pin m.pins.items) ≡ true → has is_way (map plain_pin m.pins.items) ≡ true
    → (has_enable (map plain_pin m.pins.items) || (has is_read_alone (map plain_pin m.pins.items) && has is_write_alone (map plain_pin m.pins.items))) ≡ true → IsPort (pins_of m)
port a m all address data_ way enable = record { wide = all_wide a m.pins.items all; address = address; word = data_; way = way; enable = enable }
