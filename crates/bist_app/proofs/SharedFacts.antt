-- What is known of the checks that several commands make.
use Rattle.bist_app.proofs.Common.{ℕ, Bool, Err, List, None, Ok, Option, Result, Some, [], ap, ap₂, arith, codes, inl, refl, sym, ◌++◌, ◌∙◌, ◌∷◌, ◌≡◌, Boxes, FitsAggressor, FitsLength, FitsRoom, HasBox, HasPorts, NeverUsage, Settles, outcome_settles, where_settles, HasOneOutcome, HasOneValue, Refusal, Primitive, has_aggressor, MarchElement, Description, ModuleTree, wrong_port, cycle_count}
use Rattle.bist_endings.specs.declared.ending.DeviceRefusal.{DeviceRefusal}
use Rattle.bist_endings.specs.declared.ending.Misfit.{Misfit}
use Rattle.bist_endings.specs.declared.ending.VerilogRefusal.{VerilogRefusal}
use Rattle.self_test.specs.Refusals.{IsShort, IsTooLong}

pub aggressor_settles : {Says Told : Type 0} (given : Bool) (prim : Primitive) → Settles (Unit {0}) Says Told (FitsAggressor given prim)
aggressor_settles given prim = where_settles (given ≡ has_aggressor prim) (Refusal.Misfit Misfit.Aggressor) (λ is. cc)

pub too_long : (march : List MarchElement) (d : Description) (cycles : ℕ) → IsTooLong march d cycles → FitsLength march d (Err (Refusal.TooLong cycles))
too_long march d cycles h = (λ short. omega (arith, short, h.1), ap (λ (n : ℕ). Refusal.TooLong n) h.0)

pub length_settles : {Says Told : Type 0} (march : List MarchElement) (d : Description) → Settles (Unit {0}) Says Told (FitsLength march d)
length_settles march d = where_settles (IsShort march d) (Refusal.TooLong (cycle_count march d)) (λ is. cc)

ports_never : (d : Description) (mo : ModuleTree) → NeverUsage (HasPorts d mo)
unfolding HasPorts
ports_never d mo h = h

some_or_none : (o : Option (List ℕ)) (n : List ℕ) → o ≡ Some n → o ≡ None → ⊥
some_or_none o n h i = cc

same_name : (o : Option (List ℕ)) (m n : List ℕ) → o ≡ Some m → o ≡ Some n → m ≡ n
same_name o m n h i = cc

ports_one : (d : Description) (mo : ModuleTree) → HasOneValue (HasPorts d mo)
unfolding HasPorts
ports_one d mo (Ok u) (Ok v) f g r s = refl
ports_one d mo (Ok u) (Err (Refusal.Verilog (VerilogRefusal.WrongPort n))) f g r s = absurd (some_or_none (wrong_port d mo.ports) n.bytes g f)
ports_one d mo (Ok u) (Err other) f g r s = absurd g
ports_one d mo (Err (Refusal.Verilog (VerilogRefusal.WrongPort m))) (Ok v) f g r s = absurd (some_or_none (wrong_port d mo.ports) m.bytes f g)
ports_one d mo (Err (Refusal.Verilog (VerilogRefusal.WrongPort m))) (Err (Refusal.Verilog (VerilogRefusal.WrongPort n))) f g r s =
    inl (ap (λ (t : List ℕ). record { status = 14; line = codes "verilog " ++ (codes "B2 " ++ t) ++ codes "\n" }) (same_name (wrong_port d mo.ports) m.bytes n.bytes f g))
ports_one d mo (Err (Refusal.Verilog (VerilogRefusal.WrongPort m))) (Err other) f g r s = absurd g
ports_one d mo (Err other) outcome f g r s = absurd f

pub none_wrong : (d : Description) (mo : ModuleTree) (u : Unit {0}) → HasPorts d mo (Ok u) → wrong_port d mo.ports ≡ None
unfolding HasPorts
none_wrong d mo u h = h

pub ports_settles : {Says Told : Type 0} (d : Description) (mo : ModuleTree) → Settles (Unit {0}) Says Told (HasPorts d mo)
ports_settles d mo = record { never = λ says. ports_never d mo; one = λ told. ports_one d mo }

box_never : (boxes : Boxes) → NeverUsage (HasBox boxes)
unfolding HasBox
box_never [] h = h
box_never (box ∷ boxes) h = h

box_one : (boxes : Boxes) → HasOneOutcome (HasBox boxes)
unfolding HasBox
box_one [] (Ok u) s f g rs ss = absurd f
box_one [] (Err (Refusal.Device DeviceRefusal.NoBox)) (Err (Refusal.Device DeviceRefusal.NoBox)) f g rs ss = refl
box_one [] (Err (Refusal.Device DeviceRefusal.NoBox)) (Ok v) f g rs ss = absurd g
box_one [] (Err (Refusal.Device DeviceRefusal.NoBox)) (Err other) f g rs ss = absurd g
box_one [] (Err other) s f g rs ss = absurd f
box_one (box ∷ boxes) (Ok u) (Ok v) f g rs ss = refl
box_one (box ∷ boxes) (Ok u) (Err other) f g rs ss = absurd g
box_one (box ∷ boxes) (Err other) s f g rs ss = absurd f

pub box_settles : {Says Told : Type 0} (boxes : Boxes) → Settles (Unit {0}) Says Told (HasBox boxes)
box_settles boxes = outcome_settles (HasBox boxes) (box_never boxes) (box_one boxes)

room_never : (d : Description) (boxes : Boxes) → NeverUsage (FitsRoom d boxes)
unfolding FitsRoom
room_never d [] h = h
room_never d (box ∷ boxes) h = h

same_room : (m n a b k l : ℕ) → m ≡ a → n ≡ b → k ≡ a → l ≡ b
    → (let r : Result (Unit {0}) Refusal = Err (Refusal.Device (DeviceRefusal.TooSmall m n)) in r) ≡ Err (Refusal.Device (DeviceRefusal.TooSmall k l))
same_room m n a b k l e f g h = ap₂ (λ x y. Err (Refusal.Device (DeviceRefusal.TooSmall x y))) (e ∙ sym g) (f ∙ sym h)

room_one : (d : Description) (boxes : Boxes) → HasOneOutcome (FitsRoom d boxes)
unfolding FitsRoom
room_one d [] r s f g rs ss = absurd f
room_one d (box ∷ boxes) (Ok u) (Ok v) f g rs ss = refl
room_one d (box ∷ boxes) (Ok u) (Err (Refusal.Device (DeviceRefusal.TooSmall m n))) f g rs ss = absurd (omega (arith, f, g.0))
room_one d (box ∷ boxes) (Ok u) (Err other) f g rs ss = absurd g
room_one d (box ∷ boxes) (Err (Refusal.Device (DeviceRefusal.TooSmall m n))) (Ok v) f g rs ss = absurd (omega (arith, g, f.0))
room_one d (box ∷ boxes) (Err (Refusal.Device (DeviceRefusal.TooSmall m n))) (Err (Refusal.Device (DeviceRefusal.TooSmall k l))) f g rs ss =
    same_room m n d.words box.room k l f.1 f.2 g.1 g.2
room_one d (box ∷ boxes) (Err (Refusal.Device (DeviceRefusal.TooSmall m n))) (Err other) f g rs ss = absurd g
room_one d (box ∷ boxes) (Err other) s f g rs ss = absurd f

pub room_settles : {Says Told : Type 0} (d : Description) (boxes : Boxes) → Settles (Unit {0}) Says Told (FitsRoom d boxes)
room_settles d boxes = outcome_settles (FitsRoom d boxes) (room_never d boxes) (room_one d boxes)
