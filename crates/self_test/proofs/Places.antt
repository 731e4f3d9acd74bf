-- An output of a self-test stands at the place of its name among the outputs, whatever the order of the ports.
use Rattle.std.proofs.Common.{◌≡◌, ◌⊎◌, ℕ, suc, ◌+◌, ◌<◌, Bool, true, false, not, ◌&&◌, ◌||◌, nat_eq, cond, if◌then◌else◌, Some, List, [], ◌∷◌, map, get_or, length, refl, sym, ap, ◌∙◌, slice_get, arith, inl, inr}
use Rattle.std.specs.List.{filter}
use Rattle.std.specs.Option.{option_map}
use Rattle.std.specs.Str.{bytes_eq}
use Rattle.std.proofs.lemmas.Slice.Eq.{bytes_eq-Decides}
use Rattle.std.proofs.lemmas.Option.{slice_get-map, get_or_from_slice_get}
use Rattle.verilog_tree.specs.declared.tree.Dir.{Dir}
use Rattle.verilog_tree.specs.declared.tree.Dir.TheVariants.{Input, Output, OutputReg}
use Rattle.verilog_tree.specs.Plain.{ModulePort}
use Rattle.verilog_tree.specs.Names as N
use Rattle.verilog_tree.specs.Names.{Declaration, port_declaration, port_declarations, number}
use Rattle.self_test.specs.WrongPort.{has_port, same_port, same_direction, is_input}
use Rattle.self_test.specs.Pins.{output_names}

pub or_true : (x y : Bool) → (x || y) ≡ true → (x ≡ true) ⊎ (y ≡ true)
or_true true y h = inl refl
or_true false y h = inr h

pub and_true : (x y : Bool) → (x && y) ≡ true → (x ≡ true) × (y ≡ true)
and_true true y h = (refl, h)
and_true false y h = cc

pub nothing_left : false ≡ true → ⊥
nothing_left h = cc

abbrev pub output : List ℕ → ℕ → ModulePort
output n k = record { dir = Output; name = n; width = k }

abbrev outs : List ModulePort → List Declaration
outs ps = filter (λ x. not (N.is_input x.kind)) (port_declarations ps)

-- the declaration of this name stands at the place
record StandsIn (n : List ℕ) (xs : List Declaration) (place : ℕ) : Type 0 where
  within : place < length xs
  here : Declaration
  found : slice_get xs place ≡ Some here
  named : here.name ≡ n

abbrev Stands : List ℕ → List ModulePort → Type 0
Stands n ps = StandsIn n (outs ps) (number (output_names ps) n)

stands : (n : List ℕ) (k : ℕ) (ps : List ModulePort) → has_port (output n k) ps ≡ true → Stands n ps
stands n k [] h = cc
stands n k (p ∷ ps) h = by (is_input p.dir) refl (λ g. stands n k ps g)
  where
    input_differs : (dir : Dir) → is_input dir ≡ true → same_direction Output dir ≡ false
    input_differs Input e = refl
    input_differs Output e = cc
    input_differs OutputReg e = cc

    not_here : is_input p.dir ≡ true → has_port (output n k) ps ≡ true
    not_here e = elim (or_true (same_port (output n k) p) (has_port (output n k) ps) h) [
      | inl g ↦ (let a = and_true (bytes_eq n p.name) (same_direction Output p.dir && nat_eq k p.width) g in let b = and_true (same_direction Output p.dir) (nat_eq k p.width) a.1 in
          absurd (nothing_left (sym (input_differs p.dir e) ∙ b.0)))
      | inr g ↦ g
    ]

    elsewhere : bytes_eq n p.name ≡ false → has_port (output n k) ps ≡ true
    elsewhere e = elim (or_true (same_port (output n k) p) (has_port (output n k) ps) h) [
      | inl g ↦ absurd (nothing_left (sym e ∙ (and_true (bytes_eq n p.name) (same_direction Output p.dir && nat_eq k p.width) g).0))
      | inr g ↦ g
    ]

    -- behind an output
    head : (b : Bool) → bytes_eq n p.name ≡ b → (has_port (output n k) ps ≡ true → Stands n ps)
        → StandsIn n (port_declaration p ∷ outs ps) (cond b 0 (1 + number (output_names ps) n))
    head true e rest = record { within = omega arith; here = port_declaration p; found = refl; named = sym ((bytes_eq-Decides n p.name).0 e) }
    head false e rest =
        let r = rest (elsewhere e) in
        let w = r.within in
        let more : 1 + number (output_names ps) n ≡ suc (number (output_names ps) n) = omega arith in
        record { within = omega arith; here = r.here; found = ap (slice_get (port_declaration p ∷ outs ps)) more ∙ r.found; named = r.named }

    by : (t : Bool) → is_input p.dir ≡ t → (has_port (output n k) ps ≡ true → Stands n ps)
        → StandsIn n (if not t then port_declaration p ∷ outs ps else outs ps) (number (if t then output_names ps else p.name ∷ output_names ps) n)
    by true e rest = rest (not_here e)
    by false e rest = head (bytes_eq n p.name) refl rest

pub place_within : (n : List ℕ) (k : ℕ) (ps : List ModulePort) → has_port (output n k) ps ≡ true
    → number (output_names ps) n < length (filter (λ x. not (N.is_input x.kind)) (port_declarations ps))
place_within n k ps h = (stands n k ps h).within

-- what a name has stands there among what the outputs have
pub value_there : {A : Type 0} (z : A) (f : List ℕ → A) (n : List ℕ) (k : ℕ) (ps : List ModulePort) → has_port (output n k) ps ≡ true
    → get_or (map (λ x. f x.name) (filter (λ x. not (N.is_input x.kind)) (port_declarations ps))) (number (output_names ps) n) z ≡ f n
value_there z f n k ps h =
    let s = stands n k ps h in
    let place = number (output_names ps) n in
    get_or_from_slice_get (map (λ x. f x.name) (outs ps)) place (f s.here.name) z (slice_get-map (λ x. f x.name) (outs ps) place ∙ ap (option_map (λ x. f x.name)) s.found)
    ∙ ap f s.named
