-- What is among the ports of an interface.
use Rattle.std.proofs.Common.{inl, inr, List, [], ◌∷◌, ◌++◌, map, refl, sym, ap, subst}
use Rattle.verilog_tree.specs.declared.tree.Dir.TheVariants.{Input, Output}
use Rattle.verilog_tree.specs.Names.{Declaration}
use Rattle.macro_pins.specs.declared.pins.PinKind.{PinKind}
use Rattle.macro_pins.specs.declared.pins.PinKind.TheVariants as K
use Rattle.macro_pins.specs.Pins.{PinTree}
use Rattle.collar_rtl.specs.Interface.{at_pin, port, functional_port, pin_ports}
use Rattle.collar_rtl.proofs.Settles.{Among as Declared}
use Rattle.collar_test.specs.CollarTest.{Among, is_tied}

pub on_left : {A : Type 0} (x : A) (xs ys : List A) → Among x xs → Among x (xs ++ ys)
on_left x [] ys h = absurd h
on_left x (z ∷ xs) ys (inl e) = inl e
on_left x (z ∷ xs) ys (inr h) = inr (on_left x xs ys h)

pub on_right : {A : Type 0} (x : A) (xs ys : List A) → Among x ys → Among x (xs ++ ys)
on_right x [] ys h = h
on_right x (z ∷ xs) ys h = inr (on_right x xs ys h)

pub mapped : {A B : Type 0} (f : A → B) (x : A) (xs : List A) → Among x xs → Among (f x) (map f xs)
mapped f x [] h = absurd h
mapped f x (z ∷ xs) (inl e) = inl (ap f e)
mapped f x (z ∷ xs) (inr h) = inr (mapped f x xs h)

module _ (q : PinTree) where
  own_port : (k : PinKind) → (is_tied k → ⊥) → Among (port Input q.name q.width) (functional_port k q)
  own_port K.Tie untied = absurd (untied tt)
  own_port K.Enable untied = inl refl
  own_port K.Write untied = inl refl
  own_port K.ReadAlone untied = inl refl
  own_port K.WriteAlone untied = inl refl
  own_port K.Address untied = inl refl
  own_port K.Data untied = inl refl
  own_port K.Mask untied = inl refl
  own_port K.Pass untied = inl refl
  own_port K.Fixed untied = inl refl

  pub input_among : (ps : List PinTree) → (is_tied q.kind → ⊥) → Among q ps → Among (port Input q.name q.width) (pin_ports ps)
  input_among [] untied h = absurd h
  input_among (p ∷ ps) untied (inl e) =
      on_left (port Input q.name q.width) (functional_port p.kind p) (port Output (at_pin p.name) p.width ∷ pin_ports ps)
      (subst (λ (x : PinTree). Among (port Input q.name q.width) (functional_port x.kind x)) (sym e) (own_port q.kind untied))
  input_among (p ∷ ps) untied (inr h) =
      on_right (port Input q.name q.width) (functional_port p.kind p) (port Output (at_pin p.name) p.width ∷ pin_ports ps) (inr (input_among ps untied h))

pub behind_eight : {A : Type 0} (x a b c d e f g h : A) (ys : List A) → Among x ys → Among x (a ∷ b ∷ c ∷ d ∷ e ∷ f ∷ g ∷ h ∷ ys)
behind_eight x a b c d e f g h ys among = inr (inr (inr (inr (inr (inr (inr (inr among)))))))

-- so in the interface's declarations
pub declared : (d : Declaration) (ds : List Declaration) → Among d ds → Declared d ds
declared d [] h = absurd h
declared d (x ∷ ds) (inl e) = inl e
declared d (x ∷ ds) (inr h) = inr (declared d ds h)
