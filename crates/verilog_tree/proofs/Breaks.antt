-- Where no break is the first, none is a break.
use Rattle.std.proofs.Common.{◌≡◌, List, [], ◌∷◌, Option, Some, None, refl}
use Rattle.verilog_tree.specs.Rules.{Break, first_of}

pub none_first : (o : Option Break) (os : List (Option Break)) → first_of (o ∷ os) ≡ None → (o ≡ None) × (first_of os ≡ None)
none_first None os h = (refl, h)
none_first (Some b) os h = cc

pub two : (a b : Option Break) → first_of (a ∷ b ∷ []) ≡ None → (a ≡ None) × (b ≡ None)
two a b h =
    let p = none_first a (b ∷ []) h in
    let q = none_first b [] p.1 in
    (p.0, q.0)

pub three : (a b c : Option Break) → first_of (a ∷ b ∷ c ∷ []) ≡ None → (a ≡ None) × (b ≡ None) × (c ≡ None)
three a b c h =
    let p = none_first a (b ∷ c ∷ []) h in
    let q = two b c p.1 in
    (p.0, q.0, q.1)

pub four : (a b c d : Option Break) → first_of (a ∷ b ∷ c ∷ d ∷ []) ≡ None → (a ≡ None) × (b ≡ None) × (c ≡ None) × (d ≡ None)
four a b c d h =
    let p = none_first a (b ∷ c ∷ d ∷ []) h in
    let q = three b c d p.1 in
    (p.0, q.0, q.1, q.2)

pub five : (a b c d e : Option Break) → first_of (a ∷ b ∷ c ∷ d ∷ e ∷ []) ≡ None → (a ≡ None) × (b ≡ None) × (c ≡ None) × (d ≡ None) × (e ≡ None)
five a b c d e h =
    let p = none_first a (b ∷ c ∷ d ∷ e ∷ []) h in
    let q = four b c d e p.1 in
    (p.0, q.0, q.1, q.2, q.3)

pub eight : (a b c d e f g i : Option Break) → first_of (a ∷ b ∷ c ∷ d ∷ e ∷ f ∷ g ∷ i ∷ []) ≡ None → (a ≡ None) × (b ≡ None) × (c ≡ None) × (d ≡ None) × (e ≡ None) × (f ≡ None) × (g ≡ None) × (i ≡ None)
eight a b c d e f g i h =
    let p = none_first a (b ∷ c ∷ d ∷ e ∷ f ∷ g ∷ i ∷ []) h in
    let q = none_first b (c ∷ d ∷ e ∷ f ∷ g ∷ i ∷ []) p.1 in
    let r = none_first c (d ∷ e ∷ f ∷ g ∷ i ∷ []) q.1 in
    let s = five d e f g i r.1 in
    (p.0, q.0, r.0, s.0, s.1, s.2, s.3, s.4)
