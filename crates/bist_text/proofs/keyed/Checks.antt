-- What checks answered, and the first of some refusals.
use Rattle.bist_text.proofs.keyed.Common.{Err, IsSome, None, Ok, Option, Some, ap, checked, or_else, refl, unless_there, ◌≡◌}

pub passed : {F : Type 0} (o : Option F) → Ok tt ≡ checked o → o ≡ None
passed None e = refl
passed (Some fault) e = (let z : ⊥ = cc in absurd z)

pub stopped : {F : Type 0} (o : Option F) (fault : F) → Err fault ≡ checked o → o ≡ Some fault
stopped None fault e = (let z : ⊥ = cc in absurd z)
stopped (Some other) fault e = cc

pub next : {F : Type 0} (o : Option F) {p : Option F} → o ≡ None → or_else o p ≡ p
next o {p = p} e = ap (λ o. or_else o p) e

pub here : {F : Type 0} (o p : Option F) (fault : F) → o ≡ Some fault → or_else o p ≡ Some fault
here o p fault e = ap (λ o. or_else o p) e

pub alone : {F : Type 0} (o : Option F) → or_else o None ≡ o
alone None = refl
alone (Some fault) = refl

pub none_first : {F : Type 0} (o p : Option F) → or_else o p ≡ None → (o ≡ None) × (p ≡ None)
none_first None p e = (refl, e)
none_first (Some fault) p e = (let z : ⊥ = cc in absurd z)

pub is_there : {A F : Type 0} (fault : F) (o : Option A) → unless_there fault o ≡ None → IsSome o
is_there fault None e = (let z : ⊥ = cc in absurd z)
is_there fault (Some x) e = refl

pub there : {A F : Type 0} (fault : F) (o : Option A) → IsSome o → unless_there fault o ≡ None
there fault None e = (let z : ⊥ = cc in absurd z)
there fault (Some x) e = refl

pub some_same : {F : Type 0} (f g : F) → Some f ≡ Some g → f ≡ g
some_same f g e = cc
