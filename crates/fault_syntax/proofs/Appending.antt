-- Primitives that are appended one by one, where there is room for them.
use Rattle.std.proofs.Common.{◌≡◌, ℕ, ◌+◌, ◌-◌, ◌<◌, ◌≤◌, Bool, true, if◌then◌else◌, Result, Ok, Err, OnOk, IfErr, subst, List, [], ◌∷◌, ◌++◌, length, map, take, get_or, refl, sym, ap, ◌∙◌, append_assoc, length-append, arith, inl, inr}
use Rattle.std.proofs.lemmas.List.{take_all, map_more}
use Rattle.fault_syntax.specs.declared.fault.FaultFault.{FaultFault}
use Rattle.fault_syntax.specs.declared.fault.FaultFault.TheVariants.{TooManyPrimitives}
use Rattle.fault_syntax.specs.inner.LineByLine.{HasNoRoom}

-- what a push that succeeds leaves
pub pushed : {P : Type 0} (ok : Bool) (old now : List P) (y : P) → ok ≡ true → now ≡ (if ok then old ++ y ∷ [] else old) → now ≡ old ++ y ∷ []
pushed ok old now y h is = is ∙ ap (λ t. if t then old ++ y ∷ [] else old) h

-- one element more
pub one_mapped : {A P : Type 0} (f : A → P) (xs : List A) (i : ℕ) (d : A) (old so_far now : List P) (y : P) → i < length xs → y ≡ f (get_or xs i d)
    → so_far ≡ old ++ map f (take i xs) → now ≡ so_far ++ y ∷ [] → now ≡ old ++ map f (take (i + 1) xs)
one_mapped f xs i d old so_far now y h is inv grown =
    grown
    ∙ ap (λ l. l ++ y ∷ []) inv
    ∙ ap (λ z. (old ++ map f (take i xs)) ++ z ∷ []) is
    ∙ append_assoc old (map f (take i xs)) (f (get_or xs i d) ∷ [])
    ∙ ap (λ l. old ++ l) (sym (map_more f xs i d h))

-- all elements, once the loop has ended
pub all_of : {A P : Type 0} (f : List A → List P) (xs : List A) (i : ℕ) (old now : List P) → length xs ≤ i → now ≡ old ++ f (take i xs) → now ≡ old ++ f xs
all_of f xs i old now h inv = inv ∙ ap (λ l. old ++ f l) (take_all i xs h)

-- there was room for so many
pub has_room : {P : Type 0} (old more now : List P) (n : ℕ) → length more ≡ n → length old ≤ 1024 → n ≤ 1024 - length old → now ≡ old ++ more → length now ≤ 1024
has_room old more now n count h k grown =
    let whole : length now ≡ length old + length more = ap length grown ∙ length-append old more in
    omega (arith, whole, count, h, k)

-- there is none: the list is too long already, or is so with what comes
pub too_long : {P : Type 0} (old more : List P) (line : ℕ) → 1024 < length old → HasNoRoom old more line (TooManyPrimitives line)
too_long old more line h = inr (refl, omega (arith, h))

pub too_many : {P : Type 0} (old more : List P) (n line : ℕ) → length more ≡ n → 1024 - length old < n → HasNoRoom old more line (TooManyPrimitives line)
too_many old more n line count h = inr (refl, omega (arith, count, h))

-- the same primitives under another name
pub same_added : {P : Type 0} (r : Result (Unit {0}) FaultFault) (old now more others : List P) → more ≡ others → OnOk r (now ≡ old ++ more) → OnOk r (now ≡ old ++ others)
same_added r old now more others same h = subst (λ ps. OnOk r (now ≡ old ++ ps)) same h

pub same_refused : {P : Type 0} (r : Result (Unit {0}) FaultFault) (old more others : List P) (line : ℕ) → more ≡ others → IfErr r (HasNoRoom old more line) → IfErr r (HasNoRoom old others line)
same_refused r old more others line same h = subst (λ ps. IfErr r (HasNoRoom old ps line)) same h

-- primitives that are appended in two parts: both are, or there is no room for the first, or none for the second
pub both_added : {P : Type 0} (r : Result (Unit {0}) FaultFault) (old mid now first second both : List P) → first ++ second ≡ both → mid ≡ old ++ first
    → OnOk r (now ≡ mid ++ second) → OnOk r (now ≡ old ++ both)
both_added (Ok u) old mid now first second both same h k = k ∙ ap (λ l. l ++ second) h ∙ append_assoc old first second ∙ ap (λ l. old ++ l) same
both_added (Err fault) old mid now first second both same h k = tt

pub first_refused : {P : Type 0} (old first second both : List P) (line : ℕ) (fault : FaultFault) → first ++ second ≡ both → HasNoRoom old first line fault → HasNoRoom old both line fault
first_refused old first second both line fault same h = elim h [
  | inl m ↦ inl m
  | inr m ↦ inr (m.0, (let whole = sym (ap length same) ∙ length-append first second in let few = m.1 in omega (arith, whole, few)))
]

pub second_refused : {P : Type 0} (r : Result (Unit {0}) FaultFault) (old mid first second both : List P) (line : ℕ) → first ++ second ≡ both → mid ≡ old ++ first
    → IfErr r (HasNoRoom mid second line) → IfErr r (HasNoRoom old both line)
second_refused (Ok u) old mid first second both line same h k = tt
second_refused (Err fault) old mid first second both line same h k = elim k [
  | inl m ↦ inl m
  | inr m ↦ inr (m.0, (let whole = sym (ap length same) ∙ length-append first second in let held = ap length h ∙ length-append old first in let few = m.1 in omega (arith, whole, held, few)))
]
