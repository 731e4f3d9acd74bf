-- Ports and placed modules that were appended, as trees.
use Rattle.std.proofs.Common.{◌≡◌, ℕ, List, [], ◌∷◌, ◌++◌, map, is_ok, Result, Ok, Err, OnOk, refl, ap, ◌∙◌, if◌then◌else◌}
use Rattle.std.proofs.lemmas.List.{map-append}
use Rattle.chip_rtl.specs.declared.top.Placed.{Placed}
use Rattle.chip_rtl.specs.ChipTree.{LinkTree, PlacedTree}
use Rattle.chip_rtl.specs.TopSeen.{plain_placed}

pub extended : {A B E : Type 0} (f : A → B) (r : Result (Unit {0}) E) (old new more : List A) (trees : List B) → new ≡ (if is_ok r then old ++ more else old) → map f more ≡ trees → OnOk r (map f new ≡ map f old ++ trees)
extended f (Err e) old new more trees e1 e2 = tt
extended f (Ok u) old new more trees e1 e2 = ap (map f) e1 ∙ map-append f old more ∙ ap (λ ys. map f old ++ ys) e2

pub same_five : {B : Type 0} (a b c d e x y z u v : B) → a ≡ x → b ≡ y → c ≡ z → d ≡ u → e ≡ v → a ∷ b ∷ c ∷ d ∷ e ∷ [] ≡ x ∷ y ∷ z ∷ u ∷ v ∷ []
same_five a b c d e x y z u v p q r s t = rw (p, q, r, s, t) refl

pub placed_more : (old new : List Placed) (p : Placed) (unit name : List ℕ) (links : List LinkTree) → new ≡ old ++ p ∷ [] → p.«module».bytes ≡ unit → p.name.bytes ≡ name → (plain_placed p).links ≡ links
    → map plain_placed new ≡ map plain_placed old ++ (let t : PlacedTree = record { unit = unit; name = name; links = links } in t) ∷ []
placed_more old new p unit name links e a b c = ap (map plain_placed) e ∙ map-append plain_placed old (p ∷ []) ∙ ap (λ t. map plain_placed old ++ t ∷ []) (same_placed _ _ _ _ _ _ a b c)
  where
    same_placed : (u v n m : List ℕ) (x y : List LinkTree) → u ≡ v → n ≡ m → x ≡ y → (let s : PlacedTree = record { unit = u; name = n; links = x } in s) ≡ (let t : PlacedTree = record { unit = v; name = m; links = y } in t)
    same_placed u v n m x y a b c = rw (a, b, c) refl
