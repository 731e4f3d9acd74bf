-- The table has exactly the primitives, each in one class.
use Rattle.std.proofs.Common.{◌≡◌, ◌≢◌, ℕ, Bool, true, false, not, ◌&&◌, ◌||◌, List, [], ◌∷◌, get_or, nat_eq, refl, ap, sym, subst, ◌∙◌}
use Rattle.std.specs.List.{All, AllPairs, Contains, list_any, list_all}
use Rattle.std.proofs.lemmas.Bool.{and_parts, eqb-true, not-true}
use Rattle.std.proofs.lemmas.List.Sums.{AllPass-from_list_all}
use Rattle.std.proofs.lemmas.Map.Views.{Contains-from_any}
use Rattle.fault_core.specs.declared.table.Class.{Class}
use Rattle.fault_core.specs.declared.table.Class.TheVariants.{SF, TF, WDF, RDF, DRDF, IRF, CFst, CFds, CFtr, CFwd, CFrd, CFdr, CFir, DRF}
use Rattle.fault_core.specs.Primitive.{Primitive, IsPrimitive, has_aggressor, is_retention}
use Rattle.fault_core.specs.Classes.{class_by_parts}
use Rattle.fault_core.specs.Table.{members_of, one_cell_table, two_cell_table, retention_table}
use Rattle.fault_core.proofs.Tests.{implied, other_holds, all_differ-pairs}
use Rattle.fault_core.proofs.Parts.{at_all_parts, parts_pass, same_parts, same_parts-equal, same_parts-refl, is_primitive, primitive_passes, passes_primitive}

-- what is shown by a test of those parts that are a primitive
pub shown_of_primitives : (f : Primitive → Bool) → at_all_parts (λ p. not (is_primitive p) || f p) ≡ true
    → (p : Primitive) → IsPrimitive p → f p ≡ true
shown_of_primitives f h p is = implied (is_primitive p) (f p) (primitive_passes p is) (parts_pass (λ q. not (is_primitive q) || f q) h p)

abbrev pub is_among : List Primitive → Primitive → Bool
is_among xs p = list_any (same_parts p) xs

pub contained : (xs : List Primitive) (p : Primitive) → is_among xs p ≡ true → Contains xs p
contained xs p h = Contains-from_any same_parts-equal p xs h

pub element_has : (P : Primitive → Type 0) (xs : List Primitive) (p : Primitive) → All P xs → Contains xs p → P p
element_has P xs p all (k, within, at) = subst P at (all k p within)

-- a primitive is in the list of its class
pub class_has : (p : Primitive) → IsPrimitive p → Contains (members_of (class_by_parts p)) p
class_has p is = contained _ p (shown_of_primitives (λ q. is_among (members_of (class_by_parts q)) q) refl p is)

-- a primitive without an aggressor is in the table of one cell, and one with an aggressor in that of two
pub one_cell_has : (p : Primitive) → IsPrimitive p → has_aggressor p ≡ false → is_retention p ≡ false → Contains one_cell_table p
one_cell_has p is alone stays =
    contained one_cell_table p (other_holds (is_retention p) _ stays (other_holds (has_aggressor p) _ alone
    (shown_of_primitives (λ q. has_aggressor q || (is_retention q || is_among one_cell_table q)) refl p is)))

pub retention_has : (p : Primitive) → IsPrimitive p → is_retention p ≡ true → Contains retention_table p
retention_has p is lost =
    contained retention_table p (implied (is_retention p) _ lost (shown_of_primitives (λ q. not (is_retention q) || is_among retention_table q) refl p is))

pub two_cell_has : (p : Primitive) → IsPrimitive p → has_aggressor p ≡ true → Contains two_cell_table p
two_cell_has p is beside =
    contained two_cell_table p (implied (has_aggressor p) _ beside (shown_of_primitives (λ q. not (has_aggressor q) || is_among two_cell_table q) refl p is))

-- what is in the tables is a primitive
pub one_cell_are : All (λ p. IsPrimitive p × (has_aggressor p ≡ false) × (is_retention p ≡ false)) one_cell_table
one_cell_are k d within =
    let both =
    and_parts _ _ (AllPass-from_list_all (λ q. is_primitive q && (not (has_aggressor q) && not (is_retention q))) one_cell_table refl k d within) in
    let rest = and_parts _ _ both.1 in
    (passes_primitive _ both.0, not-true _ rest.0, not-true _ rest.1)

pub retention_are : All (λ p. IsPrimitive p × (has_aggressor p ≡ false) × (is_retention p ≡ true)) retention_table
retention_are k d within =
    let both =
    and_parts _ _ (AllPass-from_list_all (λ q. is_primitive q && (not (has_aggressor q) && is_retention q)) retention_table refl k d within) in
    let rest = and_parts _ _ both.1 in
    (passes_primitive _ both.0, not-true _ rest.0, rest.1)

pub two_cell_are : All (λ p. IsPrimitive p × (has_aggressor p ≡ true)) two_cell_table
two_cell_are k d within =
    let both = and_parts _ _ (AllPass-from_list_all (λ q. is_primitive q && has_aggressor q) two_cell_table refl k d within) in
    (passes_primitive _ both.0, both.1)

-- the place of a class in the table
abbrev pub rank : Class → ℕ
rank SF = 0
rank TF = 1
rank WDF = 2
rank RDF = 3
rank DRDF = 4
rank IRF = 5
rank CFst = 6
rank CFds = 7
rank CFtr = 8
rank CFwd = 9
rank CFrd = 10
rank CFdr = 11
rank CFir = 12
rank DRF = 13

class_at : ℕ → Class
class_at n = get_or (SF ∷ TF ∷ WDF ∷ RDF ∷ DRDF ∷ IRF ∷ CFst ∷ CFds ∷ CFtr ∷ CFwd ∷ CFrd ∷ CFdr ∷ CFir ∷ DRF ∷ []) n SF

class_at-rank : (class : Class) → class_at (rank class) ≡ class
unfolding class_at
class_at-rank SF = refl
class_at-rank TF = refl
class_at-rank WDF = refl
class_at-rank RDF = refl
class_at-rank DRDF = refl
class_at-rank IRF = refl
class_at-rank CFst = refl
class_at-rank CFds = refl
class_at-rank CFtr = refl
class_at-rank CFwd = refl
class_at-rank CFrd = refl
class_at-rank CFdr = refl
class_at-rank CFir = refl
class_at-rank DRF = refl

-- the parts of each member of a class tell that class
members_tell : (class : Class) → list_all (λ p. nat_eq (rank (class_by_parts p)) (rank class)) (members_of class) ≡ true
members_tell SF = refl
members_tell TF = refl
members_tell WDF = refl
members_tell RDF = refl
members_tell DRDF = refl
members_tell IRF = refl
members_tell CFst = refl
members_tell CFds = refl
members_tell CFtr = refl
members_tell CFwd = refl
members_tell CFrd = refl
members_tell CFdr = refl
members_tell CFir = refl
members_tell DRF = refl

-- a primitive is in the list of no other class
pub class_only : (p : Primitive) (class : Class) → Contains (members_of class) p → class ≡ class_by_parts p
class_only p class here =
    let told : nat_eq (rank (class_by_parts p)) (rank class) ≡ true =
    element_has (λ q. nat_eq (rank (class_by_parts q)) (rank class) ≡ true) (members_of class) p
    (AllPass-from_list_all _ (members_of class) (members_tell class)) here in
    sym (class_at-rank class) ∙ ap class_at (sym (eqb-true _ _ told)) ∙ class_at-rank (class_by_parts p)

-- no two elements of a table have the same parts
pub one_cell_differ : AllPairs (λ p q. p ≢ q) one_cell_table
one_cell_differ = all_differ-pairs same_parts same_parts-refl one_cell_table refl

pub retention_differ : AllPairs (λ p q. p ≢ q) retention_table
retention_differ = all_differ-pairs same_parts same_parts-refl retention_table refl

pub two_cell_differ : AllPairs (λ p q. p ≢ q) two_cell_table
two_cell_differ = all_differ-pairs same_parts same_parts-refl two_cell_table refl
