-- The two tables have exactly the dynamic primitives, each once.
use Rattle.std.proofs.Common.{◌≡◌, ◌≢◌, Bool, true, false, not, ◌&&◌, ◌||◌, List, refl}
use Rattle.std.specs.List.{All, AllPairs, Contains, list_any}
use Rattle.std.proofs.lemmas.Bool.{and_parts, not-true}
use Rattle.std.proofs.lemmas.List.Sums.{AllPass-from_list_all}
use Rattle.std.proofs.lemmas.Map.Views.{Contains-from_any}
use Rattle.fault_core.proofs.Tests.{implied, other_holds, all_differ-pairs}
use Rattle.dynamic_core.specs.Primitive.{DynamicPrimitive, IsDynamic, has_aggressor}
use Rattle.dynamic_core.specs.Table.{dyn_one_table, dyn_two_table}
use Rattle.dynamic_core.proofs.Parts.{at_all_parts, parts_pass, same_parts, same_parts-equal, same_parts-refl, is_dynamic, dynamic_passes, passes_dynamic}

abbrev is_among : List DynamicPrimitive → DynamicPrimitive → Bool
is_among xs p = list_any (same_parts p) xs

-- what is shown by a test of those parts that are a dynamic primitive
shown : (f : DynamicPrimitive → Bool) → at_all_parts (λ p. not (is_dynamic p) || f p) ≡ true → (p : DynamicPrimitive) → IsDynamic p → f p ≡ true
shown f h p is =
    let passes = dynamic_passes p is in
    implied (is_dynamic p) (f p) passes (parts_pass (λ q. not (is_dynamic q) || f q) h p (and_parts _ _ passes).0)

-- a dynamic primitive without an aggressor is in the table of one cell, and one with an aggressor in that of two
pub dyn_one_has : (p : DynamicPrimitive) → IsDynamic p → has_aggressor p ≡ false → Contains dyn_one_table p
dyn_one_has p is alone =
    Contains-from_any same_parts-equal p dyn_one_table (other_holds (has_aggressor p) _ alone (shown (λ q. has_aggressor q || is_among dyn_one_table q) refl p is))

pub dyn_two_has : (p : DynamicPrimitive) → IsDynamic p → has_aggressor p ≡ true → Contains dyn_two_table p
dyn_two_has p is beside =
    Contains-from_any same_parts-equal p dyn_two_table (implied (has_aggressor p) _ beside (shown (λ q. not (has_aggressor q) || is_among dyn_two_table q) refl p is))

-- what is in the tables is a dynamic primitive
pub dyn_one_are : All (λ p. IsDynamic p × (has_aggressor p ≡ false)) dyn_one_table
dyn_one_are k d within =
    let both = and_parts _ _ (AllPass-from_list_all (λ q. is_dynamic q && not (has_aggressor q)) dyn_one_table refl k d within) in
    (passes_dynamic _ both.0, not-true _ both.1)

pub dyn_two_are : All (λ p. IsDynamic p × (has_aggressor p ≡ true)) dyn_two_table
dyn_two_are k d within =
    let both = and_parts _ _ (AllPass-from_list_all (λ q. is_dynamic q && has_aggressor q) dyn_two_table refl k d within) in
    (passes_dynamic _ both.0, both.1)

-- no two elements of a table have the same parts
pub dyn_one_differ : AllPairs (λ p q. p ≢ q) dyn_one_table
dyn_one_differ = all_differ-pairs same_parts same_parts-refl dyn_one_table refl

pub dyn_two_differ : AllPairs (λ p q. p ≢ q) dyn_two_table
dyn_two_differ = all_differ-pairs same_parts same_parts-refl dyn_two_table refl
