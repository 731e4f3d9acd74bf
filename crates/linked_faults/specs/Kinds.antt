-- Trusted. The linked faults that the static primitives make, in the order of a report: kind by kind, and in a kind by the first and then the
-- second primitive.
use Rattle.std.specs.Prelude.{◌≡◌, ◌++◌, ◌⊎◌, Bool, true, false, if◌then◌else◌, List, [], ◌∷◌, map, flat_map}
use Rattle.fault_core.specs.Primitive.{Primitive, has_aggressor}
use Rattle.fault_core.specs.Table.{one_cell_table, two_cell_table}
use Rattle.linked_faults.specs.declared.link.Link.{Link}
use Rattle.linked_faults.specs.declared.table.LinkKind.{LinkKind}
use Rattle.linked_faults.specs.declared.table.LinkKind.TheVariants.{LF1, LF2aa, LF2av, LF2va, LF3}
use Rattle.linked_faults.specs.Linking.{IsLinked}

-- by who has an aggressor, and whether it is the same cell
abbrev pub kind_of : Link → LinkKind
kind_of link =
    if has_aggressor link.first then (if has_aggressor link.second then (if link.is_shared then LF2aa else LF3) else LF2av)
    else (if has_aggressor link.second then LF2va else LF1)

-- each of these first, with each of those second
abbrev pub pairs_of : List Primitive → List Primitive → Bool → List Link
pairs_of firsts seconds is_shared = flat_map (λ p. map (λ q. record { first = p; second = q; is_shared = is_shared }) seconds) firsts

-- every two primitives, of one cell or of two, in the order LF1, LF2aa, LF2av, LF2va, LF3
abbrev pub pairs_among : List Primitive → List Primitive → List Link
pairs_among one two = pairs_of one one false ++ pairs_of two two true ++ pairs_of two one false
    ++ pairs_of one two false ++ pairs_of two two false

abbrev pub pair_table : List Link
pair_table = pairs_among one_cell_table two_cell_table

-- these are the ones of a list that have a property, in their order
abbrev pub AreThose : {A : Type 0} → (A → Type 0) → List A → List A → Type 0
AreThose {A} P [] chosen = chosen ≡ []
AreThose {A} P (x ∷ xs) chosen =
    (P x × (rest : List A) × AreThose P xs rest × (chosen ≡ x ∷ rest)) ⊎ ((P x → ⊥) × AreThose P xs chosen)

-- the linked ones
unfoldable pub AreLinks : List Link → Type 0
AreLinks links = AreThose IsLinked pair_table links
