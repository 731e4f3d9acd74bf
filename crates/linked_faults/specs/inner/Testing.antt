-- Inner. Only helps proofs: linked primitives by a test.
use Rattle.std.specs.Prelude.{Bool, true, if◌then◌else◌, not, ◌&&◌, ◌||◌, Option, Some, None, List, [], ◌∷◌, flat_map}
use Rattle.fault_core.specs.Primitive.{Primitive}
use Rattle.fault_core.specs.Primitive.{has_aggressor, same_bit}
use Rattle.fault_core.specs.Cells.{has_act}
use Rattle.linked_faults.specs.declared.link.Link.{Link}
use Rattle.linked_faults.specs.Linking.{good_after}

abbrev pub is_quiet : Option Bool → Bool → Bool
is_quiet None right = true
is_quiet (Some bit) right = same_bit bit right

abbrev pub leaves_wrong : Link → Bool
leaves_wrong link =
    not (same_bit link.first.after (good_after link.first.vic.act link.first.vic.state)) && is_quiet link.first.answer link.first.vic.state

abbrev pub finds_wrong_bit : Link → Bool
finds_wrong_bit link = same_bit link.second.vic.state link.first.after && not (same_bit link.second.after link.first.after)

abbrev pub hides_wrong_bit : Link → Bool
hides_wrong_bit link = finds_wrong_bit link && is_quiet link.second.answer link.second.after

abbrev pub can_share : Link → Bool
can_share link = not link.is_shared || (has_aggressor link.first && has_aggressor link.second)

abbrev pub linked_test : Link → Bool
linked_test link = ((has_act link.first && has_act link.second) && leaves_wrong link) && (hides_wrong_bit link && can_share link)

-- the link, where the two are linked
abbrev pub if_linked : Link → List Link
if_linked link = if linked_test link then link ∷ [] else []

-- those of a first primitive
abbrev pub linked_behind : Bool → List Primitive → Primitive → List Link
linked_behind is_shared seconds first = flat_map (λ q. if_linked (record { first = first; second = q; is_shared = is_shared })) seconds

-- those of these primitives
abbrev pub linked_pairs : List Primitive → List Primitive → Bool → List Link
linked_pairs firsts seconds is_shared = flat_map (linked_behind is_shared seconds) firsts
