-- Public. Links of placed modules.
use Rattle.std.specs.Prelude.{Bool, true, false, ◌&&◌, ◌||◌, not, ℕ, List, [], ◌∷◌}
use Rattle.std.specs.Str.{bytes_eq}
use Rattle.verilog_tree.specs.Plain.{ModuleItem, WireItem, RegItem, AssignItem, AlwaysItem, ModulePort}
use Rattle.verilog_tree.specs.Words.{is_name}
use Rattle.chip_rtl.specs.ChipTree.{LinkTree, PlacedTree}
use Rattle.chip_rtl.specs.TopFits.{has_link, links_fit}

-- its names are legal, and it has links
abbrev pub one_fits : PlacedTree → Bool
one_fits p = is_name p.unit && is_name p.name && has_link p.links && links_fit p.links

-- whether a port is linked
abbrev pub is_linked : List ℕ → List LinkTree → Bool
is_linked p [] = false
is_linked p (l ∷ ls) = bytes_eq p l.port || is_linked p ls

-- no port is linked twice
abbrev pub once : List LinkTree → Bool
once [] = true
once (l ∷ ls) = not (is_linked l.port ls) && once ls

abbrev pub all_once : List PlacedTree → Bool
all_once [] = true
all_once (p ∷ ps) = once p.links && all_once ps

-- ---- the names of a top

abbrev pub item_name : ModuleItem → List ℕ
item_name (WireItem n w) = n
item_name (RegItem n w) = n
item_name (AssignItem n x) = n
item_name (AlwaysItem c ss) = c

abbrev pub in_ports : List ℕ → List ModulePort → Bool
in_ports n [] = false
in_ports n (p ∷ ps) = bytes_eq n p.name || in_ports n ps

abbrev pub in_items : List ℕ → List ModuleItem → Bool
in_items n [] = false
in_items n (i ∷ is) = bytes_eq n (item_name i) || in_items n is

abbrev pub items_differ : List ModuleItem → Bool
items_differ [] = true
items_differ (i ∷ is) = not (in_items (item_name i) is) && items_differ is

-- no two of its ports and wires have one name
abbrev pub all_differ : List ModulePort → List ModuleItem → Bool
all_differ [] is = items_differ is
all_differ (p ∷ ps) is = not (in_ports p.name ps || in_items p.name is) && all_differ ps is
