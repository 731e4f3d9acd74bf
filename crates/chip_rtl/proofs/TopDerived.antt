-- The derivation of a printed top, and its tree, which is the top printed.
use Rattle.std.proofs.Common.{◌≡◌, ℕ, ◌&&◌, true, List, [], ◌∷◌, map, refl, ap, ◌∙◌}
use Rattle.verilog_tree.specs.Formed.{ports_formed, items_formed}
use Rattle.verilog_tree.specs.Grammar.{items_tree}
use Rattle.verilog_tree.specs.Plain as P
use Rattle.verilog_tree.specs.Words.{is_name}
use Rattle.verilog_emit.proofs.Derivations.{derive_items, derive_port, derive_ports, same_items, same_ports}
use Rattle.verilog_emit.proofs.Pieces.{both}
use Rattle.chip_rtl.specs.ChipTree.{LinkTree, PlacedTree, TopTree}
use Rattle.chip_rtl.specs.ChipGrammar.{PlacedModule, TopFile, placed_tree, top_tree}
use Rattle.chip_rtl.specs.TopFits.{has_link, links_fit, placed_fit}

-- without links there is nothing to derive, and any derivation stands here
abbrev pub place : List ℕ → List ℕ → List LinkTree → PlacedModule
place m n [] = record { unit = m; name = n; link = record { port = []; net = [] }; links = [] }
place m n (x ∷ xs) = record { unit = m; name = n; link = x; links = xs }

abbrev pub derive_placed : List PlacedTree → List PlacedModule
derive_placed [] = []
derive_placed (p ∷ ps) = place p.unit p.name p.links ∷ derive_placed ps

abbrev pub derive_top : List ℕ → P.ModulePort → List P.ModulePort → List P.ModuleItem → List PlacedTree → TopFile
derive_top n p ps is pl = record { name = n; port = derive_port p; ports = derive_ports ps; items = derive_items is; placed = derive_placed pl }

place_is : (m n : List ℕ) (ls : List LinkTree) → has_link ls ≡ true → placed_tree (place m n ls) ≡ record { unit = m; name = n; links = ls }
place_is m n [] h = cc
place_is m n (x ∷ xs) h = refl

pub placed_parts : (p : PlacedTree) (ps : List PlacedTree) → placed_fit (p ∷ ps) ≡ true → ((is_name p.unit ≡ true) × (is_name p.name ≡ true) × (has_link p.links ≡ true) × (links_fit p.links ≡ true)) × (placed_fit ps ≡ true)
placed_parts p ps f =
    let a = both (is_name p.unit && is_name p.name && has_link p.links && links_fit p.links) (placed_fit ps) f in
    let b = both (is_name p.unit && is_name p.name && has_link p.links) (links_fit p.links) a.0 in
    let c = both (is_name p.unit && is_name p.name) (has_link p.links) b.0 in
    let d = both (is_name p.unit) (is_name p.name) c.0 in
    ((d.0, d.1, c.1, b.1), a.1)

same_placed : (pl : List PlacedTree) → placed_fit pl ≡ true → map placed_tree (derive_placed pl) ≡ pl
same_placed [] f = refl
same_placed (p ∷ ps) f =
    let e = placed_parts p ps f in
    ap (λ (t : PlacedTree). t ∷ map placed_tree (derive_placed ps)) (place_is p.unit p.name p.links e.0.2) ∙ ap (λ (t : List PlacedTree). p ∷ t) (same_placed ps e.1)

pub same_top : (n : List ℕ) (p : P.ModulePort) (ps : List P.ModulePort) (is : List P.ModuleItem) (pl : List PlacedTree) → ports_formed (p ∷ ps) ≡ true → items_formed is ≡ true → placed_fit pl ≡ true
    → top_tree (derive_top n p ps is pl) ≡ record { name = n; ports = p ∷ ps; items = is; placed = pl }
same_top n p ps is pl f g h =
    ap (λ (t : List P.ModulePort). let r : TopTree = record { name = n; ports = t; items = items_tree (derive_items is); placed = map placed_tree (derive_placed pl) } in r) (same_ports (p ∷ ps) f)
    ∙ ap (λ (t : List P.ModuleItem). let r : TopTree = record { name = n; ports = p ∷ ps; items = t; placed = map placed_tree (derive_placed pl) } in r) (same_items is g)
    ∙ ap (λ (t : List PlacedTree). let r : TopTree = record { name = n; ports = p ∷ ps; items = is; placed = t } in r) (same_placed pl h)
