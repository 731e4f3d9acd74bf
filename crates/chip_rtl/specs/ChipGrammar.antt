-- Trusted. The grammar of a chip's text: modules one behind another, then a top that places them.
use Rattle.std.specs.Prelude.{◌≡◌, ℕ, true, List, [], ◌∷◌, ◌++◌, map, codes}
use Rattle.verilog_tree.specs.declared.tokens.Mark.TheVariants.{Open, Close, Comma, Semicolon, FullStop}
use Rattle.verilog_tree.specs.Plain.{ModuleTree}
use Rattle.verilog_tree.specs.Tokens.{Token, Lexed}
use Rattle.verilog_tree.specs.Grammar.{Item, Wires, Regs, Drives, Always, Port, Limit, Parenthesised, sign, keyword, name, inside, item, items_tree, port, ports, port_tree, ports_tree, no_token}
use Rattle.verilog_tree.specs.Spells.{Limits, all_keep, Derives}
use Rattle.chip_rtl.specs.ChipTree.{LinkTree, PlacedTree, TopTree, ChipTree}

-- a derivation of placed: the name of the module, the name that it is placed under, a link, and further ones
pub record PlacedModule : Type 0 where
  pub unit : List ℕ
  pub name : List ℕ
  pub link : LinkTree
  pub links : List LinkTree

-- a derivation of top
pub record TopFile : Type 0 where
  pub name : List ℕ
  pub port : Port
  pub ports : List Port
  pub items : List Item
  pub placed : List PlacedModule

-- "." name "(" name ")"
abbrev pub link : Limit → ℕ → LinkTree → (List Token → Type 0) → List Token → Type 0
link l d x K = sign FullStop (name x.port (sign Open (inside l d (λ e. name x.net (sign Close K)))))

-- { "," link }
abbrev pub links : Limit → ℕ → List LinkTree → (List Token → Type 0) → List Token → Type 0
links l d [] K = K
links l d (x ∷ xs) K = sign Comma (link l d x (links l d xs K))

-- own_item: wires and assigns as in any module; a top has no registers and no blocks
abbrev pub own_item : Limit → Item → (List Token → Type 0) → List Token → Type 0
own_item l (Wires r n ns) K = item Parenthesised l (Wires r n ns) K
own_item l (Drives n x) K = item Parenthesised l (Drives n x) K
own_item l (Regs r n ns) K = λ ts. ⊥
own_item l (Always c s) K = λ ts. ⊥

abbrev pub own_items : Limit → List Item → (List Token → Type 0) → List Token → Type 0
own_items l [] K = K
own_items l (i ∷ is) K = own_item l i (own_items l is K)

-- placed = name name "(" link { "," link } ")" ";"
abbrev pub placed : Limit → PlacedModule → (List Token → Type 0) → List Token → Type 0
placed l p K = name p.unit (name p.name (sign Open (inside l 0 (λ e. link l e p.link (links l e p.links (sign Close (sign Semicolon K)))))))

abbrev pub all_placed : Limit → List PlacedModule → (List Token → Type 0) → List Token → Type 0
all_placed l [] K = K
all_placed l (p ∷ ps) K = placed l p (all_placed l ps K)

-- top = "module" name "(" port { "," port } ")" ";" { own_item } { placed } "endmodule"
-- Verilog takes a link to a net that is not declared before it for a declaration, so no wires stand behind placed modules.
abbrev pub top : Limit → TopFile → List Token → Type 0
top l f =
    keyword (codes "module") (name f.name (sign Open (inside l 0 (λ e. port f.port (ports f.ports (sign Close
    (sign Semicolon (own_items l f.items (all_placed l f.placed (keyword (codes "endmodule") no_token))))))))))

abbrev pub placed_tree : PlacedModule → PlacedTree
placed_tree p = record { unit = p.unit; name = p.name; links = p.link ∷ p.links }

abbrev pub top_tree : TopFile → TopTree
top_tree f = record { name = f.name; ports = port_tree f.port ∷ ports_tree f.ports; items = items_tree f.items; placed = map placed_tree f.placed }

-- the tokens of each module, one behind another, and then those of the top
abbrev pub ChipTokens : Limit → List ModuleTree → TopTree → List Token → Type 0
ChipTokens l [] t ts = (f : TopFile) × top l f ts × (top_tree f ≡ t)
ChipTokens l (m ∷ ms) t ts = (us : List Token) × (rest : List Token) × (ts ≡ us ++ rest) × Derives Parenthesised l us m
    × ChipTokens l ms t rest

-- The bytes are tokens, which keep the limits and derive the modules and the top.
abbrev pub ChipText : Limits → List ℕ → ChipTree → Type 0
ChipText l b c = (ts : List Token) × Lexed ts b × (all_keep l ts ≡ true) × ChipTokens l.counts c.units c.top ts
