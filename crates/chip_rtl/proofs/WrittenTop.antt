-- What is printed of a top that fits spells it.
use Rattle.std.proofs.Common.{◌≡◌, ℕ, ◌&&◌, true, false, List, [], ◌∷◌, ◌++◌, codes, refl, append_assoc}
use Rattle.verilog_tree.specs.declared.tokens.Mark.TheVariants.{Open, Close, Comma, Semicolon, FullStop}
use Rattle.verilog_tree.specs.Fits.{item_fits, items_fit}
use Rattle.verilog_tree.specs.Formed.{item_formed, items_formed}
use Rattle.verilog_tree.specs.Grammar.{sign, name, inside}
use Rattle.verilog_tree.specs.Plain as P
use Rattle.verilog_tree.specs.Tokens.{Token}
use Rattle.verilog_tree.specs.Words.{is_name}
use Rattle.verilog_emit.specs.Printed.{item_text, items_text}
use Rattle.verilog_emit.proofs.Derivations.{derive_item, derive_items}
use Rattle.verilog_emit.proofs.Pieces.{Spelt, both, grouped, blank, line_feed, named, opened}
use Rattle.verilog_emit.proofs.WrittenExpressions.{L, plain}
use Rattle.verilog_emit.proofs.WrittenModule.{item_spelt, in_margin}
use Rattle.chip_rtl.specs.ChipTree.{LinkTree, PlacedTree}
use Rattle.chip_rtl.specs.ChipGrammar.{link, links, own_item, own_items, placed, all_placed}
use Rattle.chip_rtl.specs.PrintedTop.{link_text, links_text, placed_text, placed_texts}
use Rattle.chip_rtl.specs.TopFits.{is_own, all_own, has_link, links_fit, placed_fit}
use Rattle.chip_rtl.proofs.TopDerived.{place, derive_placed, placed_parts}

-- ---- links

link_bytes : (s p o n c r : List ℕ) → (s ++ p ++ o ++ n ++ c) ++ r ≡ s ++ (p ++ (o ++ (n ++ (c ++ r))))
link_bytes s p o n c r = simp append_assoc

link_spelt : (x : LinkTree) (K : List Token → Type 0) (r : List ℕ) → is_name x.port ≡ true → is_name x.net ≡ true → Spelt K r → Spelt (link L 1 x K) (link_text x ++ r)
link_spelt x K r f g h =
    let b : List ℕ = x.net ++ (codes ")" ++ r) in
    let K1 : ℕ → List Token → Type 0 = λ e. name x.net (sign Close K) in
    grouped (link L 1 x K) (link_text x ++ r) (codes "." ++ (x.port ++ (codes "(" ++ b))) (link_bytes (codes ".") x.port (codes "(") x.net (codes ")") r)
    (plain FullStop (name x.port (sign Open (inside L 1 K1))) (x.port ++ (codes "(" ++ b)) (λ c. refl)
    (named x.port (sign Open (inside L 1 K1)) (codes "(" ++ b) f refl
    (plain Open (inside L 1 K1) b (λ c. refl)
    (opened 1 62 K1 b refl
    (named x.net (sign Close K) (codes ")" ++ r) g refl
    (plain Close K r (λ c. refl) h))))))

link_parts : (x : LinkTree) (xs : List LinkTree) → links_fit (x ∷ xs) ≡ true → (is_name x.port ≡ true) × (is_name x.net ≡ true) × (links_fit xs ≡ true)
link_parts x xs f =
    let a = both (is_name x.port && is_name x.net) (links_fit xs) f in
    let b = both (is_name x.port) (is_name x.net) a.0 in
    (b.0, b.1, a.1)

links_bytes : (s x l r : List ℕ) → (s ++ x ++ l) ++ r ≡ s ++ (x ++ (l ++ r))
links_bytes s x l r = simp append_assoc

links_spelt : (xs : List LinkTree) (K : List Token → Type 0) (r : List ℕ) → links_fit xs ≡ true → Spelt K r → Spelt (links L 1 xs K) (links_text false xs ++ r)
links_spelt [] K r f h = h
links_spelt (x ∷ xs) K r f h =
    let e = link_parts x xs f in
    let K1 : List Token → Type 0 = link L 1 x (links L 1 xs K) in
    let b : List ℕ = link_text x ++ (links_text false xs ++ r) in
    grouped (links L 1 (x ∷ xs) K) (links_text false (x ∷ xs) ++ r) (codes ", " ++ b) (links_bytes (codes ", ") (link_text x) (links_text false xs) r)
    (plain Comma K1 (codes " " ++ b) (λ c. refl)
    (blank K1 b
    (link_spelt x (links L 1 xs K) (links_text false xs ++ r) e.0 e.1 (links_spelt xs K r e.2 h))))

-- ---- placed modules

placed_bytes : (m n x l r : List ℕ) → (codes "  " ++ (m ++ codes " " ++ n ++ codes "(" ++ ([] ++ x ++ l) ++ codes ");") ++ (10 ∷ [])) ++ r ≡ codes "  " ++ (m ++ (32 ∷ (n ++ (codes "(" ++ (x ++ (l ++ (codes ");" ++ (10 ∷ r))))))))
placed_bytes m n x l r = grouping (codes "  ") m (codes " ") n (codes "(") x l (codes ");") (10 ∷ []) r
  where
    grouping : (s m b n o x l c e r : List ℕ) → (s ++ (m ++ b ++ n ++ o ++ (x ++ l) ++ c) ++ e) ++ r ≡ s ++ (m ++ (b ++ (n ++ (o ++ (x ++ (l ++ (c ++ (e ++ r))))))))
    grouping s m b n o x l c e r = simp append_assoc

place_spelt : (m n : List ℕ) (ls : List LinkTree) (K : List Token → Type 0) (r : List ℕ) → is_name m ≡ true → is_name n ≡ true → has_link ls ≡ true → links_fit ls ≡ true → Spelt K r
    → Spelt (placed L (place m n ls) K) (placed_text (record { unit = m; name = n; links = ls }) ++ r)
place_spelt m n [] K r f g l i h = cc
place_spelt m n (x ∷ xs) K r f g l i h =
    let e = link_parts x xs i in
    let K3 : List Token → Type 0 = sign Close (sign Semicolon K) in
    let K2 : ℕ → List Token → Type 0 = λ d. link L d x (links L d xs K3) in
    let K1 : List Token → Type 0 = name n (sign Open (inside L 0 K2)) in
    let b2 : List ℕ = codes ");" ++ (10 ∷ r) in
    let b1 : List ℕ = link_text x ++ (links_text false xs ++ b2) in
    let T : List Token → Type 0 = placed L (place m n (x ∷ xs)) K in
    grouped T (placed_text (record { unit = m; name = n; links = x ∷ xs }) ++ r) (codes "  " ++ (m ++ (32 ∷ (n ++ (codes "(" ++ b1))))) (placed_bytes m n (link_text x) (links_text false xs) r)
    (in_margin T (m ++ (32 ∷ (n ++ (codes "(" ++ b1))))
    (named m K1 (32 ∷ (n ++ (codes "(" ++ b1))) f refl
    (blank K1 (n ++ (codes "(" ++ b1))
    (named n (sign Open (inside L 0 K2)) (codes "(" ++ b1) g refl
    (plain Open (inside L 0 K2) b1 (λ c. refl)
    (opened 0 63 K2 b1 refl
    (link_spelt x (links L 1 xs K3) (links_text false xs ++ b2) e.0 e.1
    (links_spelt xs K3 b2 e.2
    (plain Close (sign Semicolon K) (codes ";" ++ (10 ∷ r)) (λ c. refl)
    (plain Semicolon K (10 ∷ r) (λ c. refl) (line_feed K r h)))))))))))

pub placed_spelt : (pl : List PlacedTree) (K : List Token → Type 0) (r : List ℕ) → placed_fit pl ≡ true → Spelt K r → Spelt (all_placed L (derive_placed pl) K) (placed_texts pl ++ r)
placed_spelt [] K r f h = h
placed_spelt (p ∷ ps) K r f h =
    let e = placed_parts p ps f in
    grouped (all_placed L (derive_placed (p ∷ ps)) K) (placed_texts (p ∷ ps) ++ r) (placed_text p ++ (placed_texts ps ++ r)) (append_assoc (placed_text p) (placed_texts ps) r)
    (place_spelt p.unit p.name p.links (all_placed L (derive_placed ps) K) (placed_texts ps ++ r) e.0.0 e.0.1 e.0.2 e.0.3 (placed_spelt ps K r e.1 h))

-- ---- items

own_spelt : (i : P.ModuleItem) (K : List Token → Type 0) (r : List ℕ) → is_own i ≡ true → item_fits 64 i ≡ true → item_formed i ≡ true → Spelt K r → Spelt (own_item L (derive_item i) K) (item_text i ++ r)
own_spelt (P.WireItem n w) K r o f m h = item_spelt (P.WireItem n w) K r f m h
own_spelt (P.RegItem n w) K r o f m h = cc
own_spelt (P.AssignItem n x) K r o f m h = item_spelt (P.AssignItem n x) K r f m h
own_spelt (P.AlwaysItem c ss) K r o f m h = cc

pub owns_spelt : (is : List P.ModuleItem) (K : List Token → Type 0) (r : List ℕ) → all_own is ≡ true → items_fit 64 is ≡ true → items_formed is ≡ true → Spelt K r → Spelt (own_items L (derive_items is) K) (items_text is ++ r)
owns_spelt [] K r o f m h = h
owns_spelt (i ∷ is) K r o f m h =
    let a = both (is_own i) (all_own is) o in
    let g = both (item_fits 64 i) (items_fit 64 is) f in
    let n = both (item_formed i) (items_formed is) m in
    grouped (own_items L (derive_items (i ∷ is)) K) (items_text (i ∷ is) ++ r) (item_text i ++ (items_text is ++ r)) (append_assoc (item_text i) (items_text is) r)
    (own_spelt i (own_items L (derive_items is) K) (items_text is ++ r) a.0 g.0 n.0 (owns_spelt is K r a.1 g.1 n.1 h))
