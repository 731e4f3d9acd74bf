-- What an expression reads is declared, and isn't the clock.
use Rattle.std.proofs.Common.{◌≡◌, ℕ, Bool, true, false, cond, List, [], ◌∷◌, ◌++◌, ◌⊎◌, inl, inr, Option, Some, None, is_none, refl, sym, subst}
use Rattle.verilog_tree.specs.Plain.{Expression, Net, BitSelect, PartSelect, Literal, Concatenation, Prefixed, Infixed, Conditional, Expressions, NoMore, Followed, ModuleItem, AssignItem, ModulePort, ModuleTree}
use Rattle.verilog_tree.specs.Names.{Declaration, port_declarations, item_declarations, declarations, lookup, is_clk}
use Rattle.verilog_tree.specs.Meaning.{names_widths}
use Rattle.verilog_tree.specs.Rules.{Break, Mention, AsTarget, Whole, Selected, mentioned, reads, all_reads, mentions, first_bad, Unknown, Clock, is_unknown, is_wrong_clock, first_break, item_break, items_break, port_twice, port_clock, undriven}
use Rattle.verilog_tree.specs.Wires.{Uses, UsesAny, Leads, Read}
use Rattle.verilog_tree.proofs.Breaks.{two, five}
use Rattle.verilog_tree.proofs.Clean.{not_here, item_clean, declarations_more, one_item}
use Rattle.verilog_tree.proofs.Lookups.{lookup_first}

-- the test passes a name that is read
abbrev Passes : (Mention → Bool) → List ℕ → Type 0
Passes bad m = (bad (Whole m) ≡ false) ⊎ ((h : ℕ) × (l : ℕ) × (bad (Selected m h l) ≡ false))

both : (bad : Mention → Bool) (fault : List ℕ → Break) (xs ys : List Mention) → first_bad bad fault (xs ++ ys) ≡ None → (first_bad bad fault xs ≡ None) × (first_bad bad fault ys ≡ None)
both bad fault [] ys h = (refl, h)
both bad fault (x ∷ xs) ys h = at (bad x) h (both bad fault xs ys)
  where
    at : (t : Bool) → cond t (Some (fault (mentioned x))) (first_bad bad fault (xs ++ ys)) ≡ None → (first_bad bad fault (xs ++ ys) ≡ None → (first_bad bad fault xs ≡ None) × (first_bad bad fault ys ≡ None)) → (cond t (Some (fault (mentioned x))) (first_bad bad fault xs) ≡ None) × (first_bad bad fault ys ≡ None)
    at true g later = cc
    at false g later = later g

whole : (bad : Mention → Bool) (m n : List ℕ) → m ≡ n → bad (Whole n) ≡ false → Passes bad m
whole bad m n e h = inl (subst (λ (k : List ℕ). bad (Whole k) ≡ false) (sym e) h)

part : (bad : Mention → Bool) (m n : List ℕ) (h l : ℕ) → m ≡ n → bad (Selected n h l) ≡ false → Passes bad m
part bad m n h l e g = inr (h, l, subst (λ (k : List ℕ). bad (Selected k h l) ≡ false) (sym e) g)

mutual
  passes : (bad : Mention → Bool) (fault : List ℕ → Break) (m : List ℕ) (x : Expression) → first_bad bad fault (reads x) ≡ None → Uses m x → Passes bad m
  passes bad fault m (Net n) h u = whole bad m n u ((not_here (bad (Whole n)) (fault n) None h).0)
  passes bad fault m (BitSelect n i) h u = part bad m n i i u ((not_here (bad (Selected n i i)) (fault n) None h).0)
  passes bad fault m (PartSelect n i l) h u = part bad m n i l u ((not_here (bad (Selected n i l)) (fault n) None h).0)
  passes bad fault m (Literal b) h u = absurd u
  passes bad fault m (Concatenation xs) h u = all_pass bad fault m xs h u
  passes bad fault m (Prefixed o x) h u = passes bad fault m x h u
  passes bad fault m (Infixed o x y) h (inl u) = passes bad fault m x ((both bad fault (reads x) (reads y) h).0) u
  passes bad fault m (Infixed o x y) h (inr u) = passes bad fault m y ((both bad fault (reads x) (reads y) h).1) u
  passes bad fault m (Conditional c x y) h (inl u) = passes bad fault m c ((both bad fault (reads c) (reads x ++ reads y) h).0) u
  passes bad fault m (Conditional c x y) h (inr (inl u)) = passes bad fault m x ((both bad fault (reads x) (reads y) ((both bad fault (reads c) (reads x ++ reads y) h).1)).0) u
  passes bad fault m (Conditional c x y) h (inr (inr u)) = passes bad fault m y ((both bad fault (reads x) (reads y) ((both bad fault (reads c) (reads x ++ reads y) h).1)).1) u

  all_pass : (bad : Mention → Bool) (fault : List ℕ → Break) (m : List ℕ) (xs : Expressions) → first_bad bad fault (all_reads xs) ≡ None → UsesAny m xs → Passes bad m
  all_pass bad fault m NoMore h u = absurd u
  all_pass bad fault m (Followed x xs) h (inl u) = passes bad fault m x ((both bad fault (reads x) (all_reads xs) h).0) u
  all_pass bad fault m (Followed x xs) h (inr u) = all_pass bad fault m xs ((both bad fault (reads x) (all_reads xs) h).1) u

found : (o : Option Declaration) → is_none o ≡ false → (d : Declaration) × (o ≡ Some d)
found None h = cc
found (Some d) h = (d, refl)

known : (ds : List Declaration) (m : List ℕ) → Passes (is_unknown ds) m → (d : Declaration) × (lookup ds m ≡ Some d)
known ds m (inl h) = found (lookup ds m) h
known ds m (inr h) = found (lookup ds m) h.2

unclocked : (ds : List Declaration) (m : List ℕ) → Passes (is_wrong_clock ds) m → is_clk m ≡ false
unclocked ds m (inl h) = h
unclocked ds m (inr h) = h.2

read_here : (ps : List ModulePort) (b is : List ModuleItem) (k m : List ℕ) (x : Expression) → first_bad (is_unknown (declarations ps b)) Unknown (AsTarget k ∷ reads x) ≡ None → first_bad (is_wrong_clock (declarations ps b)) Clock (AsTarget k ∷ reads x) ≡ None → Uses m x → Read (declarations ps (b ++ is)) m
read_here ps b is k m x h g u =
    let ds = declarations ps b in
    let d = known ds m (passes (is_unknown ds) Unknown m x ((not_here (is_unknown ds (AsTarget k)) (Unknown k) (first_bad (is_unknown ds) Unknown (reads x)) h).1) u) in
    record {
      declaration = d.0;
      found = subst (λ (l : List Declaration). lookup l m ≡ Some d.0) (sym (declarations_more ps b is)) (lookup_first ds (item_declarations is) m d.0 d.1);
      unclocked = unclocked ds m (passes (is_wrong_clock ds) Clock m x g u);
    }

items_read : (w : List ℕ → ℕ) (ps : List ModulePort) (b is : List ModuleItem) (n m : List ℕ) → items_break w ps b is ≡ None → Leads is n m → Read (declarations ps (b ++ is)) m
items_read w ps b [] n m h l = absurd l
items_read w ps b (i ∷ is) n m h l =
    let p = two (item_break w ps b i) (items_break w ps (b ++ i ∷ []) is) h in
    let c = item_clean w ps b i p.0 in
    here i c.0 c.7 (λ (k : Leads is n m). subst (λ (r : List ModuleItem). Read (declarations ps r) m) (one_item b i is) (items_read w ps (b ++ i ∷ []) is n m p.1 k)) l
  where
    here : (i : ModuleItem) → first_bad (is_unknown (declarations ps b)) Unknown (mentions i) ≡ None → first_bad (is_wrong_clock (declarations ps b)) Clock (mentions i) ≡ None → (Leads is n m → Read (declarations ps (b ++ i ∷ is)) m) → Leads (i ∷ is) n m → Read (declarations ps (b ++ i ∷ is)) m
    here (AssignItem k x) a c later (inl l) = read_here ps b (AssignItem k x ∷ is) k m x a c l.1
    here (AssignItem k x) a c later (inr l) = later l
    here other a c later l = later l

-- in a module that breaks no rule
pub reads_declared : (mo : ModuleTree) → first_break mo ≡ None → (n m : List ℕ) → Leads mo.items n m → Read (declarations mo.ports mo.items) m
reads_declared mo h n m l =
    let ports = port_declarations mo.ports in
    let b = five (port_twice [] ports) (port_clock ports) (items_break (names_widths mo) mo.ports [] mo.items) (undriven mo.items ports) (undriven mo.items (item_declarations mo.items)) h in
    items_read (names_widths mo) mo.ports [] mo.items n m b.2 l
