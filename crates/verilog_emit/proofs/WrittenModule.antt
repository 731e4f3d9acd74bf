-- What is printed of a module that fits spells it, and of which bytes it is.
use Rattle.std.proofs.Common.{◌≡◌, ◌==◌, ◌||◌, ℕ, ◌-◌, ◌≤◌, ◌&&◌, nat_lt, nat_le, Bool, true, false, List, [], ◌∷◌, ◌++◌, Some, None, refl, sym, subst, append_assoc, append-nil, codes, arith, if◌then◌else◌}
use Rattle.std.specs.Prelude.{decimal}
use Rattle.std.specs.List.{list_all}
use Rattle.std.proofs.lemmas.Bool.{leb-true, le-leb}
use Rattle.std.proofs.lemmas.Bool.Decides.{nat_tests}
use Rattle.verilog_tree.specs.declared.tokens.Mark.TheVariants.{Open, Close, OpenBracket, CloseBracket, Comma, Semicolon, Colon, At, Equals}
use Rattle.verilog_tree.specs.declared.tree.Dir.TheVariants.{Input, Output, OutputReg}
use Rattle.verilog_tree.specs.declared.tree.Dir.{Dir}
use Rattle.verilog_tree.specs.Fits.{expression_fits, statements_fit, item_fits, items_fit, ports_fit, fits}
use Rattle.verilog_tree.specs.Formed.{is_width, item_formed, items_formed, ports_formed}
use Rattle.verilog_tree.specs.Grammar.{sign, keyword, name, number, zero_number, range, item, items, direction, port, ports, no_token, module_of, inside, stmt, Parenthesised, BeginEnd, File, file_tree}
use Rattle.verilog_tree.specs.Parenthesised.{expr}
use Rattle.verilog_tree.specs.Plain as P
use Rattle.verilog_tree.specs.Spells.{Spells}
use Rattle.verilog_tree.specs.Tokens.{Token, is_space}
use Rattle.verilog_tree.specs.Words.{is_name}
use Rattle.verilog_emit.specs.Printed.{expression_text, statements_text, range_text, direction_text, port_text, ports_text, comma, item_text, items_text, printed}
use Rattle.verilog_emit.proofs.Derivations.{derive, derive_stmts, derive_range, derive_item, derive_items, derive_port, derive_ports, derive_file, same_file}
use Rattle.verilog_emit.proofs.Numerals.{numbered, zeroed}
use Rattle.verilog_emit.proofs.Pieces.{Spelt, both, grouped, blank, line_feed, is_apart, mark, reserved, named, opened}
use Rattle.verilog_emit.specs.Written.{IsTextOf, is_text_byte}
use Rattle.verilog_emit.proofs.WrittenExpressions.{L, plain, expression_spelt}
use Rattle.verilog_emit.proofs.WrittenStatements.{block, ended, statements_spelt}

-- ---- ranges

range_bytes : (n r : List ℕ) → (codes "[" ++ n ++ codes ":0] ") ++ r ≡ codes "[" ++ (n ++ (codes ":" ++ (codes "0" ++ (codes "]" ++ (32 ∷ r)))))
range_bytes n r = simp append_assoc

range_spelt : (w : ℕ) (K : List Token → Type 0) (r : List ℕ) → is_width w ≡ true → Spelt K r → Spelt (range (derive_range w) K) (range_text w ++ r)
range_spelt w K r m h = go (nat_lt 1 w)
  where
    place : nat_le (w - 1) 63 ≡ true
    place = let most : w ≤ 64 = leb-true w 64 (both (nat_le 1 w) (nat_le w 64) m).1 in le-leb (w - 1) 63 (omega arith)

    go : (t : Bool) → Spelt (range (if t then Some (w - 1) else None) K) ((if t then codes "[" ++ decimal (w - 1) ++ codes ":0] " else []) ++ r)
    go false = h
    go true =
        grouped (range (Some (w - 1)) K) ((codes "[" ++ decimal (w - 1) ++ codes ":0] ") ++ r) (codes "[" ++ (decimal (w - 1) ++ (codes ":" ++ (codes "0" ++ (codes "]" ++ (32 ∷ r)))))) (range_bytes (decimal (w - 1)) r)
        (plain OpenBracket (number (w - 1) (sign Colon (zero_number (sign CloseBracket K)))) (decimal (w - 1) ++ (codes ":" ++ (codes "0" ++ (codes "]" ++ (32 ∷ r))))) (λ c. refl)
        (numbered (w - 1) (sign Colon (zero_number (sign CloseBracket K))) (codes ":" ++ (codes "0" ++ (codes "]" ++ (32 ∷ r)))) place refl
        (plain Colon (zero_number (sign CloseBracket K)) (codes "0" ++ (codes "]" ++ (32 ∷ r))) (λ c. refl)
        (zeroed (sign CloseBracket K) (codes "]" ++ (32 ∷ r)) refl
        (plain CloseBracket K (32 ∷ r) (λ c. refl)
        (blank K r h))))))

-- ---- ports

direction_spelt : (d : Dir) (K : List Token → Type 0) (r : List ℕ) → Spelt K r → Spelt (direction d false K) (direction_text d ++ r)
direction_spelt Input K r h = reserved (codes "input") K (32 ∷ r) refl refl (blank K r h)
direction_spelt Output K r h = reserved (codes "output") K (32 ∷ r) refl refl (blank K r h)
direction_spelt OutputReg K r h = reserved (codes "output") (keyword (codes "reg") K) (32 ∷ (codes "reg " ++ r)) refl refl (blank (keyword (codes "reg") K) (codes "reg " ++ r) (reserved (codes "reg") K (32 ∷ r) refl refl (blank K r h)))

port_bytes : (d w n e r : List ℕ) → (codes "  " ++ ((d ++ w ++ n) ++ e) ++ (10 ∷ [])) ++ r ≡ codes "  " ++ (d ++ (w ++ (n ++ (e ++ (10 ∷ r)))))
port_bytes d w n e r = simp append_assoc

-- a port and the end of its line, where e ends it: a comma or nothing
port_spelt : (p : P.ModulePort) (last : Bool) (K : List Token → Type 0) (r : List ℕ) → is_width p.width ≡ true → is_name p.name ≡ true → Spelt K (comma last ++ (10 ∷ r)) → Spelt (port (derive_port p) K) ((codes "  " ++ (port_text p ++ comma last) ++ (10 ∷ [])) ++ r)
port_spelt p last K r m f h =
    let b : List ℕ = comma last ++ (10 ∷ r) in
    grouped (port (derive_port p) K) ((codes "  " ++ (port_text p ++ comma last) ++ (10 ∷ [])) ++ r) (codes "  " ++ (direction_text p.dir ++ (range_text p.width ++ (p.name ++ b)))) (port_bytes (direction_text p.dir) (range_text p.width) p.name (comma last) r)
    (blank (port (derive_port p) K) (codes " " ++ (direction_text p.dir ++ (range_text p.width ++ (p.name ++ b))))
    (blank (port (derive_port p) K) (direction_text p.dir ++ (range_text p.width ++ (p.name ++ b)))
    (direction_spelt p.dir (range (derive_range p.width) (name p.name K)) (range_text p.width ++ (p.name ++ b))
    (range_spelt p.width (name p.name K) (p.name ++ b) m
    (named p.name K b f (apart last) h)))))
  where
    apart : (l : Bool) → is_apart (comma l ++ (10 ∷ r)) ≡ true
    apart true = refl
    apart false = refl

-- a port and the others behind it
pub ports_spelt : (p : P.ModulePort) (ps : List P.ModulePort) (K : List Token → Type 0) (r : List ℕ) → ports_formed (p ∷ ps) ≡ true → ports_fit (p ∷ ps) ≡ true → Spelt K r → Spelt (port (derive_port p) (ports (derive_ports ps) K)) (ports_text (p ∷ ps) ++ r)
ports_spelt p [] K r m f h =
    let n : (is_width p.width ≡ true) × (true ≡ true) = both (is_width p.width) true m in
    let g : (is_name p.name ≡ true) × (true ≡ true) = both (is_name p.name) true f in
    let line : List ℕ = codes "  " ++ (port_text p ++ comma true) ++ (10 ∷ []) in
    grouped (port (derive_port p) K) ((line ++ []) ++ r) (line ++ r) (append_assoc line [] r)
    (port_spelt p true K r n.0 g.0 (line_feed K r h))
ports_spelt p (q ∷ ps) K r m f h =
    let n : (is_width p.width ≡ true) × (ports_formed (q ∷ ps) ≡ true) = both (is_width p.width) (ports_formed (q ∷ ps)) m in
    let g : (is_name p.name ≡ true) × (ports_fit (q ∷ ps) ≡ true) = both (is_name p.name) (ports_fit (q ∷ ps)) f in
    let line : List ℕ = codes "  " ++ (port_text p ++ comma false) ++ (10 ∷ []) in
    let K1 : List Token → Type 0 = port (derive_port q) (ports (derive_ports ps) K) in
    let b : List ℕ = ports_text (q ∷ ps) ++ r in
    grouped (port (derive_port p) (ports (derive_ports (q ∷ ps)) K)) ((line ++ ports_text (q ∷ ps)) ++ r) (line ++ b) (append_assoc line (ports_text (q ∷ ps)) r)
    (port_spelt p false (sign Comma K1) b n.0 g.0
    (plain Comma K1 (10 ∷ b) (λ c. refl) (line_feed K1 b (ports_spelt q ps K r n.1 g.1 h))))

-- ---- items

wire_bytes : (w n r : List ℕ) → (codes "  " ++ (codes "wire " ++ w ++ n ++ codes ";") ++ (10 ∷ [])) ++ r ≡ codes "  " ++ (codes "wire " ++ (w ++ (n ++ (codes ";" ++ (10 ∷ r)))))
wire_bytes w n r = simp append_assoc

reg_bytes : (w n r : List ℕ) → (codes "  " ++ (codes "reg " ++ w ++ n ++ codes ";") ++ (10 ∷ [])) ++ r ≡ codes "  " ++ (codes "reg " ++ (w ++ (n ++ (codes ";" ++ (10 ∷ r)))))
reg_bytes w n r = simp append_assoc

assign_bytes : (n x r : List ℕ) → (codes "  " ++ (codes "assign " ++ n ++ codes " = " ++ x ++ codes ";") ++ (10 ∷ [])) ++ r ≡ codes "  " ++ (codes "assign " ++ (n ++ (codes " = " ++ (x ++ (codes ";" ++ (10 ∷ r))))))
assign_bytes n x r = simp append_assoc

always_bytes : (c b r : List ℕ) → ((codes "  " ++ (codes "always @(posedge " ++ c ++ codes ") begin") ++ (10 ∷ [])) ++ b ++ (codes "  " ++ codes "end" ++ (10 ∷ []))) ++ r ≡ codes "  " ++ (codes "always @(posedge " ++ (c ++ (codes ") " ++ (codes "begin" ++ (10 ∷ (b ++ (codes "  " ++ (codes "end" ++ (10 ∷ r)))))))))
always_bytes c b r = grouping (codes "  ") (codes "always @(posedge ") c (codes ") begin") (10 ∷ []) b (codes "end") r
  where
    grouping : (m w c e n b f r : List ℕ) → ((m ++ (w ++ c ++ e) ++ n) ++ b ++ (m ++ f ++ n)) ++ r ≡ m ++ (w ++ (c ++ (e ++ (n ++ (b ++ (m ++ (f ++ (n ++ r))))))))
    grouping m w c e n b f r = simp append_assoc

-- the two blanks before an item
pub in_margin : (K : List Token → Type 0) (r : List ℕ) → Spelt K r → Spelt K (codes "  " ++ r)
in_margin K r h = blank K (codes " " ++ r) (blank K r h)

pub item_spelt : (i : P.ModuleItem) (K : List Token → Type 0) (r : List ℕ) → item_fits 64 i ≡ true → item_formed i ≡ true → Spelt K r → Spelt (item Parenthesised L (derive_item i) K) (item_text i ++ r)
item_spelt (P.WireItem n w) K r f m h =
    let b : List ℕ = range_text w ++ (n ++ (codes ";" ++ (10 ∷ r))) in
    grouped (item Parenthesised L (derive_item (P.WireItem n w)) K) (item_text (P.WireItem n w) ++ r) (codes "  " ++ (codes "wire " ++ b)) (wire_bytes (range_text w) n r)
    (in_margin (item Parenthesised L (derive_item (P.WireItem n w)) K) (codes "wire " ++ b)
    (reserved (codes "wire") (range (derive_range w) (name n (sign Semicolon K))) (codes " " ++ b) refl refl
    (blank (range (derive_range w) (name n (sign Semicolon K))) b
    (range_spelt w (name n (sign Semicolon K)) (n ++ (codes ";" ++ (10 ∷ r))) m
    (named n (sign Semicolon K) (codes ";" ++ (10 ∷ r)) f refl
    (plain Semicolon K (10 ∷ r) (λ c. refl) (line_feed K r h)))))))
item_spelt (P.RegItem n w) K r f m h =
    let b : List ℕ = range_text w ++ (n ++ (codes ";" ++ (10 ∷ r))) in
    grouped (item Parenthesised L (derive_item (P.RegItem n w)) K) (item_text (P.RegItem n w) ++ r) (codes "  " ++ (codes "reg " ++ b)) (reg_bytes (range_text w) n r)
    (in_margin (item Parenthesised L (derive_item (P.RegItem n w)) K) (codes "reg " ++ b)
    (reserved (codes "reg") (range (derive_range w) (name n (sign Semicolon K))) (codes " " ++ b) refl refl
    (blank (range (derive_range w) (name n (sign Semicolon K))) b
    (range_spelt w (name n (sign Semicolon K)) (n ++ (codes ";" ++ (10 ∷ r))) m
    (named n (sign Semicolon K) (codes ";" ++ (10 ∷ r)) f refl
    (plain Semicolon K (10 ∷ r) (λ c. refl) (line_feed K r h)))))))
item_spelt (P.AssignItem n x) K r f m h =
    let g : (is_name n ≡ true) × (expression_fits 64 x ≡ true) = both (is_name n) (expression_fits 64 x) f in
    let b : List ℕ = expression_text x ++ (codes ";" ++ (10 ∷ r)) in
    let K1 : List Token → Type 0 = expr L 0 (derive x) (sign Semicolon K) in
    grouped (item Parenthesised L (derive_item (P.AssignItem n x)) K) (item_text (P.AssignItem n x) ++ r) (codes "  " ++ (codes "assign " ++ (n ++ (codes " = " ++ b)))) (assign_bytes n (expression_text x) r)
    (in_margin (item Parenthesised L (derive_item (P.AssignItem n x)) K) (codes "assign " ++ (n ++ (codes " = " ++ b)))
    (reserved (codes "assign") (name n (sign Equals K1)) (codes " " ++ (n ++ (codes " = " ++ b))) refl refl
    (blank (name n (sign Equals K1)) (n ++ (codes " = " ++ b))
    (named n (sign Equals K1) (codes " = " ++ b) g.0 refl
    (blank (sign Equals K1) (codes "= " ++ b)
    (mark Equals K1 (codes " " ++ b) refl
    (blank K1 b
    (expression_spelt 0 64 x (sign Semicolon K) (codes ";" ++ (10 ∷ r)) refl g.1 m refl
    (plain Semicolon K (10 ∷ r) (λ c. refl) (line_feed K r h))))))))))
item_spelt (P.AlwaysItem c ss) K r f m h =
    let g : (is_name c ≡ true) × (statements_fit 63 ss ≡ true) = both (is_name c) (statements_fit 63 ss) f in
    let b : List ℕ = statements_text 2 ss ++ (codes "  " ++ (codes "end" ++ (10 ∷ r))) in
    let K1 : List Token → Type 0 = stmt Parenthesised L 0 (BeginEnd (derive_stmts ss)) K in
    let b1 : List ℕ = codes "posedge " ++ (c ++ (codes ") " ++ (codes "begin" ++ (10 ∷ b)))) in
    grouped (item Parenthesised L (derive_item (P.AlwaysItem c ss)) K) (item_text (P.AlwaysItem c ss) ++ r) (codes "  " ++ (codes "always @(" ++ b1)) (always_bytes c (statements_text 2 ss) r)
    (in_margin (item Parenthesised L (derive_item (P.AlwaysItem c ss)) K) (codes "always @(" ++ b1)
    (reserved (codes "always") (sign At (sign Open (inside L 0 (λ e. keyword (codes "posedge") (name c (sign Close K1)))))) (codes " @(" ++ b1) refl refl
    (blank (sign At (sign Open (inside L 0 (λ e. keyword (codes "posedge") (name c (sign Close K1)))))) (codes "@(" ++ b1)
    (plain At (sign Open (inside L 0 (λ e. keyword (codes "posedge") (name c (sign Close K1))))) (codes "(" ++ b1) (λ c. refl)
    (plain Open (inside L 0 (λ e. keyword (codes "posedge") (name c (sign Close K1)))) b1 (λ c. refl)
    (opened 0 63 (λ e. keyword (codes "posedge") (name c (sign Close K1))) b1 refl
    (reserved (codes "posedge") (name c (sign Close K1)) (codes " " ++ (c ++ (codes ") " ++ (codes "begin" ++ (10 ∷ b))))) refl refl
    (blank (name c (sign Close K1)) (c ++ (codes ") " ++ (codes "begin" ++ (10 ∷ b))))
    (named c (sign Close K1) (codes ") " ++ (codes "begin" ++ (10 ∷ b))) g.0 refl
    (plain Close K1 (codes " " ++ (codes "begin" ++ (10 ∷ b))) (λ c. refl)
    (blank K1 (codes "begin" ++ (10 ∷ b))
    (block 0 63 (derive_stmts ss) K b refl
    (statements_spelt 2 1 63 ss (keyword (codes "end") K) (codes "  " ++ (codes "end" ++ (10 ∷ r))) refl g.1 m (ended 1 K r h))))))))))))))

pub items_spelt : (is : List P.ModuleItem) (K : List Token → Type 0) (r : List ℕ) → items_fit 64 is ≡ true → items_formed is ≡ true → Spelt K r → Spelt (items Parenthesised L (derive_items is) K) (items_text is ++ r)
items_spelt [] K r f m h = h
items_spelt (i ∷ is) K r f m h =
    let g : (item_fits 64 i ≡ true) × (items_fit 64 is ≡ true) = both (item_fits 64 i) (items_fit 64 is) f in
    let n : (item_formed i ≡ true) × (items_formed is ≡ true) = both (item_formed i) (items_formed is) m in
    grouped (items Parenthesised L (derive_items (i ∷ is)) K) (items_text (i ∷ is) ++ r) (item_text i ++ (items_text is ++ r)) (append_assoc (item_text i) (items_text is) r)
    (item_spelt i (items Parenthesised L (derive_items is) K) (items_text is ++ r) g.0 n.0 (items_spelt is K r g.1 n.1 h))

-- ---- modules

-- a module up to its items
abbrev pub head : List ℕ → P.ModulePort → List P.ModulePort → (List Token → Type 0) → List Token → Type 0
head n p ps K = keyword (codes "module") (name n (sign Open (inside L 0 (λ e. port (derive_port p) (ports (derive_ports ps) (sign Close (sign Semicolon K)))))))

abbrev pub head_text : List ℕ → List P.ModulePort → List ℕ
head_text n ps = (codes "module " ++ n ++ codes "(") ++ (10 ∷ []) ++ ports_text ps ++ (codes ");" ++ (10 ∷ []))

head_bytes : (n p r : List ℕ) → ((codes "module " ++ n ++ codes "(") ++ (10 ∷ []) ++ p ++ (codes ");" ++ (10 ∷ []))) ++ r ≡ codes "module " ++ (n ++ (codes "(" ++ (10 ∷ (p ++ (codes ");" ++ (10 ∷ r))))))
head_bytes n p r = grouping (codes "module ") n (codes "(") (10 ∷ []) p (codes ");") r
  where
    grouping : (w n e l p f r : List ℕ) → ((w ++ n ++ e) ++ l ++ p ++ (f ++ l)) ++ r ≡ w ++ (n ++ (e ++ (l ++ (p ++ (f ++ (l ++ r))))))
    grouping w n e l p f r = simp append_assoc

pub head_spelt : (n : List ℕ) (p : P.ModulePort) (ps : List P.ModulePort) (K : List Token → Type 0) (r : List ℕ) → is_name n ≡ true → ports_formed (p ∷ ps) ≡ true → ports_fit (p ∷ ps) ≡ true → Spelt K r → Spelt (head n p ps K) (head_text n (p ∷ ps) ++ r)
head_spelt n p ps K r f m g h =
    let b2 : List ℕ = codes ");" ++ (10 ∷ r) in
    let b1 : List ℕ = ports_text (p ∷ ps) ++ b2 in
    let K2 : List Token → Type 0 = sign Close (sign Semicolon K) in
    let K1 : List Token → Type 0 = port (derive_port p) (ports (derive_ports ps) K2) in
    grouped (head n p ps K) (head_text n (p ∷ ps) ++ r) (codes "module " ++ (n ++ (codes "(" ++ (10 ∷ b1)))) (head_bytes n (ports_text (p ∷ ps)) r)
    (reserved (codes "module") (name n (sign Open (inside L 0 (λ e. K1)))) (codes " " ++ (n ++ (codes "(" ++ (10 ∷ b1)))) refl refl
    (blank (name n (sign Open (inside L 0 (λ e. K1)))) (n ++ (codes "(" ++ (10 ∷ b1)))
    (named n (sign Open (inside L 0 (λ e. K1))) (codes "(" ++ (10 ∷ b1)) f refl
    (plain Open (inside L 0 (λ e. K1)) (10 ∷ b1) (λ c. refl)
    (opened 0 63 (λ e. K1) (10 ∷ b1) refl
    (line_feed K1 b1
    (ports_spelt p ps K2 b2 m g
    (plain Close (sign Semicolon K) (codes ";" ++ (10 ∷ r)) (λ c. refl)
    (plain Semicolon K (10 ∷ r) (λ c. refl)
    (line_feed K r h))))))))))

-- the last word
pub end_spelt : (K : List Token → Type 0) (r : List ℕ) → Spelt K r → Spelt (keyword (codes "endmodule") K) ((codes "endmodule" ++ (10 ∷ [])) ++ r)
end_spelt K r h = reserved (codes "endmodule") K (10 ∷ r) refl refl (line_feed K r h)

-- the end of the text
pub nothing_spelt : Spelt no_token []
nothing_spelt = record { tokens = []; lexed = tt; kept = refl; bare = refl; meant = tt }

module_bytes : (h i e r : List ℕ) → (h ++ i ++ e) ++ r ≡ h ++ (i ++ (e ++ r))
module_bytes h i e r = simp append_assoc

module_spelt : (n : List ℕ) (p : P.ModulePort) (ps : List P.ModulePort) (is : List P.ModuleItem) (K : List Token → Type 0) (r : List ℕ) → is_name n ≡ true → ports_formed (p ∷ ps) ≡ true → ports_fit (p ∷ ps) ≡ true → items_formed is ≡ true → items_fit 64 is ≡ true → Spelt K r
    → Spelt (module_of Parenthesised L (derive_file n p ps is) K) (printed (record { name = n; ports = p ∷ ps; items = is }) ++ r)
module_spelt n p ps is K r f m1 f1 m2 f2 h =
    let e : List ℕ = codes "endmodule" ++ (10 ∷ []) in
    let K1 : List Token → Type 0 = items Parenthesised L (derive_items is) (keyword (codes "endmodule") K) in
    grouped (head n p ps K1) (printed (record { name = n; ports = p ∷ ps; items = is }) ++ r) (head_text n (p ∷ ps) ++ (items_text is ++ (e ++ r))) (module_bytes (head_text n (p ∷ ps)) (items_text is) e r)
    (head_spelt n p ps K1 (items_text is ++ (e ++ r)) f m1 f1
    (items_spelt is (keyword (codes "endmodule") K) (e ++ r) f2 m2 (end_spelt K r h)))

-- what else the tokens are
pub told_as : (K J : List Token → Type 0) (b : List ℕ) → ((ts : List Token) → K ts → J ts) → Spelt K b → Spelt J b
told_as K J b f h = record { tokens = h.tokens; lexed = h.lexed; kept = h.kept; bare = h.bare; meant = f h.tokens h.meant }

-- the tokens of a module, and behind it K
abbrev pub Module : P.ModuleTree → (List Token → Type 0) → List Token → Type 0
Module mo K ts = (f : File) × module_of Parenthesised L f K ts × (file_tree f ≡ mo)

spelt : (n : List ℕ) (ps : List P.ModulePort) (is : List P.ModuleItem) (K : List Token → Type 0) (r : List ℕ) → fits (record { name = n; ports = ps; items = is }) ≡ true → Spelt K r → Spelt (Module (record { name = n; ports = ps; items = is }) K) (printed (record { name = n; ports = ps; items = is }) ++ r)
spelt n [] is K r f h = absurd (no_ports (items_formed is) (is_name n) (items_fit 64 is) f)
  where
    no_ports : (a b c : Bool) → (false && true && a && b && true && c) ≡ true → ⊥
    no_ports a b c h = cc
spelt n (p ∷ ps) is K r f h =
    let f3 : (((ports_formed (p ∷ ps) && items_formed is) && is_name n && ports_fit (p ∷ ps)) ≡ true) × (items_fit 64 is ≡ true) = both ((ports_formed (p ∷ ps) && items_formed is) && is_name n && ports_fit (p ∷ ps)) (items_fit 64 is) f in
    let f2 : (((ports_formed (p ∷ ps) && items_formed is) && is_name n) ≡ true) × (ports_fit (p ∷ ps) ≡ true) = both ((ports_formed (p ∷ ps) && items_formed is) && is_name n) (ports_fit (p ∷ ps)) f3.0 in
    let f1 : ((ports_formed (p ∷ ps) && items_formed is) ≡ true) × (is_name n ≡ true) = both (ports_formed (p ∷ ps) && items_formed is) (is_name n) f2.0 in
    let f0 : (ports_formed (p ∷ ps) ≡ true) × (items_formed is ≡ true) = both (ports_formed (p ∷ ps)) (items_formed is) f1.0 in
    let m : P.ModuleTree = record { name = n; ports = p ∷ ps; items = is } in
    let same : file_tree (derive_file n p ps is) ≡ m = same_file n p ps is f0.0 f0.1 in
    told_as (module_of Parenthesised L (derive_file n p ps is) K) (Module m K) (printed m ++ r)
    (λ ts k. (derive_file n p ps is, k, same))
    (module_spelt n p ps is K r f1.1 f0.0 f2.1 f0.1 f3.1 h)

-- what is printed of a module that fits spells it, before anything
pub spelt_before : (mo : P.ModuleTree) (K : List Token → Type 0) (r : List ℕ) → fits mo ≡ true → Spelt K r → Spelt (Module mo K) (printed mo ++ r)
spelt_before mo K r f h = spelt mo.name mo.ports mo.items K r f h

alone_spelt : (mo : P.ModuleTree) → fits mo ≡ true → Spelt (Module mo no_token) (printed mo)
alone_spelt mo f = grouped (Module mo no_token) (printed mo) (printed mo ++ []) (sym (append-nil (printed mo))) (spelt_before mo no_token [] f nothing_spelt)

-- what is printed of a module that fits spells it
pub printed_spells : (mo : P.ModuleTree) → fits mo ≡ true → Spells (printed mo) mo
printed_spells mo f = let h = alone_spelt mo f in (h.tokens, h.lexed, h.kept, h.meant)

-- of white space a text has blanks and line feeds alone
pub text_spaces : (c : ℕ) → is_text_byte c ≡ true → is_space c ≡ true → ((c == 32) || (c == 10)) ≡ true
text_spaces c e f = grind (arith, nat_tests)

-- each byte of a text is one that can stand there
pub text_bytes : (b : List ℕ) (mo : P.ModuleTree) → IsTextOf b mo → list_all is_text_byte b ≡ true
text_bytes b mo h = subst (λ (x : List ℕ). list_all is_text_byte x ≡ true) (sym h.1) (alone_spelt mo h.0).bare
