-- What may follow between statements, by the next token.
use Rattle.std.proofs.Common.{◌≡◌, ℕ, ◌+◌, Bool, true, false, List, [], ◌∷◌, ◌++◌, Option, Some, None, refl, ◌↔◌, subst, sym, ap, ◌∙◌, codes, append_assoc, append-nil}
use Rattle.std.specs.Str.{bytes_eq}
use Rattle.bist_bits.specs.Vector.{Vector}
use Rattle.bist_text.proofs.Pieces.{also, same, never, holds_never}
use Rattle.bist_text.specs.Grammar.{when}
use Rattle.bist_text.specs.inner.Lexed.{Parses}
use Rattle.bist_text.specs.Machine.{Holds}
use Rattle.bist_text.specs.ReservedWords.{is_among, reserved_words}
use Rattle.verilog_tree.specs.Grammar.{Limit, Item, Port, File, is_sign, sign, keyword, name, number, is_zero, zero_number, deeper, inside, literals, ends_in_if, colon_if, range, names, wire_if, output_of, direction, port, ports, then_all, alone, range_width, ports_tree, Expr, Stmt, Stmts, Arm, Arms, Default, expr, stmt, stmts, arm, arms, default, expr_tree, stmt_tree, stmts_tree, arm_tree, arms_tree, default_tree, IfElse, NoStmt, AndStmt, ArmOf, NoArm, AndArm, NoDefault, ItsDefault, Wires, Style}
use Rattle.verilog_tree.specs.Free.{signed}
use Rattle.verilog_text.specs.Flat as F
use Rattle.verilog_text.specs.Flat.{Left, settle_all, Count, one_more, behind}
use Rattle.verilog_tree.specs.Plain as P
use Rattle.verilog_tree.specs.Tokens.{Token, Identifier, Number, Sign}
use Rattle.verilog_tree.specs.declared.tokens.Mark.TheVariants.{Open, Close, OpenBracket, CloseBracket, CloseBrace, Comma, Semicolon, Colon, Equals, At}
use Rattle.verilog_tree.specs.declared.tokens.Mark.{Mark}
use Rattle.verilog_tree.specs.declared.tree.Dir.TheVariants.{Input, Output, OutputReg}
use Rattle.verilog_tree.specs.declared.tree.Dir.{Dir}
use Rattle.verilog_text.specs.inner.Following.{AfterStmt, items_behind, after_items, else_part, after_stmt, AfterExpr, after_expr, place, in_bracket, rest_expr, case_ends, rest_stmt, UseTail, wires, regs, after_ports, after_name, name_read, rest_item, rest, AfterAlone, after_alone, AfterNest, after_nest}
use Rattle.verilog_text.specs.Following.{case_of, with_ports, declare, new_head}
use Rattle.verilog_text.specs.Places.{Head, with_item, Around, Outside, more_parts, more_arms, ExprPlace, StmtPlace, Use, ItemPlace, State, InAlways, InBlock, InThen, InElse, InArm, InDefault, Named, Bracket, HighRead, ColonRead, LowRead, Have, WantStmt, Target, IfRead, CaseRead, FirstLabel, Labels, NextLabel, DefaultRead, Block, HaveStmt, AsWire, AsReg, AsPort, Begin, HeadName, HeadOpen, WantPort, InputRead, OutputRead, WantRange, WantHigh, WantColon, WantZero, WantBracket, WantName, NameRead, PortsRead, WantItem, AssignRead, DriveRead, AlwaysRead, AtRead, ClockOpen, EdgeRead, ClockRead, Ended, AtExpr, AtStmt, AtItem, style_of, AsDriver, begin_expr, Alone, Nest, Only, InRound, InList, IfTrue, IfFalse, Linked, WantOperand, WantPrim}
use Rattle.verilog_text.specs.inner.Places.{Place, Two, Whole, One}
use Rattle.verilog_text.specs.Steps.{in_room, only_where, is_word, unless, takes_name, takes_number, takes_zero, opens, declared, range_step, port_step, input_step, output_step, list_step, name_step, step_item, step, value_item, value}
use Rattle.verilog_text.proofs.ExprLaws.{expr_laws}
use Rattle.verilog_text.proofs.MarkLaws.{expects_goes}
use Rattle.verilog_text.proofs.Beginnings.{begins}
use Rattle.verilog_text.proofs.StmtLaws.{at_token, no_keyword, expects_word_goes, Item_law, want_item_goes, stmt_laws}

module _ (limit : Limit) where
  takes_name_goes : {X : Type 0} (f : List ℕ → State) (K : List ℕ → X → List Token → Type 0) (t : Token) (ts : List Token) (v : P.ModuleTree) → ((n : List ℕ) → ((x : X) × K n x ts) ↔ rest limit (f n) ts v) → ((n : List ℕ) × (x : X) × name n (K n x) (t ∷ ts)) ↔ Holds (takes_name f t) (λ z. rest limit z ts v)
  takes_name_goes {X} f K (Identifier w) ts v g = go (is_among w reserved_words) refl
    where
      go : (b : Bool) → is_among w reserved_words ≡ b → ((n : List ℕ) × (x : X) × name n (K n x) (Identifier w ∷ ts)) ↔ Holds (unless b (f w)) (λ z. rest limit z ts v)
      go true e = never (λ h. let z : true ≡ false = sym e ∙ h.2.1 in cc) (λ z. z)
      go false e = (λ h. (g w).0 (h.1, subst (λ (n : List ℕ). K n h.1 ts) (sym h.2.0) h.2.2), λ h. let k : (x : X) × K w x ts = (g w).1 h in (w, k.0, (refl, e, k.1)))
  takes_name_goes f K t ts v g = never (λ h. h.2) (λ z. z)

  takes_number_goes : {X : Type 0} (f : ℕ → State) (K : ℕ → X → List Token → Type 0) (t : Token) (ts : List Token) (v : P.ModuleTree) → ((i : ℕ) → ((x : X) × K i x ts) ↔ rest limit (f i) ts v) → ((i : ℕ) × (x : X) × number i (K i x) (t ∷ ts)) ↔ Holds (takes_number f t) (λ z. rest limit z ts v)
  takes_number_goes {X} f K (Number l j) ts v g = (λ h. (g j).0 (h.1, subst (λ (i : ℕ). K i h.1 ts) (sym h.2.0) h.2.1), λ h. let k : (x : X) × K j x ts = (g j).1 h in (j, k.0, (refl, k.1)))
  takes_number_goes f K t ts v g = never (λ h. h.2) (λ z. z)

  takes_zero_goes : {X : Type 0} (s : State) (K : X → List Token → Type 0) (t : Token) (ts : List Token) (v : P.ModuleTree) → (((x : X) × K x ts) ↔ rest limit s ts v) → ((x : X) × zero_number (K x) (t ∷ ts)) ↔ Holds (takes_zero s t) (λ z. rest limit z ts v)
  takes_zero_goes {X} s K (Number l i) ts v f = go (is_zero l i)
    where
      go : (b : Bool) → ((x : X) × when b (K x ts)) ↔ Holds (only_where b (Some s)) (λ z. rest limit z ts v)
      go true = f
      go false = never (λ h. h.1) (λ z. z)
  takes_zero_goes s K t ts v f = never (λ h. h.1) (λ z. z)

  opens_goes : {X : Type 0} (r : ℕ) (s : State) (K : X → List Token → Type 0) (t : Token) (ts : List Token) (v : P.ModuleTree) → (((x : X) × K x ts) ↔ rest limit s ts v) → ((x : X) × sign Open (inside limit r (λ q. K x)) (t ∷ ts)) ↔ Holds (opens limit r s t) (λ z. rest limit z ts v)
  opens_goes {X} r s K (Sign Open) ts v f = go (deeper limit r)
    where
      go : (w : Option ℕ) → ((x : X) × Holds w (λ q. K x ts)) ↔ Holds (in_room w (λ q. s)) (λ z. rest limit z ts v)
      go None = never (λ h. h.1) (λ z. z)
      go (Some q) = f
  opens_goes r s K (Sign m) ts v f = never (λ h. h.1) (λ z. z)
  opens_goes r s K t ts v f = never (λ h. h.1) (λ z. z)

  -- a name is declared
  declares : (u : Use) (w : ℕ) (n : List ℕ) (ts : List Token) (v : P.ModuleTree) → ((t : UseTail u) × after_name limit u t w n v ts) ↔ rest_item limit (NameRead (declare u n w) w) ts v
  declares (AsWire h) w n ts v = (λ k. (k.0, subst (λ l. names k.0.0 (sign Semicolon (items_behind limit h l k.0.1 v)) ts) (sym (append_assoc h.items (P.WireItem n w ∷ []) (wires w k.0.0))) k.1), λ k. (k.0, subst (λ l. names k.0.0 (sign Semicolon (items_behind limit h l k.0.1 v)) ts) (append_assoc h.items (P.WireItem n w ∷ []) (wires w k.0.0)) k.1))
  declares (AsReg h) w n ts v = (λ k. (k.0, subst (λ l. names k.0.0 (sign Semicolon (items_behind limit h l k.0.1 v)) ts) (sym (append_assoc h.items (P.RegItem n w ∷ []) (regs w k.0.0))) k.1), λ k. (k.0, subst (λ l. names k.0.0 (sign Semicolon (items_behind limit h l k.0.1 v)) ts) (append_assoc h.items (P.RegItem n w ∷ []) (regs w k.0.0)) k.1))
  declares (AsPort d h) w n ts v = (λ k. (k.0, subst (λ (l : List P.ModulePort). ports k.0.0 (sign Close (sign Semicolon (after_items limit (record h { ports = l }) k.0.1 v))) ts) (sym (append_assoc h.ports (p ∷ []) (ports_tree k.0.0))) k.1), λ k. (k.0, subst (λ (l : List P.ModulePort). ports k.0.0 (sign Close (sign Semicolon (after_items limit (record h { ports = l }) k.0.1 v))) ts) (append_assoc h.ports (p ∷ []) (ports_tree k.0.0)) k.1))
    where
      p : P.ModulePort
      p = record { dir = d; name = n; width = w }

  want_name_goes : (u : Use) (w : ℕ) (t : Token) (ts : List Token) (v : P.ModuleTree) → Item_law limit (WantName u w) (takes_name (declared u w) t) t ts v
  want_name_goes u w t ts v = takes_name_goes (declared u w) (λ n (x : UseTail u). after_name limit u x w n v) t ts v (λ n. declares u w n ts v)

  range_goes : (u : Use) (t : Token) (ts : List Token) (v : P.ModuleTree) → Item_law limit (WantRange u) (range_step u t) t ts v
  range_goes u (Sign OpenBracket) ts v = (λ h. to h.0 h.1 h.2 h.3, λ h. (Some h.0, h.1, h.2, h.3))
    where
      to : (r : Option ℕ) (n : List ℕ) (x : UseTail u) → range r (name n (after_name limit u x (range_width r) n v)) (Sign OpenBracket ∷ ts) → rest_item limit (WantHigh u) ts v
      to None n x h = absurd h
      to (Some i) n x h = (i, n, x, h)
  range_goes u (Sign m) ts v = never (λ h. no h.0 h.1 h.2 h.3) (λ z. z)
    where
      no : (r : Option ℕ) (n : List ℕ) (x : UseTail u) → range r (name n (after_name limit u x (range_width r) n v)) (Sign m ∷ ts) → ⊥
      no None n x h = h
      no (Some i) n x h = h
  range_goes u t ts v = also (λ h. to h.0 h.1 h.2 h.3, λ h. (None, h.0, h.1, h.2)) (want_name_goes u 1 t ts v)
    where
      to : (r : Option ℕ) (n : List ℕ) (x : UseTail u) → range r (name n (after_name limit u x (range_width r) n v)) (t ∷ ts) → rest_item limit (WantName u 1) (t ∷ ts) v
      to None n x h = (n, x, h)
      to (Some i) n x h = absurd h

  no_range : (u : Use) (w : List ℕ) (ts : List Token) (v : P.ModuleTree) → is_among w reserved_words ≡ true → rest_item limit (WantRange u) (Identifier w ∷ ts) v → ⊥
  no_range u w ts v e h = no h.0 h.3
    where
      no : (r : Option ℕ) → range r (name h.1 (after_name limit u h.2 (range_width r) h.1 v)) (Identifier w ∷ ts) → ⊥
      no None k = let z : true ≡ false = sym e ∙ k.1 in cc
      no (Some i) k = k

  no_word : (w : List ℕ) (d : List ℕ) (K : List Token → Type 0) (ts : List Token) → bytes_eq w d ≡ false → keyword d K (Identifier w ∷ ts) → ⊥
  no_word w d K ts e h = rw e at h

  port_goes : (h : Head) (t : Token) (ts : List Token) (v : P.ModuleTree) → Item_law limit (WantPort h) (port_step h t) t ts v
  port_goes h t ts v = at_token limit Q (codes "input") t (λ k. input k.0.dir k.0.wire k.0.range k.0.name k.1 k.2 k.3, λ k. (record { dir = Input; wire = k.0; range = k.1; name = k.2 }, k.3.0, k.3.1, k.4)) (λ n1. at_token limit (λ x. is_word (codes "input") x ≡ false → Q x) (codes "output") t (λ e. (λ k. output k.0.dir k.0.wire k.0.range k.0.name k.1 k.2 k.3, λ k. from k.0 k.1 k.2 k.3 k.4 k.5)) (λ n2 e. rw n1 (rw n2 (never (λ k. none n1 n2 k.0.dir k.0.wire k.0.range k.0.name k.1 k.2 k.3) (λ z. z)))) n1)
    where
      Q : Token → Type 0
      Q x = Item_law limit (WantPort h) (port_step h x) x ts v

      input : (d : Dir) (wire : Bool) (r : Option ℕ) (n : List ℕ) (ps : List Port) (is : List Item) → direction d wire (range r (name n (after_name limit (AsPort d h) (ps, is) (range_width r) n v))) (Identifier (codes "input") ∷ ts) → rest_item limit (InputRead h) ts v
      input Input wire r n ps is k = (wire, r, n, (ps, is), k)
      input Output wire r n ps is k = absurd k
      input OutputReg wire r n ps is k = absurd k

      output : (d : Dir) (wire : Bool) (r : Option ℕ) (n : List ℕ) (ps : List Port) (is : List Item) → direction d wire (range r (name n (after_name limit (AsPort d h) (ps, is) (range_width r) n v))) (Identifier (codes "output") ∷ ts) → rest_item limit (OutputRead h) ts v
      output Input wire r n ps is k = absurd k
      output Output wire r n ps is k = (Output, wire, r, n, (ps, is), k)
      output OutputReg wire r n ps is k = (OutputReg, wire, r, n, (ps, is), k)

      from : (d : Dir) (wire : Bool) (r : Option ℕ) (n : List ℕ) (x : UseTail (AsPort d h)) → output_of d wire (range r (name n (after_name limit (AsPort d h) x (range_width r) n v))) ts → rest_item limit (WantPort h) (Identifier (codes "output") ∷ ts) v
      from Input wire r n x k = absurd k
      from Output wire r n x k = (record { dir = Output; wire = wire; range = r; name = n }, x.0, x.1, k)
      from OutputReg wire r n x k = (record { dir = OutputReg; wire = wire; range = r; name = n }, x.0, x.1, k)

      none : is_word (codes "input") t ≡ false → is_word (codes "output") t ≡ false → (d : Dir) (wire : Bool) (r : Option ℕ) (n : List ℕ) (ps : List Port) (is : List Item) → direction d wire (range r (name n (after_name limit (AsPort d h) (ps, is) (range_width r) n v))) (t ∷ ts) → ⊥
      none n1 n2 Input wire r n ps is k = no_keyword limit (codes "input") (wire_if wire (range r (name n (after_name limit (AsPort Input h) (ps, is) (range_width r) n v)))) t ts n1 k
      none n1 n2 Output wire r n ps is k = no_keyword limit (codes "output") (output_of Output wire (range r (name n (after_name limit (AsPort Output h) (ps, is) (range_width r) n v)))) t ts n2 k
      none n1 n2 OutputReg wire r n ps is k = no_keyword limit (codes "output") (output_of OutputReg wire (range r (name n (after_name limit (AsPort OutputReg h) (ps, is) (range_width r) n v)))) t ts n2 k

  input_goes : (h : Head) (t : Token) (ts : List Token) (v : P.ModuleTree) → Item_law limit (InputRead h) (input_step h t) t ts v
  input_goes h t ts v = at_token limit (λ x. Item_law limit (InputRead h) (input_step h x) x ts v) (codes "wire") t (λ k. wire k.0 k.1 k.2 k.3 k.4, λ k. (true, k.0, k.1, k.2, k.3)) (λ n. rw n (also (λ k. other n k.0 k.1 k.2 k.3 k.4, λ k. (false, k.0, k.1, k.2, k.3)) (range_goes (AsPort Input h) t ts v)))
    where
      wire : (b : Bool) (r : Option ℕ) (n : List ℕ) (x : UseTail (AsPort Input h)) → wire_if b (range r (name n (after_name limit (AsPort Input h) x (range_width r) n v))) (Identifier (codes "wire") ∷ ts) → rest_item limit (WantRange (AsPort Input h)) ts v
      wire true r n x k = (r, n, x, k)
      wire false r n x k = absurd (no_range (AsPort Input h) (codes "wire") ts v refl (r, n, x, k))

      other : is_word (codes "wire") t ≡ false → (b : Bool) (r : Option ℕ) (n : List ℕ) (x : UseTail (AsPort Input h)) → wire_if b (range r (name n (after_name limit (AsPort Input h) x (range_width r) n v))) (t ∷ ts) → rest_item limit (WantRange (AsPort Input h)) (t ∷ ts) v
      other e true r n x k = absurd (no_keyword limit (codes "wire") (range r (name n (after_name limit (AsPort Input h) x (range_width r) n v))) t ts e k)
      other e false r n x k = (r, n, x, k)

  output_goes : (h : Head) (t : Token) (ts : List Token) (v : P.ModuleTree) → Item_law limit (OutputRead h) (output_step h t) t ts v
  output_goes h t ts v = at_token limit Q (codes "wire") t (λ k. wire k.0 k.1 k.2 k.3 k.4 k.5, λ k. (Output, true, k.0, k.1, k.2, k.3)) (λ n1. at_token limit (λ x. is_word (codes "wire") x ≡ false → Q x) (codes "reg") t (λ e. (λ k. reg k.0 k.1 k.2 k.3 k.4 k.5, λ k. (OutputReg, false, k.0, k.1, k.2, k.3))) (λ n2 e. rw n1 (rw n2 (also (λ k. other n1 n2 k.0 k.1 k.2 k.3 k.4 k.5, λ k. (Output, false, k.0, k.1, k.2, k.3)) (range_goes (AsPort Output h) t ts v)))) n1)
    where
      Q : Token → Type 0
      Q x = Item_law limit (OutputRead h) (output_step h x) x ts v

      wire : (d : Dir) (b : Bool) (r : Option ℕ) (n : List ℕ) (x : UseTail (AsPort d h)) → output_of d b (range r (name n (after_name limit (AsPort d h) x (range_width r) n v))) (Identifier (codes "wire") ∷ ts) → rest_item limit (WantRange (AsPort Output h)) ts v
      wire Input b r n x k = absurd k
      wire Output true r n x k = (r, n, x, k)
      wire Output false r n x k = absurd (no_range (AsPort Output h) (codes "wire") ts v refl (r, n, x, k))
      wire OutputReg true r n x k = absurd k
      wire OutputReg false r n x k = absurd k

      reg : (d : Dir) (b : Bool) (r : Option ℕ) (n : List ℕ) (x : UseTail (AsPort d h)) → output_of d b (range r (name n (after_name limit (AsPort d h) x (range_width r) n v))) (Identifier (codes "reg") ∷ ts) → rest_item limit (WantRange (AsPort OutputReg h)) ts v
      reg Input b r n x k = absurd k
      reg Output true r n x k = absurd k
      reg Output false r n x k = absurd (no_range (AsPort Output h) (codes "reg") ts v refl (r, n, x, k))
      reg OutputReg true r n x k = absurd k
      reg OutputReg false r n x k = (r, n, x, k)

      other : is_word (codes "wire") t ≡ false → is_word (codes "reg") t ≡ false → (d : Dir) (b : Bool) (r : Option ℕ) (n : List ℕ) (x : UseTail (AsPort d h)) → output_of d b (range r (name n (after_name limit (AsPort d h) x (range_width r) n v))) (t ∷ ts) → rest_item limit (WantRange (AsPort Output h)) (t ∷ ts) v
      other e f Input b r n x k = absurd k
      other e f Output true r n x k = absurd (no_keyword limit (codes "wire") (range r (name n (after_name limit (AsPort Output h) x (range_width r) n v))) t ts e k)
      other e f Output false r n x k = (r, n, x, k)
      other e f OutputReg true r n x k = absurd k
      other e f OutputReg false r n x k = absurd (no_keyword limit (codes "reg") (range r (name n (after_name limit (AsPort OutputReg h) x (range_width r) n v))) t ts f k)

  -- behind names: a further one, or the end
  names_goes : {X : Type 0} (m : Mark) (more last : State) (K : List (List ℕ) → X → List Token → Type 0) (t : Token) (ts : List Token) (v : P.ModuleTree) → is_sign m Comma ≡ false → (((n : List ℕ) × (ns : List (List ℕ)) × (x : X) × name n (names ns (sign m (K (n ∷ ns) x))) ts) ↔ rest limit more ts v) → (((x : X) × K [] x ts) ↔ rest limit last ts v) → ((ns : List (List ℕ)) × (x : X) × names ns (sign m (K ns x)) (t ∷ ts)) ↔ Holds (list_step more m last t) (λ z. rest limit z ts v)
  names_goes {X} m more last K (Sign Comma) ts v e f g = also (λ h. to h.0 h.1 h.2, λ h. (h.0 ∷ h.1, h.2, h.3)) f
    where
      to : (ns : List (List ℕ)) (x : X) → names ns (sign m (K ns x)) (Sign Comma ∷ ts) → (n : List ℕ) × (ns : List (List ℕ)) × (x : X) × name n (names ns (sign m (K (n ∷ ns) x))) ts
      to [] x h = absurd (rw e at h)
      to (n ∷ ns) x h = (n, ns, x, h)
  names_goes {X} m more last K (Sign k) ts v e f g = also (λ h. to h.0 h.1 h.2, λ h. ([], h.0, h.1)) (expects_goes limit m last (K []) (Sign k) ts v g)
    where
      to : (ns : List (List ℕ)) (x : X) → names ns (sign m (K ns x)) (Sign k ∷ ts) → (x : X) × sign m (K [] x) (Sign k ∷ ts)
      to [] x h = (x, h)
      to (n ∷ ns) x h = absurd h
  names_goes {X} m more last K t ts v e f g = also (λ h. to h.0 h.1 h.2, λ h. ([], h.0, h.1)) (expects_goes limit m last (K []) t ts v g)
    where
      to : (ns : List (List ℕ)) (x : X) → names ns (sign m (K ns x)) (t ∷ ts) → (x : X) × sign m (K [] x) (t ∷ ts)
      to [] x h = absurd h
      to (n ∷ ns) x h = absurd h

  wires_goes : (h : Head) (w : ℕ) (t : Token) (ts : List Token) (v : P.ModuleTree) → Item_law limit (NameRead (AsWire h) w) (name_step (AsWire h) w t) t ts v
  wires_goes h w t ts v = also (λ k. (k.0.0, k.0.1, k.1), λ k. ((k.0, k.1), k.2)) (names_goes Semicolon (AtItem (WantName (AsWire h) w)) (AtItem (WantItem h)) (λ ns (is : List Item). items_behind limit h (h.items ++ wires w ns) is v) t ts v refl (λ k. (k.0, (k.1, k.2), k.3), λ k. (k.0, k.1.0, k.1.1, k.2)) (λ k. (k.0, subst (λ l. items_behind limit h l k.0 v ts) (append-nil h.items) k.1), λ k. (k.0, subst (λ l. items_behind limit h l k.0 v ts) (sym (append-nil h.items)) k.1)))

  regs_goes : (h : Head) (w : ℕ) (t : Token) (ts : List Token) (v : P.ModuleTree) → Item_law limit (NameRead (AsReg h) w) (name_step (AsReg h) w t) t ts v
  regs_goes h w t ts v = also (λ k. (k.0.0, k.0.1, k.1), λ k. ((k.0, k.1), k.2)) (names_goes Semicolon (AtItem (WantName (AsReg h) w)) (AtItem (WantItem h)) (λ ns (is : List Item). items_behind limit h (h.items ++ regs w ns) is v) t ts v refl (λ k. (k.0, (k.1, k.2), k.3), λ k. (k.0, k.1.0, k.1.1, k.2)) (λ k. (k.0, subst (λ l. items_behind limit h l k.0 v ts) (append-nil h.items) k.1), λ k. (k.0, subst (λ l. items_behind limit h l k.0 v ts) (sym (append-nil h.items)) k.1)))

  -- the ports are those of h
  no_ports : (h : Head) (is : List Item) (ts : List Token) (v : P.ModuleTree) → after_items limit (with_ports h []) is v ts ↔ after_items limit h is v ts
  no_ports h is ts v = (λ k. subst (λ (l : List P.ModulePort). after_items limit (record h { ports = l }) is v ts) (append-nil h.ports) k, λ k. subst (λ (l : List P.ModulePort). after_items limit (record h { ports = l }) is v ts) (sym (append-nil h.ports)) k)

  ports_goes : (d : Dir) (h : Head) (w : ℕ) (t : Token) (ts : List Token) (v : P.ModuleTree) → Item_law limit (NameRead (AsPort d h) w) (name_step (AsPort d h) w t) t ts v
  ports_goes d h w (Sign Comma) ts v = (λ k. to k.0.0 k.0.1 k.1, λ k. ((k.0 ∷ k.1, k.2), k.3))
    where
      to : (ps : List Port) (is : List Item) → ports ps (after_ports limit h ps is v) (Sign Comma ∷ ts) → rest_item limit (WantPort h) ts v
      to [] is k = absurd k
      to (p ∷ ps) is k = (p, ps, is, k)
  ports_goes d h w (Sign m) ts v = also (λ k. to k.0.0 k.0.1 k.1, λ k. (([], k.0), k.1)) (expects_goes limit Close (AtItem (PortsRead h)) (λ is. sign Semicolon (after_items limit (with_ports h []) is v)) (Sign m) ts v (λ k. (k.0, step_in k.0 ts k.1), λ k. (k.0, step_out k.0 ts k.1)))
    where
      to : (ps : List Port) (is : List Item) → ports ps (after_ports limit h ps is v) (Sign m ∷ ts) → (is : List Item) × sign Close (sign Semicolon (after_items limit (with_ports h []) is v)) (Sign m ∷ ts)
      to [] is k = (is, k)
      to (p ∷ ps) is k = absurd k

      step_in : (is : List Item) (us : List Token) → sign Semicolon (after_items limit (with_ports h []) is v) us → sign Semicolon (after_items limit h is v) us
      step_in is us k = subst (λ (l : List P.ModulePort). sign Semicolon (after_items limit (record h { ports = l }) is v) us) (append-nil h.ports) k

      step_out : (is : List Item) (us : List Token) → sign Semicolon (after_items limit h is v) us → sign Semicolon (after_items limit (with_ports h []) is v) us
      step_out is us k = subst (λ (l : List P.ModulePort). sign Semicolon (after_items limit (record h { ports = l }) is v) us) (sym (append-nil h.ports)) k
  ports_goes d h w t ts v = never (λ k. no k.0.0 k.0.1 k.1) (λ z. z)
    where
      no : (ps : List Port) (is : List Item) → ports ps (after_ports limit h ps is v) (t ∷ ts) → ⊥
      no [] is k = k
      no (p ∷ ps) is k = k

  name_read_goes : (u : Use) (w : ℕ) (t : Token) (ts : List Token) (v : P.ModuleTree) → Item_law limit (NameRead u w) (name_step u w t) t ts v
  name_read_goes (AsWire h) w t ts v = wires_goes h w t ts v
  name_read_goes (AsReg h) w t ts v = regs_goes h w t ts v
  name_read_goes (AsPort d h) w t ts v = ports_goes d h w t ts v

  -- what the clock's parentheses hold, and the statement
  abbrev clocked : Head → List ℕ → Stmt → List Item → P.ModuleTree → List Token → Type 0
  clocked h c s is v = sign Close (stmt h.style limit 0 s (after_stmt limit (InAlways h c) is 0 (stmt_tree s) (ends_in_if s) v))

  abbrev ported : Style → List ℕ → Port → List Port → List Item → P.ModuleTree → List Token → Type 0
  ported y n p ps is v = port p (after_name limit (AsPort p.dir (new_head y n)) (ps, is) (range_width p.range) p.name v)

  pub item_laws : (p : ItemPlace) (t : Token) (ts : List Token) (v : P.ModuleTree) → Item_law limit p (step_item limit p t) t ts v
  item_laws (Begin y) t ts v = expects_word_goes limit (codes "module") (AtItem (HeadName y)) (λ (f : File). name f.name (sign Open (inside limit 0 (λ q. ported y f.name f.port f.ports f.items v)))) t ts v (λ k. (k.0.name, k.0.port, k.0.ports, k.0.items, k.1), λ k. (record { name = k.0; port = k.1; ports = k.2; items = k.3 }, k.4))
  item_laws (HeadName y) t ts v = also (λ k. (k.0, (k.1, k.2, k.3), k.4), λ k. (k.0, k.1.0, k.1.1, k.1.2, k.2)) (takes_name_goes (λ n. AtItem (HeadOpen y n)) (λ n (x : Port × List Port × List Item). sign Open (inside limit 0 (λ q. ported y n x.0 x.1 x.2 v))) t ts v (λ n. (λ k. (k.0.0, k.0.1, k.0.2, k.1), λ k. ((k.0, k.1, k.2), k.3))))
  item_laws (HeadOpen y n) t ts v = also (λ k. ((k.0, k.1, k.2), k.3), λ k. (k.0.0, k.0.1, k.0.2, k.1)) (opens_goes 0 (AtItem (WantPort (new_head y n))) (λ (x : Port × List Port × List Item). ported y n x.0 x.1 x.2 v) t ts v (λ k. (k.0.0, k.0.1, k.0.2, k.1), λ k. ((k.0, k.1, k.2), k.3)))
  item_laws (WantPort h) t ts v = port_goes h t ts v
  item_laws (InputRead h) t ts v = input_goes h t ts v
  item_laws (OutputRead h) t ts v = output_goes h t ts v
  item_laws (WantRange u) t ts v = range_goes u t ts v
  item_laws (WantHigh u) t ts v = also (λ k. (k.0, (k.1, k.2), k.3), λ k. (k.0, k.1.0, k.1.1, k.2)) (takes_number_goes (λ i. AtItem (WantColon u i)) (λ i (x : List ℕ × UseTail u). sign Colon (zero_number (sign CloseBracket (name x.0 (after_name limit u x.1 (i + 1) x.0 v))))) t ts v (λ i. (λ k. (k.0.0, k.0.1, k.1), λ k. ((k.0, k.1), k.2))))
  item_laws (WantColon u i) t ts v = also (λ k. ((k.0, k.1), k.2), λ k. (k.0.0, k.0.1, k.1)) (expects_goes limit Colon (AtItem (WantZero u i)) (λ (x : List ℕ × UseTail u). zero_number (sign CloseBracket (name x.0 (after_name limit u x.1 (i + 1) x.0 v)))) t ts v (λ k. (k.0.0, k.0.1, k.1), λ k. ((k.0, k.1), k.2)))
  item_laws (WantZero u i) t ts v = also (λ k. ((k.0, k.1), k.2), λ k. (k.0.0, k.0.1, k.1)) (takes_zero_goes (AtItem (WantBracket u i)) (λ (x : List ℕ × UseTail u). sign CloseBracket (name x.0 (after_name limit u x.1 (i + 1) x.0 v))) t ts v (λ k. (k.0.0, k.0.1, k.1), λ k. ((k.0, k.1), k.2)))
  item_laws (WantBracket u i) t ts v = also (λ k. ((k.0, k.1), k.2), λ k. (k.0.0, k.0.1, k.1)) (expects_goes limit CloseBracket (AtItem (WantName u (i + 1))) (λ (x : List ℕ × UseTail u). name x.0 (after_name limit u x.1 (i + 1) x.0 v)) t ts v (λ k. (k.0.0, k.0.1, k.1), λ k. ((k.0, k.1), k.2)))
  item_laws (WantName u w) t ts v = want_name_goes u w t ts v
  item_laws (NameRead u w) t ts v = name_read_goes u w t ts v
  item_laws (PortsRead h) t ts v = expects_goes limit Semicolon (AtItem (WantItem h)) (λ is. after_items limit h is v) t ts v same
  item_laws (WantItem h) t ts v = want_item_goes limit h t ts v
  item_laws (AssignRead h) t ts v = also (λ k. (k.0, (k.1, k.2), k.3), λ k. (k.0, k.1.0, k.1.1, k.2)) (takes_name_goes (λ n. AtItem (DriveRead h n)) (λ n (x : Expr × List Item). sign Equals (expr h.style limit 0 x.0 (after_alone limit (AsDriver h n) x.1 0 (expr_tree x.0) v))) t ts v (λ n. (λ k. (k.0.0, k.0.1, k.1), λ k. ((k.0, k.1), k.2))))
  item_laws (DriveRead h n) t ts v = also (λ k. ((k.0, k.1), k.2), λ k. (k.0.0, k.0.1, k.1)) (expects_goes limit Equals (AtExpr (begin_expr h.style 0 (AsDriver h n))) (λ (x : Expr × List Item). expr h.style limit 0 x.0 (after_alone limit (AsDriver h n) x.1 0 (expr_tree x.0) v)) t ts v (also (λ k. (k.0.0, k.0.1, k.1), λ k. ((k.0, k.1), k.2)) (begins limit h.style 0 (AsDriver h n) ts v)))
  item_laws (AlwaysRead h) t ts v = also (λ k. ((k.0, k.1, k.2), k.3), λ k. (k.0.0, k.0.1, k.0.2, k.1)) (expects_goes limit At (AtItem (AtRead h)) (λ (x : List ℕ × Stmt × List Item). sign Open (inside limit 0 (λ q. keyword (codes "posedge") (name x.0 (clocked h x.0 x.1 x.2 v))))) t ts v (λ k. (k.0.0, k.0.1, k.0.2, k.1), λ k. ((k.0, k.1, k.2), k.3)))
  item_laws (AtRead h) t ts v = also (λ k. ((k.0, k.1, k.2), k.3), λ k. (k.0.0, k.0.1, k.0.2, k.1)) (opens_goes 0 (AtItem (ClockOpen h)) (λ (x : List ℕ × Stmt × List Item). keyword (codes "posedge") (name x.0 (clocked h x.0 x.1 x.2 v))) t ts v (λ k. (k.0.0, k.0.1, k.0.2, k.1), λ k. ((k.0, k.1, k.2), k.3)))
  item_laws (ClockOpen h) t ts v = also (λ k. ((k.0, k.1, k.2), k.3), λ k. (k.0.0, k.0.1, k.0.2, k.1)) (expects_word_goes limit (codes "posedge") (AtItem (EdgeRead h)) (λ (x : List ℕ × Stmt × List Item). name x.0 (clocked h x.0 x.1 x.2 v)) t ts v (λ k. (k.0.0, k.0.1, k.0.2, k.1), λ k. ((k.0, k.1, k.2), k.3)))
  item_laws (EdgeRead h) t ts v = also (λ k. (k.0, (k.1, k.2), k.3), λ k. (k.0, k.1.0, k.1.1, k.2)) (takes_name_goes (λ c. AtItem (ClockRead h c)) (λ c (x : Stmt × List Item). clocked h c x.0 x.1 v) t ts v (λ c. (λ k. (k.0.0, k.0.1, k.1), λ k. ((k.0, k.1), k.2))))
  item_laws (ClockRead h c) t ts v = also (λ k. ((k.0, k.1), k.2), λ k. (k.0.0, k.0.1, k.1)) (expects_goes limit Close (AtStmt (WantStmt 0 (InAlways h c))) (λ (x : Stmt × List Item). stmt h.style limit 0 x.0 (after_stmt limit (InAlways h c) x.1 0 (stmt_tree x.0) (ends_in_if x.0) v)) t ts v (λ k. (k.0.0, k.0.1, k.1), λ k. ((k.0, k.1), k.2)))
  item_laws (Ended h) t ts v = never (λ k. k.1) (λ z. z)

  pub parse_goes : (s : State) (t : Token) (ts : List Token) (v : P.ModuleTree) → rest limit s (t ∷ ts) v ↔ Holds (step limit s t) (λ z. rest limit z ts v)
  parse_goes (AtExpr p) t ts v = expr_laws limit p t ts v
  parse_goes (AtStmt p) t ts v = stmt_laws limit p t ts v
  parse_goes (AtItem p) t ts v = item_laws p t ts v

  -- nothing but a module ends with the tokens
  stmt_more : (y : Style) (q : ℕ) (x : Stmt) (K : List Token → Type 0) → stmt y limit q x K [] → ⊥
  stmt_more y q (IfElse c a b) K h = h
  stmt_more y q x K h = h

  after_items_more : (h : Head) (l : List P.ModuleItem) (is : List Item) (v : P.ModuleTree) → items_behind limit h l is v [] → ⊥
  after_items_more h l [] v k = k
  after_items_more h l (Wires r n ns ∷ is) v k = k
  after_items_more h l (i ∷ is) v k = k

  default_more : (y : Style) (q : ℕ) (d : Default) (w : List ℕ) (K : List Token → Type 0) → default y limit q d (keyword w K) [] → ⊥
  default_more y q NoDefault w K k = k
  default_more y q (ItsDefault c d) w K k = k

  after_stmt_more : (a : Around) (x : AfterStmt a) (q : ℕ) (s : P.Statements) (o : Bool) (v : P.ModuleTree) → after_stmt limit a x q s o v [] → ⊥
  after_stmt_more (InAlways h c) x q s o v k = after_items_more (with_item h (P.AlwaysItem c s)) (with_item h (P.AlwaysItem c s)).items x v k
  after_stmt_more (InBlock r old a) x q s o v k = go x.0 k
    where
      go : (ss : Stmts) → stmts (style_of a) limit q ss (keyword (codes "end") (after_stmt limit a x.1 r (then_all old (then_all s (stmts_tree ss))) false v)) [] → ⊥
      go NoStmt z = z
      go (AndStmt y ss) z = stmt_more (style_of a) q y (stmts (style_of a) limit q ss (keyword (codes "end") (after_stmt limit a x.1 r (then_all old (then_all s (stmts_tree (AndStmt y ss)))) false v))) z
  after_stmt_more (InThen r c a) x q s o v k = go x.0 (after_stmt_more a x.1 r (alone (P.IfElse c s P.Done)) true v) k
    where
      go : (b : Option Stmt) → (after_stmt limit a x.1 r (alone (P.IfElse c s P.Done)) true v [] → ⊥) → else_part limit (style_of a) (λ w p. after_stmt limit a x.1 r w p v) q o c s b [] → ⊥
      go None f z = f z
      go (Some b) f z = z.1
  after_stmt_more (InElse r c s' a) x q s o v k = after_stmt_more a x r (alone (P.IfElse c s' s)) o v k
  after_stmt_more (InArm r y as' ls a) x q s o v k = go x.0 k
    where
      go : (ys : Arms) → arms (style_of a) limit q ys (default (style_of a) limit q x.1 (case_ends limit a x.2 r y (more_arms as' (P.ArmOf ls s (arms_tree ys))) (default_tree x.1) v)) [] → ⊥
      go NoArm z = default_more (style_of a) q x.1 (codes "endcase") (after_stmt limit a x.2 r (case_of y (more_arms as' (P.ArmOf ls s P.NoArm)) (default_tree x.1)) false v) z
      go (AndArm (ArmOf l ks b) ys) z = z
  after_stmt_more (InDefault r y as' a) x q s o v k = k

  alone_more : (b : Alone) (x : AfterAlone b) (p : ℕ) (e : P.Expression) (v : P.ModuleTree) → after_alone limit b x p e v [] → ⊥
  alone_more (AsDriver h n) x p e v k = k
  alone_more b x p e v k = k

  nest_more : (o : Nest) (x : AfterNest o) (p : ℕ) (m : Count) (e : P.Expression) (v : P.ModuleTree) → after_nest limit o x p m e v [] → ⊥
  nest_more (Only b) x p m e v k = alone_more b x p e v k
  nest_more (InRound r n ws u o) x p m e v k = k
  nest_more (InList r old n ws u o) x p m e v k = go x.0 k
    where
      go : (xs : F.Flats) → F.flats limit p xs m (λ i. sign CloseBrace (F.tail limit r x.1 (behind n i) (λ j. after_nest limit o x.2 r j (F.tail_tree ws (signed u (P.Concatenation (more_parts old (P.Followed e (F.flats_tree xs))))) x.1) v))) [] → ⊥
      go F.NoFlat z = z
      go (F.AndFlat y xs) z = z
  nest_more (IfTrue c o) x p m e v k = k
  nest_more (IfFalse c y o) x p m e v k = nest_more o x p m (P.Conditional c y e) v k

  tail_more : (p : ℕ) (n : Count) (ws : List Left) (e : P.Expression) (o : Nest) (t : F.Tail) (x : AfterNest o) (v : P.ModuleTree) → F.tail limit p t n (λ m. after_nest limit o x p m (F.tail_tree ws e t) v) [] → ⊥
  tail_more p n ws e o F.End x v k = nest_more o x p n (settle_all ws e) v k
  tail_more p n ws e o (F.Link b y t) x v k = holds_never (one_more limit n) _ (λ j h. h) k
  tail_more p n ws e o (F.Ask y z) x v k = holds_never (one_more limit n) _ (λ j h. h) k

  prim_more : (p : ℕ) (x : F.Prim) (n : Count) (K : Count → List Token → Type 0) → F.prim limit p x n K [] → ⊥
  prim_more p (F.Name w) n K k = k
  prim_more p x n K k = k

  operand_more : (p : ℕ) (x : F.Operand) (n : Count) (K : Count → List Token → Type 0) → F.operand limit p x n K [] → ⊥
  operand_more p (F.OperandOf None y) n K k = prim_more p y n K k
  operand_more p (F.OperandOf (Some u) y) n K k = holds_never (one_more limit n) _ (λ j h. h) k

  after_expr_more : (o : Outside) (x : AfterExpr o) (p : ℕ) (e : P.Expression) (v : P.ModuleTree) → after_expr limit o x p e v [] → ⊥
  after_expr_more (Linked n ws u o) x p e v k = tail_more p n ws (signed u e) o x.0 x.1 v k

  expr_ends : (p : ExprPlace) (v : P.ModuleTree) → rest_expr limit p [] v → ⊥
  expr_ends (Named p n o) v k = go k.0 k.2
    where
      go : (i : Place) → place n i (λ e. after_expr limit o k.1 p e v) [] → ⊥
      go Whole z = after_expr_more o k.1 p (P.Net n) v z
      go (One i) z = z
      go (Two i j) z = z
  expr_ends (Bracket p n o) v k = k.3
  expr_ends (HighRead p n h o) v k = go k.0 k.2
    where
      go : (l : Option ℕ) → in_bracket n l h (λ e. after_expr limit o k.1 p e v) [] → ⊥
      go None z = z
      go (Some l) z = z
  expr_ends (ColonRead p n h o) v k = k.2
  expr_ends (LowRead p n h l o) v k = k.1
  expr_ends (Have p e o) v k = after_expr_more o k.0 p e v k.1
  expr_ends (WantOperand p n ws o) v k = operand_more p k.0 n _ k.3
  expr_ends (WantPrim p n ws u o) v k = prim_more p k.0 n _ k.3

  stmt_ends : (p : StmtPlace) (v : P.ModuleTree) → rest_stmt limit p [] v → ⊥
  stmt_ends (WantStmt q a) v k = stmt_more (style_of a) q k.0 (after_stmt limit a k.1 q (stmt_tree k.0) (ends_in_if k.0) v) k.2
  stmt_ends (Target q n a) v k = k.2
  stmt_ends (IfRead r q a) v k = k.4
  stmt_ends (CaseRead r q a) v k = k.5
  stmt_ends (FirstLabel r q x as' a) v k = go k.0 k.4
    where
      go : (y : Arm) → arm (style_of a) limit q y (arms (style_of a) limit q k.1 (default (style_of a) limit q k.2 (case_ends limit a k.3 r x (more_arms as' (arm_tree y (arms_tree k.1))) (default_tree k.2) v))) [] → ⊥
      go (ArmOf l ks s) z = z
  stmt_ends (Labels r q x as' ls a) v k = go k.0 k.5
    where
      go : (ks : List Vector) → literals ks (sign Colon (stmt (style_of a) limit q k.1 (after_stmt limit (InArm r x as' (ls ++ ks) a) (k.2, k.3, k.4) q (stmt_tree k.1) (ends_in_if k.1) v))) [] → ⊥
      go [] z = z
      go (l ∷ ks) z = z
  stmt_ends (NextLabel r q x as' ls a) v k = k.6
  stmt_ends (DefaultRead r q x as' a) v k = go k.0 k.3
    where
      go : (c : Bool) → colon_if c (stmt (style_of a) limit q k.1 (case_ends limit a k.2 r x as' (stmt_tree k.1) v)) [] → ⊥
      go true z = z
      go false z = stmt_more (style_of a) q k.1 (case_ends limit a k.2 r x as' (stmt_tree k.1) v) z
  stmt_ends (Block p r old a) v k = go k.0 k.2
    where
      go : (ss : Stmts) → stmts (style_of a) limit p ss (keyword (codes "end") (after_stmt limit a k.1 r (then_all old (stmts_tree ss)) false v)) [] → ⊥
      go NoStmt z = z
      go (AndStmt y ss) z = stmt_more (style_of a) p y (stmts (style_of a) limit p ss (keyword (codes "end") (after_stmt limit a k.1 r (then_all old (stmts_tree (AndStmt y ss))) false v))) z
  stmt_ends (HaveStmt q s a) v k = after_stmt_more a k.0 q s false v k.1

  names_more : (ns : List (List ℕ)) (m : Mark) (K : List Token → Type 0) → names ns (sign m K) [] → ⊥
  names_more [] m K z = z
  names_more (n ∷ ns) m K z = z

  range_more : (r : Option ℕ) (n : List ℕ) (K : List Token → Type 0) → range r (name n K) [] → ⊥
  range_more None n K z = z
  range_more (Some i) n K z = z

  item_ends : (p : ItemPlace) (v : P.ModuleTree) → rest_item limit p [] v ↔ (value_item p ≡ Some v)
  item_ends (Begin y) v = never (λ k. k.1) (λ e. cc)
  item_ends (HeadName y) v = never (λ k. k.4) (λ e. cc)
  item_ends (HeadOpen y n) v = never (λ k. k.3) (λ e. cc)
  item_ends (WantPort h) v = never (λ k. go k.0.dir k.0.wire (range k.0.range (name k.0.name (after_name limit (AsPort k.0.dir h) (k.1, k.2) (range_width k.0.range) k.0.name v))) k.3) (λ e. cc)
    where
      go : (d : Dir) (w : Bool) (K : List Token → Type 0) → direction d w K [] → ⊥
      go Input w K z = z
      go Output w K z = z
      go OutputReg w K z = z
  item_ends (InputRead h) v = never (λ k. go k.0 k.1 k.2 (after_name limit (AsPort Input h) k.3 (range_width k.1) k.2 v) k.4) (λ e. cc)
    where
      go : (w : Bool) (r : Option ℕ) (n : List ℕ) (K : List Token → Type 0) → wire_if w (range r (name n K)) [] → ⊥
      go true r n K z = z
      go false r n K z = range_more r n K z
  item_ends (OutputRead h) v = never (λ k. go k.0 k.1 k.2 k.3 (after_name limit (AsPort k.0 h) k.4 (range_width k.2) k.3 v) k.5) (λ e. cc)
    where
      go : (d : Dir) (w : Bool) (r : Option ℕ) (n : List ℕ) (K : List Token → Type 0) → output_of d w (range r (name n K)) [] → ⊥
      go Input w r n K z = z
      go Output true r n K z = z
      go Output false r n K z = range_more r n K z
      go OutputReg true r n K z = z
      go OutputReg false r n K z = z
  item_ends (WantRange u) v = never (λ k. range_more k.0 k.1 (after_name limit u k.2 (range_width k.0) k.1 v) k.3) (λ e. cc)
  item_ends (WantHigh u) v = never (λ k. k.3) (λ e. cc)
  item_ends (WantColon u i) v = never (λ k. k.2) (λ e. cc)
  item_ends (WantZero u i) v = never (λ k. k.2) (λ e. cc)
  item_ends (WantBracket u i) v = never (λ k. k.2) (λ e. cc)
  item_ends (WantName u w) v = never (λ k. k.2) (λ e. cc)
  item_ends (NameRead u w) v = never (λ k. go u k.0 k.1) (λ e. cc)
    where
      go : (u : Use) (x : UseTail u) → name_read limit u x w v [] → ⊥
      go (AsWire h) x z = names_more x.0 Semicolon (items_behind limit h (h.items ++ wires w x.0) x.1 v) z
      go (AsReg h) x z = names_more x.0 Semicolon (items_behind limit h (h.items ++ regs w x.0) x.1 v) z
      go (AsPort d h) x z = some x.0 z
        where
          some : (ps : List Port) → ports ps (after_ports limit h ps x.1 v) [] → ⊥
          some [] y = y
          some (p ∷ ps) y = y
  item_ends (PortsRead h) v = never (λ k. k.1) (λ e. cc)
  item_ends (WantItem h) v = never (λ k. after_items_more h h.items k.0 v k.1) (λ e. cc)
  item_ends (AssignRead h) v = never (λ k. k.3) (λ e. cc)
  item_ends (DriveRead h n) v = never (λ k. k.2) (λ e. cc)
  item_ends (AlwaysRead h) v = never (λ k. k.3) (λ e. cc)
  item_ends (AtRead h) v = never (λ k. k.3) (λ e. cc)
  item_ends (ClockOpen h) v = never (λ k. k.3) (λ e. cc)
  item_ends (EdgeRead h) v = never (λ k. k.3) (λ e. cc)
  item_ends (ClockRead h c) v = never (λ k. k.2) (λ e. cc)
  item_ends (Ended h) v = (λ k. ap Some k.0, λ e. (let i : (let m : P.ModuleTree = record { name = h.name; ports = h.ports; items = h.items } in m) ≡ v = cc in i, tt))

  pub parse_ends : (s : State) (v : P.ModuleTree) → rest limit s [] v ↔ (value s ≡ Some v)
  parse_ends (AtExpr p) v = never (expr_ends p v) (λ e. cc)
  parse_ends (AtStmt p) v = never (stmt_ends p v) (λ e. cc)
  parse_ends (AtItem p) v = item_ends p v

  pub parses : Parses (step limit) value (rest limit)
  parses = record { ends = λ s v. parse_ends s v; goes = λ s t ts v. parse_goes s t ts v }
