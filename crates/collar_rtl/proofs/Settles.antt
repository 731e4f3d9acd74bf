-- An interface that can be written and breaks no rule settles in one way in each cycle: its wires read inputs and registers alone.
use Rattle.std.proofs.Common.{◌≡◌, ◌+◌, ◌-◌, ℕ, zero, suc, Bool, true, false, cond, nat_eq, List, [], ◌∷◌, ◌++◌, ◌⊎◌, inl, inr, ⊎_elim, map, Option, Some, None, refl, sym, ap, subst, ◌∙◌, arith, codes, append_assoc}
use Rattle.verilog_tree.specs.declared.tree.BinOp.TheVariants.{Xor}
use Rattle.verilog_tree.specs.declared.tree.Dir.TheVariants.{Input, Output}
use Rattle.verilog_tree.specs.declared.names.Kind.TheVariants as N
use Rattle.verilog_tree.specs.Plain.{Expression, Net, Concatenation, Followed, NoMore, Infixed, Statement, ModuleItem, WireItem, RegItem, AssignItem, AlwaysItem, ModulePort}
use Rattle.verilog_tree.specs.Names.{Declaration, port_declaration, port_declarations, item_declarations, declarations, lookup, declared_width, is_wire, is_declared_as}
use Rattle.verilog_tree.specs.Formed.{formed}
use Rattle.verilog_tree.specs.Rules.{first_break}
use Rattle.verilog_tree.specs.Operators.{bit}
use Rattle.verilog_tree.specs.Meaning.{Env}
use Rattle.verilog_tree.specs.Wires.{Uses, Leads, Starts, OneSettles}
use Rattle.verilog_tree.proofs.Clean.{Fresh, fresh_found, CleanItems}
use Rattle.verilog_tree.proofs.Settling.{lawful_module, one_settles}
use Rattle.macro_pins.specs.declared.pins.PinKind.{PinKind}
use Rattle.macro_pins.specs.declared.pins.PinKind.TheVariants as K
use Rattle.macro_pins.specs.Pins.{PinTree, Pins, has_enable}
use Rattle.macro_pins.specs.Asked.{ones}
use Rattle.collar_rtl.specs.Interface as I
use Rattle.collar_rtl.specs.Interface.{test, at_pin, en_at, we_at, addr_at, wdata_at, rdata_at, lit}

-- ---- declarations

abbrev pub Among : Declaration → List Declaration → Type 0
Among d [] = ⊥
Among d (x ∷ ds) = (x ≡ d) ⊎ Among d ds

among_right : (d : Declaration) (xs ys : List Declaration) → Among d ys → Among d (xs ++ ys)
among_right d [] ys a = a
among_right d (x ∷ xs) ys a = inr (among_right d xs ys a)

among_left : (d : Declaration) (xs ys : List Declaration) → Among d xs → Among d (xs ++ ys)
among_left d [] ys a = absurd a
among_left d (x ∷ xs) ys (inl e) = inl e
among_left d (x ∷ xs) ys (inr a) = inr (among_left d xs ys a)

pub fresh_lookup : (b ds : List Declaration) (d : Declaration) → Fresh b ds → Among d ds → lookup (b ++ ds) d.name ≡ Some d
fresh_lookup b [] d f a = absurd a
fresh_lookup b (x ∷ ds) d f (inl e) = subst (λ (y : Declaration). lookup (b ++ x ∷ ds) y.name ≡ Some y) e (fresh_found b ds x f.0)
fresh_lookup b (x ∷ ds) d f (inr a) =
    subst (λ (l : List Declaration). lookup l d.name ≡ Some d) (append_assoc b (x ∷ []) ds) (fresh_lookup (b ++ x ∷ []) ds d f.1 a)

-- a name that is declared, and not as a wire
pub record Source (ds : List Declaration) (n : List ℕ) : Type 0 where
  pub declaration : Declaration
  pub among : Among declaration ds
  pub name : declaration.name ≡ n
  pub unwired : is_wire declaration.kind ≡ false

source_of : (ds : List Declaration) (d : Declaration) → Among d ds → is_wire d.kind ≡ false → Source ds d.name
source_of ds d a u = record { declaration = d; among = a; name = refl; unwired = u }

source_in : (ds es : List Declaration) → ((d : Declaration) → Among d ds → Among d es) → (n : List ℕ) → Source ds n → Source es n
source_in ds es f n s = record { declaration = s.declaration; among = f s.declaration s.among; name = s.name; unwired = s.unwired }

same_source : (ds : List Declaration) (m n : List ℕ) → m ≡ n → Source ds n → Source ds m
same_source ds m n e s = subst (λ (k : List ℕ). Source ds k) (sym e) s

-- ---- ranks

abbrev rank : List Declaration → List ℕ → ℕ
rank ds n = bit (is_declared_as (λ d. is_wire d.kind) (lookup ds n))

source_rank : (ds : List Declaration) → Fresh [] ds → (n : List ℕ) → Source ds n → rank ds n ≡ 0
source_rank ds f n s =
    let d : Declaration = s.declaration in
    let found : lookup ds n ≡ Some d = subst (λ (k : List ℕ). lookup ds k ≡ Some d) s.name (fresh_lookup [] ds d f s.among) in
    ap (λ (o : Option Declaration). bit (is_declared_as (λ x. is_wire x.kind) o)) found ∙ ap bit s.unwired

wire_rank : (w : List ℕ → ℕ) (ds : List Declaration) (is : List ModuleItem) (n m : List ℕ) → CleanItems w ds is → Leads is n m → rank ds n ≡ 1
wire_rank w ds [] n m c l = absurd l
wire_rank w ds (WireItem k j ∷ is) n m c l = wire_rank w ds is n m c l
wire_rank w ds (RegItem k j ∷ is) n m c l = wire_rank w ds is n m c l
wire_rank w ds (AlwaysItem k ss ∷ is) n m c l = wire_rank w ds is n m c l
wire_rank w ds (AssignItem k x ∷ is) n m c (inl l) =
    let d = c.0.3 in
    ap (rank ds) l.0 ∙ ap (λ (o : Option Declaration). bit (is_declared_as (λ y. is_wire y.kind) o)) d.1 ∙ ap bit d.2
wire_rank w ds (AssignItem k x ∷ is) n m c (inr l) = wire_rank w ds is n m c.1 l

-- ---- what the wires read

abbrev PinSource : List Declaration → PinKind → PinTree → Type 0
PinSource ds K.Tie p = Unit {0}
PinSource ds kind p = Source ds p.name

abbrev PinSources : List Declaration → List PinTree → Type 0
PinSources ds [] = Unit {0}
PinSources ds (p ∷ ps) = PinSource ds p.kind p × PinSources ds ps

pin_in : (ds es : List Declaration) → ((d : Declaration) → Among d ds → Among d es) → (k : PinKind) (p : PinTree) → PinSource ds k p → PinSource es k p
pin_in ds es f K.Enable p s = source_in ds es f p.name s
pin_in ds es f K.Write p s = source_in ds es f p.name s
pin_in ds es f K.ReadAlone p s = source_in ds es f p.name s
pin_in ds es f K.WriteAlone p s = source_in ds es f p.name s
pin_in ds es f K.Address p s = source_in ds es f p.name s
pin_in ds es f K.Data p s = source_in ds es f p.name s
pin_in ds es f K.Mask p s = source_in ds es f p.name s
pin_in ds es f K.Pass p s = source_in ds es f p.name s
pin_in ds es f K.Fixed p s = source_in ds es f p.name s
pin_in ds es f K.Tie p s = tt

pins_in : (ds es : List Declaration) → ((d : Declaration) → Among d ds → Among d es) → (ps : List PinTree) → PinSources ds ps → PinSources es ps
pins_in ds es f [] s = tt
pins_in ds es f (p ∷ ps) s = (pin_in ds es f p.kind p s.0, pins_in ds es f ps s.1)

abbrev pin_list : PinKind → PinTree → List ModulePort → List Declaration
pin_list k p rest = map port_declaration (I.functional_port k p ++ rest)

pin_here : (k : PinKind) (p : PinTree) (rest : List ModulePort) → PinSource (pin_list k p rest) k p
pin_here K.Enable p rest = source_of _ (port_declaration (I.port Input p.name p.width)) (inl refl) refl
pin_here K.Write p rest = source_of _ (port_declaration (I.port Input p.name p.width)) (inl refl) refl
pin_here K.ReadAlone p rest = source_of _ (port_declaration (I.port Input p.name p.width)) (inl refl) refl
pin_here K.WriteAlone p rest = source_of _ (port_declaration (I.port Input p.name p.width)) (inl refl) refl
pin_here K.Address p rest = source_of _ (port_declaration (I.port Input p.name p.width)) (inl refl) refl
pin_here K.Data p rest = source_of _ (port_declaration (I.port Input p.name p.width)) (inl refl) refl
pin_here K.Mask p rest = source_of _ (port_declaration (I.port Input p.name p.width)) (inl refl) refl
pin_here K.Pass p rest = source_of _ (port_declaration (I.port Input p.name p.width)) (inl refl) refl
pin_here K.Fixed p rest = source_of _ (port_declaration (I.port Input p.name p.width)) (inl refl) refl
pin_here K.Tie p rest = tt

map_both : (xs ys : List ModulePort) → map port_declaration (xs ++ ys) ≡ map port_declaration xs ++ map port_declaration ys
map_both [] ys = refl
map_both (x ∷ xs) ys = ap (λ l. port_declaration x ∷ l) (map_both xs ys)

pins_there : (ps : List PinTree) (ws : List ModulePort) → PinSources (map port_declaration (I.pin_ports ps ++ ws)) ps
pins_there [] ws = tt
pins_there (p ∷ ps) ws =
    let rest : List ModulePort = I.port Output (at_pin p.name) p.width ∷ (I.pin_ports ps ++ ws) in
    let whole : pin_list p.kind p rest ≡ map port_declaration (I.pin_ports (p ∷ ps) ++ ws) =
    ap (map port_declaration) (sym (append_assoc (I.functional_port p.kind p) (I.port Output (at_pin p.name) p.width ∷ I.pin_ports ps) ws)) in
    let inside : (d : Declaration) → Among d (map port_declaration (I.pin_ports ps ++ ws)) → Among d (pin_list p.kind p rest) =
    λ d a. subst (λ (l : List Declaration). Among d l) (sym (map_both (I.functional_port p.kind p) rest))
    (among_right d (map port_declaration (I.functional_port p.kind p)) (map port_declaration rest) (inr a)) in
    subst (λ (l : List Declaration). PinSources l (p ∷ ps)) whole
    (pin_here p.kind p rest, pins_in (map port_declaration (I.pin_ports ps ++ ws)) (pin_list p.kind p rest) inside ps (pins_there ps ws))

record Sources (ds : List Declaration) (i : ℕ) : Type 0 where
  test_there : Source ds test
  en : Source ds (en_at i)
  we : Source ds (we_at i)
  addr : Source ds (addr_at i)
  wdata : Source ds (wdata_at i)

none : {A : Type 0} → ⊥ ⊎ ⊥ → A
none u = ⊎_elim (λ x. absurd x) (λ x. absurd x) u

module _ (ds : List Declaration) (i : ℕ) (g : Sources ds i) (m : List ℕ) where
  of_writes : Uses m (I.writes i) → Source ds m
  of_writes u = ⊎_elim (λ e. same_source ds m (en_at i) e g.en) (λ e. same_source ds m (we_at i) e g.we) u

  of_reads : Uses m (I.reads i) → Source ds m
  of_reads u = ⊎_elim (λ e. same_source ds m (en_at i) e g.en) (λ e. same_source ds m (we_at i) e g.we) u

  of_where : (p : PinTree) (x : Expression) → (Uses m x → Source ds m) → Uses m (I.where_on p x) → Source ds m
  of_where p x f u = ⊎_elim f (λ n. none n) u

  of_write : (enabled : Bool) → Uses m (cond enabled (Net (we_at i)) (I.writes i)) → Source ds m
  of_write true e = same_source ds m (we_at i) e g.we
  of_write false u = of_writes u

  of_inverted : (t : Bool) (k : ℕ) (x : Expression) → (Uses m x → Source ds m) → Uses m (cond t (Infixed Xor x (lit k (ones k))) x) → Source ds m
  of_inverted true k x f u = ⊎_elim f (λ n. absurd n) u
  of_inverted false k x f u = f u

  of_widened : (t : Bool) (k : ℕ) → Uses m (cond t (Net (addr_at i)) (Concatenation (Followed (lit k 0) (Followed (Net (addr_at i)) NoMore)))) → Source ds m
  of_widened true k e = same_source ds m (addr_at i) e g.addr
  of_widened false k u = ⊎_elim (λ n. absurd n) (λ v. ⊎_elim (λ e. same_source ds m (addr_at i) e g.addr) (λ n. absurd n) v) u

  chosen : {A : Type 0} (n : List ℕ) → (A → Source ds m) → Source ds n → (m ≡ test) ⊎ (A ⊎ (m ≡ n)) → Source ds m
  chosen n f s u = ⊎_elim (λ e. same_source ds m test e g.test_there) (λ v. ⊎_elim f (λ e. same_source ds m n e s) v) u

  of_pin : (enabled : Bool) (a : ℕ) (k : PinKind) (p : PinTree) → PinSource ds k p → Uses m (I.at_macro enabled i a k p) → Source ds m
  of_pin enabled a K.Enable p s u = chosen p.name (of_where p (Net (en_at i)) (λ e. same_source ds m (en_at i) e g.en)) s u
  of_pin enabled a K.Write p s u = chosen p.name (of_where p (cond enabled (Net (we_at i)) (I.writes i)) (of_write enabled)) s u
  of_pin enabled a K.ReadAlone p s u = chosen p.name (of_where p (I.reads i) of_reads) s u
  of_pin enabled a K.WriteAlone p s u = chosen p.name (of_where p (I.writes i) of_writes) s u
  of_pin enabled a K.Address p s u =
      chosen p.name (of_inverted p.low p.width (I.widened a p.width (Net (addr_at i))) (of_widened (nat_eq a p.width) (p.width - a))) s u
  of_pin enabled a K.Data p s u = chosen p.name (of_inverted p.low p.width (Net (wdata_at i)) (λ e. same_source ds m (wdata_at i) e g.wdata)) s u
  of_pin enabled a K.Mask p s u = chosen p.name (λ n. absurd n) s u
  of_pin enabled a K.Pass p s u = same_source ds m p.name u s
  of_pin enabled a K.Fixed p s u = chosen p.name (λ n. absurd n) s u
  of_pin enabled a K.Tie p s u = absurd u

  of_pins : (enabled : Bool) (a : ℕ) (ps : List PinTree) (is : List ModuleItem) → PinSources ds ps → (n : List ℕ) → (Leads is n m → Source ds m)
      → Leads (I.pin_assigns enabled i a ps ++ is) n m → Source ds m
  of_pins enabled a [] is s n f l = f l
  of_pins enabled a (p ∷ ps) is s n f l =
      ⊎_elim (λ (u : (n ≡ at_pin p.name) × Uses m (I.at_macro enabled i a p.kind p)). of_pin enabled a p.kind p s.0 u.1) (λ v. of_pins enabled a ps is s.1 n f v) l

leads_commands : (b a i n : ℕ) (is : List ModuleItem) (k m : List ℕ) → Leads (I.command_regs b a i n ++ is) k m → Leads is k m
leads_commands b a i zero is k m l = l
leads_commands b a i (suc n) is k m l = leads_commands b a (suc i) n is k m l

leads_words : (q : List ℕ) (b i n : ℕ) (is : List ModuleItem) (k m : List ℕ) → Leads (I.word_regs q b i n ++ is) k m → Leads is k m
leads_words q b i zero is k m l = l
leads_words q b i (suc n) is k m l = leads_words q b (suc i) n is k m l

no_leads : (ss : List Statement) (k m : List ℕ) → Leads (I.block_of ss) k m → ⊥
no_leads [] k m l = l
no_leads (s ∷ ss) k m l = l

abbrev reg : List ℕ → ℕ → Declaration
reg n w = record { name = n; kind = N.Register; width = w }

decl_both : (is js : List ModuleItem) (d : Declaration) → Among d (item_declarations is) → Among d (item_declarations (is ++ js))
decl_both [] js d a = absurd a
decl_both (WireItem n k ∷ is) js d (inl e) = inl e
decl_both (WireItem n k ∷ is) js d (inr a) = inr (decl_both is js d a)
decl_both (RegItem n k ∷ is) js d (inl e) = inl e
decl_both (RegItem n k ∷ is) js d (inr a) = inr (decl_both is js d a)
decl_both (AssignItem n x ∷ is) js d a = decl_both is js d a
decl_both (AlwaysItem c ss ∷ is) js d a = decl_both is js d a

decl_behind : (is js : List ModuleItem) (d : Declaration) → Among d (item_declarations js) → Among d (item_declarations (is ++ js))
decl_behind [] js d a = a
decl_behind (WireItem n k ∷ is) js d a = inr (decl_behind is js d a)
decl_behind (RegItem n k ∷ is) js d a = inr (decl_behind is js d a)
decl_behind (AssignItem n x ∷ is) js d a = decl_behind is js d a
decl_behind (AlwaysItem c ss ∷ is) js d a = decl_behind is js d a

-- the last registers of a command, and of a word
last_command : (b a i n : ℕ) → Among (reg (en_at (suc (i + n))) 1) (item_declarations (I.command_regs b a i (suc n)))
    × Among (reg (we_at (suc (i + n))) 1) (item_declarations (I.command_regs b a i (suc n)))
    × Among (reg (addr_at (suc (i + n))) a) (item_declarations (I.command_regs b a i (suc n)))
    × Among (reg (wdata_at (suc (i + n))) b) (item_declarations (I.command_regs b a i (suc n)))
last_command b a i zero =
    let same : i ≡ i + 0 = omega arith in (
      inl (ap (λ (k : ℕ). reg (en_at (suc k)) 1) same),
      inr (inl (ap (λ (k : ℕ). reg (we_at (suc k)) 1) same)),
      inr (inr (inl (ap (λ (k : ℕ). reg (addr_at (suc k)) a) same))),
      inr (inr (inr (inl (ap (λ (k : ℕ). reg (wdata_at (suc k)) b) same)))),
    )
last_command b a i (suc n) =
    let same : suc i + n ≡ i + suc n = omega arith in
    let rest = last_command b a (suc i) n in
    let list : List Declaration = item_declarations (I.command_regs b a (suc i) (suc n)) in (
      subst (λ (k : ℕ). Among (reg (en_at (suc k)) 1) (item_declarations (I.command_regs b a i (suc (suc n))))) same (inr (inr (inr (inr rest.0)))),
      subst (λ (k : ℕ). Among (reg (we_at (suc k)) 1) (item_declarations (I.command_regs b a i (suc (suc n))))) same (inr (inr (inr (inr rest.1)))),
      subst (λ (k : ℕ). Among (reg (addr_at (suc k)) a) (item_declarations (I.command_regs b a i (suc (suc n))))) same (inr (inr (inr (inr rest.2)))),
      subst (λ (k : ℕ). Among (reg (wdata_at (suc k)) b) (item_declarations (I.command_regs b a i (suc (suc n))))) same (inr (inr (inr (inr rest.3)))),
    )

last_word : (q : List ℕ) (b i n : ℕ) → Among (reg (rdata_at q (suc (i + n))) b) (item_declarations (I.word_regs q b i (suc n)))
last_word q b i zero = let same : i ≡ i + 0 = omega arith in inl (ap (λ (k : ℕ). reg (rdata_at q (suc k)) b) same)
last_word q b i (suc n) =
    let same : suc i + n ≡ i + suc n = omega arith in
    subst (λ (k : ℕ). Among (reg (rdata_at q (suc k)) b) (item_declarations (I.word_regs q b i (suc (suc n))))) same (inr (last_word q b (suc i) n))

module _ (p : Pins) (b a : ℕ) where
  abbrev pub ds : List Declaration
  ds = declarations (I.ports p b a) (I.items p b a)

  abbrev ports_list : List Declaration
  ports_list = port_declarations (I.ports p b a)

  in_ports : (d : Declaration) → Among d ports_list → Among d ds
  in_ports d x = among_left d ports_list (item_declarations (I.items p b a)) x

  in_items : (d : Declaration) → Among d (item_declarations (I.items p b a)) → Among d ds
  in_items d x = among_right d ports_list (item_declarations (I.items p b a)) x

  of_port : (n : List ℕ) (w : ℕ) → Among (record { name = n; kind = N.Input; width = w }) ports_list → Source ds n
  of_port n w x = source_of ds (record { name = n; kind = N.Input; width = w }) (in_ports (record { name = n; kind = N.Input; width = w }) x) refl

  of_reg : (n : List ℕ) (w : ℕ) → Among (reg n w) (item_declarations (I.items p b a)) → Source ds n
  of_reg n w x = record { declaration = reg n w; among = in_items (reg n w) x; name = refl; unwired = refl }

  test_source : Source ds test
  test_source = of_port test 1 (inr (inl refl))

  sources : (n : ℕ) → p.before ≡ n → Sources ds n
  sources zero e = record {
    test_there = test_source;
    en = of_port (en_at 0) 1 (inr (inr (inl refl)));
    we = of_port (we_at 0) 1 (inr (inr (inr (inl refl))));
    addr = of_port (addr_at 0) a (inr (inr (inr (inr (inl refl)))));
    wdata = of_port (wdata_at 0) b (inr (inr (inr (inr (inr (inl refl))))));
  }
  sources (suc n) e =
      let same : 0 + n ≡ n = omega arith in
      let last = last_command b a 0 n in
      let whole = λ (d : Declaration) (x : Among d (item_declarations (I.command_regs b a 0 (suc n)))).
      decl_both (I.command_regs b a 0 p.before) (I.word_regs p.rdata b 0 p.after ++ (I.drives p a ++ I.ends p)) d
      (subst (λ (k : ℕ). Among d (item_declarations (I.command_regs b a 0 k))) (sym e) x) in
      record {
        test_there = test_source;
        en = of_reg (en_at (suc n)) 1 (whole (reg (en_at (suc n)) 1) (subst (λ (k : ℕ). Among (reg (en_at (suc k)) 1) (item_declarations (I.command_regs b a 0 (suc n)))) same last.0));
        we = of_reg (we_at (suc n)) 1 (whole (reg (we_at (suc n)) 1) (subst (λ (k : ℕ). Among (reg (we_at (suc k)) 1) (item_declarations (I.command_regs b a 0 (suc n)))) same last.1));
        addr = of_reg (addr_at (suc n)) a (whole (reg (addr_at (suc n)) a) (subst (λ (k : ℕ). Among (reg (addr_at (suc k)) a) (item_declarations (I.command_regs b a 0 (suc n)))) same last.2));
        wdata = of_reg (wdata_at (suc n)) b (whole (reg (wdata_at (suc n)) b) (subst (λ (k : ℕ). Among (reg (wdata_at (suc k)) b) (item_declarations (I.command_regs b a 0 (suc n)))) same last.3));
      }

  pin_sources : PinSources ds p.inputs
  pin_sources =
      pins_in (map port_declaration (I.pin_ports p.inputs ++ I.word_ports p b)) ds
      (λ d x. in_ports d (inr (inr (inr (inr (inr (inr (inr (inr x))))))))) p.inputs (pins_there p.inputs (I.word_ports p b))

  pub word_among : Among (record { name = at_pin p.rdata; kind = N.Input; width = b }) ds
  word_among =
      in_ports (record { name = at_pin p.rdata; kind = N.Input; width = b }) (inr (inr (inr (inr (inr (inr (inr (inr
      (subst (λ (l : List Declaration). Among (record { name = at_pin p.rdata; kind = N.Input; width = b }) l) (sym (map_both (I.pin_ports p.inputs) (I.word_ports p b)))
      (among_right (record { name = at_pin p.rdata; kind = N.Input; width = b }) (map port_declaration (I.pin_ports p.inputs)) (map port_declaration (I.word_ports p b)) (inl refl)))))))))))

  word_input : Source ds (at_pin p.rdata)
  word_input = source_of ds (record { name = at_pin p.rdata; kind = N.Input; width = b }) word_among refl

  pub word_source : (n : ℕ) → p.after ≡ n → Source ds (rdata_at p.rdata n)
  word_source zero e = word_input
  word_source (suc n) e =
      let same : 0 + n ≡ n = omega arith in
      let d : Declaration = reg (rdata_at p.rdata (suc n)) b in
      let last : Among d (item_declarations (I.word_regs p.rdata b 0 (suc n))) =
      subst (λ (k : ℕ). Among (reg (rdata_at p.rdata (suc k)) b) (item_declarations (I.word_regs p.rdata b 0 (suc n)))) same (last_word p.rdata b 0 n) in
      of_reg (rdata_at p.rdata (suc n)) b
      (decl_behind (I.command_regs b a 0 p.before) (I.word_regs p.rdata b 0 p.after ++ (I.drives p a ++ I.ends p)) d
      (decl_both (I.word_regs p.rdata b 0 p.after) (I.drives p a ++ I.ends p) d
      (subst (λ (k : ℕ). Among d (item_declarations (I.word_regs p.rdata b 0 k))) (sym e) last)))

  reads_source : (n m : List ℕ) → Leads (I.items p b a) n m → Source ds m
  reads_source n m l =
      let behind = leads_words p.rdata b 0 p.after (I.drives p a ++ I.ends p) n m
      (leads_commands b a 0 p.before (I.word_regs p.rdata b 0 p.after ++ (I.drives p a ++ I.ends p)) n m l) in
      ⊎_elim (λ (u : (n ≡ codes "bist_reset") × (m ≡ test)). same_source ds m test u.1 test_source)
      (λ v. of_pins ds p.before (sources p.before refl) m (has_enable p.inputs) a p.inputs (I.ends p) pin_sources n at_end v) behind
    where
      at_end : Leads (I.ends p) n m → Source ds m
      at_end l =
          ⊎_elim (λ (u : (n ≡ p.rdata) × (m ≡ at_pin p.rdata)). same_source ds m (at_pin p.rdata) u.1 word_input)
          (λ v. ⊎_elim (λ (u : (n ≡ codes "bist_rdata") × (m ≡ rdata_at p.rdata p.after)). same_source ds m (rdata_at p.rdata p.after) u.1 (word_source p.after refl))
          (λ x. absurd (no_leads (I.all_sets p) n m x)) v) l

pub interface_settles : (name : List ℕ) (p : Pins) (b a : ℕ) → formed (I.interface name p b a) ≡ true → first_break (I.interface name p b a) ≡ None
    → (regs ins : Env) → Starts (I.interface name p b a) regs ins → OneSettles (I.interface name p b a) regs ins
interface_settles name p b a forms legal regs ins starts =
    let lawful = lawful_module (I.interface name p b a) forms legal in
    one_settles (I.interface name p b a) forms legal (rank (ds p b a))
    (λ n m l.
    let low = source_rank (ds p b a) lawful.fresh m (reads_source p b a n m l) in
    let high = wire_rank (λ k. declared_width (lookup (ds p b a) k)) (ds p b a) (I.items p b a) n m lawful.clean l in
    omega arith) regs ins starts
