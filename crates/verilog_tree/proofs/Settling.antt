-- Exactly one environment settles where a rank falls along the wires.
use Rattle.std.proofs.Common.{◌≡◌, ℕ, zero, suc, ◌+◌, ◌-◌, ◌*◌, ◌/◌, ◌%◌, ◌^◌, ◌<◌, Bool, true, false, cond, ◌&&◌, List, [], ◌∷◌, ◌++◌, Option, Some, None, refl, sym, ap, ◌∙◌, subst, arith, inl, inr, ◌⊎◌, ◌||◌, append_assoc, append-nil}
use Rattle.std.proofs.lemmas.Nat.{pow_pos}
use Rattle.std.proofs.lemmas.Slice.Eq.{bytes_eq-Decides}
use Rattle.std.proofs.lemmas.Bool.{and_parts}
use Rattle.std.specs.Str.{bytes_eq}
use Rattle.verilog_tree.specs.declared.names.Kind.{Kind}
use Rattle.verilog_tree.specs.declared.names.Kind.TheVariants as K
use Rattle.verilog_tree.specs.Plain.{Expression, Net, BitSelect, PartSelect, Literal, Concatenation, Prefixed, Infixed, Conditional, Expressions, NoMore, Followed, ModuleItem, AssignItem, ModulePort, ModuleTree}
use Rattle.verilog_tree.specs.Names.{Declaration, port_declarations, item_declarations, declarations, lookup, declared_width, is_wire, is_input, is_clk}
use Rattle.verilog_tree.specs.Formed.{formed, has_port, ports_formed, items_formed}
use Rattle.verilog_tree.specs.Meaning.{Env, truth, prefixed, infixed, width, widths, value, joined, Given, AllGiven, Equations, names_widths}
use Rattle.verilog_tree.specs.Rules.{is_assigned, first_break, port_twice, port_clock, items_break, undriven}
use Rattle.verilog_tree.specs.Wires.{Uses, UsesAny, Leads, Falls, GivenWithin, AllWithin, Starts, OneSettles}
use Rattle.verilog_tree.proofs.Breaks.{five}
use Rattle.verilog_tree.proofs.Bounds.{value_fits}
use Rattle.verilog_tree.proofs.Clean.{Each, each_append, found, same_bytes, Fresh, fresh_append, fresh_found, ports_fresh, items_fresh, ClockIsInput, ports_clock, items_clock, IsDriven, all_driven, driver, driver_of, CleanAssign, CleanItems, clean_items, Once, items_once}

-- a value rests on the names that it uses
mutual
  pub same_value : (w : List ℕ → ℕ) (e f : Env) (x : Expression) → ((m : List ℕ) → Uses m x → e m ≡ f m) → value w e x ≡ value w f x
  same_value w e f (Net n) h = h n refl
  same_value w e f (BitSelect n i) h = ap (λ v. v / 2 ^ i % 2) (h n refl)
  same_value w e f (PartSelect n i l) h = ap (λ v. v / 2 ^ l % 2 ^ (i + 1 - l)) (h n refl)
  same_value w e f (Literal b) h = refl
  same_value w e f (Concatenation xs) h = same_joined w e f xs h
  same_value w e f (Prefixed o x) h = ap (prefixed o (width w x)) (same_value w e f x h)
  same_value w e f (Infixed o x y) h =
      ap (λ v. infixed o (width w x) v (value w e y)) (same_value w e f x (λ m u. h m (inl u)))
      ∙ ap (infixed o (width w x) (value w f x)) (same_value w e f y (λ m u. h m (inr u)))
  same_value w e f (Conditional c x y) h =
      ap (λ v. cond (truth v) (value w e x) (value w e y)) (same_value w e f c (λ m u. h m (inl u)))
      ∙ ap (λ v. cond (truth (value w f c)) v (value w e y)) (same_value w e f x (λ m u. h m (inr (inl u))))
      ∙ ap (λ v. cond (truth (value w f c)) (value w f x) v) (same_value w e f y (λ m u. h m (inr (inr u))))

  pub same_joined : (w : List ℕ → ℕ) (e f : Env) (xs : Expressions) → ((m : List ℕ) → UsesAny m xs → e m ≡ f m) → joined w e xs ≡ joined w f xs
  same_joined w e f NoMore h = refl
  same_joined w e f (Followed x xs) h =
      ap (λ v. v * 2 ^ widths w xs + joined w e xs) (same_value w e f x (λ m u. h m (inl u)))
      ∙ ap (λ v. value w f x * 2 ^ widths w xs + v) (same_joined w e f xs (λ m u. h m (inr u)))

-- what holds of the expression that a name is assigned first
pub driven_by : (P : List ℕ → Expression → Type 0) (t : Bool) (n k : List ℕ) (x y : Expression) (o : Option Expression) → (t ≡ true → n ≡ k) → P k y → (o ≡ Some x → P n x) → cond t (Some y) o ≡ Some x → P n x
driven_by P true n k x y o same p later h =
    let a : n ≡ k = same refl in
    let b : y ≡ x = cc in
    subst (λ m. P m x) (sym a) (subst (λ z. P k z) b p)
driven_by P false n k x y o same p later h = later h

pub leads_of : (is : List ModuleItem) (n m : List ℕ) (x : Expression) → driver is n ≡ Some x → Uses m x → Leads is n m
leads_of [] n m x h u = cc
leads_of (AssignItem k y ∷ is) n m x h u =
    driven_by (λ j z. Uses m z → ((j ≡ k) × Uses m y) ⊎ Leads is j m) (bytes_eq n k) n k x y (driver is n) ((bytes_eq-Decides n k).0) (λ v. inl (refl, v)) (λ g v. inr (leads_of is n m x g v)) h u
leads_of (other ∷ is) n m x h u = leads_of is n m x h u

pub clean_of : (w : List ℕ → ℕ) (ds : List Declaration) (is : List ModuleItem) (n : List ℕ) (x : Expression) → CleanItems w ds is → driver is n ≡ Some x → CleanAssign w ds n x
clean_of w ds [] n x c h = cc
clean_of w ds (AssignItem k y ∷ is) n x c h = driven_by (CleanAssign w ds) (bytes_eq n k) n k x y (driver is n) ((bytes_eq-Decides n k).0) c.0 (clean_of w ds is n x c.1) h
clean_of w ds (other ∷ is) n x c h = clean_of w ds is n x c h

pub equation_of : (w : List ℕ → ℕ) (e : Env) (is : List ModuleItem) (n : List ℕ) (x : Expression) → Equations w e is → driver is n ≡ Some x → e n ≡ value w e x
equation_of w e [] n x q h = cc
equation_of w e (AssignItem k y ∷ is) n x q h = driven_by (λ j z. e j ≡ value w e z) (bytes_eq n k) n k x y (driver is n) ((bytes_eq-Decides n k).0) q.0 (equation_of w e is n x q.1) h
equation_of w e (other ∷ is) n x q h = equation_of w e is n x q h

-- the expression behind items that don't assign the name
not_driven : (t s : Bool) (x : Expression) (o p : Option Expression) → (t || s) ≡ false → (s ≡ false → o ≡ p) → cond t (Some x) o ≡ p
not_driven true s x o p h later = cc
not_driven false s x o p h later = later h

pub driver_behind : (b is : List ModuleItem) (n : List ℕ) → is_assigned b n ≡ false → driver (b ++ is) n ≡ driver is n
driver_behind [] is n h = refl
driver_behind (AssignItem k y ∷ b) is n h = not_driven (bytes_eq n k) (is_assigned b n) y (driver (b ++ is) n) (driver is n) h (driver_behind b is n)
driver_behind (other ∷ b) is n h = driver_behind b is n h

-- a name's value, by what gives it
abbrev pub by_kind : (List ℕ → ℕ) → Env → Env → Env → Kind → Option Expression → List ℕ → ℕ
by_kind w regs ins e K.Input o n = cond (is_clk n) 0 (ins n)
by_kind w regs ins e K.Wire None n = 0
by_kind w regs ins e K.Wire (Some x) n = value w e x
by_kind w regs ins e K.Register o n = regs n

abbrev pub by_source : (List ℕ → ℕ) → Env → Env → Env → Option Declaration → Option Expression → List ℕ → ℕ
by_source w regs ins e None o n = 0
by_source w regs ins e (Some d) o n = by_kind w regs ins e d.kind o n

pub each_given : (regs ins e : Env) (ds : List Declaration) → AllGiven regs ins e ds → Each (λ d. Given regs ins e d.kind d.name) ds
each_given regs ins e [] h = tt
each_given regs ins e (d ∷ ds) h = (h.0, each_given regs ins e ds h.1)

each_within : (regs ins : Env) (ds : List Declaration) → AllWithin regs ins ds → Each (λ d. GivenWithin regs ins d.kind d.name d.width) ds
each_within regs ins [] h = tt
each_within regs ins (d ∷ ds) h = (h.0, each_within regs ins ds h.1)

pub narrowed : (t : Bool) (a k : ℕ) → a < 2 ^ cond t 0 k → a < 2 ^ k
narrowed true a k h = let p = pow_pos k in omega arith
narrowed false a k h = h

pub no_bits : (t : Bool) (a : ℕ) → a < 2 ^ cond t 0 0 → a ≡ 0
no_bits true a h = omega arith
no_bits false a h = omega arith

module _ (w : List ℕ → ℕ) (ds : List Declaration) (is : List ModuleItem) (rank : List ℕ → ℕ) (falls : Falls rank is) (regs ins : Env) where
  abbrev pub Settled : Env → Type 0
  Settled e = (n : List ℕ) → e n ≡ by_source w regs ins e (lookup ds n) (driver is n) n

  same_kind : (e f : Env) (n : List ℕ) (k : Kind) (o : Option Expression) → driver is n ≡ o → ((m : List ℕ) → rank m < rank n → e m ≡ f m) → by_kind w regs ins e k o n ≡ by_kind w regs ins f k o n
  same_kind e f n K.Input o q h = refl
  same_kind e f n K.Wire None q h = refl
  same_kind e f n K.Wire (Some x) q h = same_value w e f x (λ m u. h m (falls n m (leads_of is n m x q u)))
  same_kind e f n K.Register o q h = refl

  same_source : (e f : Env) (n : List ℕ) (d : Option Declaration) → ((m : List ℕ) → rank m < rank n → e m ≡ f m) → by_source w regs ins e d (driver is n) n ≡ by_source w regs ins f d (driver is n) n
  same_source e f n None h = refl
  same_source e f n (Some d) h = same_kind e f n d.kind (driver is n) refl h

  pub agree : (e f : Env) → Settled e → Settled f → (k : ℕ) (n : List ℕ) → rank n < k → e n ≡ f n
  agree e f s t zero n lt = absurd (omega arith)
  agree e f s t (suc k) n lt = s n ∙ same_source e f n (lookup ds n) (λ m l. agree e f s t k m (omega arith)) ∙ sym (t n)

  abbrev pub computed : ℕ → Env
  computed zero n = 0
  computed (suc k) n = by_source w regs ins (computed k) (lookup ds n) (driver is n) n

  steady : (k l : ℕ) (n : List ℕ) → rank n < k → rank n < l → computed k n ≡ computed l n
  steady zero l n a b = absurd (omega arith)
  steady (suc k) zero n a b = absurd (omega arith)
  steady (suc k) (suc l) n a b = same_source (computed k) (computed l) n (lookup ds n) (λ m f. steady k l m (omega arith) (omega arith))

  -- each name computed by its rank
  abbrev pub found_env : Env
  found_env n = computed (suc (rank n)) n

  pub found_settled : Settled found_env
  found_settled n = same_source (computed (rank n)) found_env n (lookup ds n) (λ m f. steady (rank n) (suc (rank m)) m f (omega arith))

-- the value that a name is given is within its bits
given_fits : (w : List ℕ → ℕ) (regs ins e : Env) (d : Declaration) (n : List ℕ) (o : Option Expression) → n ≡ d.name → ClockIsInput d → GivenWithin regs ins d.kind d.name d.width → is_wire d.kind ≡ false → by_kind w regs ins e d.kind o n < 2 ^ cond (is_clk n) 0 d.width
given_fits w regs ins e d n o same clock within other = by_the_kind d.kind o clock within other
  where
    input_fits : (t : Bool) (a k : ℕ) → (t ≡ false → a < 2 ^ k) → cond t 0 a < 2 ^ cond t 0 k
    input_fits true a k h = omega arith
    input_fits false a k h = h refl

    register_fits : (t : Bool) (a k : ℕ) → (t ≡ true → false ≡ true) → a < 2 ^ k → a < 2 ^ cond t 0 k
    register_fits true a k c h = let z = c refl in cc
    register_fits false a k c h = h

    by_the_kind : (k : Kind) (o : Option Expression) → (is_clk d.name ≡ true → is_input k ≡ true) → GivenWithin regs ins k d.name d.width → is_wire k ≡ false → by_kind w regs ins e k o n < 2 ^ cond (is_clk n) 0 d.width
    by_the_kind K.Input o c h q = input_fits (is_clk n) (ins n) d.width (subst (λ m. is_clk m ≡ false → ins m < 2 ^ d.width) (sym same) h)
    by_the_kind K.Wire o c h q = cc
    by_the_kind K.Register o c h q = register_fits (is_clk n) (regs n) d.width (subst (λ m. is_clk m ≡ true → false ≡ true) (sym same) c) (subst (λ m. regs m < 2 ^ d.width) (sym same) h)

wire_value : (w : List ℕ → ℕ) (regs ins e : Env) (k : Kind) (x : Expression) (n : List ℕ) → is_wire k ≡ true → by_kind w regs ins e k (Some x) n ≡ value w e x
wire_value w regs ins e K.Input x n h = cc
wire_value w regs ins e K.Wire x n h = refl
wire_value w regs ins e K.Register x n h = cc

wire_bits : (k : Kind) (t : Bool) (a b : ℕ) → is_wire k ≡ true → (t ≡ true → is_input k ≡ true) → a < 2 ^ b → a < 2 ^ cond t 0 b
wire_bits K.Input true a b h c g = cc
wire_bits K.Wire true a b h c g = let z = c refl in cc
wire_bits K.Register true a b h c g = cc
wire_bits k false a b h c g = g

-- what the module's rules say of its names
pub record Lawful (ps : List ModulePort) (is : List ModuleItem) : Type 0 where
  pub fresh : Fresh [] (declarations ps is)
  pub clock : Each ClockIsInput (declarations ps is)
  pub driven : Each (IsDriven is) (declarations ps is)
  pub clean : CleanItems (λ n. declared_width (lookup (declarations ps is) n)) (declarations ps is) is
  pub once : Once [] is

module _ (ps : List ModulePort) (is : List ModuleItem) (lawful : Lawful ps is) (rank : List ℕ → ℕ) (falls : Falls rank is) (regs ins : Env) (starts : AllWithin regs ins (declarations ps is)) where
  abbrev ds : List Declaration
  ds = declarations ps is

  abbrev w : List ℕ → ℕ
  w n = declared_width (lookup ds n)

  -- the expression of a wire
  wire_driver : (n : List ℕ) (d : Declaration) → lookup ds n ≡ Some d → is_wire d.kind ≡ true → (x : Expression) × (driver is n ≡ Some x)
  wire_driver n d q k =
      let f = found (IsDriven is) ds n d lawful.driven q in
      driver_of is n (subst (λ m. is_assigned is m ≡ true) (sym f.1) (f.0 k))

  -- a settled environment is within the bits of its names
  within_below : (e : Env) → Settled w ds is rank falls regs ins e → (k : ℕ) (n : List ℕ) → rank n < k → e n < 2 ^ cond (is_clk n) 0 (w n)
  within_below e s zero n lt = absurd (omega arith)
  within_below e s (suc k) n lt = rw (s n) (by_lookup (lookup ds n) refl (λ m l. within_below e s k m (omega arith)))
    where
      zero_fits : (t : Bool) → 0 < 2 ^ cond t 0 0
      zero_fits t = pow_pos (cond t 0 0)

      by_wire : (d : Declaration) → lookup ds n ≡ Some d → ((m : List ℕ) → rank m < rank n → e m < 2 ^ cond (is_clk m) 0 (w m)) → (t : Bool) → is_wire d.kind ≡ t → by_kind w regs ins e d.kind (driver is n) n < 2 ^ cond (is_clk n) 0 d.width
      by_wire d q below false k =
          let c = found ClockIsInput ds n d lawful.clock q in
          let g = found (λ d. GivenWithin regs ins d.kind d.name d.width) ds n d (each_within regs ins ds starts) q in
          given_fits w regs ins e d n (driver is n) c.1 c.0 g.0 k
      by_wire d q below true k =
          let c = found ClockIsInput ds n d lawful.clock q in
          let x = wire_driver n d q k in
          let a = clean_of w ds is n x.0 lawful.clean x.1 in
          let v : value w e x.0 < 2 ^ width w x.0 = value_fits w e x.0 (λ m u. narrowed (is_clk m) (e m) (w m) (below m (falls n m (leads_of is n m x.0 x.1 u)))) a.0 a.1 in
          let u : value w e x.0 < 2 ^ d.width = subst (λ j. value w e x.0 < 2 ^ j) (sym a.2 ∙ ap declared_width q) v in
          let b = wire_bits d.kind (is_clk n) (value w e x.0) d.width k (subst (λ m. is_clk m ≡ true → is_input d.kind ≡ true) (sym c.1) c.0) u in
          subst (λ j. j < 2 ^ cond (is_clk n) 0 d.width) (sym (ap (λ o. by_kind w regs ins e d.kind o n) x.1 ∙ wire_value w regs ins e d.kind x.0 n k)) b

      by_lookup : (o : Option Declaration) → lookup ds n ≡ o → ((m : List ℕ) → rank m < rank n → e m < 2 ^ cond (is_clk m) 0 (w m)) → by_source w regs ins e o (driver is n) n < 2 ^ cond (is_clk n) 0 (declared_width o)
      by_lookup None q below = zero_fits (is_clk n)
      by_lookup (Some d) q below = by_wire d q below (is_wire d.kind) refl

  given_one : (e : Env) (k : Kind) (o : Option Expression) (n : List ℕ) → e n ≡ by_kind w regs ins e k o n → Given regs ins e k n
  given_one e K.Input o n h = λ c. h ∙ ap (λ t. cond t 0 (ins n)) c
  given_one e K.Wire o n h = tt
  given_one e K.Register o n h = h

  all_given : (e : Env) → Settled w ds is rank falls regs ins e → (b cs : List Declaration) → Fresh b cs → b ++ cs ≡ ds → AllGiven regs ins e cs
  all_given e s b [] f q = tt
  all_given e s b (d ∷ cs) f q =
      let here : lookup ds d.name ≡ Some d = subst (λ l. lookup l d.name ≡ Some d) q (fresh_found b cs d f.0) in (
        given_one e d.kind (driver is d.name) d.name (s d.name ∙ ap (λ o. by_source w regs ins e o (driver is d.name) d.name) here),
        all_given e s (b ++ d ∷ []) cs f.1 (append_assoc b (d ∷ []) cs ∙ q),
      )

  all_equal : (e : Env) → Settled w ds is rank falls regs ins e → (b js : List ModuleItem) → Once b js → CleanItems w ds js → b ++ js ≡ is → Equations w e js
  all_equal e s b [] o c q = tt
  all_equal e s b (AssignItem n x ∷ js) o c q =
      let here : driver is n ≡ Some x = subst (λ l. driver l n ≡ Some x) q (driver_behind b (AssignItem n x ∷ js) n o.0 ∙ ap (λ t. cond t (Some x) (driver js n)) (same_bytes n)) in
      let d = c.0.3 in (
        s n ∙ ap (λ o. by_source w regs ins e o (driver is n) n) d.1 ∙ ap (λ o. by_kind w regs ins e d.0.kind o n) here ∙ wire_value w regs ins e d.0.kind x n d.2,
        all_equal e s (b ++ AssignItem n x ∷ []) js o.1 c.1 (append_assoc b (AssignItem n x ∷ []) js ∙ q),
      )
  all_equal e s b (other ∷ js) o c q = all_equal e s (b ++ other ∷ []) js o c (append_assoc b (other ∷ []) js ∙ q)

  -- what settles is settled by each name's source
  settled_of : (e : Env) → ((n : List ℕ) → e n < 2 ^ cond (is_clk n) 0 (w n)) → AllGiven regs ins e ds → Equations w e is → Settled w ds is rank falls regs ins e
  settled_of e within given equations n = by_lookup (lookup ds n) refl
    where
      by_the_input : (t : Bool) (a k i : ℕ) → a < 2 ^ cond t 0 k → (t ≡ false → a ≡ i) → a ≡ cond t 0 i
      by_the_input true a k i h g = omega arith
      by_the_input false a k i h g = g refl

      by_the_kind : (d : Declaration) → lookup ds n ≡ Some d → n ≡ d.name → (k : Kind) → d.kind ≡ k → Given regs ins e k n → (o : Option Expression) → driver is n ≡ o → e n ≡ by_kind w regs ins e k o n
      by_the_kind d q same K.Input i g o h = by_the_input (is_clk n) (e n) (w n) (ins n) (within n) g
      by_the_kind d q same K.Wire i g None h =
          let x = wire_driver n d q (ap is_wire i) in
          let z : Some x.0 ≡ None = sym x.1 ∙ h in cc
      by_the_kind d q same K.Wire i g (Some x) h = equation_of w e is n x equations h
      by_the_kind d q same K.Register i g o h = g

      by_lookup : (o : Option Declaration) → lookup ds n ≡ o → e n ≡ by_source w regs ins e o (driver is n) n
      by_lookup None q = no_bits (is_clk n) (e n) (subst (λ j. e n < 2 ^ cond (is_clk n) 0 j) (ap declared_width q) (within n))
      by_lookup (Some d) q =
          let g = found (λ d. Given regs ins e d.kind d.name) ds n d (each_given regs ins e ds given) q in
          by_the_kind d q g.1 d.kind refl (subst (λ m. Given regs ins e d.kind m) (sym g.1) g.0) (driver is n) refl

-- a module that is formed and breaks no rule
pub lawful_module : (mo : ModuleTree) → formed mo ≡ true → first_break mo ≡ None → Lawful mo.ports mo.items
lawful_module mo f h =
    let ports = port_declarations mo.ports in
    let items = item_declarations mo.items in
    let b = five (port_twice [] ports) (port_clock ports) (items_break (names_widths mo) mo.ports [] mo.items) (undriven mo.items ports) (undriven mo.items items) h in
    record {
      fresh = fresh_append [] ports items (ports_fresh [] ports b.0) (subst (λ (l : List Declaration). Fresh l items) (append-nil ports) (items_fresh (names_widths mo) mo.ports [] mo.items b.2));
      clock = each_append ClockIsInput ports items (ports_clock ports b.1) (items_clock (names_widths mo) mo.ports [] mo.items b.2);
      driven = each_append (IsDriven mo.items) ports items (all_driven mo.items ports b.3) (all_driven mo.items items b.4);
      clean = clean_items (names_widths mo) mo.ports [] mo.items b.2 ((and_parts (has_port mo.ports && ports_formed mo.ports) (items_formed mo.items) f).1);
      once = items_once (names_widths mo) mo.ports [] mo.items b.2;
    }

pub one_settles : (mo : ModuleTree) → formed mo ≡ true → first_break mo ≡ None → (rank : List ℕ → ℕ) → Falls rank mo.items → (regs ins : Env) → Starts mo regs ins → OneSettles mo regs ins
one_settles mo f h rank falls regs ins starts =
    let lawful = lawful_module mo f h in
    let widths_of : List ℕ → ℕ = λ n. declared_width (lookup (declarations mo.ports mo.items) n) in
    let e = found_env widths_of (declarations mo.ports mo.items) mo.items rank falls regs ins in
    let s = found_settled widths_of (declarations mo.ports mo.items) mo.items rank falls regs ins in
    record {
      env = e;
      settles = record {
        within = λ n. within_below mo.ports mo.items lawful rank falls regs ins starts e s (suc (rank n)) n (omega arith);
        given = all_given mo.ports mo.items lawful rank falls regs ins starts e s [] (declarations mo.ports mo.items) lawful.fresh refl;
        equations = all_equal mo.ports mo.items lawful rank falls regs ins starts e s [] mo.items lawful.once lawful.clean refl;
      };
      only = λ f t n. agree widths_of (declarations mo.ports mo.items) mo.items rank falls regs ins f e
          (settled_of mo.ports mo.items lawful rank falls regs ins starts f t.within t.given t.equations) s (suc (rank n)) n (omega arith);
    }
