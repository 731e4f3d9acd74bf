-- A joint cycle of a self-test and its interface: whatever the registers, the functional port and the word of the macro are, there is one.
use Rattle.std.proofs.Common.{◌≡◌, ◌^◌, ◌<◌, ℕ, zero, suc, Bool, true, false, cond, not, List, [], ◌∷◌, ◌++◌, inl, inr, Some, None, refl, sym, ap, subst, ◌∙◌, arith, codes}
use Rattle.std.specs.Str.{bytes_eq}
use Rattle.std.proofs.lemmas.Slice.Eq.{bytes_eq-Decides}
use Rattle.march_core.specs.March.{MarchElement}
use Rattle.memory_desc.specs.Descriptions.{Description}
use Rattle.verilog_tree.specs.declared.names.Kind.{Kind}
use Rattle.verilog_tree.specs.declared.names.Kind.TheVariants as N
use Rattle.verilog_tree.specs.Plain.{ModuleItem, WireItem, RegItem, AssignItem, AlwaysItem, ModulePort, ModuleTree}
use Rattle.verilog_tree.specs.Formed.{formed}
use Rattle.verilog_tree.specs.Names.{Declaration, port_declarations, item_declarations, declarations, lookup, is_clk, is_wire, width_of}
use Rattle.verilog_tree.specs.Meaning.{Env, bit, truth, Given, AllGiven}
use Rattle.verilog_tree.specs.Rules.{first_break}
use Rattle.verilog_tree.specs.Wires.{GivenWithin, AllWithin, Starts, OneSettles}
use Rattle.verilog_tree.proofs.Clean.{Each, found}
use Rattle.verilog_tree.proofs.Settling.{lawful_module}
use Rattle.verilog_open.proofs.Histories.{starts_at}
use Rattle.self_test.specs.Ports.{ports}
use Rattle.self_test.specs.SelfTest.{SelfTest}
use Rattle.macro_pins.specs.Pins.{Pins}
use Rattle.collar_rtl.specs.Interface.{test, en_at, we_at, addr_at, wdata_at, rdata_at, interface}
use Rattle.collar_rtl.specs.Collared.{given_word}
use Rattle.collar_rtl.proofs.Equations.{of_drives, of_ends}
use Rattle.collar_rtl.proofs.Settles.{Among, Source, word_source, interface_settles, ds}
use Rattle.collar_test.specs.CollarTest.{JointCycle, JointSettles}

-- ---- what is given

pub each_given : (regs ins : Env) (ds : List Declaration) → AllWithin regs ins ds → Each (λ d. GivenWithin regs ins d.kind d.name d.width) ds
each_given regs ins [] h = tt
each_given regs ins (d ∷ ds) h = (h.0, each_given regs ins ds h.1)

pub given_at : (regs ins e : Env) (ds : List Declaration) (d : Declaration) → AllGiven regs ins e ds → Among d ds → Given regs ins e d.kind d.name
given_at regs ins e [] d h a = absurd a
given_at regs ins e (x ∷ ds) d h (inl same) = subst (λ (y : Declaration). Given regs ins e y.kind y.name) same h.0
given_at regs ins e (x ∷ ds) d h (inr a) = given_at regs ins e ds d h.1 a

-- a source has the same value where the registers and the input are the same
same_given : (regs ins jns e f : Env) (k : Kind) (n : List ℕ) → is_wire k ≡ false → is_clk n ≡ false → ins n ≡ jns n → Given regs ins e k n → Given regs jns f k n → e n ≡ f n
same_given regs ins jns e f N.Input n wire clk same g h = g clk ∙ same ∙ sym (h clk)
same_given regs ins jns e f N.Wire n wire clk same g h = cc
same_given regs ins jns e f N.Register n wire clk same g h = g ∙ sym h

items_within : (regs i j : Env) (is : List ModuleItem) → AllWithin regs i (item_declarations is) → AllWithin regs j (item_declarations is)
items_within regs i j [] h = tt
items_within regs i j (WireItem n k ∷ is) h = (tt, items_within regs i j is h.1)
items_within regs i j (RegItem n k ∷ is) h = (h.0, items_within regs i j is h.1)
items_within regs i j (AssignItem n x ∷ is) h = items_within regs i j is h
items_within regs i j (AlwaysItem c ss ∷ is) h = items_within regs i j is h

behind : (regs ins : Env) (ds es : List Declaration) → AllWithin regs ins (ds ++ es) → AllWithin regs ins es
behind regs ins [] es h = h
behind regs ins (d ∷ ds) es h = behind regs ins ds es h.1

name_is : (n m : List ℕ) → bytes_eq n m ≡ true → n ≡ m
name_is n m h = (bytes_eq-Decides n m).0 h

module _ (mo : ModuleTree) (march : List MarchElement) (d : Description) (tests : SelfTest mo march d) (p : Pins) (name : List ℕ)
    (forms : formed (interface name p d.bits d.scramble.width) ≡ true) (legal : first_break (interface name p d.bits d.scramble.width) ≡ None)
    (own pins chip : Env) (own_fit : Starts mo own (λ n. 0)) (pins_fit : Starts (interface name p d.bits d.scramble.width) pins chip) where
  abbrev col : ModuleTree
  col = interface name p d.bits d.scramble.width

  abbrev all : List Declaration
  all = ds p d.bits d.scramble.width

  -- the interface with any command
  first : OneSettles (interface name p d.bits d.scramble.width) pins chip
  first = interface_settles name p d.bits d.scramble.width forms legal pins chip pins_fit

  abbrev test_inputs : Env
  test_inputs n = cond (bytes_eq n (codes "reset")) (first.env (codes "bist_reset")) (cond (bytes_eq n (codes "rdata")) (first.env (codes "bist_rdata")) 0)

  test_fit : Starts mo own test_inputs
  test_fit =
      let items = items_within own (λ n. 0) test_inputs mo.items (behind own (λ n. 0) (port_declarations mo.ports) (item_declarations mo.items) own_fit) in
      let none : 0 < 2 ^ 1 = omega arith in
      subst (λ (ps : List ModulePort). AllWithin own test_inputs (port_declarations ps ++ item_declarations mo.items)) (sym tests.ports)
      (λ _. none, (λ _. first.settles.within (codes "bist_reset"), (λ _. first.settles.within (codes "bist_rdata"), (tt, (tt, (tt, (tt, (tt, (tt, items)))))))))

  second : OneSettles mo own test_inputs
  second = tests.settles own test_inputs test_fit

  abbrev pin_inputs : Env
  pin_inputs n =
      cond (bytes_eq n (en_at 0)) (second.env (codes "en"))
      (cond (bytes_eq n (we_at 0)) (second.env (codes "we"))
      (cond (bytes_eq n (addr_at 0)) (second.env (codes "addr")) (cond (bytes_eq n (wdata_at 0)) (second.env (codes "wdata")) (chip n))))

  -- an output of the self-test is within its width
  out_fits : (n : List ℕ) (k : ℕ) → cond (is_clk n) 0 (width_of (declarations (ports d) mo.items) n) ≡ k → second.env n < 2 ^ k
  out_fits n k wide =
      subst (λ (j : ℕ). second.env n < 2 ^ j) (ap (λ (ps : List ModulePort). cond (is_clk n) 0 (width_of (declarations ps mo.items) n)) tests.ports ∙ wide) (second.settles.within n)

  -- an input of the interface that is a command's
  commanded : (x : Declaration) (n : List ℕ) (v : ℕ) (y : Declaration) → lookup all x.name ≡ Some x → lookup all n ≡ Some y → v < 2 ^ y.width → x.name ≡ n → v < 2 ^ x.width
  commanded x n v y q r low same =
      let one : x ≡ y = let z : Some x ≡ Some y = sym q ∙ ap (lookup all) same ∙ r in cc in
      subst (λ (u : Declaration). v < 2 ^ u.width) (sym one) low

  pins_start : Starts (interface name p d.bits d.scramble.width) pins pin_inputs
  pins_start = starts_at pins pin_inputs all [] all (lawful_module col forms legal).fresh refl (λ x q. by x q x.kind refl)
    where
      old : (x : Declaration) → lookup all x.name ≡ Some x → GivenWithin pins chip x.kind x.name x.width
      old x q = (found (λ y. GivenWithin pins chip y.kind y.name y.width) all x.name x (each_given pins chip all pins_fit) q).0

      input : (x : Declaration) → lookup all x.name ≡ Some x → (chip x.name < 2 ^ x.width) → (a b c e : Bool)
          → bytes_eq x.name (en_at 0) ≡ a → bytes_eq x.name (we_at 0) ≡ b → bytes_eq x.name (addr_at 0) ≡ c → bytes_eq x.name (wdata_at 0) ≡ e
          → cond a (second.env (codes "en")) (cond b (second.env (codes "we")) (cond c (second.env (codes "addr")) (cond e (second.env (codes "wdata")) (chip x.name)))) < 2 ^ x.width
      input x q low true b c e i j k l = commanded x (en_at 0) (second.env (codes "en")) _ q refl (out_fits (codes "en") 1 refl) (name_is x.name (en_at 0) i)
      input x q low false true c e i j k l = commanded x (we_at 0) (second.env (codes "we")) _ q refl (out_fits (codes "we") 1 refl) (name_is x.name (we_at 0) j)
      input x q low false false true e i j k l =
          commanded x (addr_at 0) (second.env (codes "addr")) _ q refl (out_fits (codes "addr") d.scramble.width refl) (name_is x.name (addr_at 0) k)
      input x q low false false false true i j k l =
          commanded x (wdata_at 0) (second.env (codes "wdata")) _ q refl (out_fits (codes "wdata") d.bits refl) (name_is x.name (wdata_at 0) l)
      input x q low false false false false i j k l = low

      by : (x : Declaration) → lookup all x.name ≡ Some x → (k : Kind) → x.kind ≡ k → GivenWithin pins pin_inputs k x.name x.width
      by x q N.Input i =
          λ clk.
          let before : GivenWithin pins chip N.Input x.name x.width = subst (λ (k : Kind). GivenWithin pins chip k x.name x.width) i (old x q) in
          input x q (before clk) (bytes_eq x.name (en_at 0)) (bytes_eq x.name (we_at 0)) (bytes_eq x.name (addr_at 0)) (bytes_eq x.name (wdata_at 0)) refl refl refl refl
      by x q N.Wire i = tt
      by x q N.Register i = subst (λ (k : Kind). GivenWithin pins chip k x.name x.width) i (old x q)

  third : OneSettles (interface name p d.bits d.scramble.width) pins pin_inputs
  third = interface_settles name p d.bits d.scramble.width forms legal pins pin_inputs pins_start

  -- reset and word don't hang on the command
  reset_same : first.env (codes "bist_reset") ≡ third.env (codes "bist_reset")
  reset_same =
      let one = of_drives p d.bits d.scramble.width name pins chip first.env first.settles in
      let two = of_drives p d.bits d.scramble.width name pins pin_inputs third.env third.settles in
      let tests_same : first.env test ≡ third.env test = first.settles.given.1.0 refl ∙ sym (third.settles.given.1.0 refl) in
      one.0 ∙ ap (λ (v : ℕ). bit (not (truth v))) tests_same ∙ sym two.0

  word_at : (n : ℕ) → Source all (rdata_at p.rdata n) → first.env (rdata_at p.rdata n) ≡ third.env (rdata_at p.rdata n)
  word_at n s =
      subst (λ (m : List ℕ). first.env m ≡ third.env m) s.name
      (same_given pins chip pin_inputs first.env third.env s.declaration.kind s.declaration.name s.unwired
      (subst (λ (m : List ℕ). is_clk m ≡ false) (sym s.name) (no_clock n)) (subst (λ (m : List ℕ). chip m ≡ pin_inputs m) (sym s.name) (no_command n))
      (given_at pins chip first.env all s.declaration first.settles.given s.among) (given_at pins pin_inputs third.env all s.declaration third.settles.given s.among))
    where
      no_clock : (n : ℕ) → is_clk (rdata_at p.rdata n) ≡ false
      no_clock zero = refl
      no_clock (suc n) = refl

      no_command : (n : ℕ) → chip (rdata_at p.rdata n) ≡ pin_inputs (rdata_at p.rdata n)
      no_command zero = refl
      no_command (suc n) = refl

  word_same : given_word first.env ≡ given_word third.env
  word_same =
      let one = of_ends p d.bits d.scramble.width name pins chip first.env first.settles in
      let two = of_ends p d.bits d.scramble.width name pins pin_inputs third.env third.settles in
      one.1.0 ∙ word_at p.after (word_source p d.bits d.scramble.width p.after refl) ∙ sym two.1.0

  pub joint : JointCycle mo col own pins chip
  joint = record {
    cycle = record { own = second.env; pins = third.env };
    test_inputs = test_inputs;
    pin_inputs = pin_inputs;
    own_settles = second.settles;
    pins_settle = third.settles;
    linked = record { reset = reset_same; rdata = word_same; en = refl; we = refl; addr = refl; wdata = refl };
    as_driven = λ n i j k l.
        ap (λ (t : Bool). cond t (second.env (codes "en"))
        (cond (bytes_eq n (we_at 0)) (second.env (codes "we"))
        (cond (bytes_eq n (addr_at 0)) (second.env (codes "addr")) (cond (bytes_eq n (wdata_at 0)) (second.env (codes "wdata")) (chip n))))) i
        ∙ ap (λ (t : Bool). cond t (second.env (codes "we")) (cond (bytes_eq n (addr_at 0)) (second.env (codes "addr")) (cond (bytes_eq n (wdata_at 0)) (second.env (codes "wdata")) (chip n)))) j
        ∙ ap (λ (t : Bool). cond t (second.env (codes "addr")) (cond (bytes_eq n (wdata_at 0)) (second.env (codes "wdata")) (chip n))) k
        ∙ ap (λ (t : Bool). cond t (second.env (codes "wdata")) (chip n)) l;
  }

pub joint_settles : JointSettles
joint_settles mo march d p name own pins chip tests forms legal own_fit pins_fit = joint mo march d tests p name forms legal own pins chip own_fit pins_fit
