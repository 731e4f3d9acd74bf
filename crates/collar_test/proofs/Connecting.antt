-- What the links of a collar's top connect.
use Rattle.std.proofs.Common.{◌≡◌, Bool, true, false, not, ◌&&◌, ◌||◌, inl, inr, cond, ℕ, Some, List, [], ◌∷◌, ◌++◌, map, codes, refl, sym, ap, subst, ◌∙◌}
use Rattle.std.specs.Str.{bytes_eq}
use Rattle.std.proofs.lemmas.Slice.Eq.{bytes_eq-Decides}
use Rattle.march_core.specs.March.{MarchElement}
use Rattle.memory_desc.specs.Descriptions.{Description}
use Rattle.verilog_tree.specs.declared.names.Kind.TheVariants as N
use Rattle.verilog_tree.specs.declared.tree.Dir.TheVariants.{Input, Output}
use Rattle.verilog_tree.specs.Plain.{ModulePort, ModuleTree}
use Rattle.verilog_tree.specs.Meaning.{Env, Settles, next}
use Rattle.self_test.specs.Ports.{ports}
use Rattle.self_test.specs.SelfTest.{SelfTest}
use Rattle.chip_rtl.specs.ChipTree.{LinkTree}
use Rattle.chip_rtl.specs.Together.{net_of}
use Rattle.macro_pins.specs.declared.pins.PinKind.{PinKind}
use Rattle.macro_pins.specs.declared.pins.PinKind.TheVariants as K
use Rattle.word_device.specs.Memories.{Behaviour, words_with}
use Rattle.word_device.specs.Answers.{IsWhole}
use Rattle.word_coupling.specs.Memories.{read_by}
use Rattle.word_faults.specs.Linked.{linked as linked_words_of}
use Rattle.word_faults.specs.Decoders.{decoded}
use Rattle.word_faults.specs.Dynamic.{dynamic}
use Rattle.macro_pins.specs.Pins.{PinTree, Pins, has_enable}
use Rattle.macro_pins.specs.Asked.{Asked, PinAsks, AllAsk}
use Rattle.macro_pins.specs.Macros.{Values, Stands}
use Rattle.collar_rtl.specs.Interface.{at_pin, port, functional_port, pin_ports, word_ports, interface}
use Rattle.collar_rtl.proofs.Settles.{word_among, ds}
use Rattle.collar_top.specs.Links.{is_linked, once, all_once}
use Rattle.collar_top.specs.CollarTops.{Placing, same, to_interface, to_clock, functional_link, self_test_links, pin_links, interface_links, macro_links, placed_three, interface_name}
use Rattle.collar_test.specs.CollarTest.{Among, is_tied, Cycle, HasSize, HasHeldSize}
use Rattle.collar_test.proofs.Listed.{on_left, on_right, mapped, input_among, behind_eight}
use Rattle.collar_test.specs.Tops.{pin_port, ArePlaced, Connects, TopConnects, RunsInTop, TopShows}
use Rattle.collar_test.proofs.Joint.{given_at}

-- ---- links

both : (a b : Bool) → (a && b) ≡ true → (a ≡ true) × (b ≡ true)
both true true h = (refl, refl)
both true false h = cc
both false b h = cc

same_bytes : (n : List ℕ) → bytes_eq n n ≡ true
same_bytes n = (bytes_eq-Decides n n).1 refl

is_there : (l : LinkTree) (ls : List LinkTree) → Among l ls → is_linked l.port ls ≡ true
is_there l [] h = absurd h
is_there l (k ∷ ls) (inl e) = ap (λ (x : LinkTree). bytes_eq l.port x.port || is_linked l.port ls) e ∙ ap (λ (t : Bool). t || is_linked l.port ls) (same_bytes l.port)
is_there l (k ∷ ls) (inr h) = go (bytes_eq l.port k.port) (is_there l ls h)
  where
    go : (t : Bool) → is_linked l.port ls ≡ true → (t || is_linked l.port ls) ≡ true
    go true e = refl
    go false e = e

net_is : (l : LinkTree) (ls : List LinkTree) → Among l ls → once ls ≡ true → net_of ls l.port ≡ l.net
net_is l [] h o = absurd h
net_is l (k ∷ ls) (inl e) o = ap (λ (x : LinkTree). cond (bytes_eq l.port x.port) x.net (net_of ls l.port)) e ∙ ap (λ (t : Bool). cond t l.net (net_of ls l.port)) (same_bytes l.port)
net_is l (k ∷ ls) (inr h) o =
    let parts = both (not (is_linked k.port ls)) (once ls) o in
    go (bytes_eq l.port k.port) refl parts.0 (net_is l ls h parts.1)
  where
    go : (t : Bool) → bytes_eq l.port k.port ≡ t → not (is_linked k.port ls) ≡ true → net_of ls l.port ≡ l.net → cond t k.net (net_of ls l.port) ≡ l.net
    go true e new rest =
        let one : l.port ≡ k.port = (bytes_eq-Decides l.port k.port).0 e in
        let twice : is_linked k.port ls ≡ true = subst (λ (n : List ℕ). is_linked n ls ≡ true) one (is_there l ls h) in
        let z : not true ≡ true = ap not (sym twice) ∙ new in cc
    go false e new rest = rest

-- ---- what is among the links and the ports

module _ (q : PinTree) where
  output_among : (ps : List PinTree) → Among q ps → Among (port Output (at_pin q.name) q.width) (pin_ports ps)
  output_among [] h = absurd h
  output_among (p ∷ ps) (inl e) =
      on_right (port Output (at_pin q.name) q.width) (functional_port p.kind p) (port Output (at_pin p.name) p.width ∷ pin_ports ps)
      (inl (ap (λ (x : PinTree). port Output (at_pin x.name) x.width) e))
  output_among (p ∷ ps) (inr h) =
      on_right (port Output (at_pin q.name) q.width) (functional_port p.kind p) (port Output (at_pin p.name) p.width ∷ pin_ports ps) (inr (output_among ps h))

  own_link : (k : PinKind) → (is_tied k → ⊥) → Among (same q.name) (functional_link k q)
  own_link K.Tie untied = absurd (untied tt)
  own_link K.Enable untied = inl refl
  own_link K.Write untied = inl refl
  own_link K.ReadAlone untied = inl refl
  own_link K.WriteAlone untied = inl refl
  own_link K.Address untied = inl refl
  own_link K.Data untied = inl refl
  own_link K.Mask untied = inl refl
  own_link K.Pass untied = inl refl
  own_link K.Fixed untied = inl refl

  link_among : (ps : List PinTree) → (is_tied q.kind → ⊥) → Among q ps → Among (same q.name) (pin_links ps)
  link_among [] untied h = absurd h
  link_among (p ∷ ps) untied (inl e) =
      on_left (same q.name) (functional_link p.kind p) (same (at_pin p.name) ∷ pin_links ps)
      (subst (λ (x : PinTree). Among (same q.name) (functional_link x.kind x)) (sym e) (own_link q.kind untied))
  link_among (p ∷ ps) untied (inr h) = on_right (same q.name) (functional_link p.kind p) (same (at_pin p.name) ∷ pin_links ps) (inr (link_among ps untied h))

  at_among : (ps : List PinTree) → Among q ps → Among (same (at_pin q.name)) (pin_links ps)
  at_among [] h = absurd h
  at_among (p ∷ ps) (inl e) =
      on_right (same (at_pin q.name)) (functional_link p.kind p) (same (at_pin p.name) ∷ pin_links ps) (inl (ap (λ (x : PinTree). same (at_pin x.name)) e))
  at_among (p ∷ ps) (inr h) = on_right (same (at_pin q.name)) (functional_link p.kind p) (same (at_pin p.name) ∷ pin_links ps) (inr (at_among ps h))

module _ (mo : ModuleTree) (march : List MarchElement) (d : Description) (w : Placing) (tests : SelfTest mo march d) (linked : all_once (placed_three w d) ≡ true) where
  abbrev p : Pins
  p = w.pins

  abbrev col : ModuleTree
  col = interface (interface_name d.name) w.pins d.bits d.scramble.width

  interface_once : once (interface_links w.pins) ≡ true
  interface_once = (both (once (interface_links w.pins)) (once self_test_links && (once (macro_links w) && true)) linked).0

  macro_once : once (macro_links w) ≡ true
  macro_once =
      let later = both (once (interface_links w.pins)) (once self_test_links && (once (macro_links w) && true)) linked in
      let last = both (once self_test_links) (once (macro_links w) && true) later.1 in
      (both (once (macro_links w)) true last.1).0

  -- the net of a link of the interface
  interface_net : (n : List ℕ) → Among (same n) (pin_links w.pins.inputs ++ same (at_pin w.pins.rdata) ∷ same w.pins.rdata ∷ []) → net_of (interface_links w.pins) n ≡ n
  interface_net n h = net_is (same n) (interface_links w.pins) (behind_eight (same n) _ _ _ _ _ _ _ _ (pin_links w.pins.inputs ++ same (at_pin w.pins.rdata) ∷ same w.pins.rdata ∷ []) h) interface_once

  interface_port : (x : ModulePort) → Among x (pin_ports w.pins.inputs ++ word_ports w.pins d.bits) → Among x col.ports
  interface_port x h = behind_eight x _ _ _ _ _ _ _ _ (pin_ports w.pins.inputs ++ word_ports w.pins d.bits) h

  abbrev pin_and_word : List LinkTree
  pin_and_word = map (λ q. to_interface q.name) w.pins.inputs

  macro_net : (l : LinkTree) → Among l (macro_links w) → net_of (macro_links w) l.port ≡ l.net
  macro_net l h = net_is l (macro_links w) h macro_once

  clocks_among : (n : List ℕ) → Among n w.clocks → Among (to_clock n) (macro_links w)
  clocks_among n h =
      inr (on_right (to_clock n) pin_and_word _ (inr (on_right (to_clock n) (map (λ o. same o.name) w.outputs) (map to_clock w.clocks) (mapped to_clock n w.clocks h))))

  macro_clocks : (n : List ℕ) → Among n (w.pins.clk ∷ w.clocks) → net_of (macro_links w) n ≡ codes "clk"
  macro_clocks n (inl e) = subst (λ (m : List ℕ). net_of (macro_links w) m ≡ codes "clk") e (macro_net (to_clock w.pins.clk) (inl refl))
  macro_clocks n (inr h) = macro_net (to_clock n) (clocks_among n h)

  own_clock : (links : List LinkTree) → net_of links (codes "clk") ≡ codes "clk" → (n : List ℕ) → Among n (codes "clk" ∷ []) → net_of links n ≡ codes "clk"
  own_clock links is n (inl e) = subst (λ (m : List ℕ). net_of links m ≡ codes "clk") e is
  own_clock links is n (inr h) = absurd h

  module _ (nets own pins test_inputs pin_inputs macro : Env) (c : Cycle) (s : Settles mo own test_inputs c.own) (t : Settles col pins pin_inputs c.pins)
      (placed : ArePlaced (placed_three w d) w d mo col nets c test_inputs pin_inputs macro) where
    -- the ports of the self-test
    own_ports : (q : ModulePort) → Among q (ports d) → Among q mo.ports
    own_ports q h = subst (λ (ps : List ModulePort). Among q ps) (sym tests.ports) h

    pin_is : (q : PinTree) → Among q w.pins.inputs → macro q.name ≡ c.pins (at_pin q.name)
    pin_is q h =
        let link_is : net_of (macro_links w) q.name ≡ at_pin q.name =
        macro_net (to_interface q.name) (inr (on_left (to_interface q.name) pin_and_word _ (mapped (λ (x : PinTree). to_interface x.name) q w.pins.inputs h))) in
        let net : net_of (interface_links w.pins) (at_pin q.name) ≡ at_pin q.name =
        interface_net (at_pin q.name) (on_left (same (at_pin q.name)) (pin_links w.pins.inputs) _ (at_among q w.pins.inputs h)) in
        placed.2.given (pin_port q) (inr (on_left (pin_port q) (map pin_port w.pins.inputs) _ (mapped pin_port q w.pins.inputs h))) refl
        ∙ ap nets (link_is ∙ sym net)
        ∙ placed.0.drives (port Output (at_pin q.name) q.width) (interface_port _ (on_left _ (pin_ports w.pins.inputs) (word_ports w.pins d.bits) (output_among q w.pins.inputs h))) refl

    word_is : macro w.pins.rdata ≡ c.pins (at_pin w.pins.rdata)
    word_is =
        let link_is : net_of (macro_links w) w.pins.rdata ≡ at_pin w.pins.rdata =
        macro_net (to_interface w.pins.rdata) (inr (on_right (to_interface w.pins.rdata) pin_and_word _ (inl refl))) in
        let net : net_of (interface_links w.pins) (at_pin w.pins.rdata) ≡ at_pin w.pins.rdata =
        interface_net (at_pin w.pins.rdata) (on_right (same (at_pin w.pins.rdata)) (pin_links w.pins.inputs) _ (inl refl)) in
        let given = given_at pins pin_inputs c.pins (ds w.pins d.bits d.scramble.width) (record { name = at_pin w.pins.rdata; kind = N.Input; width = d.bits }) t.given
        (word_among w.pins d.bits d.scramble.width) in
        sym (placed.2.drives (port Output w.pins.rdata d.bits) (inr (on_right (port Output w.pins.rdata d.bits) (map pin_port w.pins.inputs) _ (inl refl))) refl)
        ∙ ap nets (link_is ∙ sym net)
        ∙ sym (placed.0.given (port Input (at_pin w.pins.rdata) d.bits) (interface_port _ (on_right _ (pin_ports w.pins.inputs) (word_ports w.pins d.bits) (inl refl))) refl)
        ∙ sym (given refl)

    driven_is : (q : PinTree) → Among q w.pins.inputs → (is_tied q.kind → ⊥) → pin_inputs q.name ≡ nets q.name
    driven_is q h untied =
        placed.0.given (port Input q.name q.width) (interface_port _ (on_left _ (pin_ports w.pins.inputs) (word_ports w.pins d.bits) (input_among q w.pins.inputs untied h))) refl
        ∙ ap nets (interface_net q.name (on_left (same q.name) (pin_links w.pins.inputs) _ (link_among q w.pins.inputs untied h)))

    read_is : nets w.pins.rdata ≡ c.pins w.pins.rdata
    read_is =
        ap nets (sym (interface_net w.pins.rdata (on_right (same w.pins.rdata) (pin_links w.pins.inputs) _ (inr (inl refl)))))
        ∙ placed.0.drives (port Output w.pins.rdata d.bits) (interface_port _ (on_right _ (pin_ports w.pins.inputs) (word_ports w.pins d.bits) (inr (inl refl)))) refl

    pub connects : Connects w nets c test_inputs pin_inputs macro
    connects = record {
      linked = record {
        reset = placed.1.given (port Input (codes "reset") 1) (own_ports _ (inr (inl refl))) refl ∙ placed.0.drives (port Output (codes "bist_reset") 1) (inr (inr (inr (inr (inr (inr (inr (inl refl)))))))) refl;
        rdata = placed.1.given (port Input (codes "rdata") d.bits) (own_ports _ (inr (inr (inl refl)))) refl ∙ placed.0.drives (port Output (codes "bist_rdata") d.bits) (inr (inr (inr (inr (inr (inr (inl refl))))))) refl;
        en = placed.0.given (port Input (codes "bist_en") 1) (inr (inr (inl refl))) refl ∙ placed.1.drives (port Output (codes "en") 1) (own_ports _ (inr (inr (inr (inl refl))))) refl;
        we = placed.0.given (port Input (codes "bist_we") 1) (inr (inr (inr (inl refl)))) refl ∙ placed.1.drives (port Output (codes "we") 1) (own_ports _ (inr (inr (inr (inr (inl refl)))))) refl;
        addr = placed.0.given (port Input (codes "bist_addr") d.scramble.width) (inr (inr (inr (inr (inl refl))))) refl
            ∙ placed.1.drives (port Output (codes "addr") d.scramble.width) (own_ports _ (inr (inr (inr (inr (inr (inl refl))))))) refl;
        wdata = placed.0.given (port Input (codes "bist_wdata") d.bits) (inr (inr (inr (inr (inr (inl refl)))))) refl
            ∙ placed.1.drives (port Output (codes "wdata") d.bits) (own_ports _ (inr (inr (inr (inr (inr (inr (inl refl)))))))) refl;
      };
      pins = pin_is;
      word = word_is;
      driven = driven_is;
      tested = t.given.1.0 refl ∙ placed.0.given (port Input (codes "test") 1) (inr (inl refl)) refl;
      read = read_is;
      done = placed.1.drives (port Output (codes "done") 1) (own_ports _ (inr (inr (inr (inr (inr (inr (inr (inl refl))))))))) refl;
      fail = placed.1.drives (port Output (codes "fail") 1) (own_ports _ (inr (inr (inr (inr (inr (inr (inr (inr (inl refl)))))))))) refl;
    }

pub top_connects : TopConnects
top_connects mo march d w tests linked = (
  (
    record { clocked = own_clock mo march d w tests linked (interface_links w.pins) refl },
    record { clocked = own_clock mo march d w tests linked self_test_links refl },
    record { clocked = macro_clocks mo march d w tests linked },
  ),
  λ nets own pins test_inputs pin_inputs macro c s t placed. connects mo march d w tests linked nets own pins test_inputs pin_inputs macro c s t placed,
)

-- ---- histories

ask_same : (enabled : Bool) (a : Asked) (e f : Values) (ps : List PinTree) → ((q : PinTree) → Among q ps → e q.name ≡ f q.name) → AllAsk enabled ps a f → AllAsk enabled ps a e
ask_same enabled a e f [] same asks = tt
ask_same enabled a e f (p ∷ ps) same asks =
    (subst (λ (v : ℕ). PinAsks enabled p.kind p a v) (sym (same p (inl refl))) asks.0, ask_same enabled a e f ps (λ q h. same q (inr h)) asks.1)

module _ {S : Type 0} (b : Behaviour S) (Good : S → Type 0) (mo : ModuleTree) (march : List MarchElement) (d : Description) (w : Placing) (tests : SelfTest mo march d)
    (linked : all_once (placed_three w d) ≡ true) where
  runs_in_top : RunsInTop b Good mo march d w
  runs_in_top own pins h [] run = tt
  runs_in_top own pins h (c ∷ cs) run =
      let joins = connects mo march d w tests linked c.nets own pins run.0 run.1 c.macro c.cycle run.3 run.4 run.5 in
      let macro = run.6 in (
        run.0,
        run.1,
        run.2,
        run.3,
        run.4,
        joins.linked,
        record {
          word = subst (λ (v : ℕ). Stands h.due v) joins.word macro.word;
          asked = λ a asks. macro.asked a (ask_same (has_enable w.pins.inputs) a c.macro (λ n. c.cycle.pins (at_pin n)) w.pins.inputs joins.pins asks);
          good = macro.good;
          as_many = macro.as_many;
        },
        runs_in_top (next mo c.cycle.own) (next (interface (interface_name d.name) w.pins d.bits d.scramble.width) c.cycle.pins) run.2 cs run.7,
      )

pub top_shows : TopShows
top_shows mo march d w tests linked = record {
  words = λ planted. runs_in_top (words_with planted) (IsWhole d planted) mo march d w tests linked;
  links = λ link at. runs_in_top (linked_words_of link at) (HasSize d) mo march d w tests linked;
  decoders = λ decoder read. runs_in_top (decoded decoder read) (HasSize d) mo march d w tests linked;
  dynamics = λ prim at. runs_in_top (dynamic prim at) (HasHeldSize d) mo march d w tests linked;
  in_words = λ reading i. runs_in_top (read_by reading i) (IsWhole d (Some i)) mo march d w tests linked;
}
