-- A chip beside the memory of one of its units has histories, as long as one likes.
use Rattle.bist_app.proofs.Common.{◌≡◌, ◌≢◌, ◌<◌, ◌≤◌, ◌∙◌, sym, subst, ap, refl, arith, ℕ, Bool, true, false, List, [], ◌∷◌, length, Option, Some, Description, TestUnit, shape_of}
use Rattle.std.specs.Prelude.{zero, suc, ◌+◌, ◌^◌, ◌%◌, ◌++◌, ◌&&◌, cond, map, slice_get, codes}
use Rattle.std.specs.Str.{bytes_eq}
use Rattle.std.proofs.Common.{⊎_elim}
use Rattle.std.proofs.Math.Nat.{one-le-pow, mod-lt}
use Rattle.std.proofs.lemmas.Bool.{and_parts, cases_eq}
use Rattle.std.proofs.lemmas.Option.{slice_get_within}
use Rattle.std.proofs.lemmas.Slice.Eq.{bytes_eq-Decides}
use Rattle.verilog_tree.specs.declared.tree.Dir.TheVariants.{Output}
use Rattle.verilog_tree.specs.Plain.{ModulePort, ModuleTree}
use Rattle.verilog_tree.specs.Formed.{formed}
use Rattle.verilog_tree.specs.Fits.{ports_fit, items_fit, fits}
use Rattle.verilog_tree.specs.Words.{is_name}
use Rattle.verilog_tree.specs.Names.{Declaration, declarations, port_declarations, item_declarations}
use Rattle.verilog_tree.specs.Meaning.{Env}
use Rattle.verilog_tree.specs.Wires.{AllWithin, Starts}
use Rattle.self_test.specs.Ports.{port}
use Rattle.self_test.specs.SelfTest.{reset_at}
use Rattle.word_device.specs.Joint.{command_on}
use Rattle.word_device.specs.Memories.{Behaviour, Memory, cycle_answer, memory_after}
use Rattle.word_device.specs.Answers.{memory_at}
use Rattle.bench.proofs.Beside.{memory_next, fits_next, items_within}
use Rattle.chip_rtl.specs.ChipTree.{PlacedTree, ChipTree}
use Rattle.chip_rtl.specs.ChipLaws.{AllTested, memories}
use Rattle.chip_rtl.specs.ChipTest.{ChipTest, unit_values, words_of}
use Rattle.chip_rtl.specs.Together.{IsChip, zeros, top_module, left_by, chip_next, ChipSettles, ChipStarts, ChipCycle, ChipHistory}
use Rattle.chip_rtl.specs.TopFits.{AllFit}
use Rattle.chip_rtl.specs.Tops.{rdata_of, unit_ports as top_unit_ports, top_ports}
use Rattle.chip_rtl.proofs.Composing.{unit_at, same_count}
use Rattle.chip_rtl.proofs.Naming.{numbered}
use Rattle.bist_app.specs.ChipBeside.{unit_ports, RunsFrom}

-- ---- the modules of a chip

forms_of : (ms : List ModuleTree) → AllFit ms → (j : ℕ) (mo : ModuleTree) → slice_get ms j ≡ Some mo → formed mo ≡ true
forms_of [] fit j mo e = cc
forms_of (m ∷ ms) fit zero mo e =
    let same : m ≡ mo = cc in
    let whole = subst (λ (x : ModuleTree). fits x ≡ true) same fit.0 in
    (and_parts (formed mo) (is_name mo.name)
    (and_parts (formed mo && is_name mo.name) (ports_fit mo.ports) (and_parts (formed mo && is_name mo.name && ports_fit mo.ports) (items_fit 64 mo.items) whole).0).0).0
forms_of (m ∷ ms) fit (suc j) mo e = forms_of ms fit.1 j mo e

placed_there : (ps : List PlacedTree) (ms : List ModuleTree) → map (λ p. p.unit) ps ≡ map (λ m. m.name) ms → (j : ℕ) (mo : ModuleTree) → slice_get ms j ≡ Some mo
    → (p : PlacedTree) × (slice_get ps j ≡ Some p)
placed_there ps [] same j mo e = cc
placed_there [] (m ∷ ms) same j mo e = cc
placed_there (p ∷ ps) (m ∷ ms) same zero mo e = (p, refl)
placed_there (p ∷ ps) (m ∷ ms) same (suc j) mo e = placed_there ps ms (rest same) j mo e
  where
    rest : p.unit ∷ map (λ p. p.unit) ps ≡ m.name ∷ map (λ m. m.name) ms → map (λ p. p.unit) ps ≡ map (λ m. m.name) ms
    rest q = cc

-- ---- the inputs of a cycle

-- the reset, and a word on `rdata` of a unit
abbrev reads : ℕ → ℕ → ℕ → Env → Env
reads i t word others name = cond (bytes_eq name (codes "reset")) (reset_at t) (cond (bytes_eq name (rdata_of i)) word (others name))

reset_low : (t : ℕ) → reset_at t < 2 ^ 1
reset_low zero = omega arith
reset_low (suc t) = omega arith

same_bytes : (a b : List ℕ) → a ≡ b → bytes_eq a b ≡ true
same_bytes a b e = (bytes_eq-Decides a b).1 e

other_bytes : (a b : List ℕ) → a ≢ b → bytes_eq a b ≡ false
other_bytes a b ne = go (bytes_eq a b) refl
  where
    go : (x : Bool) → bytes_eq a b ≡ x → bytes_eq a b ≡ false
    go true e = absurd (ne ((bytes_eq-Decides a b).0 e))
    go false e = e

module _ (i t word : ℕ) (others : Env) where
  resets : reads i t word others (codes "reset") ≡ reset_at t
  resets = refl

  words : reads i t word others (rdata_of i) ≡ word
  words = ap (λ b. cond b word (others (rdata_of i))) (same_bytes (rdata_of i) (rdata_of i) refl)

  elsewhere : (name : List ℕ) → name ≢ codes "reset" → name ≢ rdata_of i → reads i t word others name ≡ others name
  elsewhere name nr nw =
      ap (λ b. cond b (reset_at t) (cond (bytes_eq name (rdata_of i)) word (others name))) (other_bytes name (codes "reset") nr)
      ∙ ap (λ b. cond b word (others name)) (other_bytes name (rdata_of i) nw)

  word_within : (j bits : ℕ) → i < 1000 → j < 1000 → (j ≡ i → word < 2 ^ bits) → others (rdata_of j) < 2 ^ bits → reads i t word others (rdata_of j) < 2 ^ bits
  word_within j bits i_few j_few own other =
      ⊎_elim
      (λ (h : j ≡ i). either (bytes_eq (rdata_of j) (rdata_of i)) (own h))
      (λ (h : j ≢ i). subst (λ b. cond b word (others (rdata_of j)) < 2 ^ bits) (sym (numbered (codes "rdata_") j i j_few i_few h)) other)
      (cases_eq j i)
    where
      either : (b : Bool) → word < 2 ^ bits → cond b word (others (rdata_of j)) < 2 ^ bits
      either true low = low
      either false low = other

  units_within : (j : ℕ) (ds : List Description) (rest : List ModulePort) (more : List Declaration) → i < 1000 → j + length ds ≤ 1000
      → ((k : ℕ) (d : Description) → slice_get ds k ≡ Some d → j + k ≡ i → word < 2 ^ d.bits)
      → AllWithin zeros others (port_declarations (top_unit_ports j ds ++ rest) ++ more)
      → (AllWithin zeros others (port_declarations rest ++ more) → AllWithin zeros (reads i t word others) (port_declarations rest ++ more))
      → AllWithin zeros (reads i t word others) (port_declarations (top_unit_ports j ds ++ rest) ++ more)
  units_within j [] rest more few many own g on = on g
  units_within j (d ∷ ds) rest more few many own g on = (
    λ c. word_within j d.bits few (omega arith) (λ e. own 0 d refl (let here : j + 0 ≡ i = omega arith in here)) (g.0 c),
    (
      tt,
      (
        tt,
        (
          tt,
          (
            tt,
            units_within (suc j) ds rest more few (omega arith) (λ k x e q. own (suc k) x e (let here : j + suc k ≡ i = omega arith in here)) g.1.1.1.1.1 on,
          ),
        ),
      ),
    ),
  )

  top_within : (mo : ModuleTree) (ds : List Description) → mo.ports ≡ top_ports ds → i < 1000 → length ds ≤ 1000
      → ((d : Description) → slice_get ds i ≡ Some d → word < 2 ^ d.bits) → Starts mo zeros others → Starts mo zeros (reads i t word others)
  top_within mo ds ports few many own starts =
      let g : AllWithin zeros others (declarations (top_ports ds) mo.items) = subst (λ ps. AllWithin zeros others (declarations ps mo.items)) ports starts in
      let last : List ModulePort = port Output (codes "done") 1 ∷ port Output (codes "fail") (length ds) ∷ [] in
      subst (λ ps. AllWithin zeros (reads i t word others) (declarations ps mo.items)) (sym ports) (
        λ c. absurd (let no : ⊥ = cc in no),
        (
          λ c. reset_low t,
          units_within 0 ds last (item_declarations mo.items) few (omega arith) (λ k d e q. own d (let same : k ≡ i = omega arith in subst (λ n. slice_get ds n ≡ Some d) same e))
              g.1.1 (λ r. (tt, (tt, items_within zeros others (reads i t word others) mo.items r.1.1))),
        ),
      )

-- ---- cycle by cycle

described : (us : List TestUnit) (i : ℕ) (u : TestUnit) → slice_get us i ≡ Some u → slice_get (memories us) i ≡ Some u.memory
described [] i u e = cc
described (v ∷ us) zero u e = let same : v ≡ u = cc in ap (λ (x : TestUnit). Some x.memory) same
described (v ∷ us) (suc i) u e = described us i u e

module _ (c : ChipTree) (us : List TestUnit) (budget : ℕ) (groups : List ℕ) (test : ChipTest c us budget groups) (legal : IsChip c) (tested : AllTested c.units us) (fit : AllFit c.units)
    (ports : c.top.ports ≡ top_ports (memories us)) (few : length us ≤ 16) (i : ℕ) (u : TestUnit) (is_unit : slice_get us i ≡ Some u) where
  abbrev Held : (ℕ → Env) → Type 0
  Held registers = (j : ℕ) (mo : ModuleTree) → slice_get c.units j ≡ Some mo → Starts mo (registers j) zeros

  abbrev top : ModuleTree
  top = top_module c (λ k n. 0)

  next_held : (registers : ℕ → Env) (ins e : Env) (inner : ℕ → Env) → ChipSettles c registers ins e inner → Held (chip_next c inner)
  next_held registers ins e inner settles j mo is =
      let place = placed_there c.top.placed c.units legal.placed j mo is in
      let own = unit_at c.units us tested j mo is in
      subst (λ (o : Option ModuleTree). Starts mo (left_by o (inner j)) zeros) (sym is)
      (fits_next mo (forms_of c.units fit j mo is) (own.2).legal (inner j) (settles.placed j mo place.0 is place.1).within)

  starts_with : (t word : ℕ) (others : Env) → word < 2 ^ u.memory.bits → Starts top zeros others → Starts top zeros (reads i t word others)
  starts_with t word others low starts =
      let inside = slice_get_within us i u is_unit in
      let count = same_count us in
      top_within i t word others top (memories us) ports (omega (arith, inside, few)) (omega (arith, count, few))
      (λ d e. let same : u.memory ≡ d = one d (sym (described us i u is_unit) ∙ e) in subst (λ (x : Description). word < 2 ^ x.bits) same low) starts
    where
      one : (d : Description) → Some u.memory ≡ Some d → u.memory ≡ d
      one d e = cc

  module _ {S : Type 0} (b : Behaviour S) (others : ℕ → Env) (wide : (t : ℕ) → Starts top zeros (others t)) where
    abbrev AreGiven : ℕ → List Env → Type 0
    AreGiven t [] = Unit {0}
    AreGiven t (x ∷ xs) = ((word : ℕ) × (x ≡ reads i t word (others t))) × AreGiven (suc t) xs

    given_at : (t : ℕ) (inputs : List Env) → AreGiven t inputs → (k s : ℕ) → t + k ≡ s → (ins : Env) → slice_get inputs k ≡ Some ins
        → (word : ℕ) × (ins ≡ reads i s word (others s))
    given_at t [] given k s at ins e = cc
    given_at t (x ∷ xs) given zero s at ins e =
        let same : x ≡ ins = cc in
        let here : t ≡ s = omega (arith, at) in
        (given.0.0, sym same ∙ given.0.1 ∙ ap (λ n. reads i n given.0.0 (others n)) here)
    given_at t (x ∷ xs) given (suc k) s at ins e = given_at (suc t) xs given.1 k s (omega (arith, at)) ins e

    record Goes (count t : ℕ) (registers : ℕ → Env) (word : ℕ) (m : Memory S) : Type 0 where
      inputs : List Env
      cycles : List ChipCycle
      size : length cycles ≡ count
      history : ChipHistory c registers inputs cycles
      given : AreGiven t inputs
      first : 0 < length cycles → words_of inputs i 0 ≡ word
      answers : (k : ℕ) → suc k < length cycles → words_of inputs i (suc k)
          ≡ cycle_answer b (shape_of u.memory) (memory_at b (shape_of u.memory) m (unit_ports i cycles) k) (command_on (unit_ports i cycles k)) % 2 ^ u.memory.bits

    goes : (count t : ℕ) (registers : ℕ → Env) (word : ℕ) (m : Memory S) → word < 2 ^ u.memory.bits → Held registers → Goes count t registers word m
    goes zero t registers word m low held = record {
      inputs = [];
      cycles = [];
      size = refl;
      history = tt;
      given = tt;
      first = λ l. absurd (omega arith);
      answers = λ k l. absurd (omega arith);
    }
    goes (suc count) t registers word m low held =
        let ins : Env = reads i t word (others t) in
        let one = test.settles registers ins (record { inputs = starts_with t word (others t) low (wide t); registers = held }) in
        let answer = cycle_answer b (shape_of u.memory) m (command_on (unit_values i one.cycle)) in
        let left : Memory S = memory_after b (shape_of u.memory) m (command_on (unit_values i one.cycle)) in
        let rest = goes count (suc t) (chip_next c one.cycle.inner) (answer % 2 ^ u.memory.bits) left (mod-lt answer (one-le-pow u.memory.bits 2 (omega arith)))
        (next_held registers ins one.cycle.top one.cycle.inner one.settles) in
        record {
          inputs = ins ∷ rest.inputs;
          cycles = one.cycle ∷ rest.cycles;
          size = ap suc rest.size;
          history = (one.settles, rest.history);
          given = ((word, refl), rest.given);
          first = λ l. words i t word (others t);
          answers = λ k l. answered one.cycle rest.inputs rest.cycles rest.first rest.answers k l;
        }
      where
        answered : (e : ChipCycle) (inputs : List Env) (cycles : List ChipCycle)
            → (0 < length cycles → words_of inputs i 0 ≡ cycle_answer b (shape_of u.memory) m (command_on (unit_values i e)) % 2 ^ u.memory.bits)
            → ((k : ℕ) → suc k < length cycles → words_of inputs i (suc k)
            ≡ cycle_answer b (shape_of u.memory) (memory_at b (shape_of u.memory) (memory_after b (shape_of u.memory) m (command_on (unit_values i e))) (unit_ports i cycles) k)
            (command_on (unit_ports i cycles k)) % 2 ^ u.memory.bits)
            → (k : ℕ) → suc k < length (e ∷ cycles) → words_of inputs i k
            ≡ cycle_answer b (shape_of u.memory) (memory_at b (shape_of u.memory) m (unit_ports i (e ∷ cycles)) k) (command_on (unit_ports i (e ∷ cycles) k)) % 2 ^ u.memory.bits
        answered e inputs cycles first further zero l = first (omega arith)
        answered e inputs cycles first further (suc k) l =
            further k (omega arith)
            ∙ ap (λ x. cycle_answer b (shape_of u.memory) x (command_on (unit_ports i cycles k)) % 2 ^ u.memory.bits)
            (sym (memory_next b (shape_of u.memory) m (unit_ports i (e ∷ cycles)) k))

  pub chip_runs : {S : Type 0} (b : Behaviour S) (m : Memory S) (registers : ℕ → Env) (rdata : ℕ) (others : ℕ → Env) (count : ℕ)
      → ((t : ℕ) → ChipStarts c registers (others t)) → rdata < 2 ^ u.memory.bits
      → (cycles : List ChipCycle) × (length cycles ≡ count) × RunsFrom b c i u.memory m registers rdata others cycles
  chip_runs b m registers rdata others count starts low =
      let wide : (t : ℕ) → Starts top zeros (others t) = λ t. (starts t).inputs in
      let found = goes b others wide count 0 registers rdata m low (starts 0).registers in
      let at : (t : ℕ) (ins : Env) → slice_get found.inputs t ≡ Some ins → (word : ℕ) × (ins ≡ reads i t word (others t)) =
      λ t ins e. given_at b others wide 0 found.inputs found.given t t (omega arith) ins e in (
        found.cycles,
        found.size,
        record {
          run = record {
            registers = registers;
            inputs = found.inputs;
            reset = λ t ins e. let is = at t ins e in ap (λ (x : Env). x (codes "reset")) is.1;
            history = found.history;
            answers = found.answers;
          };
          starts = refl;
          first = found.first;
          given = λ t ins e name nr nw.
              let is = at t ins e in ap (λ (x : Env). x name) is.1 ∙ elsewhere i t is.0 (others t) name nr nw;
        },
      )
