-- Every history of a plan's module meets the rule of the ports, so the module is a self-test.
use Rattle.std.proofs.Common.{◌≡◌, ℕ, zero, suc, ◌+◌, ◌<◌, ◌==◌, Bool, true, false, not, ◌&&◌, List, [], ◌∷◌, ◌++◌, length, slice_get, Some, refl, sym, ap, ◌∙◌, subst, arith}
use Rattle.std.specs.Prelude.{slice_index}
use Rattle.verilog_tree.specs.Plain.{ModuleTree}
use Rattle.verilog_tree.specs.Meaning.{Env, bit, History, next}
use Rattle.verilog_tree.proofs.Loops.{no_loop}
use Rattle.march_core.specs.March.{MarchElement, pause, sweep, is_pause, element_at, IsMarch}
use Rattle.march_core.specs.Visits.{Direction, Upward, Downward}
use Rattle.scrambler.specs.Scrambling.{logical}
use Rattle.memory_desc.specs.Descriptions.{Description, IsMemory}
use Rattle.word_march.specs.PortRule.{PortRule}
use Rattle.controller.specs.inner.States.{Answers}
use Rattle.microcode.specs.Places.{index_in}
use Rattle.controller.specs.Places as P
use Rattle.controller.specs.inner.Places as PInner
use Rattle.controller.specs.Machine as M
use Rattle.controller.specs.Standing.{Stands}
use Rattle.controller.proofs.Turn.{turns}
use Rattle.controller.proofs.Slots as S
use Rattle.controller.proofs.Steps.{resets, steps}
use Rattle.controller.proofs.Rule.{rule, commanded}
use Rattle.controller.proofs.Mirror.{answers_rule}
use Rattle.self_test.specs.Ports.{ports, port_values}
use Rattle.self_test.specs.SelfTest.{AreInputs, EachMeets, SelfTest}
use Rattle.self_test.specs.Expected.{CarriesExpected, ShowsExpected}
use Rattle.rtl_layout.specs.Plan.{Plan}
use Rattle.rtl_layout.specs.Layout as L
use Rattle.rtl_layout.specs.Control.{start, step, outputs, is_live, operation, here, index_at}
use Rattle.rtl_layout.specs.Control as C
use Rattle.rtl_layout.specs.Shows as W
use Rattle.rtl_layout.proofs.History.{always}
use Rattle.rtl_layout.proofs.Ranked.{rank, rank_falls}
use Rattle.rtl_layout.proofs.Whole.{legal}
use Rattle.rtl_layout.proofs.Forms.{settles_once}
use Rattle.rtl_gen.specs.inner.Planned.{Plans}
use Rattle.rtl_gen.proofs.Mirror.{place, seen, starts_seen, word_seen, operation_seen, live_seen, index_seen, step_seen}

-- ---- ports

bit_one : (b : Bool) → (bit b == 1) ≡ b
bit_one true = refl
bit_one false = refl

shown : (v : ℕ) (b c : Bool) → v ≡ bit b → b ≡ c → (v == 1) ≡ c
shown v b c h k = ap (λ n. n == 1) h ∙ bit_one b ∙ k

awake : (t r : Bool) → (r && not t) ≡ true → t ≡ false
awake true true h = cc
awake true false h = cc
awake false r h = refl

awake_visits : (x : MarchElement) (d : Description) → is_pause x ≡ false → PInner.visits_of d x ≡ d.words
awake_visits pause d h = cc
awake_visits (sweep order ops) d h = refl

index_below : (to : Direction) (words k : ℕ) → k < words → index_in to words k < words
index_below Upward words k h = h
index_below Downward words k h = omega arith

-- ---- words by cycle

abbrev Returns : (ℕ → ℕ) → ℕ → List ℕ → Type 0
Returns returned k [] = Unit {0}
Returns returned k (w ∷ ws) = (returned k ≡ w) × Returns returned (suc k) ws

shifted : (f g : ℕ → ℕ) → ((n : ℕ) → f (suc n) ≡ g n) → (k : ℕ) (ws : List ℕ) → Returns g k ws → Returns f (suc k) ws
shifted f g same k [] r = tt
shifted f g same k (w ∷ ws) r = (same k ∙ r.0, shifted f g same (suc k) ws r.1)

all_return : (ws : List ℕ) → Returns (slice_index ws) 0 ws
all_return [] = tt
all_return (w ∷ ws) = (refl, shifted (slice_index (w ∷ ws)) (slice_index ws) (λ n. refl) 0 ws (all_return ws))

-- ---- inputs

no_reset : (k : ℕ) (ws : List ℕ) (is : List Env) → AreInputs (suc k) ws is → W.NoReset is
no_reset k [] [] h = tt
no_reset k [] (i ∷ is) h = absurd h
no_reset k (w ∷ ws) [] h = absurd h
no_reset k (w ∷ ws) (i ∷ is) h = (h.0, no_reset (suc k) ws is h.2)

same_length : (mo : ModuleTree) (regs : Env) (is es : List Env) → History mo regs is es → length is ≡ length es
same_length mo regs [] [] h = refl
same_length mo regs [] (e ∷ es) h = absurd h
same_length mo regs (i ∷ is) [] h = absurd h
same_length mo regs (i ∷ is) (e ∷ es) h = ap suc (same_length mo (next mo e) is es h.1)

quiet : (march : List MarchElement) (d : Description) (returned : ℕ → ℕ) (e : Env) → (e L.en ≡ 0) × (e L.done ≡ 0) × (e L.fail ≡ 0) → PortRule march d returned 0 (port_values e)
quiet march d returned e q =
    let en : (e L.en == 1) ≡ false = ap (λ n. n == 1) q.0 in
    let done : (e L.done == 1) ≡ false = ap (λ n. n == 1) q.1 in
    let fail : (e L.fail == 1) ≡ false = ap (λ n. n == 1) q.2 in
    record {
      reset = λ h. (en, done, fail);
      commands = λ j c h t. absurd (omega arith);
      idle = λ h. en;
      done = (λ h. cc, λ l. absurd (omega arith));
      fail = λ h. absurd (omega arith);
    }

module _ (march : List MarchElement) (d : Description) (p : Plan) (pl : Plans march d p) (is_plan : W.IsPlan p) (m : IsMarch march) (n : IsMemory d) where
  answered : (c : C.Control) (e : Env) → P.IsPlace march d (place c) → W.Answers p (outputs p c) e → Answers (M.outputs march d (seen c)) (port_values e)
  answered c e at a =
      let live = live_seen march d p pl c at.element in
      let op = operation_seen march d p pl c at.element in
      let index = index_seen march d p pl c at.element in
      record {
        en = shown (e L.en) (is_live p c) (M.live march (seen c)) a.en_is live;
        we = λ on. shown (e L.we) (operation p c).write _ a.we_is (ap (λ o. o.write) op);
        addr = λ on. a.addr_is (live ∙ on) ∙ pl.addresses (index_at p (here p c) c.visit) (subst (λ i. i < d.words) (sym index) (inside on)) ∙ ap (logical d.scramble) index;
        wdata = λ on. a.wdata_is ∙ word_seen march d p pl c.back (operation p c).bit ∙ ap (λ o. P.word_at d c.back o.bit) op;
        done = shown (e L.done) c.over c.over a.done_is refl;
        fail = shown (e L.fail) c.bad c.bad a.fail_is refl;
      }
    where
      inside : M.live march (seen c) ≡ true → P.index_at march d c.element c.visit < d.words
      inside on =
          let up = awake (is_pause (element_at march c.element)) c.run on in
          let many = awake_visits (element_at march c.element) d up in
          let low : c.visit < d.words = subst (λ k. c.visit < k) many at.visit in
          index_below _ d.words c.visit low

  -- a controller of the march stands in cycle suc k, and the ports answer for it
  record Stood (returned : ℕ → ℕ) (k : ℕ) (e : Env) : Type 0 where
    control : M.Control
    stands : Stands march d returned k control
    answers : Answers (M.outputs march d control) (port_values e)

  later : (returned : ℕ → ℕ) (k : ℕ) (c : C.Control) (ws : List ℕ) (is es : List Env) → Stands march d returned k (seen c) → Returns returned (suc k) ws → AreInputs (suc k) ws is → length is ≡ length es → W.AllAnswer p c is es
      → (t u : ℕ) (e : Env) → u ≡ k + t → slice_get es t ≡ Some e → Stood returned u e
  later returned k c ws [] [] st rs ins same a zero u e q h = cc
  later returned k c ws [] [] st rs ins same a (suc t) u e q h = cc
  later returned k c ws [] (x ∷ es) st rs ins same a t u e q h = absurd (omega arith)
  later returned k c ws (i ∷ is) [] st rs ins same a t u e q h = absurd (omega arith)
  later returned k c [] (i ∷ is) (x ∷ es) st rs ins same a t u e q h = absurd ins
  later returned k c (w ∷ ws) (i ∷ is) (x ∷ es) st rs ins same a zero u e q h =
      let at : k ≡ u = omega arith in
      let this : x ≡ e = cc in
      subst (λ v. Stood returned u v) this
      (subst (λ v. Stood returned v x) at (record { control = seen c; stands = st; answers = answered c x st.place a.0 }))
  later returned k c (w ∷ ws) (i ∷ is) (x ∷ es) st rs ins same a (suc t) u e q h =
      let stepped = steps march d returned k (seen c) (turns march d (place c) m n st.place) st in
      let given = subst (λ v. Stands march d returned (suc k) (M.step march d v (seen c))) (rs.0 ∙ sym ins.1) stepped in
      later returned (suc k) (step p (i L.rdata) c) ws is es (subst (Stands march d returned (suc k)) (sym (step_seen march d p pl c st.place.element (i L.rdata))) given)
      rs.1 ins.2 (omega arith) a.1 t u e (omega arith) h

  -- what holds of the quiet ports of the reset, and of ports that answer for a controller which stands, holds in each cycle
  in_each : (P : (ℕ → ℕ) → ℕ → Env → Type 0)
      → ((returned : ℕ → ℕ) (e : Env) → (e L.en ≡ 0) × (e L.done ≡ 0) × (e L.fail ≡ 0) → P returned 0 e)
      → ((returned : ℕ → ℕ) (k : ℕ) (e : Env) → Stood returned k e → P returned (suc k) e)
      → (regs : Env) (words : List ℕ) (is es : List Env) → AreInputs 0 words is → History (L.self_test p) regs is es → (t : ℕ) (e : Env) → slice_get es t ≡ Some e → P (slice_index words) t e
  in_each P first then regs words [] [] ins h zero e g = cc
  in_each P first then regs words [] [] ins h (suc t) e g = cc
  in_each P first then regs words [] (x ∷ es) ins h t e g = absurd h
  in_each P first then regs [] (i ∷ is) es ins h t e g = absurd ins
  in_each P first then regs (w ∷ words) (i ∷ is) [] ins h t e g = absurd h
  in_each P first then regs (w ∷ ws) (i ∷ is) (x ∷ es) ins h zero e g =
      let this : x ≡ e = cc in
      subst (λ v. P (slice_index (w ∷ ws)) 0 v) this
      (first (slice_index (w ∷ ws)) x (always p is_plan.ready is_plan.ready.sized regs i x is es ins.0 (no_reset 0 ws is ins.2) h).0)
  in_each P first then regs (w ∷ ws) (i ∷ is) (x ∷ es) ins h (suc t) e g =
      let returned = slice_index (w ∷ ws) in
      then returned t e (later returned 0 (start p) ws is es
      (subst (Stands march d returned 0) (sym (starts_seen march d p pl)) (resets march d returned n (S.start march d m n)))
      (all_return (w ∷ ws)).1 ins.2 (same_length (L.self_test p) (next (L.self_test p) x) is es h.1) (always p is_plan.ready is_plan.ready.sized regs i x is es ins.0 (no_reset 0 ws is ins.2) h).1
      t t e (omega arith) g)

  rule_of : (returned : ℕ → ℕ) (k : ℕ) (e : Env) → Stood returned k e → PortRule march d returned (suc k) (port_values e)
  rule_of returned k e s =
      let c = s.control in
      answers_rule march d returned k (M.outputs march d c) (port_values e)
      (rule march d returned k c (S.start march d m n) (turns march d c.place m n s.stands.place) s.stands) s.answers

  meets : (regs : Env) (words : List ℕ) (is es : List Env) → AreInputs 0 words is → History (L.self_test p) regs is es → EachMeets march d (slice_index words) es
  meets = in_each (λ returned t e. PortRule march d returned t (port_values e)) (quiet march d) rule_of

  carries : (returned : ℕ → ℕ) (k : ℕ) (e : Env) → Stood returned k e → CarriesExpected march d (suc k) (port_values e)
  carries returned k e s j o there read at =
      let c = s.control in
      let q = commanded march d returned k c (S.start march d m n) (turns march d c.place m n s.stands.place) s.stands j o there at in
      s.answers.wdata q.0 ∙ ap (λ x. x.word) q.1

  pub expected : ShowsExpected (L.self_test p) march d
  expected = in_each (λ returned t e. CarriesExpected march d t (port_values e)) (λ returned e q j o there read at. absurd (omega arith)) carries

  ports_seen : L.ports p ≡ ports d
  ports_seen =
      ap (λ b. L.input_ports b ++ (L.command_ports p.addr_width b ++ (L.port L.done 1 ∷ L.port L.fail 1 ∷ []))) pl.bits
      ∙ ap (λ w. L.input_ports d.bits ++ (L.command_ports w d.bits ++ (L.port L.done 1 ∷ L.port L.fail 1 ∷ []))) pl.address_width

  pub self_tested : SelfTest (L.self_test p) march d
  self_tested = record {
    name = pl.name;
    ports = ports_seen;
    legal = legal p is_plan.ready is_plan.ready.sized;
    no_loop = no_loop (L.self_test p) rank (rank_falls p is_plan.ready);
    settles = settles_once p is_plan.ready is_plan.ready.sized;
    meets = meets;
  }
