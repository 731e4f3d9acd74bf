-- The outputs of a controller that stands in a cycle meet the rule of that cycle.
use Rattle.std.proofs.Common.{◌≡◌, ◌≢◌, ℕ, suc, ◌+◌, ◌<◌, ◌≤◌, Bool, true, false, IsTrue, List, slice_get, Some, None, refl, ◌∙◌, ap, arith}
use Rattle.std.proofs.lemmas.Option.{slice_get_within}
use Rattle.word_march.specs.declared.operations.PortOp.{PortOp}
use Rattle.march_core.specs.March.{MarchElement, is_pause, IsMarch}
use Rattle.memory_desc.specs.Descriptions.{Description, IsMemory}
use Rattle.word_march.specs.Commands.{slots, port_ops, command_count, command_at, span}
use Rattle.word_march.specs.PortRule.{cycle_of, SomeReadDiffers, PortRule}
use Rattle.march_core.specs.March.{element_at}
use Rattle.controller.specs.Places.{command_of}
use Rattle.controller.specs.Machine.{Control, live, outputs, control_after}
use Rattle.controller.specs.Standing.{Missed, Stands, Starts}
use Rattle.controller.specs.Places.{Turns}
use Rattle.controller.specs.States.{IsExpected}
use Rattle.controller.proofs.Stages.{is_command, has_command}
use Rattle.controller.proofs.Steps.{now, stands}
use Rattle.controller.proofs.Turn.{turns}
use Rattle.controller.proofs.Slots.{start}

module _ (march : List MarchElement) (d : Description) (returned : ℕ → ℕ) (t : ℕ) (s : Starts march d) where
  differs : Missed (slots march d) d.latency returned t → SomeReadDiffers march d returned t
  differs m =
      let j = s.only m.slot m.command m.is_read.there in
      let at = j.2 in
      let l = m.before in
      record {
        number = j.0;
        command = m.command;
        is_command = j.1;
        is_read = m.is_read.reads;
        before = omega arith;
        differs = λ e. m.differs (ap (λ n. returned (1 + n + d.latency)) at ∙ e);
      }

  missed : SomeReadDiffers march d returned t → Missed (slots march d) d.latency returned t
  missed r = record {
    slot = command_at march d r.number;
    command = r.command;
    is_read = record { there = s.stands r.number r.command r.is_command; reads = r.is_read };
    before = r.before;
    differs = r.differs;
  }

-- in the cycle of a command the controller is live, and at that command
pub commanded : (march : List MarchElement) (d : Description) (returned : ℕ → ℕ) (k : ℕ) (c : Control) → Starts march d → Turns march d c.place → Stands march d returned k c
    → (j : ℕ) (o : PortOp) → slice_get (port_ops march d) j ≡ Some o → suc k ≡ cycle_of march d j → (live march c ≡ true) × (command_of march d c.place ≡ o)
commanded march d returned k c s t st j o h e =
    let at : k ≡ command_at march d j = omega arith in
    is_command (slots march d) k c.run (is_pause (element_at march c.place.element)) (command_of march d c.place) o (now march d returned k c.run c.place t st.left)
    (ap (slice_get (slots march d)) at ∙ s.stands j o h)

pub rule : (march : List MarchElement) (d : Description) (returned : ℕ → ℕ) (k : ℕ) (c : Control)
    → Starts march d → Turns march d c.place → Stands march d returned k c → PortRule march d returned (suc k) (outputs march d c)
rule march d returned k c s t st = record {
  reset = λ h. absurd (omega arith);
  commands = λ j o h e. let q = commanded march d returned k c s t st j o h e in record { enabled = q.0; write = ap (λ x. x.write) q.1; address = ap (λ x. x.addr) q.1; word = λ w. ap (λ x. x.word) q.1 };
  idle = unused (live march c) refl;
  done = (λ h. let l = st.last.late h in omega (arith, s.count), at_last c.over refl);
  fail = λ h. (λ b. differs march d returned (suc k) s (st.failed b), λ r. failing c.bad refl (missed march d returned (suc k) s r));
}
  where
    pausing : Bool
    pausing = is_pause (element_at march c.place.element)

    unused : (b : Bool) → live march c ≡ b → ((j : ℕ) → j < command_count march d → suc k ≢ cycle_of march d j) → live march c ≡ false
    unused false e h = e
    unused true e h =
        let there = has_command (slots march d) k c.run (is_pause (element_at march c.place.element)) (command_of march d c.place) (now march d returned k c.run c.place t st.left) e in
        let j = s.only k (command_of march d c.place) there in
        let at = j.2 in
        absurd (h j.0 (slice_get_within (port_ops march d) j.0 (command_of march d c.place) j.1) (omega arith))

    at_last : (b : Bool) → c.over ≡ b → span march d + 1 + d.latency ≤ suc k → IsTrue c.over
    at_last true e h = e
    at_last false e h = let l = st.last.early e in absurd (omega (arith, s.count))

    failing : (b : Bool) → c.bad ≡ b → Missed (slots march d) d.latency returned (suc k) → IsTrue c.bad
    failing true e m = e
    failing false e m = absurd (st.passed e m)

pub controlled : (march : List MarchElement) (d : Description) (returned : ℕ → ℕ) → IsMarch march → IsMemory d → (k : ℕ)
    → PortRule march d returned (suc k) (outputs march d (control_after march d returned k))
controlled march d returned m n k =
    let st = stands march d returned m n k in
    let c = control_after march d returned k in
    rule march d returned k c (start march d m n) (turns march d c.place m n st.place) st

-- ---- the read that is answered

module _ (march : List MarchElement) (d : Description) (returned : ℕ → ℕ) (k : ℕ) (c : Control) (s : Starts march d) (st : Stands march d returned k c) where
  pub expected_some : c.reads ≡ true → IsExpected march d (suc k) (Some c.want)
  expected_some b =
      let r = st.last.read b in
      let j = s.only r.0 r.1 r.3.there in
      let before = r.2 in
      let at = j.2 in
      (j.0, r.1, j.1, r.3.reads, omega arith, r.4)

  pub expected_none : c.reads ≡ false → IsExpected march d (suc k) None
  expected_none b j o e r at =
      let there = s.stands j o e in
      let reads = st.last.found (command_at march d j) o (omega arith) (record { there = there; reads = r }) in
      cc
