-- A controller that stands in a cycle stands in the next one after a step.
use Rattle.std.proofs.Common.{◌≡◌, ℕ, zero, suc, ◌+◌, ◌-◌, ◌<◌, ◌≤◌, Bool, true, false, if◌then◌else◌, not, ◌&&◌, List, [], length, slice_get, drop, replicate, Option, Some, refl, sym, ◌∙◌, arith}
use Rattle.std.proofs.lemmas.List.{drop_all, length-replicate}
use Rattle.word_march.specs.declared.operations.PortOp.{PortOp}
use Rattle.march_core.specs.March.{MarchElement, is_pause, IsMarch}
use Rattle.memory_desc.specs.Descriptions.{Description, IsMemory}
use Rattle.word_march.specs.Commands.{slots}
use Rattle.microcode.specs.Places.{Place}
use Rattle.controller.specs.Places.{IsPlace, rest, slot_at, command_of, next_place, is_last, word_at}
use Rattle.march_core.specs.March.{element_at}
use Rattle.controller.specs.Machine.{blank, Control, reset, stage_of, step, control_after}
use Rattle.controller.specs.Standing.{IsAged, IsStage, AreStages, Stands, Starts}
use Rattle.controller.specs.Places.{Turns}
use Rattle.controller.proofs.Stages.{cons_at, none_at, stages_go, last_goes, length-pushed, IsNow, enters, fails, passes}
use Rattle.controller.proofs.Turn.{turns}
use Rattle.controller.proofs.Slots.{start}

-- ---- the beginning

unread : (slots : List (Option PortOp)) (age word : ℕ) → 1 ≤ age → IsAged slots 1 age false false word
unread slots age word h = record {
  read = λ e. cc;
  found = λ k c e r. absurd (omega arith);
  late = λ e. cc;
  early = λ e. omega arith;
}

all_blank : (d : Description) (slots : List (Option PortOp)) (age n : ℕ) → 1 ≤ age → AreStages d slots 1 age (replicate n blank)
all_blank d slots age zero h = tt
all_blank d slots age (suc n) h = (unread slots age (word_at d 0 false) h, all_blank d slots (age + 1) n (omega arith))

pub resets : (march : List MarchElement) (d : Description) (returned : ℕ → ℕ) → IsMemory d → Starts march d → Stands march d returned 0 (reset d)
resets march d returned m s =
    let low = m.latency_low in
    let long = length-replicate (d.latency - 1) blank in
    record {
      place = s.place;
      left = s.first;
      count = omega arith;
      stages = all_blank d (slots march d) 1 (d.latency - 1) (omega arith);
      last = unread (slots march d) d.latency 0 low;
      failed = λ h. cc;
      passed = λ h q. let b = q.before in omega arith;
    }

-- ---- a step

module _ (march : List MarchElement) (d : Description) (returned : ℕ → ℕ) (k : ℕ) where
  pub now : (run : Bool) (p : Place) → Turns march d p → (if run then rest march d p else []) ≡ drop k (slots march d)
      → IsNow (slots march d) k run (slot_at march d p)
  now run p t h = record { on = at_place run h; off = at_end run h }
    where
      at_place : (r : Bool) → (if r then rest march d p else []) ≡ drop k (slots march d) → r ≡ true
          → (slice_get (slots march d) k ≡ Some (slot_at march d p)) × (k < length (slots march d))
      at_place true e q = let c = cons_at k (slots march d) _ _ (sym e ∙ t.left) in (c.0, c.2)
      at_place false e q = cc

      at_end : (r : Bool) → (if r then rest march d p else []) ≡ drop k (slots march d) → r ≡ false → length (slots march d) ≤ k
      at_end true e q = cc
      at_end false e q = none_at k (slots march d) (sym e)

  place_goes : (run : Bool) (p : Place) → Turns march d p → IsPlace march d p → IsPlace march d (if run then next_place march d p else p)
  place_goes true p t h = t.place
  place_goes false p t h = h

  left_goes : (run : Bool) (p : Place) → Turns march d p → (if run then rest march d p else []) ≡ drop k (slots march d)
      → (if run && not (is_last march d p) then rest march d (if run then next_place march d p else p) else []) ≡ drop (suc k) (slots march d)
  left_goes false p t h =
      let over = none_at k (slots march d) (sym h) in
      sym (drop_all (suc k) (slots march d) (omega arith))
  left_goes true p t h = turned (is_last march d p) (rest march d (next_place march d p)) ∙ sym ((cons_at k (slots march d) _ _ (sym h ∙ t.left)).1)
    where
      turned : (l : Bool) (more : List (Option PortOp)) → (if true && not l then more else []) ≡ (if l then [] else more)
      turned true more = refl
      turned false more = refl

  pub steps : (c : Control) → Turns march d c.place → Stands march d returned k c → Stands march d returned (suc k) (step march d (returned (suc k)) c)
  steps c t s =
      let entering : IsStage d (slots march d) (suc (suc k)) 1 (stage_of march c) =
      enters (slots march d) k c.run (is_pause (element_at march c.place.element)) (command_of march d c.place) (now c.run c.place t s.left) in
      let long = length-pushed (stage_of march c) c.stages in
      let count = s.count in
      record {
        place = place_goes c.run c.place t s.place;
        left = left_goes c.run c.place t s.left;
        count = omega arith;
        stages = stages_go (slots march d) d (suc k) 1 (stage_of march c) c.stages entering s.stages;
        last = last_goes (slots march d) d (suc k) 1 d.latency (stage_of march c) c.stages (omega arith) entering s.stages;
        failed = fails (slots march d) d.latency returned k c.reads c.over c.bad c.want s.last s.failed;
        passed = passes (slots march d) d.latency returned k c.reads c.over c.bad c.want s.last s.passed;
      }

pub stands : (march : List MarchElement) (d : Description) (returned : ℕ → ℕ) → IsMarch march → IsMemory d → (k : ℕ)
    → Stands march d returned k (control_after march d returned k)
stands march d returned m n zero = resets march d returned n (start march d m n)
stands march d returned m n (suc k) =
    let before = stands march d returned m n k in
    let c = control_after march d returned k in
    steps march d returned k c (turns march d c.place m n before.place) before
