-- The controller of a code mirrors the machine of its march.
use Rattle.std.proofs.Common.{◌≡◌, ℕ, zero, suc, ◌+◌, ◌-◌, ◌<◌, ◌==◌, Bool, true, false, if◌then◌else◌, not, ◌&&◌, List, [], ◌∷◌, length, slice_get, replicate, Some, None, refl, sym, ◌∙◌, ap, subst, arith}
use Rattle.std.specs.List.{AllByRecursion}
use Rattle.march_core.specs.declared.operation.Order.{Order}
use Rattle.march_core.specs.declared.operation.Order.TheVariants.{Up, Down, Any}
use Rattle.scrambler.specs.Scrambling.{logical}
use Rattle.march_core.specs.Runs.{upward}
use Rattle.word_march.specs.PortRule.{PortValues}
use Rattle.microcode.specs.declared.code.Instr.{Instr}
use Rattle.microcode.specs.declared.place.CodePlace.{CodePlace}
use Rattle.controller.specs.declared.stage.Stage.{Stage}
use Rattle.march_core.specs.March.{MarchElement, pause, sweep, order_of, is_pause, IsMarch}
use Rattle.memory_desc.specs.Descriptions.{Description, IsMemory}
use Rattle.word_march.specs.PortRule.{PortRule}
use Rattle.controller.specs.Places.{IsPlace, word_at}
use Rattle.controller.specs.inner.Places.{visits_of}
use Rattle.microcode.specs.Places.{index_in}
use Rattle.march_core.specs.March.{element_at}
use Rattle.microcode.specs.Places.{first_place}
use Rattle.controller.specs.Machine.{blank, Control, outputs, stage_of, pushed, last_stage, compared, step}
use Rattle.controller.specs.Standing.{Stands}
use Rattle.microcode.specs.Code.{goes_down, assemble}
use Rattle.microcode.specs.Running.{digits}
use Rattle.controller.specs.Running.{IsAt}
use Rattle.controller.specs.inner.Running.{IsBehind}
use Rattle.controller.specs.States.{State, control_of, IsKnown, IsControl, StandsIn, IsExpected}
use Rattle.controller.specs.inner.States.{IsTurned, stage_from, Answers}
use Rattle.controller.proofs.Turn.{turns}
use Rattle.controller.proofs.Slots.{start}
use Rattle.controller.proofs.Stages.{length-pushed}
use Rattle.controller.proofs.Steps.{resets, steps}
use Rattle.controller.proofs.Rule.{rule, expected_some, expected_none}
use Rattle.microcode.proofs.Behind.{first_zero}
use Rattle.controller.proofs.Turn.{is_instr}

-- ---- the place

abbrev pub first : CodePlace
first = record { first = 0; oper = 0; visit = 0; element = 0; back = 0 }

pub turned_none : (march : List MarchElement) (code : List Instr) (d : Description) (p : CodePlace) (run : Bool) → IsMemory d → run ≡ true
    → IsAt march code d p → IsBehind march code d p None → IsTurned march code d p run first false
turned_none march code d p run m on at none =
    subst (λ r. IsTurned march code d p r first false) (sym on) (record {
      there = record {
        accepted = at.accepted;
        assembled = at.assembled;
        first = sym (first_zero march);
        place = subst (λ q. IsPlace march d q) none.1 (turns march d (digits p) at.accepted m at.place).place;
      };
      place = sym none.1;
      run_is = sym (ap not none.0);
    })

-- ---- the stages

pub known_pushed : (d : Description) (s : Stage) (ss : List Stage) → IsKnown d s → AllByRecursion (IsKnown d) ss
    → AllByRecursion (IsKnown d) (pushed s ss) × IsKnown d (last_stage s ss)
known_pushed d s [] h hs = (tt, h)
known_pushed d s (t ∷ ss) h hs = let r = known_pushed d t ss hs.0 hs.1 in ((h, r.0), r.1)

pub known_blank : (d : Description) (n : ℕ) → IsMemory d → AllByRecursion (IsKnown d) (replicate n blank)
known_blank d zero m = tt
known_blank d (suc n) m = let some = m.tested.some in (omega arith, known_blank d n m)

-- ---- the beginning

pub beginning : (march : List MarchElement) (d : Description) (code : List Instr) → IsMarch march → code ≡ assemble march → IsMemory d → IsAt march code d first
beginning march d code a e m = record { accepted = a; assembled = e; first = sym (first_zero march); place = (start march d a m).place }

pub stands_first : (march : List MarchElement) (d : Description) (code : List Instr) (stages : List Stage) (returned : ℕ → ℕ) → IsMarch march → code ≡ assemble march → IsMemory d
    → stages ≡ replicate (d.latency - 1) blank
    → StandsIn march d (record { code = code; memory = d; place = first; run = true; stages = stages; reads = false; over = false; want = 0; bad = false }) returned 0
stands_first march d code stages returned a e m h = record {
  memory = refl;
  there = beginning march d code a e m;
  stands = subst (λ ss. Stands march d returned 0 (record { place = first_place; run = true; stages = ss; reads = false; over = false; want = 0; bad = false })) (sym h)
      (resets march d returned m (start march d a m));
}

-- ---- a step, of a controller that is seen as a state

seen : (march : List MarchElement) (d : Description) (s t : State) (returned : ℕ → ℕ) (k : ℕ) → s ≡ t → StandsIn march d t returned k → StandsIn march d s returned k
seen march d s t returned k e st = subst (λ (x : State). StandsIn march d x returned k) (sym e) st

pub stands_next : (march : List MarchElement) (d : Description) (s t : State) (w : ℕ) (i : Instr) (q : CodePlace) (r : Bool) (ss : List Stage) (l : Stage) (v : ℕ) (b : Bool) (returned : ℕ → ℕ) (k : ℕ)
    → s ≡ t → IsMemory s.memory → slice_get s.code (s.place.first + s.place.oper) ≡ Some i
    → (IsAt march s.code s.memory s.place → IsTurned march s.code s.memory s.place s.run q r)
    → ss ≡ pushed (stage_from i s.run s.place.back) s.stages → l ≡ last_stage (stage_from i s.run s.place.back) s.stages
    → v ≡ word_at s.memory l.back l.value → b ≡ compared s.reads (w == s.want) s.bad
    → returned (suc k) ≡ w → StandsIn march d t returned k
    → StandsIn march d (record { code = s.code; memory = s.memory; place = q; run = r; stages = ss; reads = l.reads; over = l.over; want = v; bad = b }) returned (suc k)
stands_next march d s t w i q r ss l v b returned k view m there turned e_ss e_l e_v e_b e_w stands =
    let st = seen march d s t returned k view stands in
    let at = st.there in
    let on = turned at in
    let c = control_of s in
    let stage : stage_from i s.run s.place.back ≡ stage_of march c =
    ap (λ x. stage_from x s.run s.place.back) (is_instr march s.memory s.code s.place i m at there) in
    let leaving : l ≡ last_stage (stage_of march c) s.stages = e_l ∙ ap (λ x. last_stage x s.stages) stage in
    let stages : ss ≡ pushed (stage_of march c) s.stages = e_ss ∙ ap (λ x. pushed x s.stages) stage in
    let want : v ≡ word_at s.memory (last_stage (stage_of march c) s.stages).back (last_stage (stage_of march c) s.stages).value =
    e_v ∙ ap (λ x. word_at s.memory x.back x.value) leaving in
    let bad : b ≡ compared s.reads (returned (suc k) == s.want) s.bad = e_b ∙ ap (λ n. compared s.reads (n == s.want) s.bad) (sym e_w) in
    let new : Control = record { place = digits q; run = r; stages = ss; reads = l.reads; over = l.over; want = v; bad = b } in
    let same : new ≡ step march s.memory (returned (suc k)) c =
    λ j. record { place = on.place j; run = on.run_is j; stages = stages j; reads = (leaving j).reads; over = (leaving j).over; want = want j; bad = bad j } in
    record {
      memory = st.memory;
      there = on.there;
      stands = subst (λ x. Stands march s.memory returned (suc k) x) (sym same)
          (steps march s.memory returned k c (turns march s.memory (digits s.place) at.accepted m at.place) st.stands);
    }

pub control_next : (s : State) (i : Instr) (q : CodePlace) (r : Bool) (ss : List Stage) (l : Stage) (v : ℕ) (b : Bool)
    → IsControl s
    → ((march : List MarchElement) → IsAt march s.code s.memory s.place → IsTurned march s.code s.memory s.place s.run q r)
    → ss ≡ pushed (stage_from i s.run s.place.back) s.stages
    → IsControl (record { code = s.code; memory = s.memory; place = q; run = r; stages = ss; reads = l.reads; over = l.over; want = v; bad = b })
control_next s i q r ss l v b h turned e =
    let at = h.somewhere.1 in
    let count = h.count in
    let long = length-pushed (stage_from i s.run s.place.back) s.stages in
    let same = ap length e in
    record {
      somewhere = (h.somewhere.0, (turned h.somewhere.0 at).there);
      count = omega arith;
      known = subst (λ x. AllByRecursion (IsKnown s.memory) x) (sym e) (known_pushed s.memory (stage_from i s.run s.place.back) s.stages at.place.back h.known).0;
    }

-- ---- the outputs

pub visit_within : (march : List MarchElement) (d : Description) (code : List Instr) (p : CodePlace) (i : Instr) (run : Bool) → IsMemory d
    → slice_get code (p.first + p.oper) ≡ Some i → IsAt march code d p → (run && not i.pause) ≡ true → p.visit < d.words
visit_within march d code p i run m there at h =
    let pausing : i.pause ≡ is_pause (element_at march p.element) = ap (λ x. x.pause) (is_instr march d code p i m at there) in
    by_element (element_at march p.element) (no_pause run i.pause h) pausing at.place.visit
  where
    no_pause : (a b : Bool) → (a && not b) ≡ true → b ≡ false
    no_pause true false e = refl
    no_pause true true e = cc
    no_pause false b e = cc

    by_element : (x : MarchElement) → i.pause ≡ false → i.pause ≡ is_pause x → p.visit < visits_of d x → p.visit < d.words
    by_element pause e f l = cc
    by_element (sweep order ops) e f l = l

index_is : (order : Order) (words x : ℕ) → (if goes_down order then words - 1 - x else x) ≡ index_in (upward order) words x
index_is Up words x = refl
index_is Down words x = refl
index_is Any words x = refl

pub answers_rule : (march : List MarchElement) (d : Description) (returned : ℕ → ℕ) (k : ℕ) (q e : PortValues) → PortRule march d returned (suc k) q → Answers q e
    → PortRule march d returned (suc k) e
answers_rule march d returned k q e r a = record {
  reset = λ h. absurd (omega arith);
  commands = λ j c h t. let o = r.commands j c h t in
      record { enabled = a.en ∙ o.enabled; write = a.we o.enabled ∙ o.write; address = a.addr o.enabled ∙ o.address; word = λ w. a.wdata o.enabled ∙ o.word w };
  idle = λ h. a.en ∙ r.idle h;
  done = (λ h. r.done.0 (sym a.done ∙ h), λ l. a.done ∙ r.done.1 l);
  fail = λ h. (λ f. (r.fail h).0 (sym a.fail ∙ f), λ x. a.fail ∙ (r.fail h).1 x);
}

pub outputs_meet : (march : List MarchElement) (described : Description) (s t : State) (i : Instr) (live : Bool) (addr wdata : ℕ) (returned : ℕ → ℕ) (k : ℕ) → s ≡ t → IsMemory s.memory
    → slice_get s.code (s.place.first + s.place.oper) ≡ Some i
    → live ≡ (s.run && not i.pause)
    → addr ≡ (if live then logical s.memory.scramble (if i.down then s.memory.words - 1 - s.place.visit else s.place.visit) else 0)
    → wdata ≡ word_at s.memory s.place.back i.bit
    → StandsIn march described t returned k
    → PortRule march described returned (suc k) (record { en = live; we = i.write; addr = addr; wdata = wdata; done = s.over; fail = s.bad })
outputs_meet march described s t i live addr wdata returned k view m there e_live e_addr e_word stands =
    let st = seen march described s t returned k view stands in
    let at = st.there in
    let d = s.memory in
    let c = control_of s in
    let is = is_instr march d s.code s.place i m at there in
    let x = element_at march s.place.element in
    let en : live ≡ (s.run && not (is_pause x)) = e_live ∙ ap (λ y. s.run && not y.pause) is in
    let index : (if i.down then d.words - 1 - s.place.visit else s.place.visit) ≡ index_in (upward (order_of x)) d.words s.place.visit =
    ap (λ y. if y.down then d.words - 1 - s.place.visit else s.place.visit) is ∙ index_is (order_of x) d.words s.place.visit in
    subst (λ y. PortRule march y returned (suc k) (record { en = live; we = i.write; addr = addr; wdata = wdata; done = s.over; fail = s.bad })) st.memory
    (answers_rule march d returned k (outputs march d c) (record { en = live; we = i.write; addr = addr; wdata = wdata; done = s.over; fail = s.bad })
    (rule march d returned k c (start march d at.accepted m) (turns march d (digits s.place) at.accepted m at.place) st.stands)
    (record {
      en = en;
      we = λ on. ap (λ y. y.write) is;
      addr = λ on. e_addr ∙ ap (λ b. if b then logical d.scramble (if i.down then d.words - 1 - s.place.visit else s.place.visit) else 0) (en ∙ on) ∙ ap (logical d.scramble) index;
      wdata = λ on. e_word ∙ ap (λ y. word_at d s.place.back y.bit) is;
      done = refl;
      fail = refl;
    }))

-- ---- the read that is answered

pub expected_read : (march : List MarchElement) (described : Description) (s t : State) (returned : ℕ → ℕ) (k : ℕ) → s ≡ t → IsMemory s.memory → s.reads ≡ true
    → StandsIn march described t returned k → IsExpected march described (suc k) (Some s.want)
expected_read march described s t returned k view m on stands =
    let st = seen march described s t returned k view stands in
    subst (λ d. IsExpected march d (suc k) (Some s.want)) st.memory
    (expected_some march s.memory returned k (control_of s) (start march s.memory st.there.accepted m) st.stands on)

pub none_expected : (march : List MarchElement) (described : Description) (s t : State) (returned : ℕ → ℕ) (k : ℕ) → s ≡ t → IsMemory s.memory → s.reads ≡ false
    → StandsIn march described t returned k → IsExpected march described (suc k) None
none_expected march described s t returned k view m off stands =
    let st = seen march described s t returned k view stands in
    subst (λ d. IsExpected march d (suc k) None) st.memory
    (expected_none march s.memory returned k (control_of s) (start march s.memory st.there.accepted m) st.stands off)
