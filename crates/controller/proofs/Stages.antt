-- What the stages keep of the cycles before, and what the comparison has found.
use Rattle.std.proofs.Common.{◌≡◌, ℕ, zero, suc, ◌+◌, ◌<◌, ◌≤◌, ◌==◌, ◌⊎◌, inl, inr, Bool, true, false, if◌then◌else◌, not, ◌&&◌, List, [], ◌∷◌, length, slice_get, drop, Option, Some, None, refl, sym, ◌∙◌, ap, subst, arith}
use Rattle.std.proofs.lemmas.Bool.{eqb-true, eqb-false, not-true, not-false}
use Rattle.std.proofs.lemmas.Bool.Decides.{eqb_tells}
use Rattle.std.proofs.lemmas.Option.{same_Some, slice_get_within}
use Rattle.word_march.specs.declared.operations.PortOp.{PortOp}
use Rattle.memory_desc.specs.Descriptions.{Description}
use Rattle.controller.specs.Places.{word_at}
use Rattle.controller.specs.declared.stage.Stage.{Stage}
use Rattle.controller.specs.Machine.{pushed, last_stage, compared}
use Rattle.controller.specs.Standing.{IsAged, IsStage, AreStages, Missed}

-- ---- places of a list

pub cons_at : {A : Type 0} (k : ℕ) (xs : List A) (y : A) (ys : List A) → drop k xs ≡ y ∷ ys → (slice_get xs k ≡ Some y) × (drop (suc k) xs ≡ ys) × (k < length xs)
cons_at zero [] y ys h = cc
cons_at zero (x ∷ xs) y ys h = let e : x ≡ y = cc in let f : xs ≡ ys = cc in (ap Some e, f, omega arith)
cons_at (suc k) [] y ys h = cc
cons_at (suc k) (x ∷ xs) y ys h = let r = cons_at k xs y ys h in (r.0, r.1, let l = r.2 in omega arith)

pub none_at : {A : Type 0} (k : ℕ) (xs : List A) → drop k xs ≡ [] → length xs ≤ k
none_at zero [] h = omega arith
none_at zero (x ∷ xs) h = cc
none_at (suc k) [] h = omega arith
none_at (suc k) (x ∷ xs) h = let r = none_at k xs h in omega arith

-- ---- one cycle on

module _ (slots : List (Option PortOp)) where
  ages : (t age word : ℕ) (reads over : Bool) → IsAged slots t age reads over word → IsAged slots (suc t) (age + 1) reads over word
  ages t age word reads over a = record {
    read = λ h. let r = a.read h in let at = r.2 in (r.0, r.1, omega arith, r.3, r.4);
    found = λ k c e. a.found k c (omega arith);
    late = λ h. let l = a.late h in omega arith;
    early = λ h. let l = a.early h in omega arith;
  }

  pub stages_go : (d : Description) (t age : ℕ) (s : Stage) (ss : List Stage) → IsStage d slots (suc t) age s → AreStages d slots t age ss
      → AreStages d slots (suc t) age (pushed s ss)
  stages_go d t age s [] h hs = tt
  stages_go d t age s (r ∷ ss) h hs =
      (h, stages_go d t (age + 1) r ss (ages t age (word_at d r.back r.value) r.reads r.over hs.0) hs.1)

  pub last_goes : (d : Description) (t age n : ℕ) (s : Stage) (ss : List Stage) → age + length ss ≡ n → IsStage d slots (suc t) age s → AreStages d slots t age ss
      → IsStage d slots (suc t) n (last_stage s ss)
  last_goes d t age n s [] e h hs =
      let at : age ≡ n = omega arith in
      subst (λ m. IsStage d slots (suc t) m s) at h
  last_goes d t age n s (r ∷ ss) e h hs =
      last_goes d t (age + 1) n r ss (omega arith) (ages t age (word_at d r.back r.value) r.reads r.over hs.0) hs.1

pub length-pushed : (s : Stage) (ss : List Stage) → length (pushed s ss) ≡ length ss
length-pushed s [] = refl
length-pushed s (r ∷ ss) = ap suc (length-pushed r ss)

-- ---- this cycle

-- slot k is the one of a place, or the run is over
pub record IsNow (slots : List (Option PortOp)) (k : ℕ) (run : Bool) (slot : Option PortOp) : Type 0 where
  pub on : run ≡ true → (slice_get slots k ≡ Some slot) × (k < length slots)
  pub off : run ≡ false → length slots ≤ k

abbrev pub slot_of_place : Bool → PortOp → Option PortOp
slot_of_place pausing c = if pausing then None else Some c

module _ (slots : List (Option PortOp)) (k : ℕ) where
  -- a command stands in slot k exactly where the run goes on and doesn't pause, and then it is the place's
  pub is_command : (run pausing : Bool) (c o : PortOp) → IsNow slots k run (slot_of_place pausing c) → slice_get slots k ≡ Some (Some o)
      → ((run && not pausing) ≡ true) × (c ≡ o)
  is_command false pausing c o n h =
      let l = n.off refl in let w = slice_get_within slots k (Some o) h in absurd (omega arith)
  is_command true true c o n h =
      let e : ◌≡◌ {A = Option PortOp} None (Some o) = same_Some _ _ (sym (n.on refl).0 ∙ h) in cc
  is_command true false c o n h = (refl, same_Some c o (same_Some (Some c) (Some o) (sym (n.on refl).0 ∙ h)))

  pub has_command : (run pausing : Bool) (c : PortOp) → IsNow slots k run (slot_of_place pausing c) → (run && not pausing) ≡ true
      → slice_get slots k ≡ Some (Some c)
  has_command true false c n h = (n.on refl).0
  has_command true true c n h = cc
  has_command false pausing c n h = cc

  pub enters : (run pausing : Bool) (c : PortOp) → IsNow slots k run (slot_of_place pausing c)
      → IsAged slots (suc (suc k)) 1 ((run && not pausing) && not c.write) (not run) c.word
  enters run pausing c n = record {
    read = λ h. let b = both (run && not pausing) (not c.write) h in
        (k, c, omega arith, record { there = has_command run pausing c n b.0; reads = not-true c.write b.1 }, refl);
    found = λ j o e r. let at : j ≡ k = omega arith in
        let q = is_command run pausing c o n (ap (slice_get slots) (sym at) ∙ r.there) in
        from_both (run && not pausing) (not c.write) q.0 (ap not (ap (λ x. x.write) q.1 ∙ r.reads));
    late = λ h. let l = n.off (not-true run h) in omega arith;
    early = λ h. let l = (n.on (not-false run h)).1 in omega arith;
  }
    where
      both : (x y : Bool) → (x && y) ≡ true → (x ≡ true) × (y ≡ true)
      both true y h = (refl, h)
      both false y h = cc

      from_both : (x y : Bool) → x ≡ true → y ≡ true → (x && y) ≡ true
      from_both true y h e = e
      from_both false y h e = cc

-- ---- the comparison

module _ (slots : List (Option PortOp)) (latency : ℕ) (returned : ℕ → ℕ) (k : ℕ) where
  later : Missed slots latency returned (suc k) → Missed slots latency returned (suc (suc k))
  later m = let l = m.before in record { slot = m.slot; command = m.command; is_read = m.is_read; before = omega arith; differs = m.differs }

  pub fails : (reads over bad : Bool) (want : ℕ) → IsAged slots (suc k) latency reads over want
      → (bad ≡ true → Missed slots latency returned (suc k))
      → compared reads (returned (suc k) == want) bad ≡ true → Missed slots latency returned (suc (suc k))
  fails false over bad want a f h = later (f h)
  fails true over bad want a f h = by_test (returned (suc k) == want) refl h
    where
      by_test : (b : Bool) → (returned (suc k) == want) ≡ b → (if b then bad else true) ≡ true → Missed slots latency returned (suc (suc k))
      by_test true e g = later (f g)
      by_test false e g =
          let r = a.read refl in
          let at : 1 + r.0 + latency ≡ suc k = r.2 in
          record {
            slot = r.0;
            command = r.1;
            is_read = r.3;
            before = omega arith;
            differs = λ same. eqb-false (returned (suc k)) want e (ap returned (sym at) ∙ same ∙ sym r.4);
          }

  pub passes : (reads over bad : Bool) (want : ℕ) → IsAged slots (suc k) latency reads over want
      → (bad ≡ false → Missed slots latency returned (suc k) → ⊥)
      → compared reads (returned (suc k) == want) bad ≡ false → Missed slots latency returned (suc (suc k)) → ⊥
  passes reads over bad want a p h m = by_order (split (1 + m.slot + latency) (suc k) (let l = m.before in omega arith))
    where
      split : (x y : ℕ) → x < suc y → (x < y) ⊎ (x ≡ y)
      split x y l = elim (eqb_tells x y) [ inl q ↦ inr q.1 | inr q ↦ let ne = q.1 in inl (omega arith) ]

      was_good : (r b z : Bool) → compared r z b ≡ false → b ≡ false
      was_good false b z g = g
      was_good true b true g = g
      was_good true b false g = cc

      was_same : (b z : Bool) → compared true z b ≡ false → z ≡ true
      was_same b true g = refl
      was_same b false g = cc

      by_order : (1 + m.slot + latency < suc k) ⊎ (1 + m.slot + latency ≡ suc k) → ⊥
      by_order (inl l) = p (was_good reads bad _ h) (record { slot = m.slot; command = m.command; is_read = m.is_read; before = l; differs = m.differs })
      by_order (inr at) =
          let on = a.found m.slot m.command at m.is_read in
          let r = a.read on in
          let there = r.2 in
          let slot : r.0 ≡ m.slot = omega arith in
          let same : r.1 ≡ m.command = same_Some _ _ (same_Some _ _ (sym r.3.there ∙ ap (slice_get slots) slot ∙ m.is_read.there)) in
          let equal = was_same bad (returned (suc k) == want) (sym (ap (λ b. compared b (returned (suc k) == want) bad) on) ∙ h) in
          m.differs (ap returned at ∙ eqb-true _ _ equal ∙ r.4 ∙ ap (λ c. c.word) same)
