-- The test of the parts of a primitive.
use Rattle.std.proofs.Common.{◌≡◌, ◌≢◌, ◌↔◌, ◌<◌, ◌≤◌, ◌-◌, not, ◌&&◌, ◌||◌, ℕ, suc, Bool, true, false, eqb, nat_lt, Option, Some, None, is_some, List, [], ◌∷◌, length, get_or, refl, ap, sym, subst, ◌∙◌, arith}
use Rattle.std.proofs.Math.Bool.{beq}
use Rattle.std.specs.List.{AllByRecursion}
use Rattle.std.proofs.lemmas.Bool.{and_parts, eq-eqb, eqb-true, lt-ltb, le-ltb}
use Rattle.std.proofs.lemmas.Bool.Decides.{nat_tests}
use Rattle.fault_core.specs.declared.primitive.Act.{Act}
use Rattle.fault_core.specs.declared.primitive.Act.TheVariants.{Write, Read, Pause}
use Rattle.fault_core.specs.Primitive.{same_bit}
use Rattle.fault_core.proofs.Tests.{same_bit-equal}
use Rattle.sequence_faults.specs.Primitive.{SequencePrimitive, IsSequence, parts_of, victim_index, last_act, good_after}
use Rattle.sequence_faults.specs.inner.Testing.{is_access, are_accesses, is_empty, is_read, answers, has_parts, answers_well, goes_wrong, sequence_test}

-- the last of some acts
pub last_is : (acts : List Act) (d : Act) → length acts ≢ 0 → last_act acts ≡ Some (get_or acts (length acts - 1) d)
last_is [] d h = absurd (h refl)
last_is (a ∷ []) d h = refl
last_is (a ∷ b ∷ acts) d h = last_is (b ∷ acts) d (omega arith) ∙ ap (λ i. Some (get_or (a ∷ b ∷ acts) i d)) next
  where
    next : suc (length (b ∷ acts) - 1) ≡ length (a ∷ b ∷ acts) - 1
    next = omega arith

same_self : (b : Bool) → same_bit b b ≡ true
same_self true = refl
same_self false = refl

not_true : (b : Bool) → not b ≡ true → b ≡ false
not_true true e = cc
not_true false e = refl

not_more : (m n : ℕ) → nat_lt m n ≡ false → n ≤ m
not_more m n e = grind (arith, nat_tests, e)

is_less : (m n : ℕ) → nat_lt m n ≡ true → m < n
is_less m n e = grind (arith, nat_tests, e)

some_there : (acts : List Act) → not (is_empty acts) ≡ true → 0 < length acts
some_there [] e = cc
some_there (a ∷ acts) e = omega arith

some_test : (acts : List Act) → 0 < length acts → not (is_empty acts) ≡ true
some_test [] h = absurd (omega arith)
some_test (a ∷ acts) h = refl

each_access : (acts : List Act) → are_accesses acts ≡ true → AllByRecursion (λ act. act ≢ Pause) acts
each_access [] e = tt
each_access (act ∷ acts) e = let both = and_parts (is_access act) (are_accesses acts) e in (λ p. (let off : false ≡ true = sym (ap is_access p) ∙ both.0 in cc), each_access acts both.1)

access_test : (act : Act) → act ≢ Pause → is_access act ≡ true
access_test (Write bit) h = refl
access_test Read h = refl
access_test Pause h = absurd (h refl)

accesses_test : (acts : List Act) → AllByRecursion (λ act. act ≢ Pause) acts → are_accesses acts ≡ true
accesses_test [] h = refl
accesses_test (act ∷ acts) h = ap (λ b. b && are_accesses acts) (access_test act h.0) ∙ accesses_test acts h.1

read_is : (o : Option Act) → is_read o ≡ true → o ≡ Some Read
read_is None e = cc
read_is (Some (Write bit)) e = cc
read_is (Some Read) e = refl
read_is (Some Pause) e = cc

wrong_tells : (after good : Bool) (answer : Option Bool) → (not (same_bit after good) || answers answer (not good)) ≡ true → after ≡ good → answer ≡ Some (not good)
wrong_tells true true (Some false) e f = refl
wrong_tells true true (Some true) e f = cc
wrong_tells true true None e f = cc
wrong_tells false false (Some true) e f = refl
wrong_tells false false (Some false) e f = cc
wrong_tells false false None e f = cc
wrong_tells true false answer e f = cc
wrong_tells false true answer e f = cc

wrong_test : (after good : Bool) (answer : Option Bool) → (after ≡ good → answer ≡ Some (not good)) → (not (same_bit after good) || answers answer (not good)) ≡ true
wrong_test true true answer h = ap (λ o. answers o false) (h refl)
wrong_test false false answer h = ap (λ o. answers o true) (h refl)
wrong_test true false answer h = refl
wrong_test false true answer h = refl

-- the same as the code tests it
pub wrong_first : (after good found : Bool) (rest : Bool) → found ≡ good → not (beq after found) ≡ true → not (beq after found) ≡ (not (same_bit after good) || rest)
wrong_first after good found rest e h = h ∙ sym (go after good (ap (λ b. not (beq after b)) (sym e) ∙ h))
  where
    go : (a b : Bool) → not (beq a b) ≡ true → (not (same_bit a b) || rest) ≡ true
    go true true k = cc
    go true false k = refl
    go false true k = refl
    go false false k = cc

pub wrong_next : (after good found : Bool) (answer : Option Bool) → found ≡ good → not (beq after found) ≡ false → answers answer (not found) ≡ (not (same_bit after good) || answers answer (not good))
wrong_next after good found answer e h = ap (λ b. answers answer (not b)) e ∙ go after good (ap (λ b. not (beq after b)) (sym e) ∙ h)
  where
    go : (a b : Bool) → not (beq a b) ≡ false → answers answer (not b) ≡ (not (same_bit a b) || answers answer (not b))
    go true true k = refl
    go true false k = cc
    go false true k = cc
    go false false k = refl

module _ (p : SequencePrimitive) (few : length p.acts ≤ 16) where
  abbrev reads_victim : Bool
  reads_victim = eqb p.actor (victim_index p) && is_read (last_act p.acts)

  abbrev ReadsVictim : Type 0
  ReadsVictim = (p.actor ≡ victim_index p) × (last_act p.acts ≡ Some Read)

  reads_tells : reads_victim ≡ true → ReadsVictim
  reads_tells e =
      let both = and_parts (eqb p.actor (victim_index p)) (is_read (last_act p.acts)) e in (eqb-true p.actor (victim_index p) both.0, read_is (last_act p.acts) both.1)

  reads_test : ReadsVictim → reads_victim ≡ true
  reads_test h = ap (λ b. b && is_read (last_act p.acts)) (eq-eqb p.actor (victim_index p) h.0) ∙ ap is_read h.1

  tells : sequence_test p ≡ true → IsSequence p
  tells e =
      let first = and_parts (has_parts p) (answers_well p && goes_wrong p) e in
      let rest = and_parts (answers_well p) (goes_wrong p) first.1 in
      let parts = and_parts (not (nat_lt 3 (length p.states)) && nat_lt p.actor (length p.states)) (not (is_empty p.acts) && are_accesses p.acts) first.0 in
      let cells = and_parts (not (nat_lt 3 (length p.states))) (nat_lt p.actor (length p.states)) parts.0 in
      let acts = and_parts (not (is_empty p.acts)) (are_accesses p.acts) parts.1 in
      let same : is_some p.answer ≡ reads_victim = same_bit-equal (is_some p.answer) reads_victim rest.0 in
      record {
        few_cells = not_more 3 (length p.states) (not_true _ cells.0);
        actor_there = is_less p.actor (length p.states) cells.1;
        some_acts = some_there p.acts acts.0;
        few_acts = few;
        accesses = each_access p.acts acts.1;
        answered = (λ s. reads_tells (sym same ∙ s), λ h. same ∙ reads_test h);
        wrong = wrong_tells p.after (good_after p) p.answer rest.1;
      }

  answered_test : IsSequence p → answers_well p ≡ true
  answered_test is = go (is_some p.answer) reads_victim refl refl
    where
      go : (a b : Bool) → is_some p.answer ≡ a → reads_victim ≡ b → same_bit (is_some p.answer) reads_victim ≡ true
      go true true e f = rw (e, f) refl
      go false false e f = rw (e, f) refl
      go true false e f = absurd (let clash : false ≡ true = sym f ∙ reads_test (is.answered.0 e) in cc)
      go false true e f = absurd (let clash : false ≡ true = sym e ∙ is.answered.1 (reads_tells f) in cc)

  tested : IsSequence p → sequence_test p ≡ true
  tested is =
      ap (λ b. ((not b && nat_lt p.actor (length p.states)) && (not (is_empty p.acts) && are_accesses p.acts)) && (answers_well p && goes_wrong p)) (le-ltb 3 (length p.states) is.few_cells)
      ∙ ap (λ b. (b && (not (is_empty p.acts) && are_accesses p.acts)) && (answers_well p && goes_wrong p)) (lt-ltb p.actor (length p.states) is.actor_there)
      ∙ ap (λ b. (b && are_accesses p.acts) && (answers_well p && goes_wrong p)) (some_test p.acts is.some_acts)
      ∙ ap (λ b. b && (answers_well p && goes_wrong p)) (accesses_test p.acts is.accesses)
      ∙ ap (λ b. b && goes_wrong p) (answered_test is) ∙ wrong_test p.after (good_after p) p.answer is.wrong

  pub test_tells : (sequence_test p ≡ true) ↔ IsSequence p
  test_tells = (tells, tested)

-- the same of parts that are kept in longer lists
pub told_parts : (states kept : List Bool) (actor : ℕ) (acts held : List Act) (after : Bool) (answer : Option Bool) → kept ≡ states → held ≡ acts → length acts ≤ 16
    → sequence_test (parts_of states actor acts after answer) ≡ true → IsSequence (parts_of kept actor held after answer)
told_parts states kept actor acts held after answer e f few test =
    subst (λ (l : List Bool). IsSequence (parts_of l actor held after answer)) (sym e)
    (subst (λ (l : List Act). IsSequence (parts_of states actor l after answer)) (sym f) ((test_tells (parts_of states actor acts after answer) few).0 test))
