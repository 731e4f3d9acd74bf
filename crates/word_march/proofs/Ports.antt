-- The rule of the ports: some ports meet it, those that do agree, and a failure stays.
use Rattle.std.proofs.Common.{◌≡◌, ◌≢◌, ◌↔◌, ◌⊎◌, ℕ, zero, suc, ◌+◌, ◌<◌, ◌≤◌, Bool, true, false, IsTrue, List, [], ◌∷◌, slice_get, Option, Some, None, refl, sym, ◌∙◌, ap, subst, arith, inl, inr}
use Rattle.std.specs.List.{slice_index_or}
use Rattle.std.proofs.lemmas.Bool.{cases_lt}
use Rattle.std.proofs.lemmas.Option.{slice_get_within, slice_get-get_or}
use Rattle.std.proofs.lemmas.Bool.Decides.{eqb_tells}
use Rattle.std.proofs.lemmas.Nat.{mul-le}
use Rattle.march_core.specs.March.{MarchElement}
use Rattle.memory_desc.specs.Descriptions.{Description}
use Rattle.word_march.specs.declared.operations.PortOp.{PortOp}
use Rattle.word_march.specs.Commands.{port_ops, command_count, command_at, span, word_steps, pauses_before}
use Rattle.word_march.specs.PortRule.{PortValues, SomeReadDiffers, PortRule, cycle_of}
use Rattle.word_march.specs.Laws.{Agree}

-- ---- each command has a cycle of its own

before_more : {A : Type 0} (steps : List (Option A)) (j k : ℕ) → j ≤ k → pauses_before steps j ≤ pauses_before steps k
before_more [] j k h = omega arith
before_more (None ∷ steps) j k h = let r = before_more steps j k h in omega arith
before_more (Some o ∷ steps) zero k h = omega arith
before_more (Some o ∷ steps) (suc j) zero h = absurd (omega arith)
before_more (Some o ∷ steps) (suc j) (suc k) h = before_more steps j k (omega arith)

module _ (march : List MarchElement) (d : Description) where
  pub at_more : (j k : ℕ) → j < k → command_at march d j < command_at march d k
  at_more j k h =
      let n = pauses_before (word_steps march d) j in
      let m = pauses_before (word_steps march d) k in
      let l = mul-le d.pause n d.pause m (omega arith) (before_more (word_steps march d) j k (omega arith)) in
      omega arith

  pub one_command : (j k t : ℕ) → t ≡ cycle_of march d j → t ≡ cycle_of march d k → j ≡ k
  one_command j k t e f = elim (cases_lt j k) [
    | inl h ↦ (let l = at_more j k h in absurd (omega arith))
    | inr h ↦ elim (cases_lt k j) [ inl g ↦ (let l = at_more k j g in absurd (omega arith)) | inr g ↦ omega arith ]
  ]

-- ---- whether some number below a bound is one of these

-- the answer of a search, either way
abbrev Found : (ℕ → Type 0) → ℕ → Type 0
Found P n = ((j : ℕ) × (j < n) × P j) ⊎ ((j : ℕ) → j < n → P j → ⊥)

abbrev Decides : Type 0 → Type 0
Decides P = P ⊎ (P → ⊥)

found : (P : ℕ → Type 0) (n : ℕ) → ((j : ℕ) → Decides (P j)) → Found P n
found P zero test = inr (λ j h p. (let z : ⊥ = omega arith in z))
found P (suc n) test = elim (test n) [
  | inl p ↦ inl (n, omega arith, p)
  | inr none ↦ more (found P n test) none
]
  where
    more : Found P n → (P n → ⊥) → Found P (suc n)
    more (inl h) none = (let l = h.1 in inl (h.0, omega arith, h.2))
    more (inr g) none = inr (λ j h p. elim (cases_lt j n) [ inl l ↦ g j l p | inr l ↦ (let same : j ≡ n = omega arith in none (subst P same p)) ])

blank : PortOp
blank = record { write = false; addr = 0; word = 0 }

same_or_not : (m n : ℕ) → Decides (m ≡ n)
same_or_not m n = elim (eqb_tells m n) [ inl r ↦ inl r.1 | inr r ↦ inr r.1 ]

-- a test of what is decided
abbrev Tested : Type 0 → Type 0
Tested P = (b : Bool) × (IsTrue b ↔ P)

tested : (P : Type 0) → Decides P → Tested P
tested P (inl p) = (true, (λ h. p, λ h. refl))
tested P (inr n) = (false, (λ h. (let z : ⊥ = cc in absurd z), λ p. absurd (n p)))

-- bits that say the same are the same
same_bits : (P : Type 0) (a b : Bool) → IsTrue a ↔ P → IsTrue b ↔ P → a ≡ b
same_bits P true b f g = sym (g.1 (f.0 refl))
same_bits P false true f g = f.1 (g.0 refl)
same_bits P false false f g = refl

-- ---- the ports of a cycle

module _ (march : List MarchElement) (d : Description) (returned : ℕ → ℕ) (t : ℕ) where
  -- a command stands in the cycle
  abbrev Stands : ℕ → Type 0
  Stands j = (c : PortOp) × (slice_get (port_ops march d) j ≡ Some c) × (t ≡ cycle_of march d j)

  -- a read was answered by another word
  abbrev Differs : ℕ → Type 0
  Differs j = (c : PortOp) × (slice_get (port_ops march d) j ≡ Some c) × (c.write ≡ false) × (cycle_of march d j + d.latency < t)
      × (returned (cycle_of march d j + d.latency) ≢ c.word)

  stands_or_not : (j : ℕ) (o : Option PortOp) → slice_get (port_ops march d) j ≡ o → Decides (Stands j)
  stands_or_not j None e = inr (λ h. let f = h.1 in let z : ◌≡◌ {A = Option PortOp} None (Some h.0) = sym e ∙ f in cc)
  stands_or_not j (Some c) e = elim (same_or_not t (cycle_of march d j)) [ inl f ↦ inl (c, e, f) | inr n ↦ inr (λ h. n h.2) ]

  same_command : (j : ℕ) (c x : PortOp) → slice_get (port_ops march d) j ≡ Some c → slice_get (port_ops march d) j ≡ Some x → c ≡ x
  same_command j c x e f = let z : Some c ≡ Some x = sym e ∙ f in cc

  word_differs : (j : ℕ) (c : PortOp) → slice_get (port_ops march d) j ≡ Some c → c.write ≡ false → cycle_of march d j + d.latency < t → Decides (Differs j)
  word_differs j c e w l = elim (same_or_not (returned (cycle_of march d j + d.latency)) c.word) [
    | inl same ↦ inr (λ h. h.4 (same ∙ ap (λ x. x.word) (same_command j c h.0 e h.1)))
    | inr n ↦ inl (c, e, w, l, n)
  ]

  late_differs : (j : ℕ) (c : PortOp) → slice_get (port_ops march d) j ≡ Some c → c.write ≡ false → Decides (Differs j)
  late_differs j c e w = elim (cases_lt (cycle_of march d j + d.latency) t) [
    | inl l ↦ word_differs j c e w l
    | inr l ↦ inr (λ h. let k = h.3 in omega arith)
  ]

  read_differs : (j : ℕ) (c : PortOp) (w : Bool) → slice_get (port_ops march d) j ≡ Some c → c.write ≡ w → Decides (Differs j)
  read_differs j c true e w = inr (λ h. let same = ap (λ x. x.write) (same_command j c h.0 e h.1) in let r = h.2 in cc)
  read_differs j c false e w = late_differs j c e w

  differs_or_not : (j : ℕ) (o : Option PortOp) → slice_get (port_ops march d) j ≡ o → Decides (Differs j)
  differs_or_not j None e = inr (λ h. let z : ◌≡◌ {A = Option PortOp} None (Some h.0) = sym e ∙ h.1 in cc)
  differs_or_not j (Some c) e = read_differs j c c.write e refl

  within_count : (j : ℕ) (c : PortOp) → slice_get (port_ops march d) j ≡ Some c → j < command_count march d
  within_count j c e = slice_get_within (port_ops march d) j c e

  some_differs : Found Differs (command_count march d) → Decides (SomeReadDiffers march d returned t)
  some_differs (inl h) = inl (record { number = h.0; command = h.2.0; is_command = h.2.1; is_read = h.2.2; before = h.2.3; differs = h.2.4 })
  some_differs (inr n) = inr (λ s. n s.number (within_count s.number s.command s.is_command) (s.command, s.is_command, s.is_read, s.before, s.differs))

  failed : Tested (SomeReadDiffers march d returned t)
  failed = tested (SomeReadDiffers march d returned t) (some_differs (found Differs (command_count march d) (λ j. differs_or_not j (slice_get (port_ops march d) j) refl)))

  done_or_not : Decides (span march d + 1 + d.latency ≤ t)
  done_or_not = elim (cases_lt t (span march d + 1 + d.latency)) [ inl l ↦ inr (λ h. omega arith) | inr l ↦ inl l ]

  finished : Tested (span march d + 1 + d.latency ≤ t)
  finished = tested (span march d + 1 + d.latency ≤ t) done_or_not

  -- nothing has failed in the cycle of the reset
  none_failed : t ≡ 0 → SomeReadDiffers march d returned t → ⊥
  none_failed e s = let b = s.before in omega arith

  not_so : (P : Type 0) (b : Tested P) → (P → ⊥) → b.0 ≡ false
  not_so P (true, f) n = absurd (n (f.0 refl))
  not_so P (false, f) n = refl

  busy : (j : ℕ) → Stands j → PortValues
  busy j h = record { en = true; we = h.0.write; addr = h.0.addr; wdata = h.0.word; done = finished.0; fail = failed.0 }

  busy_meets : (j : ℕ) (h : Stands j) → PortRule march d returned t (busy j h)
  unfolding busy
  busy_meets j h = record {
    reset = λ e. (let f = h.2 in absurd (omega arith));
    commands = λ k c e f.
        let same : j ≡ k = one_command march d j k t h.2 f in
        let is : h.0 ≡ c = same_command k h.0 c (subst (λ (n : ℕ). slice_get (port_ops march d) n ≡ Some h.0) same h.1) e in
        record { enabled = refl; write = ap (λ x. x.write) is; address = ap (λ x. x.addr) is; word = λ w. ap (λ x. x.word) is };
    idle = λ n. absurd (n j (within_count j h.0 h.1) h.2);
    done = finished.1;
    fail = λ l. failed.1;
  }

  still : PortValues
  still = record { en = false; we = false; addr = 0; wdata = 0; done = finished.0; fail = failed.0 }

  still_meets : ((j : ℕ) → j < command_count march d → Stands j → ⊥) → PortRule march d returned t still
  unfolding still
  still_meets n = record {
    reset = λ e. (refl, not_so (span march d + 1 + d.latency ≤ t) finished (λ h. omega arith), not_so (SomeReadDiffers march d returned t) failed (none_failed e));
    commands = λ j c e f. absurd (n j (within_count j c e) (c, e, f));
    idle = λ n. refl;
    done = finished.1;
    fail = λ l. failed.1;
  }

  searched : Found Stands (command_count march d)
  searched = found Stands (command_count march d) (λ j. stands_or_not j (slice_get (port_ops march d) j) refl)

  some_ports : Found Stands (command_count march d) → (q : PortValues) × PortRule march d returned t q
  some_ports (inl h) = (busy h.0 h.2, busy_meets h.0 h.2)
  some_ports (inr n) = (still, still_meets n)

  pub met : (q : PortValues) × PortRule march d returned t q
  met = some_ports searched

  -- ---- ports that meet the rule agree

  enabled_both : (q r : PortValues) → PortRule march d returned t q → PortRule march d returned t r → Found Stands (command_count march d) → q.en ≡ r.en
  enabled_both q r f g (inl h) = (f.commands h.0 h.2.0 h.2.1 h.2.2).enabled ∙ sym (g.commands h.0 h.2.0 h.2.1 h.2.2).enabled
  enabled_both q r f g (inr n) = f.idle none ∙ sym (g.idle none)
    where
      none : (j : ℕ) → j < command_count march d → t ≢ cycle_of march d j
      none j l e = n j l (slice_index_or (port_ops march d) j blank, slice_get-get_or (port_ops march d) j blank l, e)

  -- in a cycle that enables the memory a command stands, which both carry
  standing : (q : PortValues) → PortRule march d returned t q → q.en ≡ true → Found Stands (command_count march d) → (j : ℕ) × Stands j
  standing q f e (inl h) = (h.0, h.2)
  standing q f e (inr n) = absurd (let i = f.idle none in cc)
    where
      none : (j : ℕ) → j < command_count march d → t ≢ cycle_of march d j
      none j l s = n j l (slice_index_or (port_ops march d) j blank, slice_get-get_or (port_ops march d) j blank l, s)

  same_write : (q r : PortValues) → PortRule march d returned t q → PortRule march d returned t r → (h : (j : ℕ) × Stands j) → q.we ≡ r.we
  same_write q r f g h = (f.commands h.0 h.1.0 h.1.1 h.1.2).write ∙ sym (g.commands h.0 h.1.0 h.1.1 h.1.2).write

  same_address : (q r : PortValues) → PortRule march d returned t q → PortRule march d returned t r → (h : (j : ℕ) × Stands j) → q.addr ≡ r.addr
  same_address q r f g h = (f.commands h.0 h.1.0 h.1.1 h.1.2).address ∙ sym (g.commands h.0 h.1.0 h.1.1 h.1.2).address

  same_word : (q r : PortValues) → PortRule march d returned t q → PortRule march d returned t r → (h : (j : ℕ) × Stands j) → q.we ≡ true
      → q.wdata ≡ r.wdata
  same_word q r f g h w =
      let c = f.commands h.0 h.1.0 h.1.1 h.1.2 in
      let writes = sym c.write ∙ w in
      c.word writes ∙ sym ((g.commands h.0 h.1.0 h.1.1 h.1.2).word writes)

  failed_both : (q r : PortValues) → PortRule march d returned t q → PortRule march d returned t r → q.fail ≡ r.fail
  failed_both q r f g = elim (cases_lt 0 t) [
    | inl l ↦ same_bits (SomeReadDiffers march d returned t) q.fail r.fail (f.fail l) (g.fail l)
    | inr l ↦ (let e : t ≡ 0 = omega arith in (f.reset e).2 ∙ sym (g.reset e).2)
  ]

  pub agree : (q r : PortValues) → PortRule march d returned t q → PortRule march d returned t r → Agree q r
  agree q r f g = record {
    en = enabled_both q r f g searched;
    we = λ e. same_write q r f g (standing q f e searched);
    addr = λ e. same_address q r f g (standing q f e searched);
    wdata = λ e w. same_word q r f g (standing q f e searched) w;
    done = same_bits (span march d + 1 + d.latency ≤ t) q.done r.done f.done g.done;
    fail = failed_both q r f g;
  }

-- ---- a failure stays

still_differs : (march : List MarchElement) (d : Description) (returned : ℕ → ℕ) (t u : ℕ) → t ≤ u → SomeReadDiffers march d returned t → SomeReadDiffers march d returned u
still_differs march d returned t u h s =
    let b = s.before in
    record { number = s.number; command = s.command; is_command = s.is_command; is_read = s.is_read; before = omega arith; differs = s.differs }

pub lasting : (march : List MarchElement) (d : Description) (returned : ℕ → ℕ) (t u : ℕ) (q r : PortValues) → t ≤ u → PortRule march d returned t q
    → PortRule march d returned u r → IsTrue q.fail → IsTrue r.fail
lasting march d returned t u q r h f g e = elim (cases_lt 0 t) [
  | inl l ↦ (g.fail (omega arith)).1 (still_differs march d returned t u h ((f.fail l).0 e))
  | inr l ↦ (let z : t ≡ 0 = omega arith in let n = (f.reset z).2 in let y : ⊥ = cc in absurd y)
]
