-- One cycle more of a run.
use Rattle.std.proofs.Common.{◌≡◌, ◌≢◌, ◌⊎◌, ℕ, zero, suc, ◌+◌, ◌-◌, ◌<◌, ◌≤◌, ◌^◌, ◌%◌, ◌==◌, Bool, true, false, ◌||◌, cond, get_or, if◌then◌else◌, List, [], ◌∷◌, ◌++◌, map, length, length-append, Option, Some, None, slice_get, refl, sym, ap, ap₂, ◌∙◌, subst, arith, codes, inl, inr}
use Rattle.std.specs.List.{AllByRecursion, filter}
use Rattle.std.specs.Str.{bytes_eq}
use Rattle.std.proofs.lemmas.Slice.Eq.{bytes_eq-Decides}
use Rattle.std.proofs.lemmas.Bool.{cases_lt}
use Rattle.std.proofs.lemmas.Bool.Decides.{eqb_tells, Decides-eqb}
use Rattle.bist_text.specs.ReservedWords.{is_among}
use Rattle.verilog_tree.specs.declared.names.Kind.{Kind}
use Rattle.verilog_tree.specs.declared.names.Kind.TheVariants as K
use Rattle.verilog_tree.specs.Plain.{ModuleTree}
use Rattle.verilog_tree.specs.Names.{Declaration, declarations, is_register, number}
use Rattle.verilog_tree.specs.Meaning.{Env, Given, AllGiven, Settles, next}
use Rattle.march_core.specs.March.{MarchElement, IsMarch}
use Rattle.memory_desc.specs.Descriptions.{Description, IsMemory}
use Rattle.word_march.specs.declared.operations.PortOp.{PortOp}
use Rattle.std.proofs.lemmas.Option.{slice_get_within}
use Rattle.word_march.specs.Commands.{port_ops, command_at, slots, span, cycle_count}
use Rattle.controller.specs.Standing.{Starts}
use Rattle.controller.proofs.Slots.{start}
use Rattle.word_march.specs.PortRule.{PortValues, cycle_of}
use Rattle.word_march.proofs.Ports.{at_more, one_command}
use Rattle.self_test.specs.Ports.{port_values}
use Rattle.controller.specs.States.{State, StandsIn, IsExpected}
use Rattle.verilog_cycle.specs.Nets.{valued}
use Rattle.verilog_cycle.specs.Design.{names, registers_of}
use Rattle.word_device.specs.Ports.{shape_of}
use Rattle.word_device.specs.Boxes.{Tells, Answers, after_cycle}
use Rattle.word_device.specs.Joint.{command_on, returned_word}
use Rattle.word_device.specs.Runs.{IsRight, IsWrong, IsFirstWrong}
use Rattle.bench.specs.declared.ending.Seen.{Seen}
use Rattle.bench.specs.declared.cycle.CycleEnd.{CycleEnd}
use Rattle.bench.specs.declared.run.Watch.{Watch}
use Rattle.bench.specs.Joint.{Between, Turn, Joint, at_first, word_in, ports_in, first_done}
use Rattle.bench.specs.Endings.{IsFirstSeen, Shows, Runs}
use Rattle.bench.specs.inner.Cycles.{Turned, IsFirstSeenBefore, seen_by, done_by, watched_by, unwatched, FirstWatched, Controls, Stage}

-- ---- registers by their list

listed : (xs : List Declaration) (f : Env) (n : List ℕ) → is_among n (names xs) ≡ true → valued (names xs) (map (λ x. f x.name) xs) n ≡ f n
listed [] f n h = cc
listed (x ∷ xs) f n h = by (bytes_eq n x.name) refl (λ g. listed xs f n g)
  where
    here : bytes_eq n x.name ≡ false → is_among n (names xs) ≡ true
    here e = sym (ap (λ t. t || is_among n (names xs)) e) ∙ h

    by : (t : Bool) → bytes_eq n x.name ≡ t → (is_among n (names xs) ≡ true → valued (names xs) (map (λ y. f y.name) xs) n ≡ f n)
        → get_or (f x.name ∷ map (λ y. f y.name) xs) (cond (bytes_eq n x.name) 0 (1 + number (names xs) n)) 0 ≡ f n
    by true e r = ap (λ t. get_or (f x.name ∷ map (λ y. f y.name) xs) (cond t 0 (1 + number (names xs) n)) 0) e ∙ ap f (sym ((bytes_eq-Decides n x.name).0 e))
    by false e r =
        let more : 1 + number (names xs) n ≡ suc (number (names xs) n) = omega arith in
        ap (λ t. get_or (f x.name ∷ map (λ y. f y.name) xs) (cond t 0 (1 + number (names xs) n)) 0) e
        ∙ ap (λ i. get_or (f x.name ∷ map (λ y. f y.name) xs) i 0) more ∙ r (here e)

all_more : (n : List ℕ) (ns : List (List ℕ)) (xs : List Declaration) → AllByRecursion (λ x. is_among x.name ns ≡ true) xs → AllByRecursion (λ x. is_among x.name (n ∷ ns) ≡ true) xs
all_more n ns [] a = tt
all_more n ns (x ∷ xs) a = (more (bytes_eq x.name n) a.0, all_more n ns xs a.1)
  where
    more : (t : Bool) → is_among x.name ns ≡ true → (t || is_among x.name ns) ≡ true
    more true h = refl
    more false h = h

all_among : (xs : List Declaration) → AllByRecursion (λ x. is_among x.name (names xs) ≡ true) xs
all_among [] = tt
all_among (x ∷ xs) = (ap (λ t. t || is_among x.name (names xs)) ((bytes_eq-Decides x.name x.name).1 refl), all_more x.name (names xs) xs (all_among xs))

all_listed : (f : Env) (xs ys : List Declaration) → AllByRecursion (λ x. is_among x.name (names xs) ≡ true) ys
    → AllByRecursion (λ x. valued (names xs) (map (λ y. f y.name) xs) x.name ≡ f x.name) ys
all_listed f xs [] a = tt
all_listed f xs (y ∷ ys) a = (listed xs f y.name a.0, all_listed f xs ys a.1)

-- registers that agree where they are declared settle the same cycles
given_same : (r s ins e : Env) (ds : List Declaration) → AllByRecursion (λ x. r x.name ≡ s x.name) (filter (λ d. is_register d.kind) ds) → AllGiven r ins e ds → AllGiven s ins e ds
given_same r s ins e [] a g = tt
given_same r s ins e (d ∷ ds) a g = by d.kind refl (λ b. given_same r s ins e ds b g.1)
  where
    by : (k : Kind) → d.kind ≡ k → (AllByRecursion (λ x. r x.name ≡ s x.name) (filter (λ d. is_register d.kind) ds) → AllGiven s ins e ds)
        → Given s ins e d.kind d.name × AllGiven s ins e ds
    by K.Input f rest = (
      subst (λ k. Given s ins e k d.name) (sym f) (subst (λ k. Given r ins e k d.name) f g.0),
      rest (subst (λ k. AllByRecursion (λ x. r x.name ≡ s x.name) (if is_register k then d ∷ filter (λ d. is_register d.kind) ds else filter (λ d. is_register d.kind) ds)) f a),
    )
    by K.Wire f rest = (
      subst (λ k. Given s ins e k d.name) (sym f) tt,
      rest (subst (λ k. AllByRecursion (λ x. r x.name ≡ s x.name) (if is_register k then d ∷ filter (λ d. is_register d.kind) ds else filter (λ d. is_register d.kind) ds)) f a),
    )
    by K.Register f rest =
        let b = subst (λ k. AllByRecursion (λ x. r x.name ≡ s x.name) (if is_register k then d ∷ filter (λ d. is_register d.kind) ds else filter (λ d. is_register d.kind) ds)) f a in
        let was : e d.name ≡ r d.name = subst (λ k. Given r ins e k d.name) f g.0 in
        (subst (λ k. Given s ins e k d.name) (sym f) (was ∙ b.0), rest b.1)

settles_same : (mo : ModuleTree) (r s ins e : Env) → AllByRecursion (λ x. r x.name ≡ s x.name) (registers_of mo) → Settles mo r ins e → Settles mo s ins e
settles_same mo r s ins e a h = record { within = h.within; given = given_same r s ins e (declarations mo.ports mo.items) a h.given; equations = h.equations }

-- ---- one environment more

joint_more : (mo : ModuleTree) (d : Description) (t : ℕ) (es : List Env) (e : Env) (s r q : Between) → Joint mo d t es s r → Turn mo d (t + length es) e r q → Joint mo d t (es ++ e ∷ []) s q
joint_more mo d t [] e s r q j h =
    (q, subst (λ (x : Between). Turn mo d t e x q) (sym j) (subst (λ n. Turn mo d n e r q) (let z : t + 0 ≡ t = omega arith in z) h), refl)
joint_more mo d t (x ∷ es) e s r q j h =
    (j.0, j.1, joint_more mo d (suc t) es e j.0 r q j.2 (subst (λ n. Turn mo d n e r q) (let z : t + length (x ∷ es) ≡ suc t + length es = omega arith in z) h))

word_before : (es : List Env) (e : Env) (t : ℕ) → t < length es → word_in (es ++ e ∷ []) t ≡ word_in es t
word_before [] e t h = absurd (omega arith)
word_before (x ∷ es) e zero h = refl
word_before (x ∷ es) e (suc t) h = word_before es e t (omega arith)

word_new : (es : List Env) (e : Env) → word_in (es ++ e ∷ []) (length es) ≡ e (codes "rdata")
word_new [] e = refl
word_new (x ∷ es) e = word_new es e

ports_new : (es : List Env) (e : Env) → ports_in (es ++ e ∷ []) (length es) ≡ port_values e
ports_new [] e = refl
ports_new (x ∷ es) e = ports_new es e

done_more : (k : ℕ) (es : List Env) (e : Env) → first_done k (es ++ e ∷ []) ≡ done_by (first_done k es) (port_values e).done (k + length es)
done_more k [] e = ap (λ n. if (port_values e).done then Some n else None) (let m : k ≡ k + 0 = omega arith in m)
done_more k (x ∷ es) e = by (port_values x).done (done_more (suc k) es e)
  where
    by : (b : Bool) → first_done (suc k) (es ++ e ∷ []) ≡ done_by (first_done (suc k) es) (port_values e).done (suc k + length es)
        → (if b then Some k else first_done (suc k) (es ++ e ∷ [])) ≡ done_by (if b then Some k else first_done (suc k) es) (port_values e).done (k + length (x ∷ es))
    by true h = refl
    by false h = h ∙ ap (done_by (first_done (suc k) es) (port_values e).done) (let m : suc k + length es ≡ k + length (x ∷ es) = omega arith in m)

-- ---- the first wrong read

module _ (march : List MarchElement) (d : Description) where
  -- words that agree before cycle k answer the reads before it alike
  moved_right : (k : ℕ) (v w : ℕ → ℕ) (j : ℕ) → ((t : ℕ) → t < k → w t ≡ v t) → cycle_of march d j + d.latency < k
      → IsRight march d (returned_word march d v) j → IsRight march d (returned_word march d w) j
  moved_right k v w j same h r command e f = same (cycle_of march d j + d.latency) h ∙ r command e f

  earlier : (i j k : ℕ) → i < j → cycle_of march d j + d.latency < k → cycle_of march d i + d.latency < k
  earlier i j k h l = let m = at_more march d i j h in omega arith

  moved_first : (k : ℕ) (v w : ℕ → ℕ) (j : ℕ) → ((t : ℕ) → t < k → w t ≡ v t) → cycle_of march d j + d.latency < k
      → IsFirstWrong march d (returned_word march d v) j → IsFirstWrong march d (returned_word march d w) j
  moved_first k v w j same h f = record {
    wrong = record {
      command = f.wrong.command;
      is_command = f.wrong.is_command;
      is_read = f.wrong.is_read;
      differs = λ z. f.wrong.differs (sym (same (cycle_of march d j + d.latency) h) ∙ z);
    };
    right_before = λ i l. moved_right k v w i same (earlier i j k l h) (f.right_before i l);
  }

  same_command : (j : ℕ) (c x : PortOp) → slice_get (port_ops march d) j ≡ Some c → slice_get (port_ops march d) j ≡ Some x → c ≡ x
  same_command j c x e f = let z : Some c ≡ Some x = sym e ∙ f in cc

  -- no read is answered in cycle k
  none_new : (k : ℕ) (v w : ℕ → ℕ) → ((t : ℕ) → t < k → w t ≡ v t) → IsExpected march d k None
      → IsFirstSeenBefore march d k v None → IsFirstSeenBefore march d (k + 1) w None
  none_new k v w same x f j h command e r = elim (cases_lt (cycle_of march d j + d.latency) k) [
    | inl l ↦ moved_right k v w j same l (f j l) command e r
    | inr l ↦ absurd (x j command e r (omega arith))
  ]

  -- a read is answered in cycle k, by its expected word
  right_new : (k : ℕ) (v w : ℕ → ℕ) (word : ℕ) → ((t : ℕ) → t < k → w t ≡ v t) → IsExpected march d k (Some word) → w k ≡ word
      → IsFirstSeenBefore march d k v None → IsFirstSeenBefore march d (k + 1) w None
  right_new k v w word same x is f j h command e r = elim (cases_lt (cycle_of march d j + d.latency) k) [
    | inl l ↦ moved_right k v w j same l (f j l) command e r
    | inr l ↦ (let at : cycle_of march d j + d.latency ≡ k = omega arith in
        let there = x.4 in
        let one : j ≡ x.0 = one_command march d j x.0 (cycle_of march d j) refl (omega arith) in
        let command_is : x.1 ≡ command = same_command j x.1 command (subst (λ i. slice_get (port_ops march d) i ≡ Some x.1) (sym one) x.2) e in
        ap w at ∙ is ∙ x.5 ∙ ap (λ o. o.word) command_is)
  ]

  -- and by another
  wrong_new : (k : ℕ) (v w : ℕ → ℕ) (word returned : ℕ) → ((t : ℕ) → t < k → w t ≡ v t) → IsExpected march d k (Some word) → w k ≡ returned → word ≢ returned
      → IsFirstSeenBefore march d k v None → IsFirstSeenBefore march d (k + 1) w (Some (record { cycle = k; expected = word; returned = returned }))
  wrong_new k v w word returned same x is other f =
      let at : k ≡ cycle_of march d x.0 + d.latency = x.4 in
      let back : w (cycle_of march d x.0 + d.latency) ≡ returned = ap w (sym at) ∙ is in (
        x.0,
        x.1,
        omega arith,
        record {
          wrong = record { command = x.1; is_command = x.2; is_read = x.3; differs = λ z. other (x.5 ∙ sym z ∙ back) };
          right_before = λ i l. (let before : cycle_of march d i + d.latency < k = (let m = at_more march d i x.0 l in omega arith) in
              moved_right k v w i same before (f i before));
        },
        x.2,
        seen_is k (cycle_of march d x.0 + d.latency) word x.1.word returned (w (cycle_of march d x.0 + d.latency)) at x.5 (sym back),
      )
    where
      seen_is : (k l m n o p : ℕ) → k ≡ l → m ≡ n → o ≡ p → ◌≡◌ {A = Seen} (record { cycle = k; expected = m; returned = o }) (record { cycle = l; expected = n; returned = p })
      seen_is k l m n o p e f g = ap (λ x. record { cycle = x; expected = m; returned = o }) e ∙ ap₂ (λ x y. record { cycle = l; expected = x; returned = y }) f g

  first_new : (k : ℕ) (v w : ℕ → ℕ) (seen : Option Seen) (expected : Option ℕ) (returned : ℕ) → ((t : ℕ) → t < k → w t ≡ v t) → w k ≡ returned
      → IsExpected march d k expected → IsFirstSeenBefore march d k v seen → IsFirstSeenBefore march d (k + 1) w (seen_by seen k expected returned)
  first_new k v w (Some seen) expected returned same is x f =
      let l = f.2 in (
        f.0,
        f.1,
        omega arith,
        moved_first k v w f.0 same f.2 f.3,
        f.4,
        f.5 ∙ ap (λ r. record { cycle = cycle_of march d f.0 + d.latency; expected = f.1.word; returned = r }) (sym (same (cycle_of march d f.0 + d.latency) f.2)),
      )
  first_new k v w None None returned same is x f = none_new k v w same x f
  first_new k v w None (Some word) returned same is x f = elim (eqb_tells word returned) [
    | inl r ↦ subst (λ b. IsFirstSeenBefore march d (k + 1) w (if b then None else Some (record { cycle = k; expected = word; returned = returned }))) (sym r.0)
        (right_new k v w word same x (is ∙ sym r.1) f)
    | inr r ↦ subst (λ b. IsFirstSeenBefore march d (k + 1) w (if b then None else Some (record { cycle = k; expected = word; returned = returned }))) (sym r.0)
        (wrong_new k v w word returned same x is r.1 f)
  ]

-- ---- the stages of a run

pub stage_one : (mo : ModuleTree) (march : List MarchElement) (d : Description) (registers after : List ℕ) (box left : Tells) (end : CycleEnd) (control : State)
    → Turned mo d 0 registers after 0 end.rdata box left end.done end.fail → end.rdata < 2 ^ d.bits
    → ((returned : ℕ → ℕ) → StandsIn march d control returned 0)
    → Stage mo march d registers box 1 after (watched_by unwatched 0 None end) left control
stage_one mo march d registers after box left end control t low c = record {
  cycles = t.env ∷ [];
  left = record { registers = next mo t.env; rdata = end.rdata; box = left };
  joint = (record { registers = next mo t.env; rdata = end.rdata; box = left }, t.turn, refl);
  count = refl;
  some = omega arith;
  registers = t.registers;
  rdata = refl;
  low = low;
  box_is = refl;
  fail = λ n h. (let z : n ≡ 0 = omega arith in t.fail ∙ ap (λ i. (ports_in (t.env ∷ []) i).fail) (sym z));
  done = ap (λ b. if b then Some 0 else None) t.done;
  first = λ j h. absurd (omega arith);
  controls = λ returned n h same. (let z : n ≡ 0 = omega arith in subst (λ i. StandsIn march d control returned i) (sym z) (c returned));
}

pub stage_next : (mo : ModuleTree) (march : List MarchElement) (d : Description) (first_registers : List ℕ) (first_box : Tells) (k : ℕ) (now after : List ℕ)
    (watch : Watch) (box left : Tells) (control stepped : State) (expected : Option ℕ) (end : CycleEnd)
    → Stage mo march d first_registers first_box k now watch box control
    → Turned mo d k now after watch.rdata end.rdata box left end.done end.fail → end.rdata < 2 ^ d.bits
    → ((returned : ℕ → ℕ) (n : ℕ) → StandsIn march d control returned n → IsExpected march d (suc n) expected)
    → ((returned : ℕ → ℕ) (n : ℕ) → returned (suc n) ≡ watch.rdata → StandsIn march d control returned n → StandsIn march d stepped returned (suc n))
    → Stage mo march d first_registers first_box (k + 1) after (watched_by watch k expected end) left stepped
stage_next mo march d first_registers first_box k now after watch box left control stepped expected end s t low x steps = record {
  cycles = s.cycles ++ t.env ∷ [];
  left = gone;
  joint = joint_more mo d 0 s.cycles t.env (at_first (valued (names (registers_of mo)) first_registers) first_box) s.left gone s.joint
      (subst (λ n. Turn mo d n t.env s.left gone) (sym at) turn);
  count = length-append s.cycles (t.env ∷ []) ∙ ap (λ n. n + 1) s.count;
  some = omega arith;
  registers = t.registers;
  rdata = refl;
  low = low;
  box_is = refl;
  fail = λ n h. (let z : n ≡ k = omega arith in
      t.fail ∙ ap (λ q. q.fail) (sym (ports_new s.cycles t.env)) ∙ ap (λ i. (ports_in (s.cycles ++ t.env ∷ []) i).fail) (s.count ∙ sym z));
  done = ap₂ (λ o b. done_by o b k) s.done t.done ∙ ap (done_by (first_done 0 s.cycles) (port_values t.env).done) (sym at) ∙ sym (done_more 0 s.cycles t.env);
  first = first_new march d k (word_in s.cycles) (word_in (s.cycles ++ t.env ∷ [])) watch.first expected watch.rdata same word (expects k s.some refl) s.first;
  controls = λ returned n h agree. stepped_at returned n h agree;
}
  where
    at : 0 + length s.cycles ≡ k
    at = let c = s.count in omega arith

    gone : Between
    gone = record { registers = next mo t.env; rdata = end.rdata; box = left }

    word_is : t.turn.inputs (codes "rdata") ≡ s.left.rdata
    word_is = t.turn.rdata ∙ sym s.rdata

    turn : Turn mo d k t.env s.left (record { registers = next mo t.env; rdata = end.rdata; box = left })
    turn = record {
      inputs = t.turn.inputs;
      reset = t.turn.reset;
      rdata = t.turn.rdata ∙ sym s.rdata;
      settles = settles_same mo (valued (names (registers_of mo)) now) s.left.registers t.turn.inputs t.env
          (subst (λ l. AllByRecursion (λ y. valued (names (registers_of mo)) l y.name ≡ s.left.registers y.name) (registers_of mo)) (sym s.registers)
          (all_listed s.left.registers (registers_of mo) (registers_of mo) (all_among (registers_of mo))))
          t.turn.settles;
      answer = t.turn.answer;
      answers = subst (λ (b : Tells). Answers (Some (shape_of d)) (command_on (port_values t.env)) b t.turn.answer) (sym s.box_is) t.turn.answers;
      left = t.turn.left ∙ ap (λ (b : Tells). record { registers = next mo t.env; rdata = t.turn.answer % 2 ^ d.bits; box = after_cycle (Some (shape_of d)) (command_on (port_values t.env)) b }) (sym s.box_is);
    }

    same : (i : ℕ) → i < k → word_in (s.cycles ++ t.env ∷ []) i ≡ word_in s.cycles i
    same i h = word_before s.cycles t.env i (let c = s.count in omega arith)

    word : word_in (s.cycles ++ t.env ∷ []) k ≡ watch.rdata
    word = ap (word_in (s.cycles ++ t.env ∷ [])) (sym s.count) ∙ word_new s.cycles t.env ∙ t.word

    expects : (i : ℕ) → 1 ≤ i → i ≡ k → IsExpected march d i expected
    expects zero h e = absurd (omega arith)
    expects (suc n) h e = x (word_in s.cycles) n (s.controls (word_in s.cycles) n e (λ i l. refl))

    stepped_at : (returned : ℕ → ℕ) (n : ℕ) → suc n ≡ k + 1 → ((i : ℕ) → i < k + 1 → returned i ≡ word_in (s.cycles ++ t.env ∷ []) i) → StandsIn march d stepped returned n
    stepped_at returned zero h agree = let some = s.some in absurd (omega arith)
    stepped_at returned (suc n) h agree =
        let z : suc n ≡ k = omega arith in
        steps returned n (ap returned z ∙ agree k (omega arith) ∙ word)
        (s.controls returned n z (λ i l. agree i (omega arith) ∙ same i l))

-- the same of what the calls leave
pub stage_first : (mo : ModuleTree) (march : List MarchElement) (d : Description) (registers after : List ℕ) (box left : Tells) (watch : Watch) (control : State)
    → FirstWatched mo d registers after box left watch → ((returned : ℕ → ℕ) → StandsIn march d control returned 0)
    → Stage mo march d registers box 1 after watch left control
stage_first mo march d registers after box left watch control w c =
    subst (λ (x : Watch). Stage mo march d registers box 1 after x left control) (sym w.watch_is)
    (stage_one mo march d registers after box left w.end control w.turned w.low c)

pub stage_more : (mo mo' : ModuleTree) (march : List MarchElement) (d : Description) (first_registers : List ℕ) (first_box : Tells) (k : ℕ) (now after : List ℕ)
    (watch watch' : Watch) (box left : Tells) (control stepped : State) (expected : Option ℕ) (end : CycleEnd)
    → mo' ≡ mo → watch' ≡ watched_by watch k expected end
    → Stage mo march d first_registers first_box k now watch box control
    → Turned mo' d k now after watch.rdata end.rdata box left end.done end.fail → end.rdata < 2 ^ d.bits
    → ((returned : ℕ → ℕ) (n : ℕ) → StandsIn march d control returned n → IsExpected march d (suc n) expected)
    → ((returned : ℕ → ℕ) (n : ℕ) → returned (suc n) ≡ watch.rdata → StandsIn march d control returned n → StandsIn march d stepped returned (suc n))
    → Stage mo march d first_registers first_box (k + 1) after watch' left stepped
stage_more mo mo' march d first_registers first_box k now after watch watch' box left control stepped expected end same is s t low x steps =
    subst (λ (w : Watch). Stage mo march d first_registers first_box (k + 1) after w left stepped) (sym is)
    (stage_next mo march d first_registers first_box k now after watch box left control stepped expected end s
    (subst (λ (m : ModuleTree). Turned m d k now after watch.rdata end.rdata box left end.done end.fail) same t) low x steps)

-- ---- the whole run

-- every read is answered before the last cycle
all_before : (march : List MarchElement) (d : Description) (j : ℕ) (c : PortOp) → IsMarch march → IsMemory d → slice_get (port_ops march d) j ≡ Some c
    → cycle_of march d j + d.latency < cycle_count march d
all_before march d j c m n e =
    let s = start march d m n in
    let within = slice_get_within (slots march d) (command_at march d j) (Some c) (s.stands j c e) in
    let count = s.count in
    omega arith

pub whole : (mo : ModuleTree) (march : List MarchElement) (d : Description) (registers now : List ℕ) (before after : Tells) (k : ℕ) (watch : Watch)
    → IsMarch march → IsMemory d → k ≡ cycle_count march d
    → (control : State) × Stage mo march d registers before k now watch after control
    → Runs mo march d registers now before after watch.fail watch.done_cycle watch.first
whole mo march d registers now before after k watch m n e h =
    let s = h.1 in
    record {
      cycles = s.cycles;
      left = s.left;
      joint = s.joint;
      count = s.count ∙ e;
      registers_are = s.registers;
      box = s.box_is;
      shows = record {
        fail = s.fail (span march d + 1 + d.latency) (omega arith);
        done = s.done;
        first = seen watch.first s.first;
      };
    }
  where
    seen : (o : Option Seen) → IsFirstSeenBefore march d k (word_in h.1.cycles) o → IsFirstSeen march d (word_in h.1.cycles) o
    seen None f = λ j c a b. f j (subst (λ x. cycle_of march d j + d.latency < x) (sym e) (all_before march d j c m n a)) c a b
    seen (Some x) f = (f.0, f.1, f.3, f.4, f.5)
