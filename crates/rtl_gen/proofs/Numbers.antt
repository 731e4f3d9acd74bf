-- In the open run of a plan's module each output has the number that the rule of the ports says.
use Rattle.std.proofs.Common.{◌≡◌, ◌≢◌, ℕ, zero, suc, ◌+◌, ◌^◌, ◌<◌, ◌==◌, Bool, true, false, cond, List, [], ◌∷◌, Option, Some, None, refl, sym, ap, ◌∙◌, subst, arith, slice_get, zero-add}
use Rattle.std.specs.Prelude.{slice_index}
use Rattle.std.specs.Str.{bytes_eq}
use Rattle.std.proofs.lemmas.Nat.{pow_pos}
use Rattle.verilog_tree.specs.Meaning.{Env, bit}
use Rattle.march_core.specs.March.{MarchElement, IsMarch}
use Rattle.memory_desc.specs.Descriptions.{Description, IsMemory}
use Rattle.word_march.specs.declared.operations.PortOp.{PortOp}
use Rattle.word_march.specs.Commands.{port_ops}
use Rattle.word_march.specs.PortRule.{PortRule, SomeReadDiffers, cycle_of}
use Rattle.controller.specs.Standing.{Stands}
use Rattle.controller.proofs.Turn.{turns}
use Rattle.controller.proofs.Slots as S
use Rattle.controller.proofs.Steps.{resets, steps}
use Rattle.controller.proofs.Rule.{expected_some}
use Rattle.self_test.specs.Ports.{port_values}
use Rattle.self_test.specs.SelfTest.{reset_at, AreInputs}
use Rattle.self_test.specs.Numbers.{AnswerReads, inputs_at, HasNumbers, CycleHasNumbers, ShowsNumbers}
use Rattle.verilog_open.specs.Open.{OpenEnv, IsOpenRunOf}
use Rattle.verilog_open.specs.Known.{Known}
use Rattle.verilog_open.specs.Laws.{Allows}
use Rattle.verilog_open.proofs.Settling.{one_open_settles}
use Rattle.verilog_open.proofs.Histories.{inputs_from}
use Rattle.rtl_layout.specs.Plan.{Plan}
use Rattle.rtl_layout.specs.Layout as L
use Rattle.rtl_layout.specs.Shows as W
use Rattle.rtl_layout.specs.Numbers.{machine_at, one_reset, inputs_with, Tell}
use Rattle.rtl_layout.proofs.Forms.{is_formed}
use Rattle.rtl_layout.proofs.Whole.{legal}
use Rattle.rtl_layout.proofs.Ranked.{rank, rank_falls}
use Rattle.rtl_layout.proofs.Numbers.{history_with, stands_in, numbers_always}
use Rattle.rtl_gen.specs.inner.Planned.{Plans}
use Rattle.rtl_gen.proofs.Mirror.{seen, place, starts_seen, step_seen}
use Rattle.rtl_gen.proofs.Runs.{self_tested}

-- ---- the rule of the ports looks at the words that answer reads, and at no others

module _ (march : List MarchElement) (d : Description) (f g : ℕ → ℕ) (t : ℕ) where
  abbrev Alike : Type 0
  Alike = (j : ℕ) (command : PortOp) → slice_get (port_ops march d) j ≡ Some command → command.write ≡ false → cycle_of march d j + d.latency < t → f (cycle_of march d j + d.latency) ≡ g (cycle_of march d j + d.latency)

  differs_too : Alike → SomeReadDiffers march d f t → SomeReadDiffers march d g t
  differs_too same r = record {
    number = r.number;
    command = r.command;
    is_command = r.is_command;
    is_read = r.is_read;
    before = r.before;
    differs = λ e. r.differs (same r.number r.command r.is_command r.is_read r.before ∙ e);
  }

rule_of : (march : List MarchElement) (d : Description) (f g : ℕ → ℕ) (t : ℕ) (e : Env) → Alike march d f g t → PortRule march d f t (port_values e) → PortRule march d g t (port_values e)
rule_of march d f g t e same r = record {
  reset = r.reset;
  commands = r.commands;
  idle = r.idle;
  done = r.done;
  fail = λ h. (λ b. differs_too march d f g t same ((r.fail h).0 b), λ m. (r.fail h).1 (differs_too march d g f t (λ j c i w l. sym (same j c i w l)) m));
}

-- ---- words by cycle

abbrev or_zero : Option ℕ → ℕ
or_zero None = 0
or_zero (Some w) = w

pub same_reset : (t : ℕ) → reset_at t ≡ one_reset t
same_reset zero = refl
same_reset (suc t) = refl

abbrev pub words_from : (ℕ → ℕ) → ℕ → ℕ → List ℕ
words_from word t zero = []
words_from word t (suc n) = word t ∷ words_from word (suc t) n

word_in : (word : ℕ → ℕ) (t n k : ℕ) → k < n → slice_index (words_from word t n) k ≡ word (t + k)
word_in word t zero k h = absurd (omega arith)
word_in word t (suc n) zero h = let at : t ≡ t + 0 = omega arith in ap word at
word_in word t (suc n) (suc k) h = let on : suc t + k ≡ t + suc k = omega arith in word_in word (suc t) n k (omega arith) ∙ ap word on

pub are_inputs : (word : ℕ → ℕ) (t n : ℕ) → AreInputs t (words_from word t n) (inputs_from (inputs_with word) t n)
are_inputs word t zero = tt
are_inputs word t (suc n) = (sym (same_reset t), refl, are_inputs word (suc t) n)

-- ---- numbers

pub is_its_bit : (v : ℕ) → v < 2 ^ 1 → v ≡ bit (v == 1)
is_its_bit zero h = refl
is_its_bit (suc zero) h = refl
is_its_bit (suc (suc v)) h = absurd (omega (arith, h))

pub known_is : (o : Option ℕ) (v : ℕ) → Known o → Allows o v → o ≡ Some v
known_is None v k a = absurd k
known_is (Some w) v k a = ap (λ x. Some x) a

not_none : (o : Option ℕ) → o ≢ None → Known o
not_none None h = absurd (h refl)
not_none (Some w) h = tt

returns : (o : Option ℕ) (v : ℕ) → o ≢ None → ((w : ℕ) → o ≡ Some w → v ≡ w) → or_zero o ≡ v
returns None v some h = absurd (some refl)
returns (Some w) v some h = sym (h w refl)

module _ (march : List MarchElement) (d : Description) (p : Plan) (pl : Plans march d p) (is_plan : W.IsPlan p) (m : IsMarch march) (n : IsMemory d) where
  stands_at : (word : ℕ → ℕ) (t : ℕ) → Stands march d word t (seen (machine_at p word t))
  stands_at word zero = subst (Stands march d word 0) (sym (starts_seen march d p pl)) (resets march d word n (S.start march d m n))
  stands_at word (suc t) =
      let c = machine_at p word t in
      let st = stands_at word t in
      subst (Stands march d word (suc t)) (sym (step_seen march d p pl c st.place.element (word (suc t)))) (steps march d word t (seen c) (turns march d (place c) m n st.place) st)

  module _ (words : ℕ → Option ℕ) (answered : AnswerReads march d words) where
    abbrev word : ℕ → ℕ
    word k = or_zero (words k)

    told : (o : Option ℕ) (c r : Bool) (t : ℕ) → Allows (cond c (Some (reset_at t)) (cond r o None)) (cond c (one_reset t) (cond r (or_zero o) 0))
    told o true r t = same_reset t
    told None false true t = tt
    told (Some w) false true t = refl
    told o false false t = tt

    low : (o : Option ℕ) → ((w : ℕ) → o ≡ Some w → w < 2 ^ d.bits) → or_zero o < 2 ^ p.bits
    low None h = pow_pos p.bits
    low (Some w) h = subst (λ (k : ℕ). w < 2 ^ k) (sym pl.bits) (h w refl)

    compared : (t : ℕ) → (machine_at p word t).reads ≡ true → Known (words (suc t))
    compared t on =
        let x = expected_some march d word t (seen (machine_at p word t)) (S.start march d m n) (stands_at word t) on in
        not_none (words (suc t)) (subst (λ (k : ℕ). words k ≢ None) (sym x.4) (answered.reads x.0 x.1 x.2 x.3))

    tell : Tell p word (inputs_at words)
    tell = record {
      resets = λ t. ap (λ x. Some x) (same_reset t);
      allows = λ t k. told (words t) (bytes_eq k L.reset) (bytes_eq k L.rdata) t;
      within = λ t. low (words t) (answered.within t);
      answers = compared;
    }

    module _ (run : ℕ → OpenEnv) (r : IsOpenRunOf (L.self_test p) (inputs_at words) run) (k : ℕ) where
      abbrev last : Env
      last = (history_with p is_plan.ready is_plan.ready.sized word tell.within (suc k)).last

      number : (name : List ℕ) → Known (run (suc k) name) → run (suc k) name ≡ Some (last name)
      number name known = known_is (run (suc k) name) (last name) known (stands_in p is_plan.ready is_plan.ready.sized word (inputs_at words) run tell r (suc k) name)

      one_bit : (name : List ℕ) → last name < 2 ^ 1 → Known (run (suc k) name) → run (suc k) name ≡ Some (bit (last name == 1))
      one_bit name small known = number name known ∙ ap (λ x. Some x) (is_its_bit (last name) small)

      shown : HasNumbers (run (suc k)) (port_values last)
      shown =
          let all = numbers_always p is_plan.ready is_plan.ready.sized word (inputs_at words) run tell r in
          let fits = (history_with p is_plan.ready is_plan.ready.sized word tell.within (suc k)).fits in
          record {
            en = one_bit L.en (fits L.en) (all.command k).0;
            we = one_bit L.we (fits L.we) (all.command k).1;
            addr = number L.addr (all.command k).2;
            wdata = number L.wdata (all.command k).3;
            done = one_bit L.done (fits L.done) (all.ends k).0;
            fail = one_bit L.fail (fits L.fail) (all.ends k).1;
          }

      ruled : (returned : ℕ → ℕ) → ((t w : ℕ) → words t ≡ Some w → returned t ≡ w) → PortRule march d returned (suc k) (port_values last)
      ruled returned agree =
          let b = history_with p is_plan.ready is_plan.ready.sized word tell.within (suc k) in
          let meets = (self_tested march d p pl is_plan m n).meets (λ x. 0) (words_from word 0 (suc (suc k))) (inputs_from (inputs_with word) 0 (suc (suc k))) b.cycles
          (are_inputs word 0 (suc (suc k))) b.history (suc k) last b.at in
          rule_of march d (slice_index (words_from word 0 (suc (suc k)))) returned (suc k) last
          (λ j c is reads early.
          let at = cycle_of march d j + d.latency in
          word_in word 0 (suc (suc k)) at (omega (arith, early)) ∙ ap word (zero-add at) ∙ returns (words at) (returned at) (answered.reads j c is reads) (agree at))
          meets

    cycle : (run : ℕ → OpenEnv) → IsOpenRunOf (L.self_test p) (inputs_at words) run → (t : ℕ) → CycleHasNumbers march d words t (run t)
    cycle run r zero = record {
      reset = λ h. (numbers_always p is_plan.ready is_plan.ready.sized word (inputs_at words) run tell r).quiet;
      later = λ h. absurd (omega arith);
    }
    cycle run r (suc k) = record {
      reset = λ h. absurd (omega arith);
      later = λ h. (port_values (last run r k), shown run r k, ruled run r k);
    }

  pub numbered : ShowsNumbers (L.self_test p) march d
  numbered = record {
    settles = one_open_settles (L.self_test p) (is_formed p is_plan.ready is_plan.ready.sized) (legal p is_plan.ready is_plan.ready.sized) rank (rank_falls p is_plan.ready);
    numbers = cycle;
  }
