-- Of a module that the generator makes every open run conforms.
use Rattle.std.proofs.Common.{◌≡◌, ℕ, zero, suc, ◌<◌, ◌^◌, Bool, true, false, ◌==◌, if◌then◌else◌, List, [], ◌∷◌, ◌++◌, Option, Some, None, slice_index, codes, refl, sym, ap, ◌∙◌, subst}
use Rattle.std.proofs.lemmas.Nat.{pow_pos}
use Rattle.verilog_tree.specs.Formed.{formed}
use Rattle.verilog_tree.specs.Plain.{ModuleTree}
use Rattle.verilog_tree.specs.Meaning.{Env, bit}
use Rattle.march_core.specs.March.{MarchElement}
use Rattle.memory_desc.specs.Descriptions.{Description}
use Rattle.word_march.specs.PortRule.{PortValues}
use Rattle.self_test.specs.Ports.{port_values}
use Rattle.self_test.specs.SelfTest.{SelfTest}
use Rattle.verilog_open.specs.Open.{OpenEnv}
use Rattle.verilog_open.specs.Known.{Known}
use Rattle.verilog_open.specs.Laws.{Allows, AllowsEnv}
use Rattle.std.proofs.lemmas.Option.{same_Some}
use Rattle.rtl_layout.specs.Plan.{Plan}
use Rattle.rtl_layout.specs.Shows.{IsPlan}
use Rattle.rtl_layout.specs.Layout as L
use Rattle.rtl_layout.proofs.Forms.{is_formed}
use Rattle.rtl_layout.proofs.Ranked.{rank, rank_falls}
use Rattle.port_check.specs.declared.answer.PortAnswer.{PortAnswer}
use Rattle.port_check.specs.declared.answer.PortAnswer.TheVariants as A
use Rattle.port_check.specs.OpenRun.{open_inputs, IsOpenRun}
use Rattle.word_march.specs.Commands.{cycle_count}
use Rattle.port_check.specs.Compared.{PortValue, shows, word_port, compared, Wants, AllShown, IsRight}
use Rattle.port_check.specs.Results.{Reaches}
use Rattle.port_check.specs.Answers.{IsAnswer, AnswerOf}
use Rattle.port_check.proofs.Runs.{the_run, is_run, each_allowed}
use Rattle.port_check.proofs.Answers.{wants_one}
use Rattle.rtl_layout.specs.Numbers.{one_reset, inputs_with}
use Rattle.rtl_layout.proofs.Numbers.{known_after, quiet, history_with}
use Rattle.verilog_open.proofs.Histories.{inputs_from}
use Rattle.rtl_gen.proofs.Numbers.{same_reset, is_its_bit, known_is, words_from, are_inputs}

-- each of these ports has a number
abbrev AllNumbers : OpenEnv → List PortValue → Type 0
AllNumbers o [] = Unit {0}
AllNumbers o (p ∷ ps) = Known (o p.name) × AllNumbers o ps

-- ports that are clear
clear_numbers : (o : OpenEnv) → Known (o (codes "en")) → Known (o (codes "we")) → Known (o (codes "addr")) → Known (o (codes "wdata")) → Known (o (codes "done")) → (q : PortValues) → AllNumbers o (compared q)
clear_numbers o en we addr wdata done q = (en, commands q.en)
  where
    words : (t : Bool) → AllNumbers o ((if t then shows (codes "wdata") q.wdata ∷ [] else []) ++ shows (codes "done") (bit q.done) ∷ [])
    words true = (wdata, (done, tt))
    words false = (done, tt)

    commands : (t : Bool) → AllNumbers o ((if t then shows (codes "we") (bit q.we) ∷ shows (codes "addr") q.addr ∷ word_port q else []) ++ shows (codes "done") (bit q.done) ∷ [])
    commands true = (we, (addr, words q.we))
    commands false = (done, tt)

idle_numbers : (o : OpenEnv) → Known (o (codes "en")) → Known (o (codes "done")) → (q : PortValues) → q.en ≡ false → AllNumbers o (compared q)
idle_numbers o en done q h = (en, commands q.en h)
  where
    commands : (t : Bool) → t ≡ false → AllNumbers o ((if t then shows (codes "we") (bit q.we) ∷ shows (codes "addr") q.addr ∷ word_port q else []) ++ shows (codes "done") (bit q.done) ∷ [])
    commands true e = cc
    commands false e = (done, tt)

-- ---- the ports of a history

-- each of these ports has this value
abbrev AllHave : Env → List PortValue → Type 0
AllHave e [] = Unit {0}
AllHave e (p ∷ ps) = (e p.name ≡ p.value) × AllHave e ps

values_have : (e : Env) → e (codes "en") < 2 ^ 1 → e (codes "we") < 2 ^ 1 → e (codes "done") < 2 ^ 1 → AllHave e (compared (port_values e))
values_have e en we done = (is_its_bit (e (codes "en")) en, commands (port_values e).en)
  where
    q : PortValues
    q = port_values e

    words : (t : Bool) → AllHave e ((if t then shows (codes "wdata") (e (codes "wdata")) ∷ [] else []) ++ shows (codes "done") (bit (e (codes "done") == 1)) ∷ [])
    words true = (refl, (is_its_bit (e (codes "done")) done, tt))
    words false = (is_its_bit (e (codes "done")) done, tt)

    commands : (t : Bool) → AllHave e ((if t then shows (codes "we") (bit (e (codes "we") == 1)) ∷ shows (codes "addr") (e (codes "addr")) ∷ word_port (port_values e) else []) ++ shows (codes "done") (bit (e (codes "done") == 1)) ∷ [])
    commands true = (is_its_bit (e (codes "we")) we, (refl, words (port_values e).we))
    commands false = (is_its_bit (e (codes "done")) done, tt)

-- numbers that a history has are those of the run
all_shown : (o : OpenEnv) (e : Env) → AllowsEnv o e → (ps : List PortValue) → AllNumbers o ps → AllHave e ps → AllShown o ps
all_shown o e a [] k h = tt
all_shown o e a (p ∷ ps) k h = (known_is (o p.name) p.value k.0 (subst (Allows (o p.name)) h.0 (a p.name)), all_shown o e a ps k.1 h.1)

shown_at : (o : OpenEnv) (before : List PortValue) (p : PortValue) (behind : List PortValue) → AllShown o (before ++ p ∷ behind) → o p.name ≡ Some p.value
shown_at o [] p behind h = h.0
shown_at o (q ∷ before) p behind h = shown_at o before p behind h.1

module _ (march : List MarchElement) (d : Description) (p : Plan) (plan : IsPlan p) (test : SelfTest (L.self_test p) march d) (run : ℕ → OpenEnv) (r : IsOpenRun (L.self_test p) run) where
  forms : formed (L.self_test p) ≡ true
  forms = is_formed p plan.ready plan.ready.sized

  resets : (t : ℕ) → open_inputs t L.reset ≡ Some (one_reset t)
  resets t = ap (λ (x : ℕ). Some x) (same_reset t)

  -- each compared port has a number
  numbers : (t : ℕ) (ps : List PortValue) → Wants march d t ps → AllNumbers (run t) ps
  numbers zero ps w =
      let q = quiet p plan.ready plan.ready.sized open_inputs run r resets in
      subst (AllNumbers (run 0)) (sym w.are) (idle_numbers (run 0) (subst Known (sym q.0) tt) (subst Known (sym q.1) tt) w.ports (w.meets.reset refl).0)
  numbers (suc t) ps w =
      let known = known_after p plan.ready plan.ready.sized open_inputs run r resets t in
      subst (AllNumbers (run (suc t))) (sym w.are) (clear_numbers (run (suc t)) (known L.en refl) (known L.we refl) (known L.addr refl) (known L.wdata refl) (known L.done refl) w.ports)

  -- and it is the one that the rule wants, which a history has
  right : (t : ℕ) → IsRight march d t (run t)
  right t ps w =
      let words : ℕ → ℕ = λ _. 0 in
      let list = words_from words 0 (suc t) in
      let l = history_with p plan.ready plan.ready.sized words (λ _. pow_pos p.bits) t in
      let meets = test.meets (λ n. 0) list (inputs_from (inputs_with words) 0 (suc t)) l.cycles (are_inputs words 0 (suc t)) l.history t l.last l.at in
      let same = wants_one march d t ps (compared (port_values l.last)) w (record { returned = slice_index list; ports = port_values l.last; meets = meets; are = refl }) in
      let have : AllHave l.last ps = subst (AllHave l.last) (sym same) (values_have l.last (l.fits L.en) (l.fits L.we) (l.fits L.done)) in
      let allowed = each_allowed (L.self_test p) forms test.legal rank (rank_falls p plan.ready) run r (λ n. 0) list (inputs_from (inputs_with words) 0 (suc t)) l.cycles (are_inputs words 0 (suc t)) l.history t l.last l.at in
      all_shown (run t) l.last allowed ps (numbers t ps w) have

  reached : (t : ℕ) (q : PortValue) → Reaches march d run t q → run t q.name ≡ Some q.value
  reached t q h = shown_at (run t) h.before q h.behind (right t (h.before ++ q ∷ h.behind) h.wants)

  unlike : {P : Type 0} (o : Option ℕ) (v : ℕ) → o ≡ Some v → o ≡ None → P
  unlike o v h g = let z : Some v ≡ None = sym h ∙ g in cc

  pub conforms : (a : PortAnswer) → AnswerOf march d run a → a ≡ A.Conforms (cycle_count march d)
  conforms (A.Conforms c) h = ap (λ (n : ℕ). A.Conforms n) h.0
  conforms (A.Differs t port x g) h = absurd (h.differs (same_Some g x (sym h.has ∙ reached t (shows port.bytes x) h.reaches)))
  conforms (A.Unknown t port) h = unlike (run t port.bytes) h.0 (reached t (shows port.bytes h.0) h.1.reaches) h.1.unknown

pub generated_conform : (march : List MarchElement) (d : Description) (p : Plan) → IsPlan p → SelfTest (L.self_test p) march d
    → IsAnswer (L.self_test p) march d (A.Conforms (cycle_count march d)) × ((a : PortAnswer) → IsAnswer (L.self_test p) march d a → a ≡ A.Conforms (cycle_count march d))
generated_conform march d p plan test =
    let forms = is_formed p plan.ready plan.ready.sized in
    let run = the_run (L.self_test p) forms test.legal rank (rank_falls p plan.ready) in
    let r = is_run (L.self_test p) forms test.legal rank (rank_falls p plan.ready) in (
      record { run = run; is_run = r; is = (refl, λ t l. right march d p plan test run r t) },
      λ a h. conforms march d p plan test h.run h.is_run a h.is,
    )

-- the same of a module that is made of a plan
pub layout_conforms : (march : List MarchElement) (d : Description) (mo : ModuleTree) → (p : Plan) × IsPlan p × (mo ≡ L.self_test p) → SelfTest mo march d
    → IsAnswer mo march d (A.Conforms (cycle_count march d)) × ((a : PortAnswer) → IsAnswer mo march d a → a ≡ A.Conforms (cycle_count march d))
layout_conforms march d mo (p, plan, same) test =
    subst (λ (x : ModuleTree). IsAnswer x march d (A.Conforms (cycle_count march d)) × ((a : PortAnswer) → IsAnswer x march d a → a ≡ A.Conforms (cycle_count march d))) (sym same)
    (generated_conform march d p plan (subst (λ (x : ModuleTree). SelfTest x march d) same test))
