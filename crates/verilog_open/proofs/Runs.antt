-- There is one open run, and what it has every history has of which it knows less.
use Rattle.std.proofs.Common.{◌≡◌, true, ℕ, zero, suc, ◌+◌, List, [], ◌∷◌, Option, Some, None, refl, sym, ◌∙◌, subst, arith, slice_get, zero-add}
use Rattle.std.proofs.lemmas.Option.{same_Some}
use Rattle.verilog_tree.specs.Plain.{ModuleTree}
use Rattle.verilog_tree.specs.Names.{is_clk}
use Rattle.verilog_tree.specs.Formed.{formed}
use Rattle.verilog_tree.specs.Meaning.{Env, History, next, names_widths}
use Rattle.verilog_tree.specs.Rules.{first_break}
use Rattle.verilog_tree.specs.Wires.{Falls}
use Rattle.verilog_tree.proofs.Settling.{narrowed}
use Rattle.verilog_open.specs.Open.{OpenEnv, OpenSettles, open_next, nothing, open_registers, IsOpenRunOf}
use Rattle.verilog_open.specs.Laws.{AllowsEnv}
use Rattle.verilog_open.proofs.Edges.{next_allows}
use Rattle.verilog_open.proofs.Settling.{one_open_settles, settled_allows}

none_is_some : {P : Type 0} (e : Env) → ◌≡◌ {A = Option Env} None (Some e) → P
none_is_some e h = cc

module _ (mo : ModuleTree) (f : formed mo ≡ true) (h : first_break mo ≡ None) (rank : List ℕ → ℕ) (falls : Falls rank mo.items) (ins : ℕ → OpenEnv) where
  -- the run, cycle by cycle
  abbrev pub the_run : ℕ → OpenEnv
  the_run zero = (one_open_settles mo f h rank falls nothing (ins zero)).env
  the_run (suc t) = (one_open_settles mo f h rank falls (open_next mo (the_run t)) (ins (suc t))).env

  pub is_run : IsOpenRunOf mo ins the_run
  is_run zero = (one_open_settles mo f h rank falls nothing (ins zero)).settles
  is_run (suc t) = (one_open_settles mo f h rank falls (open_next mo (the_run t)) (ins (suc t))).settles

  only_env : (regs at o p : OpenEnv) → OpenSettles mo regs at o → OpenSettles mo regs at p → o ≡ p
  only_env regs at o p s t =
      let one = one_open_settles mo f h rank falls regs at in
      let same : (n : List ℕ) → o n ≡ p n = λ n. one.only o s n ∙ sym (one.only p t n) in
      λ i n. same n i

  pub one_run : (run other : ℕ → OpenEnv) → IsOpenRunOf mo ins run → IsOpenRunOf mo ins other → (t : ℕ) → run t ≡ other t
  one_run run other a b zero = only_env nothing (ins zero) (run zero) (other zero) (a zero) (b zero)
  one_run run other a b (suc t) =
      let s = subst (λ (o : OpenEnv). OpenSettles mo (open_next mo o) (ins (suc t)) (run (suc t))) (one_run run other a b t) (a (suc t)) in
      only_env (open_next mo (other t)) (ins (suc t)) (run (suc t)) (other (suc t)) s (b (suc t))

  -- from any cycle on
  allowed : (run : ℕ → OpenEnv) → IsOpenRunOf mo ins run → (t : ℕ) (regs : Env) (is es : List Env) → AllowsEnv (open_registers mo run t) regs → ((k : ℕ) (i : Env) → slice_get is k ≡ Some i → AllowsEnv (ins (t + k)) i)
      → History mo regs is es → (k : ℕ) (e : Env) → slice_get es k ≡ Some e → AllowsEnv (run (t + k)) e
  allowed run r t regs [] [] a i hi k e g = none_is_some e g
  allowed run r t regs [] (e0 ∷ es) a i hi k e g = absurd hi
  allowed run r t regs (j ∷ is) [] a i hi k e g = absurd hi
  allowed run r t regs (j ∷ is) (e0 ∷ es) a i hi zero e g =
      let at : t ≡ t + 0 = omega arith in
      let given = subst (λ (z : ℕ). AllowsEnv (ins z) j) (sym at) (i 0 j refl) in
      let here = settled_allows mo f h rank falls (open_registers mo run t) (ins t) (run t) regs j e0 a given (r t) hi.0 in
      subst (λ (z : ℕ). AllowsEnv (run z) e) at (subst (AllowsEnv (run t)) (same_Some e0 e g) here)
  allowed run r t regs (j ∷ is) (e0 ∷ es) a i hi (suc k) e g =
      let at : t ≡ t + 0 = omega arith in
      let given = subst (λ (z : ℕ). AllowsEnv (ins z) j) (sym at) (i 0 j refl) in
      let here = settled_allows mo f h rank falls (open_registers mo run t) (ins t) (run t) regs j e0 a given (r t) hi.0 in
      let more = next_allows mo f h (run t) e0 here (λ m. narrowed (is_clk m) (e0 m) (names_widths mo m) (hi.0.within m)) in
      let behind : suc t + k ≡ t + suc k = omega arith in
      subst (λ (z : ℕ). AllowsEnv (run z) e) behind
      (allowed run r (suc t) (next mo e0) is es more (λ n x q. let on : t + suc n ≡ suc t + n = omega arith in subst (λ (z : ℕ). AllowsEnv (ins z) x) on (i (suc n) x q)) hi.1 k e g)

  -- each environment of such a history is allowed by the open run's in its cycle
  pub each_allowed : (run : ℕ → OpenEnv) → IsOpenRunOf mo ins run → (regs : Env) (is es : List Env) → ((t : ℕ) (i : Env) → slice_get is t ≡ Some i → AllowsEnv (ins t) i)
      → History mo regs is es → (t : ℕ) (e : Env) → slice_get es t ≡ Some e → AllowsEnv (run t) e
  each_allowed run r regs is es i hi t e g =
      let here : (n : ℕ) → 0 + n ≡ n = λ n. zero-add n in
      subst (λ (z : ℕ). AllowsEnv (run z) e) (here t) (allowed run r 0 regs is es (λ n. tt) (λ n x q. subst (λ (z : ℕ). AllowsEnv (ins z) x) (sym (here n)) (i n x q)) hi t e g)
