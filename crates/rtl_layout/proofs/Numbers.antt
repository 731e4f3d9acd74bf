-- In the open run of the module each output has a number, where `rdata` has one whenever it is compared.
use Rattle.std.proofs.Common.{◌≡◌, ℕ, zero, suc, ◌+◌, ◌^◌, ◌<◌, Bool, true, false, cond, List, [], ◌∷◌, ◌++◌, Option, Some, None, refl, sym, ap, ◌∙◌, subst, arith, slice_get, zero-add}
use Rattle.std.proofs.lemmas.Option.{same_Some}
use Rattle.std.proofs.lemmas.Nat.{pow_pos}
use Rattle.verilog_tree.specs.declared.names.Kind.TheVariants as K
use Rattle.verilog_tree.specs.declared.tree.BinOp.TheVariants.{Ne}
use Rattle.verilog_tree.specs.Plain.{Expression, Net, ModuleItem}
use Rattle.verilog_tree.specs.Names.{Declaration, declarations, lookup, is_clk}
use Rattle.verilog_tree.specs.Formed.{formed}
use Rattle.verilog_tree.specs.Meaning.{Env, History, bit, truth, next, names_widths}
use Rattle.verilog_tree.specs.Rules.{first_break}
use Rattle.verilog_tree.specs.Wires.{driver}
use Rattle.verilog_tree.proofs.Clean.{found}
use Rattle.verilog_open.specs.Open.{OpenEnv, open_infixed, open_choice, open_value, open_registers, IsOpenRunOf}
use Rattle.verilog_open.specs.Known.{Known, AreKnown, RegistersKnown}
use Rattle.verilog_open.specs.Laws.{Allows, AllowsEnv}
use Rattle.verilog_open.proofs.Known.{clear_are_known}
use Rattle.verilog_open.proofs.Settling.{by_source, source_of, open_equation_of}
use Rattle.verilog_open.proofs.Runs.{each_allowed}
use Rattle.verilog_open.proofs.Histories.{inputs_from, inputs_at, Lasts, lasts}
use Rattle.rtl_layout.specs.Plan.{Plan, several, several_bits}
use Rattle.rtl_layout.specs.Layout as L
use Rattle.rtl_layout.specs.Shows.{Ready, Sized}
use Rattle.rtl_layout.specs.inner.Shows.{Shows}
use Rattle.rtl_layout.specs.Numbers.{machine_at, one_reset, inputs_with, Tell, NumbersAlways}
use Rattle.rtl_layout.proofs.Clear.{clear, items_clear, inputs_known, no_inputs}
use Rattle.rtl_layout.proofs.Sets.{registers_restarted, registers_kept, want_kept, bad_set}
use Rattle.rtl_layout.proofs.Stages.{Ageless, lookup_behind_one, lookup_behind}
use Rattle.rtl_layout.proofs.Step.{turn, last_is}
use Rattle.rtl_layout.proofs.Resets.{starts}
use Rattle.rtl_layout.proofs.Ranked.{rank, rank_falls}
use Rattle.rtl_layout.proofs.Forms.{is_formed}
use Rattle.rtl_layout.proofs.Whole.{legal}

-- ---- numbers

pub number_in : (o : Option ℕ) → Known o → (v : ℕ) × (o ≡ Some v)
number_in None k = absurd k
number_in (Some v) k = (v, refl)

is_known : (o : Option ℕ) (v : ℕ) → o ≡ Some v → Known o
is_known o v h = subst Known (sym h) tt

chosen_known : (c a b : Option ℕ) → Known c → ((v : ℕ) → c ≡ Some v → truth v ≡ true → Known a) → Known b → Known (open_choice c a b)
chosen_known None a b k x y = absurd k
chosen_known (Some v) a b k x y = by_test (truth v) (x v refl)
  where
    by_test : (t : Bool) → (t ≡ true → Known a) → Known (cond t a b)
    by_test true z = z refl
    by_test false z = y

compared_known : (k : ℕ) (a b : Option ℕ) → Known a → Known b → Known (open_infixed Ne k a b)
compared_known k None b h g = absurd h
compared_known k (Some x) None h g = absurd g
compared_known k (Some x) (Some y) h g = tt

quiet_choice : (c v : Option ℕ) → c ≡ Some 1 → open_choice c (Some 0) v ≡ Some 0
quiet_choice c v h = ap (λ t. open_choice t (Some 0) v) h

awake : (b : Bool) (v : ℕ) → v ≡ bit b → truth v ≡ true → b ≡ true
awake true v h t = refl
awake false v h t = let no : truth v ≡ false = ap truth h in cc

driver_behind : (n : List ℕ) (many : Bool) (w i k : ℕ) (rest : List ModuleItem) → driver (L.stage_regs many w i k ++ rest) n ≡ driver rest n
driver_behind n many w i zero rest = refl
driver_behind n true w i (suc k) rest = driver_behind n true w (suc i) k rest
driver_behind n false w i (suc k) rest = driver_behind n false w (suc i) k rest

driver_behind_one : (n : List ℕ) (wide : Bool) (rest : List ModuleItem) → driver (L.one_reg wide ++ rest) n ≡ driver rest n
driver_behind_one n true rest = refl
driver_behind_one n false rest = refl

module _ (p : Plan) (ready : Ready p) (sized : Sized p) where
  forms : formed (L.self_test p) ≡ true
  forms = is_formed p ready sized

  lawful : first_break (L.self_test p) ≡ None
  lawful = legal p ready sized

  abbrev ws : List ℕ → ℕ
  ws = names_widths (L.self_test p)

  abbrev Ages : List ModuleItem
  Ages = L.stage_regs (several p) p.back_width 0 p.delay ++ L.items_after p

  driven : (n : List ℕ) (x : Expression) → driver (L.items_after p) n ≡ Some x → driver (L.one_reg (several_bits p) ++ Ages) n ≡ Some x
  driven n x h = driver_behind_one n (several_bits p) Ages ∙ driver_behind n (several p) p.back_width 0 p.delay (L.items_after p) ∙ h

  -- ---- the clear names

  module _ (ins run : ℕ → OpenEnv) (r : IsOpenRunOf (L.self_test p) ins run) (resets : (t : ℕ) → ins t L.reset ≡ Some (one_reset t)) where
    reset_is : (t : ℕ) → run t L.reset ≡ Some (one_reset t)
    reset_is t = (r t).given.1.0 refl ∙ resets t

    all_known : (t : ℕ) → RegistersKnown (L.self_test p) clear (open_registers (L.self_test p) run t) → AreKnown clear (run t)
    all_known t known =
        clear_are_known (L.self_test p) forms lawful rank (rank_falls p ready) clear (items_clear p ready) (open_registers (L.self_test p) run t) (ins t) (run t) (r t) known
        (inputs_known p (ins t) (is_known (ins t L.reset) (one_reset t) (resets t)))

    -- after the reset each clear name has a number
    pub known_after : (t : ℕ) → AreKnown clear (run (suc t))
    known_after zero = all_known 1 (registers_restarted p ready (run 0) (reset_is 0))
    known_after (suc t) = all_known (suc (suc t)) (registers_kept p ready (run (suc t)) (known_after t))

    equal : (t : ℕ) (n : List ℕ) (x : Expression) → driver (L.items_after p) n ≡ Some x → run t n ≡ open_value ws (run t) x
    equal t n x h = open_equation_of ws (run t) (L.items p) n x (r t).equations (driven n x h)

    -- in the cycle of the reset nothing is done
    pub quiet : (run 0 L.en ≡ Some 0) × (run 0 L.done ≡ Some 0) × (run 0 L.fail ≡ Some 0)
    quiet = (
      equal 0 L.en (L.gated (Net L.live)) refl ∙ quiet_choice (run 0 L.reset) (run 0 L.live) (reset_is 0),
      equal 0 L.done (L.gated (Net (L.over_at (suc p.delay)))) refl ∙ quiet_choice (run 0 L.reset) (run 0 (L.over_at (suc p.delay))) (reset_is 0),
      equal 0 L.fail (L.gated (Net L.bad)) refl ∙ quiet_choice (run 0 L.reset) (run 0 L.bad) (reset_is 0),
    )

  -- ---- the word that is expected, and what was found

  ageless_want : Ageless 0 L.want
  ageless_want = record { no_reads = λ j l. refl; no_over = λ j l. refl; no_value = λ j l. refl; no_back = λ j l. refl }

  ageless_bad : Ageless 0 L.bad
  ageless_bad = record { no_reads = λ j l. refl; no_over = λ j l. refl; no_value = λ j l. refl; no_back = λ j l. refl }

  want_declared : lookup (declarations (L.ports p) (L.items p)) L.want ≡ Some (record { name = L.want; kind = K.Register; width = p.bits })
  want_declared = lookup_behind_one L.want (several_bits p) refl Ages ∙ lookup_behind L.want (several p) p.back_width 0 p.delay ageless_want (L.items_after p)

  bad_declared : lookup (declarations (L.ports p) (L.items p)) L.bad ≡ Some (record { name = L.bad; kind = K.Register; width = 1 })
  bad_declared = lookup_behind_one L.bad (several_bits p) refl Ages ∙ lookup_behind L.bad (several p) p.back_width 0 p.delay ageless_bad (L.items_after p)

  -- ---- a history with these words

  module _ (words : ℕ → ℕ) (within : (t : ℕ) → words t < 2 ^ p.bits) where
    abbrev IsNarrow : ℕ → Declaration → Type 0
    IsNarrow t d = d.kind ≡ K.Input → is_clk d.name ≡ false → inputs_with words t d.name < 2 ^ d.width

    narrow : (t : ℕ) (d : Declaration) → lookup (declarations (L.ports p) (L.items p)) d.name ≡ Some d → d.kind ≡ K.Input → is_clk d.name ≡ false → inputs_with words t d.name < 2 ^ d.width
    narrow t d q = (found (IsNarrow t) (declarations (L.ports p) (L.items p)) d.name d (
      (λ e k. true_not k),
      (
        (λ e k. reset_low t),
        (
          (λ e k. within t),
          (
            (λ e k. not_input e),
            (
              (λ e k. not_input e),
              (
                (λ e k. not_input e),
                (
                  (λ e k. not_input e),
                  (
                    (λ e k. not_input e),
                    (
                      (λ e k. not_input e),
                      no_inputs (IsNarrow t) (λ d no e k. absurd (no e)) (L.items p),
                    ),
                  ),
                ),
              ),
            ),
          ),
        ),
      ),
    ) q).0
      where
        true_not : {P : Type 0} → true ≡ false → P
        true_not h = cc

        not_input : {P : Type 0} → K.Wire ≡ K.Input → P
        not_input h = cc

        reset_low : (t : ℕ) → one_reset t < 2 ^ 1
        reset_low zero = omega arith
        reset_low (suc t) = omega arith

    pub history_with : (t : ℕ) → Lasts (L.self_test p) (inputs_with words) 0 t (λ n. 0)
    history_with t = lasts (L.self_test p) forms lawful rank (rank_falls p ready) (inputs_with words) narrow t 0 (λ n. 0) (λ n. pow_pos (ws n))

  module _ (words : ℕ → ℕ) (ins run : ℕ → OpenEnv) (tell : Tell p words ins) (r : IsOpenRunOf (L.self_test p) ins run) where
    held : (t : ℕ) (n : List ℕ) (k : ℕ) → lookup (declarations (L.ports p) (L.items p)) n ≡ Some (record { name = n; kind = K.Register; width = k }) → run t n ≡ open_registers (L.self_test p) run t n
    held t n k h =
        source_of (L.self_test p) forms lawful rank (rank_falls p ready) (open_registers (L.self_test p) run t) (ins t) (run t) (r t) n
        ∙ ap (λ d. by_source ws (open_registers (L.self_test p) run t) (ins t) (run t) d (driver (L.items p) n) n) h

    known : (t : ℕ) → AreKnown clear (run (suc t))
    known = known_after ins run r tell.resets

    abbrev beside : (t : ℕ) → Lasts (L.self_test p) (inputs_with words) 0 t (λ n. 0)
    beside t = history_with words tell.within t

    -- a number of the run stands in it
    pub stands_in : (t : ℕ) → AllowsEnv (run t) (beside t).last
    stands_in t =
        each_allowed (L.self_test p) forms lawful rank (rank_falls p ready) ins run r (λ n. 0) (inputs_from (inputs_with words) 0 (suc t)) (beside t).cycles
        (λ k i g. subst (AllowsEnv (ins k)) (sym (inputs_at (inputs_with words) 0 (suc t) k i g ∙ ap (inputs_with words) (zero-add k))) (tell.allows k))
        (beside t).history t (beside t).last (beside t).at

    reads_behind : (t k m : ℕ) (regs e : Env) (es : List Env) → Shows p (machine_at p words k) regs → History (L.self_test p) regs (inputs_from (inputs_with words) (suc k) m) es → slice_get es t ≡ Some e
        → e (L.reads_at (suc p.delay)) ≡ bit (machine_at p words (k + t)).reads
    reads_behind t k zero regs e [] sh h g = cc
    reads_behind t k zero regs e (x ∷ es) sh h g = absurd h
    reads_behind t k (suc m) regs e [] sh h g = absurd h
    reads_behind zero k (suc m) regs e (x ∷ es) sh h g =
        let at : k ≡ k + 0 = omega arith in
        subst (λ (z : ℕ). e (L.reads_at (suc p.delay)) ≡ bit (machine_at p words z).reads) at
        (subst (λ (z : Env). z (L.reads_at (suc p.delay)) ≡ bit (machine_at p words k).reads) (same_Some x e g)
        ((last_is p ready sized regs (inputs_with words (suc k)) x h.0 (machine_at p words k) sh refl).0 ∙ sh.reads_is))
    reads_behind (suc t) k (suc m) regs e (x ∷ es) sh h g =
        let on : suc k + t ≡ k + suc t = omega arith in
        subst (λ (z : ℕ). e (L.reads_at (suc p.delay)) ≡ bit (machine_at p words z).reads) on
        (reads_behind t (suc k) m (next (L.self_test p) x) e es (turn p ready sized regs (inputs_with words (suc k)) x h.0 (machine_at p words k) sh refl) h.1 g)

    -- the machine compares where the module does
    reads_are : (t : ℕ) → (beside (suc t)).last (L.reads_at (suc p.delay)) ≡ bit (machine_at p words t).reads
    reads_are t = first (beside (suc t)).cycles (beside (suc t)).history (beside (suc t)).at
      where
        first : (es : List Env) → History (L.self_test p) (λ n. 0) (inputs_from (inputs_with words) 0 (suc (suc t))) es → slice_get es (suc t) ≡ Some (beside (suc t)).last
            → (beside (suc t)).last (L.reads_at (suc p.delay)) ≡ bit (machine_at p words t).reads
        first [] h g = absurd h
        first (x ∷ es) h g =
            subst (λ (z : ℕ). (beside (suc t)).last (L.reads_at (suc p.delay)) ≡ bit (machine_at p words z).reads) (zero-add t)
            (reads_behind t 0 (suc t) (next (L.self_test p) x) (beside (suc t)).last es (starts p ready (λ n. 0) (inputs_with words 0) x h.0 refl) h.1 g)

    compares : (t v : ℕ) → run (suc t) (L.reads_at (suc p.delay)) ≡ Some v → truth v ≡ true → (machine_at p words t).reads ≡ true
    compares t v h on =
        let here : v ≡ (beside (suc t)).last (L.reads_at (suc p.delay)) = subst (λ (o : Option ℕ). Allows o ((beside (suc t)).last (L.reads_at (suc p.delay)))) h (stands_in (suc t) (L.reads_at (suc p.delay))) in
        awake (machine_at p words t).reads v (here ∙ reads_are t) on

    -- where the machine compares, `want` has a number: not in the first cycle behind the reset
    want_known : (t : ℕ) → (machine_at p words t).reads ≡ true → Known (run (suc t) L.want)
    want_known zero h = cc
    want_known (suc t) h = subst Known (sym (held (suc (suc t)) L.want p.bits want_declared)) (want_kept p ready (run (suc t)) (known t))

    rdata_known : (t : ℕ) → (machine_at p words t).reads ≡ true → Known (run (suc t) L.rdata)
    rdata_known t h = subst Known (sym ((r (suc t)).given.1.1.0 refl)) (tell.answers t h)

    bad_known : (t : ℕ) → Known (run (suc t) L.bad)
    bad_known zero =
        subst Known (sym (held 1 L.bad 1 bad_declared))
        (bad_set p ready (run 0) (is_known (open_value ws (run 0) (L.bad_next p)) 0 (quiet_choice (run 0 L.reset) _ (reset_is ins run r tell.resets 0))))
    bad_known (suc t) =
        let reads = known t (L.reads_at (suc p.delay)) refl in
        let then = chosen_known (run (suc t) (L.reads_at (suc p.delay))) (open_choice (open_infixed Ne (ws L.rdata) (run (suc t) L.rdata) (run (suc t) L.want)) (Some 1) (run (suc t) L.bad)) (run (suc t) L.bad) reads
        (λ v h on.
        let m = compares t v h on in
        chosen_known (open_infixed Ne (ws L.rdata) (run (suc t) L.rdata) (run (suc t) L.want)) (Some 1) (run (suc t) L.bad)
        (compared_known (ws L.rdata) (run (suc t) L.rdata) (run (suc t) L.want) (rdata_known t m) (want_known t m)) (λ w q z. tt) (bad_known t))
        (bad_known t) in
        subst Known (sym (held (suc (suc t)) L.bad 1 bad_declared))
        (bad_set p ready (run (suc t)) (chosen_known (run (suc t) L.reset) (Some 0) _ (known t L.reset refl) (λ v h on. tt) then))

    fail_known : (t : ℕ) → Known (run (suc t) L.fail)
    fail_known t =
        subst Known (sym (equal ins run r tell.resets (suc t) L.fail (L.gated (Net L.bad)) refl))
        (chosen_known (run (suc t) L.reset) (Some 0) (run (suc t) L.bad) (known t L.reset refl) (λ v h on. tt) (bad_known t))

  pub numbers_always : NumbersAlways p
  numbers_always words ins run tell r =
      let known = known_after ins run r tell.resets in
      record {
        quiet = quiet ins run r tell.resets;
        command = λ t. (known t L.en refl, known t L.we refl, known t L.addr refl, known t L.wdata refl);
        ends = λ t. (known t L.done refl, fail_known words ins run tell r t);
      }
