-- The whole module breaks no rule.
use Rattle.std.proofs.Common.{◌≡◌, ℕ, zero, suc, Bool, true, false, cond, not, ◌&&◌, List, [], ◌∷◌, ◌++◌, Option, Some, None, is_none, refl, sym, ap, ◌∙◌, subst, append-nil, append_assoc}
use Rattle.std.specs.Str.{bytes_eq}
use Rattle.verilog_tree.specs.declared.names.Kind.TheVariants as K
use Rattle.verilog_tree.specs.Plain.{statements, ModuleItem, AlwaysItem}
use Rattle.verilog_tree.specs.Names.{Declaration, declarations, item_declarations, port_declarations, lookup, width_of, is_wire, may_be_clock, is_declared_as}
use Rattle.verilog_tree.specs.Rules.{Break, Undriven, first_of, item_break, items_break, is_assigned, is_set, undriven, port_twice, port_clock, first_break}
use Rattle.verilog_tree.proofs.Clean.{declarations_more}
use Rattle.rtl_layout.specs.Plan.{Plan, several, several_bits}
use Rattle.rtl_layout.specs.Layout as L
use Rattle.rtl_layout.specs.Layout.{stage_regs, aged, reads_at, over_at, value_at, end_regs, wires, digit_regs, items_after, self_test}
use Rattle.rtl_layout.specs.Shows.{Ready, Sized}
use Rattle.rtl_layout.proofs.Stages.{Ageless, lookup_behind_one, lookup_behind, reads_ageless, over_ageless, value_ageless, back_ageless}
use Rattle.verilog_tree.proofs.Sound.{GoodSets, good_block, Declares, declares_pass, declares_only, assigns_pass, Apart, fresh_of, two_none}
use Rattle.rtl_layout.proofs.Legal.{declared, names, wide, ageless, block_good, assigns_good}

-- ---- the ages among declarations

one_declares : (wide : Bool) (rest : List ModuleItem) → Declares rest → Declares (L.one_reg wide ++ rest)
one_declares true rest d = (refl, d)
one_declares false rest d = d

stages_declare : (many : Bool) (w i n : ℕ) (rest : List ModuleItem) → Declares rest → Declares (stage_regs many w i n ++ rest)
stages_declare many w i zero rest d = (refl, (refl, d))
stages_declare true w i (suc n) rest d = (refl, (refl, (refl, (refl, stages_declare true w (suc i) n rest d))))
stages_declare false w i (suc n) rest d = (refl, (refl, (refl, stages_declare false w (suc i) n rest d)))

-- names of ages are absent
record Ages (rest : List ModuleItem) : Type 0 where
  no_reads : (j : ℕ) → lookup (item_declarations rest) (reads_at (suc j)) ≡ None
  no_over : (j : ℕ) → lookup (item_declarations rest) (over_at (suc j)) ≡ None
  no_value : (j : ℕ) → lookup (item_declarations rest) (value_at (suc j)) ≡ None
  no_back : (j : ℕ) → lookup (item_declarations rest) (aged L.back (suc j)) ≡ None

one_apart : (wide : Bool) (rest : List ModuleItem) → lookup (item_declarations rest) L.one ≡ None → Apart (item_declarations rest) → Apart (item_declarations (L.one_reg wide ++ rest))
one_apart true rest n h = (n, h)
one_apart false rest n h = h

stages_apart : (many : Bool) (w i n : ℕ) (rest : List ModuleItem) → Ages rest → Apart (item_declarations rest) → Apart (item_declarations (stage_regs many w i n ++ rest))
stages_apart many w i zero rest a h = (a.no_reads i, (a.no_over i, h))
stages_apart true w i (suc n) rest a h = (
  lookup_behind (reads_at (suc i)) true w (suc i) n (reads_ageless i) rest ∙ a.no_reads i,
  (
    lookup_behind (over_at (suc i)) true w (suc i) n (over_ageless i) rest ∙ a.no_over i,
    (
      lookup_behind (value_at (suc i)) true w (suc i) n (value_ageless i) rest ∙ a.no_value i,
      (
        lookup_behind (aged L.back (suc i)) true w (suc i) n (back_ageless i) rest ∙ a.no_back i,
        stages_apart true w (suc i) n rest a h,
      ),
    ),
  ),
)
stages_apart false w i (suc n) rest a h = (
  lookup_behind (reads_at (suc i)) false w (suc i) n (reads_ageless i) rest ∙ a.no_reads i,
  (
    lookup_behind (over_at (suc i)) false w (suc i) n (over_ageless i) rest ∙ a.no_over i,
    (
      lookup_behind (value_at (suc i)) false w (suc i) n (value_ageless i) rest ∙ a.no_value i,
      stages_apart false w (suc i) n rest a h,
    ),
  ),
)

one_assigns : (wide : Bool) (rest : List ModuleItem) (m : List ℕ) → is_assigned (L.one_reg wide ++ rest) m ≡ is_assigned rest m
one_assigns true rest m = refl
one_assigns false rest m = refl

one_driven : (is : List ModuleItem) (wide : Bool) (rest : List ModuleItem) → undriven is (item_declarations (L.one_reg wide ++ rest)) ≡ undriven is (item_declarations rest)
one_driven is true rest = refl
one_driven is false rest = refl

stages_assign : (many : Bool) (w i n : ℕ) (rest : List ModuleItem) (m : List ℕ) → is_assigned (stage_regs many w i n ++ rest) m ≡ is_assigned rest m
stages_assign many w i zero rest m = refl
stages_assign true w i (suc n) rest m = stages_assign true w (suc i) n rest m
stages_assign false w i (suc n) rest m = stages_assign false w (suc i) n rest m

stages_driven : (is : List ModuleItem) (many : Bool) (w i n : ℕ) (rest : List ModuleItem) → undriven is (item_declarations (stage_regs many w i n ++ rest)) ≡ undriven is (item_declarations rest)
stages_driven is many w i zero rest = refl
stages_driven is true w i (suc n) rest = stages_driven is true w (suc i) n rest
stages_driven is false w i (suc n) rest = stages_driven is false w (suc i) n rest

-- each wire is assigned
abbrev Driven : List ModuleItem → List Declaration → Type 0
Driven is [] = Unit {0}
Driven is (d ∷ ds) = ((is_wire d.kind && not (is_assigned is d.name)) ≡ false) × Driven is ds

driven : (is : List ModuleItem) (ds : List Declaration) → Driven is ds → undriven is ds ≡ None
driven is [] h = refl
driven is (d ∷ ds) h = ap (λ t. cond t (Some (Undriven d.name)) (undriven is ds)) h.0 ∙ driven is ds h.1

also : {A B : Type 0} → A → B → A × B
also a b = (a, b)

module _ (p : Plan) (ready : Ready p) (sized : Sized p) where
  abbrev assigns : List ModuleItem
  assigns = L.wire_assigns p ++ L.port_assigns p

  abbrev block : List ModuleItem
  block = AlwaysItem L.clk (statements (L.sets_all p)) ∷ []

  -- the registers of the ages and what is declared behind them
  abbrev Behind : List ModuleItem
  Behind = stage_regs (several p) p.back_width 0 p.delay ++ (end_regs p ++ wires p)

  -- the items, with all declarations first
  pub in_order : declared p ++ (assigns ++ block) ≡ L.items p
  in_order =
      ap (λ l. digit_regs p ++ l)
      (append_assoc (L.one_reg (several_bits p)) Behind (assigns ++ block)
      ∙ ap (λ l. L.one_reg (several_bits p) ++ l) (append_assoc (stage_regs (several p) p.back_width 0 p.delay) (end_regs p ++ wires p) (assigns ++ block)))

  declares : Declares (declared p)
  declares = (refl, (refl, (refl, (refl, (refl, (refl, (refl, one_declares (several_bits p) Behind (stages_declare (several p) p.back_width 0 p.delay (end_regs p ++ wires p) (refl, (refl, (refl, (refl, (refl, (refl, (refl, (refl, (refl, (refl, (refl, (refl, (refl, (refl, (refl, (refl, (refl, (refl, (refl, tt)))))))))))))))))))))))))))

  after : (n : List ℕ) → Ageless 0 n → lookup (item_declarations Behind) n ≡ lookup (item_declarations (end_regs p ++ wires p)) n
  after n f = lookup_behind n (several p) p.back_width 0 p.delay f (end_regs p ++ wires p)

  once : (n : List ℕ) → bytes_eq n L.one ≡ false → ((j : ℕ) → bytes_eq n (reads_at (suc j)) ≡ false) → ((j : ℕ) → bytes_eq n (over_at (suc j)) ≡ false) → ((j : ℕ) → bytes_eq n (value_at (suc j)) ≡ false) → ((j : ℕ) → bytes_eq n (aged L.back (suc j)) ≡ false)
      → lookup (item_declarations (L.one_reg (several_bits p) ++ Behind)) n ≡ lookup (item_declarations (end_regs p ++ wires p)) n
  once n o a b c d = lookup_behind_one n (several_bits p) o Behind ∙ after n (ageless n a b c d)

  pub apart : Apart (names p)
  apart =
      also (once L.clk refl (λ j. refl) (λ j. refl) (λ j. refl) (λ j. refl))
      (also (once L.reset refl (λ j. refl) (λ j. refl) (λ j. refl) (λ j. refl))
      (also (once L.rdata refl (λ j. refl) (λ j. refl) (λ j. refl) (λ j. refl))
      (also (once L.en refl (λ j. refl) (λ j. refl) (λ j. refl) (λ j. refl))
      (also (once L.we refl (λ j. refl) (λ j. refl) (λ j. refl) (λ j. refl))
      (also (once L.addr refl (λ j. refl) (λ j. refl) (λ j. refl) (λ j. refl))
      (also (once L.wdata refl (λ j. refl) (λ j. refl) (λ j. refl) (λ j. refl))
      (also (once L.done refl (λ j. refl) (λ j. refl) (λ j. refl) (λ j. refl))
      (also (once L.fail refl (λ j. refl) (λ j. refl) (λ j. refl) (λ j. refl))
      (also (once L.oper refl (λ j. refl) (λ j. refl) (λ j. refl) (λ j. refl))
      (also (once L.visit refl (λ j. refl) (λ j. refl) (λ j. refl) (λ j. refl))
      (also (once L.element refl (λ j. refl) (λ j. refl) (λ j. refl) (λ j. refl))
      (also (once L.back refl (λ j. refl) (λ j. refl) (λ j. refl) (λ j. refl))
      (also (once L.run refl (λ j. refl) (λ j. refl) (λ j. refl) (λ j. refl))
      (also (once L.last_oper refl (λ j. refl) (λ j. refl) (λ j. refl) (λ j. refl))
      (also (once L.last_visit refl (λ j. refl) (λ j. refl) (λ j. refl) (λ j. refl))
      (one_apart (several_bits p) Behind (after L.one (ageless L.one (λ j. refl) (λ j. refl) (λ j. refl) (λ j. refl)))
      (stages_apart (several p) p.back_width 0 p.delay (end_regs p ++ wires p) (record { no_reads = λ j. refl; no_over = λ j. refl; no_value = λ j. refl; no_back = λ j. refl })
      (refl, (refl, (refl, (refl, (refl, (refl, (refl, (refl, (refl, (refl, (refl, (refl, (refl, (refl, (refl, (refl, (refl, (refl, (refl, tt))))))))))))))))))))))))))))))))))))

  pub all_names : declarations (L.ports p) (L.items p) ≡ names p
  all_names = ap (λ l. declarations (L.ports p) l) (sym in_order) ∙ declarations_more (L.ports p) (declared p) (assigns ++ block) ∙ append-nil (names p)

  ends : (b : List ModuleItem) → declarations (L.ports p) b ≡ names p → ((n : List ℕ) → is_set b n ≡ false) → items_break (wide p) (L.ports p) b block ≡ None
  ends b q s =
      let there : lookup (declarations (L.ports p) b) L.clk ≡ Some (record { name = L.clk; kind = K.Input; width = 1 }) = ap (λ (l : List Declaration). lookup l L.clk) q in
      two_none (item_break (wide p) (L.ports p) b (AlwaysItem L.clk (statements (L.sets_all p)))) None
      (good_block (wide p) (L.ports p) b L.clk (L.sets_all p) refl (ap is_none there) (ap (is_declared_as may_be_clock) there)
      (subst (λ (l : List Declaration). GoodSets (wide p) l (L.sets_all p)) (sym q) (block_good p ready sized)) s)
      refl

  pub items_legal : items_break (wide p) (L.ports p) [] (L.items p) ≡ None
  items_legal =
      subst (λ (l : List ModuleItem). items_break (wide p) (L.ports p) [] l ≡ None) in_order
      (declares_pass (wide p) (L.ports p) [] (declared p) (assigns ++ block) declares (fresh_of (declarations (L.ports p) []) (item_declarations (declared p)) apart)
      (assigns_pass (wide p) (L.ports p) (names p) block ends (declared p) assigns [] refl (λ n. (declares_only (declared p) declares n).0) (λ n. (declares_only (declared p) declares n).1) (assigns_good p ready sized)))

  is_driven : (n : List ℕ) → is_assigned (items_after p) n ≡ true → not (is_assigned (L.items p) n) ≡ false
  is_driven n h = ap not (one_assigns (several_bits p) (stage_regs (several p) p.back_width 0 p.delay ++ items_after p) n ∙ stages_assign (several p) p.back_width 0 p.delay (items_after p) n ∙ h)

  ports_driven : undriven (L.items p) (port_declarations (L.ports p)) ≡ None
  ports_driven = driven (L.items p) (port_declarations (L.ports p))
      (refl, (refl, (refl, (is_driven L.en refl, (is_driven L.we refl, (is_driven L.addr refl, (is_driven L.wdata refl, (is_driven L.done refl, (is_driven L.fail refl, tt)))))))))

  wires_driven : undriven (L.items p) (item_declarations (L.items p)) ≡ None
  wires_driven =
      one_driven (L.items p) (several_bits p) (stage_regs (several p) p.back_width 0 p.delay ++ items_after p)
      ∙ stages_driven (L.items p) (several p) p.back_width 0 p.delay (items_after p)
      ∙ driven (L.items p) (item_declarations (items_after p)) (refl, (refl, all_driven))
    where
      all_driven : Driven (L.items p) (item_declarations (wires p))
      all_driven =
          also (is_driven L.writes refl)
          (also (is_driven L.ones refl)
          (also (is_driven L.ends refl)
          (also (is_driven L.write refl)
          (also (is_driven L.value refl)
          (also (is_driven L.down refl)
          (also (is_driven L.pause refl)
          (also (is_driven L.ends_more refl)
          (also (is_driven L.ends_again refl)
          (also (is_driven L.ends_next refl)
          (also (is_driven L.pause_next refl)
          (also (is_driven L.last_element refl)
          (also (is_driven L.last_back refl)
          (also (is_driven L.live refl)
          (also (is_driven L.index refl)
          (also (is_driven L.pattern refl)
          (also (is_driven L.word refl)
          tt))))))))))))))))

  none_5 : (a b c d e : Option Break) → a ≡ None → b ≡ None → c ≡ None → d ≡ None → e ≡ None → first_of (a ∷ b ∷ c ∷ d ∷ e ∷ []) ≡ None
  none_5 a b c d e p q r s t = rw (p, q, r, s, t) refl

  pub legal : first_break (self_test p) ≡ None
  legal =
      let same_items : items_break (width_of (declarations (L.ports p) (L.items p))) (L.ports p) [] (L.items p) ≡ None =
      subst (λ (l : List Declaration). items_break (width_of l) (L.ports p) [] (L.items p) ≡ None) (sym all_names) items_legal in
      none_5 (port_twice [] (port_declarations (L.ports p))) (port_clock (port_declarations (L.ports p))) _ _ _ refl refl same_items ports_driven wires_driven
