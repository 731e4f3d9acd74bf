-- What the block of the module sets in an open cycle: after the reset each clear register has a number, and keeps one.
use Rattle.std.proofs.lemmas.Slice.Eq.{bytes_eq-Decides}
use Rattle.std.specs.Str.{bytes_eq}
use Rattle.std.proofs.Common.{arith, ◌≡◌, ℕ, zero, suc, Bool, true, false, cond, nat_lt, nat_eq, List, [], ◌∷◌, ◌++◌, Option, Some, refl, sym, ap, ◌∙◌, subst, inl, inr, ◌⊎◌, append-nil}
use Rattle.verilog_tree.specs.declared.names.Kind.TheVariants as K
use Rattle.verilog_tree.specs.Plain.{Expression, Net, Literal, Conditional, Statement, SetTo, IfElse, CaseOf, statements, ModuleItem}
use Rattle.verilog_tree.specs.Names.{Declaration, declarations, item_declarations}
use Rattle.verilog_tree.specs.Meaning.{names_widths, last_set}
use Rattle.verilog_tree.proofs.Clean.{Each, found}
use Rattle.verilog_open.specs.Open.{OpenEnv, open_choice, open_value, open_sets, open_block_sets, open_next}
use Rattle.verilog_open.specs.Known.{Known, AreKnown, RegistersKnown, SetsKnown, IsGiven}
use Rattle.verilog_open.proofs.Known.{known_value, known_last, known_given}
use Rattle.verilog_tree.specs.Meaning.{bit}
use Rattle.rtl_layout.specs.Plan.{Plan, several, several_bits}
use Rattle.rtl_layout.specs.Shows.{Ready}
use Rattle.rtl_layout.specs.Layout as L
use Rattle.rtl_layout.proofs.Ranked.{Under, also, element_under, next_under, in_row_under, pattern_under}
use Rattle.rtl_layout.proofs.Stages.{Ageless, later}
use Rattle.rtl_layout.proofs.Clear.{clear, taint, uses_clear, not_true}

-- ---- statements that set clear names by clear names, and to a literal at the reset

-- a choice of a literal at the reset
abbrev Restarts : Expression → Type 0
Restarts (Conditional (Net n) (Literal b) y) = n ≡ L.reset
Restarts other = ⊥

abbrev pub PureSets : List Statement → Type 0
PureSets [] = Unit {0}
PureSets (SetTo n x ∷ ss) = (clear n ≡ true → Under taint 1 x × Restarts x) × PureSets ss
PureSets (IfElse c a b ∷ ss) = ⊥
PureSets (CaseOf x as' d ∷ ss) = ⊥

-- the name is set
abbrev pub IsSet : List ℕ → List Statement → Type 0
IsSet n [] = ⊥
IsSet n (SetTo k x ∷ ss) = (n ≡ k) ⊎ IsSet n ss
IsSet n (other ∷ ss) = IsSet n ss

restarted : (w : List ℕ → ℕ) (o : OpenEnv) (x : Expression) → Restarts x → o L.reset ≡ Some 1 → Known (open_value w o x)
restarted w o (Conditional (Net n) (Literal b) y) r h = subst (λ (c : Option ℕ). Known (open_choice c (Some b.value) (open_value w o y))) (sym (ap o r ∙ h)) tt
restarted w o other r h = absurd r

clear_at : (n k : List ℕ) → n ≡ k → clear n ≡ true → clear k ≡ true
clear_at n k e c = subst (λ (j : List ℕ). clear j ≡ true) e c

sets_known : (w : List ℕ → ℕ) (o : OpenEnv) → AreKnown clear o → (n : List ℕ) → clear n ≡ true → (ss : List Statement) → PureSets ss → SetsKnown n (open_sets w o (statements ss))
sets_known w o all n c [] h = tt
sets_known w o all n c (SetTo k x ∷ ss) h =
    ((λ e. known_value w o x (λ m u. all m (uses_clear x m (h.0 (clear_at n k e c)).0 u))), sets_known w o all n c ss h.1)
sets_known w o all n c (IfElse x a b ∷ ss) h = absurd h
sets_known w o all n c (CaseOf x as' d ∷ ss) h = absurd h

sets_restarted : (w : List ℕ → ℕ) (o : OpenEnv) → o L.reset ≡ Some 1 → (n : List ℕ) → clear n ≡ true → (ss : List Statement) → PureSets ss → SetsKnown n (open_sets w o (statements ss))
sets_restarted w o now n c [] h = tt
sets_restarted w o now n c (SetTo k x ∷ ss) h = ((λ e. restarted w o x (h.0 (clear_at n k e c)).1 now), sets_restarted w o now n c ss h.1)
sets_restarted w o now n c (IfElse x a b ∷ ss) h = absurd h
sets_restarted w o now n c (CaseOf x as' d ∷ ss) h = absurd h

set_given : (w : List ℕ → ℕ) (o : OpenEnv) (n : List ℕ) (ss : List Statement) → PureSets ss → IsSet n ss → IsGiven n (open_sets w o (statements ss))
set_given w o n [] h s = absurd s
set_given w o n (SetTo k x ∷ ss) h s = elim s [ inl e ↦ inl e | inr r ↦ inr (set_given w o n ss h.1 r) ]
set_given w o n (IfElse x a b ∷ ss) h s = absurd h
set_given w o n (CaseOf x as' d ∷ ss) h s = absurd h

-- ---- the block

-- only the block sets
blocks_behind : (w : List ℕ → ℕ) (o : OpenEnv) (many : Bool) (k i n : ℕ) (rest : List ModuleItem) → open_block_sets w o (L.stage_regs many k i n ++ rest) ≡ open_block_sets w o rest
blocks_behind w o many k i zero rest = refl
blocks_behind w o true k i (suc n) rest = blocks_behind w o true k (suc i) n rest
blocks_behind w o false k i (suc n) rest = blocks_behind w o false k (suc i) n rest

one_blocks_none : (w : List ℕ → ℕ) (o : OpenEnv) (wide : Bool) (rest : List ModuleItem) → open_block_sets w o (L.one_reg wide ++ rest) ≡ open_block_sets w o rest
one_blocks_none w o true rest = refl
one_blocks_none w o false rest = refl

module _ (p : Plan) where
  abbrev w : List ℕ → ℕ
  w = names_widths (L.self_test p)

  next_is : (o : OpenEnv) (n : List ℕ) → open_next (L.self_test p) o n ≡ last_set n (open_sets w o (statements (L.sets_all p))) (o n)
  next_is o n =
      ap (λ l. last_set n l (o n))
      (one_blocks_none w o (several_bits p) (L.stage_regs (several p) p.back_width 0 p.delay ++ L.items_after p) ∙ blocks_behind w o (several p) p.back_width 0 p.delay (L.items_after p) ∙ append-nil (open_sets w o (statements (L.sets_all p))))

-- the ages take what is clear
ages_pure : (many : Bool) (k i n : ℕ) (rest : List Statement) → PureSets rest → PureSets (L.stage_sets many k i n ++ rest)
ages_pure many k zero zero rest h = ((λ c. ((refl, tt, (refl, tt, refl)), refl)), ((λ c. ((refl, tt, refl), refl)), h))
ages_pure many k (suc i) zero rest h = ((λ c. ((refl, tt, refl), refl)), ((λ c. ((refl, tt, refl), refl)), h))
ages_pure true k zero (suc n) rest h =
    ((λ c. ((refl, tt, (refl, tt, refl)), refl)), ((λ c. ((refl, tt, refl), refl)), ((λ c. ((refl, tt, refl), refl)), ((λ c. ((refl, tt, refl), refl)), ages_pure true k 1 n rest h))))
ages_pure true k (suc i) (suc n) rest h =
    ((λ c. ((refl, tt, refl), refl)), ((λ c. ((refl, tt, refl), refl)), ((λ c. ((refl, tt, refl), refl)), ((λ c. ((refl, tt, refl), refl)), ages_pure true k (suc (suc i)) n rest h))))
ages_pure false k zero (suc n) rest h =
    ((λ c. ((refl, tt, (refl, tt, refl)), refl)), ((λ c. ((refl, tt, refl), refl)), ((λ c. ((refl, tt, refl), refl)), ages_pure false k 1 n rest h)))
ages_pure false k (suc i) (suc n) rest h =
    ((λ c. ((refl, tt, refl), refl)), ((λ c. ((refl, tt, refl), refl)), ((λ c. ((refl, tt, refl), refl)), ages_pure false k (suc (suc i)) n rest h)))

-- ---- the digits and the ends

back_low : (many : Bool) (i : ℕ) → nat_lt (taint (L.back_at many i)) 1 ≡ true
back_low many zero = refl
back_low true (suc i) = refl
back_low false (suc i) = refl

value_low : (i : ℕ) → nat_lt (taint (L.value_at i)) 1 ≡ true
value_low zero = refl
value_low (suc i) = refl

module _ (p : Plan) (ready : Ready p) where
  want_under : Under taint 1 (L.want_next p)
  want_under =
      let table = pattern_under p ready taint 1 (L.back_at (several p) p.delay) (back_low (several p) p.delay) in
      elim (nat_eq p.delay 0) as (λ t. Under taint 1 (cond t (Net L.word) (L.word_of (L.value_at p.delay) (L.pattern_of p (L.back_at (several p) p.delay)))))
      [ true ↦ refl | false ↦ (value_low p.delay, table, table) ]

  ends_pure : PureSets (L.end_sets p)
  ends_pure = ((λ c. not_true c), ((λ c. not_true c), tt))

  one_set_pure : (wide : Bool) (rest : List Statement) → PureSets rest → PureSets (L.one_set p wide ++ rest)
  one_set_pure true rest h =
      let next = next_under p ready taint 1 (λ x. bit (L.begins_one x)) refl in
      let again = element_under p ready taint 1 1 (λ x. bit (L.begins_one x)) refl in
      let more = in_row_under p ready taint 1 L.ones refl refl in
      ((λ c. ((refl, tt, (refl, (refl, (refl, next, again), more), refl)), refl)), h)
  one_set_pure false rest h = h

  all_pure : PureSets (L.sets_all p)
  all_pure =
      also (λ c. ((refl, tt, (refl, (refl, tt, (refl, tt)), refl)), refl))
      (also (λ c. ((refl, tt, (refl, (refl, (refl, tt, (refl, tt)), refl), refl)), refl))
      (also (λ c. ((refl, tt, (refl, (refl, (refl, (refl, tt, (refl, tt)), refl), refl), refl)), refl))
      (also (λ c. ((refl, tt, (refl, (refl, (refl, (refl, (refl, tt, (refl, tt)), refl), refl), refl), refl)), refl))
      (also (λ c. ((refl, tt, (refl, (refl, (refl, (refl, (refl, tt, refl), refl), refl), refl), refl)), refl))
      (also (λ c. ((refl, tt, (refl, (refl, (refl, refl, refl), refl), refl)), refl))
      (also (λ c. ((refl, tt, (refl, (refl, (refl, (refl, tt, tt), (refl, (refl, tt, tt))), refl), refl)), refl))
      (one_set_pure (several_bits p) (L.stage_sets (several p) p.back_width 0 p.delay ++ L.end_sets p) (ages_pure (several p) p.back_width 0 p.delay (L.end_sets p) ends_pure))))))))

-- ---- each register is set

set_behind : (n : List ℕ) (ss ts : List Statement) → IsSet n ts → IsSet n (ss ++ ts)
set_behind n [] ts h = h
set_behind n (SetTo k x ∷ ss) ts h = inr (set_behind n ss ts h)
set_behind n (IfElse c a b ∷ ss) ts h = set_behind n ss ts h
set_behind n (CaseOf x as' d ∷ ss) ts h = set_behind n ss ts h

-- what holds of each name that the ages or what stands behind them set, holds of the registers of the ages and of those behind
ages_each : (P : Declaration → Type 0) (Q : List ℕ → Type 0) → ((n : List ℕ) (k : ℕ) → Q n → P (record { name = n; kind = K.Register; width = k }))
    → (many : Bool) (w i n : ℕ) (ss : List Statement) (is : List ModuleItem) → ((m : List ℕ) → IsSet m (L.stage_sets many w i n ++ ss) → Q m)
    → (((m : List ℕ) → IsSet m ss → Q m) → Each P (item_declarations is)) → Each P (item_declarations (L.stage_regs many w i n ++ is))
ages_each P Q one many w i zero ss is up rest =
    (one (L.reads_at (suc i)) 1 (up (L.reads_at (suc i)) (inl refl)), (one (L.over_at (suc i)) 1 (up (L.over_at (suc i)) (inr (inl refl))), rest (λ m s. up m (inr (inr s)))))
ages_each P Q one true w i (suc n) ss is up rest = (
  one (L.reads_at (suc i)) 1 (up (L.reads_at (suc i)) (inl refl)),
  (
    one (L.over_at (suc i)) 1 (up (L.over_at (suc i)) (inr (inl refl))),
    (
      one (L.value_at (suc i)) 1 (up (L.value_at (suc i)) (inr (inr (inl refl)))),
      (
        one (L.aged L.back (suc i)) w (up (L.aged L.back (suc i)) (inr (inr (inr (inl refl))))),
        ages_each P Q one true w (suc i) n ss is (λ m s. up m (inr (inr (inr (inr s))))) rest,
      ),
    ),
  ),
)
ages_each P Q one false w i (suc n) ss is up rest = (
  one (L.reads_at (suc i)) 1 (up (L.reads_at (suc i)) (inl refl)),
  (
    one (L.over_at (suc i)) 1 (up (L.over_at (suc i)) (inr (inl refl))),
    (
      one (L.value_at (suc i)) 1 (up (L.value_at (suc i)) (inr (inr (inl refl)))),
      ages_each P Q one false w (suc i) n ss is (λ m s. up m (inr (inr (inr s)))) rest,
    ),
  ),
)

abbrev IsSetRegister : Plan → Declaration → Type 0
IsSetRegister p d = d.kind ≡ K.Register → IsSet d.name (L.sets_all p)

input_no_register : {P : Type 0} → K.Input ≡ K.Register → P
input_no_register h = cc

wire_no_register : {P : Type 0} → K.Wire ≡ K.Register → P
wire_no_register h = cc

module _ (p : Plan) where
  -- what stands behind the digits and the operation's bit
  abbrev Behind : List Statement
  Behind = L.stage_sets (several p) p.back_width 0 p.delay ++ L.end_sets p

  behind_digits : (m : List ℕ) → IsSet m Behind → IsSet m (L.sets_all p)
  behind_digits m s = inr (inr (inr (inr (inr (inr (inr (set_behind m (L.one_set p (several_bits p)) Behind s)))))))

  one_each : (wide : Bool) → several_bits p ≡ wide → (rest : List ModuleItem) → Each (IsSetRegister p) (item_declarations rest) → Each (IsSetRegister p) (item_declarations (L.one_reg wide ++ rest))
  one_each true h rest e = ((λ k. inr (inr (inr (inr (inr (inr (inr (subst (λ (t : Bool). IsSet L.one (L.one_set p t ++ Behind)) (sym h) (inl refl))))))))), e)
  one_each false h rest e = e

  ends_set : ((m : List ℕ) → IsSet m (L.end_sets p) → IsSet m (L.sets_all p)) → Each (IsSetRegister p) (item_declarations (L.items_after p))
  ends_set up =
      also (λ e. up L.want (inl refl))
      (also (λ e. up L.bad (inr (inl refl)))
      (also (λ e. wire_no_register e)
      (also (λ e. wire_no_register e)
      (also (λ e. wire_no_register e)
      (also (λ e. wire_no_register e)
      (also (λ e. wire_no_register e)
      (also (λ e. wire_no_register e)
      (also (λ e. wire_no_register e)
      (also (λ e. wire_no_register e)
      (also (λ e. wire_no_register e)
      (also (λ e. wire_no_register e)
      (also (λ e. wire_no_register e)
      (also (λ e. wire_no_register e)
      (also (λ e. wire_no_register e)
      (also (λ e. wire_no_register e)
      (also (λ e. wire_no_register e)
      (also (λ e. wire_no_register e)
      (also (λ e. wire_no_register e)
      tt))))))))))))))))))

  all_set : Each (IsSetRegister p) (declarations (L.ports p) (L.items p))
  all_set =
      also (λ e. input_no_register e)
      (also (λ e. input_no_register e)
      (also (λ e. input_no_register e)
      (also (λ e. wire_no_register e)
      (also (λ e. wire_no_register e)
      (also (λ e. wire_no_register e)
      (also (λ e. wire_no_register e)
      (also (λ e. wire_no_register e)
      (also (λ e. wire_no_register e)
      (also (λ e. inl refl)
      (also (λ e. inr (inl refl))
      (also (λ e. inr (inr (inl refl)))
      (also (λ e. inr (inr (inr (inl refl))))
      (also (λ e. inr (inr (inr (inr (inl refl)))))
      (also (λ e. inr (inr (inr (inr (inr (inl refl))))))
      (also (λ e. inr (inr (inr (inr (inr (inr (inl refl)))))))
      (one_each (several_bits p) refl (L.stage_regs (several p) p.back_width 0 p.delay ++ L.items_after p)
      (ages_each (IsSetRegister p) (λ m. IsSet m (L.sets_all p)) (λ n k q e. q) (several p) p.back_width 0 p.delay (L.end_sets p) (L.items_after p) behind_digits ends_set)))))))))))))))))

-- ---- the registers behind an edge

module _ (p : Plan) (ready : Ready p) (o : OpenEnv) where
  -- after the reset
  pub registers_restarted : o L.reset ≡ Some 1 → RegistersKnown (L.self_test p) clear (open_next (L.self_test p) o)
  registers_restarted now n d q k c =
      let g = found (IsSetRegister p) (declarations (L.ports p) (L.items p)) n d (all_set p) q in
      subst Known (sym (next_is p o n)) (known_given n (open_sets (w p) o (statements (L.sets_all p))) (o n)
      (sets_restarted (w p) o now n c (L.sets_all p) (all_pure p ready))
      (set_given (w p) o n (L.sets_all p) (all_pure p ready) (subst (λ (m : List ℕ). IsSet m (L.sets_all p)) (sym g.1) (g.0 k))))

  -- after a cycle whose clear names have numbers
  pub registers_kept : AreKnown clear o → RegistersKnown (L.self_test p) clear (open_next (L.self_test p) o)
  registers_kept all n d q k c =
      subst Known (sym (next_is p o n)) (known_last n (open_sets (w p) o (statements (L.sets_all p))) (o n) (sets_known (w p) o all n c (L.sets_all p) (all_pure p ready)) (all n c))

  -- ---- the ends, which aren't clear

  -- each of these statements that sets the name sets it to a number
  abbrev SetsNumber : List ℕ → List Statement → Type 0
  SetsNumber n [] = Unit {0}
  SetsNumber n (SetTo k x ∷ ss) = (bytes_eq n k ≡ true → Known (open_value (w p) o x)) × SetsNumber n ss
  SetsNumber n (IfElse c a b ∷ ss) = ⊥
  SetsNumber n (CaseOf x as' d ∷ ss) = ⊥

  numbers_set : (n : List ℕ) (ss : List Statement) → SetsNumber n ss → SetsKnown n (open_sets (w p) o (statements ss))
  numbers_set n [] h = tt
  numbers_set n (SetTo k x ∷ ss) h = ((λ e. h.0 ((bytes_eq-Decides n k).1 e)), numbers_set n ss h.1)
  numbers_set n (IfElse c a b ∷ ss) h = absurd h
  numbers_set n (CaseOf x as' d ∷ ss) h = absurd h

  unlike : {P : Type 0} (t : Bool) → t ≡ false → t ≡ true → P
  unlike t f h = cc

  -- the ages set no name but theirs
  ages_set_none : (n : List ℕ) (many : Bool) (k i m : ℕ) → Ageless i n → (ss : List Statement) → SetsNumber n ss → SetsNumber n (L.stage_sets many k i m ++ ss)
  ages_set_none n many k i zero f ss h = ((λ c. unlike _ (f.no_reads i (omega arith)) c), ((λ c. unlike _ (f.no_over i (omega arith)) c), h))
  ages_set_none n true k i (suc m) f ss h =
      ((λ c. unlike _ (f.no_reads i (omega arith)) c), ((λ c. unlike _ (f.no_over i (omega arith)) c), ((λ c. unlike _ (f.no_value i (omega arith)) c), ((λ c. unlike _ (f.no_back i (omega arith)) c), ages_set_none n true k (suc i) m (later i n f) ss h))))
  ages_set_none n false k i (suc m) f ss h =
      ((λ c. unlike _ (f.no_reads i (omega arith)) c), ((λ c. unlike _ (f.no_over i (omega arith)) c), ((λ c. unlike _ (f.no_value i (omega arith)) c), ages_set_none n false k (suc i) m (later i n f) ss h)))

  -- a name that is set, and to numbers alone, has a number behind the edge
  set_to_number : (n : List ℕ) → SetsNumber n (L.sets_all p) → IsSet n (L.sets_all p) → Known (open_next (L.self_test p) o n)
  set_to_number n h s =
      subst Known (sym (next_is p o n)) (known_given n (open_sets (w p) o (statements (L.sets_all p))) (o n) (numbers_set n (L.sets_all p) h) (set_given (w p) o n (L.sets_all p) (all_pure p ready) s))

  one_set_none : (n : List ℕ) (wide : Bool) → bytes_eq n L.one ≡ false → (ss : List Statement) → SetsNumber n ss → SetsNumber n (L.one_set p wide ++ ss)
  one_set_none n true f ss h = ((λ c. unlike _ f c), h)
  one_set_none n false f ss h = h

  pub want_kept : AreKnown clear o → Known (open_next (L.self_test p) o L.want)
  want_kept all =
      let value = known_value (w p) o (L.want_next p) (λ m u. all m (uses_clear (L.want_next p) m (want_under p ready) u)) in
      let behind = ages_set_none L.want (several p) p.back_width 0 p.delay (record { no_reads = λ j l. refl; no_over = λ j l. refl; no_value = λ j l. refl; no_back = λ j l. refl }) (L.end_sets p) ((λ c. value), ((λ c. not_true c), tt)) in
      set_to_number L.want ((λ c. not_true c), ((λ c. not_true c), ((λ c. not_true c), ((λ c. not_true c), ((λ c. not_true c), ((λ c. not_true c), ((λ c. not_true c), one_set_none L.want (several_bits p) refl (Behind p) behind)))))))
      (behind_digits p L.want (set_behind L.want (L.stage_sets (several p) p.back_width 0 p.delay) (L.end_sets p) (inl refl)))

  pub bad_set : Known (open_value (w p) o (L.bad_next p)) → Known (open_next (L.self_test p) o L.bad)
  bad_set value =
      let behind = ages_set_none L.bad (several p) p.back_width 0 p.delay (record { no_reads = λ j l. refl; no_over = λ j l. refl; no_value = λ j l. refl; no_back = λ j l. refl }) (L.end_sets p) ((λ c. not_true c), ((λ c. value), tt)) in
      set_to_number L.bad ((λ c. not_true c), ((λ c. not_true c), ((λ c. not_true c), ((λ c. not_true c), ((λ c. not_true c), ((λ c. not_true c), ((λ c. not_true c), one_set_none L.bad (several_bits p) refl (Behind p) behind)))))))
      (behind_digits p L.bad (set_behind L.bad (L.stage_sets (several p) p.back_width 0 p.delay) (L.end_sets p) (inr (inl refl))))
