-- Names of the module to which nothing leads that is left open: all but `want`, which no reset sets, and those to which the returned word leads.
use Rattle.std.proofs.Common.{◌≡◌, ℕ, zero, suc, ◌<◌, Bool, true, false, cond, not, ◌||◌, List, [], ◌∷◌, ◌++◌, refl, sym, subst, arith, inl, inr}
use Rattle.std.specs.Str.{bytes_eq}
use Rattle.verilog_tree.specs.declared.names.Kind.TheVariants as K
use Rattle.verilog_tree.specs.Plain.{Expression, ModuleItem, WireItem, RegItem, AssignItem, AlwaysItem}
use Rattle.verilog_tree.specs.Names.{Declaration, declarations, item_declarations, is_clk}
use Rattle.verilog_tree.specs.Meaning.{bit}
use Rattle.verilog_tree.specs.Wires.{Uses}
use Rattle.verilog_tree.proofs.Clean.{Each, found}
use Rattle.verilog_open.specs.Known.{Known, AreClear, InputsKnown}
use Rattle.rtl_layout.specs.Plan.{Plan, several, several_bits, is_single}
use Rattle.rtl_layout.specs.Shows.{Ready}
use Rattle.rtl_layout.specs.Layout as L
use Rattle.rtl_layout.proofs.Ranked.{Under, under_uses, also, element_under, row_under, in_row_under, value_under, next_under, pattern_under, visited_under, address_under}
use Rattle.verilog_open.specs.Open.{OpenEnv}

-- not `rdata` nor `want`, nor what they lead to
abbrev pub clear : List ℕ → Bool
clear n = not (bytes_eq n L.rdata || (bytes_eq n L.want || (bytes_eq n L.bad || bytes_eq n L.fail)))

-- a rank that is low where a name is clear
abbrev pub taint : List ℕ → ℕ
taint n = cond (clear n) 0 1

low_clear : (t : Bool) → cond t 0 1 < 1 → t ≡ true
low_clear true h = refl
low_clear false h = absurd (omega (arith, h))

pub uses_clear : (x : Expression) (m : List ℕ) → Under taint 1 x → Uses m x → clear m ≡ true
uses_clear x m h u = low_clear (clear m) (under_uses taint 1 m x h u)

-- each clear name is assigned what uses clear names alone
abbrev Pure : List ModuleItem → Type 0
Pure [] = Unit {0}
Pure (AssignItem n x ∷ is) = (clear n ≡ true → Under taint 1 x) × Pure is
Pure (other ∷ is) = Pure is

pure_clear : (is : List ModuleItem) → Pure is → AreClear clear is
pure_clear [] h n m l c = absurd l
pure_clear (AssignItem k x ∷ is) h n m l c =
    elim l [ inl v ↦ uses_clear x m (h.0 (subst (λ (j : List ℕ). clear j ≡ true) v.0 c)) v.1 | inr v ↦ pure_clear is h.1 n m v c ]
pure_clear (other ∷ is) h n m l c = pure_clear is h n m l c

one_pure : (wide : Bool) (rest : List ModuleItem) → Pure rest → Pure (L.one_reg wide ++ rest)
one_pure true rest h = h
one_pure false rest h = h

stages_pure : (many : Bool) (w i n : ℕ) (rest : List ModuleItem) → Pure rest → Pure (L.stage_regs many w i n ++ rest)
stages_pure many w i zero rest h = h
stages_pure true w i (suc n) rest h = stages_pure true w (suc i) n rest h
stages_pure false w i (suc n) rest h = stages_pure false w (suc i) n rest h

pub not_true : {P : Type 0} → false ≡ true → P
not_true h = cc

module _ (p : Plan) (ready : Ready p) where
  after_pure : Pure (L.items_after p)
  after_pure =
      also (λ c. row_under p ready taint 1 L.writes_at refl)
      (also (λ c. row_under p ready taint 1 (L.ones_row p) refl)
      (also (λ c. row_under p ready taint 1 L.ends_behind refl)
      (also (λ c. in_row_under p ready taint 1 L.writes refl refl)
      (also (λ c. value_under p ready taint 1 refl refl refl)
      (also (λ c. element_under p ready taint 1 1 (λ x. bit x.down) refl)
      (also (λ c. element_under p ready taint 1 1 (λ x. bit x.pause) refl)
      (also (λ c. in_row_under p ready taint 1 L.ends refl refl)
      (also (λ c. element_under p ready taint 1 1 (λ x. bit (is_single x)) refl)
      (also (λ c. next_under p ready taint 1 (λ x. bit (is_single x)) refl)
      (also (λ c. next_under p ready taint 1 (λ x. bit x.pause) refl)
      (also (λ c. (refl, tt))
      (also (λ c. (refl, tt))
      (also (λ c. (refl, tt, refl))
      (also (λ c. (refl, (tt, visited_under p ready taint 1 refl), visited_under p ready taint 1 refl))
      (also (λ c. pattern_under p ready taint 1 L.back refl)
      (also (λ c. (refl, refl, refl))
      (also (λ c. (refl, tt, refl))
      (also (λ c. refl)
      (also (λ c. address_under p ready taint 1 refl)
      (also (λ c. refl)
      (also (λ c. (refl, tt, refl))
      (also (λ c. not_true c)
      tt))))))))))))))))))))))

  pub items_clear : AreClear clear (L.items p)
  items_clear = pure_clear (L.items p) (one_pure (several_bits p) (L.stage_regs (several p) p.back_width 0 p.delay ++ L.items_after p) (stages_pure (several p) p.back_width 0 p.delay (L.items_after p) after_pure))

-- ---- inputs

not_input : {P : Type 0} → K.Wire ≡ K.Input → P
not_input h = cc

not_input_register : {P : Type 0} → K.Register ≡ K.Input → P
not_input_register h = cc

-- no item declares an input
pub no_inputs : (P : Declaration → Type 0) → ((d : Declaration) → (d.kind ≡ K.Input → ⊥) → P d) → (is : List ModuleItem) → Each P (item_declarations is)
no_inputs P all [] = tt
no_inputs P all (WireItem n k ∷ is) = (all (record { name = n; kind = K.Wire; width = k }) (λ e. not_input e), no_inputs P all is)
no_inputs P all (RegItem n k ∷ is) = (all (record { name = n; kind = K.Register; width = k }) (λ e. not_input_register e), no_inputs P all is)
no_inputs P all (AssignItem n x ∷ is) = no_inputs P all is
no_inputs P all (AlwaysItem c ss ∷ is) = no_inputs P all is

abbrev IsKnownInput : OpenEnv → Declaration → Type 0
IsKnownInput ins d = d.kind ≡ K.Input → is_clk d.name ≡ false → clear d.name ≡ true → Known (ins d.name)

all_known : (p : Plan) (ins : OpenEnv) → Known (ins L.reset) → Each (IsKnownInput ins) (declarations (L.ports p) (L.items p))
all_known p ins known = (
  (λ e k c. true_not k),
  (
    (λ e k c. known),
    (
      (λ e k c. not_true c),
      (
        (λ e k c. not_input e),
        (
          (λ e k c. not_input e),
          (
            (λ e k c. not_input e),
            (
              (λ e k c. not_input e),
              (
                (λ e k c. not_input e),
                (
                  (λ e k c. not_input e),
                  no_inputs (IsKnownInput ins) (λ d no e k c. absurd (no e)) (L.items p),
                ),
              ),
            ),
          ),
        ),
      ),
    ),
  ),
)
  where
    true_not : {P : Type 0} → true ≡ false → P
    true_not h = cc

pub inputs_known : (p : Plan) (ins : OpenEnv) → Known (ins L.reset) → InputsKnown (L.self_test p) clear ins
inputs_known p ins known n d q i z c =
    let g = found (IsKnownInput ins) (declarations (L.ports p) (L.items p)) n d (all_known p ins known) q in
    subst (λ (m : List ℕ). Known (ins m)) (sym g.1) (g.0 i (subst (λ (m : List ℕ). is_clk m ≡ false) g.1 z) (subst (λ (m : List ℕ). clear m ≡ true) g.1 c))
