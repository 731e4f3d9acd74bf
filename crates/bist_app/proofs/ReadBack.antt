-- A self-test that is written, read back and elaborated is the same self-test.
use Rattle.bist_app.proofs.Common.{map, ◌≡◌, ◌∙◌, ℕ, List, Option, Some, None, Result, Ok, Err, sym, ap, subst, refl, ModuleTree, MarchElement, Description, SelfTest, IfOk, MatchResult, DesignView, IsNew, registers_of, NoLoop, Refused, Elaborates}
use Rattle.verilog_tree.specs.Spells.{Spells}
use Rattle.verilog_tree.specs.declared.fault.ReadFault.{ReadFault}
use Rattle.verilog_tree.specs.declared.fault.TreeFault.{TreeFault}
use Rattle.verilog_tree.specs.declared.fault.TreeFault.TheVariants as T
use Rattle.verilog_tree.specs.Rules.{Break, first_break}
use Rattle.verilog_cycle.specs.Seen.{plain_names}
use Rattle.bist_app.specs.Compile.{IsSelfTestText}

-- a text that spells a module is read but for want of memory
pub want_of_read : {M : Type 0} (r : Result M ReadFault) (fault : ReadFault) (P : M → Type 0) → r ≡ Err fault → MatchResult r P (λ f. f ≡ ReadFault.NoMemory) → fault ≡ ReadFault.NoMemory
want_of_read {M} r fault P is h = subst (λ (x : Result M ReadFault). MatchResult x P (λ f. f ≡ ReadFault.NoMemory)) is h

nothing_breaks : (o : Option Break) (b : Break) → o ≡ None → o ≡ Some b → ⊥
nothing_breaks o b none is = let z : None ≡ Some b = sym none ∙ is in cc

-- a module that breaks no rule and has no loop is refused for want of memory alone
only_memory : (mo : ModuleTree) (f : TreeFault) → first_break mo ≡ None → NoLoop mo → Refused mo f → f ≡ TreeFault.NoMemory
only_memory mo (T.Unknown n) legal free h = absurd (nothing_breaks (first_break mo) _ legal h)
only_memory mo (T.Twice n) legal free h = absurd (nothing_breaks (first_break mo) _ legal h)
only_memory mo (T.Width j k) legal free h = absurd (nothing_breaks (first_break mo) _ legal h)
only_memory mo (T.TwoBlocks n) legal free h = absurd (nothing_breaks (first_break mo) _ legal h)
only_memory mo (T.NotAssignable n) legal free h = absurd (nothing_breaks (first_break mo) _ legal h)
only_memory mo (T.SelectRange n) legal free h = absurd (nothing_breaks (first_break mo) _ legal h)
only_memory mo (T.Loop ns) legal free h = absurd (free (plain_names ns.items) h.1)
only_memory mo T.NoMemory legal free h = refl
only_memory mo (T.Undriven n) legal free h = absurd (nothing_breaks (first_break mo) _ legal h)
only_memory mo (T.Clock n) legal free h = absurd (nothing_breaks (first_break mo) _ legal h)

pub want_of_elaborated : (mo : ModuleTree) (r : Result DesignView TreeFault) (f : TreeFault) → first_break mo ≡ None → NoLoop mo → r ≡ Err f → Elaborates mo r → f ≡ TreeFault.NoMemory
want_of_elaborated mo r f legal free is h = only_memory mo f legal free (subst (Elaborates mo) is h)

-- what is read of the text of a self-test is one
pub read_test : (march : List MarchElement) (d : Description) (text shown : List ℕ) (read : ModuleTree) → IsSelfTestText march d text → shown ≡ text → Spells shown read
    → SelfTest read march d
read_test march d text shown read written same spells =
    subst (λ (x : ModuleTree). SelfTest x march d) (sym (written.no_other read (subst (λ (t : List ℕ). Spells t read) same spells))) written.self_test

pub new_tests : {E : Type 0} (r : Result DesignView E) (march : List MarchElement) (d : Description) (read : ModuleTree) → SelfTest read march d
    → IfOk r (IsNew read) → IfOk r (λ design. SelfTest design.tree march d)
new_tests (Ok design) march d read test new = subst (λ (x : ModuleTree). SelfTest x march d) (sym new.tree) test
new_tests (Err e) march d read test new = tt

-- the registers of a new design hold 0
pub new_zero : {E : Type 0} (r : Result DesignView E) (mo : ModuleTree) → IfOk r (IsNew mo) → IfOk r (λ design. design.registers ≡ map (λ _. 0) (registers_of design.tree))
new_zero (Ok design) mo new = new.zero ∙ ap (λ (x : ModuleTree). map (λ _. 0) (registers_of x)) (sym new.tree)
new_zero (Err e) mo new = tt
