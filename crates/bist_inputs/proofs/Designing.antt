-- What the reader of modules and the elaboration answer, as refusals of a command.
use Rattle.std.proofs.Common.{◌≡◌, ◌↔◌, ◌⊎◌, true, ℕ, List, Result, Ok, Err, IfErr, refl, sym, subst, inl, inr}
use Rattle.verilog_tree.specs.declared.fault.TreeFault.{TreeFault}
use Rattle.verilog_tree.specs.Plain.{ModuleTree}
use Rattle.verilog_tree.specs.Formed.{formed}
use Rattle.verilog_tree.specs.Grammar.{Style}
use Rattle.verilog_tree.specs.declared.fault.ReadFault.{ReadFault}
use Rattle.verilog_text.specs.Refusals.{IsFirstIn}
use Rattle.verilog_cycle.specs.Design.{DesignView, IsNew, Refused}
use Rattle.bist_inputs.specs.Designs.{CanRun, Breaks}

-- but for want of memory, a fault is answered exactly where it is the first of the text
abbrev AreFirst : {A : Type 0} → Style → List ℕ → Result A ReadFault → Type 0
AreFirst style bytes r = (r ≡ Err ReadFault.NoMemory → ⊥) → (f : ReadFault) → (r ≡ Err f) ↔ IsFirstIn style bytes f

-- what isn't want of memory is the first refusal of the text
pub first_fault : {A : Type 0} (style : Style) (bytes : List ℕ) (r : Result A ReadFault) → AreFirst style bytes r
    → IfErr r (λ fault. (fault ≡ ReadFault.NoMemory) ⊎ IsFirstIn style bytes fault)
first_fault {A} style bytes (Ok a) h = tt
first_fault {A} style bytes (Err fault) h = by fault h
  where
    other : (f : ReadFault) → AreFirst {A = A} style bytes (Err f) → ((let s : Result A ReadFault = Err f in s) ≡ Err ReadFault.NoMemory → ⊥) → IsFirstIn style bytes f
    other f k unlike = (k unlike f).0 refl

    by : (f : ReadFault) → AreFirst {A = A} style bytes (Err f) → (f ≡ ReadFault.NoMemory) ⊎ IsFirstIn style bytes f
    by ReadFault.NoMemory k = inl refl
    by (ReadFault.Unexpected n) k = inr (other (ReadFault.Unexpected n) k (λ x. cc))
    by ReadFault.Truncated k = inr (other ReadFault.Truncated k (λ x. cc))
    by (ReadFault.TooDeep n) k = inr (other (ReadFault.TooDeep n) k (λ x. cc))
    by (ReadFault.LongName n) k = inr (other (ReadFault.LongName n) k (λ x. cc))
    by (ReadFault.OutOfRange n) k = inr (other (ReadFault.OutOfRange n) k (λ x. cc))

-- a refusal that isn't want of memory is that of a broken rule, or of a loop
pub broken : (mo : ModuleTree) (fault : TreeFault) → Refused mo fault → (fault ≡ TreeFault.NoMemory → ⊥) → Breaks mo fault
broken mo TreeFault.NoMemory h other = absurd (other refl)
broken mo (TreeFault.Unknown n) h other = h
broken mo (TreeFault.Twice n) h other = h
broken mo (TreeFault.Width j k) h other = h
broken mo (TreeFault.TwoBlocks n) h other = h
broken mo (TreeFault.NotAssignable n) h other = h
broken mo (TreeFault.SelectRange n) h other = h
broken mo (TreeFault.Loop ns) h other = h
broken mo (TreeFault.Undriven n) h other = h
broken mo (TreeFault.Clock n) h other = h

-- a module of which a design was made can be run
pub can_run : (mo : ModuleTree) (design : DesignView) → formed mo ≡ true → IsNew mo design → CanRun mo
can_run mo design sizes new = record { sizes = sizes; legal = new.legal; loopless = new.loopless; wires = design.nets; in_order = new.nets }

pub own_new : (mo : ModuleTree) (design : DesignView) → IsNew mo design → IsNew design.tree design
own_new mo design new = subst (λ (tree : ModuleTree). IsNew tree design) (sym new.tree) new
