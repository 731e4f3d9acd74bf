-- What is refused has no collar.
use Rattle.std.proofs.Common.{◌≡◌, ◌≢◌, true, Option, None, Result, Ok, Err, refl, sym, subst}
use Rattle.std.specs.Prelude.{IsErr, IsErrAnd, IfErr}
use Rattle.verilog_tree.specs.declared.fault.TreeFault.{TreeFault}
use Rattle.verilog_tree.specs.declared.fault.TreeFault.TheVariants as T
use Rattle.verilog_tree.specs.Plain.{ModuleTree}
use Rattle.verilog_tree.specs.Fits.{fits}
use Rattle.verilog_tree.specs.Rules.{Break, first_break, Tells}
use Rattle.collar_rtl.specs.declared.whole.InterfaceFault.{InterfaceFault}
use Rattle.collar_rtl.specs.declared.whole.InterfaceFault.TheVariants.{NoMemory, Unwritable, Broken}
use Rattle.collar_rtl.specs.Refused.{IsRefused}
use Rattle.collar_top.specs.declared.text.CollarFault.{CollarFault}

-- a fault that tells something tells a break
tells : (f : TreeFault) (o : Option Break) → f ≢ T.NoMemory → Tells f o → o ≡ None → ⊥
tells (T.Unknown n) o some h none = cc
tells (T.Twice n) o some h none = cc
tells (T.Width j k) o some h none = cc
tells (T.TwoBlocks n) o some h none = cc
tells (T.NotAssignable n) o some h none = cc
tells (T.SelectRange n) o some h none = cc
tells (T.Loop ns) o some h none = h
tells T.NoMemory o some h none = some refl
tells (T.Undriven n) o some h none = cc
tells (T.Clock n) o some h none = cc

pub never : (f : InterfaceFault) (m : ModuleTree) → IsRefused f m → f ≢ NoMemory → fits m ≡ true → first_break m ≡ None → ⊥
never NoMemory m h some writable lawful = some refl
never Unwritable m h some writable lawful = cc
never (Broken f) m h some writable lawful = tells f (first_break m) h.0 h.1 lawful

-- a fault that is handed on is the same
pub handed_on : {A : Type 0} (P : CollarFault → Type 0) (r : Result A CollarFault) (f : CollarFault) → IsErr r × IsErrAnd r (λ x. x ≡ f) → P f → IfErr r P
handed_on P (Err x) f h p = subst P (sym h.1) p
handed_on P (Ok value) f h p = absurd h.1
