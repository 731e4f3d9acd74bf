-- Public. Why there is no interface: it can't be written, or it breaks a rule. Want of memory says nothing of it.
use Rattle.std.specs.Prelude.{◌≡◌, ◌≢◌, false}
use Rattle.verilog_tree.specs.Plain.{ModuleTree}
use Rattle.verilog_tree.specs.Fits.{fits}
use Rattle.verilog_tree.specs.Rules.{first_break, Tells}
use Rattle.verilog_tree.specs.declared.fault.TreeFault.TheVariants as T
use Rattle.collar_rtl.specs.declared.whole.InterfaceFault.{InterfaceFault}
use Rattle.collar_rtl.specs.declared.whole.InterfaceFault.TheVariants.{NoMemory, Unwritable, Broken}

abbrev pub IsRefused : InterfaceFault → ModuleTree → Type 0
IsRefused NoMemory m = Unit {0}
IsRefused Unwritable m = fits m ≡ false
IsRefused (Broken fault) m = (fault ≢ T.NoMemory) × Tells fault (first_break m)
