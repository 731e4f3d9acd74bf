-- A run that nothing refuses isn't refused.
use Rattle.std.proofs.Common.{◌≡◌, ◌∙◌, List, Some, None, sym, arith}
use Rattle.march_core.specs.March.{MarchElement}
use Rattle.verilog_tree.specs.Plain.{ModulePort}
use Rattle.memory_desc.specs.Descriptions.{Description}
use Rattle.self_test.specs.declared.running.RunFault.{RunFault}
use Rattle.self_test.specs.declared.running.RunFault.TheVariants as R
use Rattle.self_test.specs.Refusals.{Refuses}

pub not_both : (march : List MarchElement) (d : Description) (ports : List ModulePort) (fault : RunFault) → Refuses march d ports None → Refuses march d ports (Some fault) → ⊥
not_both march d ports (R.TooLong cycles) none some = omega (arith, none.0, some.1)
not_both march d ports (R.WrongPorts name) none some = let no_name : None ≡ Some name.bytes = sym none.1 ∙ some.1 in cc
