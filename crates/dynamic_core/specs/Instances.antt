-- Public. Where an instance stands.
use Rattle.fault_core.specs.declared.cells.Places.{Places}
use Rattle.dynamic_core.specs.declared.simulation.DynInstance.{DynInstance}

abbrev pub dyn_places : DynInstance → Places
dyn_places i = record { agg = i.agg; vic = i.vic }
