use Rattle.bist_app.proofs.Common.{◌≡◌, ◌++◌, take}
use Rattle.std.specs.List.{flat_map}
use Rattle.chip_desc.specs.Chips.{unit_of}
use Rattle.bist_app.specs.Show.{unit_line}
use Rattle.bist_app.proofs.shown_texts.put_units.Given as goal

abbrev pub invariant-loop-unit : goal.invariant-loop-unit
invariant-loop-unit l = l.out.items ≡ l.initial.out.items ++ flat_map (λ u. unit_line (unit_of u)) (take l.unit-index l.units)
