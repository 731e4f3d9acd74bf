use Rattle.std.proofs.Common.{◌≡◌, drop}
use Rattle.march_core.specs.inner.Building.{some_empty}
use Rattle.march_core.proofs.builder.has_empty_element.Given as goal

abbrev pub invariant-loop-element : goal.invariant-loop-element
invariant-loop-element l = some_empty (drop l.element-index l.elements) ≡ some_empty l.elements
