-- Inner. For proofs and private contracts alone, beside Pairs: the two cells of one instance, and what an act on one of them makes of both.
use Rattle.std.specs.Prelude.{◌≡◌}
use Rattle.fault_core.specs.Primitive.{Primitive}
use Rattle.cell_machine.specs.declared.pair.Pair.{Pair}
use Rattle.cell_machine.specs.Pairs.{pair_close}

-- closing leaves the pair
abbrev pub IsClosed : Primitive → Pair → Type 0
IsClosed p pair = pair_close p pair ≡ pair
