use Rattle.std.proofs.Common.{rules, ◌≡◌, ◌≢◌, true, List, sym, subst}
use Rattle.std.specs.List.{All, AllPairs}
use Rattle.fault_core.specs.Primitive.{Primitive, IsPrimitive, has_aggressor}
use Rattle.fault_core.specs.Table.{two_cell_table}
use Rattle.fault_core.proofs.EveryPrimitive.{two_cell_are, two_cell_differ}
use Rattle.fault_core.proofs.table.two_cell.Goals as goal

pub returns-clause-primitives : goal.returns-clause-primitives
returns-clause-primitives c =
    let rows : c.unwrap.result ≡ two_cell_table = search rules in
    subst (λ (ps : List Primitive). All (λ p. IsPrimitive p × (has_aggressor p ≡ true)) ps) (sym rows) two_cell_are

pub returns-clause-distinct : goal.returns-clause-distinct
returns-clause-distinct c =
    let rows : c.unwrap.result ≡ two_cell_table = search rules in
    subst (λ (ps : List Primitive). AllPairs (λ p q. p ≢ q) ps) (sym rows) two_cell_differ
