use Rattle.std.proofs.Common.{rules, ◌≡◌, ◌≢◌, false, List, sym, subst}
use Rattle.std.specs.List.{All, AllPairs, Contains}
use Rattle.fault_core.specs.Primitive.{Primitive, IsPrimitive, has_aggressor, is_retention}
use Rattle.fault_core.specs.Table.{one_cell_table}
use Rattle.fault_core.proofs.EveryPrimitive.{one_cell_are, one_cell_differ, one_cell_has}
use Rattle.fault_core.proofs.table.one_cell.Goals as goal

pub returns-clause-primitives : goal.returns-clause-primitives
returns-clause-primitives c =
    let rows : c.unwrap.result ≡ one_cell_table = search rules in
    subst (λ (ps : List Primitive). All (λ p. IsPrimitive p × (has_aggressor p ≡ false) × (is_retention p ≡ false)) ps) (sym rows) one_cell_are

pub returns-clause-distinct : goal.returns-clause-distinct
returns-clause-distinct c =
    let rows : c.unwrap.result ≡ one_cell_table = search rules in
    subst (λ (ps : List Primitive). AllPairs (λ p q. p ≢ q) ps) (sym rows) one_cell_differ

pub returns-clause-every : goal.returns-clause-every
returns-clause-every c =
    let rows : c.unwrap.result ≡ one_cell_table = search rules in
    λ p is alone stays. subst (λ (ps : List Primitive). Contains ps p) (sym rows) (one_cell_has p is alone stays)
