use Rattle.std.proofs.Common.{rules, ◌≡◌, ◌≢◌, true, List, sym, subst}
use Rattle.std.specs.List.{All, AllPairs, Contains}
use Rattle.dynamic_core.specs.Primitive.{DynamicPrimitive, IsDynamic, has_aggressor}
use Rattle.dynamic_core.specs.Table.{dyn_two_table}
use Rattle.dynamic_core.proofs.EveryPrimitive.{dyn_two_has, dyn_two_are, dyn_two_differ}
use Rattle.dynamic_core.proofs.table.dyn_two.Goals as goal

pub returns-clause-every : goal.returns-clause-every
returns-clause-every c =
    let rows : c.append_victims-2.new.prims.items ≡ dyn_two_table = search rules in
    λ p is beside. subst (λ (ps : List DynamicPrimitive). Contains ps p) (sym rows) (dyn_two_has p is beside)

pub returns-clause-primitives : goal.returns-clause-primitives
returns-clause-primitives c =
    let rows : c.append_victims-2.new.prims.items ≡ dyn_two_table = search rules in
    subst (λ (ps : List DynamicPrimitive). All (λ p. IsDynamic p × (has_aggressor p ≡ true)) ps) (sym rows) dyn_two_are

pub returns-clause-distinct : goal.returns-clause-distinct
returns-clause-distinct c =
    let rows : c.append_victims-2.new.prims.items ≡ dyn_two_table = search rules in
    subst (λ (ps : List DynamicPrimitive). AllPairs (λ p q. p ≢ q) ps) (sym rows) dyn_two_differ
