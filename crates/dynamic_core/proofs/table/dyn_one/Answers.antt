use Rattle.std.proofs.Common.{rules, ◌≡◌, ◌≢◌, false, List, sym, subst}
use Rattle.std.specs.List.{All, AllPairs, Contains}
use Rattle.dynamic_core.specs.Primitive.{DynamicPrimitive, IsDynamic, has_aggressor}
use Rattle.dynamic_core.specs.Table.{dyn_one_table}
use Rattle.dynamic_core.proofs.EveryPrimitive.{dyn_one_has, dyn_one_are, dyn_one_differ}
use Rattle.dynamic_core.proofs.table.dyn_one.Goals as goal

pub returns-clause-every : goal.returns-clause-every
returns-clause-every c =
    let rows : c.append_victims.new.prims.items ≡ dyn_one_table = search rules in
    λ p is beside. subst (λ (ps : List DynamicPrimitive). Contains ps p) (sym rows) (dyn_one_has p is beside)

pub returns-clause-primitives : goal.returns-clause-primitives
returns-clause-primitives c =
    let rows : c.append_victims.new.prims.items ≡ dyn_one_table = search rules in
    subst (λ (ps : List DynamicPrimitive). All (λ p. IsDynamic p × (has_aggressor p ≡ false)) ps) (sym rows) dyn_one_are

pub returns-clause-distinct : goal.returns-clause-distinct
returns-clause-distinct c =
    let rows : c.append_victims.new.prims.items ≡ dyn_one_table = search rules in
    subst (λ (ps : List DynamicPrimitive). AllPairs (λ p q. p ≢ q) ps) (sym rows) dyn_one_differ
