use Rattle.std.proofs.Common.{List, Ok, inl, inr, subst, sym}
use Rattle.fault_syntax.specs.declared.words.AllowedNames.TheVariants.{Static}
use Rattle.fault_syntax.proofs.PassedOn.{passed_on}
use Rattle.dynamic_core.specs.declared.item.Item.{Item}
use Rattle.dynamic_core.specs.Items.{ReadsIn}
use Rattle.dynamic_core.proofs.StaticLists.{list_ok, list_refused}
use Rattle.dynamic_core.proofs.list.read_statics.Goals as goal

pub returns-in_err-items-clause-refused : goal.returns-in_err-items-clause-refused
returns-in_err-items-clause-refused c =
    passed_on c.from_residual.result c.in_err-items.field-0.0 _ c.from_residual.ensures
    (elim c.in_err-items.ensures.refused [ inl m ↦ inl m | inr r ↦ inr (list_refused c.args.bytes.now c.in_err-items.field-0.0 r) ])

pub returns-clause-ok : goal.returns-clause-ok
returns-clause-ok c =
    list_ok (λ prims. prims.items) c.args.bytes.now c.as_slice.result.now c.statics.result
    (subst (λ (items : List Item). ReadsIn Static c.args.bytes.now (Ok items)) (sym c.as_slice.ensures.value) c.in_ok-items.ensures.ok) c.statics.ensures.ok
