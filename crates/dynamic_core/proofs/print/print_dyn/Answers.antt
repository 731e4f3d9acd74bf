use Rattle.std.proofs.Common.{subst, sym, Some, Ok, [], ◌∷◌}
use Rattle.fault_syntax.specs.ListText.{Primitive, ItemLine}
use Rattle.dynamic_core.specs.declared.item.Item.TheVariants.{Dyn}
use Rattle.dynamic_core.specs.Items.{ReadsItems}
use Rattle.dynamic_core.proofs.PrintLaws.{parts, parts_stand, printed_line, printed_list}
use Rattle.dynamic_core.proofs.print.print_dyn.Goals as goal

pub returns-clause-read_back : goal.returns-clause-read_back
returns-clause-read_back c = (
  parts c.args.prim.now,
  subst (λ b. ItemLine b (Some (Primitive (parts c.args.prim.now)))) (sym c.prim_text.ensures.form) (printed_line c.args.prim.now),
  parts_stand c.args.prim.now,
  c.prim_text.ensures.primitive,
)

pub returns-clause-list : goal.returns-clause-list
returns-clause-list c = subst (λ b. ReadsItems b (Ok (Dyn c.args.prim.now ∷ []))) (sym c.prim_text.ensures.form) (printed_list c.args.prim.now c.prim_text.ensures.primitive)
