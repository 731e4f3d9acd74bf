use Rattle.std.proofs.Common.{◌≡◌, sym, ◌∙◌}
use Rattle.fault_syntax.specs.declared.reader.ReadItem.TheVariants.{Primitive}
use Rattle.fault_syntax.specs.declared.reader.ReadParts.{ReadParts}
use Rattle.fault_syntax.proofs.PrimReads.{is_primitive}
use Rattle.fault_syntax.proofs.prim.scanned.Goals as goal

pub unreachable-requires : goal.unreachable-requires
unreachable-requires c =
    let item : (parts : ReadParts) × (c.in-Ok.item ≡ Primitive parts) = is_primitive c.args.bytes.now c.in-Ok.item (sym c.in-Ok.is ∙ c.read_item.ensures) in
    cc (item.1, c.in-Nothing.is)

pub unreachable-requires-in-Named : goal.unreachable-requires-in-Named
unreachable-requires-in-Named c =
    let item : (parts : ReadParts) × (c.in-Ok.item ≡ Primitive parts) = is_primitive c.args.bytes.now c.in-Ok.item (sym c.in-Ok.is ∙ c.read_item.ensures) in
    cc (item.1, c.in-Named.is)
