use Rattle.chip_desc.proofs.Common.{IsUtf8-from_ascii}
use Rattle.chip_desc.proofs.UnitLines.{file_ascii}
use Rattle.chip_desc.proofs.units.file_from.Goals as goal

pub unreachable-requires : goal.unreachable-requires
unreachable-requires c = c.in_default.ensures.cases.0 (IsUtf8-from_ascii c.args.bytes.now (file_ascii c.args.bytes.now c.requires.name))
