-- Public. What the crate's own types are to its definitions.
use Rattle.verilog_tree.specs.declared.names.Declared.{Declared}
use Rattle.verilog_tree.specs.Names.{Declaration}

abbrev pub declaration : Declared → Declaration
declaration d = record { name = d.name.bytes; kind = d.kind; width = d.width }
