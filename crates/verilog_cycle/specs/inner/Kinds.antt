-- Inner. What a name is declared as, as a test.
use Rattle.std.specs.Prelude.{Bool, not, ◌&&◌}
use Rattle.verilog_tree.specs.declared.names.Kind.{Kind}
use Rattle.verilog_tree.specs.declared.names.Kind.TheVariants as K
use Rattle.verilog_tree.specs.Names.{Declaration, is_input, is_wire, is_register, is_clk}

-- whether a name is declared so, where the clock counts as no input
abbrev pub is_of : Kind → Declaration → Bool
is_of K.Input d = is_input d.kind && not (is_clk d.name)
is_of K.Wire d = is_wire d.kind
is_of K.Register d = is_register d.kind
