-- Public. What may still follow where a reader of a module stands, and the module that the whole then is.
use Rattle.std.specs.Prelude.{ℕ, List, [], ◌∷◌, ◌++◌}
use Rattle.verilog_tree.specs.Grammar.{alone, Style}
use Rattle.verilog_tree.specs.Plain as P
use Rattle.verilog_text.specs.Places.{Head, with_item, AsReg, Use, AsWire, AsPort}

-- the end of a case
abbrev pub case_of : P.Expression → P.Arms → P.Statements → P.Statements
case_of x as' d = alone (P.CaseOf x as' d)

abbrev pub with_ports : Head → List P.ModulePort → Head
with_ports h ps = record h { ports = h.ports ++ ps }

abbrev pub declare : Use → List ℕ → ℕ → Use
declare (AsWire h) n w = AsWire (with_item h (P.WireItem n w))
declare (AsReg h) n w = AsReg (with_item h (P.RegItem n w))
declare (AsPort d h) n w = AsPort d (with_ports h ((record { dir = d; name = n; width = w }) ∷ []))

abbrev pub new_head : Style → List ℕ → Head
new_head y n = record { style = y; name = n; ports = []; items = [] }
