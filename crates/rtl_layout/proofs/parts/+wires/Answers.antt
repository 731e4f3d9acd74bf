use Rattle.verilog_tree.specs.Plain.{WireItem}
use Rattle.rtl_layout.proofs.Rowed.{first_fits, none_more, first_more}
use Rattle.rtl_layout.proofs.parts.+wires.Goals as goal

pub name-requires : goal.name-requires
name-requires t c = first_fits _ _ c.in-len1-up.len_at_least c.requires

pub returns-in-empty : goal.returns-in-empty
returns-in-empty t c = none_more WireItem _ _ c.in-empty.len_below

pub returns-in_ok-wire-in-len1-up : goal.returns-in_ok-wire-in-len1-up
returns-in_ok-wire-in-len1-up t c =
    first_more WireItem c.wires.result c.args.rows.now _ _ _ _ c.name.result.bytes c.in-len1-up.len_at_least c.name.ensures c.in_ok-wire-in-len1-up.ensures c.wires.ensures
