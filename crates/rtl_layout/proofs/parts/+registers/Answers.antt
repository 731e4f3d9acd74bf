use Rattle.verilog_tree.specs.Plain.{RegItem}
use Rattle.rtl_layout.proofs.Rowed.{first_fits, none_more, first_more}
use Rattle.rtl_layout.proofs.parts.+registers.Goals as goal

pub name-requires : goal.name-requires
name-requires t c = first_fits _ _ c.in-len1-up.len_at_least c.requires

pub returns-in-empty : goal.returns-in-empty
returns-in-empty t c = none_more RegItem _ _ c.in-empty.len_below

pub returns-in_ok-register-in-len1-up : goal.returns-in_ok-register-in-len1-up
returns-in_ok-register-in-len1-up t c =
    first_more RegItem c.registers.result c.args.rows.now _ _ _ _ c.name.result.bytes c.in-len1-up.len_at_least c.name.ensures c.in_ok-register-in-len1-up.ensures c.registers.ensures
