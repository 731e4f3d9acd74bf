use Rattle.std.proofs.Common.{◌++◌, codes, map}
use Rattle.std.proofs.lemmas.Result.{on_ok_weaker}
use Rattle.verilog_tree.specs.Plain.{plain_port, plain_item, plain_module}
use Rattle.verilog_emit.specs.Printed.{line, ports_text, items_text}
use Rattle.verilog_emit.proofs.Bodies.{five_parts, items_within}
use Rattle.verilog_emit.proofs.put_module.Goals as goal

pub put_items-requires : goal.put_items-requires
put_items-requires c = rw c.deref-2.ensures.value (items_within (plain_module c.args.«module».now) c.requires)

pub returns : goal.returns
returns c =
    let m = c.args.«module».now in
    on_ok_weaker c.put_line-2.result
    (five_parts c.args.out.now.items c.put_name_line.new.out.items c.put_ports.new.out.items c.put_line.new.out.items c.put_items.new.out.items c.put_line-2.new.out.items (line 0 (codes "module " ++ m.name.bytes ++ codes "(")) (ports_text (map plain_port m.ports.items)) (line 0 (codes ");")) (items_text (map plain_item m.items.items)) (line 0 (codes "endmodule"))
    c.in_ok-put_name_line.ensures (rw c.deref.ensures.value at c.in_ok-put_ports.ensures) c.in_ok-put_line.ensures (rw c.deref-2.ensures.value at c.in_ok-put_items.ensures)) c.put_line-2.ensures
