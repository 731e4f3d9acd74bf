use Rattle.std.proofs.Common.{◌++◌, codes, map}
use Rattle.std.proofs.lemmas.Result.{on_ok_weaker}
use Rattle.verilog_tree.specs.Plain.{plain_port, plain_item}
use Rattle.verilog_emit.specs.Printed.{line, ports_text, items_text}
use Rattle.verilog_emit.proofs.Bodies.{three_parts, four_parts}
use Rattle.chip_rtl.specs.TopSeen.{plain_placed, plain_top}
use Rattle.chip_rtl.specs.PrintedTop.{top_begun, placed_texts}
use Rattle.chip_rtl.proofs.emit.put_top.Goals as goal

pub put_items-requires : goal.put_items-requires
put_items-requires c = rw c.deref-2.ensures.value c.requires.items_fit

pub returns : goal.returns
returns c =
    let t = c.args.top.now in
    on_ok_weaker c.put_line-2.result
    (three_parts c.args.out.now.items c.put_items.new.out.items c.put_all_placed.new.out.items c.put_line-2.new.out.items (top_begun (plain_top t)) (placed_texts (map plain_placed t.placed.items)) (line 0 (codes "endmodule"))
    (four_parts c.args.out.now.items c.put_name_line.new.out.items c.put_ports.new.out.items c.put_line.new.out.items c.put_items.new.out.items (line 0 (codes "module " ++ t.name.bytes ++ codes "(")) (ports_text (map plain_port t.ports.items)) (line 0 (codes ");")) (items_text (map plain_item t.items.items))
    c.in_ok-put_name_line.ensures (rw c.deref.ensures.value at c.in_ok-put_ports.ensures) c.in_ok-put_line.ensures (rw c.deref-2.ensures.value at c.in_ok-put_items.ensures))
    (rw c.deref-3.ensures.value at c.in_ok-put_all_placed.ensures)) c.put_line-2.ensures
