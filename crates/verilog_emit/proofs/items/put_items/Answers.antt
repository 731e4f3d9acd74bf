use Rattle.std.proofs.Common.{List, ◌++◌, map, refl}
use Rattle.verilog_tree.specs.Plain.{plain_item}
use Rattle.verilog_tree.specs.declared.tree.BodyItem.{BodyItem}
use Rattle.verilog_emit.specs.Printed.{item_text, items_text}
use Rattle.verilog_emit.proofs.Bodies.{one_written, item_left, all_written}
use Rattle.verilog_emit.proofs.items.put_items.Goals as goal

pub loop-item-init : goal.loop-item-init
loop-item-init c = record { text = refl; fits = c.requires }

pub put_item-requires : goal.put_item-requires
put_item-requires c = (item_left c.args.items.now c.loop-item.item-index c.item-item.result c.loop-item-test.true c.item-item.is c.loop-item.invariant.fits).0

pub loop-item-preserved : goal.loop-item-preserved
loop-item-preserved c =
    let items = c.args.items.now in
    let i = c.loop-item.item-index in
    let x = c.item-item.result in
    let text = λ (is : List BodyItem). items_text (map plain_item is) in
    record {
      text = one_written text text (item_text (plain_item x)) items i x c.loop-item.out.items c.put_item.new.out.items (c.args.out.now.items ++ text items) c.loop-item-test.true c.item-item.is refl c.loop-item.invariant.text c.in_ok-put_item.ensures;
      fits = (item_left items i x c.loop-item-test.true c.item-item.is c.loop-item.invariant.fits).1;
    }

pub returns : goal.returns
returns c =
    let text = λ (is : List BodyItem). items_text (map plain_item is) in
    all_written text c.args.items.now c.loop-item.item-index c.loop-item.out.items (c.args.out.now.items ++ text c.args.items.now) c.loop-item-test.false refl c.loop-item.invariant.text
