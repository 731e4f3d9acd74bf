use Rattle.report_lines.proofs.LinesGrow.{text_more, all_texts}
use Rattle.bist_app.specs.Show.{item_line}
use Rattle.bist_app.proofs.shown_texts.put_items.Goals as goal

pub loop-item-preserved : goal.loop-item-preserved
loop-item-preserved c =
    text_more item_line c.args.items.now c.loop-item.item-index c.item-item.result c.item-item.result c.args.out.now.items c.loop-item.out.items c.put_item.new.out.items
    c.loop-item-test.true c.item-item.is c.loop-item.invariant c.in_ok-put_item.ensures

pub returns : goal.returns
returns c = all_texts item_line c.args.items.now c.loop-item.item-index c.args.out.now.items c.loop-item.out.items c.loop-item-test.false c.loop-item.invariant
