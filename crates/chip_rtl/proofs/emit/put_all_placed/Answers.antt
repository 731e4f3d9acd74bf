use Rattle.std.proofs.Common.{List, ◌++◌, refl, map}
use Rattle.verilog_emit.proofs.Bodies.{one_written, all_written}
use Rattle.chip_rtl.specs.declared.top.Placed.{Placed}
use Rattle.chip_rtl.specs.TopSeen.{plain_placed}
use Rattle.chip_rtl.specs.PrintedTop.{placed_text, placed_texts}
use Rattle.chip_rtl.proofs.emit.put_all_placed.Goals as goal

pub loop-placed-init : goal.loop-placed-init
loop-placed-init c = refl

pub loop-placed-preserved : goal.loop-placed-preserved
loop-placed-preserved c =
    let all = c.args.all.now in
    let x = c.placed-item.result in
    let text = λ (xs : List Placed). placed_texts (map plain_placed xs) in
    one_written text text (placed_text (plain_placed x)) all c.loop-placed.placed-index x c.loop-placed.out.items c.put_placed.new.out.items (c.args.out.now.items ++ text all) c.loop-placed-test.true c.placed-item.is refl c.loop-placed.invariant c.in_ok-put_placed.ensures

pub returns : goal.returns
returns c =
    let all = c.args.all.now in
    let text = λ (xs : List Placed). placed_texts (map plain_placed xs) in
    all_written text all c.loop-placed.placed-index c.loop-placed.out.items (c.args.out.now.items ++ text all) c.loop-placed-test.false refl c.loop-placed.invariant
