use Rattle.std.proofs.Common.{List, ◌++◌, true, false, refl, map}
use Rattle.verilog_emit.specs.Printed.{separator}
use Rattle.verilog_emit.proofs.Bodies.{two_parts, one_written, all_written}
use Rattle.chip_rtl.specs.declared.top.PortLink.{PortLink}
use Rattle.chip_rtl.specs.TopSeen.{plain_link}
use Rattle.chip_rtl.specs.PrintedTop.{link_text, links_text}
use Rattle.chip_rtl.proofs.emit.put_links.Goals as goal

pub loop-link-init : goal.loop-link-init
loop-link-init c = refl

pub loop-link-preserved : goal.loop-link-preserved
loop-link-preserved c =
    let links = c.args.links.now in
    let first = c.loop-link.first in
    let x = c.link-item.result in
    one_written (λ (xs : List PortLink). links_text first (map plain_link xs)) (λ (xs : List PortLink). links_text false (map plain_link xs)) (separator first ++ link_text (plain_link x)) links c.loop-link.link-index x c.loop-link.out.items c.put_link.new.out.items (c.args.out.now.items ++ links_text true (map plain_link links))
    c.loop-link-test.true c.link-item.is refl c.loop-link.invariant
    (two_parts c.loop-link.out.items c.put_separator.new.out.items c.put_link.new.out.items (separator first) (link_text (plain_link x)) c.in_ok-put_separator.ensures c.in_ok-put_link.ensures)

pub returns : goal.returns
returns c =
    let links = c.args.links.now in
    all_written (λ (xs : List PortLink). links_text c.loop-link.first (map plain_link xs)) links c.loop-link.link-index c.loop-link.out.items (c.args.out.now.items ++ links_text true (map plain_link links)) c.loop-link-test.false refl c.loop-link.invariant
