use Rattle.std.proofs.Common.{◌≡◌, ◌++◌, true, drop, map}
use Rattle.chip_rtl.specs.TopSeen.{plain_link}
use Rattle.chip_rtl.specs.PrintedTop.{links_text}
use Rattle.chip_rtl.proofs.emit.put_links.Given as goal

abbrev pub invariant-loop-link : goal.invariant-loop-link
invariant-loop-link l = l.out.items ++ links_text l.first (map plain_link (drop l.link-index l.links)) ≡ l.initial.out.items ++ links_text true (map plain_link l.links)
