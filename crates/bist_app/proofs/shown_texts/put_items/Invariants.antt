use Rattle.bist_app.proofs.Common.{◌≡◌, ◌++◌, take}
use Rattle.std.specs.List.{flat_map}
use Rattle.bist_app.specs.Show.{item_line}
use Rattle.bist_app.proofs.shown_texts.put_items.Given as goal

abbrev pub invariant-loop-item : goal.invariant-loop-item
invariant-loop-item l = l.out.items ≡ l.initial.out.items ++ flat_map item_line (take l.item-index l.items)
