-- Trusted. The list of every number: all static primitives, 21 times.
use Rattle.std.specs.Prelude.{ℕ, zero, suc, List, [], ◌++◌, map, codes}
use Rattle.fault_syntax.specs.declared.words.GroupName.TheVariants.{All}
use Rattle.fault_syntax.specs.Parts.{primitives_of}
use Rattle.dynamic_core.specs.declared.item.Item.{Item}
use Rattle.dynamic_core.specs.declared.item.Item.TheVariants.{Plain}

-- the line `all`, so many times
abbrev pub all_lines : ℕ → List ℕ
all_lines zero = []
all_lines (suc n) = codes "all\n" ++ all_lines n

-- all static primitives, so many times
abbrev pub all_items : ℕ → List Item
all_items zero = []
all_items (suc n) = map Plain (primitives_of All) ++ all_items n

unfoldable pub made_text : List ℕ
made_text = all_lines 21

unfoldable pub made_items : List Item
made_items = all_items 21
