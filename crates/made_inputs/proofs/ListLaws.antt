-- The list's text is read as its primitives.
use Rattle.std.proofs.Common.{◌≡◌, ℕ, zero, suc, ◌+◌, ◌*◌, List, ◌++◌, Some, Ok, inl, length, map, refl, ap, arith, codes, length-append}
use Rattle.bist_text.specs.Lines.{lines_from}
use Rattle.fault_syntax.specs.declared.words.GroupName.TheVariants.{All}
use Rattle.fault_syntax.specs.ListText.{Named, ItemLine}
use Rattle.fault_syntax.specs.Parts.{primitives_of}
use Rattle.memory_desc.proofs.BackLines.{first_line}
use Rattle.dynamic_core.specs.declared.item.Item.TheVariants.{Plain}
use Rattle.dynamic_core.specs.inner.Items.{BringAll}
use Rattle.dynamic_core.specs.Items.{ReadsItems}
use Rattle.made_inputs.specs.MadeList.{all_lines, all_items, made_text, made_items}

-- one more line
pub all_lines_more : (n : ℕ) → all_lines n ++ codes "all\n" ≡ all_lines (suc n)
all_lines_more zero = refl
all_lines_more (suc n) = ap (λ (l : List ℕ). codes "all\n" ++ l) (all_lines_more n)

all_is_line : ItemLine (codes "all") (Some (Named All))
all_is_line = inl (refl, inl tt)

lines_bring : (number start n : ℕ) → BringAll (lines_from number start (all_lines n)) (all_items n)
lines_bring number start zero = refl
lines_bring number start (suc n) =
    rw (first_line number start (codes "all") (all_lines n) refl)
    (Some (Named All), map Plain (primitives_of All), all_items n, all_is_line, refl, lines_bring (number + 1) (start + 3 + 1) n, refl)

items_count : (n : ℕ) → length (all_items n) ≡ 48 * n
items_count zero = refl
items_count (suc n) = let rest = items_count n in rw (length-append (map Plain (primitives_of All)) (all_items n)) (omega (arith, rest))

pub made_count : length made_items ≡ 1008
unfolding made_items
made_count = items_count 21

pub made_reads : ReadsItems made_text (Ok made_items)
unfolding made_text made_items
made_reads = let count = items_count 21 in (lines_bring 1 0 21, omega (arith, count))
