-- The test of a memory catches an instance in one word exactly where the run of its two bits ends early.
use Rattle.std.proofs.Common.{◌≡◌, ◌<◌, ℕ, not, is_some, List, length, refl, ap, sym, subst, ◌∙◌}
use Rattle.fault_core.specs.Primitive.{Primitive, IsPrimitive}
use Rattle.cell_machine.specs.declared.pair.Pair.{Pair}
use Rattle.cell_machine.specs.Pairs.{pair_close}
use Rattle.cell_machine.proofs.Closing.{pair_close-closed}
use Rattle.march_core.specs.March.{MarchElement, IsMarch}
use Rattle.memory_desc.specs.Descriptions.{Description, IsMemory}
use Rattle.word_march.specs.Commands.{word_steps}
use Rattle.word_device.specs.declared.device.Planted.{Planted}
use Rattle.word_device.specs.Chips.{closed_words}
use Rattle.word_device.proofs.Passing.{passes}
use Rattle.word_device.proofs.Porting.{march_in_memory}
use Rattle.word_coupling.specs.declared.reading.Reading.{Reading}
use Rattle.word_coupling.specs.Words.{in_word, is_caught, AreBits}
use Rattle.word_coupling.specs.inner.Couples.{passes as passes_at}
use Rattle.word_coupling.proofs.Stored.{stored, stored_same, seen_in, Shows, shows_closed, closed_same}
use Rattle.word_coupling.proofs.Steps.{caught_steps}
use Rattle.word_coupling.proofs.Runs.{test_is}

pub caught_is : (r : Reading) (p : Primitive) (march : List MarchElement) (d : Description) (w agg vic : ℕ) (words : List ℕ) → IsPrimitive p → IsMarch march → IsMemory d
    → AreBits d w agg vic → length words ≡ d.words
    → is_caught r d.bits (in_word p w agg vic) (word_steps march d) (closed_words (in_word p w agg vic) words)
    ≡ not (passes_at r p march d.backgrounds agg vic (seen_in w agg vic words))
unfolding passes_at
caught_is r p march d w agg vic words is is_march m bits size =
    let i : Planted = in_word p w agg vic in
    let pair : Pair = seen_in w agg vic words in
    let closed : Pair = pair_close p pair in
    let shows : Shows w agg vic words pair = record { inside = subst (λ (n : ℕ). w < n) (sym size) bits.word_within; apart = bits.apart; agg_is = refl } in
    let start : closed_words i words ≡ stored w vic words closed.v =
    ap (closed_words i) (sym (stored_same w vic words)) ∙ closed_same p w agg vic words pair shows in
    ap (is_caught r d.bits i (word_steps march d)) start
    ∙ caught_steps r p d.words d.bits w agg vic is bits.vic_within (word_steps march d) words closed (shows_closed p w agg vic words pair shows)
    (pair_close-closed p pair is) (march_in_memory march d m) (passes march d words is_march size)
    ∙ ap (λ z. not (is_some z)) (test_is r p march d w agg vic m bits.agg_within bits.vic_within bits.word_within closed)
