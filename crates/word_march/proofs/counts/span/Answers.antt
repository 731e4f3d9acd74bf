use Rattle.std.proofs.Common.{◌≡◌, ℕ, ◌*◌, ◌≤◌, List, length, ◌∙◌, ap, arith}
use Rattle.std.proofs.lemmas.Nat.{mul-le}
use Rattle.memory_desc.specs.Descriptions.{Description, IsMemory}
use Rattle.word_march.proofs.Count.{span_is}
use Rattle.word_march.proofs.counts.span.Goals as goal
use Rattle.word_march.proofs.counts.span.Goals.{After-from}

-- the pauses of all backgrounds
few_pauses : (d : Description) (bs : List ℕ) (n : ℕ) → bs ≡ d.backgrounds → IsMemory d → n ≤ 64 → length bs * n ≤ 512
few_pauses d bs n e h l = mul-le (length bs) n 8 64 (omega (arith, ap length e, h.tested.few)) l

waits : (c : After-from) → c.from.result * (length c.backgrounds.result.now * c.pause_count.result) ≤ 33553920
waits c =
    mul-le c.from.result _ 65535 512 (omega (arith, c.from.ensures, c.pause.ensures.value, c.pause.ensures.memory.pause_high))
    (few_pauses c.args.memory.now c.backgrounds.result.now c.pause_count.result c.backgrounds.ensures.value c.backgrounds.ensures.memory c.pause_count.ensures.few)

pub overflow_mul-pauses : goal.overflow_mul-pauses
overflow_mul-pauses c =
    omega (arith, few_pauses c.args.memory.now c.backgrounds.result.now c.pause_count.result c.backgrounds.ensures.value c.backgrounds.ensures.memory c.pause_count.ensures.few)

pub overflow_mul-result : goal.overflow_mul-result
overflow_mul-result c = omega (arith, waits c)

pub overflow_add-result : goal.overflow_add-result
overflow_add-result c = omega (arith, waits c, c.length.ensures.at_most)

pub returns-clause-count : goal.returns-clause-count
returns-clause-count c =
    span_is c.args.march.now c.args.memory.now c.length.result c.from.result (length c.backgrounds.result.now) c.pause_count.result c.length.ensures.count
    (c.from.ensures ∙ c.pause.ensures.value) (ap length c.backgrounds.ensures.value) c.pause_count.ensures.count

pub returns-clause-at_most : goal.returns-clause-at_most
returns-clause-at_most c = omega (arith, waits c, c.length.ensures.at_most)
