use Rattle.std.proofs.Common.{◌≤◌, ◌*◌, length, arith, rules, ap}
use Rattle.word_march.proofs.Count.{run_small, runs_small}
use Rattle.word_march.proofs.counts.length.Goals as goal
use Rattle.word_march.proofs.counts.length.Goals.{After-backgrounds}

run_within : (c : After-backgrounds) → c.total_ops-operations.result * c.from-words.result ≤ 16777216
run_within c =
    let operations = c.known.ensures.ops_within in
    let words = c.words.ensures.memory.words_high in
    run_small c.total_ops-operations.result c.from-words.result (omega (arith, c.total_ops-operations.ensures)) (omega (arith, c.from-words.ensures, c.words.ensures.value))

all_within : (c : After-backgrounds) → length c.backgrounds.result.now * (c.total_ops-operations.result * c.from-words.result) ≤ 134217728
all_within c =
    let backgrounds = c.backgrounds.ensures.memory.tested.few in
    runs_small (length c.backgrounds.result.now) (c.total_ops-operations.result * c.from-words.result)
    (omega (arith, ap length c.backgrounds.ensures.value)) (run_within c)

pub overflow_mul-result : goal.overflow_mul-result
overflow_mul-result c = let h = run_within c in search rules

pub overflow_mul-result-2 : goal.overflow_mul-result-2
overflow_mul-result-2 c = let h = all_within c in search rules

pub returns-clause-at_most : goal.returns-clause-at_most
returns-clause-at_most c = all_within c
