use Rattle.std.proofs.Common.{◌≡◌, ◌+◌, ◌*◌, ◌<◌, ◌≤◌, ℕ, false, get_or, replicate, ⊎_elim, arith}
use Rattle.std.proofs.lemmas.Bool.{cases_lt}
use Rattle.std.proofs.lemmas.List.{get_or-replicate, get_or_past, length-replicate}
use Rattle.pair_tracker.proofs.search.DeadEnds.unknown.Goals as goal

pub returns : goal.returns
returns c = λ i n. none (8 * i + n)
  where
    none : (n : ℕ) → get_or (replicate 512 false) n false ≡ false
    none n =
        ⊎_elim
        (λ (h : n < 512). get_or-replicate 512 n false false h)
        (λ (h : 512 ≤ n). get_or_past (replicate 512 false) n false (omega (arith, length-replicate 512 false)))
        (cases_lt n 512)
