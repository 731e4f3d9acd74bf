-- Two small runs by computing, and when the first is done.
use Rattle.std.proofs.Common.{◌≡◌, ◌≤◌, Bool, true, false, refl, arith}
use Rattle.march_core.specs.Visits.{addresses}
use Rattle.word_march.specs.Laws.{Examples}

not_true : (b : Bool) → (b ≡ true → ⊥) → b ≡ false
not_true true f = absurd (f refl)
not_true false f = refl

pub small_runs : Examples
unfolding addresses
small_runs = record {
  writes_stand = refl;
  writes_span = refl;
  not_done = λ q returned h. not_true q.done (λ e. let l : 4 ≤ 3 = h.done.0 e in omega arith);
  done = λ q returned h. h.done.1 (omega arith);
  paused_stand = refl;
  paused_span = refl;
  writes = refl;
  indices = refl;
  inverted = refl;
}
