use Rattle.bist_app.proofs.Common.{◌≡◌, ◌<◌, ◌⊎◌, ℕ, get_or}
use Rattle.bist_app.proofs.sim.are_of.Given as goal

-- each byte so far is one of the two
abbrev pub invariant-loop-byte : goal.invariant-loop-byte
invariant-loop-byte l = (k d : ℕ) → k < l.byte-index → (get_or l.bytes k d ≡ l.fn.first) ⊎ (get_or l.bytes k d ≡ l.fn.second)
