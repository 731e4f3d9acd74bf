use Rattle.std.proofs.Common.{◌≡◌, ◌<◌, ℕ, length}
use Rattle.std.specs.Prelude.{slice_index}
use Rattle.word_device.specs.inner.WayBack.{IsBack}
use Rattle.word_device.proofs.way_back.low_indexes.Given as goal

abbrev pub invariant-loop-byte : goal.invariant-loop-byte
invariant-loop-byte l =
    (length l.low ≡ 256) × ((x : ℕ) → x < l.byte → IsBack l.scramble x (slice_index l.low x))
