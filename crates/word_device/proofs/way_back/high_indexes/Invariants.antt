use Rattle.std.proofs.Common.{◌≡◌, ◌<◌, ◌*◌, ℕ, length}
use Rattle.std.specs.Prelude.{slice_index, bit_xor}
use Rattle.word_device.specs.inner.WayBack.{IsBack}
use Rattle.word_device.proofs.way_back.high_indexes.Given as goal

abbrev pub invariant-loop-byte : goal.invariant-loop-byte
invariant-loop-byte l =
    (length l.high ≡ 256) × ((x : ℕ) → x < l.byte → IsBack l.scramble (x * 256) (bit_xor (slice_index l.high x) l.zeros))
