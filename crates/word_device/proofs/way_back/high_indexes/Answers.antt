use Rattle.std.proofs.Common.{◌≡◌, ◌≢◌, ◌<◌, ◌≤◌, ◌+◌, ◌*◌, ◌%◌, ◌^◌, ◌∙◌, ℕ, List, length, sym, subst, arith}
use Rattle.std.specs.Prelude.{slice_index, slice_set, bit_xor}
use Rattle.std.proofs.lemmas.List.{length-set, get_or-set_same, get_or-set_other}
use borrow.Author.Count.{below_more}
use Rattle.scrambler.specs.Scrambling.{Scrambling}
use Rattle.word_device.specs.inner.WayBack.{IsBack}
use Rattle.word_device.proofs.Porting.{twice}
use Rattle.word_device.proofs.way_back.high_indexes.Goals as goal

reduced : (byte last : ℕ) → byte < last + 1 → last < 256 → byte * 256 % 4294967296 ≡ byte * 256
reduced byte last is small = omega arith

address : (byte last n : ℕ) → byte < last + 1 → last < 256 → last * 256 < n → byte * 256 % 4294967296 < n
address byte last n is small below = let same = reduced byte last is small in omega arith

pub physical_of-requires : goal.physical_of-requires
physical_of-requires c =
    address c.loop-byte.byte c.args.last (2 ^ c.args.scramble.now.width) c.loop-byte-test.true c.requires.byte c.requires.address

-- one more byte
more : (s : Scrambling) (high : List ℕ) (byte k zeros : ℕ) → byte < length high
    → ((x : ℕ) → x < byte → IsBack s (x * 256) (bit_xor (slice_index high x) zeros))
    → IsBack s (byte * 256) k
    → (x : ℕ) → x < byte + 1 → IsBack s (x * 256) (bit_xor (slice_index (slice_set high byte (bit_xor k zeros)) x) zeros)
more s high byte k zeros inside below is =
    let v = bit_xor k zeros in
    below_more (λ x. IsBack s (x * 256) (bit_xor (slice_index (slice_set high byte v) x) zeros)) byte
    (λ x less.
    let other : x ≢ byte = omega arith in
    subst (λ n. IsBack s (x * 256) (bit_xor n zeros)) (sym (get_or-set_other high byte x v 0 other)) (below x less))
    (subst (λ n. IsBack s (byte * 256) (bit_xor n zeros)) (sym (get_or-set_same high byte v 0 inside)) (subst (IsBack s (byte * 256)) (sym (twice k zeros)) is))

inside : (byte last n : ℕ) → n ≡ 256 → byte < last + 1 → last < 256 → byte < n
inside byte last n is less small = omega arith

pub loop-byte-preserved : goal.loop-byte-preserved
loop-byte-preserved c =
    let byte = c.loop-byte.byte in
    let k = c.physical_of.result in (
      length-set c.loop-byte.high byte _ ∙ c.loop-byte.invariant.0,
      more c.args.scramble.now c.loop-byte.high byte k c.args.zeros
          (inside byte c.args.last _ c.loop-byte.invariant.0 c.loop-byte-test.true c.requires.byte) c.loop-byte.invariant.1
          (record { below = c.physical_of.ensures.fits; back = c.physical_of.ensures.back ∙ reduced byte c.args.last c.loop-byte-test.true c.requires.byte }),
    )

under : (x last byte : ℕ) → x ≤ last → last + 1 ≤ byte → x < byte
under x last byte is all = omega arith

pub returns : goal.returns
returns c x is = c.loop-byte.invariant.1 x (under x c.args.last c.loop-byte.byte is c.loop-byte-test.false)
