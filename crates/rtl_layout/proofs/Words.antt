-- The words of the backgrounds have the bits of the memory's words, and that of the value 1 is the complement.
use Rattle.std.proofs.Common.{◌≡◌, ℕ, ◌-◌, ◌*◌, ◌^◌, ◌<◌, Bool, true, false, cond, bit_and, bit_xor, sym, ap, ◌∙◌, arith}
use Rattle.std.specs.Int.Bits.{xor_add_and, and_mask, and_comm, xor_assoc}
use Rattle.std.proofs.Math.Nat.{mod-eq_of_lt}
use Rattle.std.proofs.lemmas.Nat.{xor_lt}
use Rattle.rtl_layout.specs.Plan.{Plan, port_word}
use Rattle.rtl_layout.specs.Shows.{Sized}

pub word_below : (p : Plan) → Sized p → (t : Bool) (b : ℕ) → b < 2 ^ p.bits → port_word p t b < 2 ^ p.bits
word_below p sized t b h = xor_lt p.bits (cond t (2 ^ p.bits - 1 - b) b) p.polarity (side t) sized.polarity_fits
  where
    side : (t : Bool) → cond t (2 ^ p.bits - 1 - b) b < 2 ^ p.bits
    side true = omega arith
    side false = h

complement : (bits b : ℕ) → b < 2 ^ bits → bit_xor (2 ^ bits - 1) b ≡ 2 ^ bits - 1 - b
complement bits b h =
    let sum = xor_add_and (2 ^ bits - 1) b in
    let common : bit_and (2 ^ bits - 1) b ≡ b = and_comm (2 ^ bits - 1) b ∙ and_mask b bits ∙ mod-eq_of_lt h in
    let twice = ap (λ (x : ℕ). x * 2) common in
    omega arith

pub complemented : (p : Plan) → Sized p → (b : ℕ) → b < 2 ^ p.bits → 2 ^ p.bits - 1 - port_word p false b ≡ port_word p true b
complemented p sized b h =
    sym (complement p.bits (port_word p false b) (word_below p sized false b h))
    ∙ sym (xor_assoc (2 ^ p.bits - 1) b p.polarity)
    ∙ ap (λ (x : ℕ). bit_xor x p.polarity) (complement p.bits b h)
