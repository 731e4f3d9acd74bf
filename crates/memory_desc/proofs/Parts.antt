-- The parts of a memory.
use Rattle.memory_desc.proofs.Common.{IsBackgrounds, IsLogSet, IsWidthOf, List, arith, get_or_default_zero, length, lit≤, pow_pos, slice_index, subst, suc, sym, zero, ℕ, ◌+◌, ◌<◌, ◌^◌, ◌≡◌, ◌≤◌}

-- ---- the logarithmic set serves every memory

log_fits : (bits : ℕ) (set : List ℕ) → IsLogSet bits set → (k : ℕ) → k < length set → slice_index set k < 2 ^ bits
log_fits bits set s zero h = subst (λ (x : ℕ). x < 2 ^ bits) (sym s.solid) (pow_pos bits)
log_fits bits set s (suc k) h =
    let one : k + 1 ≡ suc k = omega arith in
    subst (λ (n : ℕ). slice_index set n < 2 ^ bits) one (s.stripes k (omega arith)).fits

pub log_set_serves : (bits : ℕ) (set : List ℕ) → bits ≤ 64 → IsLogSet bits set → IsBackgrounds bits set
log_set_serves bits set h s =
    let few = s.count.least 6 h in
    let some = s.some in
    record {
      some = some;
      few = omega arith;
      fit = λ k d l. subst (λ (x : ℕ). x < 2 ^ bits) (sym (get_or_default_zero set k d l)) (log_fits bits set s k l);
      solid = (0, some, s.solid);
    }

-- ---- widths

-- the addresses of the largest memory have 16 bits
pub width_small : (n w : ℕ) → n < 65536 → IsWidthOf n w → (1 ≤ w) × (w ≤ 16)
width_small n w h width = (width.positive, width.least 16 (lit≤ tt) h)
