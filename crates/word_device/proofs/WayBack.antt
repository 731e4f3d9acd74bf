-- The two bytes of an address lead to its index.
use Rattle.std.proofs.Common.{◌≡◌, ◌+◌, ◌*◌, ◌/◌, ◌<◌, ◌≤◌, ◌^◌, ◌%◌, ℕ, ap, sym, subst, ◌∙◌, arith}
use Rattle.std.specs.Prelude.{bit_xor, slice_index}
use Rattle.std.specs.Int.{bit_at}
use Rattle.std.specs.Int.Bits.{xor_assoc, xor_zero_l, xor_shifted}
use Rattle.std.proofs.Math.Path.{ap₂}
use Rattle.std.proofs.lemmas.Nat.{xor_comm, xor_lt}
use Rattle.std.proofs.lemmas.Nat.Bits.{bit_at_xor, same_from_bits_below}
use Rattle.scrambler.specs.Linear.{dot}
use Rattle.scrambler.specs.Scrambling.{Scrambling, IsFull, IsInvertible, product, row, logical}
use Rattle.scrambler.proofs.LinearLemmas.{dot_below, dot_xor, bit_at-number}
use Rattle.scrambler.proofs.ScramblingLemmas.{logical_is}
use Rattle.word_device.specs.declared.way_back.WayBack.{WayBack}
use Rattle.word_device.specs.inner.WayBack.{IsBack, AreLow, AreHigh}
use Rattle.word_device.specs.WayBack.{IsWayBack}
use Rattle.word_device.proofs.Porting.{one_index, product_from, product_below, twice}

-- the product of a sum
product_xor : (m : Scrambling) (x y : ℕ) → product m (bit_xor x y) ≡ bit_xor (product m x) (product m y)
product_xor m x y =
    let bit : ℕ → ℕ → ℕ = λ k i. dot (row m i) k in
    let here : (k i : ℕ) → i < m.width → bit_at (product m k) i ≡ bit k i = λ k i p. bit_at-number (bit k) m.width i (λ j _. dot_below (row m j) k) p in
    same_from_bits_below m.width (product m (bit_xor x y)) (bit_xor (product m x) (product m y)) (product_below m (bit_xor x y))
    (xor_lt m.width (product m x) (product m y) (product_below m x) (product_below m y))
    (λ i p.
    here (bit_xor x y) i p ∙ dot_xor (row m i) x y ∙ ap₂ (λ (a b : ℕ). (a + b) % 2) (sym (here x i p)) (sym (here y i p))
    ∙ sym (bit_at_xor (product m x) (product m y) i))

-- a constant that is added four times cancels
cancels : (a b c : ℕ) → bit_xor (bit_xor (bit_xor a c) (bit_xor (bit_xor b c) (bit_xor 0 c))) c ≡ bit_xor a b
cancels a b c =
    ap (λ x. bit_xor (bit_xor (bit_xor a c) (bit_xor (bit_xor b c) x)) c) (xor_zero_l c)
    ∙ ap (λ x. bit_xor (bit_xor (bit_xor a c) x) c) (twice b c)
    ∙ xor_assoc (bit_xor a c) b c ∙ ap (bit_xor (bit_xor a c)) (xor_comm b c) ∙ sym (xor_assoc (bit_xor a c) c b)
    ∙ ap (λ x. bit_xor x b) (twice a c)

-- the index of the sum of two addresses, by those of both and of the address 0
sum_back : (s : Scrambling) (a b x y z : ℕ) → IsFull s → IsBack s a x → IsBack s b y → IsBack s 0 z → logical s (bit_xor x (bit_xor y z)) ≡ bit_xor a b
sum_back s a b x y z full hx hy hz =
    let c : ℕ = s.constant in
    let plain : (k e : ℕ) → logical s k ≡ e → product s k ≡ bit_xor e c = λ k e is. product_from s k full.constant_fits ∙ ap (λ n. bit_xor n c) is in
    sym (logical_is s (bit_xor x (bit_xor y z)) full.constant_fits)
    ∙ ap (λ n. bit_xor n c) (
    product_xor s x (bit_xor y z)
    ∙ ap₂ bit_xor (plain x a hx.back) (product_xor s y z ∙ ap₂ bit_xor (plain y b hy.back) (plain z 0 hz.back)))
    ∙ cancels a b c

-- two bytes
bytes : (a : ℕ) → bit_xor (a % 256) (a / 256 * 256) ≡ a
bytes a =
    let low : a % 256 < 2 ^ 8 = omega arith in
    let whole : a / 256 * 256 + a % 256 ≡ a = omega arith in
    xor_comm (a % 256) (a / 256 * 256) ∙ xor_shifted (a / 256) 8 (a % 256) low ∙ whole

-- tables of both bytes are a way back
pub leads : (s : Scrambling) (way : WayBack) (last first top : ℕ) → IsFull s → IsInvertible s → last + 1 ≡ 2 ^ s.width → first ≤ last → top ≡ last / 256
    → ((x : ℕ) → x ≤ last → x < 256 → x ≤ first) → AreLow s way.low first → AreHigh s way.high (slice_index way.low 0) top → IsWayBack s way
leads s way last first top full invertible count small same within low high a inside =
    let z : ℕ = slice_index way.low 0 in
    let x : ℕ = slice_index way.low (a % 256) in
    let h : ℕ = slice_index way.high (a / 256) in
    let hx : IsBack s (a % 256) x = low (a % 256) (within (a % 256) (omega arith) (omega arith)) in
    let hy : IsBack s (a / 256 * 256) (bit_xor h z) = high (a / 256) (omega arith) in
    let hz : IsBack s 0 z = low 0 (omega arith) in
    let below : bit_xor x (bit_xor (bit_xor h z) z) < 2 ^ s.width =
    xor_lt s.width x (bit_xor (bit_xor h z) z) hx.below (xor_lt s.width (bit_xor h z) z hy.below hz.below) in
    let back : logical s (bit_xor x (bit_xor (bit_xor h z) z)) ≡ a = sum_back s (a % 256) (a / 256 * 256) x (bit_xor h z) z full hx hy hz ∙ bytes a in
    let k : ℕ = bit_xor x h in
    let is : bit_xor x (bit_xor (bit_xor h z) z) ≡ k = ap (bit_xor x) (twice h z) in
    let k_below : k < 2 ^ s.width = subst (λ n. n < 2 ^ s.width) is below in
    let k_back : logical s k ≡ a = subst (λ n. logical s n ≡ a) is back in
    record { below = k_below; back = k_back; only = λ j l e. one_index s j k full invertible l k_below (e ∙ sym k_back) }
