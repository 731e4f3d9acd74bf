-- The addresses of an element, one by one.
use Rattle.std.proofs.Common.{◌≡◌, ℕ, ◌-◌, ◌<◌, length, slice_index, ◌∙◌, ap, arith}
use Rattle.std.proofs.Math.Nat.{zero-add}
use Rattle.std.proofs.lemmas.List.{get_or-reverse, length-reverse}
use Rattle.std.proofs.lemmas.List.FromFn.{get_or-range_with_len, length-range_with_len}
use Rattle.std.specs.List.{range_with_len}
use Rattle.march_core.specs.Visits.{Direction, Upward, Downward, addresses}

pub length-addresses : (d : Direction) (size : ℕ) → length (addresses d size) ≡ size
unfolding addresses
length-addresses Upward size = length-range_with_len 0 size
length-addresses Downward size = length-reverse (range_with_len 0 size) ∙ length-range_with_len 0 size

pub address_upward : (size step : ℕ) → step < size → slice_index (addresses Upward size) step ≡ step
unfolding addresses
address_upward size step h = get_or-range_with_len 0 size step 0 h ∙ zero-add step

pub address_downward : (size step : ℕ) → step < size → slice_index (addresses Downward size) step ≡ size - 1 - step
unfolding addresses
address_downward size step h =
    let count : length (range_with_len 0 size) ≡ size = length-range_with_len 0 size in
    get_or-reverse (range_with_len 0 size) step 0 (omega arith)
    ∙ ap (λ (n : ℕ). slice_index (range_with_len 0 size) (n - 1 - step)) count
    ∙ get_or-range_with_len 0 size (size - 1 - step) 0 (omega arith) ∙ zero-add (size - 1 - step)
