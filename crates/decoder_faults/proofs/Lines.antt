-- A stuck line has the fault of an address that reaches another cell, at the addresses 0 and 2 ^ k.
use Rattle.std.proofs.Common.{◌≡◌, ◌<◌, ◌≤◌, ◌+◌, ◌-◌, ◌*◌, ◌/◌, ◌%◌, ◌^◌, ℕ, Bool, true, false, cond, eqb, List, length, ap, ◌∙◌, ⊎_elim, arith}
use Rattle.std.proofs.Math.Nat.{div-eq_of_lt}
use Rattle.std.proofs.lemmas.Bool.{cases_lt}
use Rattle.std.proofs.lemmas.Nat.{pow_pos, shl-shr}
use Rattle.march_core.specs.March.{MarchElement}
use Rattle.decoder_faults.specs.declared.fault.DecoderFault.TheVariants.{OtherCell}
use Rattle.decoder_faults.specs.Decoding.{AddressPair, FitsPair, one_cell, HasFault}
use Rattle.decoder_faults.specs.Detection.{DetectsAmong}
use Rattle.decoder_faults.specs.Lines.{line_of, stuck_line, DetectsStuckLines, AreAllLines}

low_line : (k z : ℕ) → z < 2 ^ k → line_of k z ≡ false
low_line k z h = ap (λ d. eqb (d % 2) 1) (div-eq_of_lt h)

own_line : (k : ℕ) → line_of k (2 ^ k) ≡ true
own_line k =
    let once : 2 ^ k ≡ 1 * 2 ^ k = omega arith in
    ap (λ d. eqb (d % 2) 1) (ap (λ n. n / 2 ^ k) once ∙ shl-shr 1 k)

not_both : (b : Bool) → b ≡ true → b ≡ false → ⊥
not_both true e f = cc
not_both false e f = cc

above : (k z : ℕ) → line_of k z ≡ true → 2 ^ k ≤ z
above k z on = ⊎_elim (λ (h : z < 2 ^ k). absurd (not_both (line_of k z) on (low_line k z h))) (λ (h : 2 ^ k ≤ z). h) (cases_lt z (2 ^ k))

-- the two addresses that a line alone tells apart
abbrev apart_by : ℕ → Bool → AddressPair
apart_by k false = record { x = 2 ^ k; y = 0 }
apart_by k true = record { x = 0; y = 2 ^ k }

line_has : (k : ℕ) (bit : Bool) → HasFault (stuck_line k bit) OtherCell (apart_by k bit)
line_has k false = record {
  at_x = ap (λ b. one_cell (cond b (2 ^ k - 2 ^ k) (2 ^ k))) (own_line k) ∙ ap one_cell (let none : 2 ^ k - 2 ^ k ≡ 0 = omega arith in none);
  at_y = ap (λ b. one_cell (cond b (0 - 2 ^ k) 0)) (low_line k 0 (pow_pos k));
}
line_has k true = record {
  at_x = ap (λ b. one_cell (cond b 0 (0 + 2 ^ k))) (low_line k 0 (pow_pos k)) ∙ ap one_cell (let same : 0 + 2 ^ k ≡ 2 ^ k = omega arith in same);
  at_y = ap (λ b. one_cell (cond b (2 ^ k) (2 ^ k + 2 ^ k))) (own_line k);
}

apart_fits : (k n : ℕ) (bit : Bool) → 0 < 2 ^ k → 2 ^ k < n → FitsPair (apart_by k bit) n
apart_fits k n false some more = record { x_within = more; y_within = omega arith; apart = λ e. (let clash : 2 ^ k ≡ 0 = e in omega arith) }
apart_fits k n true some more = record { x_within = omega arith; y_within = more; apart = λ e. (let clash : 0 ≡ 2 ^ k = e in omega arith) }

pub lines_detected : (march : List MarchElement) → DetectsAmong march OtherCell → DetectsStuckLines march
lines_detected march among size k bit directions content (z, inside, on) allowed len =
    let some : 0 < 2 ^ k = pow_pos k in
    let high : 2 ^ k ≤ z = above k z on in
    among directions (stuck_line k bit) (apart_by k bit) content allowed (apart_fits k (length content) bit some (omega arith)) (line_has k bit)

pub all_lines : AreAllLines
all_lines march detects size k bit directions content inside allowed len =
    detects size k bit directions content (2 ^ k, inside, own_line k) allowed len
