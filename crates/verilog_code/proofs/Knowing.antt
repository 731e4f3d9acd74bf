-- What is known of nets when a value changes.
use Rattle.std.proofs.Common.{◌≡◌, ◌≢◌, ℕ, ◌+◌, ◌-◌, ◌%◌, ◌^◌, ◌<◌, min, max, Bool, true, false, cond, nat_lt, List, [], ◌∷◌, get_or, slice_set, length, refl, sym, ap, ◌∙◌, subst, arith, bit_and, bit_or, map, drop}
use Rattle.std.specs.Int.{bit_at}
use Rattle.std.proofs.lemmas.Nat.Bits.{bit_at_and, bit_at_or, bit_at-pow_same, bit_at-zero, same_from_bits}
use Rattle.std.proofs.lemmas.List.{set-get_or}
use Rattle.verilog_code.specs.declared.code.Code.{Code}
use Rattle.verilog_code.specs.declared.step.Step.{Step}
use Rattle.verilog_code.specs.Places.{put, settled}
use Rattle.verilog_code.specs.Reading.{Rests, Reads, AreReading, Known}
use Rattle.verilog_code.proofs.Loops.{next_of, one_settled}
use Rattle.verilog_code.proofs.Putting.{put_there}

-- what shares no bit with two masks together shares none with the first
fewer : (a b c : ℕ) → bit_and (bit_or a b) c ≡ 0 → bit_and a c ≡ 0
fewer a b c h = same_from_bits (bit_and a c) 0 (λ i.
    let e : min (max (bit_at a i) (bit_at b i)) (bit_at c i) ≡ 0 = ap (λ (k : ℕ). min k (bit_at c i)) (sym (bit_at_or a b i)) ∙ sym (bit_at_and (bit_or a b) c i) ∙ ap (λ (k : ℕ). bit_at k i) h ∙ bit_at-zero i in
    let q : min (bit_at a i) (bit_at c i) ≡ 0 = omega (arith, e) in
    bit_at_and a c i ∙ q ∙ sym (bit_at-zero i))

-- a mask that shares no bit with another and the bit at i hasn't that bit
no_bit : (a c i : ℕ) → bit_and (bit_or a (2 ^ i)) c ≡ 0 → bit_at c i ≢ 1
no_bit a c i h = λ one.
    let e : min (max (bit_at a i) (bit_at (2 ^ i) i)) (bit_at c i) ≡ 0 = ap (λ (k : ℕ). min k (bit_at c i)) (sym (bit_at_or a (2 ^ i) i)) ∙ sym (bit_at_and (bit_or a (2 ^ i)) c i) ∙ ap (λ (k : ℕ). bit_at k i) h ∙ bit_at-zero i in
    let p = bit_at-pow_same i in
    absurd (omega (arith, e, p, one))

-- a value that stands there already
pub put_same : {A : Type 0} (vs : List A) (k : ℕ) (x z : A) → get_or vs k z ≡ x → put vs k x ≡ vs
put_same vs k x z h = ap (put vs k) (sym h) ∙ by_test (nat_lt k (length vs))
  where
    by_test : (t : Bool) → cond t (slice_set vs k (get_or vs k z)) vs ≡ vs
    by_test true = set-get_or vs k z
    by_test false = refl

-- a value before the nets changes
pub known_put : {A : Type 0} (z : A) (worth : List A → Code → A) → ((bits : ℕ) (c : Code) → Reads bits c → Rests z worth bits c) →
    (k bits p : ℕ) (x : A) (ss : List Step) (vs : List A) → p < k → AreReading ss → Known z worth k bits ss vs → Known z worth k (bit_or bits (2 ^ (p % 64))) ss (put vs p x)
known_put z worth rests k bits p x [] vs lt r h = tt
known_put z worth rests k bits p x (s ∷ ss) vs lt r h = (
  λ apart.
      let other : k ≢ p = λ e. absurd (omega (arith, lt, e)) in
      put_there vs p k x z other
      ∙ h.0 (fewer bits (2 ^ (p % 64)) s.reads apart)
      ∙ rests s.reads s.code.value r.0 vs (put vs p x) (λ q one. sym (put_there vs p q x z (λ e. no_bit bits s.reads (p % 64) apart (ap (λ (j : ℕ). bit_at s.reads (j % 64)) (sym e) ∙ one)))),
  known_put z worth rests (k + 1) bits p x ss vs (omega (arith, lt)) r.2 h.1,
)

-- where all bits are set, nothing is known
pub known_nothing : {A : Type 0} (z : A) (worth : List A → Code → A) (k : ℕ) (ss : List Step) (vs : List A) → AreReading ss → Known z worth k (2 ^ 64 - 1) ss vs
known_nothing z worth k [] vs r = tt
known_nothing z worth k (s ∷ ss) vs r = (λ apart. absurd (r.1 apart), known_nothing z worth (k + 1) ss vs r.2)

-- ---- in a loop

-- a step, and what is behind it
pub record Parted {A : Type 0} (z : A) (worth : List A → Code → A) (first i bits : ℕ) (d : Step) (behind : List Step) (vs : List A) : Type 0 where
  pub here : bit_and bits d.reads ≡ 0 → get_or vs (first + i) z ≡ worth vs d.code.value
  pub reading : AreReading behind
  pub known : Known z worth (first + (i + 1)) bits behind vs

pub parted_steps : {A : Type 0} (z : A) (worth : List A → Code → A) (first i bits : ℕ) (steps : List Step) (d : Step) (vs : List A) → i < length steps → d ≡ get_or steps i d →
    AreReading (drop i steps) → Known z worth (first + i) bits (drop i steps) vs → Parted z worth first i bits d (drop (i + 1) steps) vs
parted_steps z worth first i bits steps d vs lt is r h =
    let e = next_of steps i d lt is in
    let known = subst (λ (ss : List Step). Known z worth (first + i) bits ss vs) e h in
    record {
      here = known.0;
      reading = (subst AreReading e r).2;
      known = subst (λ (k : ℕ). Known z worth k bits (drop (i + 1) steps) vs) (let k : first + i + 1 ≡ first + (i + 1) = omega arith in k) known.1;
    }

-- what stands there already is as good as computed
pub one_skipped : {A : Type 0} (z : A) (worth : List A → Code → A) (steps : List Step) (first i : ℕ) (d : Step) (vs ys : List A) → i < length steps → d ≡ get_or steps i d → get_or vs (first + i) z ≡ worth vs d.code.value →
    settled worth (first + i) (map (λ s. s.code.value) (drop i steps)) vs ≡ ys → settled worth (first + (i + 1)) (map (λ s. s.code.value) (drop (i + 1) steps)) vs ≡ ys
one_skipped z worth steps first i d vs ys lt is here so =
    one_settled worth (λ s. s.code.value) steps first i d (worth vs d.code.value) vs vs ys lt is (sym (put_same vs (first + i) (worth vs d.code.value) z here)) refl so
