-- The word that has an address.
use Rattle.std.proofs.Common.{◌≡◌, ◌≢◌, ◌<◌, ◌≤◌, ◌^◌, ◌%◌, ℕ, zero, suc, cond, eqb, Some, None, true, false, ap, subst, refl, sym, ◌∙◌, ⊎_elim, arith}
use Rattle.std.proofs.lemmas.Bool.{ne_eqb}
use Rattle.std.proofs.lemmas.Nat.{pow_pos, mod_below}
use Rattle.std.proofs.lemmas.Bool.Decides.{eqb_tells}
use Rattle.scrambler.specs.Scrambling.{Scrambling, logical}
use Rattle.word_device.specs.declared.shape.Shape.{Shape}
use Rattle.word_device.specs.Ports.{index_at, addressed}
use Rattle.word_device.specs.Boxes.{IsShape}
use Rattle.word_device.specs.declared.way_back.WayBack.{WayBack}
use Rattle.word_device.specs.WayBack.{IsIndexOf, IsWayBack, led_to}

pub index_found : (s : Scrambling) (n k : ℕ) → k < n → ((j : ℕ) → j < n → logical s j ≡ logical s k → j ≡ k) → index_at s (logical s k) n ≡ Some k
index_found s zero k inside one = absurd (omega arith)
index_found s (suc n) k inside one =
    ⊎_elim
    (λ (h : (eqb (logical s n) (logical s k) ≡ true) × (logical s n ≡ logical s k)).
    ap (λ b. cond b (Some n) (index_at s (logical s k) n)) h.0 ∙ ap Some (one n (omega arith) h.1))
    (λ (h : (eqb (logical s n) (logical s k) ≡ false) × (logical s n ≢ logical s k)).
    let other : n ≢ k = λ e. h.1 (ap (logical s) e) in
    ap (λ b. cond b (Some n) (index_at s (logical s k) n)) h.0 ∙ index_found s n k (omega arith) (λ j l. one j (omega arith)))
    (eqb_tells (logical s n) (logical s k))

index_missing : (s : Scrambling) (n a : ℕ) → ((j : ℕ) → j < n → logical s j ≡ a → ⊥) → index_at s a n ≡ None
index_missing s zero a never = refl
index_missing s (suc n) a never =
    ap (λ b. cond b (Some n) (index_at s a n)) (ne_eqb (logical s n) a (never n (omega arith))) ∙ index_missing s n a (λ j l. never j (omega arith))

-- what the way back leads to, of the low bits of an address
led : (s : Scrambling) (way : WayBack) (addr a k : ℕ) → IsWayBack s way → a ≡ addr % 2 ^ s.width → k ≡ led_to way a → IsIndexOf s (addr % 2 ^ s.width) k
led s way addr a k leads low is =
    subst (λ x. IsIndexOf s x k) low
    (subst (IsIndexOf s a) (sym is) (leads a (subst (λ x. x < 2 ^ s.width) (sym low) (mod_below addr (2 ^ s.width) (pow_pos s.width)))))

-- it is the one index with this address, if it is below the words
pub index_is : (shape : Shape) (way : WayBack) (addr a k : ℕ) → IsShape shape → IsWayBack shape.scramble way → a ≡ addr % 2 ^ shape.scramble.width
    → k ≡ led_to way a
    → k < shape.words → Some k ≡ addressed shape addr
unfolding addressed
index_is shape way addr a k is leads low at inside =
    let here : IsIndexOf shape.scramble (addr % 2 ^ shape.scramble.width) k = led shape.scramble way addr a k leads low at in
    let some = is.words_low in
    let holds = is.address.holds in
    sym (
    ap (λ x. index_at shape.scramble x shape.words) (sym here.back)
    ∙ index_found shape.scramble shape.words k inside (λ j l e. here.only j (omega arith) (e ∙ here.back))
    )

pub index_none : (shape : Shape) (way : WayBack) (addr a k : ℕ) → IsShape shape → IsWayBack shape.scramble way → a ≡ addr % 2 ^ shape.scramble.width
    → k ≡ led_to way a
    → shape.words ≤ k → None ≡ addressed shape addr
unfolding addressed
index_none shape way addr a k is leads low at outside =
    let here : IsIndexOf shape.scramble (addr % 2 ^ shape.scramble.width) k = led shape.scramble way addr a k leads low at in
    let some = is.words_low in
    let holds = is.address.holds in
    sym (
    index_missing shape.scramble shape.words (addr % 2 ^ shape.scramble.width) (λ j l e. let same = here.only j (omega arith) e in absurd (omega arith))
    )
