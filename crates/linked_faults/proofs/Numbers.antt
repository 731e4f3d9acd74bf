-- The places of three cells in their order.
use Rattle.std.proofs.Math.Nat.{eq-or-lt_of_le}
use Rattle.std.proofs.Common.{◌≡◌, ◌<◌, ⊎_elim, subst, ℕ, zero, suc, ◌+◌, ◌*◌, Bool, true, false, refl, ap, sym, ◌∙◌, arith}
use Rattle.linked_faults.specs.declared.link.LinkPlaces.{LinkPlaces}
use Rattle.linked_faults.specs.declared.escape.LinkEscape.{LinkEscape}
use Rattle.linked_faults.specs.Linking.{FitsLinkPlaces}
use Rattle.fault_core.specs.Primitive.{has_aggressor}
use Rattle.linked_faults.specs.declared.link.Link.{Link}
use Rattle.linked_faults.specs.Escapes.{three_number, number_by, has_other, spots_number, array_number}
use Rattle.linked_faults.specs.inner.Numbers.{number_below, same_number}
use Rattle.linked_faults.specs.inner.Searching.{link_places_at, ordered_places, assigned_places, link_places_in}

abbrev plain_number : LinkPlaces → ℕ
plain_number at = 9 * at.a + 3 * at.b + at.v

-- each choice of three different places among three is one of the six
record IsChoice (at : LinkPlaces) : Type 0 where
  pub order : ℕ
  pub within : order < 6
  pub is : at ≡ ordered_places order

order_of : (a b v : ℕ) → FitsLinkPlaces (link_places_at a b v) 3 → IsChoice (link_places_at a b v)
order_of zero zero v fits = absurd (fits.a_b refl)
order_of zero (suc zero) zero fits = absurd (fits.a_v refl)
order_of zero (suc zero) (suc zero) fits = absurd (fits.b_v refl)
order_of zero (suc zero) (suc (suc zero)) fits = record { order = 0; within = omega arith; is = refl }
order_of zero (suc (suc zero)) zero fits = absurd (fits.a_v refl)
order_of zero (suc (suc zero)) (suc zero) fits = record { order = 1; within = omega arith; is = refl }
order_of zero (suc (suc zero)) (suc (suc zero)) fits = absurd (fits.b_v refl)
order_of (suc zero) zero zero fits = absurd (fits.b_v refl)
order_of (suc zero) zero (suc zero) fits = absurd (fits.a_v refl)
order_of (suc zero) zero (suc (suc zero)) fits = record { order = 2; within = omega arith; is = refl }
order_of (suc zero) (suc zero) v fits = absurd (fits.a_b refl)
order_of (suc zero) (suc (suc zero)) zero fits = record { order = 3; within = omega arith; is = refl }
order_of (suc zero) (suc (suc zero)) (suc zero) fits = absurd (fits.a_v refl)
order_of (suc zero) (suc (suc zero)) (suc (suc zero)) fits = absurd (fits.b_v refl)
order_of (suc (suc zero)) zero zero fits = absurd (fits.b_v refl)
order_of (suc (suc zero)) zero (suc zero) fits = record { order = 4; within = omega arith; is = refl }
order_of (suc (suc zero)) zero (suc (suc zero)) fits = absurd (fits.a_v refl)
order_of (suc (suc zero)) (suc zero) zero fits = record { order = 5; within = omega arith; is = refl }
order_of (suc (suc zero)) (suc zero) (suc zero) fits = absurd (fits.b_v refl)
order_of (suc (suc zero)) (suc zero) (suc (suc zero)) fits = absurd (fits.a_v refl)
order_of (suc (suc zero)) (suc (suc zero)) v fits = absurd (fits.a_b refl)
order_of (suc (suc (suc a))) b v fits = absurd (let h = fits.a_within in omega arith)
order_of a (suc (suc (suc b))) v fits = absurd (let h = fits.b_within in omega arith)
order_of a b (suc (suc (suc v))) fits = absurd (let h = fits.v_within in omega arith)

-- later places have a greater number
later : (o : ℕ) → o < 5 → plain_number (ordered_places o) < plain_number (ordered_places (suc o))
later zero h = omega arith
later (suc zero) h = omega arith
later (suc (suc zero)) h = omega arith
later (suc (suc (suc zero))) h = omega arith
later (suc (suc (suc (suc zero)))) h = omega arith
later (suc (suc (suc (suc (suc o))))) h = absurd (omega arith)

choices_in_order : (o p : ℕ) → o < p → p < 6 → plain_number (ordered_places o) < plain_number (ordered_places p)
choices_in_order o zero h k = absurd (omega arith)
choices_in_order o (suc p) h k =
    let then : plain_number (ordered_places p) < plain_number (ordered_places (suc p)) = later p (omega arith) in
    ⊎_elim
    (λ (e : o ≡ p). subst (λ m. plain_number (ordered_places m) < plain_number (ordered_places (suc p))) (sym e) then)
    (λ (l : o < p). let first : plain_number (ordered_places o) < plain_number (ordered_places p) = choices_in_order o p l (omega arith) in joined first then)
    (eq-or-lt_of_le (omega arith))
  where
    joined : {x y z : ℕ} → x < y → y < z → x < z
    joined h k = omega arith

-- ---- by the cells that take part

abbrev ranked : Bool → Bool → LinkPlaces → LinkPlaces
ranked true true s = s
ranked true false s = link_places_at s.a s.v s.b
ranked false true s = link_places_at s.b s.v s.a
ranked false false s = link_places_at s.v s.a s.b

placed_ranked : (b c : Bool) (s : LinkPlaces) → assigned_places b c (ranked b c s) ≡ s
placed_ranked true true s = refl
placed_ranked true false s = refl
placed_ranked false true s = refl
placed_ranked false false s = refl

number_placed : (b c : Bool) (s : LinkPlaces) → number_by b c (assigned_places b c s) ≡ plain_number s
number_placed true true s = refl
number_placed true false s = refl
number_placed false true s = refl
number_placed false false s = refl

fits_ranked : (b c : Bool) (s : LinkPlaces) → FitsLinkPlaces s 3 → FitsLinkPlaces (ranked b c s) 3
fits_ranked true true s h = h
fits_ranked true false s h = record { a_within = h.a_within; b_within = h.v_within; v_within = h.b_within; a_v = h.a_b; b_v = λ e. h.b_v (sym e); a_b = h.a_v }
fits_ranked false true s h = record { a_within = h.b_within; b_within = h.v_within; v_within = h.a_within; a_v = λ e. h.a_b (sym e); b_v = λ e. h.a_v (sym e); a_b = h.b_v }
fits_ranked false false s h = record { a_within = h.v_within; b_within = h.a_within; v_within = h.b_within; a_v = λ e. h.b_v (sym e); b_v = h.a_b; a_b = λ e. h.a_v (sym e) }

pub fits_placed : (b c : Bool) (s : LinkPlaces) → FitsLinkPlaces s 3 → FitsLinkPlaces (assigned_places b c s) 3
fits_placed true true s h = h
fits_placed true false s h = record { a_within = h.a_within; b_within = h.v_within; v_within = h.b_within; a_v = h.a_b; b_v = λ e. h.b_v (sym e); a_b = h.a_v }
fits_placed false true s h = record { a_within = h.v_within; b_within = h.a_within; v_within = h.b_within; a_v = λ e. h.b_v (sym e); b_v = h.a_b; a_b = λ e. h.a_v (sym e) }
fits_placed false false s h = record { a_within = h.b_within; b_within = h.v_within; v_within = h.a_within; a_v = λ e. h.a_b (sym e); b_v = λ e. h.a_v (sym e); a_b = h.b_v }

-- each places of a link among three cells are one of the six
pub record IsOrder (link : Link) (at : LinkPlaces) : Type 0 where
  pub order : ℕ
  pub within : order < 6
  pub is : at ≡ link_places_in link order

pub order_is : (link : Link) (s : LinkPlaces) → FitsLinkPlaces s 3 → IsOrder link s
order_is link s fits =
    let b = has_aggressor link.first in
    let c = has_other link in
    let r : LinkPlaces = ranked b c s in
    let chosen = order_of r.a r.b r.v (fits_ranked b c s fits) in
    record { order = chosen.order; within = chosen.within; is = sym (placed_ranked b c s) ∙ ap (assigned_places b c) chosen.is }

-- later places have a greater number
pub in_order : (link : Link) (o p : ℕ) → o < p → p < 6 → spots_number link (link_places_in link o) < spots_number link (link_places_in link p)
in_order link o p h k =
    let b = has_aggressor link.first in
    let c = has_other link in
    subst (λ (n : ℕ). n < number_by b c (assigned_places b c (ordered_places p))) (sym (number_placed b c (ordered_places o)))
    (subst (λ (n : ℕ). plain_number (ordered_places o) < n) (sym (number_placed b c (ordered_places p))) (choices_in_order o p h k))

-- ---- numbers tell places and contents apart

digits_one : (x y z p q r : ℕ) → y < 3 → z < 3 → q < 3 → r < 3 → 9 * x + 3 * y + z ≡ 9 * p + 3 * q + r → (x ≡ p) × (y ≡ q) × (z ≡ r)
digits_one x y z p q r hy hz hq hr h = (omega arith, omega arith, omega arith)

same_spots : (b c : Bool) (s t : LinkPlaces) → FitsLinkPlaces s 3 → FitsLinkPlaces t 3 → number_by b c s ≡ number_by b c t → s ≡ t
same_spots true true s t f g h =
    let all = digits_one s.a s.b s.v t.a t.b t.v f.b_within f.v_within g.b_within g.v_within h in
    λ i. link_places_at (all.0 i) (all.1 i) (all.2 i)
same_spots true false s t f g h =
    let all = digits_one s.a s.v s.b t.a t.v t.b f.v_within f.b_within g.v_within g.b_within h in
    λ i. link_places_at (all.0 i) (all.2 i) (all.1 i)
same_spots false true s t f g h =
    let all = digits_one s.b s.v s.a t.b t.v t.a f.v_within f.a_within g.v_within g.a_within h in
    λ i. link_places_at (all.2 i) (all.0 i) (all.1 i)
same_spots false false s t f g h =
    let all = digits_one s.v s.a s.b t.v t.a t.b f.a_within f.b_within g.a_within g.b_within h in
    λ i. link_places_at (all.1 i) (all.2 i) (all.0 i)

parts_of_eight : (m n x y : ℕ) → x < 8 → y < 8 → 8 * m + x ≡ 8 * n + y → (m ≡ n) × (x ≡ y)
parts_of_eight m n x y h k e = (omega arith, omega arith)

-- two escapes of one link with one number are one array
pub same_array : (e f : LinkEscape) → e.link ≡ f.link → FitsLinkPlaces e.spots 3 → FitsLinkPlaces f.spots 3 → array_number e ≡ array_number f
    → (e.spots ≡ f.spots) × (e.content ≡ f.content)
same_array e f links s t h =
    let there : spots_number e.link f.spots ≡ spots_number f.link f.spots = ap (λ l. spots_number l f.spots) links in
    let parts = parts_of_eight (spots_number e.link e.spots) (spots_number f.link f.spots) (three_number e.content) (three_number f.content)
    (number_below e.content) (number_below f.content) h in
    (same_spots (has_aggressor e.link.first) (has_other e.link) e.spots f.spots s t (parts.0 ∙ sym there), same_number e.content f.content parts.1)
