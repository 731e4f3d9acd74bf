-- All places of two linked primitives are those of some three cells.
use Rattle.std.proofs.Common.{◌≡◌, ◌≢◌, ◌<◌, ◌≤◌, ◌↔◌, ℕ, Bool, true, false, cond, eqb, Option, Some, None, refl, ap, sym, subst, ◌∙◌, ⊎_elim, arith}
use Rattle.std.proofs.lemmas.Bool.Decides.{eqb_tells}
use Rattle.fault_core.specs.declared.primitive.Sense.{Sense}
use Rattle.fault_core.specs.declared.cells.Places.{Places}
use Rattle.fault_core.specs.Cells.{FitsAgg}
use Rattle.linked_faults.specs.declared.link.Link.{Link}
use Rattle.linked_faults.specs.Linking.{FitsLinkPlaces, beside, HaveSpots}
use Rattle.linked_faults.specs.inner.Searching.{link_places_at}

-- a third cell
pub record IsThird (n x y z : ℕ) : Type 0 where
  pub within : z < n
  pub not_x : z ≢ x
  pub not_y : z ≢ y

pub third : (n x y : ℕ) → 3 ≤ n → (z : ℕ) × IsThird n x y z
third n x y more =
    ⊎_elim
    (λ (h : (eqb 0 x ≡ true) × (0 ≡ x)). without_zero h.1)
    (λ (h : (eqb 0 x ≡ false) × (0 ≢ x)).
    ⊎_elim
    (λ (g : (eqb 0 y ≡ true) × (0 ≡ y)). without_y g.1)
    (λ (g : (eqb 0 y ≡ false) × (0 ≢ y)). (0, record { within = omega arith; not_x = h.1; not_y = g.1 }))
    (eqb_tells 0 y))
    (eqb_tells 0 x)
  where
    without_zero : 0 ≡ x → (z : ℕ) × IsThird n x y z
    without_zero e =
        ⊎_elim
        (λ (g : (eqb 1 y ≡ true) × (1 ≡ y)). let s : 1 ≡ y = g.1 in (2, record { within = omega arith; not_x = omega arith; not_y = omega arith }))
        (λ (g : (eqb 1 y ≡ false) × (1 ≢ y)). (1, record { within = omega arith; not_x = omega arith; not_y = g.1 }))
        (eqb_tells 1 y)

    without_y : 0 ≡ y → (z : ℕ) × IsThird n x y z
    without_y e =
        ⊎_elim
        (λ (g : (eqb 1 x ≡ true) × (1 ≡ x)). let s : 1 ≡ x = g.1 in (2, record { within = omega arith; not_x = omega arith; not_y = omega arith }))
        (λ (g : (eqb 1 x ≡ false) × (1 ≢ x)). (1, record { within = omega arith; not_x = g.1; not_y = omega arith }))
        (eqb_tells 1 x)

-- three cells for these places
record AreCells (shared : Bool) (f g : Option Sense) (p q : Option ℕ) (v n : ℕ) : Type 0 where
  a : ℕ
  b : ℕ
  fits : FitsLinkPlaces (link_places_at a b v) n
  first : beside f a ≡ p
  second : beside g (cond shared a b) ≡ q

fitting : (n a b v : ℕ) → a < n → b < n → v < n → a ≢ v → b ≢ v → a ≢ b → FitsLinkPlaces (link_places_at a b v) n
fitting n a b v h i j k l m = record { a_within = h; b_within = i; v_within = j; a_v = k; b_v = l; a_b = m }

with_a : (shared : Bool) (f g : Option Sense) (p q : Option ℕ) (v n a : ℕ) → 3 ≤ n → v < n → a < n → a ≢ v → beside f a ≡ p → ((b : ℕ) → beside g (cond shared a b) ≡ q)
    → AreCells shared f g p q v n
with_a shared f g p q v n a more hv ha ne first second =
    let b = third n v a more in
    record { a = a; b = b.0; fits = fitting n a b.0 v ha b.1.within hv ne b.1.not_x (λ h. b.1.not_y (sym h)); first = first; second = second b.0 }

with_b : (shared : Bool) (f g : Option Sense) (p q : Option ℕ) (v n b : ℕ) → 3 ≤ n → v < n → b < n → b ≢ v → ((a : ℕ) → beside f a ≡ p) → ((a : ℕ) → beside g (cond shared a b) ≡ q)
    → AreCells shared f g p q v n
with_b shared f g p q v n b more hv hb ne first second =
    let a = third n v b more in
    record { a = a.0; b = b; fits = fitting n a.0 b v a.1.within hb hv a.1.not_x ne a.1.not_y; first = first a.0; second = second a.0 }

cells_for : (shared : Bool) (f g : Option Sense) (p q : Option ℕ) (v n : ℕ) → 3 ≤ n → v < n → FitsAgg f p v n → FitsAgg g q v n
    → ((x y : ℕ) → p ≡ Some x → q ≡ Some y → (x ≡ y) ↔ (shared ≡ true)) → AreCells shared f g p q v n
cells_for shared None None None None v n more hv hf hg same =
    let a = third n v v more in
    with_a shared None None None None v n a.0 more hv a.1.within a.1.not_x refl (λ b. refl)
cells_for shared (Some f) None (Some x) None v n more hv hf hg same = with_a shared (Some f) None (Some x) None v n x more hv hf.0 hf.1 refl (λ b. refl)
cells_for true None (Some g) None (Some y) v n more hv hf hg same = with_a true None (Some g) None (Some y) v n y more hv hg.0 hg.1 refl (λ b. refl)
cells_for false None (Some g) None (Some y) v n more hv hf hg same = with_b false None (Some g) None (Some y) v n y more hv hg.0 hg.1 (λ a. refl) (λ a. refl)
cells_for true (Some f) (Some g) (Some x) (Some y) v n more hv hf hg same =
    let is : x ≡ y = (same x y refl refl).1 refl in
    with_a true (Some f) (Some g) (Some x) (Some y) v n x more hv hf.0 hf.1 refl (λ b. ap Some is)
cells_for false (Some f) (Some g) (Some x) (Some y) v n more hv hf hg same =
    let apart : x ≢ y = λ h. (let clash : false ≡ true = (same x y refl refl).0 h in cc) in
    record { a = x; b = y; fits = fitting n x y v hf.0 hg.0 hv hf.1 hg.1 apart; first = refl; second = refl }
cells_for shared None g (Some x) q v n more hv hf hg same = absurd hf
cells_for shared (Some f) g None q v n more hv hf hg same = absurd hf
cells_for shared f None p (Some y) v n more hv hf hg same = absurd hg
cells_for shared f (Some g) p None v n more hv hf hg same = absurd hg

abbrev places_at : Option ℕ → ℕ → Places
places_at agg vic = record { agg = agg; vic = vic }

pub have_spots : (link : Link) → HaveSpots link
have_spots link n p q more fits =
    let v : ℕ = p.vic in
    let second = subst (λ w. FitsAgg link.second.agg q.agg w n) (sym fits.victim) fits.second_fits.aggressor in
    let cells = cells_for link.is_shared link.first.agg link.second.agg p.agg q.agg v n more fits.first_fits.victim fits.first_fits.aggressor second fits.aggressors in (
      link_places_at cells.a cells.b v,
      record {
        fits = cells.fits;
        first_is = ap (λ agg. places_at agg v) cells.first;
        second_is = ap (λ agg. places_at agg v) cells.second ∙ ap (places_at q.agg) fits.victim;
      },
    )
