-- Which of the three cells an address is, and in which order an element visits them.
use Rattle.std.proofs.Common.{◌≡◌, ◌≢◌, ◌<◌, ℕ, Bool, true, false, cond, eqb, Option, Some, None, List, [], ◌∷◌, map, refl, ap, subst, ◌∙◌, arith}
use Rattle.std.proofs.lemmas.Bool.{eq-eqb, ne_eqb, eqb-true, eqb-false}
use Rattle.march_core.specs.declared.operation.Op.{Op}
use Rattle.march_core.specs.Visits.{Direction, Upward, Downward, addresses}
use Rattle.pair_tracker.specs.Few.{cells_run}
use Rattle.pair_tracker.proofs.Tags.{kept_does, Own, Stand, addresses_kept, turned}
use Rattle.linked_faults.specs.declared.link.Link.{Link}
use Rattle.linked_faults.specs.declared.link.LinkPlaces.{LinkPlaces}
use Rattle.linked_faults.specs.declared.three.Three.{Three}
use Rattle.linked_faults.specs.declared.three.Seat.{Seat}
use Rattle.linked_faults.specs.declared.three.Seat.TheVariants.{Low, Mid, High}
use Rattle.linked_faults.specs.inner.Threes.{Trio, seat_index, machine_of, cells_in}
use Rattle.linked_faults.proofs.Seen.{IsTrio, IsElsewhere, place_at}

abbrev pub seat_at : Trio → ℕ → Option Seat
seat_at t x = cond (eqb x t.low) (Some Low) (cond (eqb x t.mid) (Some Mid) (cond (eqb x t.high) (Some High) None))

abbrev Says : Trio → ℕ → Option Seat → Type 0
Says t x None = IsElsewhere t x
Says t x (Some i) = x ≡ place_at t (seat_index i)

says : (t : Trio) (x : ℕ) → Says t x (seat_at t x)
says t x = go (eqb x t.low) (eqb x t.mid) (eqb x t.high) refl refl refl
  where
    go : (p q r : Bool) → eqb x t.low ≡ p → eqb x t.mid ≡ q → eqb x t.high ≡ r → Says t x (cond p (Some Low) (cond q (Some Mid) (cond r (Some High) None)))
    go true q r e f g = eqb-true x t.low e
    go false true r e f g = eqb-true x t.mid f
    go false false true e f g = eqb-true x t.high g
    go false false false e f g = record { not_low = eqb-false x t.low e; not_mid = eqb-false x t.mid f; not_high = eqb-false x t.high g }

pub is_seat : (t : Trio) (x : ℕ) (i : Seat) → seat_at t x ≡ Some i → x ≡ place_at t (seat_index i)
is_seat t x i e = subst (Says t x) e (says t x)

pub no_seat : (t : Trio) (x : ℕ) → seat_at t x ≡ None → IsElsewhere t x
no_seat t x e = subst (Says t x) e (says t x)

pub seat_within : (i : Seat) → seat_index i < 3
seat_within Low = omega arith
seat_within Mid = omega arith
seat_within High = omega arith

not_seat : (t : Trio) (x : ℕ) → x ≢ t.low → x ≢ t.mid → x ≢ t.high → seat_at t x ≡ None
not_seat t x a b c = rw (ne_eqb x t.low a, ne_eqb x t.mid b, ne_eqb x t.high c) refl

abbrev owns : Trio → List (Own Seat)
owns t = (record { place = t.low; name = Low }) ∷ (record { place = t.mid; name = Mid }) ∷ (record { place = t.high; name = High }) ∷ []

pub seats_ordered : (link : Link) (s : LinkPlaces) (t : Trio) (n : ℕ) → IsTrio t n → (d : Direction) (q : Three) (ops : List Op)
    → cells_run (machine_of link s) q (map (seat_at t) (addresses d n)) ops ≡ cells_run (machine_of link s) q (cells_in d) ops
seats_ordered link s t n is d q ops =
    kept_does (machine_of link s) (λ q. refl) q (map (seat_at t) (addresses d n)) ops
    ∙ ap (λ ts. cells_run (machine_of link s) q ts ops) (addresses_kept (seat_at t) (owns t) n stand d ∙ either d)
  where
    f : t.low < t.mid
    f = is.first

    g : t.mid < t.high
    g = is.second

    w : t.high < n
    w = is.within

    stand : Stand (seat_at t) 0 n (owns t)
    stand = (
      omega (arith, f, g, w),
      omega (arith, f, g, w),
      λ x low high. not_seat t x (omega (arith, f, g, low, high)) (omega (arith, f, g, low, high)) (omega (arith, f, g, low, high)),
      ap (λ b. cond b (Some Low) (cond (eqb t.low t.mid) (Some Mid) (cond (eqb t.low t.high) (Some High) None))) (eq-eqb t.low t.low refl),
      (
        omega (arith, f, g, w),
        omega (arith, f, g, w),
        λ x low high. not_seat t x (omega (arith, f, g, low, high)) (omega (arith, f, g, low, high)) (omega (arith, f, g, low, high)),
        rw (ne_eqb t.mid t.low (omega (arith, f)), eq-eqb t.mid t.mid refl) refl,
        (
          omega (arith, f, g, w),
          omega (arith, f, g, w),
          λ x low high. not_seat t x (omega (arith, f, g, low, high)) (omega (arith, f, g, low, high)) (omega (arith, f, g, low, high)),
          rw (ne_eqb t.high t.low (omega (arith, f, g)), ne_eqb t.high t.mid (omega (arith, g)), eq-eqb t.high t.high refl) refl,
          λ x low high. not_seat t x (omega (arith, f, g, low, high)) (omega (arith, f, g, low, high)) (omega (arith, f, g, low, high)),
        ),
      ),
    )

    either : (d : Direction) → turned d (Some Low ∷ Some Mid ∷ Some High ∷ []) ≡ cells_in d
    either Upward = refl
    either Downward = refl
