-- The first directions that lead from a state to a wanted end: at each element upward, unless no way on from there does.
use Rattle.std.proofs.Common.{◌≡◌, Bool, true, false, cond, ◌||◌, Option, Some, None, List, [], ◌∷◌, refl, ap, sym, subst, ◌∙◌}
use Rattle.std.specs.Option.{option_and_then}
use Rattle.march_core.specs.Visits.{Direction, Upward, Downward}
use Rattle.pair_tracker.specs.Ways.{Leading, holds_at, ways_at, can_reach, ways_to, led_by, IsNotAfter}

module _ {S : Type 0} where
  abbrev pub onward : (S → List Direction → Option S) → Option S → Option S → List Direction → Option S
  onward h up down [] = None
  onward h up down (Upward ∷ ds) = option_and_then (λ r. h r ds) up
  onward h up down (Downward ∷ ds) = option_and_then (λ r. h r ds) down

  abbrev pub pick : (S → Bool) → (S → List Direction) → Option S → Option S → List Direction
  pick f g up down = cond (holds_at f up) (Upward ∷ ways_at g up) (Downward ∷ ways_at g down)

-- an end that is wanted
abbrev pub Ends : {S : Type 0} → (S → Bool) → Option S → Type 0
Ends {S} wanted o = (z : S) × (o ≡ Some z) × (wanted z ≡ true)

-- what is picked leads on
picked : {S : Type 0} (wanted f : S → Bool) (g : S → List Direction) (h : S → List Direction → Option S)
    → ((r : S) → f r ≡ true → Ends wanted (h r (g r)))
    → (up down : Option S) → (holds_at f up || holds_at f down) ≡ true → Ends wanted (onward h up down (pick f g up down))
picked wanted f g h ih None None e = cc
picked wanted f g h ih None (Some s) e = ih s e
picked {S} wanted f g h ih (Some r) down e = go (f r) refl
  where
    Goal : Bool → Type 0
    Goal b = Ends wanted (onward h (Some r) down (cond b (Upward ∷ g r) (Downward ∷ ways_at g down)))

    other : (w : Option S) → holds_at f w ≡ true → Ends wanted (option_and_then (λ r. h r (ways_at g w)) w)
    other None e = cc
    other (Some s) e = ih s e

    go : (b : Bool) → f r ≡ b → Goal (f r)
    go true t = subst Goal (sym t) (ih r t)
    go false t = subst Goal (sym t) (other down (ap (λ b. b || holds_at f down) (sym t) ∙ e))

-- no way that leads on is before it
not_before : {S : Type 0} (wanted f : S → Bool) (g : S → List Direction) (h : S → List Direction → Option S)
    → ((r : S) (ds : List Direction) → Ends wanted (h r ds) → (f r ≡ true) × IsNotAfter (g r) ds)
    → (up down : Option S) (ds : List Direction) → Ends wanted (onward h up down ds)
    → ((holds_at f up || holds_at f down) ≡ true) × IsNotAfter (pick f g up down) ds
not_before wanted f g h ih up down [] e = let none = e.1 in cc
not_before wanted f g h ih None down (Upward ∷ ds) e = let none = e.1 in cc
not_before wanted f g h ih (Some r) down (Upward ∷ ds) e =
    let t = ih r ds e in
    subst (λ b. ((b || holds_at f down) ≡ true) × IsNotAfter (cond b (Upward ∷ g r) (Downward ∷ ways_at g down)) (Upward ∷ ds)) (sym t.0) (refl, t.1)
not_before wanted f g h ih up None (Downward ∷ ds) e = let none = e.1 in cc
not_before wanted f g h ih up (Some s) (Downward ∷ ds) e =
    let t = ih s ds e in
    elim (holds_at f up) as (λ b. ((b || f s) ≡ true) × IsNotAfter (cond b (Upward ∷ ways_at g up) (Downward ∷ g s)) (Downward ∷ ds))
    [ true ↦ (refl, tt) | false ↦ (t.0, t.1) ]

led_onward : {S E : Type 0} (lead : Leading S E) (e : E) (es : List E) (q : S) (ds : List Direction)
    → led_by lead (e ∷ es) q ds ≡ onward (λ r ds. led_by lead es r ds) (lead e q Upward) (lead e q Downward) ds
led_onward lead e es q [] = refl
led_onward lead e es q (Upward ∷ ds) = refl
led_onward lead e es q (Downward ∷ ds) = refl

pub ways_lead : {S E : Type 0} (wanted : S → Bool) (lead : Leading S E) (es : List E) (q : S) → can_reach wanted lead es q ≡ true
    → Ends wanted (led_by lead es q (ways_to wanted lead es q))
ways_lead wanted lead [] q e = (q, refl, e)
ways_lead wanted lead (x ∷ es) q e =
    subst (Ends wanted) (sym (led_onward lead x es q (ways_to wanted lead (x ∷ es) q)))
    (picked wanted (λ r. can_reach wanted lead es r) (λ r. ways_to wanted lead es r) (λ r ds. led_by lead es r ds) (λ r t. ways_lead wanted lead es r t)
    (lead x q Upward) (lead x q Downward) e)

pub ways_least : {S E : Type 0} (wanted : S → Bool) (lead : Leading S E) (es : List E) (q : S) (ds : List Direction) → Ends wanted (led_by lead es q ds)
    → (can_reach wanted lead es q ≡ true) × IsNotAfter (ways_to wanted lead es q) ds
ways_least wanted lead [] q [] e = let same : q ≡ e.0 = let some = e.1 in cc in (ap wanted same ∙ e.2, tt)
ways_least wanted lead [] q (d ∷ ds) e = let none = e.1 in cc
ways_least wanted lead (x ∷ es) q ds e =
    not_before wanted (λ r. can_reach wanted lead es r) (λ r. ways_to wanted lead es r) (λ r ds. led_by lead es r ds) (λ r ds t. ways_least wanted lead es r ds t)
    (lead x q Upward) (lead x q Downward) ds (subst (Ends wanted) (led_onward lead x es q ds) e)
