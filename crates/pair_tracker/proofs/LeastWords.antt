-- The word of the first directions that lead to an end that is wanted is the least that does, and it is found element by element.
use Rattle.std.proofs.Common.{◌≡◌, ◌≤◌, ◌<◌, ◌+◌, ◌-◌, ℕ, suc, Bool, true, false, cond, ◌&&◌, Option, Some, None, List, [], ◌∷◌, length, take, drop, refl, ap, sym, subst, ◌∙◌, arith}
use Rattle.std.specs.Option.{option_and_then}
use Rattle.std.proofs.lemmas.List.{length-take-le, length-drop, drop_more}
use Rattle.march_core.specs.March.{MarchElement, pause, element_at, order_of}
use Rattle.march_core.specs.Visits.{Direction, allows, is_direction}
use Rattle.array_sim.proofs.Runs.{element_at-get}
use Rattle.pair_tracker.specs.Legs.{elements_between, directions_between}
use Rattle.pair_tracker.specs.Few.{Machine, Order, element_run, few_run, end_of}
use Rattle.pair_tracker.specs.Survivors.{IsLeastOf}
use Rattle.pair_tracker.specs.Tracking.{LeadsTo}
use Rattle.pair_tracker.specs.Ways.{can_reach, ways_to, led_by, ways_word}
use Rattle.pair_tracker.specs.DeadEnds.{AreFrom}
use Rattle.pair_tracker.specs.Reached.{word_to, IsWithin}
use Rattle.pair_tracker.proofs.Reaching.{Ends, ways_lead, ways_least}
use Rattle.pair_tracker.proofs.Wording.{IsWordOf, is_word, word_again, words_ordered, fits_length}

-- directions that an order leaves open, and the rest behind them
pub open_and_then : {S : Type 0} (rest : Bool) (f g : S → Option S) (open_here : Bool) (o : Option S) → ((r : S) → f r ≡ cond rest (g r) None)
    → option_and_then f (cond open_here o None) ≡ cond (open_here && rest) (option_and_then g o) None
open_and_then rest f g false o h = refl
open_and_then true f g true None h = refl
open_and_then false f g true None h = refl
open_and_then rest f g true (Some r) h = h r

pub holds_if : {S : Type 0} (b : Bool) (r : Option S) (z : S) → cond b r None ≡ Some z → (b ≡ true) × (r ≡ Some z)
holds_if true r z e = (refl, e)
holds_if false r z e = cc

-- the run in directions that the orders leave open
pub fitting_is : {Q I : Type 0} (m : Machine Q I) (order : Order I) (es : List MarchElement) (q : Q) (ds : List Direction)
    → led_by (end_of m order) es q ds ≡ cond (is_direction es ds) (few_run m order q es ds) None
fitting_is m order [] q [] = refl
fitting_is m order [] q (d ∷ ds) = refl
fitting_is m order (x ∷ es) q [] = refl
fitting_is m order (x ∷ es) q (d ∷ ds) =
    open_and_then (is_direction es ds) (λ r. led_by (end_of m order) es r ds) (λ r. few_run m order r es ds) (allows (order_of x) d) (element_run m order q x d)
    (λ r. fitting_is m order es r ds)

pub length-between : (march : List MarchElement) (i j : ℕ) → i ≤ j → j ≤ length march → length (elements_between march i j) ≡ j - i
length-between march i j ij within = length-take-le (j - i) (drop i march) (omega (arith, length-drop i march))

-- a word that leads there is one of directions that do
leads_ends : {Q I : Type 0} (wanted : Q → Bool) (m : Machine Q I) (order : Order I) (march : List MarchElement) (i j : ℕ) (start : Q) (word : ℕ)
    → LeadsTo wanted m order march i j start word
    → Ends wanted (led_by (end_of m order) (elements_between march i j) start (directions_between word i j))
leads_ends wanted m order march i j start word leads = (
  leads.end,
  fitting_is m order (elements_between march i j) start (directions_between word i j)
      ∙ ap (λ b. cond b (few_run m order start (elements_between march i j) (directions_between word i j)) None) leads.leads.allowed ∙ leads.leads.ends,
  leads.is_wanted,
)

pub least_words : {Q I : Type 0} (wanted : Q → Bool) (m : Machine Q I) (order : Order I) (march : List MarchElement) (i j : ℕ) (start : Q)
    → i ≤ j → j ≤ length march → length march ≤ 64 → IsLeastOf (LeadsTo wanted m order march i j start) (word_to wanted m order march i j start)
least_words wanted m order march i j start ij within most = go (can_reach wanted (end_of m order) es start) refl
  where
    es : List MarchElement
    es = elements_between march i j

    ways : List Direction
    ways = ways_to wanted (end_of m order) es start

    count : length es ≡ j - i
    count = length-between march i j ij within

    go : (b : Bool) → can_reach wanted (end_of m order) es start ≡ b → IsLeastOf (LeadsTo wanted m order march i j start) (cond b (Some (ways_word i ways)) None)
    go false e = λ word leads. let t = ways_least wanted (end_of m order) es start (directions_between word i j) (leads_ends wanted m order march i j start word leads) in
        absurd (let f : false ≡ true = sym e ∙ t.0 in cc)
    go true e =
        let led = ways_lead wanted (end_of m order) es start e in
        let t = holds_if (is_direction es ways) (few_run m order start es ways) led.0 (sym (fitting_is m order es start ways) ∙ led.1) in
        let size : length ways ≡ j - i = fits_length es ways t.0 ∙ count in
        let w : IsWordOf ways i j (ways_word i ways) = is_word ways i j (omega arith) (omega arith) in (
          record {
            end = led.0;
            is_wanted = led.2;
            leads = record {
              span = w.span;
              allowed = ap (is_direction es) w.stands ∙ t.0;
              ends = ap (few_run m order start es) w.stands ∙ t.1;
            };
          },
          λ word leads.
              let u = ways_least wanted (end_of m order) es start (directions_between word i j) (leads_ends wanted m order march i j start word leads) in
              let other : length (directions_between word i j) ≡ j - i = fits_length es (directions_between word i j) leads.leads.allowed ∙ count in
              subst (λ k. ways_word i ways ≤ k) (sym (word_again (j - i) i j word (omega arith) (omega arith) leads.leads.span))
              (words_ordered ways (directions_between word i j) i j (omega arith) (omega arith) (omega arith) u.1),
        )

-- the least of two collections of numbers that are the same
pub least_same : (P Q : ℕ → Type 0) → ((w : ℕ) → P w → Q w) → ((w : ℕ) → Q w → P w) → (o : Option ℕ) → IsLeastOf P o → IsLeastOf Q o
least_same P Q f g None none = λ w q. none w (g w q)
least_same P Q f g (Some u) (is, least) = (f u is, λ w q. least w (g w q))

-- one element and the rest
first_between : (march : List MarchElement) (i j : ℕ) → i < j → j ≤ length march → elements_between march i j ≡ element_at march i ∷ elements_between march (i + 1) j
first_between march i j h within =
    let more : j - i ≡ suc (j - (i + 1)) = omega arith in
    ap (λ n. take n (drop i march)) more ∙ ap (take (suc (j - (i + 1)))) (drop_more march i pause (omega arith))
    ∙ ap (λ e. e ∷ elements_between march (i + 1) j) (sym (element_at-get march i pause (omega arith)))

pub are_between : (march : List MarchElement) (j : ℕ) → IsWithin march j → AreFrom j (λ i. elements_between march i j)
are_between march j is = record {
  few = omega (arith, is.within, is.is_march.elements_within);
  first = λ i h. (element_at march i, first_between march i j h is.within);
  none = let zero : j - j ≡ 0 = omega arith in ap (λ n. take n (drop j march)) zero;
}

pub between_is : (march : List MarchElement) (j : ℕ) → IsWithin march j → (i : ℕ) (e : MarchElement) → i < j
    → elements_between march i j ≡ e ∷ elements_between march (i + 1) j → element_at march i ≡ e
between_is march j is i e h from =
    let heads : element_at march i ∷ elements_between march (i + 1) j ≡ e ∷ elements_between march (i + 1) j = sym (first_between march i j h is.within) ∙ from in
    cc
