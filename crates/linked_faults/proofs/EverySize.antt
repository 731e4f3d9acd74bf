-- What three cells get through, an array of any size does.
use Rattle.std.proofs.Common.{◌≡◌, ◌≢◌, ◌++◌, ◌-◌, ◌≤◌, ◌<◌, ℕ, zero, suc, Bool, false, Some, None, List, length, replicate, length-append, refl, ap, subst, ◌∙◌, ◌⊎◌, inl, inr, ⊎_elim, arith}
use Rattle.std.proofs.lemmas.List.{length-replicate}
use Rattle.std.proofs.lemmas.Bool.{cases_lt}
use Rattle.march_core.specs.March.{MarchElement, IsMarch}
use Rattle.march_core.specs.Visits.{Direction, directions_of}
use Rattle.linked_faults.specs.declared.link.Link.{Link}
use Rattle.linked_faults.specs.declared.link.LinkPlaces.{LinkPlaces}
use Rattle.linked_faults.specs.declared.three.Three.{Three}
use Rattle.linked_faults.specs.Linking.{FitsLinkPlaces}
use Rattle.linked_faults.specs.Detection.{cells_behind, is_wrong_there, IsCaught, DetectsAt}
use Rattle.linked_faults.specs.Escapes.{cells_of}
use Rattle.linked_faults.specs.inner.Threes.{Trio, three_at, machine_of, cells_in}
use Rattle.linked_faults.specs.inner.Searching.{link_places_at, LetsThrough}
use Rattle.linked_faults.proofs.Passing.{three_sees}
use Rattle.linked_faults.proofs.Seats.{seat_at, seats_ordered}
use Rattle.pair_tracker.specs.Few.{few_run}
use Rattle.pair_tracker.proofs.Few.{march_passes, march_caught, march_through}
use Rattle.pair_tracker.proofs.Through.{through_run, through_fits}
use Rattle.linked_faults.proofs.Seen.{IsTrio, FitsThree, place_at, spots_from}

module _ (link : Link) (s : LinkPlaces) (t : Trio) (fits : FitsThree s) (march : List MarchElement) (is_march : IsMarch march) (ds : List Direction) (content : List Bool)
    (is : IsTrio t (length content)) where
  abbrev at : LinkPlaces
  at = spots_from t s

  abbrev n : ℕ
  n = length content

  -- no read differs exactly where the three cells get through
  pub passes_where : (q : Three) → few_run (machine_of link s) cells_in (three_at t content) march ds ≡ Some q → IsCaught march ds link at content → ⊥
  passes_where q e =
      march_passes (cells_behind link at) (is_wrong_there link at) (λ cells. cells) (three_at t) (seat_at t) n (machine_of link s) (λ cells. length cells ≡ n) (Unit {0})
      (three_sees link s t n is fits) cells_in (seats_ordered link s t n is) march is_march ds content refl tt q e

  pub caught_where : few_run (machine_of link s) cells_in (three_at t content) march ds ≡ None → IsCaught march ds link at content
  caught_where e =
      march_caught (cells_behind link at) (is_wrong_there link at) (λ cells. cells) (three_at t) (seat_at t) n (machine_of link s) (λ cells. length cells ≡ n) (Unit {0})
      (three_sees link s t n is fits) cells_in (seats_ordered link s t n is) march is_march ds content refl e

  pub through_unless : (IsCaught march ds link at content → ⊥) → (q : Three) × (few_run (machine_of link s) cells_in (three_at t content) march ds ≡ Some q)
  through_unless passes =
      march_through (cells_behind link at) (is_wrong_there link at) (λ cells. cells) (three_at t) (seat_at t) n (machine_of link s) (λ cells. length cells ≡ n) (Unit {0})
      (three_sees link s t n is fits) cells_in (seats_ordered link s t n is) march is_march ds content refl tt passes

-- the first three cells of an array
abbrev pub firsts : Trio
firsts = record { low = 0; mid = 1; high = 2 }

pub firsts_fit : (n : ℕ) → 3 ≤ n → IsTrio firsts n
firsts_fit n more = record { first = omega arith; second = omega arith; within = omega arith }

place_same : (i : ℕ) → i < 3 → place_at firsts i ≡ i
place_same zero h = refl
place_same (suc zero) h = refl
place_same (suc (suc zero)) h = refl
place_same (suc (suc (suc i))) h = absurd (omega arith)

pub spots_same : (s : LinkPlaces) → FitsThree s → spots_from firsts s ≡ s
spots_same s fits =
    ap (λ x. link_places_at x (place_at firsts s.b) (place_at firsts s.v)) (place_same s.a fits.a_within)
    ∙ ap (λ x. link_places_at s.a x (place_at firsts s.v)) (place_same s.b fits.b_within) ∙ ap (λ x. link_places_at s.a s.b x) (place_same s.v fits.v_within)

pub fits_more : (s : LinkPlaces) (n : ℕ) → 3 ≤ n → FitsThree s → FitsLinkPlaces s n
fits_more s n more fits = record {
  a_within = omega (arith, fits.a_within);
  b_within = omega (arith, fits.b_within);
  v_within = omega (arith, fits.v_within);
  a_v = fits.a_v;
  b_v = fits.b_v;
  a_b = fits.a_b;
}

-- a content of three cells that is let through is let through with more cells behind it
pub passes_with : (march : List MarchElement) (link : Link) (s : LinkPlaces) (content : Three) (rest : List Bool) (word : ℕ) → IsMarch march → FitsThree s
    → LetsThrough march link s content word → IsCaught march (directions_of word (length march)) link s (cells_of content ++ rest) → ⊥
passes_with march link s content rest word is_march fits through =
    let cells : List Bool = cells_of content ++ rest in
    subst (λ (at : LinkPlaces). IsCaught march (directions_of word (length march)) link at cells → ⊥) (spots_same s fits)
    (passes_where link s firsts fits march is_march (directions_of word (length march)) cells (firsts_fit (length cells) (omega arith)) through.end
    (through_run (machine_of link s) cells_in march content word through))

-- so it is detected at no size
pub detected_never : (march : List MarchElement) (link : Link) (s : LinkPlaces) (content : Three) (word : ℕ) → IsMarch march → FitsThree s
    → LetsThrough march link s content word → (size : ℕ) → 3 ≤ size → DetectsAt size march link → ⊥
detected_never march link s content word is_march fits through size more detects =
    let rest : List Bool = replicate (size - 3) false in
    let word_fits = through_fits (machine_of link s) cells_in march content word through in
    passes_with march link s content rest word is_march fits through
    (detects (directions_of word (length march)) s (cells_of content ++ rest) word_fits.allowed (fits_more s size more fits)
    (omega (arith, length-append (cells_of content) rest, length-replicate (size - 3) false, more)))

-- three different cells in the order of their addresses
pub record IsSorted (at : LinkPlaces) (n : ℕ) : Type 0 where
  pub trio : Trio
  pub spots : LinkPlaces
  pub is_trio : IsTrio trio n
  pub fits : FitsThree spots
  pub is : spots_from trio spots ≡ at

sorted_as : (at s : LinkPlaces) (low mid high n : ℕ) → low < mid → mid < high → high < n → FitsThree s → spots_from (record { low = low; mid = mid; high = high }) s ≡ at → IsSorted at n
sorted_as at s low mid high n h k w fits is = record {
  trio = record { low = low; mid = mid; high = high };
  spots = s;
  is_trio = record { first = h; second = k; within = w };
  fits = fits;
  is = is;
}

three_fit : (a b v : ℕ) → a < 3 → b < 3 → v < 3 → a ≢ v → b ≢ v → a ≢ b → FitsThree (link_places_at a b v)
three_fit a b v h i j k l m = record { a_within = h; b_within = i; v_within = j; a_v = k; b_v = l; a_b = m }

less_or : (m n : ℕ) → m ≢ n → (m < n) ⊎ (n < m)
less_or m n ne = ⊎_elim (λ (h : m < n). inl h) (λ (h : n ≤ m). inr (omega arith)) (cases_lt m n)

pub sorted : (at : LinkPlaces) (n : ℕ) → FitsLinkPlaces at n → IsSorted at n
sorted at n fits =
    let a_in : at.a < n = fits.a_within in
    let b_in : at.b < n = fits.b_within in
    let v_in : at.v < n = fits.v_within in
    ⊎_elim
    (λ (ab : at.a < at.b).
    ⊎_elim
    (λ (bv : at.b < at.v). sorted_as at (link_places_at 0 1 2) at.a at.b at.v n ab bv v_in (three_fit 0 1 2 (omega arith) (omega arith) (omega arith) (omega arith) (omega arith) (omega arith)) refl)
    (λ (vb : at.v < at.b).
    ⊎_elim
    (λ (av : at.a < at.v). sorted_as at (link_places_at 0 2 1) at.a at.v at.b n av vb b_in (three_fit 0 2 1 (omega arith) (omega arith) (omega arith) (omega arith) (omega arith) (omega arith)) refl)
    (λ (va : at.v < at.a). sorted_as at (link_places_at 1 2 0) at.v at.a at.b n va ab b_in (three_fit 1 2 0 (omega arith) (omega arith) (omega arith) (omega arith) (omega arith) (omega arith)) refl)
    (less_or at.a at.v fits.a_v))
    (less_or at.b at.v fits.b_v))
    (λ (ba : at.b < at.a).
    ⊎_elim
    (λ (av : at.a < at.v). sorted_as at (link_places_at 1 0 2) at.b at.a at.v n ba av v_in (three_fit 1 0 2 (omega arith) (omega arith) (omega arith) (omega arith) (omega arith) (omega arith)) refl)
    (λ (va : at.v < at.a).
    ⊎_elim
    (λ (bv : at.b < at.v). sorted_as at (link_places_at 2 0 1) at.b at.v at.a n bv va a_in (three_fit 2 0 1 (omega arith) (omega arith) (omega arith) (omega arith) (omega arith) (omega arith)) refl)
    (λ (vb : at.v < at.b). sorted_as at (link_places_at 2 1 0) at.v at.b at.a n vb ba a_in (three_fit 2 1 0 (omega arith) (omega arith) (omega arith) (omega arith) (omega arith) (omega arith)) refl)
    (less_or at.b at.v fits.b_v))
    (less_or at.a at.v fits.a_v))
    (less_or at.a at.b fits.a_b)
