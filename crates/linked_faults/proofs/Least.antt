-- The search in the order of the places and of the contents finds the least escape, and none exactly where every size is detected.
use Rattle.std.proofs.Common.{◌≡◌, ◌+◌, ◌*◌, ◌<◌, ◌≤◌, ℕ, zero, suc, Option, Some, None, List, [], length, refl, ap, sym, subst, ◌∙◌, ◌⊎◌, inl, inr, ⊎_elim, arith}
use Rattle.std.specs.Bool.{IsTrue}
use Rattle.std.specs.Prelude.{MatchOption}
use Rattle.std.proofs.Math.Nat.{eq-or-lt_of_le}
use Rattle.std.proofs.lemmas.Bool.{cases_lt}
use Rattle.fault_core.specs.Primitive.{has_aggressor}
use Rattle.march_core.specs.March.{MarchElement, IsMarch}
use Rattle.march_core.specs.Visits.{Direction, is_direction, directions_of}
use Rattle.pair_tracker.specs.Survivors.{IsLeastOf}
use Rattle.linked_faults.specs.declared.link.Link.{Link}
use Rattle.linked_faults.specs.declared.link.LinkPlaces.{LinkPlaces}
use Rattle.linked_faults.specs.declared.three.Three.{Three}
use Rattle.linked_faults.specs.declared.escape.LinkEscape.{LinkEscape}
use Rattle.linked_faults.specs.Linking.{FitsLinkPlaces}
use Rattle.linked_faults.specs.Detection.{IsCaught, Detects}
use Rattle.linked_faults.specs.Escapes.{cells_of, has_other, spots_number, three_number, IsEscape, IsNoGreater, IsVerdict, IsVerdictAt}
use Rattle.linked_faults.specs.inner.Threes.{three_at, machine_of, cells_in}
use Rattle.pair_tracker.specs.Few.{few_run}
use Rattle.pair_tracker.specs.Reached.{word_to}
use Rattle.pair_tracker.specs.Tracking.{any_end}
use Rattle.pair_tracker.proofs.Through.{least_whole, some_word, through_fits, through_within, run_through}
use Rattle.linked_faults.specs.inner.Searching.{LetsThrough, ordered_places, link_places_in, NoneBefore, NoneIn, IsLeastIn, IsFirstFound}
use Rattle.linked_faults.proofs.EverySize.{firsts, firsts_fit, spots_same, caught_where, through_unless, passes_with, detected_never, IsSorted, sorted}
use Rattle.linked_faults.specs.inner.Numbers.{number_below, same_number}
use Rattle.linked_faults.proofs.Numbers.{IsOrder, order_is, fits_placed, in_order}
use Rattle.linked_faults.proofs.Seen.{FitsThree, IsTrio, spots_from}

-- the places in their orders are three different cells
fits_choice : (o : ℕ) → o < 6 → FitsThree (ordered_places o)
fits_choice zero h = record { a_within = omega arith; b_within = omega arith; v_within = omega arith; a_v = omega arith; b_v = omega arith; a_b = omega arith }
fits_choice (suc zero) h = record { a_within = omega arith; b_within = omega arith; v_within = omega arith; a_v = omega arith; b_v = omega arith; a_b = omega arith }
fits_choice (suc (suc zero)) h = record { a_within = omega arith; b_within = omega arith; v_within = omega arith; a_v = omega arith; b_v = omega arith; a_b = omega arith }
fits_choice (suc (suc (suc zero))) h = record { a_within = omega arith; b_within = omega arith; v_within = omega arith; a_v = omega arith; b_v = omega arith; a_b = omega arith }
fits_choice (suc (suc (suc (suc zero)))) h = record { a_within = omega arith; b_within = omega arith; v_within = omega arith; a_v = omega arith; b_v = omega arith; a_b = omega arith }
fits_choice (suc (suc (suc (suc (suc zero))))) h = record { a_within = omega arith; b_within = omega arith; v_within = omega arith; a_v = omega arith; b_v = omega arith; a_b = omega arith }
fits_choice (suc (suc (suc (suc (suc (suc o)))))) h = absurd (omega arith)

pub fits_order : (link : Link) (o : ℕ) → o < 6 → FitsThree (link_places_in link o)
fits_order link o h = fits_placed (has_aggressor link.first) (has_other link) (ordered_places o) (fits_choice o h)

-- where no array of three cells is let through, no three cells get through
none_through : (march : List MarchElement) (link : Link) → IsMarch march → NoneIn march link 6
    → (s : LinkPlaces) → FitsThree s → (q : Three) (ds : List Direction) → IsTrue (is_direction march ds) → few_run (machine_of link s) cells_in q march ds ≡ None
none_through march link is none s fits q ds allowed = go (few_run (machine_of link s) cells_in q march ds) refl
  where
    order : IsOrder link s
    order = order_is link s fits

    go : (r : Option Three) → few_run (machine_of link s) cells_in q march ds ≡ r → few_run (machine_of link s) cells_in q march ds ≡ None
    go None e = e
    go (Some z) e =
        let through = some_word (machine_of link s) cells_in march q z ds is allowed e in
        absurd (none order.order order.within q (number_below q) through.0 (subst (λ (at : LinkPlaces). LetsThrough march link at q through.0) order.is through.1))

-- so every size is detected
pub none_detects : (march : List MarchElement) (link : Link) → IsMarch march → NoneIn march link 6 → Detects march link
none_detects march link is none n more ds at content allowed fits size =
    let order : IsSorted at n = sorted at n fits in
    subst (λ (s : LinkPlaces). IsCaught march ds link s content) order.is
    (caught_where link order.spots order.trio order.fits march is ds content (subst (IsTrio order.trio) (sym size) order.is_trio)
    (none_through march link is none order.spots order.fits (three_at order.trio content) ds allowed))

-- what is found is an escape
found_escape : (march : List MarchElement) (link : Link) (o : ℕ) (e : LinkEscape) → IsMarch march → o < 6 → IsLeastIn march link o e → IsEscape march e
found_escape march link o e is within least =
    let through : LetsThrough march link (link_places_in link o) e.content e.directions = least.word.0 in
    let ds : List Direction = directions_of e.directions (length march) in
    record {
      array = record {
        spots = subst (λ (at : LinkPlaces). FitsLinkPlaces at 3) (sym least.spots) (fits_order link o within);
        is_word = through_within (machine_of link (link_places_in link o)) cells_in march e.content e.directions is through;
        directions = through_fits (machine_of link (link_places_in link o)) cells_in march e.content e.directions through;
      };
      passes =
          subst (λ (at : LinkPlaces). IsCaught march ds e.link at (cells_of e.content) → ⊥) (sym least.spots)
          (subst (λ (l : Link). IsCaught march ds l (link_places_in link o) (cells_of e.content) → ⊥) (sym least.link_is)
          (passes_with march link (link_places_in link o) e.content [] e.directions is (fits_order link o within) through));
    }

-- an escape is let through
escape_through : (march : List MarchElement) (link : Link) (f : LinkEscape) → IsMarch march → IsEscape march f → f.link ≡ link
    → LetsThrough march link f.spots f.content f.directions
escape_through march link f is escape same =
    let ds : List Direction = directions_of f.directions (length march) in
    let passes : IsCaught march ds f.link (spots_from firsts f.spots) (cells_of f.content) → ⊥ =
    subst (λ (at : LinkPlaces). IsCaught march ds f.link at (cells_of f.content) → ⊥) (sym (spots_same f.spots escape.array.spots)) escape.passes in
    let through = through_unless f.link f.spots firsts escape.array.spots march is ds (cells_of f.content) (firsts_fit 3 (omega arith)) passes in
    subst (λ (l : Link). LetsThrough march l f.spots f.content f.directions) same
    (run_through (machine_of f.link f.spots) cells_in march f.content through.0 f.directions is escape.array.is_word escape.array.directions through.1)

-- no escape in the same places is less
no_greater : (march : List MarchElement) (link : Link) (o : ℕ) (e f : LinkEscape) → IsLeastIn march link o e → f.link ≡ e.link
    → f.spots ≡ link_places_in link o → LetsThrough march link (link_places_in link o) f.content f.directions → IsNoGreater e f
no_greater march link o e f least links places through =
    let spots = least.spots ∙ sym places in
    let here : ℕ = spots_number e.link e.spots in
    let there : ℕ = spots_number f.link f.spots in
    let same : here ≡ there = (λ i. spots_number (sym links i) (spots i)) in
    ⊎_elim
    (λ (h : three_number e.content < three_number f.content). inl (less here there (three_number e.content) (three_number f.content) same h))
    (λ (h : three_number f.content ≤ three_number e.content).
    ⊎_elim
    (λ (k : three_number f.content ≡ three_number e.content).
    let content : f.content ≡ e.content = same_number f.content e.content k in
    inr (ap (λ m. 8 * m + three_number e.content) same ∙ ap (λ m. 8 * there + m) (sym k), least.word.1 f.directions (subst (λ (c : Three). LetsThrough march link (link_places_in link o) c f.directions) content through)))
    (λ (k : three_number f.content < three_number e.content). absurd (least.before f.content k f.directions through))
    (eq-or-lt_of_le h))
    (cases_lt (three_number e.content) (three_number f.content))
  where
    less : (m n x y : ℕ) → m ≡ n → x < y → 8 * m + x < 8 * n + y
    less m n x y same h = omega arith

far : (m n x y : ℕ) → m < n → x < 8 → 8 * m + x < 8 * n + y
far m n x y h k = omega arith

least_of_first : (march : List MarchElement) (link : Link) (e : LinkEscape) → IsMarch march → (found : IsFirstFound march link e) → (f : LinkEscape) → f.link ≡ e.link
    → IsEscape march f → IsNoGreater e f
least_of_first march link e is found f same escape =
    let o : ℕ = found.order in
    let order : IsOrder link f.spots = order_is link f.spots escape.array.spots in
    let p : ℕ = order.order in
    let through : LetsThrough march link (link_places_in link p) f.content f.directions =
    subst (λ (at : LinkPlaces). LetsThrough march link at f.content f.directions) order.is (escape_through march link f is escape (same ∙ found.least.link_is)) in
    ⊎_elim
    (λ (h : p < o). absurd (found.none p h f.content (number_below f.content) f.directions through))
    (λ (h : o ≤ p).
    ⊎_elim
    (λ (k : o ≡ p).
    no_greater march link o e f found.least same (order.is ∙ ap (link_places_in link) (sym k)) (subst (λ m. LetsThrough march link (link_places_in link m) f.content f.directions) (sym k) through))
    (λ (k : o < p).
    let here : spots_number e.link e.spots ≡ spots_number link (link_places_in link o) = (λ i. spots_number (found.least.link_is i) (found.least.spots i)) in
    let links : f.link ≡ link = same ∙ found.least.link_is in
    let there : spots_number f.link f.spots ≡ spots_number link (link_places_in link p) = (λ i. spots_number (links i) (order.is i)) in
    let further : spots_number e.link e.spots < spots_number f.link f.spots =
    subst (λ (n : ℕ). n < spots_number f.link f.spots) (sym here) (subst (λ (n : ℕ). spots_number link (link_places_in link o) < n) (sym there) (in_order link o p k order.within)) in
    inl (far (spots_number e.link e.spots) (spots_number f.link f.spots) (three_number e.content) (three_number f.content) further (number_below e.content)))
    (eq-or-lt_of_le h))
    (cases_lt p o)

-- what the clauses of a verdict say
abbrev pub Judged : List MarchElement → Link → Option LinkEscape → Type 0
Judged march link result = IsVerdict march link result × ((size : ℕ) → 3 ≤ size → IsVerdictAt size march link result)

pub judged : (march : List MarchElement) (link : Link) (result : Option LinkEscape) → IsMarch march
    → MatchOption result (NoneIn march link 6) (λ e. IsFirstFound march link e) → Judged march link result
judged march link None is none = let detects = none_detects march link is none in (detects, λ size more. detects size more)
judged march link (Some e) is found =
    let never = detected_never march link (link_places_in link found.order) e.content e.directions is (fits_order link found.order found.within) found.least.word.0 in (
      (
        found.least.link_is,
        record { escape = found_escape march link found.order e is found.within found.least; least = λ f same escape. least_of_first march link e is found f same escape },
        λ detects. never 3 (omega arith) (detects 3 (omega arith)),
      ),
      λ size more. never size more,
    )

-- the search over the contents
pub none_so_far : (march : List MarchElement) (link : Link) (o number : ℕ) (content : Three) → IsMarch march
    → three_number content ≡ number → NoneBefore march link o number → word_to any_end (machine_of link (link_places_in link o)) cells_in march 0 (length march) content ≡ None → NoneBefore march link o (number + 1)
none_so_far march link o number content is at before none c low word through =
    let nothing : IsLeastOf (LetsThrough march link (link_places_in link o) content) None =
    subst (IsLeastOf (LetsThrough march link (link_places_in link o) content)) none (least_whole (machine_of link (link_places_in link o)) cells_in march content is) in
    ⊎_elim
    (λ (h : three_number c ≡ number).
    let same : c ≡ content = same_number c content (h ∙ sym at) in
    nothing word (subst (λ (d : Three). LetsThrough march link (link_places_in link o) d word) same through))
    (λ (h : three_number c < number). before c h word through)
    (eq_or_lt (three_number c) number low)
  where
    eq_or_lt : (m n : ℕ) → m < n + 1 → (m ≡ n) ⊎ (m < n)
    eq_or_lt m n h = eq-or-lt_of_le (omega arith)

pub least_here : (march : List MarchElement) (link : Link) (o number : ℕ) (content : Three) (word : ℕ) (e : LinkEscape) → IsMarch march
    → three_number content ≡ number → NoneBefore march link o number → word_to any_end (machine_of link (link_places_in link o)) cells_in march 0 (length march) content ≡ Some word
    → e.link ≡ link → e.spots ≡ link_places_in link o → e.content ≡ content → e.directions ≡ word → IsLeastIn march link o e
least_here march link o number content word e is at before found link_is places content_is word_is =
    let least : IsLeastOf (LetsThrough march link (link_places_in link o) content) (Some word) =
    subst (IsLeastOf (LetsThrough march link (link_places_in link o) content)) found (least_whole (machine_of link (link_places_in link o)) cells_in march content is) in
    record {
      link_is = link_is;
      spots = places;
      before = subst (NoneBefore march link o) (sym (ap three_number content_is ∙ at)) before;
      word =
          subst (λ (w : ℕ). IsLeastOf (LetsThrough march link (link_places_in link o) e.content) (Some w)) (sym word_is)
          (subst (λ (c : Three). IsLeastOf (LetsThrough march link (link_places_in link o) c) (Some word)) (sym content_is) least);
    }

-- the search over the places
pub none_in_next : (march : List MarchElement) (link : Link) (o : ℕ) → NoneIn march link o → NoneBefore march link o 8 → NoneIn march link (o + 1)
none_in_next march link o before none p low =
    ⊎_elim (λ (h : p ≡ o). subst (λ m. NoneBefore march link m 8) (sym h) none) (λ (h : p < o). before p h) (eq-or-lt_of_le (omega arith))
