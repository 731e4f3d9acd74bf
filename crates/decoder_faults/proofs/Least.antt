-- The search in the order of the placements and of the contents finds the least escape, and none exactly where every size is detected.
use Rattle.std.proofs.Common.{◌≡◌, ◌≢◌, ◌+◌, ◌<◌, ◌≤◌, ℕ, zero, suc, Bool, true, false, not, ◌&&◌, Option, Some, None, is_some, List, [], ◌∷◌, length, refl, ap, sym, subst, ◌∙◌, ◌⊎◌, inl, inr, ⊎_elim, append-nil, arith}
use Rattle.std.specs.Prelude.{MatchOption}
use Rattle.std.proofs.Math.Nat.{eq-or-lt_of_le}
use Rattle.std.proofs.lemmas.Bool.{cases_lt}
use Rattle.march_core.specs.March.{MarchElement, IsMarch}
use Rattle.march_core.specs.Visits.{Direction, directions_of}
use Rattle.cell_machine.specs.declared.pair.Pair.{Pair}
use Rattle.pair_tracker.specs.Few.{few_run}
use Rattle.pair_tracker.specs.Pairs.{sides_in}
use Rattle.pair_tracker.specs.Reached.{word_to}
use Rattle.pair_tracker.specs.Tracking.{any_end, GetsThrough}
use Rattle.pair_tracker.proofs.Through.{least_whole, through_fits, through_within, run_through}
use Rattle.pair_tracker.specs.Survivors.{IsLeastOf}
use Rattle.escape_array.specs.Escapes.{content_number}
use Rattle.escape_array.proofs.LeastArray.{content_below, same_content}
use Rattle.decoder_faults.specs.declared.fault.DecoderFault.{DecoderFault}
use Rattle.decoder_faults.specs.declared.escape.DecoderEscape.{DecoderEscape}
use Rattle.cell_machine.specs.Pairs.{pair_of}
use Rattle.decoder_faults.specs.Conditions.{catches, some_element, meets}
use Rattle.decoder_faults.specs.Decoding.{AddressPair, FitsPair, reach_of}
use Rattle.decoder_faults.specs.Detection.{IsCaught, DetectsAmong}
use Rattle.decoder_faults.specs.Escapes.{addresses_of, IsEscape, IsNoGreater, IsLeastEscape, IsVerdict, IsVerdictAt}
use Rattle.decoder_faults.specs.inner.Pairs.{machine_of}
use Rattle.decoder_faults.specs.inner.Searching.{addresses_in, start_in, LetsThrough, NoneBefore, IsLeastIn}
use Rattle.decoder_faults.proofs.Among.{caught_among, met_detects}
use Rattle.decoder_faults.proofs.EverySize.{through_unless, fits_in, lower_in, passes_with, detected_never}
use Rattle.decoder_faults.proofs.Meeting.{gets_nowhere, gets_through}

-- the content of two cells that a pair stands for
abbrev cells_for : Bool → Pair → List Bool
cells_for true q = q.a ∷ q.v ∷ []
cells_for false q = q.v ∷ q.a ∷ []

nothing_through : (march : List MarchElement) (fault : DecoderFault) (below : Bool) (q : Pair) (word : ℕ) → NoneBefore march fault below 4
    → GetsThrough (machine_of fault) (sides_in below) march q word → ⊥
nothing_through march fault true q word none through = none (cells_for true q) refl (content_below (cells_for true q) refl) word through
nothing_through march fault false q word none through = none (cells_for false q) refl (content_below (cells_for false q) refl) word through

-- what is found is an escape
pub found_escape : (march : List MarchElement) (fault : DecoderFault) (below : Bool) (e : DecoderEscape) → IsMarch march → IsLeastIn march fault below e → IsEscape march e
found_escape march fault below e is least =
    let through : LetsThrough march fault below e.content e.directions = least.word.0 in
    let ds : List Direction = directions_of e.directions (length march) in
    record {
      array = record {
        addresses = subst (λ (at : AddressPair). FitsPair at 2) (sym least.addresses) (fits_in below 2 (omega arith));
        each_cell = least.each_cell;
        is_word = through_within (machine_of fault) (sides_in below) march (start_in below e.content) e.directions is through;
        directions = through_fits (machine_of fault) (sides_in below) march (start_in below e.content) e.directions through;
      };
      passes =
          subst (λ (at : AddressPair). IsCaught march ds (reach_of e.fault at) e.content → ⊥) (sym least.addresses)
          (subst (λ (f : DecoderFault). IsCaught march ds (reach_of f (addresses_in below)) e.content → ⊥) (sym least.fault_is)
          (subst (λ (c : List Bool). IsCaught march ds (reach_of fault (addresses_in below)) c → ⊥) (append-nil e.content)
          (passes_with march fault below e.content [] e.directions is least.each_cell through)));
    }

-- an escape is let through
escape_through : (march : List MarchElement) (below : Bool) (f : DecoderEscape) → IsMarch march → IsEscape march f → addresses_of f ≡ addresses_in below
    → LetsThrough march f.fault below f.content f.directions
escape_through march below f is escape places =
    let ds : List Direction = directions_of f.directions (length march) in
    let passes : IsCaught march ds (reach_of f.fault (addresses_in below)) f.content → ⊥ = subst (λ (at : AddressPair). IsCaught march ds (reach_of f.fault at) f.content → ⊥) places escape.passes in
    let through = through_unless f.fault (addresses_in below) march is ds f.content (subst (FitsPair (addresses_in below)) (sym escape.array.each_cell) (fits_in below 2 (omega arith))) passes in
    run_through (machine_of f.fault) (sides_in below) march (start_in below f.content) through.0 f.directions is escape.array.is_word escape.array.directions
    (ap (λ b. few_run (machine_of f.fault) (sides_in b) (start_in below f.content) march ds) (sym (lower_in below)) ∙ through.1)

addresses_at : ℕ → ℕ → AddressPair
addresses_at x y = record { x = x; y = y }

two_ways : (x y : ℕ) → x < 2 → y < 2 → x ≢ y → (addresses_at x y ≡ addresses_in true) ⊎ (addresses_at x y ≡ addresses_in false)
unfolding addresses_at
two_ways zero zero hx hy ne = absurd (ne refl)
two_ways zero (suc zero) hx hy ne = inl refl
two_ways zero (suc (suc y)) hx hy ne = absurd (omega arith)
two_ways (suc zero) zero hx hy ne = inr refl
two_ways (suc zero) (suc zero) hx hy ne = absurd (ne refl)
two_ways (suc zero) (suc (suc y)) hx hy ne = absurd (omega arith)
two_ways (suc (suc x)) y hx hy ne = absurd (omega arith)

below_or_above : (march : List MarchElement) (f : DecoderEscape) → IsEscape march f → (addresses_of f ≡ addresses_in true) ⊎ (addresses_of f ≡ addresses_in false)
unfolding addresses_at
below_or_above march f escape = two_ways f.x f.y escape.array.addresses.x_within escape.array.addresses.y_within escape.array.addresses.apart

-- an escape of this fault is let through where its addresses stand so
let_through : (march : List MarchElement) (fault : DecoderFault) (below : Bool) (f : DecoderEscape) → IsMarch march → IsEscape march f → f.fault ≡ fault
    → addresses_of f ≡ addresses_in below → LetsThrough march fault below f.content f.directions
let_through march fault below f is escape same places =
    subst (λ (g : DecoderFault). LetsThrough march g below f.content f.directions) same (escape_through march below f is escape places)

-- no escape in its placement is less than the one that is found there
no_greater : (march : List MarchElement) (fault : DecoderFault) (below : Bool) (e f : DecoderEscape) → IsLeastIn march fault below e
    → length f.content ≡ 2 → addresses_of f ≡ addresses_in below → LetsThrough march fault below f.content f.directions → IsNoGreater e f
no_greater march fault below e f least two places through =
    let same_x : e.x ≡ f.x = ap (λ (at : AddressPair). at.x) (least.addresses ∙ sym places) in
    ⊎_elim
    (λ (h : content_number e.content < content_number f.content). inl (omega arith))
    (λ (h : content_number f.content ≤ content_number e.content).
    ⊎_elim
    (λ (k : content_number f.content ≡ content_number e.content).
    let same : f.content ≡ e.content = same_content f.content e.content two least.each_cell k in
    inr (omega arith, least.word.1 f.directions (subst (λ (c : List Bool). LetsThrough march fault below c f.directions) same through)))
    (λ (k : content_number f.content < content_number e.content). absurd (least.before f.content two k f.directions through))
    (eq-or-lt_of_le h))
    (cases_lt (content_number e.content) (content_number f.content))

-- where one is found with x below, it is the least
pub least_below : (march : List MarchElement) (fault : DecoderFault) (e : DecoderEscape) → IsMarch march → IsLeastIn march fault true e → IsLeastEscape march e
least_below march fault e is least = record {
  escape = found_escape march fault true e is least;
  least = λ f same escape.
      ⊎_elim
      (λ (h : addresses_of f ≡ addresses_in true). no_greater march fault true e f least escape.array.each_cell h (let_through march fault true f is escape (same ∙ least.fault_is) h))
      (λ (h : addresses_of f ≡ addresses_in false).
      let ex : e.x ≡ 0 = ap (λ (at : AddressPair). at.x) least.addresses in
      let fx : f.x ≡ 1 = ap (λ (at : AddressPair). at.x) h in
      let few : content_number e.content < 4 = content_below e.content least.each_cell in
      inl (omega arith))
      (below_or_above march f escape);
}

-- where one is found with x above and none with x below
pub least_above : (march : List MarchElement) (fault : DecoderFault) (e : DecoderEscape) → IsMarch march → NoneBefore march fault true 4 → IsLeastIn march fault false e
    → IsLeastEscape march e
least_above march fault e is none least = record {
  escape = found_escape march fault false e is least;
  least = λ f same escape.
      ⊎_elim
      (λ (h : addresses_of f ≡ addresses_in true).
      absurd (none f.content escape.array.each_cell (content_below f.content escape.array.each_cell) f.directions (let_through march fault true f is escape (same ∙ least.fault_is) h)))
      (λ (h : addresses_of f ≡ addresses_in false). no_greater march fault false e f least escape.array.each_cell h (let_through march fault false f is escape (same ∙ least.fault_is) h))
      (below_or_above march f escape);
}

-- what the clauses of a verdict say
abbrev pub Judged : List MarchElement → DecoderFault → Option DecoderEscape → Type 0
Judged march fault result =
    IsVerdict march fault result × ((size : ℕ) → 2 ≤ size → IsVerdictAt size march fault result) × (is_some result ≡ not (meets march fault))
    × (result ≡ None → DetectsAmong march fault)

-- the elements of the march say the same
unmet : (march : List MarchElement) (fault : DecoderFault) (below : Bool) (content : List Bool) (word : ℕ) → IsMarch march → LetsThrough march fault below content word
    → meets march fault ≡ false
unmet march fault below content word is through =
    placed below (go (some_element (catches fault below) march) refl)
  where
    go : (b : Bool) → some_element (catches fault below) march ≡ b → some_element (catches fault below) march ≡ false
    go true some = absurd (gets_nowhere fault below march (start_in below content) word is some through)
    go false none = none

    and_false : (b : Bool) → (b && false) ≡ false
    and_false true = refl
    and_false false = refl

    placed : (b : Bool) → some_element (catches fault b) march ≡ false → meets march fault ≡ false
    placed true none = ap (λ x. x && some_element (catches fault false) march) none
    placed false none = ap (λ x. some_element (catches fault true) march && x) none ∙ and_false (some_element (catches fault true) march)

met : (march : List MarchElement) (fault : DecoderFault) (below : Bool) → IsMarch march → NoneBefore march fault below 4 → some_element (catches fault below) march ≡ true
met march fault below is nothing = go (some_element (catches fault below) march) refl
  where
    q : Pair
    q = pair_of false false

    go : (b : Bool) → some_element (catches fault below) march ≡ b → some_element (catches fault below) march ≡ true
    go true some = some
    go false none =
        let through = gets_through fault below march q is none in
        absurd (nothing_through march fault below q through.0 nothing through.1)

escape_judged : (march : List MarchElement) (fault : DecoderFault) (below : Bool) (e : DecoderEscape) → IsMarch march → IsLeastIn march fault below e → IsLeastEscape march e
    → Judged march fault (Some e)
escape_judged march fault below e is found least =
    let never = detected_never march fault below e.content e.directions is found.each_cell found.word.0 in (
      (found.fault_is, least, λ detects. never 2 (omega arith) (detects 2 (omega arith))),
      λ size more. never size more,
      sym (ap not (unmet march fault below e.content e.directions is found.word.0)),
      λ none. absurd (let clash : Some e ≡ None = none in cc),
    )

pub judged_below : (march : List MarchElement) (fault : DecoderFault) (e : DecoderEscape) → IsMarch march → IsLeastIn march fault true e → Judged march fault (Some e)
judged_below march fault e is found = escape_judged march fault true e is found (least_below march fault e is found)

pub judged_above : (march : List MarchElement) (fault : DecoderFault) (result : Option DecoderEscape) → IsMarch march → NoneBefore march fault true 4
    → MatchOption result (NoneBefore march fault false 4) (λ e. IsLeastIn march fault false e) → Judged march fault result
judged_above march fault None is none_below found =
    let both : meets march fault ≡ true =
    ap (λ b. b && some_element (catches fault false) march) (met march fault true is none_below) ∙ met march fault false is found in
    (met_detects march fault both, λ size more. met_detects march fault both size more, sym (ap not both), λ none. caught_among march fault both)
judged_above march fault (Some e) is none found = escape_judged march fault false e is found (least_above march fault e is none found)

-- the search over the contents
pub none_so_far : (march : List MarchElement) (fault : DecoderFault) (below : Bool) (number : ℕ) (content : List Bool) → IsMarch march → length content ≡ 2
    → content_number content ≡ number → NoneBefore march fault below number
    → word_to any_end (machine_of fault) (sides_in below) march 0 (length march) (start_in below content) ≡ None → NoneBefore march fault below (number + 1)
none_so_far march fault below number content is two at before none c size low word through =
    let nothing : IsLeastOf (LetsThrough march fault below content) None =
    subst (IsLeastOf (LetsThrough march fault below content)) none (least_whole (machine_of fault) (sides_in below) march (start_in below content) is) in
    ⊎_elim
    (λ (h : content_number c ≡ number).
    let same : c ≡ content = same_content c content size two (h ∙ sym at) in
    nothing word (subst (λ (d : List Bool). LetsThrough march fault below d word) same through))
    (λ (h : content_number c < number). before c size h word through)
    (eq_or_lt (content_number c) number low)
  where
    eq_or_lt : (m n : ℕ) → m < n + 1 → (m ≡ n) ⊎ (m < n)
    eq_or_lt m n h = eq-or-lt_of_le (omega arith)

pub least_found : (march : List MarchElement) (fault : DecoderFault) (below : Bool) (content : List Bool) (word : ℕ) (e : DecoderEscape) → IsMarch march → length content ≡ 2
    → NoneBefore march fault below (content_number content)
    → word_to any_end (machine_of fault) (sides_in below) march 0 (length march) (start_in below content) ≡ Some word
    → e.fault ≡ fault → addresses_of e ≡ addresses_in below → e.content ≡ content → e.directions ≡ word → IsLeastIn march fault below e
least_found march fault below content word e is two before found fault_is places content_is word_is =
    let least : IsLeastOf (LetsThrough march fault below content) (Some word) =
    subst (IsLeastOf (LetsThrough march fault below content)) found (least_whole (machine_of fault) (sides_in below) march (start_in below content) is) in
    record {
      fault_is = fault_is;
      addresses = places;
      each_cell = ap length content_is ∙ two;
      before = subst (λ (c : List Bool). NoneBefore march fault below (content_number c)) (sym content_is) before;
      word =
          subst (λ (w : ℕ). IsLeastOf (LetsThrough march fault below e.content) (Some w)) (sym word_is)
          (subst (λ (c : List Bool). IsLeastOf (LetsThrough march fault below c) (Some word)) (sym content_is) least);
    }
