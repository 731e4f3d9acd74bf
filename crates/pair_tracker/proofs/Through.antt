-- The words in which the few cells get through a march are the directions in which an array does.
use Rattle.std.proofs.Common.{◌≡◌, ◌<◌, ◌^◌, ℕ, true, cond, Some, None, List, length, refl, ap, sym, subst, ◌∙◌, arith}
use Rattle.std.specs.Bool.{IsTrue}
use Rattle.march_core.specs.March.{MarchElement, IsMarch}
use Rattle.march_core.specs.Visits.{Direction, is_direction, directions_of, FitsWord}
use Rattle.pair_tracker.specs.Few.{Machine, Order, few_run, end_of}
use Rattle.pair_tracker.specs.Legs.{elements_between, directions_between}
use Rattle.pair_tracker.specs.Reached.{word_to}
use Rattle.pair_tracker.specs.Survivors.{IsLeastOf}
use Rattle.pair_tracker.specs.Tracking.{any_end, GetsThrough}
use Rattle.pair_tracker.specs.Ways.{can_reach, ways_to, led_by, ways_word}
use Rattle.pair_tracker.proofs.Passing.{all_between}
use Rattle.pair_tracker.proofs.LeastWords.{fitting_is, least_words}
use Rattle.pair_tracker.proofs.Reaching.{ways_least}
use Rattle.pair_tracker.proofs.Words.{directions_from_first, span_fits, span_from_rest, rest_from_span}

module _ {Q I : Type 0} (m : Machine Q I) (order : Order I) (march : List MarchElement) where
  -- the least word of the whole march
  pub least_whole : (q : Q) → IsMarch march → IsLeastOf (GetsThrough m order march q) (word_to any_end m order march 0 (length march) q)
  least_whole q is = least_words any_end m order march 0 (length march) q (omega arith) (omega arith) is.elements_within

  -- where the few get through in some directions, they do so by a word
  pub some_word : (q z : Q) (ds : List Direction) → IsMarch march → IsTrue (is_direction march ds) → few_run m order q march ds ≡ Some z → (word : ℕ) × GetsThrough m order march q word
  some_word q z ds is allowed e =
      let es : List MarchElement = elements_between march 0 (length march) in
      let word : ℕ = ways_word 0 (ways_to any_end (end_of m order) es q) in
      let led : led_by (end_of m order) march q ds ≡ Some z = fitting_is m order march q ds ∙ ap (λ b. cond b (few_run m order q march ds) None) allowed ∙ e in
      let reached : can_reach any_end (end_of m order) march q ≡ true = (ways_least any_end (end_of m order) march q ds (z, led, refl)).0 in
      let whole : can_reach any_end (end_of m order) es q ≡ true = ap (λ l. can_reach any_end (end_of m order) l q) (all_between march) ∙ reached in
      let found : word_to any_end m order march 0 (length march) q ≡ Some word = ap (λ b. cond b (Some word) None) whole in
      let least : IsLeastOf (GetsThrough m order march q) (Some word) = subst (IsLeastOf (GetsThrough m order march q)) found (least_whole q is) in
      (word, least.0)

  -- a word that leads through is one of directions in which the few get through
  pub through_run : (q : Q) (word : ℕ) → (through : GetsThrough m order march q word) → few_run m order q march (directions_of word (length march)) ≡ Some through.end
  through_run q word through =
      ap (λ es. few_run m order q es (directions_of word (length march))) (sym (all_between march))
      ∙ ap (few_run m order q (elements_between march 0 (length march))) (sym (directions_from_first word (length march))) ∙ through.leads.ends

  pub through_fits : (q : Q) (word : ℕ) → GetsThrough m order march q word → FitsWord march word
  through_fits q word through = record {
    allowed =
        ap (λ es. is_direction es (directions_of word (length march))) (sym (all_between march))
        ∙ ap (is_direction (elements_between march 0 (length march))) (sym (directions_from_first word (length march))) ∙ through.leads.allowed;
    rest = rest_from_span 0 (length march) word through.leads.span;
  }

  pub through_within : (q : Q) (word : ℕ) → IsMarch march → GetsThrough m order march q word → word < 2 ^ 64
  through_within q word is through = span_fits 0 (length march) word (omega arith) is.elements_within through.leads.span

  pub run_through : (q z : Q) (word : ℕ) → IsMarch march → word < 2 ^ 64 → FitsWord march word → few_run m order q march (directions_of word (length march)) ≡ Some z
      → GetsThrough m order march q word
  run_through q z word is within fits e = record {
    end = z;
    is_wanted = refl;
    leads = record {
      span = span_from_rest 0 (length march) word (omega arith) is.elements_within within fits.rest;
      allowed =
          ap (λ es. is_direction es (directions_between word 0 (length march))) (all_between march)
          ∙ ap (is_direction march) (directions_from_first word (length march)) ∙ fits.allowed;
      ends =
          ap (λ es. few_run m order q es (directions_between word 0 (length march))) (all_between march)
          ∙ ap (few_run m order q march) (directions_from_first word (length march)) ∙ e;
    };
  }
