-- What the search finds is the least escape, and none exactly where every size is detected.
use Rattle.std.proofs.Common.{◌≡◌, ◌+◌, ◌-◌, ◌^◌, ◌<◌, ◌≤◌, ℕ, zero, suc, Bool, true, false, cond, Option, Some, None, List, length, refl, ap, sym, subst, ◌∙◌, ◌⊎◌, inl, inr, ⊎_elim, arith}
use Rattle.std.specs.Prelude.{MatchOption}
use Rattle.std.specs.Bool.{IsTrue}
use Rattle.std.proofs.lemmas.Bool.{cases_lt}
use Rattle.std.proofs.lemmas.List.{length-map}
use Rattle.std.proofs.Math.Nat.{eq-or-lt_of_le}
use Rattle.march_core.specs.March.{MarchElement, IsMarch}
use Rattle.march_core.specs.Visits.{Direction, is_direction, directions_of}
use Rattle.pair_tracker.specs.Few.{few_run}
use Rattle.pair_tracker.specs.Survivors.{IsLeastOf}
use Rattle.pair_tracker.specs.Tracking.{GetsThrough}
use Rattle.pair_tracker.proofs.Through.{through_run, through_fits, through_within, run_through}
use Rattle.sequence_faults.specs.declared.few.Few.{Few}
use Rattle.sequence_faults.specs.declared.few.Spots.{Spots}
use Rattle.sequence_faults.specs.declared.escape.SeqEscape.{SeqEscape}
use Rattle.sequence_faults.specs.Primitive.{SequencePrimitive, IsSequence}
use Rattle.sequence_faults.specs.Detection.{FitsAt, IsCaught, DetectsAt}
use Rattle.sequence_faults.specs.Escapes.{digits, addresses_in, content_in, IsEscape, IsInOrder, order_of, IsVerdict, IsVerdictAt}
use Rattle.sequence_faults.specs.inner.Few.{machine_of, order_at, spots_at}
use Rattle.sequence_faults.specs.inner.Searching.{word_at, are_apart, word_in, NoSize, IsFirst}
use Rattle.sequence_faults.proofs.Digits.{length-digits}
use Rattle.sequence_faults.proofs.Valued.{digits_below}
use Rattle.sequence_faults.proofs.Placing.{different_by_test}
use Rattle.sequence_faults.proofs.Growing.{Grown, grown}
use Rattle.sequence_faults.proofs.Everywhere.{seen, passes_where, through_unless, least_word, word_there, none_detects}

length-content : (n content : ℕ) → length (content_in n content) ≡ n
length-content n content = length-map (digits 2 n content) _ ∙ length-digits 2 n content

chosen : (b : Bool) (o : Option ℕ) (w : ℕ) → cond b o None ≡ Some w → (b ≡ true) × (o ≡ Some w)
chosen true o w e = (refl, e)
chosen false o w e = cc

module _ (march : List MarchElement) (p : SequencePrimitive) (is_march : IsMarch march) (is : IsSequence p) where
  -- ---- what is found is an escape
  module _ (e : SeqEscape) (some : 2 ≤ e.size) (places_in : e.places < e.size ^ length p.states) (content_within : e.content < 2 ^ e.size)
      (found : word_in march p e.size e.places e.content ≡ Some e.directions) where
    abbrev at : List ℕ
    at = addresses_in e.size p e.places

    abbrev content : List Bool
    content = content_in e.size e.content

    abbrev s : Spots
    s = spots_at e.size at

    test : (are_apart s ≡ true) × (word_at march p s 0 (seen e.size at content) ≡ Some e.directions)
    test = chosen (are_apart s) (word_at march p s 0 (seen e.size at content)) e.directions found

    fits : FitsAt p at e.size
    fits =
        let each : length at ≡ length p.states = length-digits e.size (length p.states) e.places in
        let few : length p.states ≤ 3 = is.few_cells in
        record { each = each; within = digits_below e.size (length p.states) e.places (omega arith); different = different_by_test e.size at test.0 (omega arith) }

    through : GetsThrough (machine_of p) (order_at s) march (seen e.size at content) e.directions
    through = (subst (IsLeastOf (GetsThrough (machine_of p) (order_at s) march (seen e.size at content))) test.1 (least_word march p s (seen e.size at content) is_march)).0

    passes : IsCaught march (directions_of e.directions (length march)) p at content → ⊥
    passes =
        let size : length content ≡ e.size = length-content e.size e.content in
        let run = through_run (machine_of p) (order_at s) march (seen e.size at content) e.directions through in
        passes_where p is at content (subst (FitsAt p at) (sym size) fits) march is_march (directions_of e.directions (length march)) through.end
        (subst (λ (n : ℕ). few_run (machine_of p) (order_at (spots_at n at)) (seen n at content) march (directions_of e.directions (length march)) ≡ Some through.end) (sym size) run)

    pub found_escape : IsEscape march p e
    found_escape = record {
      array = record {
        some = some;
        fits = fits;
        places_within = places_in;
        content_within = content_within;
        is_word = through_within (machine_of p) (order_at s) march (seen e.size at content) e.directions is_march through;
        directions = through_fits (machine_of p) (order_at s) march (seen e.size at content) e.directions through;
      };
      passes = passes;
    }

  -- ---- each escape is found, with a word that is no greater
  pub record HasWord (f : SeqEscape) : Type 0 where
    pub word : ℕ
    pub found : word_in march p f.size f.places f.content ≡ Some word
    pub least : word ≤ f.directions

  module _ (f : SeqEscape) (escape : IsEscape march p f) where
    abbrev cells : List ℕ
    cells = addresses_in f.size p f.places

    abbrev bits : List Bool
    bits = content_in f.size f.content

    abbrev spots : Spots
    spots = spots_at f.size cells

    abbrev start : Few
    start = seen f.size cells bits

    abbrev Runs : ℕ → Type 0
    Runs n = (z : Few) × (few_run (machine_of p) (order_at (spots_at n cells)) (seen n cells bits) march (directions_of f.directions (length march)) ≡ Some z)

    run : Runs f.size
    run =
        let size : length bits ≡ f.size = length-content f.size f.content in
        subst Runs size
        (through_unless p is cells bits (subst (FitsAt p cells) (sym size) escape.array.fits) march is_march (directions_of f.directions (length march)) escape.passes)

    gets_through : GetsThrough (machine_of p) (order_at spots) march start f.directions
    gets_through = run_through (machine_of p) (order_at spots) march start run.0 f.directions is_march escape.array.is_word escape.array.directions run.1

    go : (o : Option ℕ) → word_at march p spots 0 start ≡ o → HasWord f
    go None none = absurd ((subst (IsLeastOf (GetsThrough (machine_of p) (order_at spots) march start)) none (least_word march p spots start is_march)) f.directions gets_through)
    go (Some w) word = record {
      word = w;
      found = word_there march p cells f.size bits is escape.array.fits ∙ word;
      least = (subst (IsLeastOf (GetsThrough (machine_of p) (order_at spots) march start)) word (least_word march p spots start is_march)).1 f.directions gets_through;
    }

    escape_word : HasWord f
    escape_word = go (word_at march p spots 0 start) refl

  three_ways : (m n : ℕ) → (m < n) ⊎ ((m ≡ n) ⊎ (n < m))
  three_ways m n = ⊎_elim (λ (h : m < n). inl h) (λ (h : n ≤ m). inr (⊎_elim (λ (e : n ≡ m). inl (sym e)) (λ (k : n < m). inr k) (eq-or-lt_of_le h))) (cases_lt m n)

  not_both : (o : Option ℕ) (w : ℕ) → o ≡ None → o ≡ Some w → ⊥
  not_both o w e f = (let clash : ◌≡◌ {A = Option ℕ} None (Some w) = sym e ∙ f in cc)

  least_of_first : (e : SeqEscape) → IsFirst march p e → (f : SeqEscape) → IsEscape march p f → IsInOrder (order_of e) (order_of f)
  least_of_first e first f escape =
      let a = escape.array in
      let has : HasWord f = escape_word f escape in
      let here = first.first in
      let there = first.first.first in
      ⊎_elim
      (λ (h : e.size < f.size). inl h)
      (λ (h : (e.size ≡ f.size) ⊎ (f.size < e.size)).
      ⊎_elim
      (λ (sizes : e.size ≡ f.size).
      let same_size : word_in march p e.size f.places f.content ≡ Some has.word = ap (λ n. word_in march p n f.places f.content) sizes ∙ has.found in
      let content_in_size : f.content < 2 ^ e.size = subst (λ n. f.content < 2 ^ n) (sym sizes) a.content_within in
      inr (
        sizes,
        ⊎_elim
            (λ (k : e.places < f.places). inl k)
            (λ (k : (e.places ≡ f.places) ⊎ (f.places < e.places)).
            ⊎_elim
            (λ (places : e.places ≡ f.places).
            let same_places : word_in march p e.size e.places f.content ≡ Some has.word = ap (λ n. word_in march p e.size n f.content) places ∙ same_size in
            inr (
              places,
              ⊎_elim
                  (λ (l : e.content < f.content). inl l)
                  (λ (l : (e.content ≡ f.content) ⊎ (f.content < e.content)).
                  ⊎_elim
                  (λ (contents : e.content ≡ f.content).
                  let same : Some e.directions ≡ Some has.word = sym there.passes ∙ ap (word_in march p e.size e.places) contents ∙ same_places in
                  let word : e.directions ≡ has.word = cc in
                  let least : has.word ≤ f.directions = has.least in
                  inr (contents, last e.directions f.directions (omega arith)))
                  (λ (before : f.content < e.content). absurd (not_both _ has.word (there.before f.content before) same_places))
                  l)
                  (three_ways e.content f.content),
            ))
            (λ (before : f.places < e.places). absurd (not_both _ has.word (here.before f.places before f.content content_in_size) same_size))
            k)
            (three_ways e.places f.places),
      ))
      (λ (before : f.size < e.size). absurd (not_both _ has.word (first.before f.size a.some before f.places a.places_within f.content a.content_within) has.found))
      h)
      (three_ways e.size f.size)
    where
      last : (m n : ℕ) → m ≤ n → (m < n) ⊎ ((m ≡ n) × Unit {0})
      last m n h = ⊎_elim (λ (k : m ≡ n). inr (k, tt)) (λ (k : m < n). inl k) (eq-or-lt_of_le h)

  -- an array of this size that passes
  record Passing (n : ℕ) : Type 0 where
    ds : List Direction
    allowed : IsTrue (is_direction march ds)
    cells : List ℕ
    bits : List Bool
    size_is : length bits ≡ n
    fits_in : FitsAt p cells (length bits)
    end : Few
    run_is : few_run (machine_of p) (order_at (spots_at (length bits) cells)) (seen (length bits) cells bits) march ds ≡ Some end

  passing_more : (n : ℕ) → 2 ≤ n → Passing n → Passing (suc n)
  passing_more n some passing =
      let here : length passing.bits ≡ n = passing.size_is in
      let g : Grown p march passing.ds passing.cells passing.bits = grown p march passing.ds passing.cells passing.bits (omega arith) passing.fits_in in
      let longer : length g.more ≡ suc (length passing.bits) = g.size in
      record {
        ds = passing.ds;
        allowed = passing.allowed;
        cells = g.more_at;
        bits = g.more;
        size_is = omega (arith, longer, here);
        fits_in = subst (FitsAt p g.more_at) (sym longer) g.fits;
        end = passing.end;
        run_is = subst (λ (k : ℕ). few_run (machine_of p) (order_at (spots_at k g.more_at)) (seen k g.more_at g.more) march passing.ds ≡ Some passing.end) (sym longer) (g.same ∙ passing.run_is);
      }

  passing_most : (k n : ℕ) → 2 ≤ n → Passing n → Passing (k + n)
  passing_most zero n some passing = subst Passing none passing
    where
      none : n ≡ 0 + n
      none = omega arith
  passing_most (suc k) n some passing = subst Passing next (passing_more (k + n) (omega arith) (passing_most k n some passing))
    where
      next : suc (k + n) ≡ suc k + n
      next = omega arith

  escape_passing : (f : SeqEscape) → IsEscape march p f → Passing f.size
  escape_passing f escape =
      let bits : List Bool = content_in f.size f.content in
      let cells : List ℕ = addresses_in f.size p f.places in
      let size : length bits ≡ f.size = length-content f.size f.content in
      let fits_in : FitsAt p cells (length bits) = subst (FitsAt p cells) (sym size) escape.array.fits in
      let run = through_unless p is cells bits fits_in march is_march (directions_of f.directions (length march)) escape.passes in
      record {
        ds = directions_of f.directions (length march);
        allowed = escape.array.directions.allowed;
        cells = cells;
        bits = bits;
        size_is = size;
        fits_in = fits_in;
        end = run.0;
        run_is = run.1;
      }

  never_at : (n : ℕ) → Passing n → DetectsAt n march p → ⊥
  never_at n passing detects =
      passes_where p is passing.cells passing.bits passing.fits_in march is_march passing.ds passing.end passing.run_is
      (detects passing.ds passing.cells passing.bits passing.allowed (subst (FitsAt p passing.cells) passing.size_is passing.fits_in) passing.size_is)

  pub judged_at : (result : Option SeqEscape) → MatchOption result (NoSize march p (length p.states + 3)) (IsFirst march p) → (size : ℕ) → length p.states + 2 ≤ size → IsVerdictAt size march p result
  judged_at None none size more = none_detects march p is_march is none size (omega arith)
  judged_at (Some e) first size more =
      let escape : IsEscape march p e = found_escape e first.some first.first.within first.first.first.content_within first.first.first.passes in
      let few : e.size < length p.states + 3 = first.few in
      let some : 2 ≤ e.size = first.some in
      let same : size - e.size + e.size ≡ size = omega arith in
      never_at size (subst Passing same (passing_most (size - e.size) e.size some (escape_passing e escape)))

  pub judged : (result : Option SeqEscape) → MatchOption result (NoSize march p (length p.states + 3)) (IsFirst march p) → IsVerdict march p result
  judged None none = none_detects march p is_march is none
  judged (Some e) first =
      let escape : IsEscape march p e = found_escape e first.some first.first.within first.first.first.content_within first.first.first.passes in (
        record { escape = escape; least = λ f passes. least_of_first e first f passes },
        λ detects. escape.passes
            (detects e.size first.some (directions_of e.directions (length march)) (addresses_in e.size p e.places) (content_in e.size e.content) escape.array.directions.allowed
            escape.array.fits (length-content e.size e.content)),
      )
