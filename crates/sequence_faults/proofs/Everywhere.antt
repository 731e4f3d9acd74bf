-- Where the arrays of few cells are caught, arrays of every size are.
use Rattle.std.proofs.Common.{◌≡◌, ◌+◌, ◌^◌, ◌<◌, ◌≤◌, ℕ, zero, suc, Bool, cond, Option, Some, None, List, length, map, refl, ap, sym, subst, ◌∙◌, ⊎_elim, arith}
use Rattle.std.specs.Bool.{IsTrue}
use Rattle.std.specs.List.{remove}
use Rattle.std.proofs.lemmas.Bool.{cases_lt}
use Rattle.std.proofs.lemmas.List.Edits.{length-remove}
use Rattle.march_core.specs.March.{MarchElement, IsMarch}
use Rattle.march_core.specs.Visits.{Direction, is_direction}
use Rattle.pair_tracker.specs.Few.{few_run, end_of}
use Rattle.pair_tracker.specs.Survivors.{IsLeastOf}
use Rattle.pair_tracker.specs.Tracking.{any_end, GetsThrough}
use Rattle.pair_tracker.specs.Ways.{word_by}
use Rattle.pair_tracker.proofs.Passing.{all_between}
use Rattle.pair_tracker.proofs.Few.{march_passes, march_caught, march_through}
use Rattle.pair_tracker.proofs.Through.{least_whole, some_word}
use Rattle.sequence_faults.specs.declared.few.Few.{Few}
use Rattle.sequence_faults.specs.declared.few.Spots.{Spots}
use Rattle.sequence_faults.specs.Primitive.{SequencePrimitive, IsSequence}
use Rattle.sequence_faults.specs.Stepping.{held_as, nothing}
use Rattle.sequence_faults.specs.Detection.{FitsAt, held_after, is_wrong_visit, IsCaught, Detects}
use Rattle.sequence_faults.specs.Escapes.{digits, content_in}
use Rattle.sequence_faults.specs.inner.Few.{machine_of, seat_at, order_at, spots_at, few_at}
use Rattle.sequence_faults.specs.inner.Searching.{word_at, are_apart, NoSize}
use Rattle.sequence_faults.proofs.Placing.{about, are_apart_at}
use Rattle.sequence_faults.proofs.Seeing.{seq_sees}
use Rattle.sequence_faults.proofs.Shrinking.{lower, same_run}
use Rattle.sequence_faults.proofs.Lowering.{Spare, spare, lowered_fits, lowered, few_lowered}
use Rattle.sequence_faults.proofs.Valued.{value, value_below, digits_value, content_number, content_below, content_is}

-- what is seen of an array at the start
abbrev pub seen : ℕ → List ℕ → List Bool → Few
seen n at content = few_at (spots_at n at) (held_as content nothing)

-- a run on an array is the run of its few cells
module _ (p : SequencePrimitive) (is : IsSequence p) (at : List ℕ) (content : List Bool) (fits : FitsAt p at (length content)) (march : List MarchElement) (is_march : IsMarch march)
    (ds : List Direction) where
  abbrev s : Spots
  s = spots_at (length content) at

  pub passes_where : (q : Few) → few_run (machine_of p) (order_at s) (seen (length content) at content) march ds ≡ Some q → IsCaught march ds p at content → ⊥
  passes_where q e =
      march_passes (held_after p at) (is_wrong_visit p at) (λ h. h.cells) (few_at s) (seat_at s) (length content) (machine_of p) (λ h. length h.cells ≡ length content) (Unit {0})
      (seq_sees p at s (about p at (length content) is fits)) (order_at s) (λ d q ops. refl) march is_march ds (held_as content nothing) refl tt q e

  pub caught_where : few_run (machine_of p) (order_at s) (seen (length content) at content) march ds ≡ None → IsCaught march ds p at content
  caught_where e =
      march_caught (held_after p at) (is_wrong_visit p at) (λ h. h.cells) (few_at s) (seat_at s) (length content) (machine_of p) (λ h. length h.cells ≡ length content) (Unit {0})
      (seq_sees p at s (about p at (length content) is fits)) (order_at s) (λ d q ops. refl) march is_march ds (held_as content nothing) refl e

  pub through_unless : (IsCaught march ds p at content → ⊥) → (q : Few) × (few_run (machine_of p) (order_at s) (seen (length content) at content) march ds ≡ Some q)
  through_unless passes =
      march_through (held_after p at) (is_wrong_visit p at) (λ h. h.cells) (few_at s) (seat_at s) (length content) (machine_of p) (λ h. length h.cells ≡ length content) (Unit {0})
      (seq_sees p at s (about p at (length content) is fits)) (order_at s) (λ d q ops. refl) march is_march ds (held_as content nothing) refl tt passes

-- the least word of the few cells
pub least_word : (march : List MarchElement) (p : SequencePrimitive) (s : Spots) (q : Few) → IsMarch march → IsLeastOf (GetsThrough (machine_of p) (order_at s) march q) (word_at march p s 0 q)
least_word march p s q is_march =
    subst (IsLeastOf (GetsThrough (machine_of p) (order_at s) march q)) (ap (λ es. word_by any_end (end_of (machine_of p) (order_at s)) 0 es q) (all_between march))
    (least_whole (machine_of p) (order_at s) march q is_march)

-- none lets them through
pub none_through : (march : List MarchElement) (p : SequencePrimitive) (s : Spots) (q : Few) (ds : List Direction) → IsMarch march → word_at march p s 0 q ≡ None → IsTrue (is_direction march ds)
    → few_run (machine_of p) (order_at s) q march ds ≡ None
none_through march p s q ds is_march none allowed = go (few_run (machine_of p) (order_at s) q march ds) refl
  where
    least : IsLeastOf (GetsThrough (machine_of p) (order_at s) march q) None
    least = subst (IsLeastOf (GetsThrough (machine_of p) (order_at s) march q)) none (least_word march p s q is_march)

    go : (r : Option Few) → few_run (machine_of p) (order_at s) q march ds ≡ r → few_run (machine_of p) (order_at s) q march ds ≡ None
    go None e = e
    go (Some z) e = let through = some_word (machine_of p) (order_at s) march q z ds is_march allowed e in absurd (least through.0 through.1)

-- the least word of an array by its addresses and its content
abbrev pub word_for : List MarchElement → SequencePrimitive → ℕ → List ℕ → List Bool → Option ℕ
word_for march p n at content = cond (are_apart (spots_at n at)) (word_at march p (spots_at n at) 0 (seen n at content)) None

pub word_there : (march : List MarchElement) (p : SequencePrimitive) (at : List ℕ) (n : ℕ) (content : List Bool) → IsSequence p → FitsAt p at n
    → word_for march p n at content ≡ word_at march p (spots_at n at) 0 (seen n at content)
word_there march p at n content is fits =
    ap (λ b. cond b (word_at march p (spots_at n at) 0 (seen n at content)) None) (are_apart_at p at n is fits)

module _ (march : List MarchElement) (p : SequencePrimitive) (is_march : IsMarch march) (is : IsSequence p) (none : NoSize march p (length p.states + 3)) where
  abbrev NoneThrough : ℕ → Type 0
  NoneThrough n =
      (at : List ℕ) (content : List Bool) (ds : List Direction) → FitsAt p at n → length content ≡ n → IsTrue (is_direction march ds)
      → few_run (machine_of p) (order_at (spots_at n at)) (seen n at content) march ds ≡ None

  small : (n : ℕ) → 2 ≤ n → n < length p.states + 3 → NoneThrough n
  small n some few at content ds fits size allowed =
      let places : ℕ = value n at in
      let number : ℕ = content_number content in
      let here : digits n (length p.states) places ≡ at = ap (λ k. digits n k places) (sym fits.each) ∙ digits_value n at fits.within in
      let places_in : places < n ^ length p.states = subst (λ k. places < n ^ k) fits.each (value_below n at fits.within) in
      let number_in : number < 2 ^ n = subst (λ k. number < 2 ^ k) size (content_below content) in
      let found : word_for march p n at content ≡ None =
      sym (ap (λ l. word_for march p n l (content_in n number)) here ∙ ap (word_for march p n at) (content_is n content size)) ∙ none n some few places places_in number number_in in
      none_through march p (spots_at n at) (seen n at content) ds is_march (sym (word_there march p at n content is fits) ∙ found) allowed

  next : (m : ℕ) → length p.states + 3 ≤ suc m → NoneThrough m → NoneThrough (suc m)
  next m more less at content ds fits size allowed =
      let each : length at ≡ length p.states = fits.each in
      let few : length p.states ≤ 3 = is.few_cells in
      let free : Spare (suc m) at = spare (suc m) at (omega arith) (omega arith) in
      let g : ℕ = free.g in
      let inside : g + 1 < suc m = free.within in
      let down = lowered at m g (omega arith) free.free free.idle in
      let rest : length (remove content g) + 1 ≡ length content = length-remove content g (omega arith) in
      same_run g (spots_at (suc m) at) (spots_at m (map (lower g) at)) down p march ds (seen (suc m) at content)
      ∙ ap (λ q. few_run (machine_of p) (order_at (spots_at m (map (lower g) at))) q march ds) (few_lowered (spots_at (suc m) at) (spots_at m (map (lower g) at)) content g (omega arith) down)
      ∙ less (map (lower g) at) (remove content g) ds (lowered_fits p at m g fits (omega arith) free.free) (omega arith) allowed

  everywhere : (n : ℕ) → 2 ≤ n → NoneThrough n
  everywhere zero some = absurd (omega arith)
  everywhere (suc m) some =
      let cells : p.actor < length p.states = is.actor_there in
      ⊎_elim
      (λ (few : suc m < length p.states + 3). small (suc m) some few)
      (λ (more : length p.states + 3 ≤ suc m). next m more (everywhere m (omega arith)))
      (cases_lt (suc m) (length p.states + 3))

  pub none_detects : Detects march p
  none_detects n some ds at content allowed fits size =
      caught_where p is at content (subst (FitsAt p at) (sym size) fits) march is_march ds
      (subst (λ (k : ℕ). few_run (machine_of p) (order_at (spots_at k at)) (seen k at content) march ds ≡ None) (sym size) (everywhere n some at content ds fits size allowed))
