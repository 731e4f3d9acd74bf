-- The cells of an instance in an array of any size do what they do alone, and every other cell is plain.
use Rattle.std.proofs.Common.{◌≡◌, ◌≢◌, ◌<◌, ◌-◌, ℕ, zero, suc, Bool, true, false, cond, eqb, Option, Some, None, List, [], ◌∷◌, length, replicate, get_or, refl, ap, sym, ◌∙◌, arith}
use Rattle.std.specs.Prelude.{slice_set}
use Rattle.std.proofs.lemmas.Bool.{eq-eqb, ne_eqb, eqb-true, eqb-false}
use Rattle.std.proofs.lemmas.List.{get_or-set_same, get_or-set_other}
use Rattle.fault_core.specs.declared.primitive.Act.{Act}
use Rattle.fault_core.specs.declared.primitive.Act.TheVariants.{Write, Read, Pause}
use Rattle.fault_core.specs.Primitive.{same_bit}
use Rattle.fault_core.specs.Cells.{cell, plain_cells, plain_answer, answer_or}
use Rattle.cell_machine.proofs.Projection.{length-set_if, length-plain_cells, cell-set_if_other, cell-plain_cells_other}
use Rattle.sequence_faults.specs.declared.few.Few.{Few}
use Rattle.sequence_faults.specs.declared.few.Spots.{Spots}
use Rattle.sequence_faults.specs.Primitive.{SequencePrimitive, victim_index, left_by}
use Rattle.sequence_faults.specs.Stepping.{Held, held_as, nothing, victim_at, actor_at, states_hold, done_by, begun, is_whole, set_where, seq_cells, kept_where, seq_step, seq_answer}
use Rattle.sequence_faults.specs.inner.Few.{three, few_as, few_of, held_of, seat_at, few_at}

-- the address of one of the cells
abbrev pub place : Spots → ℕ → ℕ
place s zero = s.a
place s (suc zero) = s.b
place s (suc (suc i)) = s.c

-- three different addresses
pub record Apart (s : Spots) : Type 0 where
  pub a_b : s.a ≢ s.b
  pub a_c : s.a ≢ s.c
  pub b_c : s.b ≢ s.c

same_place : (s : Spots) (i j : ℕ) → Apart s → i < 3 → j < 3 → eqb (place s i) (place s j) ≡ eqb i j
same_place s zero zero d h k = eq-eqb s.a s.a refl
same_place s zero (suc zero) d h k = ne_eqb s.a s.b d.a_b
same_place s zero (suc (suc zero)) d h k = ne_eqb s.a s.c d.a_c
same_place s (suc zero) zero d h k = ne_eqb s.b s.a (λ e. d.a_b (sym e))
same_place s (suc zero) (suc zero) d h k = eq-eqb s.b s.b refl
same_place s (suc zero) (suc (suc zero)) d h k = ne_eqb s.b s.c d.b_c
same_place s (suc (suc zero)) zero d h k = ne_eqb s.c s.a (λ e. d.a_c (sym e))
same_place s (suc (suc zero)) (suc zero) d h k = ne_eqb s.c s.b (λ e. d.b_c (sym e))
same_place s (suc (suc zero)) (suc (suc zero)) d h k = eq-eqb s.c s.c refl
same_place s (suc (suc (suc i))) j d h k = absurd (omega arith)
same_place s i (suc (suc (suc j))) d h k = absurd (omega arith)

-- the contents of the cells
abbrev pub three_in : Spots → List Bool → List Bool
three_in s cells = cell cells s.a ∷ cell cells s.b ∷ cell cells s.c ∷ []

cell_seen : (s : Spots) (cells : List Bool) (i : ℕ) → i < 3 → cell cells (place s i) ≡ cell (three_in s cells) i
cell_seen s cells zero h = refl
cell_seen s cells (suc zero) h = refl
cell_seen s cells (suc (suc zero)) h = refl
cell_seen s cells (suc (suc (suc i))) h = absurd (omega arith)

three_bits : (a b c d e f : Bool) → a ≡ d → b ≡ e → c ≡ f → ◌≡◌ {A = List Bool} (a ∷ b ∷ c ∷ []) (d ∷ e ∷ f ∷ [])
three_bits a b c d e f p q r = ap (λ x. x ∷ b ∷ c ∷ []) p ∙ ap (λ y. d ∷ y ∷ c ∷ []) q ∙ ap (λ z. d ∷ e ∷ z ∷ []) r

set_seen : (s : Spots) (i : ℕ) (cells : List Bool) (bit : Bool) → Apart s → i < 3 → place s i < length cells
    → three_in s (slice_set cells (place s i) bit) ≡ slice_set (three_in s cells) i bit
set_seen s zero cells bit d h w =
    three_bits _ _ _ _ _ _ (get_or-set_same cells s.a bit false w) (get_or-set_other cells s.a s.b bit false (λ e. d.a_b (sym e))) (get_or-set_other cells s.a s.c bit false (λ e. d.a_c (sym e)))
set_seen s (suc zero) cells bit d h w =
    three_bits _ _ _ _ _ _ (get_or-set_other cells s.b s.a bit false d.a_b) (get_or-set_same cells s.b bit false w) (get_or-set_other cells s.b s.c bit false (λ e. d.b_c (sym e)))
set_seen s (suc (suc zero)) cells bit d h w =
    three_bits _ _ _ _ _ _ (get_or-set_other cells s.c s.a bit false d.a_c) (get_or-set_other cells s.c s.b bit false d.b_c) (get_or-set_same cells s.c bit false w)
set_seen s (suc (suc (suc i))) cells bit d h w = absurd (omega arith)

plain_seen : (s : Spots) (i : ℕ) (cells : List Bool) (act : Act) → Apart s → i < 3 → place s i < length cells
    → three_in s (plain_cells cells (place s i) act) ≡ plain_cells (three_in s cells) i act
plain_seen s i cells (Write bit) d h w = set_seen s i cells bit d h w
plain_seen s i cells Read d h w = refl
plain_seen s i cells Pause d h w = refl

plain_told : (s : Spots) (i : ℕ) (cells : List Bool) (act : Act) → i < 3 → plain_answer cells (place s i) act ≡ plain_answer (three_in s cells) i act
plain_told s i cells (Write bit) h = refl
plain_told s i cells Read h = ap Some (cell_seen s cells i h)
plain_told s i cells Pause h = refl

-- an instance at these addresses of an array of so many cells, seen at three of them
pub record About (p : SequencePrimitive) (at : List ℕ) (s : Spots) : Type 0 where
  pub apart : Apart s
  pub holds : (cells : List Bool) → states_hold p.states at cells ≡ states_hold p.states three (three_in s cells)
  pub actor : actor_at p at ≡ place s p.actor
  pub victim : victim_at p at ≡ place s (victim_index p)
  pub actor_within : p.actor < 3
  pub victim_within : victim_index p < 3
  pub victim_below : victim_at p at < s.size

own_index : (i : ℕ) → i < 3 → get_or three i 0 ≡ i
own_index zero h = refl
own_index (suc zero) h = refl
own_index (suc (suc zero)) h = refl
own_index (suc (suc (suc i))) h = absurd (omega arith)

none_done : (n i : ℕ) → get_or (replicate n false) i false ≡ false
none_done zero i = refl
none_done (suc n) zero = refl
none_done (suc n) (suc i) = none_done n i

nothing_kept : (b : Bool) → kept_where b nothing ≡ nothing
nothing_kept true = refl
nothing_kept false = refl

pub length-seq_cells : (p : SequencePrimitive) (at : List ℕ) (h : Held) (x : ℕ) (act : Act) → length (seq_cells p at h x act) ≡ length h.cells
unfolding seq_cells
length-seq_cells p at h x act =
    length-set_if (is_whole p (begun p at h x act)) (plain_cells h.cells x act) (victim_at p at) p.after ∙ length-plain_cells h.cells x act

-- the cells but the victim and the one acted on stay
pub seq_leaves : (p : SequencePrimitive) (at : List ℕ) (h : Held) (x : ℕ) (act : Act) (y : ℕ) → y ≢ x → y ≢ victim_at p at → cell (seq_cells p at h x act) y ≡ cell h.cells y
unfolding seq_cells
seq_leaves p at h x act y yx yv =
    cell-set_if_other (is_whole p (begun p at h x act)) (plain_cells h.cells x act) (victim_at p at) y p.after yv ∙ cell-plain_cells_other h.cells x act y yx

module _ (p : SequencePrimitive) (at : List ℕ) (s : Spots) (ab : About p at s) (h : Held) (act : Act) where
  abbrev small : Held
  small = held_of (few_at s h)

  -- ---- an act on one of the cells
  module _ (i : ℕ) (within : i < 3) where
    begun_seen : begun p at h (place s i) act ≡ begun p three small i act
    begun_seen =
        let from : Bool → List Bool = λ b. done_by act b p.acts h.done in
        ap (λ x. cond (eqb x (place s i)) (from (states_hold p.states at h.cells)) nothing) ab.actor
        ∙ ap (λ b. cond b (from (states_hold p.states at h.cells)) nothing) (same_place s p.actor i ab.apart ab.actor_within within)
        ∙ ap (λ b. cond (eqb p.actor i) (from b) nothing) (ab.holds h.cells)
        ∙ ap (λ x. cond (eqb x i) (from (states_hold p.states three (three_in s h.cells))) nothing) (sym (own_index p.actor ab.actor_within))

    module _ (size : length h.cells ≡ s.size) (below : place s i < s.size) where
      set_where_seen : (hit : Bool) (cells : List Bool) → length cells ≡ s.size → three_in s (set_where hit cells (victim_at p at) p.after) ≡ set_where hit (three_in s cells) (victim_at p three) p.after
      set_where_seen false cells e = refl
      set_where_seen true cells e =
          let there : victim_at p at < s.size = ab.victim_below in
          let is : victim_at p at ≡ place s (victim_index p) = ab.victim in
          ap (λ v. three_in s (slice_set cells v p.after)) is ∙ set_seen s (victim_index p) cells p.after ab.apart ab.victim_within (omega arith)
          ∙ ap (λ v. slice_set (three_in s cells) v p.after) (sym (own_index (victim_index p) ab.victim_within))

      cells_seen : three_in s (seq_cells p at h (place s i) act) ≡ seq_cells p three small i act
      unfolding seq_cells
      cells_seen =
          ap (λ d. three_in s (set_where (is_whole p d) (plain_cells h.cells (place s i) act) (victim_at p at) p.after)) begun_seen
          ∙ set_where_seen (is_whole p (begun p three small i act)) (plain_cells h.cells (place s i) act) (length-plain_cells h.cells (place s i) act ∙ size)
          ∙ ap (λ l. set_where (is_whole p (begun p three small i act)) l (victim_at p three) p.after) (plain_seen s i h.cells act ab.apart within (omega arith))

      abbrev few_from : List Bool → List Bool → Few
      few_from cells done = few_as (cell cells 0) (cell cells 1) (cell cells 2) done

      pub step_seen : few_at s (seq_step p at h (place s i) act) ≡ few_of (seq_step p three small i act)
      unfolding seq_step
      step_seen =
          let big : List Bool = seq_cells p at h (place s i) act in
          let left : Bool = left_by (cell h.cells (place s i)) act in
          let kept : Bool → Bool → List Bool → List Bool = λ bit left d. kept_where (same_bit bit left) d in
          ap (λ l. few_from l (kept (cell big (place s i)) left (begun p at h (place s i) act))) cells_seen
          ∙ ap (λ b. few_from (seq_cells p three small i act) (kept b left (begun p at h (place s i) act))) (cell_seen s big i within ∙ ap (λ l. cell l i) cells_seen)
          ∙ ap (λ b. few_from (seq_cells p three small i act) (kept (cell (seq_cells p three small i act) i) (left_by b act) (begun p at h (place s i) act))) (cell_seen s h.cells i within)
          ∙ ap (λ d. few_from (seq_cells p three small i act) (kept (cell (seq_cells p three small i act) i) (left_by (cell (three_in s h.cells) i) act) d)) begun_seen

    pub answer_seen : seq_answer p at h (place s i) act ≡ seq_answer p three small i act
    unfolding seq_answer
    answer_seen =
        let told : List Bool → Option Bool → Option Bool = λ d plain. cond (is_whole p d) (answer_or p.answer plain) plain in
        ap (λ d. told d (plain_answer h.cells (place s i) act)) begun_seen ∙ ap (told (begun p three small i act)) (plain_told s i h.cells act within)

  -- ---- an act on another cell
  module _ (x : ℕ) (off : (i : ℕ) → place s i ≢ x) where
    none_begun : begun p at h x act ≡ nothing
    none_begun =
        let from : List Bool = done_by act (states_hold p.states at h.cells) p.acts h.done in
        ap (λ y. cond (eqb y x) from nothing) ab.actor ∙ ap (λ b. cond b from nothing) (ne_eqb (place s p.actor) x (off p.actor))

    not_whole : is_whole p (begun p at h x act) ≡ false
    not_whole = ap (is_whole p) none_begun ∙ none_done 16 (length p.acts - 1)

    pub other_cells : seq_cells p at h x act ≡ plain_cells h.cells x act
    unfolding seq_cells
    other_cells = ap (λ b. set_where b (plain_cells h.cells x act) (victim_at p at) p.after) not_whole

    pub other_step : seq_step p at h x act ≡ held_as (plain_cells h.cells x act) nothing
    unfolding seq_step
    other_step =
        let plain : Bool = same_bit (cell (seq_cells p at h x act) x) (left_by (cell h.cells x) act) in
        ap (λ l. held_as l (kept_where plain (begun p at h x act))) other_cells
        ∙ ap (held_as (plain_cells h.cells x act)) (ap (kept_where plain) none_begun ∙ nothing_kept plain)

    pub other_answer : seq_answer p at h x act ≡ plain_answer h.cells x act
    unfolding seq_answer
    other_answer = ap (λ b. cond b (answer_or p.answer (plain_answer h.cells x act)) (plain_answer h.cells x act)) not_whole

-- ---- which of the cells an address is

pub record IsSeat (s : Spots) (x i : ℕ) : Type 0 where
  pub is : x ≡ place s i
  pub within : i < 3

pub record IsElsewhere (s : Spots) (x : ℕ) : Type 0 where
  pub not_a : x ≢ s.a
  pub not_b : x ≢ s.b
  pub not_c : x ≢ s.c

abbrev pub Says : Spots → ℕ → Option ℕ → Type 0
Says s x None = IsElsewhere s x
Says s x (Some i) = IsSeat s x i

pub says : (s : Spots) (x : ℕ) → Says s x (seat_at s x)
says s x = go (eqb x s.a) (eqb x s.b) (eqb x s.c) refl refl refl
  where
    go : (p q r : Bool) → eqb x s.a ≡ p → eqb x s.b ≡ q → eqb x s.c ≡ r → Says s x (cond p (Some 0) (cond q (Some 1) (cond r (Some 2) None)))
    go true q r e f g = record { is = eqb-true x s.a e; within = omega arith }
    go false true r e f g = record { is = eqb-true x s.b f; within = omega arith }
    go false false true e f g = record { is = eqb-true x s.c g; within = omega arith }
    go false false false e f g = record { not_a = eqb-false x s.a e; not_b = eqb-false x s.b f; not_c = eqb-false x s.c g }

pub elsewhere : (s : Spots) (x i : ℕ) → IsElsewhere s x → place s i ≢ x
elsewhere s x zero out e = out.not_a (sym e)
elsewhere s x (suc zero) out e = out.not_b (sym e)
elsewhere s x (suc (suc i)) out e = out.not_c (sym e)
