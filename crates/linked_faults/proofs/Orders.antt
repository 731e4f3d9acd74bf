-- Two linked primitives are one device in either order, and a list has each device once in one way.
use Rattle.std.proofs.Common.{◌≡◌, ◌≢◌, ◌&&◌, inl, inr, ℕ, Bool, true, false, Option, Some, None, List, [], ◌∷◌, ◌++◌, length, refl, ap, sym, subst, ◌∙◌}
use Rattle.std.specs.Prelude.{if◌then◌else◌, slice_set}
use Rattle.std.proofs.Math.Path.{ap₂, fun_ext}
use Rattle.std.proofs.lemmas.Bool.{and_parts}
use Rattle.fault_core.specs.declared.primitive.Act.{Act}
use Rattle.fault_core.specs.declared.primitive.Sense.{Sense}
use Rattle.fault_core.specs.declared.primitive.Act.TheVariants.{Write, Read, Pause}
use Rattle.fault_core.specs.declared.cells.Places.{Places}
use Rattle.fault_core.specs.Primitive.{is_pause, is_retention, same_bit}
use Rattle.fault_core.specs.Cells.{cell, agg_holds, acts, states_hold, plain_cells, plain_answer, answer_or}
use Rattle.fault_core.proofs.Tests.{same_bit-equal}
use Rattle.march_core.specs.March.{MarchElement}
use Rattle.march_core.specs.Operation.{is_wrong_of}
use Rattle.march_core.specs.Visits.{Visit, MarchStep, pausing, visiting, Direction, visits}
use Rattle.array_sim.specs.Run.{act_of}
use Rattle.array_sim.specs.Differing.{SomeDiffersBy}
use Rattle.linked_faults.specs.declared.link.Link.{Link}
use Rattle.linked_faults.specs.declared.link.LinkPlaces.{LinkPlaces}
use Rattle.linked_faults.specs.Linking.{IsLinked, FitsLinkPlaces, good_after, beside, first_places, second_places, linked_cells, linked_answer, linked_pause}
use Rattle.linked_faults.specs.Detection.{cells_behind, is_wrong_there, IsCaught}
use Rattle.linked_faults.specs.Alone.{loses}
use Rattle.linked_faults.specs.Devices.{exchanged, AreOnce, AreDevices, turned_by, turned, AreOneDevice}
use Rattle.linked_faults.proofs.Both.{never_both}

-- ---- the places of the exchanged link

first_at : (s : Bool) (agg : Option Sense) (at : LinkPlaces) → beside agg (turned_by s at).a ≡ beside agg (if s then at.a else at.b)
first_at true agg at = refl
first_at false agg at = refl

second_at : (s : Bool) (agg : Option Sense) (at : LinkPlaces) → beside agg (if s then (turned_by s at).a else (turned_by s at).b) ≡ beside agg at.a
second_at true agg at = refl
second_at false agg at = refl

vic_at : (s : Bool) (at : LinkPlaces) → (turned_by s at).v ≡ at.v
vic_at true at = refl
vic_at false at = refl

places_at : Option ℕ → ℕ → Places
places_at agg vic = record { agg = agg; vic = vic }

-- the one of two that is so, whichever is asked first
either : {A : Type 0} (s t : Bool) (x y z : A) → (s ≡ true → t ≡ true → ⊥) → (if t then y else if s then x else z) ≡ (if s then x else if t then y else z)
either true true x y z never = absurd (never refl refl)
either true false x y z never = refl
either false true x y z never = refl
either false false x y z never = refl

pauses : (o : Option Act) → is_pause o ≡ true → o ≡ Some Pause
pauses None h = cc
pauses (Some Read) h = cc
pauses (Some (Write b)) h = cc
pauses (Some Pause) h = refl

module _ (link : Link) (is : IsLinked link) (at : LinkPlaces) where
  abbrev other_at : LinkPlaces
  other_at = turned link at

  first_is : first_places (exchanged link) other_at ≡ second_places link at
  first_is = ap₂ (λ (p : Option ℕ) (v : ℕ). record { agg = p; vic = v }) (first_at link.is_shared link.second.agg at) (vic_at link.is_shared at)

  second_is : second_places (exchanged link) other_at ≡ first_places link at
  second_is = ap₂ (λ (p : Option ℕ) (v : ℕ). record { agg = p; vic = v }) (second_at link.is_shared link.first.agg at) (vic_at link.is_shared at)

  one_at_most : at.a ≢ at.v → at.b ≢ at.v → (cells : List Bool) (x : ℕ) (act : Act) → acts link.first (first_places link at) cells x act ≡ true
      → acts link.second (second_places link at) cells x act ≡ true → ⊥
  one_at_most av bv cells x act = never_both link is at cells x act av bv

  same_cells : at.a ≢ at.v → at.b ≢ at.v → (cells : List Bool) (x : ℕ) (act : Act) → linked_cells (exchanged link) other_at cells x act ≡ linked_cells link at cells x act
  unfolding linked_cells
  same_cells av bv cells x act =
      let plain : List Bool = plain_cells cells x act in
      let s : Bool = acts link.first (first_places link at) cells x act in
      let t : Bool = acts link.second (second_places link at) cells x act in
      (λ j. if acts link.second (first_is j) cells x act then slice_set plain (vic_at link.is_shared at j) link.second.after
      else if acts link.first (second_is j) cells x act then slice_set plain (vic_at link.is_shared at j) link.first.after else plain)
      ∙ either s t (slice_set plain at.v link.first.after) (slice_set plain at.v link.second.after) plain (one_at_most av bv cells x act)

  same_answers : at.a ≢ at.v → at.b ≢ at.v → (cells : List Bool) (x : ℕ) (act : Act) → linked_answer (exchanged link) other_at cells x act ≡ linked_answer link at cells x act
  unfolding linked_answer
  same_answers av bv cells x act =
      let plain : Option Bool = plain_answer cells x act in
      let s : Bool = acts link.first (first_places link at) cells x act in
      let t : Bool = acts link.second (second_places link at) cells x act in
      (λ j. if acts link.second (first_is j) cells x act then answer_or link.second.answer plain
      else if acts link.first (second_is j) cells x act then answer_or link.first.answer plain else plain)
      ∙ either s t (answer_or link.first.answer plain) (answer_or link.second.answer plain) plain (one_at_most av bv cells x act)

  -- where both lose their state, the victim holds two bits
  never_lose : (cells : List Bool) → loses link.first (first_places link at) cells ≡ true → loses link.second (second_places link at) cells ≡ true → ⊥
  never_lose cells h k =
      let one = and_parts (is_retention link.first) (states_hold link.first (first_places link at) cells) h in
      let two = and_parts (is_retention link.second) (states_hold link.second (second_places link at) cells) k in
      let own : cell cells at.v ≡ link.first.vic.state =
      same_bit-equal _ _ (and_parts (same_bit (cell cells at.v) link.first.vic.state) (agg_holds link.first.agg (first_places link at).agg cells) one.1).0 in
      let its : cell cells at.v ≡ link.second.vic.state =
      same_bit-equal _ _ (and_parts (same_bit (cell cells at.v) link.second.vic.state) (agg_holds link.second.agg (second_places link at).agg cells) two.1).0 in
      is.wrong (sym is.finds ∙ sym its ∙ own ∙ sym (ap (λ o. good_after o link.first.vic.state) (pauses link.first.vic.act one.0)))

  same_pauses : (cells : List Bool) → linked_pause (exchanged link) other_at cells ≡ linked_pause link at cells
  unfolding linked_pause
  same_pauses cells =
      let s : Bool = loses link.first (first_places link at) cells in
      let t : Bool = loses link.second (second_places link at) cells in
      (λ j. if is_retention link.second && states_hold link.second (first_is j) cells then slice_set cells (vic_at link.is_shared at j) link.second.after
      else if is_retention link.first && states_hold link.first (second_is j) cells then slice_set cells (vic_at link.is_shared at j) link.first.after else cells)
      ∙ either s t (slice_set cells at.v link.first.after) (slice_set cells at.v link.second.after) cells (never_lose cells)

  -- ---- runs

  same_behind : at.a ≢ at.v → at.b ≢ at.v → (cells : List Bool) (step : MarchStep) → cells_behind (exchanged link) other_at cells step ≡ cells_behind link at cells step
  same_behind av bv cells (pausing element) = same_pauses cells
  same_behind av bv cells (visiting v) = same_cells av bv cells v.address (act_of v.op)

  same_wrong : at.a ≢ at.v → at.b ≢ at.v → (cells : List Bool) (v : Visit) → is_wrong_there (exchanged link) other_at cells v ≡ is_wrong_there link at cells v
  same_wrong av bv cells v = ap (is_wrong_of v.op) (same_answers av bv cells v.address (act_of v.op))

  same_caught : at.a ≢ at.v → at.b ≢ at.v → (march : List MarchElement) (ds : List Direction) (content : List Bool)
      → IsCaught march ds (exchanged link) other_at content ≡ IsCaught march ds link at content
  same_caught av bv march ds content =
      ap₂ (λ (f : List Bool → MarchStep → List Bool) (w : List Bool → Visit → Bool). SomeDiffersBy f w content (visits march ds (length content)))
      (fun_ext (λ cells. fun_ext (λ step. same_behind av bv cells step))) (fun_ext (λ cells. fun_ext (λ v. same_wrong av bv cells v)))

-- ---- verdicts

turned_fits : (s : Bool) (at : LinkPlaces) (size : ℕ) → FitsLinkPlaces at size → FitsLinkPlaces (turned_by s at) size
turned_fits true at size fits = fits
turned_fits false at size fits = record {
  a_within = fits.b_within;
  b_within = fits.a_within;
  v_within = fits.v_within;
  a_v = fits.b_v;
  b_v = fits.a_v;
  a_b = λ e. fits.a_b (sym e);
}

turned_twice : (s : Bool) (at : LinkPlaces) → turned_by s (turned_by s at) ≡ at
turned_twice true at = refl
turned_twice false at = refl

pub one_device : (link : Link) → IsLinked link → AreOneDevice link
one_device link is = record {
  cells = λ at cells x act av bv. same_cells link is at av bv cells x act;
  answers = λ at cells x act av bv. same_answers link is at av bv cells x act;
  pauses = λ at cells. same_pauses link is at cells;
  verdicts = λ march. (
    λ detects size more directions at content allowed fits len.
        subst (λ (T : Type 0). T) (same_caught link is at fits.a_v fits.b_v march directions content)
        (detects size more directions (turned link at) content allowed (turned_fits link.is_shared at size fits) len),
    λ detects size more directions at content allowed fits len.
        let there : FitsLinkPlaces (turned link at) size = turned_fits link.is_shared at size fits in
        subst (λ (s : LinkPlaces). IsCaught march directions (exchanged link) s content) (turned_twice link.is_shared at)
        (subst (λ (T : Type 0). T) (sym (same_caught link is (turned link at) there.a_v there.b_v march directions content))
        (detects size more directions (turned link at) content allowed there len)),
  );
}

-- ---- each device once

once_one : (before links chosen other : List Link) → AreOnce before links chosen → AreOnce before links other → chosen ≡ other
once_one before [] chosen other h k = h ∙ sym k
once_one before (x ∷ xs) chosen other (inl (p, rest, h, is)) (inl (q, more, k, it)) = is ∙ ap (λ l. x ∷ l) (once_one (before ++ x ∷ []) xs rest more h k) ∙ sym it
once_one before (x ∷ xs) chosen other (inl (p, rest, h, is)) (inr (q, k)) = absurd (p q)
once_one before (x ∷ xs) chosen other (inr (p, h)) (inl (q, more, k, it)) = absurd (q p)
once_one before (x ∷ xs) chosen other (inr (p, h)) (inr (q, k)) = once_one (before ++ x ∷ []) xs chosen other h k

pub devices_one : (links chosen other : List Link) → AreDevices links chosen → AreDevices links other → chosen ≡ other
unfolding AreDevices
devices_one links chosen other h k = once_one [] links chosen other h k
