-- Linked primitives that need two cells are caught in an array of two where they are caught in one of three: the third cell makes no difference.
use Rattle.std.proofs.Common.{◌≡◌, ◌≢◌, ◌<◌, ◌≤◌, ℕ, zero, suc, Bool, true, false, eqb, ◌&&◌, ◌||◌, Option, Some, None, List, [], ◌∷◌, ◌++◌, length, map, refl, ap, sym, ◌∙◌, arith}
use Rattle.std.specs.Prelude.{if◌then◌else◌, slice_set}
use Rattle.std.proofs.lemmas.Bool.{ne_eqb}
use Rattle.fault_core.specs.declared.primitive.Act.{Act}
use Rattle.fault_core.specs.declared.primitive.Act.TheVariants.{Write, Read, Pause}
use Rattle.fault_core.specs.declared.primitive.Sense.{Sense}
use Rattle.fault_core.specs.declared.cells.Places.{Places}
use Rattle.fault_core.specs.Primitive.{Primitive, same_bit, is_retention}
use Rattle.fault_core.specs.Cells.{cell, agg_holds, states_hold, has_this_act, agg_acts, acts, plain_cells, plain_answer, answer_or, FitsAgg, FitsPlace}
use Rattle.march_core.specs.declared.operation.Op.{Op}
use Rattle.march_core.specs.March.{MarchElement, IsMarch}
use Rattle.march_core.specs.Operation.{is_wrong_of}
use Rattle.march_core.specs.Visits.{MarchStep, pausing, visiting, Direction, addresses, visits}
use Rattle.array_sim.specs.Run.{act_of}
use Rattle.array_sim.specs.Differing.{SomeDiffersBy}
use Rattle.pair_tracker.specs.Few.{Machine, Order, cells_run, few_run}
use Rattle.pair_tracker.proofs.Few.{Sees, march_passes, march_caught}
use Rattle.pair_tracker.proofs.Tags.{Own, Stand, kept_does, addresses_kept, turned}
use Rattle.linked_faults.specs.declared.link.Link.{Link}
use Rattle.linked_faults.specs.declared.link.LinkPlaces.{LinkPlaces}
use Rattle.linked_faults.specs.Linking.{first_places, second_places, linked_cells, linked_answer, linked_pause}
use Rattle.linked_faults.specs.Detection.{cells_behind, is_wrong_there}
use Rattle.linked_faults.proofs.Seen.{length-linked, length-linked_pause, linked_leaves, pause_leaves}

-- ---- the first two cells

front : List Bool → List Bool
front [] = []
front (a ∷ []) = a ∷ []
front (a ∷ b ∷ more) = a ∷ b ∷ []

front_cell : (c : List Bool) (k : ℕ) → k < 2 → cell (front c) k ≡ cell c k
unfolding front
front_cell [] k low = refl
front_cell (a ∷ []) k low = refl
front_cell (a ∷ b ∷ more) zero low = refl
front_cell (a ∷ b ∷ more) (suc zero) low = refl
front_cell (a ∷ b ∷ more) (suc (suc k)) low = absurd (omega arith)

front_set : (c : List Bool) (k : ℕ) (bit : Bool) → k < 2 → front (slice_set c k bit) ≡ slice_set (front c) k bit
unfolding front
front_set [] k bit low = refl
front_set (a ∷ []) zero bit low = refl
front_set (a ∷ []) (suc k) bit low = refl
front_set (a ∷ b ∷ more) zero bit low = refl
front_set (a ∷ b ∷ more) (suc zero) bit low = refl
front_set (a ∷ b ∷ more) (suc (suc k)) bit low = absurd (omega arith)

front_out : (c : List Bool) (k : ℕ) (bit : Bool) → 2 ≤ k → front (slice_set c k bit) ≡ front c
unfolding front
front_out c zero bit high = absurd (omega arith)
front_out c (suc zero) bit high = absurd (omega arith)
front_out [] (suc (suc k)) bit high = refl
front_out (a ∷ []) (suc (suc k)) bit high = refl
front_out (a ∷ b ∷ more) (suc (suc k)) bit high = refl

front_with : (c : List Bool) → length c ≡ 2 → front (c ++ false ∷ []) ≡ c
unfolding front
front_with [] two = cc
front_with (a ∷ []) two = cc
front_with (a ∷ b ∷ []) two = refl
front_with (a ∷ b ∷ d ∷ more) two = absurd (omega arith)

abbrev tag : ℕ → Option ℕ
tag zero = Some 0
tag (suc zero) = Some 1
tag (suc (suc k)) = None

tag_is : (x i : ℕ) → tag x ≡ Some i → (x ≡ i) × (x < 2)
tag_is zero i e = (cc, omega arith)
tag_is (suc zero) i e = (cc, omega arith)
tag_is (suc (suc x)) i e = cc

no_tag : (x : ℕ) → tag x ≡ None → 2 ≤ x
no_tag zero e = cc
no_tag (suc zero) e = cc
no_tag (suc (suc x)) e = omega arith

abbrev owns : List (Own ℕ)
owns = (record { place = 0; name = 0 }) ∷ (record { place = 1; name = 1 }) ∷ []

abbrev order : Order ℕ
order d = turned d (Some 0 ∷ Some 1 ∷ [])

tag_out : (x : ℕ) → 2 ≤ x → tag x ≡ None
tag_out zero high = absurd (omega arith)
tag_out (suc zero) high = absurd (omega arith)
tag_out (suc (suc x)) high = refl

stand : (n : ℕ) → 2 ≤ n → Stand tag 0 n owns
stand n more = (
  omega arith,
  omega arith,
  λ x low high. absurd (omega arith),
  refl,
  (omega arith, omega arith, λ x low high. absurd (omega arith), refl, λ x low high. tag_out x (omega arith)),
)

front_if : (a b : Bool) (xs ys cs ds : List Bool) → a ≡ b → front xs ≡ cs → front ys ≡ ds → front (if a then xs else ys) ≡ (if b then cs else ds)
front_if true true xs ys cs ds e f g = f
front_if true false xs ys cs ds e f g = cc
front_if false true xs ys cs ds e f g = cc
front_if false false xs ys cs ds e f g = g

-- ---- one primitive

module _ (p : Primitive) (at : Places) (fits : FitsPlace p at 2) where
  holds_front : (c : List Bool) → states_hold p at (front c) ≡ states_hold p at c
  holds_front c =
      ap (λ b. same_bit b p.vic.state && agg_holds p.agg at.agg (front c)) (front_cell c at.vic fits.victim)
      ∙ ap (λ b. same_bit (cell c at.vic) p.vic.state && b) (go p.agg at.agg fits.aggressor)
    where
      go : (agg : Option Sense) (place : Option ℕ) → FitsAgg agg place at.vic 2 → agg_holds agg place (front c) ≡ agg_holds agg place c
      go None None h = refl
      go None (Some a) h = absurd h
      go (Some sense) None h = absurd h
      go (Some sense) (Some a) h = ap (λ b. same_bit b sense.state) (front_cell c a h.0)

  acts_front : (c : List Bool) (x : ℕ) (act : Act) → acts p at c x act ≡ acts p at (front c) x act
  unfolding acts
  acts_front c x act = ap (λ b. (((eqb at.vic x) && has_this_act p.vic.act act) || agg_acts p.agg at.agg x act) && b) (sym (holds_front c))

  acts_out : (c : List Bool) (x : ℕ) (act : Act) → 2 ≤ x → acts p at c x act ≡ false
  unfolding acts
  acts_out c x act high =
      let victim = fits.victim in
      let off : at.vic ≢ x = omega (arith, victim, high) in
      ap (λ b. ((b && has_this_act p.vic.act act) || agg_acts p.agg at.agg x act) && states_hold p at c) (ne_eqb at.vic x off)
      ∙ ap (λ b. b && states_hold p at c) (go p.agg at.agg fits.aggressor)
    where
      go : (agg : Option Sense) (place : Option ℕ) → FitsAgg agg place at.vic 2 → agg_acts agg place x act ≡ false
      go None None h = refl
      go None (Some a) h = absurd h
      go (Some sense) None h = absurd h
      go (Some sense) (Some a) h = let low = h.0 in let off : a ≢ x = omega (arith, low, high) in ap (λ b. b && has_this_act sense.act act) (ne_eqb a x off)

-- ---- the two

module _ (link : Link) (s : LinkPlaces) (one : FitsPlace link.first (first_places link s) 2) (other : FitsPlace link.second (second_places link s) 2) where
  abbrev machine : Machine (List Bool) ℕ
  machine = record {
    step = λ q i act. linked_cells link s q i act;
    answer = λ q i act. linked_answer link s q i act;
    other = λ q. q;
    pause = λ q. linked_pause link s q;
  }

  pause_front : (c : List Bool) → front (linked_pause link s c) ≡ linked_pause link s (front c)
  unfolding linked_pause
  pause_front c =
      front_if (is_retention link.first && states_hold link.first (first_places link s) c) (is_retention link.first && states_hold link.first (first_places link s) (front c))
      (slice_set c s.v link.first.after) (if is_retention link.second && states_hold link.second (second_places link s) c then slice_set c s.v link.second.after else c)
      (slice_set (front c) s.v link.first.after)
      (if is_retention link.second && states_hold link.second (second_places link s) (front c) then slice_set (front c) s.v link.second.after else front c)
      (ap (λ b. is_retention link.first && b) (sym (holds_front link.first (first_places link s) one c))) (front_set c s.v link.first.after one.victim)
      (front_if (is_retention link.second && states_hold link.second (second_places link s) c) (is_retention link.second && states_hold link.second (second_places link s) (front c))
      (slice_set c s.v link.second.after) c (slice_set (front c) s.v link.second.after) (front c)
      (ap (λ b. is_retention link.second && b) (sym (holds_front link.second (second_places link s) other c))) (front_set c s.v link.second.after one.victim) refl)

  plain_front : (c : List Bool) (x : ℕ) (act : Act) → x < 2 → front (plain_cells c x act) ≡ plain_cells (front c) x act
  plain_front c x (Write bit) low = front_set c x bit low
  plain_front c x Read low = refl
  plain_front c x Pause low = refl

  cells_front : (c : List Bool) (x : ℕ) (act : Act) → x < 2 → front (linked_cells link s c x act) ≡ linked_cells link s (front c) x act
  unfolding linked_cells
  cells_front c x act low =
      let plain = plain_cells c x act in
      let small = plain_cells (front c) x act in
      let set : (bit : Bool) → front (slice_set plain s.v bit) ≡ slice_set small s.v bit =
      λ bit. front_set plain s.v bit one.victim ∙ ap (λ l. slice_set l s.v bit) (plain_front c x act low) in
      front_if (acts link.first (first_places link s) c x act) (acts link.first (first_places link s) (front c) x act)
      (slice_set plain s.v link.first.after) (if acts link.second (second_places link s) c x act then slice_set plain s.v link.second.after else plain)
      (slice_set small s.v link.first.after) (if acts link.second (second_places link s) (front c) x act then slice_set small s.v link.second.after else small)
      (acts_front link.first (first_places link s) one c x act) (set link.first.after)
      (front_if (acts link.second (second_places link s) c x act) (acts link.second (second_places link s) (front c) x act)
      (slice_set plain s.v link.second.after) plain (slice_set small s.v link.second.after) small
      (acts_front link.second (second_places link s) other c x act) (set link.second.after) (plain_front c x act low))

  cells_out : (c : List Bool) (x : ℕ) (act : Act) → 2 ≤ x → linked_cells link s c x act ≡ plain_cells c x act
  unfolding linked_cells
  cells_out c x act high =
      let plain = plain_cells c x act in
      ap (λ (b : Bool). if b then slice_set plain s.v link.first.after else if acts link.second (second_places link s) c x act then slice_set plain s.v link.second.after else plain)
      (acts_out link.first (first_places link s) one c x act high)
      ∙ ap (λ (b : Bool). if b then slice_set plain s.v link.second.after else plain) (acts_out link.second (second_places link s) other c x act high)

  answer_front : (c : List Bool) (x : ℕ) (act : Act) → x < 2 → linked_answer link s c x act ≡ linked_answer link s (front c) x act
  unfolding linked_answer
  answer_front c x act low =
      let told = plain_answer c x act in
      ap (λ (b : Bool). if b then answer_or link.first.answer told else if acts link.second (second_places link s) c x act then answer_or link.second.answer told else told)
      (acts_front link.first (first_places link s) one c x act)
      ∙ ap (λ (b : Bool). if acts link.first (first_places link s) (front c) x act then answer_or link.first.answer told else if b then answer_or link.second.answer told else told)
      (acts_front link.second (second_places link s) other c x act)
      ∙ ap (λ (u : Option Bool). if acts link.first (first_places link s) (front c) x act then answer_or link.first.answer u
      else if acts link.second (second_places link s) (front c) x act then answer_or link.second.answer u else u) (plain act)
    where
      plain : (act : Act) → plain_answer c x act ≡ plain_answer (front c) x act
      plain (Write bit) = refl
      plain Read = ap Some (sym (front_cell c x low))
      plain Pause = refl

  answer_out : (c : List Bool) (x : ℕ) (act : Act) → 2 ≤ x → linked_answer link s c x act ≡ plain_answer c x act
  unfolding linked_answer
  answer_out c x act high =
      let told = plain_answer c x act in
      ap (λ (b : Bool). if b then answer_or link.first.answer told else if acts link.second (second_places link s) c x act then answer_or link.second.answer told else told)
      (acts_out link.first (first_places link s) one c x act high)
      ∙ ap (λ (b : Bool). if b then answer_or link.second.answer told else told) (acts_out link.second (second_places link s) other c x act high)

  plain_out : (c : List Bool) (x : ℕ) (act : Act) → 2 ≤ x → front (plain_cells c x act) ≡ front c
  plain_out c x (Write bit) high = front_out c x bit high
  plain_out c x Read high = refl
  plain_out c x Pause high = refl

  sized : (n : ℕ) (c : List Bool) (step : MarchStep) → length c ≡ n → length (cells_behind link s c step) ≡ n
  sized n c (pausing e) size = length-linked_pause link s c ∙ size
  sized n c (visiting v) size = length-linked link s c v.address (act_of v.op) ∙ size

  -- an array of three, seen from the first two
  big_sees : Sees (cells_behind link s) (is_wrong_there link s) (λ c. c) front tag 3 machine (λ c. length c ≡ 3) (Unit {0})
  big_sees = record {
    size = λ strict c h. h;
    holds = λ c step h. sized 3 c step h;
    own_wrong = λ c v i e within h.
        let is = tag_is v.address i e in
        ap (is_wrong_of v.op) (answer_front c v.address (act_of v.op) is.1 ∙ ap (λ x. linked_answer link s (front c) x (act_of v.op)) is.0);
    own_seen = λ c v i e within h.
        let is = tag_is v.address i e in
        cells_front c v.address (act_of v.op) is.1 ∙ ap (λ x. linked_cells link s (front c) x (act_of v.op)) is.0;
    own_leaves = λ strict c v i y e out h.
        let low = (tag_is v.address i e).1 in
        let high = no_tag y out in
        let victim = one.victim in
        linked_leaves link s c v.address (act_of v.op) y (omega (arith, victim, high)) (omega (arith, low, high));
    other_wrong = λ strict c v out within h. ap (is_wrong_of v.op) (answer_out c v.address (act_of v.op) (no_tag v.address out));
    other_seen = λ c v out within h.
        let high = no_tag v.address out in ap front (cells_out c v.address (act_of v.op) high) ∙ plain_out c v.address (act_of v.op) high;
    other_cells = λ strict c v out within h. cells_out c v.address (act_of v.op) (no_tag v.address out);
    other_twice = λ q. refl;
    pause_seen = λ c e h. pause_front c;
    pause_leaves = λ strict c e y out h.
        let high = no_tag y out in
        let victim = one.victim in
        pause_leaves link s c y (omega (arith, victim, high));
  }

  -- an array of the two
  small_sees : Sees (cells_behind link s) (is_wrong_there link s) (λ c. c) (λ c. c) tag 2 machine (λ c. length c ≡ 2) ⊥
  small_sees = record {
    size = λ no. absurd no;
    holds = λ c step h. sized 2 c step h;
    own_wrong = λ c v i e within h. ap (λ x. is_wrong_of v.op (linked_answer link s c x (act_of v.op))) (tag_is v.address i e).0;
    own_seen = λ c v i e within h. ap (λ x. linked_cells link s c x (act_of v.op)) (tag_is v.address i e).0;
    own_leaves = λ no. absurd no;
    other_wrong = λ no. absurd no;
    other_seen = λ c v out within h. let high = no_tag v.address out in absurd (omega (arith, within, high));
    other_cells = λ no. absurd no;
    other_twice = λ q. refl;
    pause_seen = λ c e h. refl;
    pause_leaves = λ no. absurd no;
  }

  ordered : (n : ℕ) → 2 ≤ n → (d : Direction) (q : List Bool) (ops : List Op) → cells_run machine q (map tag (addresses d n)) ops ≡ cells_run machine q (order d) ops
  ordered n more d q ops =
      kept_does machine (λ q. refl) q (map tag (addresses d n)) ops ∙ ap (λ ts. cells_run machine q ts ops) (addresses_kept tag owns n (stand n more) d)

  -- what differs in three differs in two
  pub fewer : (march : List MarchElement) → IsMarch march → (ds : List Direction) (c : List Bool) → length c ≡ 2
      → SomeDiffersBy (cells_behind link s) (is_wrong_there link s) (c ++ false ∷ []) (visits march ds 3)
      → SomeDiffersBy (cells_behind link s) (is_wrong_there link s) c (visits march ds 2)
  fewer march is ds c two differs = go (few_run machine order c march ds) refl
    where
      three : (c : List Bool) → length c ≡ 2 → length (c ++ false ∷ []) ≡ 3
      three [] e = cc
      three (a ∷ []) e = cc
      three (a ∷ b ∷ []) e = refl
      three (a ∷ b ∷ d ∷ more) e = absurd (omega arith)

      go : (r : Option (List Bool)) → few_run machine order c march ds ≡ r → SomeDiffersBy (cells_behind link s) (is_wrong_there link s) c (visits march ds 2)
      go None e =
          march_caught (cells_behind link s) (is_wrong_there link s) (λ c. c) (λ c. c) tag 2 machine (λ c. length c ≡ 2) ⊥ small_sees order (ordered 2 (omega arith)) march is ds c two e
      go (Some q) e =
          absurd (march_passes (cells_behind link s) (is_wrong_there link s) (λ c. c) front tag 3 machine (λ c. length c ≡ 3) (Unit {0}) big_sees order (ordered 3 (omega arith)) march is ds
          (c ++ false ∷ []) (three c two) tt q (ap (λ l. few_run machine order l march ds) (front_with c two) ∙ e) differs)
