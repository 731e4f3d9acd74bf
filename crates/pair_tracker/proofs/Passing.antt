-- The run of some elements on two cells is the run of their pair.
use Rattle.std.proofs.Common.{◌≡◌, ◌≢◌, ◌-◌, ◌<◌, ◌≤◌, ℕ, Bool, nat_lt, Option, Some, None, is_some, List, [], ◌∷◌, ◌++◌, length, map, take, drop, refl, ap, sym, subst, ◌∙◌, arith}
use Rattle.std.specs.Prelude.{if◌then◌else◌}
use Rattle.std.proofs.lemmas.List.{take_all, take-append-drop}
use Rattle.std.proofs.lemmas.Grind.{flat_map-append}
use Rattle.fault_core.specs.declared.cells.Places.{Places}
use Rattle.fault_core.specs.Primitive.{Primitive}
use Rattle.fault_core.specs.Cells.{close_of}
use Rattle.march_core.specs.March.{MarchElement, IsMarch, all_ops, ops_of}
use Rattle.march_core.specs.inner.Scan.{scan_of}
use Rattle.march_core.specs.declared.operation.Op.{Op}
use Rattle.march_core.specs.Visits.{Direction, is_direction, directions_of, visits, visits_from, addresses}
use Rattle.march_core.proofs.Consistent.{consistent_scan, last_after}
use Rattle.array_sim.specs.Differing.{left_behind, after_step, is_wrong_at, SomeDiffers}
use Rattle.cell_machine.specs.declared.pair.Pair.{Pair}
use Rattle.cell_machine.specs.declared.pair.Side.{Side}
use Rattle.cell_machine.specs.Pairs.{pair_close}
use Rattle.cell_machine.specs.Seen.{pair_at}
use Rattle.cell_machine.specs.inner.Seen.{SeesPair}
use Rattle.cell_machine.proofs.Projection.{length-close_of, pair_at-close_of}
use Rattle.pair_tracker.specs.declared.placement.Placement.{Placement}
use Rattle.pair_tracker.specs.declared.placement.Placement.TheVariants.{Alone, Below, Above}
use Rattle.pair_tracker.specs.Legs.{elements_between, directions_between, cells_in, leg_steps, IsLeg}
use Rattle.pair_tracker.specs.Few.{cells_run, few_run}
use Rattle.pair_tracker.specs.Pairs.{machine_of, sides_in}
use Rattle.pair_tracker.specs.Placements.{places_in, FitsPlacement, beside_place, victim_place, pair_in}
use Rattle.pair_tracker.specs.Survivors.{Survives}
use Rattle.pair_tracker.specs.Tracking.{is_below, Leads}
use Rattle.pair_tracker.proofs.Few.{Sees, Agrees, scan_parts, passes_where, through_unless}
use Rattle.pair_tracker.proofs.Machines.{two_see}
use Rattle.pair_tracker.proofs.Tags.{side_at, no_side, kept_does, pair_ordered}
use Rattle.pair_tracker.proofs.Words.{span_from_rest, span_below, rest_from_span, directions_from_first}

-- a placement that fits is about its two cells
pub about : (p : Primitive) (placement : Placement) → FitsPlacement p placement → SeesPair p (places_in placement) (beside_place placement) 2
about p Alone fits = record { aggressor = sym (ap (λ agg. if is_some agg then Some 1 else None) fits); apart = omega arith; victim = omega arith }
about p Below fits = record { aggressor = sym (ap (λ b. if b then Some 0 else None) fits); apart = omega arith; victim = omega arith }
about p Above fits = record { aggressor = sym (ap (λ b. if b then Some 1 else None) fits); apart = omega arith; victim = omega arith }

beside_within : (placement : Placement) → beside_place placement < 2
beside_within Alone = omega arith
beside_within Below = omega arith
beside_within Above = omega arith

-- the bit that was written last before some elements, and behind them
record Scanned (es : List MarchElement) : Type 0 where
  last : Option Bool
  end : Option Bool
  is : scan_of last (all_ops es) ≡ Some end

scanned_between : (march : List MarchElement) (i j : ℕ) → IsMarch march → Scanned (elements_between march i j)
scanned_between march i j is_march =
    let whole : scan_of None (all_ops march) ≡ Some (last_after None (all_ops march)) = consistent_scan (all_ops march) is_march.consistent in
    let cut : all_ops march ≡ all_ops (take i march) ++ all_ops (drop i march) = in_parts i march in
    let behind = scan_parts None (all_ops (take i march)) (all_ops (drop i march)) (last_after None (all_ops march)) (ap (scan_of None) (sym cut) ∙ whole) in
    let here : all_ops (drop i march) ≡ all_ops (elements_between march i j) ++ all_ops (drop (j - i) (drop i march)) = in_parts (j - i) (drop i march) in
    let within = scan_parts behind.0 (all_ops (elements_between march i j)) (all_ops (drop (j - i) (drop i march))) (last_after None (all_ops march))
    (ap (scan_of behind.0) (sym here) ∙ behind.2) in
    record { last = behind.0; end = within.0; is = within.1 }
  where
    in_parts : (k : ℕ) (es : List MarchElement) → all_ops es ≡ all_ops (take k es) ++ all_ops (drop k es)
    in_parts k es = ap all_ops (sym (take-append-drop k es)) ∙ flat_map-append ops_of (take k es) (drop k es)

-- the cells that stand for a pair
pub pair_of_cells : (placement : Placement) (q : Pair) → pair_in placement (cells_in placement q) ≡ q
pair_of_cells Alone q = refl
pair_of_cells Below q = refl
pair_of_cells Above q = refl

pub length-cells_in : (placement : Placement) (q : Pair) → length (cells_in placement q) ≡ 2
length-cells_in Alone q = refl
length-cells_in Below q = refl
length-cells_in Above q = refl

pub cells_of_pair : (placement : Placement) (cells : List Bool) → length cells ≡ 2 → cells_in placement (pair_in placement cells) ≡ cells
cells_of_pair placement [] e = cc
cells_of_pair placement (x ∷ []) e = cc
cells_of_pair placement (x ∷ y ∷ z ∷ rest) e = absurd (omega arith)
cells_of_pair Alone (x ∷ y ∷ []) e = refl
cells_of_pair Below (x ∷ y ∷ []) e = refl
cells_of_pair Above (x ∷ y ∷ []) e = refl

-- the two cells of a placement, by the sides of their places
abbrev tag_in : Placement → ℕ → Option Side
tag_in placement = side_at (beside_place placement) (victim_place placement)

abbrev TwoCells : List Bool → Type 0
TwoCells cells = (length cells ≡ 2) × Unit {0}

sees_in : (p : Primitive) (placement : Placement) → FitsPlacement p placement
    → Sees (after_step p (places_in placement)) (is_wrong_at p (places_in placement)) (λ cells. cells) (pair_in placement) (tag_in placement) 2 (machine_of p) TwoCells (Unit {0})
sees_in p Alone fits = two_see p (places_in Alone) 1 (about p Alone fits) (omega arith)
sees_in p Below fits = two_see p (places_in Below) 0 (about p Below fits) (omega arith)
sees_in p Above fits = two_see p (places_in Above) 1 (about p Above fits) (omega arith)

ordered_in : (p : Primitive) (placement : Placement) (d : Direction) (q : Pair) (ops : List Op)
    → cells_run (machine_of p) q (map (tag_in placement) (addresses d 2)) ops ≡ cells_run (machine_of p) q (sides_in (is_below placement) d) ops
ordered_in p placement d q ops =
    kept_does (machine_of p) (λ q. refl) q (map (tag_in placement) (addresses d 2)) ops
    ∙ ap (λ ts. cells_run (machine_of p) q ts ops) (pair_ordered (beside_place placement) (victim_place placement) 2 (apart placement) (beside_within placement) (victim_within placement) d
    ∙ ap (λ b. sides_in b d) (lower placement))
  where
    apart : (placement : Placement) → beside_place placement ≢ victim_place placement
    apart Alone = omega arith
    apart Below = omega arith
    apart Above = omega arith

    victim_within : (placement : Placement) → victim_place placement < 2
    victim_within Alone = omega arith
    victim_within Below = omega arith
    victim_within Above = omega arith

    lower : (placement : Placement) → nat_lt (beside_place placement) (victim_place placement) ≡ is_below placement
    lower Alone = refl
    lower Below = refl
    lower Above = refl

-- there is no third cell
all_agree : (placement : Placement) (last : Option Bool) (cells : List Bool) → Agrees (tag_in placement) 2 [] None last cells
all_agree placement last cells y within out bit h = absurd (go placement (no_side (beside_place placement) (victim_place placement) y out))
  where
    go : (placement : Placement) → (y ≢ beside_place placement) × (y ≢ victim_place placement) → ⊥
    go Alone off = let a : y ≢ 1 = off.0 in let b : y ≢ 0 = off.1 in omega arith
    go Below off = let a : y ≢ 0 = off.0 in let b : y ≢ 1 = off.1 in omega arith
    go Above off = let a : y ≢ 1 = off.0 in let b : y ≢ 0 = off.1 in omega arith

-- some elements on two cells lead where they lead on the pair
module _ (p : Primitive) (placement : Placement) (fits : FitsPlacement p placement) (es : List MarchElement) (scanned : Scanned es) (ds : List Direction) (k : ℕ)
    (cells : List Bool) (size : length cells ≡ 2) where
  abbrev at : Places
  at = places_in placement

  abbrev few : Option Pair
  few = few_run (machine_of p) (sides_in (is_below placement)) (pair_in placement cells) es ds

  abbrev left : List Bool
  left = left_behind (after_step p at) cells (visits_from k es ds 2)

  get_through : (SomeDiffers p at cells (visits_from k es ds 2) → ⊥) → few ≡ Some (pair_in placement left)
  get_through passes =
      through_unless (after_step p at) (is_wrong_at p at) (λ cells. cells) (pair_in placement) (tag_in placement) 2 (machine_of p) TwoCells (Unit {0}) (sees_in p placement fits)
      (sides_in (is_below placement)) (ordered_in p placement) tt es ds k scanned.last scanned.end cells scanned.is (size, tt) (λ strict. all_agree placement scanned.last cells) passes

  let_through : (q : Pair) → few ≡ Some q → (SomeDiffers p at cells (visits_from k es ds 2) → ⊥) × (pair_in placement left ≡ q)
  let_through q e =
      passes_where (after_step p at) (is_wrong_at p at) (λ cells. cells) (pair_in placement) (tag_in placement) 2 (machine_of p) TwoCells (Unit {0}) (sees_in p placement fits)
      (sides_in (is_below placement)) (ordered_in p placement) tt es ds k scanned.last scanned.end cells scanned.is (size, tt) (λ strict. all_agree placement scanned.last cells) q e

pub leg_leads : (p : Primitive) (placement : Placement) (march : List MarchElement) (i j : ℕ) (start end : Pair) (word : ℕ)
    → FitsPlacement p placement → IsMarch march → i ≤ j → j ≤ length march → IsLeg march p placement i j start end word
    → Leads (machine_of p) (sides_in (is_below placement)) march i j start end word
leg_leads p placement march i j start end word fits is_march ij within leg =
    let most : length march ≤ 64 = is_march.elements_within in
    let es : List MarchElement = elements_between march i j in
    let ds : List Direction = directions_between word i j in
    record {
      span = span_from_rest i j word ij (omega arith) leg.before leg.behind;
      allowed = leg.allowed;
      ends =
          ap (λ q. few_run (machine_of p) (sides_in (is_below placement)) q es ds) (sym (pair_of_cells placement start))
          ∙ get_through p placement fits es (scanned_between march i j is_march) ds i (cells_in placement start) (length-cells_in placement start) leg.passes ∙ ap Some leg.ends;
    }

pub leads_leg : (p : Primitive) (placement : Placement) (march : List MarchElement) (i j : ℕ) (start end : Pair) (word : ℕ)
    → FitsPlacement p placement → IsMarch march → i ≤ j → j ≤ length march → Leads (machine_of p) (sides_in (is_below placement)) march i j start end word
    → IsLeg march p placement i j start end word
leads_leg p placement march i j start end word fits is_march ij within leads =
    let most : length march ≤ 64 = is_march.elements_within in
    let es : List MarchElement = elements_between march i j in
    let ds : List Direction = directions_between word i j in
    let both = let_through p placement fits es (scanned_between march i j is_march) ds i (cells_in placement start) (length-cells_in placement start) end
    (ap (λ q. few_run (machine_of p) (sides_in (is_below placement)) q es ds) (pair_of_cells placement start) ∙ leads.ends) in
    record {
      allowed = leads.allowed;
      before = span_below i j word ij (omega arith) leads.span;
      behind = rest_from_span i j word leads.span;
      passes = both.0;
      ends = both.1;
    }

-- the whole march on a content is the leg of all its elements from the closed pair
abbrev pub start_in : Primitive → Placement → List Bool → Pair
start_in p placement content = pair_close p (pair_in placement content)

pub all_between : (march : List MarchElement) → elements_between march 0 (length march) ≡ march
all_between march =
    let all : length march - 0 ≡ length march = omega arith in
    ap (λ n. take n march) all ∙ take_all (length march) march (omega arith)

-- from the closed content in the steps of the whole march
starts_closed : (p : Primitive) (placement : Placement) (content : List Bool) → FitsPlacement p placement → length content ≡ 2
    → cells_in placement (start_in p placement content) ≡ close_of p (places_in placement) content
starts_closed p placement content fits size =
    let at : Places = places_in placement in
    let sees : SeesPair p at (beside_place placement) (length content) = subst (SeesPair p at (beside_place placement)) (sym size) (about p placement fits) in
    ap (cells_in placement) (sym (seen placement (pair_at-close_of p at (beside_place placement) content sees)))
    ∙ cells_of_pair placement (close_of p at content) (length-close_of p at content ∙ size)
  where
    seen : (place : Placement)
        → (let at : Places = places_in place in
        pair_at (close_of p at content) (beside_place place) at.vic ≡ pair_close p (pair_at content (beside_place place) at.vic))
        → pair_in place (close_of p (places_in place) content) ≡ pair_close p (pair_in place content)
    seen Alone h = h
    seen Below h = h
    seen Above h = h

whole_steps : (march : List MarchElement) (content : List Bool) (word : ℕ) → length content ≡ 2
    → leg_steps march 0 (length march) word ≡ visits march (directions_of word (length march)) (length content)
whole_steps march content word size =
    ap (λ es. visits_from 0 es (directions_between word 0 (length march)) 2) (all_between march)
    ∙ ap (λ ds. visits_from 0 march ds 2) (directions_from_first word (length march)) ∙ ap (visits march (directions_of word (length march))) (sym size)

same_directions : (march : List MarchElement) (word : ℕ)
    → is_direction (elements_between march 0 (length march)) (directions_between word 0 (length march)) ≡ is_direction march (directions_of word (length march))
same_directions march word = ap (λ es. is_direction es (directions_between word 0 (length march))) (all_between march) ∙ ap (is_direction march) (directions_from_first word (length march))

pub survives_leg : (p : Primitive) (placement : Placement) (march : List MarchElement) (content : List Bool) (word : ℕ) (q : Pair)
    → FitsPlacement p placement → length content ≡ 2 → Survives march p placement content word q
    → IsLeg march p placement 0 (length march) (start_in p placement content) q word
survives_leg p placement march content word q fits size survives =
    let at : Places = places_in placement in
    let closed = sym (starts_closed p placement content fits size) in
    let steps = sym (whole_steps march content word size) in
    record {
      allowed = same_directions march word ∙ survives.fits.allowed;
      before = survives.is_word;
      behind = survives.fits.rest;
      passes = subst (λ c. SomeDiffers p at c (leg_steps march 0 (length march) word) → ⊥) closed
          (subst (λ l. SomeDiffers p at (close_of p at content) l → ⊥) steps survives.passes);
      ends = subst (λ c. pair_in placement (left_behind (after_step p at) c (leg_steps march 0 (length march) word)) ≡ q) closed
          (subst (λ l. pair_in placement (left_behind (after_step p at) (close_of p at content) l) ≡ q) steps survives.ends);
    }

pub leg_survives : (p : Primitive) (placement : Placement) (march : List MarchElement) (content : List Bool) (word : ℕ) (q : Pair)
    → FitsPlacement p placement → length content ≡ 2 → IsLeg march p placement 0 (length march) (start_in p placement content) q word
    → Survives march p placement content word q
leg_survives p placement march content word q fits size leg =
    let at : Places = places_in placement in
    let closed = starts_closed p placement content fits size in
    let steps = whole_steps march content word size in
    record {
      is_word = leg.before;
      fits = record { allowed = sym (same_directions march word) ∙ leg.allowed; rest = leg.behind };
      passes = subst (λ l. SomeDiffers p at (close_of p at content) l → ⊥) steps (subst (λ c. SomeDiffers p at c (leg_steps march 0 (length march) word) → ⊥) closed leg.passes);
      ends = subst (λ l. pair_in placement (left_behind (after_step p at) (close_of p at content) l) ≡ q) steps
          (subst (λ c. pair_in placement (left_behind (after_step p at) c (leg_steps march 0 (length march) word)) ≡ q) closed leg.ends);
    }
