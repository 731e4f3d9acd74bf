-- One size stands for all: what an instance does in an array of any size, it does in an array of two cells.
use Rattle.std.proofs.Common.{◌≡◌, ◌≢◌, ◌-◌, ◌<◌, ◌≤◌, ℕ, Bool, true, false, nat_lt, Option, Some, None, is_some, List, [], ◌∷◌, ◌++◌, length, map, replicate, refl, ap, sym, subst, ◌∙◌, arith, length-append}
use Rattle.std.specs.Option.{IsSome}
use Rattle.std.proofs.lemmas.List.{get_or_past, length-replicate}
use Rattle.std.proofs.Math.ListN.{get_or-append}
use Rattle.fault_core.specs.declared.cells.Places.{Places}
use Rattle.fault_core.specs.declared.primitive.Sense.{Sense}
use Rattle.fault_core.specs.Primitive.{Primitive, IsPrimitive}
use Rattle.fault_core.specs.Cells.{cell, close_of, FitsPlace, FitsAgg}
use Rattle.march_core.specs.declared.operation.Op.{Op}
use Rattle.march_core.specs.March.{MarchElement, IsMarch}
use Rattle.march_core.specs.Visits.{Direction, addresses}
use Rattle.array_sim.specs.Differing.{after_step, is_wrong_at}
use Rattle.array_sim.specs.Detection.{IsCaught, DetectsAt, Detects}
use Rattle.cell_machine.specs.declared.pair.Pair.{Pair}
use Rattle.cell_machine.specs.declared.pair.Side.{Side}
use Rattle.cell_machine.specs.declared.pair.Side.TheVariants.{V}
use Rattle.cell_machine.specs.Pairs.{pair_close}
use Rattle.cell_machine.specs.inner.Pairs.{IsClosed}
use Rattle.cell_machine.specs.Seen.{pair_at}
use Rattle.cell_machine.proofs.Projection.{pair_at-close_of, length-close_of}
use Rattle.cell_machine.proofs.Closing.{pair_close-closed}
use Rattle.pair_tracker.specs.Few.{Order, cells_run, few_run}
use Rattle.pair_tracker.specs.Pairs.{machine_of, sides_in}
use Rattle.pair_tracker.specs.declared.placement.Placement.{Placement}
use Rattle.pair_tracker.specs.declared.placement.Placement.TheVariants.{Alone, Below, Above}
use Rattle.pair_tracker.specs.Placements.{places_in, FitsPlacement}
use Rattle.pair_tracker.proofs.Few.{march_passes, march_caught}
use Rattle.pair_tracker.proofs.Machines.{array_sees}
use Rattle.pair_tracker.proofs.Tags.{kept, kept_does, side_at, pair_ordered, victim_ordered}
use Rattle.coverage.proofs.Seen.{beside_of, sees_itself}

-- the order in which a direction visits the cells that are seen
abbrev pub order_of : Option ℕ → ℕ → Order Side
order_of None v d = Some V ∷ []
order_of (Some a) v d = sides_in (nat_lt a v) d

ordered : (p : Primitive) (at : Places) (n : ℕ) → FitsPlace p at n → (d : Direction) (q : Pair) (ops : List Op)
    → cells_run (machine_of p) q (map (side_at (beside_of at.agg n) at.vic) (addresses d n)) ops ≡ cells_run (machine_of p) q (order_of at.agg at.vic d) ops
ordered p at n fits d q ops =
    kept_does (machine_of p) (λ q. refl) q (map (side_at (beside_of at.agg n) at.vic) (addresses d n)) ops
    ∙ ap (λ ts. cells_run (machine_of p) q ts ops) (go at.agg p.agg fits.aggressor)
  where
    go : (place : Option ℕ) (agg : Option Sense) → FitsAgg agg place at.vic n → kept (map (side_at (beside_of place n) at.vic) (addresses d n)) ≡ order_of place at.vic d
    go None agg f = victim_ordered n at.vic n (omega arith) fits.victim d
    go (Some a) None f = absurd f
    go (Some a) (Some sense) f = pair_ordered a at.vic n f.1 f.0 fits.victim d

-- the run of the cells that are seen
abbrev pub own_run : Primitive → Places → List MarchElement → List Direction → List Bool → Option Pair
own_run p at march ds content =
    few_run (machine_of p) (order_of at.agg at.vic) (pair_close p (pair_at content (beside_of at.agg (length content)) at.vic)) march ds

module _ (p : Primitive) (is : IsPrimitive p) (march : List MarchElement) (is_march : IsMarch march) (ds : List Direction) (at : Places) (content : List Bool)
    (fits : FitsPlace p at (length content)) where
  abbrev n : ℕ
  n = length content

  abbrev a : ℕ
  a = beside_of at.agg n

  abbrev closed : List Bool
  closed = close_of p at content

  abbrev Holds : List Bool → Type 0
  Holds cells = (length cells ≡ n) × IsClosed p (pair_at cells a at.vic)

  starts : pair_at closed a at.vic ≡ pair_close p (pair_at content a at.vic)
  starts = pair_at-close_of p at a content (sees_itself p at n fits)

  holds : Holds closed
  holds = (length-close_of p at content, subst (IsClosed p) (sym starts) (pair_close-closed p (pair_at content a at.vic) is))

  start_run : (r : Option Pair) → own_run p at march ds content ≡ r → few_run (machine_of p) (order_of at.agg at.vic) (pair_at closed a at.vic) march ds ≡ r
  start_run r e = ap (λ q. few_run (machine_of p) (order_of at.agg at.vic) q march ds) starts ∙ e

  -- no read differs exactly where they get through
  pub passes_where : (q : Pair) → own_run p at march ds content ≡ Some q → IsCaught march ds p at content → ⊥
  passes_where q e =
      march_passes (after_step p at) (is_wrong_at p at) (λ cells. cells) (λ cells. pair_at cells a at.vic) (side_at a at.vic) n (machine_of p) Holds (Unit {0})
      (array_sees p at a n is (sees_itself p at n fits)) (order_of at.agg at.vic) (ordered p at n fits) march is_march ds closed holds tt q (start_run (Some q) e)

  pub caught_where : own_run p at march ds content ≡ None → IsCaught march ds p at content
  caught_where e =
      march_caught (after_step p at) (is_wrong_at p at) (λ cells. cells) (λ cells. pair_at cells a at.vic) (side_at a at.vic) n (machine_of p) Holds (Unit {0})
      (array_sees p at a n is (sees_itself p at n fits)) (order_of at.agg at.vic) (ordered p at n fits) march is_march ds closed holds (start_run None e)

-- two arrays in which an instance looks the same
pub record SameView (at : Places) (n : ℕ) (content : List Bool) (to : Places) (k : ℕ) (moved : List Bool) : Type 0 where
  pub order : order_of at.agg at.vic ≡ order_of to.agg to.vic
  pub pair : pair_at content (beside_of at.agg n) at.vic ≡ pair_at moved (beside_of to.agg k) to.vic

pub same_run : (p : Primitive) (march : List MarchElement) (ds : List Direction) (at : Places) (content : List Bool) (to : Places) (moved : List Bool)
    → SameView at (length content) content to (length moved) moved → own_run p at march ds content ≡ own_run p to march ds moved
same_run p march ds at content to moved view =
    ap (λ o. few_run (machine_of p) o (pair_close p (pair_at content (beside_of at.agg (length content)) at.vic)) march ds) view.order
    ∙ ap (λ q. few_run (machine_of p) (order_of to.agg to.vic) (pair_close p q) march ds) view.pair

-- what is caught in an array that looks the same is caught
caught_over : (p : Primitive) → IsPrimitive p → (march : List MarchElement) → IsMarch march → (ds : List Direction)
    → (at : Places) (content : List Bool) → FitsPlace p at (length content) → (to : Places) (moved : List Bool) → FitsPlace p to (length moved)
    → SameView at (length content) content to (length moved) moved → IsCaught march ds p to moved → IsCaught march ds p at content
caught_over p is march is_march ds at content fits to moved fits' view caught = go (own_run p at march ds content) refl
  where
    go : (r : Option Pair) → own_run p at march ds content ≡ r → IsCaught march ds p at content
    go None e = caught_where p is march is_march ds at content fits e
    go (Some q) e = absurd (passes_where p is march is_march ds to moved fits' q (sym (same_run p march ds at content to moved view) ∙ e) caught)

-- an array of two cells in one of the placements
pub record TwoCells (p : Primitive) (at : Places) (n : ℕ) (content : List Bool) : Type 0 where
  pub placement : Placement
  pub moved : List Bool
  pub fits : FitsPlacement p placement
  pub fits_place : FitsPlace p (places_in placement) 2
  pub size : length moved ≡ 2
  pub view : SameView at n content (places_in placement) 2 moved

same_pair : (a b c d : Bool) → a ≡ c → b ≡ d → let make : Bool → Bool → Pair = λ x y. record { a = x; v = y } in make a b ≡ make c d
same_pair a b c d e f = let make : Bool → Bool → Pair = λ x y. record { a = x; v = y } in ap (λ x. make x b) e ∙ ap (make c) f

-- what is seen of an array of any size is seen of one with two cells
pub to_two : (p : Primitive) (at : Places) (n : ℕ) (content : List Bool) → FitsPlace p at n → length content ≡ n → TwoCells p at n content
to_two p at n content fits size = go at.agg p.agg refl refl fits.aggressor
  where
    go : (place : Option ℕ) (agg : Option Sense) → at.agg ≡ place → p.agg ≡ agg → FitsAgg agg place at.vic n → TwoCells p at n content
    go None None e f h =
        let alone : FitsAgg p.agg None 0 2 = subst (λ s. FitsAgg s None 0 2) (sym f) tt in
        record {
          placement = Alone;
          moved = cell content at.vic ∷ false ∷ [];
          fits = f;
          fits_place = record { victim = omega arith; aggressor = alone };
          size = refl;
          view = record {
            order = ap (λ place. order_of place at.vic) e;
            pair =
                ap (λ place. pair_at content (beside_of place n) at.vic) e
                ∙ same_pair (cell content n) (cell content at.vic) false (cell content at.vic) (get_or_past content n false (omega arith)) refl;
          };
        }
    go None (Some sense) e f h = absurd h
    go (Some a) None e f h = absurd h
    go (Some a) (Some sense) e f h = by_order (nat_lt a at.vic) refl
      where
        is_two : IsSome p.agg
        is_two = ap is_some f

        fits_agg : (x y : ℕ) → x < 2 → x ≢ y → FitsAgg p.agg (Some x) y 2
        fits_agg x y within ne = subst (λ s. FitsAgg s (Some x) y 2) (sym f) (within, ne)

        by_order : (below : Bool) → nat_lt a at.vic ≡ below → TwoCells p at n content
        by_order true lt =
            record {
              placement = Below;
              moved = cell content a ∷ cell content at.vic ∷ [];
              fits = is_two;
              fits_place = record { victim = omega arith; aggressor = fits_agg 0 1 (omega arith) (omega arith) };
              size = refl;
              view = record {
                order = ap (λ place. order_of place at.vic) e ∙ ap (λ b. λ d. sides_in b d) lt;
                pair = ap (λ place. pair_at content (beside_of place n) at.vic) e;
              };
            }
        by_order false lt =
            record {
              placement = Above;
              moved = cell content at.vic ∷ cell content a ∷ [];
              fits = is_two;
              fits_place = record { victim = omega arith; aggressor = fits_agg 1 0 (omega arith) (omega arith) };
              size = refl;
              view = record {
                order = ap (λ place. order_of place at.vic) e ∙ ap (λ b. λ d. sides_in b d) lt;
                pair = ap (λ place. pair_at content (beside_of place n) at.vic) e;
              };
            }

-- an array of two cells with more cells behind it
abbrev pub longer : ℕ → List Bool → List Bool
longer n content = content ++ replicate (n - 2) false

pub from_two : (p : Primitive) (at : Places) (n : ℕ) (content : List Bool) → 2 ≤ n → FitsPlace p at 2 → length content ≡ 2
    → FitsPlace p at n × (length (longer n content) ≡ n) × SameView at 2 content at n (longer n content)
from_two p at n content more fits size = go at.agg p.agg refl refl fits.aggressor
  where
    long : length (longer n content) ≡ n
    long = omega (arith, length-append content (replicate (n - 2) false), length-replicate (n - 2) false, size, more)

    held : (x : ℕ) → x < 2 → cell content x ≡ cell (longer n content) x
    held x h = sym (get_or-append content (replicate (n - 2) false) false x (omega (arith, size, h)))

    victim : at.vic < n
    victim = omega (arith, fits.victim, more)

    fitting : (place : Option ℕ) (agg : Option Sense) → at.agg ≡ place → p.agg ≡ agg → FitsAgg agg place at.vic n → FitsPlace p at n
    fitting place agg e f h =
        record { victim = victim; aggressor = subst (λ x. FitsAgg x at.agg at.vic n) (sym f) (subst (λ x. FitsAgg agg x at.vic n) (sym e) h) }

    go : (place : Option ℕ) (agg : Option Sense) → at.agg ≡ place → p.agg ≡ agg → FitsAgg agg place at.vic 2
        → FitsPlace p at n × (length (longer n content) ≡ n) × SameView at 2 content at n (longer n content)
    go None None e f h = (
      fitting None None e f tt,
      long,
      record {
        order = refl;
        pair =
            ap (λ place. pair_at content (beside_of place 2) at.vic) e
            ∙ same_pair (cell content 2) (cell content at.vic) (cell (longer n content) n) (cell (longer n content) at.vic)
            (get_or_past content 2 false (omega (arith, size)) ∙ sym (get_or_past (longer n content) n false (omega (arith, long)))) (held at.vic fits.victim)
            ∙ sym (ap (λ place. pair_at (longer n content) (beside_of place n) at.vic) e);
      },
    )
    go None (Some sense) e f h = absurd h
    go (Some a) None e f h = absurd h
    go (Some a) (Some sense) e f h = (
      fitting (Some a) (Some sense) e f (omega (arith, h.0, more), h.1),
      long,
      record {
        order = refl;
        pair =
            ap (λ place. pair_at content (beside_of place 2) at.vic) e
            ∙ same_pair (cell content a) (cell content at.vic) (cell (longer n content) a) (cell (longer n content) at.vic) (held a h.0) (held at.vic fits.victim)
            ∙ sym (ap (λ place. pair_at (longer n content) (beside_of place n) at.vic) e);
      },
    )

-- detection at two cells is detection at every size, and detection at any one size is detection at two cells
pub two_cells_detect : (p : Primitive) (march : List MarchElement) → IsPrimitive p → IsMarch march → DetectsAt 2 march p → Detects march p
two_cells_detect p march is is_march two n more ds at content allowed fits size =
    let t = to_two p at n content fits size in
    caught_over p is march is_march ds at content (subst (FitsPlace p at) (sym size) fits) (places_in t.placement) t.moved (subst (FitsPlace p (places_in t.placement)) (sym t.size) t.fits_place)
    (sized (places_in t.placement) t.moved t.size t.view) (two ds (places_in t.placement) t.moved allowed t.fits_place t.size)
  where
    sized : (to : Places) (moved : List Bool) → length moved ≡ 2 → SameView at n content to 2 moved → SameView at (length content) content to (length moved) moved
    sized to moved k view = subst (λ j. SameView at (length content) content to j moved) (sym k) (subst (λ j. SameView at j content to 2 moved) (sym size) view)

pub one_size_detects : (p : Primitive) (march : List MarchElement) → IsPrimitive p → IsMarch march → (n : ℕ) → 2 ≤ n → DetectsAt n march p → DetectsAt 2 march p
one_size_detects p march is is_march n more all ds at content allowed fits size =
    let l = from_two p at n content more fits size in
    caught_over p is march is_march ds at content (subst (FitsPlace p at) (sym size) fits) at (longer n content) (subst (FitsPlace p at) (sym l.1) l.0)
    (subst (λ j. SameView at (length content) content at j (longer n content)) (sym l.1) (subst (λ j. SameView at j content at n (longer n content)) (sym size) l.2))
    (all ds at (longer n content) allowed l.0 l.1)
