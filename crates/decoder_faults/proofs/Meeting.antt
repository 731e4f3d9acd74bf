-- A march detects a fault of the address decoder exactly where one of its elements catches it alone, with x below y and with x above y.
use Rattle.std.proofs.Common.{◌≡◌, ℕ, Bool, true, false, not, cond, ◌&&◌, ◌||◌, Option, Some, None, is_some, List, [], ◌∷◌, length, refl, ap, sym, subst, ◌∙◌}
use Rattle.march_core.specs.declared.operation.Order.{Order}
use Rattle.march_core.specs.declared.operation.Order.TheVariants.{Up, Down, Any}
use Rattle.march_core.specs.inner.Scan.{scan_of}
use Rattle.march_core.specs.March.{MarchElement, pause, sweep, order_of, ops_of, all_ops, IsMarch}
use Rattle.march_core.specs.Visits.{Direction, Upward, Downward, allows}
use Rattle.march_core.proofs.Consistent.{consistent_scan, last_after}
use Rattle.cell_machine.specs.declared.pair.Pair.{Pair}
use Rattle.pair_tracker.specs.Legs.{elements_between}
use Rattle.pair_tracker.specs.Few.{cells_run, end_of}
use Rattle.pair_tracker.specs.Pairs.{sides_in}
use Rattle.pair_tracker.specs.Reached.{word_to}
use Rattle.pair_tracker.specs.Survivors.{IsLeastOf}
use Rattle.pair_tracker.specs.Tracking.{any_end, GetsThrough}
use Rattle.pair_tracker.specs.Ways.{holds_at, can_reach, ways_to, ways_word}
use Rattle.pair_tracker.proofs.Few.{scan_parts}
use Rattle.pair_tracker.proofs.Through.{least_whole}
use Rattle.decoder_faults.specs.declared.fault.WiredRead.{WiredRead}
use Rattle.decoder_faults.specs.declared.fault.DecoderFault.{DecoderFault}
use Rattle.decoder_faults.specs.declared.fault.DecoderFault.TheVariants.{NoCell, OtherCell, BothCells, TakenCell}
use Rattle.decoder_faults.specs.Conditions.{turned_by, does_tell, is_x_first, has_read, does_show, catches, some_element}
use Rattle.decoder_faults.specs.inner.Pairs.{machine_of}
use Rattle.decoder_faults.proofs.Elements.{Held, caught_by, Ends, sides_by, sweep_ends}
use Rattle.pair_tracker.proofs.Passing.{all_between}

-- whether a direction visits x first
abbrev pub x_first_in : Bool → Direction → Bool
x_first_in true Upward = true
x_first_in true Downward = false
x_first_in false Upward = false
x_first_in false Downward = true

pub sides_ordered : (below : Bool) (d : Direction) → sides_in below d ≡ sides_by (x_first_in below d)
sides_ordered true Upward = refl
sides_ordered true Downward = refl
sides_ordered false Upward = refl
sides_ordered false Downward = refl

-- whether an element may go in a direction, and doesn't catch the fault there
abbrev pub passes_in : DecoderFault → Bool → MarchElement → Direction → Bool
passes_in fault below e d = allows (order_of e) d && not (caught_by fault (x_first_in below d) (ops_of e))

-- where it leads, by whether it passes
abbrev Leads : DecoderFault → Option Bool → Option Pair → Bool → Type 0
Leads fault next None true = ⊥
Leads fault next None false = Unit {0}
Leads fault next (Some q) true = Held fault next q
Leads fault next (Some q) false = ⊥

leads_where : (fault : DecoderFault) (next : Option Bool) (open_here caught : Bool) (o : Option Pair) → Ends fault next o caught → Leads fault next (cond open_here o None) (open_here && not caught)
leads_where fault next false caught o ends = tt
leads_where fault next true true None ends = tt
leads_where fault next true false None ends = absurd ends
leads_where fault next true true (Some q) ends = absurd ends
leads_where fault next true false (Some q) ends = ends

pub no_ops : (fault : DecoderFault) (x_first : Bool) → caught_by fault x_first [] ≡ false
no_ops (NoCell answer) x_first = refl
no_ops OtherCell x_first = refl
no_ops (BothCells wired) x_first = refl
no_ops (TakenCell answer wired) x_first = refl

element_leads : (fault : DecoderFault) (below : Bool) (e : MarchElement) (d : Direction) (last next : Option Bool) (q : Pair) → scan_of last (ops_of e) ≡ Some next → Held fault last q
    → Leads fault next (end_of (machine_of fault) (sides_in below) e q d) (passes_in fault below e d)
element_leads fault below pause Upward last next q scanned held =
    let same : last ≡ next = cc in
    subst (λ b. Leads fault next (Some q) (not b)) (sym (no_ops fault (x_first_in below Upward))) (subst (λ n. Held fault n q) same held)
element_leads fault below pause Downward last next q scanned held = tt
element_leads fault below (sweep order ops) d last next q scanned held =
    leads_where fault next (allows order d) (caught_by fault (x_first_in below d) ops) (cells_run (machine_of fault) q (sides_in below d) ops)
    (subst (λ ss. Ends fault next (cells_run (machine_of fault) q ss ops) (caught_by fault (x_first_in below d) ops)) (sym (sides_ordered below d))
    (sweep_ends fault (x_first_in below d) ops last next q scanned held))

-- whether no element catches the fault alone
abbrev all_pass : DecoderFault → Bool → List MarchElement → Bool
all_pass fault below [] = true
all_pass fault below (e ∷ es) = (passes_in fault below e Upward || passes_in fault below e Downward) && all_pass fault below es

reached_behind : (fault : DecoderFault) (next : Option Bool) (f : Pair → Bool) (rest : Bool) → ((r : Pair) → Held fault next r → f r ≡ rest)
    → (o : Option Pair) (passes : Bool) → Leads fault next o passes → holds_at f o ≡ passes && rest
reached_behind fault next f rest same None true leads = absurd leads
reached_behind fault next f rest same None false leads = refl
reached_behind fault next f rest same (Some r) true leads = same r leads
reached_behind fault next f rest same (Some r) false leads = absurd leads

either_way : (a b c : Bool) → (a && c) || (b && c) ≡ (a || b) && c
either_way true true true = refl
either_way true true false = refl
either_way true false true = refl
either_way true false false = refl
either_way false b c = refl

-- some directions lead through exactly where each element passes in one of its own
reach_is : (fault : DecoderFault) (below : Bool) (es : List MarchElement) (last end : Option Bool) (q : Pair) → scan_of last (all_ops es) ≡ Some end → Held fault last q
    → can_reach any_end (end_of (machine_of fault) (sides_in below)) es q ≡ all_pass fault below es
reach_is fault below [] last end q scanned held = refl
reach_is fault below (e ∷ es) last end q scanned held =
    let parts = scan_parts last (ops_of e) (all_ops es) end scanned in
    let mid : Option Bool = parts.0 in
    let f : Pair → Bool = λ r. can_reach any_end (end_of (machine_of fault) (sides_in below)) es r in
    let rest : Bool = all_pass fault below es in
    let same : (r : Pair) → Held fault mid r → f r ≡ rest = λ r h. reach_is fault below es mid end r parts.2 h in
    let up : holds_at f (end_of (machine_of fault) (sides_in below) e q Upward) ≡ passes_in fault below e Upward && rest =
    reached_behind fault mid f rest same (end_of (machine_of fault) (sides_in below) e q Upward) (passes_in fault below e Upward) (element_leads fault below e Upward last mid q parts.1 held) in
    let down : holds_at f (end_of (machine_of fault) (sides_in below) e q Downward) ≡ passes_in fault below e Downward && rest =
    reached_behind fault mid f rest same (end_of (machine_of fault) (sides_in below) e q Downward) (passes_in fault below e Downward) (element_leads fault below e Downward last mid q parts.1 held) in
    ap (λ b. b || holds_at f (end_of (machine_of fault) (sides_in below) e q Downward)) up ∙ ap (λ b. (passes_in fault below e Upward && rest) || b) down
    ∙ either_way (passes_in fault below e Upward) (passes_in fault below e Downward) rest

-- an element passes in one of its directions exactly where it doesn't catch the fault alone
same_twice : (order : Order) (c : Bool) → (allows order Upward && not c) || (allows order Downward && not c) ≡ not c
same_twice Up true = refl
same_twice Up false = refl
same_twice Down true = refl
same_twice Down false = refl
same_twice Any true = refl
same_twice Any false = refl

or_false : (b : Bool) → (b || false) ≡ b
or_false true = refl
or_false false = refl

shows_twice : (wired : WiredRead) (below : Bool) (order : Order) (t : Option Bool)
    → (allows order Upward && not (does_show wired (x_first_in below Upward) t)) || (allows order Downward && not (does_show wired (x_first_in below Downward) t))
    ≡ not (does_show wired (is_x_first below order) t)
shows_twice wired below order None = none order
  where
    none : (order : Order) → (allows order Upward && true) || (allows order Downward && true) ≡ true
    none Up = refl
    none Down = refl
    none Any = refl
shows_twice wired true Up (Some bit) = refl
shows_twice wired true Down (Some bit) = refl
shows_twice wired true Any (Some bit) = refl
shows_twice wired false Up (Some bit) = or_false (not (does_tell wired bit))
shows_twice wired false Down (Some bit) = refl
shows_twice wired false Any (Some bit) = or_false (not (does_tell wired bit))

pub element_passes : (fault : DecoderFault) (below : Bool) (e : MarchElement) → passes_in fault below e Upward || passes_in fault below e Downward ≡ not (catches fault below e)
element_passes (NoCell answer) below e = same_twice (order_of e) (has_read (not answer) (ops_of e))
element_passes OtherCell below e = same_twice (order_of e) (is_some (turned_by e))
element_passes (BothCells wired) below e = shows_twice wired below (order_of e) (turned_by e)
element_passes (TakenCell answer wired) below e = same_twice (order_of e) (has_read (not answer) (ops_of e))

all_pass_is : (fault : DecoderFault) (below : Bool) (es : List MarchElement) → all_pass fault below es ≡ not (some_element (catches fault below) es)
all_pass_is fault below [] = refl
all_pass_is fault below (e ∷ es) =
    ap (λ b. b && all_pass fault below es) (element_passes fault below e) ∙ ap (λ b. not (catches fault below e) && b) (all_pass_is fault below es)
    ∙ neither (catches fault below e) (some_element (catches fault below) es)
  where
    neither : (a b : Bool) → (not a && not b) ≡ not (a || b)
    neither true b = refl
    neither false b = refl

-- the word of the whole march
word_is : (fault : DecoderFault) (below : Bool) (march : List MarchElement) (q : Pair) → IsMarch march → (word : ℕ)
    × (word_to any_end (machine_of fault) (sides_in below) march 0 (length march) q ≡ cond (not (some_element (catches fault below) march)) (Some word) None)
word_is fault below march q is =
    let es : List MarchElement = elements_between march 0 (length march) in
    let word : ℕ = ways_word 0 (ways_to any_end (end_of (machine_of fault) (sides_in below)) es q) in (
      word,
      ap (λ b. cond b (Some word) None)
          (ap (λ l. can_reach any_end (end_of (machine_of fault) (sides_in below)) l q) (all_between march)
          ∙ reach_is fault below march None (last_after None (all_ops march)) q (consistent_scan (all_ops march) is.consistent) (nothing fault) ∙ all_pass_is fault below march),
    )
  where
    nothing : (f : DecoderFault) → Held f None q
    nothing (NoCell answer) = tt
    nothing OtherCell = tt
    nothing (BothCells wired) = tt
    nothing (TakenCell answer wired) = tt

pub gets_nowhere : (fault : DecoderFault) (below : Bool) (march : List MarchElement) (q : Pair) (word : ℕ) → IsMarch march → some_element (catches fault below) march ≡ true
    → GetsThrough (machine_of fault) (sides_in below) march q word → ⊥
gets_nowhere fault below march q word is some through =
    let w = word_is fault below march q is in
    let none : word_to any_end (machine_of fault) (sides_in below) march 0 (length march) q ≡ None = w.1 ∙ ap (λ b. cond (not b) (Some w.0) None) some in
    let least : IsLeastOf (GetsThrough (machine_of fault) (sides_in below) march q) None =
    subst (IsLeastOf (GetsThrough (machine_of fault) (sides_in below) march q)) none (least_whole (machine_of fault) (sides_in below) march q is) in
    least word through

pub gets_through : (fault : DecoderFault) (below : Bool) (march : List MarchElement) (q : Pair) → IsMarch march → some_element (catches fault below) march ≡ false
    → (word : ℕ) × GetsThrough (machine_of fault) (sides_in below) march q word
gets_through fault below march q is none =
    let w = word_is fault below march q is in
    let some : word_to any_end (machine_of fault) (sides_in below) march 0 (length march) q ≡ Some w.0 = w.1 ∙ ap (λ b. cond (not b) (Some w.0) None) none in
    let least : IsLeastOf (GetsThrough (machine_of fault) (sides_in below) march q) (Some w.0) =
    subst (IsLeastOf (GetsThrough (machine_of fault) (sides_in below) march q)) some (least_whole (machine_of fault) (sides_in below) march q is) in
    (w.0, least.0)
