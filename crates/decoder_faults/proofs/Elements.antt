-- Which elements catch a fault of the address decoder alone: before each element the two cells hold what was written last, or the fault is caught.
use Rattle.std.proofs.Common.{◌≡◌, Bool, true, false, not, cond, Option, Some, None, is_some, List, [], ◌∷◌, refl, ap, sym, subst, ◌∙◌}
use Rattle.std.specs.Option.{option_and_then}
use Rattle.fault_core.specs.Primitive.{same_bit}
use Rattle.march_core.specs.declared.operation.Op.{Op}
use Rattle.march_core.specs.declared.operation.Op.TheVariants.{W0, W1, R0, R1}
use Rattle.march_core.specs.inner.Scan.{is_right, scan_of}
use Rattle.march_core.specs.Operation.{is_wrong_of}
use Rattle.array_sim.specs.Run.{act_of}
use Rattle.cell_machine.specs.declared.pair.Pair.{Pair}
use Rattle.cell_machine.specs.declared.pair.Side.{Side}
use Rattle.cell_machine.specs.declared.pair.Side.TheVariants.{A, V}
use Rattle.cell_machine.specs.Pairs.{pair_of}
use Rattle.pair_tracker.specs.Few.{ops_run, cells_run}
use Rattle.pair_tracker.proofs.Few.{right_first}
use Rattle.decoder_faults.specs.declared.fault.WiredRead.{WiredRead}
use Rattle.decoder_faults.specs.declared.fault.WiredRead.TheVariants.{And, Or, Own}
use Rattle.decoder_faults.specs.declared.fault.DecoderFault.{DecoderFault}
use Rattle.decoder_faults.specs.declared.fault.DecoderFault.TheVariants.{NoCell, OtherCell, BothCells, TakenCell}
use Rattle.decoder_faults.specs.declared.pair.SideReach.{SideReach}
use Rattle.decoder_faults.specs.declared.pair.SideReach.TheVariants.{Neither, One, Both}
use Rattle.decoder_faults.specs.Conditions.{read_first, later, written_last, turned, has_read, does_show}
use Rattle.decoder_faults.specs.inner.Pairs.{side_reach, pair_written, pair_read, pair_act, pair_reply, machine_of}

-- the operations at an address that reaches these cells
abbrev reach_run : SideReach → Pair → List Op → Option Pair
reach_run reach q [] = Some q
reach_run reach q (op ∷ ops) = cond (is_wrong_of op (pair_reply reach q (act_of op))) None (reach_run reach (pair_act reach q (act_of op)) ops)

reach_is : (fault : DecoderFault) (s : Side) (q : Pair) (ops : List Op) → ops_run (machine_of fault) q s ops ≡ reach_run (side_reach fault s) q ops
reach_is fault s q [] = refl
reach_is fault s q (op ∷ ops) =
    ap (λ r. cond (is_wrong_of op (pair_reply (side_reach fault s) q (act_of op))) None r) (reach_is fault s (pair_act (side_reach fault s) q (act_of op)) ops)

-- an address that reaches some cell
abbrev IsPlain : SideReach → Type 0
IsPlain (Neither answer) = ⊥
IsPlain (One s) = Unit {0}
IsPlain (Both own wired) = Unit {0}

read_written : (reach : SideReach) → IsPlain reach → (q : Pair) (bit : Bool) → pair_read reach (pair_written reach q bit) ≡ bit
read_written (Neither answer) plain q bit = absurd plain
read_written (One A) plain q bit = refl
read_written (One V) plain q bit = refl
read_written (Both A And) plain q true = refl
read_written (Both A And) plain q false = refl
read_written (Both A Or) plain q true = refl
read_written (Both A Or) plain q false = refl
read_written (Both A Own) plain q bit = refl
read_written (Both V And) plain q true = refl
read_written (Both V And) plain q false = refl
read_written (Both V Or) plain q true = refl
read_written (Both V Or) plain q false = refl
read_written (Both V Own) plain q bit = refl

-- the cells with what was written last, if anything was
abbrev pair_left : SideReach → Pair → Option Bool → Pair
pair_left reach q None = q
pair_left reach q (Some bit) = pair_written reach q bit

left_on : (reach : SideReach) (q : Pair) (bit : Bool) (left : Option Bool) → pair_left reach (pair_written reach q bit) left ≡ pair_left reach q (later (Some bit) left)
left_on reach q bit None = refl
left_on (Neither answer) q bit (Some other) = refl
left_on (One A) q bit (Some other) = refl
left_on (One V) q bit (Some other) = refl
left_on (Both own wired) q bit (Some other) = refl

later_none : (o : Option Bool) → later None o ≡ o
later_none None = refl
later_none (Some bit) = refl

later_twice : (last : Option Bool) (bit : Bool) (o : Option Bool) → later last (later (Some bit) o) ≡ later (Some bit) o
later_twice last bit None = refl
later_twice last bit (Some other) = refl

-- where a read answers what was written last, so do all
goes_on : (reach : SideReach) → IsPlain reach → (q : Pair) (bit : Bool) (ops : List Op) (next : Option Bool) → scan_of (Some bit) ops ≡ Some next
    → pair_read reach q ≡ bit → reach_run reach q ops ≡ Some (pair_left reach q (written_last ops))
goes_on reach plain q bit [] next scanned held = refl
goes_on reach plain q bit (W0 ∷ ops) next scanned held =
    goes_on reach plain (pair_written reach q false) false ops next scanned (read_written reach plain q false) ∙ ap Some (left_on reach q false (written_last ops))
goes_on reach plain q bit (W1 ∷ ops) next scanned held =
    goes_on reach plain (pair_written reach q true) true ops next scanned (read_written reach plain q true) ∙ ap Some (left_on reach q true (written_last ops))
goes_on reach plain q true (R0 ∷ ops) next scanned held = cc
goes_on reach plain q false (R0 ∷ ops) next scanned held =
    ap (λ b. cond (is_wrong_of R0 (Some b)) None (reach_run reach q ops)) held ∙ goes_on reach plain q false ops next scanned held
    ∙ ap (λ o. Some (pair_left reach q o)) (sym (later_none (written_last ops)))
goes_on reach plain q false (R1 ∷ ops) next scanned held = cc
goes_on reach plain q true (R1 ∷ ops) next scanned held =
    ap (λ b. cond (is_wrong_of R1 (Some b)) None (reach_run reach q ops)) held ∙ goes_on reach plain q true ops next scanned held
    ∙ ap (λ o. Some (pair_left reach q o)) (sym (later_none (written_last ops)))

-- so the first read decides
abbrev answers : Option Bool → Bool → Bool
answers None bit = true
answers (Some expected) bit = same_bit bit expected

abbrev tested : SideReach → Option Bool → Option Bool → Pair → Option Pair
tested reach read left q = cond (answers read (pair_read reach q)) (Some (pair_left reach q left)) None

runs_as : (reach : SideReach) → IsPlain reach → (q : Pair) (last next : Option Bool) (ops : List Op) → scan_of last ops ≡ Some next
    → reach_run reach q ops ≡ tested reach (read_first ops) (written_last ops) q
runs_as reach plain q last next [] scanned = refl
runs_as reach plain q last next (W0 ∷ ops) scanned =
    goes_on reach plain (pair_written reach q false) false ops next scanned (read_written reach plain q false) ∙ ap Some (left_on reach q false (written_last ops))
runs_as reach plain q last next (W1 ∷ ops) scanned =
    goes_on reach plain (pair_written reach q true) true ops next scanned (read_written reach plain q true) ∙ ap Some (left_on reach q true (written_last ops))
runs_as reach plain q None next (R0 ∷ ops) scanned = cc
runs_as reach plain q (Some true) next (R0 ∷ ops) scanned = cc
runs_as reach plain q (Some false) next (R0 ∷ ops) scanned = go (pair_read reach q) refl
  where
    left : Option Pair
    left = Some (pair_left reach q (later None (written_last ops)))

    go : (b : Bool) → pair_read reach q ≡ b → cond (is_wrong_of R0 (Some b)) None (reach_run reach q ops) ≡ cond (same_bit b false) left None
    go true e = refl
    go false e = goes_on reach plain q false ops next scanned e ∙ ap (λ o. Some (pair_left reach q o)) (sym (later_none (written_last ops)))
runs_as reach plain q None next (R1 ∷ ops) scanned = cc
runs_as reach plain q (Some false) next (R1 ∷ ops) scanned = cc
runs_as reach plain q (Some true) next (R1 ∷ ops) scanned = go (pair_read reach q) refl
  where
    left : Option Pair
    left = Some (pair_left reach q (later None (written_last ops)))

    go : (b : Bool) → pair_read reach q ≡ b → cond (is_wrong_of R1 (Some b)) None (reach_run reach q ops) ≡ cond (same_bit b true) left None
    go false e = refl
    go true e = goes_on reach plain q true ops next scanned e ∙ ap (λ o. Some (pair_left reach q o)) (sym (later_none (written_last ops)))

-- an address that reaches no cell
neither_runs : (answer : Bool) (q : Pair) (ops : List Op) → reach_run (Neither answer) q ops ≡ cond (has_read (not answer) ops) None (Some q)
neither_runs answer q [] = refl
neither_runs answer q (W0 ∷ ops) = neither_runs answer q ops
neither_runs answer q (W1 ∷ ops) = neither_runs answer q ops
neither_runs true q (R0 ∷ ops) = refl
neither_runs false q (R0 ∷ ops) = neither_runs false q ops
neither_runs true q (R1 ∷ ops) = neither_runs true q ops
neither_runs false q (R1 ∷ ops) = refl

-- what is written last after some operations, and what the first of them reads
pub next_is : (last next : Option Bool) (ops : List Op) → scan_of last ops ≡ Some next → next ≡ later last (written_last ops)
next_is last next [] scanned = cc
next_is last next (W0 ∷ ops) scanned = next_is (Some false) next ops scanned ∙ sym (later_twice last false (written_last ops))
next_is last next (W1 ∷ ops) scanned = next_is (Some true) next ops scanned ∙ sym (later_twice last true (written_last ops))
next_is last next (R0 ∷ ops) scanned =
    next_is last next ops (right_first (is_right last R0) (scan_of last ops) next scanned).1 ∙ ap (later last) (sym (later_none (written_last ops)))
next_is last next (R1 ∷ ops) scanned =
    next_is last next ops (right_first (is_right last R1) (scan_of last ops) next scanned).1 ∙ ap (later last) (sym (later_none (written_last ops)))

abbrev ReadsLast : Option Bool → Option Bool → Type 0
ReadsLast None last = Unit {0}
ReadsLast (Some bit) last = last ≡ Some bit

reads_last : (last next : Option Bool) (ops : List Op) → scan_of last ops ≡ Some next → ReadsLast (read_first ops) last
reads_last last next [] scanned = tt
reads_last last next (W0 ∷ ops) scanned = tt
reads_last last next (W1 ∷ ops) scanned = tt
reads_last None next (R0 ∷ ops) scanned = cc
reads_last (Some true) next (R0 ∷ ops) scanned = cc
reads_last (Some false) next (R0 ∷ ops) scanned = refl
reads_last None next (R1 ∷ ops) scanned = cc
reads_last (Some false) next (R1 ∷ ops) scanned = cc
reads_last (Some true) next (R1 ∷ ops) scanned = refl

-- the two cells hold what was written last; cell x only where some address reaches it
abbrev pub Held : DecoderFault → Option Bool → Pair → Type 0
Held (NoCell answer) None q = Unit {0}
Held (NoCell answer) (Some bit) q = q.v ≡ bit
Held OtherCell None q = Unit {0}
Held OtherCell (Some bit) q = q.v ≡ bit
Held (BothCells wired) None q = Unit {0}
Held (BothCells wired) (Some bit) q = (q.a ≡ bit) × (q.v ≡ bit)
Held (TakenCell answer wired) None q = Unit {0}
Held (TakenCell answer wired) (Some bit) q = (q.a ≡ bit) × (q.v ≡ bit)

-- whether these operations catch the fault, by whether they are done at x first
abbrev pub caught_by : DecoderFault → Bool → List Op → Bool
caught_by (NoCell answer) x_first ops = has_read (not answer) ops
caught_by OtherCell x_first ops = is_some (turned (read_first ops) (written_last ops))
caught_by (BothCells wired) x_first ops = does_show wired x_first (turned (read_first ops) (written_last ops))
caught_by (TakenCell answer wired) x_first ops = has_read (not answer) ops

abbrev pub Ends : DecoderFault → Option Bool → Option Pair → Bool → Type 0
Ends fault next None true = Unit {0}
Ends fault next None false = ⊥
Ends fault next (Some q) true = ⊥
Ends fault next (Some q) false = Held fault next q

-- at both addresses in turn
abbrev in_turn : (Pair → Option Pair) → (Pair → Option Pair) → Pair → Option Pair
in_turn f g q = option_and_then (λ z. option_and_then (λ w. Some w) (g z)) (f q)

turn_is : (f f' g g' : Pair → Option Pair) (q : Pair) → f q ≡ f' q → ((z : Pair) → g z ≡ g' z) → in_turn f g q ≡ in_turn f' g' q
turn_is f f' g g' q e same = ap (option_and_then (λ z. option_and_then (λ w. Some w) (g z))) e ∙ go (f' q)
  where
    go : (o : Option Pair) → option_and_then (λ z. option_and_then (λ w. Some w) (g z)) o ≡ option_and_then (λ z. option_and_then (λ w. Some w) (g' z)) o
    go None = refl
    go (Some z) = ap (option_and_then (λ w. Some w)) (same z)

sides_are : (fault : DecoderFault) (s t : Side) (q : Pair) (ops : List Op)
    → cells_run (machine_of fault) q (Some s ∷ Some t ∷ []) ops ≡ in_turn (λ z. reach_run (side_reach fault s) z ops) (λ z. reach_run (side_reach fault t) z ops) q
sides_are fault s t q ops =
    turn_is (λ z. ops_run (machine_of fault) z s ops) (λ z. reach_run (side_reach fault s) z ops) (λ z. ops_run (machine_of fault) z t ops)
    (λ z. reach_run (side_reach fault t) z ops) q (reach_is fault s q ops) (λ z. reach_is fault t z ops)

both_tested : (fault : DecoderFault) (s t : Side) → IsPlain (side_reach fault s) → IsPlain (side_reach fault t) → (q : Pair) (last next : Option Bool) (ops : List Op) → scan_of last ops ≡ Some next
    → cells_run (machine_of fault) q (Some s ∷ Some t ∷ []) ops
    ≡ in_turn (tested (side_reach fault s) (read_first ops) (written_last ops)) (tested (side_reach fault t) (read_first ops) (written_last ops)) q
both_tested fault s t ps pt q last next ops scanned =
    sides_are fault s t q ops
    ∙ turn_is (λ z. reach_run (side_reach fault s) z ops) (tested (side_reach fault s) (read_first ops) (written_last ops)) (λ z. reach_run (side_reach fault t) z ops)
    (tested (side_reach fault t) (read_first ops) (written_last ops)) q (runs_as (side_reach fault s) ps q last next ops scanned) (λ z. runs_as (side_reach fault t) pt z last next ops scanned)

-- cell y alone
other_read : (a v s : Bool) (left : Option Bool) → v ≡ s
    → Ends OtherCell (later (Some s) left) (in_turn (tested (One V) (Some s) left) (tested (One V) (Some s) left) (pair_of a v)) (is_some (turned (Some s) left))
other_read a true true None e = refl
other_read a true true (Some true) e = refl
other_read a true true (Some false) e = tt
other_read a true false left e = cc
other_read a false true left e = cc
other_read a false false None e = refl
other_read a false false (Some true) e = tt
other_read a false false (Some false) e = refl

other_ends : (read left last : Option Bool) (q : Pair) → ReadsLast read last → Held OtherCell last q
    → Ends OtherCell (later last left) (in_turn (tested (One V) read left) (tested (One V) read left) q) (is_some (turned read left))
other_ends None None last q reads held = held
other_ends None (Some bit) last q reads held = refl
other_ends (Some s) left None q reads held = cc
other_ends (Some s) left (Some bit) q reads held =
    let same : bit ≡ s = cc in
    subst (λ b. Ends OtherCell (later (Some b) left) (in_turn (tested (One V) (Some s) left) (tested (One V) (Some s) left) q) (is_some (turned (Some s) left))) (sym same)
    (other_read q.a q.v s left (held ∙ same))

-- both cells at x, and cell y at y
both_x_first : (wired : WiredRead) (s : Bool) (left : Option Bool)
    → Ends (BothCells wired) (later (Some s) left) (in_turn (tested (Both A wired) (Some s) left) (tested (One V) (Some s) left) (pair_of s s)) (does_show wired true (turned (Some s) left))
both_x_first And true None = (refl, refl)
both_x_first And true (Some true) = (refl, refl)
both_x_first And true (Some false) = tt
both_x_first And false None = (refl, refl)
both_x_first And false (Some true) = tt
both_x_first And false (Some false) = (refl, refl)
both_x_first Or true None = (refl, refl)
both_x_first Or true (Some true) = (refl, refl)
both_x_first Or true (Some false) = tt
both_x_first Or false None = (refl, refl)
both_x_first Or false (Some true) = tt
both_x_first Or false (Some false) = (refl, refl)
both_x_first Own true None = (refl, refl)
both_x_first Own true (Some true) = (refl, refl)
both_x_first Own true (Some false) = tt
both_x_first Own false None = (refl, refl)
both_x_first Own false (Some true) = tt
both_x_first Own false (Some false) = (refl, refl)

both_y_first : (wired : WiredRead) (s : Bool) (left : Option Bool)
    → Ends (BothCells wired) (later (Some s) left) (in_turn (tested (One V) (Some s) left) (tested (Both A wired) (Some s) left) (pair_of s s)) (does_show wired false (turned (Some s) left))
both_y_first And true None = (refl, refl)
both_y_first And true (Some true) = (refl, refl)
both_y_first And true (Some false) = tt
both_y_first And false None = (refl, refl)
both_y_first And false (Some true) = (refl, refl)
both_y_first And false (Some false) = (refl, refl)
both_y_first Or true None = (refl, refl)
both_y_first Or true (Some true) = (refl, refl)
both_y_first Or true (Some false) = (refl, refl)
both_y_first Or false None = (refl, refl)
both_y_first Or false (Some true) = tt
both_y_first Or false (Some false) = (refl, refl)
both_y_first Own true None = (refl, refl)
both_y_first Own true (Some true) = (refl, refl)
both_y_first Own true (Some false) = (refl, refl)
both_y_first Own false None = (refl, refl)
both_y_first Own false (Some true) = (refl, refl)
both_y_first Own false (Some false) = (refl, refl)

-- the reaches in the order of the visits
abbrev both_order : WiredRead → Bool → Option Bool → Option Bool → Pair → Option Pair
both_order wired true read left q = in_turn (tested (Both A wired) read left) (tested (One V) read left) q
both_order wired false read left q = in_turn (tested (One V) read left) (tested (Both A wired) read left) q

both_read : (wired : WiredRead) (x_first s : Bool) (left : Option Bool)
    → Ends (BothCells wired) (later (Some s) left) (both_order wired x_first (Some s) left (pair_of s s)) (does_show wired x_first (turned (Some s) left))
both_read wired true s left = both_x_first wired s left
both_read wired false s left = both_y_first wired s left

both_unread : (wired : WiredRead) (x_first : Bool) (left last : Option Bool) (q : Pair) → Held (BothCells wired) last q
    → Ends (BothCells wired) (later last left) (both_order wired x_first None left q) false
both_unread wired true None last q held = held
both_unread wired true (Some bit) last q held = (refl, refl)
both_unread wired false None last q held = held
both_unread wired false (Some bit) last q held = (refl, refl)

same_cells : (q : Pair) (s : Bool) → q.a ≡ s → q.v ≡ s → q ≡ pair_of s s
same_cells q s e f = ap (λ x. pair_of x q.v) e ∙ ap (pair_of s) f

both_ends : (wired : WiredRead) (x_first : Bool) (read left last : Option Bool) (q : Pair) → ReadsLast read last → Held (BothCells wired) last q
    → Ends (BothCells wired) (later last left) (both_order wired x_first read left q) (does_show wired x_first (turned read left))
both_ends wired x_first None left last q reads held = both_unread wired x_first left last q held
both_ends wired x_first (Some s) left None q reads held = cc
both_ends wired x_first (Some s) left (Some bit) q reads held =
    let same : bit ≡ s = cc in
    subst (λ b. Ends (BothCells wired) (later (Some b) left) (both_order wired x_first (Some s) left q) (does_show wired x_first (turned (Some s) left))) (sym same)
    (subst (λ z. Ends (BothCells wired) (later (Some s) left) (both_order wired x_first (Some s) left z) (does_show wired x_first (turned (Some s) left)))
    (sym (same_cells q s (held.0 ∙ same) (held.1 ∙ same))) (both_read wired x_first s left))

-- no cell at x, and plain reads at y
same_itself : (b : Bool) → same_bit b b ≡ true
same_itself true = refl
same_itself false = refl

plain_runs : (reach : SideReach) → IsPlain reach → (q : Pair) (last next : Option Bool) (ops : List Op) → scan_of last ops ≡ Some next
    → ((bit : Bool) → last ≡ Some bit → pair_read reach q ≡ bit) → reach_run reach q ops ≡ Some (pair_left reach q (written_last ops))
plain_runs reach plain q last next ops scanned held =
    runs_as reach plain q last next ops scanned
    ∙ ap (λ b. cond b (Some (pair_left reach q (written_last ops))) None) (right (read_first ops) (reads_last last next ops scanned))
  where
    right : (read : Option Bool) → ReadsLast read last → answers read (pair_read reach q) ≡ true
    right None reads = refl
    right (Some s) reads = ap (λ b. same_bit b s) (held s reads) ∙ same_itself s

abbrev none_order : Bool → SideReach → Bool → List Op → Pair → Option Pair
none_order answer reach true ops q = in_turn (λ z. reach_run (Neither answer) z ops) (λ z. reach_run reach z ops) q
none_order answer reach false ops q = in_turn (λ z. reach_run reach z ops) (λ z. reach_run (Neither answer) z ops) q

none_ends : (fault : DecoderFault) (next : Option Bool) (answer x_first : Bool) (reach : SideReach) (q z : Pair) (ops : List Op)
    → reach_run reach q ops ≡ Some z → Held fault next z → Ends fault next (none_order answer reach x_first ops q) (has_read (not answer) ops)
none_ends fault next answer true reach q z ops runs held =
    subst (λ o. Ends fault next (option_and_then (λ y. option_and_then (λ w. Some w) (reach_run reach y ops)) o) (has_read (not answer) ops)) (sym (neither_runs answer q ops))
    (go (has_read (not answer) ops))
  where
    go : (b : Bool) → Ends fault next (option_and_then (λ y. option_and_then (λ w. Some w) (reach_run reach y ops)) (cond b None (Some q))) b
    go true = tt
    go false = subst (λ o. Ends fault next (option_and_then (λ w. Some w) o) false) (sym runs) held
none_ends fault next answer false reach q z ops runs held =
    subst (λ o. Ends fault next (option_and_then (λ y. option_and_then (λ w. Some w) (reach_run (Neither answer) y ops)) o) (has_read (not answer) ops)) (sym runs)
    (subst (λ o. Ends fault next (option_and_then (λ w. Some w) o) (has_read (not answer) ops)) (sym (neither_runs answer z ops)) (go (has_read (not answer) ops)))
  where
    go : (b : Bool) → Ends fault next (option_and_then (λ w. Some w) (cond b None (Some z))) b
    go true = tt
    go false = held

-- one address of the two after the other
abbrev pub sides_by : Bool → List (Option Side)
sides_by true = Some A ∷ Some V ∷ []
sides_by false = Some V ∷ Some A ∷ []

sweep_says : (fault : DecoderFault) (x_first : Bool) (ops : List Op) (last next : Option Bool) (q : Pair) → scan_of last ops ≡ Some next → Held fault last q
    → Ends fault (later last (written_last ops)) (cells_run (machine_of fault) q (sides_by x_first) ops) (caught_by fault x_first ops)
sweep_says OtherCell true ops last next q scanned held =
    subst (λ o. Ends OtherCell (later last (written_last ops)) o (caught_by OtherCell true ops)) (sym (both_tested OtherCell A V tt tt q last next ops scanned))
    (other_ends (read_first ops) (written_last ops) last q (reads_last last next ops scanned) held)
sweep_says OtherCell false ops last next q scanned held =
    subst (λ o. Ends OtherCell (later last (written_last ops)) o (caught_by OtherCell false ops)) (sym (both_tested OtherCell V A tt tt q last next ops scanned))
    (other_ends (read_first ops) (written_last ops) last q (reads_last last next ops scanned) held)
sweep_says (BothCells wired) true ops last next q scanned held =
    subst (λ o. Ends (BothCells wired) (later last (written_last ops)) o (caught_by (BothCells wired) true ops)) (sym (both_tested (BothCells wired) A V tt tt q last next ops scanned))
    (both_ends wired true (read_first ops) (written_last ops) last q (reads_last last next ops scanned) held)
sweep_says (BothCells wired) false ops last next q scanned held =
    subst (λ o. Ends (BothCells wired) (later last (written_last ops)) o (caught_by (BothCells wired) false ops)) (sym (both_tested (BothCells wired) V A tt tt q last next ops scanned))
    (both_ends wired false (read_first ops) (written_last ops) last q (reads_last last next ops scanned) held)
sweep_says (NoCell answer) x_first ops last next q scanned held = go x_first
  where
    plain : (bit : Bool) → last ≡ Some bit → q.v ≡ bit
    plain bit e = subst (λ l. Held (NoCell answer) l q) e held

    after : (l left : Option Bool) → Held (NoCell answer) l q → Held (NoCell answer) (later l left) (pair_left (One V) q left)
    after l None h = h
    after l (Some bit) h = refl

    ends : (b : Bool) → Ends (NoCell answer) (later last (written_last ops)) (none_order answer (One V) b ops q) (has_read (not answer) ops)
    ends b =
        none_ends (NoCell answer) (later last (written_last ops)) answer b (One V) q (pair_left (One V) q (written_last ops)) ops
        (plain_runs (One V) tt q last next ops scanned plain) (after last (written_last ops) held)

    go : (b : Bool) → Ends (NoCell answer) (later last (written_last ops)) (cells_run (machine_of (NoCell answer)) q (sides_by b) ops) (has_read (not answer) ops)
    go true = subst (λ o. Ends (NoCell answer) (later last (written_last ops)) o (has_read (not answer) ops)) (sym (sides_are (NoCell answer) A V q ops)) (ends true)
    go false = subst (λ o. Ends (NoCell answer) (later last (written_last ops)) o (has_read (not answer) ops)) (sym (sides_are (NoCell answer) V A q ops)) (ends false)
sweep_says (TakenCell answer wired) x_first ops last next q scanned held = go x_first
  where
    both_same : (w : WiredRead) (bit : Bool) → pair_read (Both V w) (pair_of bit bit) ≡ bit
    both_same And true = refl
    both_same And false = refl
    both_same Or true = refl
    both_same Or false = refl
    both_same Own bit = refl

    plain : (bit : Bool) → last ≡ Some bit → pair_read (Both V wired) q ≡ bit
    plain bit e =
        let h : (q.a ≡ bit) × (q.v ≡ bit) = subst (λ l. Held (TakenCell answer wired) l q) e held in
        ap (pair_read (Both V wired)) (same_cells q bit h.0 h.1) ∙ both_same wired bit

    after : (l left : Option Bool) → Held (TakenCell answer wired) l q → Held (TakenCell answer wired) (later l left) (pair_left (Both V wired) q left)
    after l None h = h
    after l (Some bit) h = (refl, refl)

    ends : (b : Bool) → Ends (TakenCell answer wired) (later last (written_last ops)) (none_order answer (Both V wired) b ops q) (has_read (not answer) ops)
    ends b =
        none_ends (TakenCell answer wired) (later last (written_last ops)) answer b (Both V wired) q (pair_left (Both V wired) q (written_last ops)) ops
        (plain_runs (Both V wired) tt q last next ops scanned plain) (after last (written_last ops) held)

    go : (b : Bool) → Ends (TakenCell answer wired) (later last (written_last ops)) (cells_run (machine_of (TakenCell answer wired)) q (sides_by b) ops) (has_read (not answer) ops)
    go true = subst (λ o. Ends (TakenCell answer wired) (later last (written_last ops)) o (has_read (not answer) ops)) (sym (sides_are (TakenCell answer wired) A V q ops)) (ends true)
    go false = subst (λ o. Ends (TakenCell answer wired) (later last (written_last ops)) o (has_read (not answer) ops)) (sym (sides_are (TakenCell answer wired) V A q ops)) (ends false)

-- an element that doesn't catch the fault leaves what it wrote last
pub sweep_ends : (fault : DecoderFault) (x_first : Bool) (ops : List Op) (last next : Option Bool) (q : Pair) → scan_of last ops ≡ Some next → Held fault last q
    → Ends fault next (cells_run (machine_of fault) q (sides_by x_first) ops) (caught_by fault x_first ops)
sweep_ends fault x_first ops last next q scanned held =
    subst (λ n. Ends fault n (cells_run (machine_of fault) q (sides_by x_first) ops) (caught_by fault x_first ops)) (sym (next_is last next ops scanned))
    (sweep_says fault x_first ops last next q scanned held)
