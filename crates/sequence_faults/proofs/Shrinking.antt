-- A cell beside another that isn't the instance's, or between two of the instance's, makes no difference.
use Rattle.std.proofs.Common.{◌≡◌, ◌≢◌, ◌+◌, ◌-◌, ◌<◌, ◌≤◌, ℕ, zero, suc, Bool, true, false, cond, eqb, nat_lt, Option, Some, None, List, [], ◌∷◌, ◌++◌, map, reverse, refl, ap, sym, subst, ◌∙◌, append_assoc, ◌⊎◌, inl, inr, ⊎_elim, arith}
use Rattle.std.specs.List.{range_with_len}
use Rattle.std.specs.Option.{option_and_then}
use Rattle.std.proofs.lemmas.Bool.{ne_eqb, eqb-true, lt-ltb, le-ltb, cases_lt}
use Rattle.std.proofs.lemmas.Bool.Decides.{nat_tests}
use Rattle.std.proofs.lemmas.List.{map-append, reverse-append}
use Rattle.fault_core.specs.declared.primitive.Act.{Act}
use Rattle.fault_core.specs.Primitive.{same_bit}
use Rattle.fault_core.specs.Cells.{cell, plain_cells, plain_answer, answer_or}
use Rattle.march_core.specs.declared.operation.Op.{Op}
use Rattle.march_core.specs.Operation.{is_wrong_of}
use Rattle.march_core.specs.March.{MarchElement, pause, sweep}
use Rattle.march_core.specs.Visits.{Direction, Upward, Downward, addresses}
use Rattle.array_sim.specs.Run.{act_of}
use Rattle.pair_tracker.specs.Few.{Machine, Order, ops_run, cell_run, cells_run, few_run}
use Rattle.pair_tracker.proofs.Tags.{map-reverse}
use Rattle.sequence_faults.specs.declared.few.Few.{Few}
use Rattle.sequence_faults.specs.declared.few.Spots.{Spots}
use Rattle.sequence_faults.specs.Primitive.{SequencePrimitive, left_by}
use Rattle.sequence_faults.specs.Stepping.{Held, held_as, nothing, victim_at, actor_at, states_hold, done_by, begun, is_whole, set_where, seq_cells, kept_where, seq_step, seq_answer}
use Rattle.sequence_faults.specs.inner.Few.{three, few_as, few_of, held_of, passed_by, machine_of, seat_at, order_at}

-- ---- the order of the cells

-- two lists of cells that do the same
abbrev Alike : SequencePrimitive → List (Option ℕ) → List (Option ℕ) → Type 0
Alike p xs ys = (q : Few) (ops : List Op) → cells_run (machine_of p) q xs ops ≡ cells_run (machine_of p) q ys ops

alike_behind : (p : SequencePrimitive) (xs ys zs : List (Option ℕ)) → Alike p ys zs → Alike p (xs ++ ys) (xs ++ zs)
alike_behind p [] ys zs same q ops = same q ops
alike_behind p (t ∷ xs) ys zs same q ops = go (λ r. alike_behind p xs ys zs same r ops) (cell_run (machine_of p) q t ops)
  where
    go : ((r : Few) → cells_run (machine_of p) r (xs ++ ys) ops ≡ cells_run (machine_of p) r (xs ++ zs) ops) → (o : Option Few)
        → option_and_then (λ r. cells_run (machine_of p) r (xs ++ ys) ops) o ≡ option_and_then (λ r. cells_run (machine_of p) r (xs ++ zs) ops) o
    go h None = refl
    go h (Some r) = h r

-- others beside each other do what one of them does
one_less : (p : SequencePrimitive) (ys : List (Option ℕ)) → Alike p (None ∷ None ∷ ys) (None ∷ ys)
one_less p ys q [] = refl
one_less p ys q (op ∷ ops) = refl

-- between two different cells of an instance nothing stays done: what is done on one is for that one alone
module _ (p : SequencePrimitive) where
  abbrev actor : ℕ
  actor = actor_at p three

  kept_none : (b : Bool) → kept_where b nothing ≡ nothing
  kept_none true = refl
  kept_none false = refl

  undone : (q : Few) (i : ℕ) (act : Act) → eqb actor i ≡ false → (few_of (seq_step p three (held_of q) i act)).done ≡ nothing
  unfolding seq_step
  undone q i act off =
      let h : Held = held_of q in
      let plain : Bool = same_bit (cell (seq_cells p three h i act) i) (left_by (cell h.cells i) act) in
      ap (λ b. kept_where plain (cond b (done_by act (states_hold p.states three h.cells) p.acts h.done) nothing)) off ∙ kept_none plain

  goes_on : (wrong : Bool) (o : Option Few) (r : Few) → cond wrong None o ≡ Some r → o ≡ Some r
  goes_on true o r e = cc
  goes_on false o r e = e

  left_undone : (i : ℕ) → eqb actor i ≡ false → (op : Op) (ops : List Op) (q r : Few) → ops_run (machine_of p) q i (op ∷ ops) ≡ Some r → r.done ≡ nothing
  left_undone i off op [] q r e =
      let next : Few = few_of (seq_step p three (held_of q) i (act_of op)) in
      let ran : Some next ≡ Some r = goes_on (is_wrong_of op (seq_answer p three (held_of q) i (act_of op))) (Some next) r e in
      let same : next ≡ r = cc in
      sym (ap (λ (z : Few). z.done) same) ∙ undone q i (act_of op) off
  left_undone i off op (op2 ∷ more) q r e =
      let next : Few = few_of (seq_step p three (held_of q) i (act_of op)) in
      left_undone i off op2 more next r (goes_on (is_wrong_of op (seq_answer p three (held_of q) i (act_of op))) (ops_run (machine_of p) next i (op2 ∷ more)) r e)

  -- an act on a cell that isn't the actor's, whatever was done
  begun_off : (cells done : List Bool) (j : ℕ) (act : Act) → eqb actor j ≡ false → begun p three (held_as cells nothing) j act ≡ begun p three (held_as cells done) j act
  begun_off cells done j act off =
      ap (λ b. cond b (done_by act (states_hold p.states three cells) p.acts nothing) nothing) off
      ∙ sym (ap (λ b. cond b (done_by act (states_hold p.states three cells) p.acts done) nothing) off)

  answer_off : (cells done : List Bool) (j : ℕ) (act : Act) → eqb actor j ≡ false → seq_answer p three (held_as cells nothing) j act ≡ seq_answer p three (held_as cells done) j act
  unfolding seq_answer
  answer_off cells done j act off =
      ap (λ d. cond (is_whole p d) (answer_or p.answer (plain_answer cells j act)) (plain_answer cells j act)) (begun_off cells done j act off)

  step_off : (cells done : List Bool) (j : ℕ) (act : Act) → eqb actor j ≡ false → seq_step p three (held_as cells nothing) j act ≡ seq_step p three (held_as cells done) j act
  unfolding seq_step seq_cells
  step_off cells done j act off =
      let set : List Bool → List Bool = λ d. set_where (is_whole p d) (plain_cells cells j act) (victim_at p three) p.after in
      ap (λ d. held_as (set d) (kept_where (same_bit (cell (set d) j) (left_by (cell cells j) act)) d)) (begun_off cells done j act off)

  crossed : (i j : ℕ) → i ≢ j → (op : Op) (ops : List Op) (q r : Few) → ops_run (machine_of p) q i (op ∷ ops) ≡ Some r
      → ops_run (machine_of p) (passed_by r) j (op ∷ ops) ≡ ops_run (machine_of p) r j (op ∷ ops)
  crossed i j apart op ops q r e = go (eqb actor j) refl
    where
      go : (b : Bool) → eqb actor j ≡ b → ops_run (machine_of p) (passed_by r) j (op ∷ ops) ≡ ops_run (machine_of p) r j (op ∷ ops)
      go false off =
          let cells : List Bool = r.x ∷ r.y ∷ r.z ∷ [] in
          ap (λ a. cond (is_wrong_of op a) None (ops_run (machine_of p) (few_of (seq_step p three (held_as cells nothing) j (act_of op))) j ops)) (answer_off cells r.done j (act_of op) off)
          ∙ ap (λ h. cond (is_wrong_of op (seq_answer p three (held_as cells r.done) j (act_of op))) None (ops_run (machine_of p) (few_of h) j ops)) (step_off cells r.done j (act_of op) off)
      go true on =
          let here : actor ≡ j = eqb-true actor j on in
          let off : eqb actor i ≡ false = ne_eqb actor i (λ k. apart (sym k ∙ here)) in
          ap (λ d. ops_run (machine_of p) (few_as r.x r.y r.z d) j (op ∷ ops)) (sym (left_undone i off op ops q r e))

  crossing : (i j : ℕ) (ys : List (Option ℕ)) → i ≢ j → Alike p (Some i ∷ None ∷ Some j ∷ ys) (Some i ∷ Some j ∷ ys)
  crossing i j ys apart q [] = refl
  crossing i j ys apart q (op ∷ ops) = go (ops_run (machine_of p) q i (op ∷ ops)) refl
    where
      go : (o : Option Few) → ops_run (machine_of p) q i (op ∷ ops) ≡ o
          → option_and_then (λ r. cells_run (machine_of p) r (None ∷ Some j ∷ ys) (op ∷ ops)) o ≡ option_and_then (λ r. cells_run (machine_of p) r (Some j ∷ ys) (op ∷ ops)) o
      go None e = refl
      go (Some r) e = ap (option_and_then (λ z. cells_run (machine_of p) z ys (op ∷ ops))) (crossed i j apart op ops q r e)

-- a march by two orders that do the same
few_same : (m : Machine Few ℕ) (o p : Order ℕ) → ((d : Direction) (q : Few) (ops : List Op) → cells_run m q (o d) ops ≡ cells_run m q (p d) ops)
    → (es : List MarchElement) (ds : List Direction) (q : Few) → few_run m o q es ds ≡ few_run m p q es ds
few_same m o p same [] ds q = refl
few_same m o p same (e ∷ es) [] q = refl
few_same m o p same (pause ∷ es) (d ∷ ds) q = few_same m o p same es ds (m.pause q)
few_same m o p same (sweep way ops ∷ es) (d ∷ ds) q =
    ap (option_and_then (λ r. few_run m o r es ds)) (same d q ops) ∙ go (λ r. few_same m o p same es ds r) (cells_run m q (p d) ops)
  where
    go : ((r : Few) → few_run m o r es ds ≡ few_run m p r es ds) → (x : Option Few) → option_and_then (λ r. few_run m o r es ds) x ≡ option_and_then (λ r. few_run m p r es ds) x
    go h None = refl
    go h (Some r) = h r

range_split : (a m n : ℕ) → range_with_len a (m + n) ≡ range_with_len a m ++ range_with_len (a + m) n
range_split a zero n = ap (range_with_len a) none ∙ ap (λ k. range_with_len k n) here
  where
    none : 0 + n ≡ n
    none = omega arith

    here : a ≡ a + 0
    here = omega arith
range_split a (suc m) n =
    ap (range_with_len a) more ∙ ap (λ l. a ∷ l) (range_split (a + 1) m n ∙ ap (λ k. range_with_len (a + 1) m ++ range_with_len k n) there)
  where
    more : suc m + n ≡ suc (m + n)
    more = omega arith

    there : a + 1 + m ≡ a + suc m
    there = omega arith

same_before : (f h : ℕ → Option ℕ) (a n : ℕ) → ((y : ℕ) → y < a + n → f y ≡ h y) → map f (range_with_len a n) ≡ map h (range_with_len a n)
same_before f h a zero e = refl
same_before f h a (suc n) e = ap (λ t. t ∷ map f (range_with_len (a + 1) n)) (e a (omega arith)) ∙ ap (λ l. h a ∷ l) (same_before f h (a + 1) n (λ y l. e y (omega arith)))

same_behind : (f h : ℕ → Option ℕ) (a n : ℕ) → ((y : ℕ) → a ≤ y → f (y + 1) ≡ h y) → map f (range_with_len (a + 1) n) ≡ map h (range_with_len a n)
same_behind f h a zero e = refl
same_behind f h a (suc n) e = ap (λ t. t ∷ map f (range_with_len (a + 1 + 1) n)) (e a (omega arith)) ∙ ap (λ l. h a ∷ l) (same_behind f h (a + 1) n (λ y l. e y (omega arith)))

reverse_mid : (xs : List (Option ℕ)) (t : Option ℕ) (ys : List (Option ℕ)) → reverse (xs ++ t ∷ ys) ≡ reverse ys ++ t ∷ reverse xs
reverse_mid xs t ys =
    reverse-append xs (t ∷ ys) ∙ ap (λ l. l ++ reverse xs) (reverse-append (t ∷ []) ys) ∙ append_assoc (reverse ys) (t ∷ []) (reverse xs)

-- ---- without the address behind g

abbrev pub lower : ℕ → ℕ → ℕ
lower g x = cond (nat_lt g x) (x - 1) x

pub lower_below : (g x : ℕ) → x ≤ g → lower g x ≡ x
lower_below g x h = ap (λ b. cond b (x - 1) x) (le-ltb g x h)

pub lower_above : (g x : ℕ) → g < x → lower g x ≡ x - 1
lower_above g x h = ap (λ b. cond b (x - 1) x) (lt-ltb g x h)

test_before : (g x y : ℕ) → x ≢ g → y < g → eqb y (lower g x) ≡ eqb y x
test_before g x y off h =
    ⊎_elim
    (λ (above : g < x). ap (eqb y) (lower_above g x above) ∙ ne_eqb y (x - 1) (omega arith) ∙ sym (ne_eqb y x (omega arith)))
    (λ (below : x ≤ g). ap (eqb y) (lower_below g x below))
    (cases_lt g x)

test_behind : (g x y : ℕ) → x ≢ g → g ≤ y → eqb (y + 1) x ≡ eqb y (lower g x)
test_behind g x y off h =
    ⊎_elim
    (λ (above : g < x). same_test (y + 1) x y (x - 1) (omega arith) ∙ ap (eqb y) (sym (lower_above g x above)))
    (λ (below : x ≤ g). ne_eqb (y + 1) x (omega arith) ∙ sym (ne_eqb y x (omega arith)) ∙ ap (eqb y) (sym (lower_below g x below)))
    (cases_lt g x)
  where
    same_test : (a b c d : ℕ) → a + d ≡ b + c → eqb a b ≡ eqb c d
    same_test a b c d e = grind (arith, nat_tests)

-- another cell between two different cells of an instance
pub record IsBetween (s : Spots) (g : ℕ) : Type 0 where
  pub before : ℕ
  pub next : g ≡ suc before
  pub i : ℕ
  pub j : ℕ
  pub below : seat_at s before ≡ Some i
  pub above : seat_at s (g + 1) ≡ Some j
  pub apart : i ≢ j

-- beside another, or between two
abbrev pub IsIdle : Spots → ℕ → Type 0
IsIdle s g = (seat_at s (g + 1) ≡ None) ⊎ IsBetween s g

-- three addresses and those that they become
pub record Lowered (g : ℕ) (s t : Spots) : Type 0 where
  pub off_a : s.a ≢ g
  pub off_b : s.b ≢ g
  pub off_c : s.c ≢ g
  pub a_is : t.a ≡ lower g s.a
  pub b_is : t.b ≡ lower g s.b
  pub c_is : t.c ≡ lower g s.c
  pub size_is : s.size ≡ suc t.size
  pub inside : g < t.size
  pub idle : IsIdle s g

abbrev seat_by : Bool → Bool → Bool → Option ℕ
seat_by p q r = cond p (Some 0) (cond q (Some 1) (cond r (Some 2) None))

module _ (g : ℕ) (s t : Spots) (is : Lowered g s t) where
  before : (y : ℕ) → y < g → seat_at s y ≡ seat_at t y
  before y h =
      let back : (x z : ℕ) → x ≢ g → z ≡ lower g x → eqb y x ≡ eqb y z = λ x z off e. sym (test_before g x y off h) ∙ ap (eqb y) (sym e) in
      ap (λ b. seat_by b (eqb y s.b) (eqb y s.c)) (back s.a t.a is.off_a is.a_is) ∙ ap (λ b. seat_by (eqb y t.a) b (eqb y s.c)) (back s.b t.b is.off_b is.b_is)
      ∙ ap (λ b. seat_by (eqb y t.a) (eqb y t.b) b) (back s.c t.c is.off_c is.c_is)

  behind : (y : ℕ) → g ≤ y → seat_at s (y + 1) ≡ seat_at t y
  behind y h =
      let on : (x z : ℕ) → x ≢ g → z ≡ lower g x → eqb (y + 1) x ≡ eqb y z = λ x z off e. test_behind g x y off h ∙ ap (eqb y) (sym e) in
      ap (λ b. seat_by b (eqb (y + 1) s.b) (eqb (y + 1) s.c)) (on s.a t.a is.off_a is.a_is) ∙ ap (λ b. seat_by (eqb y t.a) b (eqb (y + 1) s.c)) (on s.b t.b is.off_b is.b_is)
      ∙ ap (λ b. seat_by (eqb y t.a) (eqb y t.b) b) (on s.c t.c is.off_c is.c_is)

  none_here : seat_at s g ≡ None
  none_here = rw (ne_eqb g s.a (λ e. is.off_a (sym e)), ne_eqb g s.b (λ e. is.off_b (sym e)), ne_eqb g s.c (λ e. is.off_c (sym e))) refl

  abbrev rest : ℕ
  rest = t.size - g

  abbrev front : List (Option ℕ)
  front = map (seat_at t) (range_with_len 0 g)

  abbrev back : List (Option ℕ)
  back = map (seat_at t) (range_with_len g rest)

  start : 0 + g ≡ g
  start = omega arith

  small : map (seat_at t) (range_with_len 0 t.size) ≡ front ++ back
  small =
      let inside : g < t.size = is.inside in
      let count : t.size ≡ g + rest = omega arith in
      ap (λ n. map (seat_at t) (range_with_len 0 n)) count ∙ ap (map (seat_at t)) (range_split 0 g rest) ∙ map-append (seat_at t) (range_with_len 0 g) (range_with_len (0 + g) rest)
      ∙ ap (λ k. front ++ map (seat_at t) (range_with_len k rest)) start

  large : map (seat_at s) (range_with_len 0 s.size) ≡ front ++ None ∷ back
  large =
      let inside : g < t.size = is.inside in
      let size : s.size ≡ suc t.size = is.size_is in
      let count : s.size ≡ g + suc rest = omega arith in
      ap (λ n. map (seat_at s) (range_with_len 0 n)) count ∙ ap (map (seat_at s)) (range_split 0 g (suc rest))
      ∙ map-append (seat_at s) (range_with_len 0 g) (range_with_len (0 + g) (suc rest))
      ∙ ap (λ k. map (seat_at s) (range_with_len 0 g) ++ map (seat_at s) (range_with_len k (suc rest))) start
      ∙ ap (λ l. l ++ seat_at s g ∷ map (seat_at s) (range_with_len (g + 1) rest)) (same_before (seat_at s) (seat_at t) 0 g (λ y h. before y (omega arith)))
      ∙ ap (λ x. front ++ x ∷ map (seat_at s) (range_with_len (g + 1) rest)) none_here
      ∙ ap (λ l. front ++ None ∷ l) (same_behind (seat_at s) (seat_at t) g rest (λ y h. behind y h))

  -- the cell behind g, and the one before it
  back_is : (x : Option ℕ) → seat_at s (g + 1) ≡ x → back ≡ x ∷ map (seat_at t) (range_with_len (g + 1) (rest - 1))
  back_is x e =
      let inside : g < t.size = is.inside in
      let count : rest ≡ suc (rest - 1) = omega arith in
      ap (λ n. map (seat_at t) (range_with_len g n)) count ∙ ap (λ y. y ∷ map (seat_at t) (range_with_len (g + 1) (rest - 1))) (sym (behind g (omega arith)) ∙ e)

  front_is : (h : ℕ) (x : Option ℕ) → g ≡ suc h → seat_at s h ≡ x → front ≡ map (seat_at t) (range_with_len 0 h) ++ x ∷ []
  front_is h x e is_x =
      let count : g ≡ h + 1 = omega arith in
      let start_h : 0 + h ≡ h = omega arith in
      ap (λ n. map (seat_at t) (range_with_len 0 n)) count ∙ ap (map (seat_at t)) (range_split 0 h 1) ∙ map-append (seat_at t) (range_with_len 0 h) (range_with_len (0 + h) 1)
      ∙ ap (λ k. map (seat_at t) (range_with_len 0 h) ++ seat_at t k ∷ []) start_h ∙ ap (λ y. map (seat_at t) (range_with_len 0 h) ++ y ∷ []) (sym (before h (omega arith)) ∙ is_x)

  -- without g, upward and downward
  module _ (p : SequencePrimitive) where
    upward : IsIdle s g → Alike p (front ++ None ∷ back) (front ++ back)
    upward (inl none) =
        let more : List (Option ℕ) = map (seat_at t) (range_with_len (g + 1) (rest - 1)) in
        subst (λ l. Alike p (front ++ None ∷ l) (front ++ l)) (sym (back_is None none)) (alike_behind p front (None ∷ None ∷ more) (None ∷ more) (one_less p more))
    upward (inr between) =
        let more : List (Option ℕ) = map (seat_at t) (range_with_len (g + 1) (rest - 1)) in
        let less : List (Option ℕ) = map (seat_at t) (range_with_len 0 between.before) in
        subst (λ l. Alike p (l ++ None ∷ back) (l ++ back)) (sym (front_is between.before (Some between.i) between.next between.below))
        (subst (λ l. Alike p ((less ++ Some between.i ∷ []) ++ None ∷ l) ((less ++ Some between.i ∷ []) ++ l)) (sym (back_is (Some between.j) between.above))
        (subst (λ l. Alike p l ((less ++ Some between.i ∷ []) ++ Some between.j ∷ more)) (sym (append_assoc less (Some between.i ∷ []) (None ∷ Some between.j ∷ more)))
        (subst (λ l. Alike p (less ++ Some between.i ∷ None ∷ Some between.j ∷ more) l) (sym (append_assoc less (Some between.i ∷ []) (Some between.j ∷ more)))
        (alike_behind p less (Some between.i ∷ None ∷ Some between.j ∷ more) (Some between.i ∷ Some between.j ∷ more) (crossing p between.i between.j more between.apart)))))

    downward : IsIdle s g → Alike p (reverse back ++ None ∷ reverse front) (reverse back ++ reverse front)
    downward (inl none) =
        let more : List (Option ℕ) = map (seat_at t) (range_with_len (g + 1) (rest - 1)) in
        let turned : reverse back ≡ reverse more ++ None ∷ [] = ap reverse (back_is None none) ∙ reverse-append (None ∷ []) more in
        subst (λ l. Alike p (l ++ None ∷ reverse front) (l ++ reverse front)) (sym turned)
        (subst (λ l. Alike p l ((reverse more ++ None ∷ []) ++ reverse front)) (sym (append_assoc (reverse more) (None ∷ []) (None ∷ reverse front)))
        (subst (λ l. Alike p (reverse more ++ None ∷ None ∷ reverse front) l) (sym (append_assoc (reverse more) (None ∷ []) (reverse front)))
        (alike_behind p (reverse more) (None ∷ None ∷ reverse front) (None ∷ reverse front) (one_less p (reverse front)))))
    downward (inr between) =
        let more : List (Option ℕ) = map (seat_at t) (range_with_len (g + 1) (rest - 1)) in
        let less : List (Option ℕ) = map (seat_at t) (range_with_len 0 between.before) in
        let turned : reverse back ≡ reverse more ++ Some between.j ∷ [] = ap reverse (back_is (Some between.j) between.above) ∙ reverse-append (Some between.j ∷ []) more in
        let first : reverse front ≡ Some between.i ∷ reverse less = ap reverse (front_is between.before (Some between.i) between.next between.below) ∙ reverse-append less (Some between.i ∷ []) in
        subst (λ l. Alike p (l ++ None ∷ reverse front) (l ++ reverse front)) (sym turned)
        (subst (λ l. Alike p ((reverse more ++ Some between.j ∷ []) ++ None ∷ l) ((reverse more ++ Some between.j ∷ []) ++ l)) (sym first)
        (subst (λ l. Alike p l ((reverse more ++ Some between.j ∷ []) ++ Some between.i ∷ reverse less)) (sym (append_assoc (reverse more) (Some between.j ∷ []) (None ∷ Some between.i ∷ reverse less)))
        (subst (λ l. Alike p (reverse more ++ Some between.j ∷ None ∷ Some between.i ∷ reverse less) l) (sym (append_assoc (reverse more) (Some between.j ∷ []) (Some between.i ∷ reverse less)))
        (alike_behind p (reverse more) (Some between.j ∷ None ∷ Some between.i ∷ reverse less) (Some between.j ∷ Some between.i ∷ reverse less)
        (crossing p between.j between.i (reverse less) (λ e. between.apart (sym e)))))))

    ordered : (d : Direction) (q : Few) (ops : List Op) → cells_run (machine_of p) q (order_at s d) ops ≡ cells_run (machine_of p) q (order_at t d) ops
    unfolding addresses
    ordered Upward q ops = ap (λ ts. cells_run (machine_of p) q ts ops) large ∙ upward is.idle q ops ∙ ap (λ ts. cells_run (machine_of p) q ts ops) (sym small)
    ordered Downward q ops =
        ap (λ ts. cells_run (machine_of p) q ts ops) (map-reverse (seat_at s) (range_with_len 0 s.size) ∙ ap reverse large ∙ reverse_mid front None back)
        ∙ downward is.idle q ops
        ∙ ap (λ ts. cells_run (machine_of p) q ts ops) (sym (map-reverse (seat_at t) (range_with_len 0 t.size) ∙ ap reverse small ∙ reverse-append front back))

    pub same_run : (es : List MarchElement) (ds : List Direction) (q : Few) → few_run (machine_of p) (order_at s) q es ds ≡ few_run (machine_of p) (order_at t) q es ds
    same_run es ds q = few_same (machine_of p) (order_at s) (order_at t) ordered es ds q
