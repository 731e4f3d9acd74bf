-- With nothing planted each read answers what was written last.
use Rattle.std.proofs.Common.{◌≡◌, ◌≢◌, ◌+◌, ◌<◌, ℕ, zero, suc, Bool, true, false, cond, ◌||◌, eqb, Option, Some, None, List, [], ◌∷◌, ◌++◌, length, map, refl, ap, sym, subst, ◌∙◌, ⊎_elim}
use Rattle.std.specs.Prelude.{if◌then◌else◌, slice_set, slice_index}
use Rattle.std.specs.List.{flat_map}
use Rattle.std.proofs.lemmas.Bool.Decides.{eqb_tells}
use Rattle.std.proofs.lemmas.List.{map-append, length-set, get_or-set_same, get_or-set_other}
use Rattle.march_core.specs.declared.operation.Op.{Op}
use Rattle.march_core.specs.declared.operation.Op.TheVariants.{W0, W1, R0, R1}
use Rattle.march_core.specs.March.{MarchElement, IsMarch, order_of, ops_of, all_ops}
use Rattle.march_core.specs.Runs.{upward, is_write, data_value}
use Rattle.march_core.specs.inner.Scan.{after_op, is_right, scan_of}
use Rattle.march_core.specs.Visits.{Visit, cell_visits, address_visits, addresses}
use Rattle.march_core.proofs.Consistent.{consistent_scan, last_after}
use Rattle.pair_tracker.proofs.Few.{right_first, scan_parts}
use Rattle.pair_tracker.proofs.Sides.{contains, Distinct, AllBelow, addresses_distinct, addresses_below, addresses_all}
use Rattle.backgrounds.specs.Backgrounds.{word_of}
use Rattle.memory_desc.specs.Descriptions.{Description}
use Rattle.word_march.specs.declared.operations.WordOp.{WordOp}
use Rattle.word_march.specs.Commands.{word_op, word_steps}
use Rattle.word_march.specs.Standing.{sweeps_from, run_ops}
use Rattle.word_march.proofs.Left.{runs_are}
use Rattle.word_device.specs.Chips.{words_after, reply_to}
use Rattle.word_device.proofs.Core.{replies, operations, AllRepliesRight}

-- the words behind operations with nothing planted
abbrev written : List ℕ → List WordOp → List ℕ
written ws [] = ws
written ws (o ∷ os) = written (words_after None ws o) os

-- each read of these operations is right
abbrev pub Right : List ℕ → List WordOp → Type 0
Right ws [] = Unit {0}
Right ws (o ∷ os) = (o.write ≡ false → reply_to None ws o ≡ o.word) × Right (words_after None ws o) os

-- each is right, and they leave such words
pub record Goes (Left : List ℕ → Type 0) (ws : List ℕ) (os : List WordOp) : Type 0 where
  pub right : Right ws os
  pub left : Left (written ws os)

goes_on : (K L : List ℕ → Type 0) (xs ys : List WordOp) (ws : List ℕ) → Goes K ws xs → ((c : List ℕ) → K c → Goes L c ys) → Goes L ws (xs ++ ys)
goes_on K L [] ys ws g h = h ws g.left
goes_on K L (x ∷ xs) ys ws g h =
    let rest = goes_on K L xs ys (words_after None ws x) (record { right = g.right.1; left = g.left }) h in
    record { right = (g.right.0, rest.right); left = rest.left }

-- the same for visits
visits_on : (g : Visit → WordOp) (K L : List ℕ → Type 0) (xs ys : List Visit) (ws : List ℕ) → Goes K ws (map g xs) → ((c : List ℕ) → K c → Goes L c (map g ys))
    → Goes L ws (map g (xs ++ ys))
visits_on g K L xs ys ws first rest = subst (Goes L ws) (sym (map-append g xs ys)) (goes_on K L (map g xs) (map g ys) ws first rest)

-- what the visits to one word leave: the others stay, and it holds what was written last
pub record Passed (f : Bool → ℕ) (x : ℕ) (next : Option Bool) (before after : List ℕ) : Type 0 where
  pub size : length after ≡ length before
  pub others : (y : ℕ) → y ≢ x → slice_index after y ≡ slice_index before y
  pub held : (v : Bool) → next ≡ Some v → slice_index after x ≡ f v

-- the words behind an operation of a march
abbrev after_visit : (Bool → ℕ) → List ℕ → ℕ → Op → List ℕ
after_visit f ws x op = if is_write op then slice_set ws x (f (data_value op)) else ws

visit_right : (f : Bool → ℕ) (ws : List ℕ) (x : ℕ) (op : Op) (last : Option Bool) → is_right last op ≡ true
    → ((v : Bool) → last ≡ Some v → slice_index ws x ≡ f v)
    → is_write op ≡ false → slice_index ws x ≡ f (data_value op)
visit_right f ws x W0 last right held read = cc
visit_right f ws x W1 last right held read = cc
visit_right f ws x R0 None right held read = cc
visit_right f ws x R1 None right held read = cc
visit_right f ws x R0 (Some false) right held read = held false refl
visit_right f ws x R0 (Some true) right held read = cc
visit_right f ws x R1 (Some true) right held read = held true refl
visit_right f ws x R1 (Some false) right held read = cc

visit_passed : (f : Bool → ℕ) (ws : List ℕ) (x : ℕ) (op : Op) (last : Option Bool) → x < length ws → ((v : Bool) → last ≡ Some v → slice_index ws x ≡ f v)
    → Passed f x (after_op last op) ws (after_visit f ws x op)
visit_passed f ws x W0 last inside held = written false last
  where
    written : (b : Bool) (l : Option Bool) → Passed f x (Some b) ws (slice_set ws x (f b))
    written b l = record { size = length-set ws x (f b); others = λ y ne. get_or-set_other ws x y (f b) 0 ne; held = λ v e. get_or-set_same ws x (f b) 0 inside ∙ cc }
visit_passed f ws x W1 last inside held = written true last
  where
    written : (b : Bool) (l : Option Bool) → Passed f x (Some b) ws (slice_set ws x (f b))
    written b l = record { size = length-set ws x (f b); others = λ y ne. get_or-set_other ws x y (f b) 0 ne; held = λ v e. get_or-set_same ws x (f b) 0 inside ∙ cc }
visit_passed f ws x R0 last inside held = record { size = refl; others = λ y ne. refl; held = held }
visit_passed f ws x R1 last inside held = record { size = refl; others = λ y ne. refl; held = held }

passed_on : (f : Bool → ℕ) (x : ℕ) (mid next : Option Bool) (a b c : List ℕ) → Passed f x mid a b → Passed f x next b c → Passed f x next a c
passed_on f x mid next a b c p q = record { size = q.size ∙ p.size; others = λ y ne. q.others y ne ∙ p.others y ne; held = q.held }

-- the visits of an element to one word
cell_goes : (bits b e k x : ℕ) (ops : List Op) (last next : Option Bool) (ws : List ℕ) → x < length ws → scan_of last ops ≡ Some next
    → ((v : Bool) → last ≡ Some v → slice_index ws x ≡ word_of b v bits)
    → Goes (Passed (λ v. word_of b v bits) x next ws) ws (map (word_op bits b) (cell_visits e x k ops))
unfolding words_after reply_to
cell_goes bits b e k x [] last next ws inside scanned held =
    let same : last ≡ next = cc in
    record { right = tt; left = record { size = refl; others = λ y ne. refl; held = λ v is. held v (same ∙ is) } }
cell_goes bits b e k x (op ∷ ops) last next ws inside scanned held =
    let f : Bool → ℕ = λ v. word_of b v bits in
    let test = right_first (is_right last op) (scan_of (after_op last op) ops) next scanned in
    let after : List ℕ = after_visit f ws x op in
    let first : Passed f x (after_op last op) ws after = visit_passed f ws x op last inside held in
    let within : x < length after = subst (λ n. x < n) (sym first.size) inside in
    let rest = cell_goes bits b e (k + 1) x ops (after_op last op) next after within test.1 first.held in
    record {
      right = (λ read. ap (λ w. if w then 0 else slice_index ws x) read ∙ visit_right f ws x op last test.0 held read, rest.right);
      left = passed_on f x (after_op last op) next ws after _ first rest.left;
    }

-- each word holds what was written last, before its visit or after it
abbrev pub Agrees : (Bool → ℕ) → ℕ → List ℕ → Option Bool → Option Bool → List ℕ → Type 0
Agrees f n xs last next ws = (y : ℕ) → y < n → (v : Bool) → cond (contains y xs) last next ≡ Some v → slice_index ws y ≡ f v

pub record Holds (f : Bool → ℕ) (n : ℕ) (xs : List ℕ) (last next : Option Bool) (ws : List ℕ) : Type 0 where
  pub size : length ws ≡ n
  pub agrees : Agrees f n xs last next ws

agrees_off : (f : Bool → ℕ) (n x : ℕ) (xs : List ℕ) (last next : Option Bool) (before after : List ℕ) → Agrees f n (x ∷ xs) last next before
    → Passed f x next before after → contains x xs ≡ false → Agrees f n xs last next after
agrees_off f n x xs last next before after agrees passed off y yn v e =
    ⊎_elim
    (λ (h : (eqb y x ≡ true) × (y ≡ x)).
    let P : ℕ → Type 0 = λ z. cond (contains z xs) last next ≡ Some v → slice_index after z ≡ f v in
    subst P (sym h.1) (λ is. passed.held v (ap (λ b. cond b last next) (sym off) ∙ is)) e)
    (λ (h : (eqb y x ≡ false) × (y ≢ x)).
    passed.others y h.1 ∙ agrees y yn v (ap (λ b. cond (b || contains y xs) last next) h.0 ∙ e))
    (eqb_tells y x)

-- the visits of an element to these addresses
element_goes : (bits b n e : ℕ) (ops : List Op) (last next : Option Bool) → scan_of last ops ≡ Some next → (xs : List ℕ) (ws : List ℕ) → Distinct xs
    → AllBelow n xs
    → Holds (λ v. word_of b v bits) n xs last next ws
    → Goes (Holds (λ v. word_of b v bits) n [] None next) ws (map (word_op bits b) (address_visits e ops xs))
element_goes bits b n e ops last next scanned [] ws distinct below holds = record { right = tt; left = record { size = holds.size; agrees = λ y yn v is. holds.agrees y yn v is } }
element_goes bits b n e ops last next scanned (x ∷ xs) ws distinct below holds =
    let f : Bool → ℕ = λ v. word_of b v bits in
    let inside : x < length ws = subst (λ m. x < m) (sym holds.size) below.0 in
    let self : cond (contains x (x ∷ xs)) last next ≡ last =
    ⊎_elim
    (λ (h : (eqb x x ≡ true) × (x ≡ x)). ap (λ t. cond (t || contains x xs) last next) h.0)
    (λ (h : (eqb x x ≡ false) × (x ≢ x)). absurd (h.1 refl))
    (eqb_tells x x) in
    let held : (v : Bool) → last ≡ Some v → slice_index ws x ≡ f v = λ v is. holds.agrees x below.0 v (self ∙ is) in
    visits_on (word_op bits b) (Passed f x next ws) (Holds f n [] None next) (cell_visits e x 0 ops) (address_visits e ops xs) ws
    (cell_goes bits b e 0 x ops last next ws inside scanned held)
    (λ c passed. element_goes bits b n e ops last next scanned xs c distinct.1 below.1
    (record { size = passed.size ∙ holds.size; agrees = agrees_off f n x xs last next ws c holds.agrees passed distinct.0 }))

abbrev IsSize : ℕ → List ℕ → Type 0
IsSize n ws = length ws ≡ n

-- the visits of the elements from one on
elements_go : (bits b n : ℕ) (es : List MarchElement) (k : ℕ) (last end : Option Bool) (ws : List ℕ) → scan_of last (all_ops es) ≡ Some end
    → Holds (λ v. word_of b v bits) n [] None last ws → Goes (IsSize n) ws (map (word_op bits b) (sweeps_from k es n))
elements_go bits b n [] k last end ws scanned holds = record { right = tt; left = holds.size }
elements_go bits b n (e ∷ es) k last end ws scanned holds =
    let f : Bool → ℕ = λ v. word_of b v bits in
    let xs : List ℕ = addresses (upward (order_of e)) n in
    let parts = scan_parts last (ops_of e) (all_ops es) end scanned in
    let mid : Option Bool = parts.0 in
    let before : Holds f n xs last mid ws =
    record { size = holds.size; agrees = λ y yn v is. holds.agrees y yn v (ap (λ b. cond b last mid) (sym (addresses_all (upward (order_of e)) n y yn)) ∙ is) } in
    visits_on (word_op bits b) (Holds f n [] None mid) (IsSize n) (address_visits k (ops_of e) xs) (sweeps_from (k + 1) es n) ws
    (element_goes bits b n k (ops_of e) last mid parts.1 xs ws (addresses_distinct (upward (order_of e)) n) (addresses_below (upward (order_of e)) n) before)
    (λ c left. elements_go bits b n es (k + 1) mid end c parts.2 left)

-- the runs of the backgrounds
runs_go : (march : List MarchElement) (d : Description) (end : Option Bool) → scan_of None (all_ops march) ≡ Some end → (set : List ℕ) (ws : List ℕ)
    → length ws ≡ d.words
    → Goes (IsSize d.words) ws (flat_map (run_ops march d) set)
runs_go march d end scanned [] ws size = record { right = tt; left = size }
runs_go march d end scanned (b ∷ bs) ws size =
    let start : Holds (λ v. word_of b v d.bits) d.words [] None None ws = record { size = size; agrees = λ y yn v is. cc } in
    goes_on (IsSize d.words) (IsSize d.words) (run_ops march d b) (flat_map (run_ops march d) bs) ws
    (elements_go d.bits b d.words march 0 None end ws scanned start)
    (λ c left. runs_go march d end scanned bs c left)

-- pauses do nothing here
all_right : (steps : List (Option WordOp)) (ws : List ℕ) → Right ws (operations steps) → AllRepliesRight steps (replies None ws steps)
all_right [] ws right number op is read = cc
all_right (None ∷ ss) ws right number op is read = all_right ss ws right number op is read
all_right (Some o ∷ ss) ws right zero op is read =
    let same : o ≡ op = cc in
    ap Some (right.0 (ap (λ (x : WordOp). x.write) same ∙ read) ∙ ap (λ (x : WordOp). x.word) same)
all_right (Some o ∷ ss) ws right (suc number) op is read = all_right ss (words_after None ws o) right.1 number op is read

-- with nothing planted every read is right, whatever the words are at the start
pub passes : (march : List MarchElement) (d : Description) (ws : List ℕ) → IsMarch march → length ws ≡ d.words
    → AllRepliesRight (word_steps march d) (replies None ws (word_steps march d))
passes march d ws is size =
    let goes : Goes (IsSize d.words) ws (flat_map (run_ops march d) d.backgrounds) =
    runs_go march d (last_after None (all_ops march)) (consistent_scan (all_ops march) is.consistent) d.backgrounds ws size in
    all_right (word_steps march d) ws (subst (λ (os : List WordOp). Right ws os) (sym (runs_are march d)) goes.right)
