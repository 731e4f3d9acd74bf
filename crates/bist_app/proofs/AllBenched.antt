-- What the runs against a list of boxes leave.
use Rattle.bist_app.proofs.Common.{◌≡◌, ◌+◌, ◌<◌, ◌≤◌, ◌∙◌, ℕ, zero, suc, Bool, true, false, List, [], ◌∷◌, length, map, drop, replicate, Option, Some, None, is_some, refl, sym, ap, ap₂, subst, arith, nat_lt, MarchElement, Description, Tells, Told, AllRight, IsPlain, PassesAlone, run_word, Seen, IsFirstRead, Done, Written, Boxes, FirstHasRoom, length-replicate, length-map, drop_all, one-le-pow, Fit}
use Rattle.std.specs.Int.{from_bool}
use Rattle.verilog_tree.specs.Names.{Declaration}
use Rattle.bist_app.specs.Bench.{ready, benched_chip, IsSeen}
use Rattle.bist_app.specs.BenchAll.{HaveRoom, IsBoxSeen, failing_of, all_line, all_done, IsAllBenched, AreGone}
use Rattle.bist_app.specs.inner.BenchedBoxes.{IsEnd, GoesOn, CountsFailing}
use Rattle.bist_app.proofs.Benched.{seen_by}

-- ---- what is seen of one box

blank_plain : (d : Description) → IsPlain d (benched_chip d None)
blank_plain d = record { words = length-replicate d.words 0; planted = refl }

pub blank_right : (march : List MarchElement) (d : Description) → PassesAlone march d → AllRight march d (run_word march d (benched_chip d None))
blank_right march d passes = passes (benched_chip d None) (blank_plain d)

-- every read is right, so none is seen
none_seen : (march : List MarchElement) (d : Description) (words : ℕ → ℕ) (s : Option Seen) → AllRight march d words → IsFirstRead march d words s → s ≡ None
none_seen march d words None right h = refl
none_seen march d words (Some s) right h = let w = h.2.wrong in absurd (w.differs (right h.0 w.command w.is_command w.is_read))

box_seen : (march : List MarchElement) (d : Description) (tells : Tells) (failed : Bool) → AllRight march d (run_word march d (benched_chip d None))
    → (end : IsEnd march d (ready d None tells) failed) → IsBoxSeen march d tells end.seen
box_seen march d tells failed right end =
    let seen = seen_by march d None tells end.seen end.read end.is_seen in
    record {
      is_seen = seen;
      passes = λ chip is. none_seen march d (run_word march d (benched_chip d None)) end.seen right (subst (λ (t : Tells). IsSeen march d None t end.seen) is seen);
    }

-- ---- the boxes one after another

failing_more : (failing : ℕ) (seen : Option Seen) (later : List (Option Seen)) → failing + failing_of (seen ∷ later) ≡ failing + from_bool (is_some seen) + failing_of later
failing_more failing None later = omega arith
failing_more failing (Some s) later = omega arith

goes_box : (march : List MarchElement) (d : Description) (boxes left : Boxes) (box : Told) (failing : ℕ) (seen : Option Seen) → IsBoxSeen march d box.tells seen
    → GoesOn march d boxes (box ∷ left) failing → GoesOn march d boxes left (failing + from_bool (is_some seen))
goes_box march d boxes left box failing seen is on later h =
    let all = on (seen ∷ later) (is, h) in
    (all.0, all.1, all.2 ∙ failing_more failing seen later)

pub goes_more : {B : Type 0} (f : B → Told) (march : List MarchElement) (d : Description) (boxes : Boxes) (now next : List B) (tells : Tells) (failing more : ℕ) (failed : Bool) → more ≡ from_bool failed
    → AllRight march d (run_word march d (benched_chip d None)) → 0 < length now → next ≡ drop 1 now
    → ((b : B) (rest : List B) → now ≡ b ∷ rest → tells ≡ ready d None (f b).tells) → IsEnd march d tells failed
    → GoesOn march d boxes (map f now) failing → GoesOn march d boxes (map f next) (failing + more)
goes_more f march d boxes [] next tells failing more failed adds right some gone told end on = absurd (omega (arith, some))
goes_more {B} f march d boxes (b ∷ rest) next tells failing more failed adds right some gone told end on =
    let here : IsEnd march d (ready d None (f b).tells) failed = subst (λ (t : Tells). IsEnd march d t failed) (told b rest refl) end in
    let left = goes_box march d boxes (map f rest) (f b) failing here.seen (box_seen march d (f b).tells failed right here) on in
    let counted = subst (λ (x : Bool). GoesOn march d boxes (map f rest) (failing + from_bool x)) (sym here.fail) left in
    let added = subst (λ (n : ℕ). GoesOn march d boxes (map f rest) (failing + n)) (sym adds) counted in
    subst (λ (xs : List B). GoesOn march d boxes (map f xs) (failing + more)) (sym gone) added

pub at_most_one : (failed : Bool) → from_bool failed ≤ 1
at_most_one false = omega arith
at_most_one true = omega arith

all_counted : (march : List MarchElement) (d : Description) (boxes : Boxes) (failing : ℕ) → GoesOn march d boxes [] failing → CountsFailing march d boxes failing
all_counted march d boxes failing on =
    let all = on [] tt in
    let fails : failing ≡ failing_of all.0 = omega (arith, all.2) in
    (all.0, all.1, fails)

pub boxes_counted : {B : Type 0} (f : B → Told) (march : List MarchElement) (d : Description) (items now : List B) (failing : ℕ)
    → GoesOn march d (map f items) (map f now) failing → length now ≡ 0 → CountsFailing march d (map f items) failing
boxes_counted f march d items [] failing on none = all_counted march d (map f items) failing on
boxes_counted f march d items (b ∷ now) failing on none = absurd (omega (arith, none))

-- so many runs of which so many failed
pub boxes_benched : {B : Type 0} (f : B → Told) (march : List MarchElement) (d : Description) (items : List B) (failing count : ℕ) (outputs : List Written) (line : List ℕ)
    → CountsFailing march d (map f items) failing → count ≡ length items → outputs ≡ [] → line ≡ all_line count failing
    → IsAllBenched march d (map f items) (record { found = nat_lt 0 failing; outputs = outputs; line = line })
boxes_benched f march d items failing count outputs line (seen, are, fails) counted none is = record {
  seen = seen;
  are_seen = are;
  done_is = ap₂ (λ (os : List Written) (xs : List ℕ). let done : Done = record { found = nat_lt 0 failing; outputs = os; line = xs } in done) none is
      ∙ ap (λ n. all_done n failing) (counted ∙ sym (length-map items f)) ∙ ap (all_done (length (map f items))) fails;
}

pub all_gone : {B : Type 0} (f : B → Told) (boxes : Boxes) (next : List B) → next ≡ [] → AreGone boxes (map f next)
all_gone f boxes next none = (length boxes, ap (map f) none ∙ sym (drop_all (length boxes) boxes (omega arith)))

-- ---- rooms

pub first_has_room : (words : ℕ) (boxes : Boxes) → HaveRoom words boxes → FirstHasRoom words boxes
first_has_room words [] h = tt
first_has_room words (box ∷ boxes) h = h.0

pub rest_have_room : {B : Type 0} (f : B → Told) (words : ℕ) (now next : List B) → next ≡ drop 1 now → HaveRoom words (map f now) → HaveRoom words (map f next)
rest_have_room {B} f words now next gone h = subst (λ (xs : List B). HaveRoom words (map f xs)) (sym gone) (by now h)
  where
    by : (xs : List B) → HaveRoom words (map f xs) → HaveRoom words (map f (drop 1 xs))
    by [] r = tt
    by (x ∷ xs) r = r.1

-- ---- the boxes that are left

drop_more : {A : Type 0} (k : ℕ) (xs : List A) → drop 1 (drop k xs) ≡ drop (suc k) xs
drop_more zero xs = refl
drop_more (suc k) [] = refl
drop_more (suc k) (x ∷ xs) = drop_more k xs

map_drop : {A B : Type 0} (f : A → B) (xs : List A) → map f (drop 1 xs) ≡ drop 1 (map f xs)
map_drop f [] = refl
map_drop f (x ∷ xs) = refl

pub one_gone : {B : Type 0} (f : B → Told) (boxes : Boxes) (now next : List B) → AreGone boxes (map f now) → next ≡ drop 1 now → AreGone boxes (map f next)
one_gone f boxes now next (k, is) gone = (suc k, ap (map f) gone ∙ map_drop f now ∙ ap (drop 1) is ∙ drop_more k boxes)

pub one_less : {A : Type 0} (now next : List A) → 0 < length now → next ≡ drop 1 now → length next + 1 ≡ length now
one_less [] next some gone = absurd (omega (arith, some))
one_less (x ∷ rest) next some gone = let same = ap length gone in omega (arith, same)

-- ---- registers of 0

-- as many zeros as there are of these
zeros_of : List Declaration → List ℕ
zeros_of ds = map (λ _. 0) ds

zeros_fit : (ds : List Declaration) → Fit ds (replicate (length (zeros_of ds)) 0)
unfolding zeros_of
zeros_fit [] = tt
zeros_fit (d ∷ ds) = (one-le-pow d.width 2 (omega arith), zeros_fit ds)

pub zeros_for_registers : (ds : List Declaration) (registers values shown : List ℕ) → registers ≡ map (λ _. 0) ds → values ≡ replicate (length registers) 0 → shown ≡ values
    → Fit ds shown
unfolding zeros_of
zeros_for_registers ds registers values shown hold are same =
    let shown_is : shown ≡ replicate (length (zeros_of ds)) 0 = same ∙ are ∙ ap (λ (xs : List ℕ). replicate (length xs) 0) hold in
    subst (Fit ds) (sym shown_is) (zeros_fit ds)
