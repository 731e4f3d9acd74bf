-- Where a reader stands in a text, and what it holds there.
use Rattle.std.proofs.Common.{◌≡◌, ℕ, ◌+◌, ◌<◌, Bool, true, false, List, [], ◌∷◌, ◌++◌, ◌∙◌, length, drop, get_or, Option, Some, None, option_map, refl, sym, ap, subst, append_assoc, arith, IsTrue, length-append, if◌then◌else◌, ◌&&◌, ◌==◌, inl, inr}
use Rattle.bist_text.specs.Machine.{read, unexpected, scan, ended}
use Rattle.bist_text.proofs.Loops.{scan_on, scan_stop, scan_end}
use Rattle.bist_text.proofs.Machine.{scan_read}
use Rattle.march_core.specs.declared.operation.Op.{Op}
use Rattle.march_core.specs.declared.operation.Order.{Order}
use Rattle.march_core.specs.declared.fault.MarchFault.{MarchFault}
use Rattle.march_core.specs.declared.fault.MarchFault.TheVariants.{TooManyElements}
use Rattle.march_core.specs.Building.{with_op, last_ops, ends_in_sweep}
use Rattle.march_core.specs.March.{MarchElement, pause, sweep, ops_of, all_ops}
use Rattle.march_syntax.specs.declared.place.Place.{Place}
use Rattle.march_syntax.specs.declared.place.Place.TheVariants.{Start, Open, Spelling, Ordered, Wanted, Digit, Operation, Ended, Next, Closed}
use Rattle.bist_text.specs.declared.keywords.Spelled.{Spelled}
use Rattle.bist_text.specs.declared.keywords.Spelled.TheVariants.{More, Whole}
use Rattle.bist_text.specs.Keywords.{seek, spell}
use Rattle.march_syntax.specs.declared.place.Mark.{Mark}
use Rattle.march_syntax.specs.declared.place.Mark.TheVariants.{OfOrder, OfPause}
use Rattle.march_syntax.specs.declared.place.Event.{Event}
use Rattle.march_syntax.specs.declared.place.Event.TheVariants.{Quiet, Begins, Adds, Ends, Waits}
use Rattle.march_syntax.specs.declared.place.Move.{Move}
use Rattle.march_syntax.specs.inner.Building.{with_event, HasBegun, IsFull, CanAdd, Builds}
use Rattle.march_syntax.specs.Limits.{IsWithin, BeforeOp, so_far, Exceeds}
use Rattle.march_syntax.specs.MarchText.{is_white}
use Rattle.march_syntax.specs.inner.Places.{marks, spelling, move_at, may_end, State, begun, start, after_event, moved, step, value, rest, in_element, is_inside, held}
use Rattle.march_syntax.proofs.PlaceLaws.{follows}

-- ---- which events come at which places

-- P of the value, if there is one
abbrev Each : Option Move → (Move → Type 0) → Type 0
Each None P = Unit {0}
Each (Some m) P = P m

either : (t : Bool) (x y : Option Move) (P : Move → Type 0) → Each x P → Each y P → Each (if t then x else y) P
either true x y P p q = p
either false x y P p q = q

-- an element or a pause begins outside of one, and operations and the end come inside
abbrev pub Fits : Place → Event → Place → Type 0
Fits p Quiet q = is_inside p ≡ is_inside q
Fits p (Begins o) q = (is_inside p ≡ false) × (q ≡ Ordered)
Fits p (Adds op) q = (is_inside p ≡ true) × (q ≡ Operation)
Fits p Ends q = (is_inside p ≡ true) × (q ≡ Ended)
Fits p Waits q = (is_inside p ≡ false) × (q ≡ Ended)

abbrev FitsMove : Place → Move → Type 0
FitsMove p m = Fits p m.event m.place

spelling_fits : (p : Place) (t : Bool) (o : Option (Spelled Mark)) → is_inside p ≡ false → Each (spelling t o) (FitsMove p)
spelling_fits p t None h = tt
spelling_fits p t (Some (More q)) h = h
spelling_fits p t (Some (Whole (OfOrder o))) h = (h, refl)
spelling_fits p t (Some (Whole OfPause)) h = (h, refl)

move_fits : (p : Place) (t : Bool) (c : ℕ) → Each (move_at p t c) (FitsMove p)
move_fits Start t c = either (is_white c) _ _ (FitsMove Start) refl (either (c == 123) _ _ (FitsMove Start) refl (spelling_fits Start false (seek [] c 0 marks) refl))
move_fits Open t c = either (is_white c) _ _ (FitsMove Open) refl (either (c == 125) _ _ (FitsMove Open) refl (spelling_fits Open true (seek [] c 0 marks) refl))
move_fits (Spelling q) t c = spelling_fits (Spelling q) t (spell marks q c) refl
move_fits Ordered t c = either (is_white c) _ _ (FitsMove Ordered) refl (either (c == 40) _ _ (FitsMove Ordered) refl tt)
move_fits Wanted t c = either (is_white c) _ _ (FitsMove Wanted) refl (either (c == 119) _ _ (FitsMove Wanted) refl (either (c == 114) _ _ (FitsMove Wanted) refl tt))
move_fits (Digit a) t c = either (c == 48) _ _ (FitsMove (Digit a)) (refl, refl) (either (c == 49) _ _ (FitsMove (Digit a)) (refl, refl) tt)
move_fits Operation t c = either (is_white c) _ _ (FitsMove Operation) refl (either (c == 44) _ _ (FitsMove Operation) refl (either (c == 41) _ _ (FitsMove Operation) (refl, refl) tt))
move_fits Ended t c = either (is_white c) _ _ (FitsMove Ended) refl (either (c == 59) _ _ (FitsMove Ended) refl (either (t && (c == 125)) _ _ (FitsMove Ended) refl tt))
move_fits Next t c = either (is_white c) _ _ (FitsMove Next) refl (spelling_fits Next t (seek [] c 0 marks) refl)
move_fits Closed t c = either (is_white c) _ _ (FitsMove Closed) refl tt

pub fits : (p : Place) (t : Bool) (c : ℕ) (m : Move) → move_at p t c ≡ Some m → Fits p m.event m.place
fits p t c m e = subst (λ o. Each o (FitsMove p)) e (move_fits p t c)

-- ---- what is held after a move

with_op_last : (es : List MarchElement) (o : Order) (os : List Op) (op : Op)
    → with_op (es ++ sweep o os ∷ []) op ≡ es ++ sweep o (os ++ op ∷ []) ∷ []
with_op_last [] o os op = refl
with_op_last (e ∷ []) o os op = refl
with_op_last (e ∷ f ∷ es) o os op = ap (λ x. e ∷ x) (with_op_last (f ∷ es) o os op)

last_ops_last : (es : List MarchElement) (e : MarchElement) → last_ops (es ++ e ∷ []) ≡ ops_of e
last_ops_last [] e = refl
last_ops_last (x ∷ []) e = refl
last_ops_last (x ∷ y ∷ es) e = last_ops_last (y ∷ es) e

held_inside : (s : State) → is_inside s.place ≡ true → held s ≡ s.done ++ begun s ∷ []
held_inside s h = rw h refl

held_outside : (s : State) → is_inside s.place ≡ false → held s ≡ s.done
held_outside s h = rw h refl

at_ordered : (p : Place) (x y : List MarchElement) → p ≡ Ordered → (if is_inside p then x else y) ≡ x
at_ordered p x y e = rw e refl

at_operation : (p : Place) (x y : List MarchElement) → p ≡ Operation → (if is_inside p then x else y) ≡ x
at_operation p x y e = rw e refl

at_ended : (p : Place) (x y : List MarchElement) → p ≡ Ended → (if is_inside p then x else y) ≡ y
at_ended p x y e = rw e refl

pub held_moved : (s : State) (p : Place) (t : Bool) (event : Event) → Fits s.place event p → held (moved s (record { place = p; braced = t; event = event })) ≡ with_event event (held s)
held_moved s p t Quiet f = ap (λ i. if i then s.done ++ begun s ∷ [] else s.done) (sym f)
held_moved s p t (Begins o) f = at_ordered p _ _ f.1 ∙ ap (λ x. x ++ sweep o [] ∷ []) (sym (held_outside s f.0))
held_moved s p t (Adds op) f = at_operation p _ _ f.1 ∙ sym (with_op_last s.done s.order s.ops op) ∙ ap (λ x. with_op x op) (sym (held_inside s f.0))
held_moved s p t Ends f = at_ended p _ _ f.1 ∙ sym (held_inside s f.0)
held_moved s p t Waits f = at_ended p _ _ f.1 ∙ ap (λ x. x ++ pause ∷ []) (sym (held_outside s f.0))

sweep_last : (es : List MarchElement) (o : Order) (os : List Op) → IsTrue (ends_in_sweep (es ++ sweep o os ∷ []))
sweep_last [] o os = refl
sweep_last (e ∷ []) o os = refl
sweep_last (e ∷ f ∷ es) o os = sweep_last (f ∷ es) o os

-- an operation comes where an element was begun
pub begun_before : (s : State) (p : Place) (event : Event) → Fits s.place event p → HasBegun event (held s)
begun_before s p Quiet f = tt
begun_before s p (Begins o) f = tt
begun_before s p (Adds op) f = rw (held_inside s f.0) (sweep_last s.done s.order s.ops)
begun_before s p Ends f = tt
begun_before s p Waits f = tt

-- ---- which limit is exceeded first

-- an element that can't begin is the first place that exceeds a limit
element_exceeds : (s : State) (o : Order) (t : Bool) (p : Place) (b : List ℕ) (es : List MarchElement) → IsWithin (held s) → Fits s.place (Begins o) p → length (held s) ≡ 64 → rest (moved s (record { place = p; braced = t; event = Begins o })) b es → Exceeds es TooManyElements
element_exceeds s o t p b es w f full r = go p f.1 r
  where
    same : held s ≡ s.done
    same = held_outside s f.0

    split : (xs m : List MarchElement) → xs ≡ s.done ++ m → (x : State) → in_element Ordered x m b → Exceeds xs TooManyElements
    split xs [] e x h = absurd h
    split xs (y ∷ m) e x h = (record { whole = s.done; next = y; others = m; split = e }, subst IsWithin same w, sym (ap length same) ∙ full)

    go : (p : Place) → p ≡ Ordered → rest (moved s (record { place = p; braced = t; event = Begins o })) b es → Exceeds es TooManyElements
    go p e r = let q : rest (moved s (record { place = Ordered; braced = t; event = Begins o })) b es = subst (λ p. rest (moved s (record { place = p; braced = t; event = Begins o })) b es) e r in split es q.0 q.1 (moved s (record { place = Ordered; braced = t; event = Begins o })) q.2

-- and so is a pause
pause_exceeds : (s : State) (t : Bool) (p : Place) (b : List ℕ) (es : List MarchElement) → IsWithin (held s) → Fits s.place Waits p
    → length (held s) ≡ 64 → rest (moved s (record { place = p; braced = t; event = Waits })) b es → Exceeds es TooManyElements
pause_exceeds s t p b es w f full r = (
  record { whole = s.done; next = pause; others = r.0; split = r.1 ∙ append_assoc s.done (pause ∷ []) r.0 },
  subst IsWithin same w,
  sym (ap length same) ∙ full,
)
  where
    same : held s ≡ s.done
    same = held_outside s f.0

-- an operation that can't be added is the first place that exceeds a limit
op_exceeds : (s : State) (op : Op) (t : Bool) (p : Place) (b : List ℕ) (es : List MarchElement) (fault : MarchFault) → IsWithin (held s) → Fits s.place (Adds op) p → IsFull (Adds op) (held s) fault → rest (moved s (record { place = p; braced = t; event = Adds op })) b es → Exceeds es fault
op_exceeds s op t p b es fault w f full r = go p f.1 r
  where
    same : held s ≡ s.done ++ begun s ∷ []
    same = held_inside s f.0

    count : length (held s) ≡ length s.done + 1
    count = ap length same ∙ length-append s.done (begun s ∷ [])

    last : last_ops (held s) ≡ s.ops
    last = ap last_ops same ∙ last_ops_last s.done (begun s)

    found : (y : MarchElement) (place : BeforeOp es) → so_far place ≡ held s → place.ops ≡ s.ops → place.whole ≡ s.done → Exceeds es fault
    found y place so ops whole = elim full [
      | inl a ↦ subst (λ x. Exceeds es x) (sym a.0) (place, subst IsWithin (sym so) w, ap length ops ∙ ap length (sym last) ∙ a.1, (let n : length place.whole ≡ length s.done = ap length whole in omega (arith, count)))
      | inr a ↦ subst (λ x. Exceeds es x) (sym a.0) (place, subst IsWithin (sym so) w, (let n : length place.ops ≡ length (last_ops (held s)) = ap length ops ∙ ap length (sym last) in omega (arith, a.1)), ap (λ x. length (all_ops x)) so ∙ a.2)
    ]

    split : (m : List MarchElement) → es ≡ s.done ++ m → in_element Operation (moved s (record { place = Operation; braced = t; event = Adds op })) m b → Exceeds es fault
    split [] e h = absurd h
    split (pause ∷ m) e h = absurd h
    split (sweep o os ∷ m) e h = found (sweep o os) (record { whole = s.done; element = sweep o os; others = m; ops = s.ops; next = op; more = h.1.0; split = e; ops_split = h.1.1 ∙ append_assoc s.ops (op ∷ []) h.1.0 }) (ap (λ o. s.done ++ sweep o s.ops ∷ []) h.0 ∙ sym same) refl refl

    go : (p : Place) → p ≡ Operation → rest (moved s (record { place = p; braced = t; event = Adds op })) b es → Exceeds es fault
    go p e r = let q : rest (moved s (record { place = Operation; braced = t; event = Adds op })) b es = subst (λ p. rest (moved s (record { place = p; braced = t; event = Adds op })) b es) e r in split q.0 q.1 q.2

exceeds : (s : State) (p : Place) (t : Bool) (event : Event) (b : List ℕ) (es : List MarchElement) (fault : MarchFault) → IsWithin (held s) → Fits s.place event p → IsFull event (held s) fault → rest (moved s (record { place = p; braced = t; event = event })) b es → Exceeds es fault
exceeds s p t Quiet b es fault w f full r = absurd full
exceeds s p t (Begins o) b es fault w f full r = subst (λ x. Exceeds es x) (sym full.0) (element_exceeds s o t p b es w f full.1 r)
exceeds s p t (Adds op) b es fault w f full r = op_exceeds s op t p b es fault w f full r
exceeds s p t Ends b es fault w f full r = absurd full
exceeds s p t Waits b es fault w f full r = subst (λ x. Exceeds es x) (sym full.0) (pause_exceeds s t p b es w f full.1 r)

-- ---- where a reader stands

-- until a limit is exceeded the builder holds what was read; then the limit is the first that the whole text exceeds
abbrev pub Keeps : List ℕ → State → List MarchElement → Option MarchFault → Type 0
Keeps b s built None = (built ≡ held s) × IsWithin built
Keeps b s built (Some fault) = (es : List MarchElement) → scan step value b start 0 ≡ read es → Exceeds es fault

pub record Stands (b : List ℕ) (place : Place) (braced : Bool) (built : List MarchElement) (exceeded : Option MarchFault) (i : ℕ) : Type 0 where
  pub state : State
  pub reached : scan step value b start 0 ≡ scan step value (drop i b) state i
  pub at_place : state.place ≡ place
  pub at_braced : state.braced ≡ braced
  pub kept : Keeps b state built exceeded

pub stands_start : (b : List ℕ) → Stands b Start false [] None 0
stands_start b = record { state = start; reached = refl; at_place = refl; at_braced = refl; kept = (refl, record { elements_within = omega arith; each = tt; ops_within = omega arith }) }

place_after : (event : Event) (s : State) → (after_event event s).place ≡ s.place
place_after Quiet s = refl
place_after (Begins o) s = refl
place_after (Adds op) s = refl
place_after Ends s = refl
place_after Waits s = refl

braced_after : (event : Event) (s : State) → (after_event event s).braced ≡ s.braced
braced_after Quiet s = refl
braced_after (Begins o) s = refl
braced_after (Adds op) s = refl
braced_after Ends s = refl
braced_after Waits s = refl

module _ (b : List ℕ) (place : Place) (braced : Bool) (built : List MarchElement) (exceeded : Option MarchFault) (i : ℕ) (x : Stands b place braced built exceeded i) where
  steps : (c : ℕ) (o : Option Move) → move_at place braced c ≡ o → step x.state c ≡ option_map (moved x.state) o
  steps c o e = rw (x.at_place, x.at_braced, e) refl

  fits_here : (c : ℕ) (m : Move) → move_at place braced c ≡ Some m → Fits x.state.place m.event m.place
  fits_here c m e = rw x.at_place (fits place braced c m e)

  -- the builder may be given the next event
  pub can_add : (c : ℕ) (m : Move) → move_at place braced c ≡ Some m → CanAdd exceeded m.event built
  can_add c m e = go exceeded x.kept
    where
      go : (o : Option MarchFault) → Keeps b x.state built o → CanAdd o m.event built
      go None k = (k.1, subst (HasBegun m.event) (sym k.0) (begun_before x.state m.place m.event (fits_here c m e)))
      go (Some f) k = tt

  pub stands_stop : i < length b → move_at place braced (get_or b i 0) ≡ None → scan step value b start 0 ≡ unexpected i
  stands_stop l e = scan_stop step value b i x.state (scan step value b start 0) l (steps (get_or b i 0) None e) x.reached

  pub stands_on : (m : Move) (new : List MarchElement) (now : Option MarchFault) → i < length b → move_at place braced (get_or b i 0) ≡ Some m → Builds exceeded m.event built now new → Stands b m.place m.braced new now (i + 1)
  stands_on m new now l e h = record {
    state = moved x.state m;
    reached = on;
    at_place = place_after m.event (record x.state { place = m.place; braced = m.braced });
    at_braced = braced_after m.event (record x.state { place = m.place; braced = m.braced });
    kept = keeps exceeded now x.kept h;
  }
    where
      on : scan step value b start 0 ≡ scan step value (drop (i + 1) b) (moved x.state m) (i + 1)
      on = scan_on step value b i x.state (moved x.state m) (scan step value b start 0) l (steps (get_or b i 0) (Some m) e) x.reached

      here : Fits x.state.place m.event m.place
      here = fits_here (get_or b i 0) m e

      keeps : (o q : Option MarchFault) → Keeps b x.state built o → Builds o m.event built q new → Keeps b (moved x.state m) new q
      keeps None None k g = (g.0 ∙ ap (with_event m.event) k.0 ∙ sym (held_moved x.state m.place m.braced m.event here), g.1)
      keeps None (Some f) k g = λ es r. exceeds x.state m.place m.braced m.event (drop (i + 1) b) es f (subst IsWithin k.0 k.1) here (subst (λ z. IsFull m.event z f) k.0 g) (scan_read step value rest (λ s. Unit {0}) follows (drop (i + 1) b) (moved x.state m) (i + 1) es (sym on ∙ r))
      keeps (Some f) q k g = subst (Keeps b (moved x.state m) new) (sym g) k

  pub stands_end : drop i b ≡ [] → scan step value b start 0 ≡ ended (if may_end place braced then Some x.state.done else None)
  stands_end e = scan_end step value b i x.state (scan step value b start 0) e x.reached ∙ rw (x.at_place, x.at_braced) refl
