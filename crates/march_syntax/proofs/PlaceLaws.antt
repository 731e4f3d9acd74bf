-- The four laws of the reader's places: what may follow each, by the next byte.
use Rattle.std.proofs.Common.{◌≡◌, ℕ, ◌==◌, Bool, true, false, List, [], ◌∷◌, ◌++◌, Option, Some, None, refl, ◌↔◌, ◌⊎◌, inl, inr, subst, sym, ap, ◌∙◌, ◌&&◌, append-nil, if◌then◌else◌, arith, option_map}
use Rattle.bist_text.specs.Grammar.{finish, byte, are_bytes, Continues}
use Rattle.bist_text.specs.declared.keywords.Letters.{Letters}
use Rattle.bist_text.specs.declared.keywords.Spelled.{Spelled}
use Rattle.bist_text.specs.declared.keywords.Spelled.TheVariants.{More, Whole}
use Rattle.bist_text.specs.inner.Keywords.{stands, left}
use Rattle.bist_text.specs.Keywords.{letters_of, seek, spell}
use Rattle.bist_text.specs.Machine.{Holds}
use Rattle.bist_text.specs.inner.Machine.{Grows, Follows}
use Rattle.bist_text.proofs.KeywordLaws.{first_law, spell_law, first_ends, spell_ends}
use Rattle.bist_text.proofs.Pieces.{at_byte, also, skip, stay, neither, same, never, holds_iff, holds_never, grows_iff, grows_never, grows_from_none, Headed, grows_one, many_never, ends_none, ends_here}
use Rattle.march_core.specs.declared.operation.Order.{Order}
use Rattle.march_core.specs.declared.operation.Order.TheVariants.{Up}
use Rattle.march_core.specs.declared.operation.Op.{Op}
use Rattle.march_core.specs.declared.operation.Op.TheVariants.{W0, W1, R0, R1}
use Rattle.march_core.specs.March.{MarchElement, pause, sweep}
use Rattle.march_syntax.specs.declared.place.Mark.{Mark}
use Rattle.march_syntax.specs.declared.place.Mark.TheVariants.{OfOrder, OfPause}
use Rattle.march_syntax.specs.declared.place.Access.{Access}
use Rattle.march_syntax.specs.declared.place.Access.TheVariants.{Write, Read}
use Rattle.march_syntax.specs.declared.place.Place.{Place}
use Rattle.march_syntax.specs.declared.place.Place.TheVariants.{Start, Open, Spelling, Ordered, Wanted, Digit, Operation, Ended, Next, Closed}
use Rattle.march_syntax.specs.declared.place.Event.TheVariants.{Quiet, Adds}
use Rattle.march_syntax.specs.declared.place.Move.{Move}
use Rattle.march_syntax.specs.MarchText.{is_white, ws, more_ops, ops, body, element, more_elements, elements, close, listed, MarchText}
use Rattle.march_syntax.specs.inner.Places.{marks, mark_of, behind, paused, State, begun, spelling, op_of, start, moved, move, step_at, step, value, may_end, digit, ops_left, in_element, in_spelling, left_at, Nothing, rest, spelled_at}
use Rattle.march_syntax.proofs.Spelling.{fine, element_is, part_alive}

-- what one more letter of a spelling leaves
abbrev Spells : List ℕ → Option (Spelled Mark) → ℕ → List ℕ → Type 1
Spells ls o c b = (m : Mark) (K : List ℕ → Type 0) → stands marks m K (ls ++ c ∷ b) ↔ Holds o (λ q. left marks q m K b)

wants : (ls : List ℕ) (o : Option (Spelled Mark)) (c : ℕ) (b : List ℕ) → Spells ls o c b → (s : State) (es : List MarchElement) → in_spelling ls s es (c ∷ b) ↔ Holds o (λ q. spelled_at q s es b)
wants ls o c b law s [] = never (λ h. h) (holds_never o (λ q. spelled_at q s [] b) none)
  where
    none : (q : Spelled Mark) → spelled_at q s [] b → ⊥
    none (More q) h = h
    none (Whole (OfOrder o)) h = h
    none (Whole OfPause) h = h
wants ls o c b law s (e ∷ es) =
    also (law (mark_of e) (behind e (more_elements es (ws (close s.braced)))))
    (holds_iff o (λ q. left marks q (mark_of e) (behind e (more_elements es (ws (close s.braced)))) b) (λ q. spelled_at q s (e ∷ es) b) (each e))
  where
    order_is : (r o : Order) → OfOrder r ≡ OfOrder o → r ≡ o
    order_is r o e = cc

    each : (e : MarchElement) (q : Spelled Mark) → left marks q (mark_of e) (behind e (more_elements es (ws (close s.braced)))) b ↔ spelled_at q s (e ∷ es) b
    each e (More q) = same
    each pause (Whole OfPause) = (λ h. h.1, λ h. (refl, h))
    each pause (Whole (OfOrder o)) = never (λ h. let x : OfPause ≡ OfOrder o = h.0 in cc) (λ h. h)
    each (sweep r os) (Whole OfPause) = never (λ h. let x : OfOrder r ≡ OfPause = h.0 in cc) (λ h. h)
    each (sweep r os) (Whole (OfOrder o)) =
        (λ h. (order_is r o h.0, (os, refl, h.1)), λ h. (ap OfOrder h.0, (grows_from_none os (λ m. body m (more_elements es (ws (close s.braced))) b)).0 h.1))

abbrev with_braces : Bool → State → State
with_braces t s = record s { braced = t }

-- the state after a byte of a spelling
spelling_law : (t : Bool) (s : State) (o : Option (Spelled Mark)) (b : List ℕ) (v : List MarchElement)
    → Grows s.done v (λ es. Holds o (λ q. spelled_at q (with_braces t s) es b)) ↔ Holds (option_map (moved s) (spelling t o)) (λ z. rest z b v)
spelling_law t s None b v = never (λ h. h.2) (λ h. h)
spelling_law t s (Some (More q)) b v = same
spelling_law t s (Some (Whole (OfOrder o))) b v = same
spelling_law t s (Some (Whole OfPause)) b v =
    grows_one s.done v pause (λ es. paused (with_braces t s) es b) (λ es. more_elements es (ws (close t)) b) each
  where
    each : (m : List MarchElement) → paused (with_braces t s) m b ↔ Headed pause (λ es. more_elements es (ws (close t)) b) m
    each [] = same
    each (pause ∷ m) = (λ h. (refl, h), λ h. h.1)
    each (sweep o os ∷ m) = never (λ h. h) (λ h. let e : sweep o os ≡ pause = h.0 in cc)

spelling_goes : (ls : List ℕ) (o : Option (Spelled Mark)) (t : Bool) (s : State) (c : ℕ) (b : List ℕ) (v : List MarchElement) → Spells ls o c b
    → Grows s.done v (λ es. in_spelling ls (with_braces t s) es (c ∷ b)) ↔ Holds (option_map (moved s) (spelling t o)) (λ z. rest z b v)
spelling_goes ls o t s c b v law =
    also (grows_iff s.done v (λ es. in_spelling ls (with_braces t s) es (c ∷ b)) (λ es. Holds o (λ q. spelled_at q (with_braces t s) es b)) (wants ls o c b law (with_braces t s)))
    (spelling_law t s o b v)

first_spells : (c : ℕ) (b : List ℕ) → Spells [] (seek [] c 0 marks) c b
first_spells c b m K = first_law marks fine m K c b

first_goes : (t : Bool) (s : State) (c : ℕ) (b : List ℕ) (v : List MarchElement) → Grows s.done v (λ es. in_spelling [] (with_braces t s) es (c ∷ b)) ↔ Holds (option_map (moved s) (spelling t (seek [] c 0 marks))) (λ z. rest z b v)
first_goes t s c b v = spelling_goes [] (seek [] c 0 marks) t s c b v (first_spells c b)

-- elements begin with a spelling
elements_begin : (s : State) (es : List MarchElement) (b : List ℕ) → elements es (ws (close s.braced)) b ↔ in_spelling [] s es b
elements_begin s [] b = same
elements_begin s (e ∷ es) b = element_is e (more_elements es (ws (close s.braced))) b

-- elements don't begin with a byte that begins no order
pub no_elements : (s : State) (es : List MarchElement) (c : ℕ) (b : List ℕ) → seek [] c 0 marks ≡ None → elements es (ws (close s.braced)) (c ∷ b) → ⊥
no_elements s es c b e h =
    subst (λ (o : Option (Spelled Mark)). Holds o (λ q. spelled_at q s es b)) e ((wants [] (seek [] c 0 marks) c b (first_spells c b) s es).0 ((elements_begin s es (c ∷ b)).0 h))

no_listed : (s : State) (es : List MarchElement) (c : ℕ) (b : List ℕ) → seek [] c 0 marks ≡ None → (close s.braced (c ∷ b) → ⊥) → listed s.braced es (c ∷ b) → ⊥
no_listed s [] c b e f h = f h
no_listed s (x ∷ es) c b e f h = no_elements s (x ∷ es) c b e h

-- behind a byte that isn't the end
listed_wants : (s : State) (es : List MarchElement) (c : ℕ) (b : List ℕ) → (close s.braced (c ∷ b) → ⊥) → listed s.braced es (c ∷ b) ↔ in_spelling [] s es (c ∷ b)
listed_wants s [] c b f = never f (λ h. h)
listed_wants s (x ∷ es) c b f = elements_begin s (x ∷ es) (c ∷ b)

abbrev Law : Place → State → List ℕ → List MarchElement → ℕ → Type 0
Law p s b v c = Grows s.done v (λ es. left_at p s es (c ∷ b)) ↔ Holds (step_at p s c) (λ t. rest t b v)

pub goes_start : (s : State) (c : ℕ) (b : List ℕ) (v : List MarchElement) → Law Start s b v c
goes_start s c b v =
    at_byte P c 32 (grows_iff s.done v (λ es. left_at Start s es (32 ∷ b)) (λ es. left_at Start s es b) (λ es. skip (neither (λ z. z) (no_listed (with_braces false s) es 32 b refl (λ z. z))))) (λ n32.
    at_byte P c 9 (grows_iff s.done v (λ es. left_at Start s es (9 ∷ b)) (λ es. left_at Start s es b) (λ es. skip (neither (λ z. z) (no_listed (with_braces false s) es 9 b refl (λ z. z))))) (λ n9.
    at_byte P c 13 (grows_iff s.done v (λ es. left_at Start s es (13 ∷ b)) (λ es. left_at Start s es b) (λ es. skip (neither (λ z. z) (no_listed (with_braces false s) es 13 b refl (λ z. z))))) (λ n13.
    at_byte P c 10 (grows_iff s.done v (λ es. left_at Start s es (10 ∷ b)) (λ es. left_at Start s es b) (λ es. skip (neither (λ z. z) (no_listed (with_braces false s) es 10 b refl (λ z. z))))) (λ n10.
    at_byte P c 123 (grows_iff s.done v (λ es. left_at Start s es (123 ∷ b)) (λ es. ws (listed true es) b) (λ es. also (stay (λ z. z)) (stay (no_listed (with_braces false s) es 123 b refl (λ z. z))))) (λ n123.
    simp (n32, n9, n13, n10, n123) (also (grows_iff s.done v (λ es. (⊥ ⊎ listed false es (c ∷ b)) ⊎ ⊥) (λ es. in_spelling [] (with_braces false s) es (c ∷ b)) (λ es. also (stay (λ z. z)) (also (skip (λ z. z)) (listed_wants (with_braces false s) es c b (λ z. z))))) (first_goes false s c b v)))))))
  where
    P : ℕ → Type 0
    P x = Law Start s b v x

pub goes_open : (s : State) (c : ℕ) (b : List ℕ) (v : List MarchElement) → Law Open s b v c
goes_open s c b v =
    at_byte P c 32 (grows_iff s.done v (λ es. left_at Open s es (32 ∷ b)) (λ es. left_at Open s es b) (λ es. skip (no_listed (with_braces true s) es 32 b refl (λ z. z)))) (λ n32.
    at_byte P c 9 (grows_iff s.done v (λ es. left_at Open s es (9 ∷ b)) (λ es. left_at Open s es b) (λ es. skip (no_listed (with_braces true s) es 9 b refl (λ z. z)))) (λ n9.
    at_byte P c 13 (grows_iff s.done v (λ es. left_at Open s es (13 ∷ b)) (λ es. left_at Open s es b) (λ es. skip (no_listed (with_braces true s) es 13 b refl (λ z. z)))) (λ n13.
    at_byte P c 10 (grows_iff s.done v (λ es. left_at Open s es (10 ∷ b)) (λ es. left_at Open s es b) (λ es. skip (no_listed (with_braces true s) es 10 b refl (λ z. z)))) (λ n10.
    at_byte P c 125 (grows_iff s.done v (λ es. left_at Open s es (125 ∷ b)) (λ es. Nothing es × ws finish b) (λ es. also (stay (λ z. z)) (closes es))) (λ n125.
    simp (n32, n9, n13, n10, n125) (also (grows_iff s.done v (λ es. listed true es (c ∷ b) ⊎ ⊥) (λ es. in_spelling [] (with_braces true s) es (c ∷ b)) (λ es. also (stay (λ z. z)) (listed_wants (with_braces true s) es c b (simp n125 (λ z. z))))) (first_goes true s c b v)))))))
  where
    P : ℕ → Type 0
    P x = Law Open s b v x

    closes : (es : List MarchElement) → listed true es (125 ∷ b) ↔ (Nothing es × ws finish b)
    closes [] = (λ h. (tt, h), λ h. h.1)
    closes (x ∷ es) = never (no_elements (with_braces true s) (x ∷ es) 125 b refl) (λ h. h.0)

-- within an element, from what holds of its operations
within : (p q : Place) (s : State) (c : ℕ) (b : List ℕ) (v : List MarchElement) → ((os : List Op) (K : List ℕ → Type 0) → ops_left p os K (c ∷ b) ↔ ops_left q os K b) → Grows s.done v (λ es. in_element p s es (c ∷ b)) ↔ Grows s.done v (λ es. in_element q s es b)
within p q s c b v f = grows_iff s.done v (λ es. in_element p s es (c ∷ b)) (λ es. in_element q s es b) each
  where
    each : (es : List MarchElement) → in_element p s es (c ∷ b) ↔ in_element q s es b
    each [] = same
    each (pause ∷ es) = same
    each (sweep o os ∷ es) =
        let K = more_elements es (ws (close s.braced)) in
        let g : Grows s.ops os (λ m. ops_left p m K (c ∷ b)) ↔ Grows s.ops os (λ m. ops_left q m K b) =
        grows_iff s.ops os (λ m. ops_left p m K (c ∷ b)) (λ m. ops_left q m K b) (λ m. f m K) in
        (λ h. (h.0, g.0 h.1), λ h. (h.0, g.1 h.1))

-- a byte that nothing in an element begins with
outside : (p : Place) (s : State) (c : ℕ) (b : List ℕ) (v : List MarchElement) → ((os : List Op) (K : List ℕ → Type 0) → ops_left p os K (c ∷ b) → ⊥) → Grows s.done v (λ es. in_element p s es (c ∷ b)) → ⊥
outside p s c b v f h = go h.0 h.2
  where
    go : (es : List MarchElement) → in_element p s es (c ∷ b) → ⊥
    go [] z = z
    go (pause ∷ es) z = z
    go (sweep o os ∷ es) z = f z.1.0 (more_elements es (ws (close s.braced))) z.1.2

pub goes_spelling : (q : Letters) (s : State) (c : ℕ) (b : List ℕ) (v : List MarchElement) → Law (Spelling q) s b v c
goes_spelling q s c b v = spelling_goes (letters_of marks q) (spell marks q c) s.braced s c b v (λ m K. spell_law marks fine q m K c b)

pub goes_ordered : (s : State) (c : ℕ) (b : List ℕ) (v : List MarchElement) → Law Ordered s b v c
goes_ordered s c b v =
    at_byte P c 32 (within Ordered Ordered s 32 b v (λ os K. skip (λ z. z))) (λ n32.
    at_byte P c 9 (within Ordered Ordered s 9 b v (λ os K. skip (λ z. z))) (λ n9.
    at_byte P c 13 (within Ordered Ordered s 13 b v (λ os K. skip (λ z. z))) (λ n13.
    at_byte P c 10 (within Ordered Ordered s 10 b v (λ os K. skip (λ z. z))) (λ n10.
    at_byte P c 40 (within Ordered Wanted s 40 b v (λ os K. stay (λ z. z))) (λ n40.
    simp (n32, n9, n13, n10, n40) (never (outside Ordered s c b v (λ os K. simp (n32, n9, n13, n10, n40) (neither (λ z. z) (λ z. z)))) (λ z. z)))))))
  where
    P : ℕ → Type 0
    P x = Law Ordered s b v x

-- what no operation begins with
no_ops : (os : List Op) (K : List ℕ → Type 0) (c : ℕ) (b : List ℕ) → (c == 119) ≡ false → (c == 114) ≡ false → ops os K (c ∷ b) → ⊥
no_ops [] K c b e f h = h
no_ops (W0 ∷ os) K c b e f h = rw e at h
no_ops (W1 ∷ os) K c b e f h = rw e at h
no_ops (R0 ∷ os) K c b e f h = rw f at h
no_ops (R1 ∷ os) K c b e f h = rw f at h

letter_w : (os : List Op) (K : List ℕ → Type 0) (b : List ℕ) → ops os (ws (byte 41 K)) (119 ∷ b) ↔ ops_left (Digit Write) os K b
letter_w [] K b = same
letter_w (W0 ∷ os) K b = same
letter_w (W1 ∷ os) K b = same
letter_w (R0 ∷ os) K b = same
letter_w (R1 ∷ os) K b = same

letter_r : (os : List Op) (K : List ℕ → Type 0) (b : List ℕ) → ops os (ws (byte 41 K)) (114 ∷ b) ↔ ops_left (Digit Read) os K b
letter_r [] K b = same
letter_r (W0 ∷ os) K b = same
letter_r (W1 ∷ os) K b = same
letter_r (R0 ∷ os) K b = same
letter_r (R1 ∷ os) K b = same

pub goes_wanted : (s : State) (c : ℕ) (b : List ℕ) (v : List MarchElement) → Law Wanted s b v c
goes_wanted s c b v =
    at_byte P c 32 (within Wanted Wanted s 32 b v (λ os K. skip (no_ops os (ws (byte 41 K)) 32 b refl refl))) (λ n32.
    at_byte P c 9 (within Wanted Wanted s 9 b v (λ os K. skip (no_ops os (ws (byte 41 K)) 9 b refl refl))) (λ n9.
    at_byte P c 13 (within Wanted Wanted s 13 b v (λ os K. skip (no_ops os (ws (byte 41 K)) 13 b refl refl))) (λ n13.
    at_byte P c 10 (within Wanted Wanted s 10 b v (λ os K. skip (no_ops os (ws (byte 41 K)) 10 b refl refl))) (λ n10.
    at_byte P c 119 (within Wanted (Digit Write) s 119 b v (λ os K. also (stay (λ z. z)) (letter_w os K b))) (λ n119.
    at_byte P c 114 (within Wanted (Digit Read) s 114 b v (λ os K. also (stay (λ z. z)) (letter_r os K b))) (λ n114.
    simp (n32, n9, n13, n10, n119, n114) (never (outside Wanted s c b v (λ os K. simp (n32, n9, n13, n10) (neither (no_ops os (ws (byte 41 K)) c b n119 n114) (λ z. z)))) (λ z. z))))))))
  where
    P : ℕ → Type 0
    P x = Law Wanted s b v x

-- the digit of an operation ends it
digit_ends : (r : Access) (d : Bool) (c : ℕ) (b : List ℕ) (K : List ℕ → Type 0) (os : List Op) → ((o : Op) (L : List ℕ → Type 0) → digit r o L (c ∷ b) ↔ ((o ≡ op_of r d) × L b)) → ops_left (Digit r) os K (c ∷ b) ↔ Headed (op_of r d) (λ m. ops_left Operation m K b) os
digit_ends r d c b K [] f = same
digit_ends r d c b K (o ∷ os) f = f o (more_ops os (ws (byte 41 K)))

digit_is : (r : Access) (o : Op) (b : List ℕ) (L : List ℕ → Type 0) → (digit r o L (48 ∷ b) ↔ ((o ≡ op_of r false) × L b)) × (digit r o L (49 ∷ b) ↔ ((o ≡ op_of r true) × L b))
digit_is Write W0 b L = grind arith
digit_is Write W1 b L = grind arith
digit_is Write R0 b L = grind arith
digit_is Write R1 b L = grind arith
digit_is Read W0 b L = grind arith
digit_is Read W1 b L = grind arith
digit_is Read R0 b L = grind arith
digit_is Read R1 b L = grind arith

no_digit : (r : Access) (os : List Op) (K : List ℕ → Type 0) (c : ℕ) (b : List ℕ) → (c == 48) ≡ false → (c == 49) ≡ false → ops_left (Digit r) os K (c ∷ b) → ⊥
no_digit r [] K c b e f h = h
no_digit Write (W0 ∷ os) K c b e f h = rw e at h
no_digit Write (W1 ∷ os) K c b e f h = rw f at h
no_digit Read (R0 ∷ os) K c b e f h = rw e at h
no_digit Read (R1 ∷ os) K c b e f h = rw f at h
no_digit Write (R0 ∷ os) K c b e f h = h
no_digit Write (R1 ∷ os) K c b e f h = h
no_digit Read (W0 ∷ os) K c b e f h = h
no_digit Read (W1 ∷ os) K c b e f h = h

letter_ends : (r : Access) (d : Bool) (s : State) (c : ℕ) (b : List ℕ) (v : List MarchElement) → ((o : Op) (L : List ℕ → Type 0) → digit r o L (c ∷ b) ↔ ((o ≡ op_of r d) × L b)) → Grows s.done v (λ es. in_element (Digit r) s es (c ∷ b)) ↔ Holds (option_map (moved s) (move Operation s.braced (Adds (op_of r d)))) (λ t. rest t b v)
letter_ends r d s c b v f = grows_iff s.done v (λ es. in_element (Digit r) s es (c ∷ b)) (λ es. in_element Operation (record s { ops = s.ops ++ (op_of r d ∷ []) }) es b) each
  where
    each : (es : List MarchElement) → in_element (Digit r) s es (c ∷ b) ↔ in_element Operation (record s { ops = s.ops ++ (op_of r d ∷ []) }) es b
    each [] = same
    each (pause ∷ es) = same
    each (sweep o os ∷ es) =
        let K : List ℕ → Type 0 = more_elements es (ws (close s.braced)) in
        let g : Grows s.ops os (λ m. ops_left (Digit r) m K (c ∷ b)) ↔ Grows (s.ops ++ (op_of r d ∷ [])) os (λ m. ops_left Operation m K b) =
        grows_one s.ops os (op_of r d) (λ m. ops_left (Digit r) m K (c ∷ b)) (λ m. ops_left Operation m K b) (λ m. digit_ends r d c b K m f) in
        (λ h. (h.0, g.0 h.1), λ h. (h.0, g.1 h.1))

pub goes_letter : (r : Access) (s : State) (c : ℕ) (b : List ℕ) (v : List MarchElement) → Law (Digit r) s b v c
goes_letter r s c b v =
    at_byte P c 48 (letter_ends r false s 48 b v (λ o L. (digit_is r o b L).0)) (λ n48.
    at_byte P c 49 (letter_ends r true s 49 b v (λ o L. (digit_is r o b L).1)) (λ n49.
    simp (n48, n49) (never (outside (Digit r) s c b v (λ os K. no_digit r os K c b n48 n49)) (λ z. z))))
  where
    P : ℕ → Type 0
    P x = Law (Digit r) s b v x

no_more_ops : (os : List Op) (K : List ℕ → Type 0) (c : ℕ) (b : List ℕ) → (c == 32) ≡ false → (c == 9) ≡ false → (c == 13) ≡ false → (c == 10) ≡ false → (c == 44) ≡ false → (c == 41) ≡ false → more_ops os (ws (byte 41 K)) (c ∷ b) → ⊥
no_more_ops [] K c b n1 n2 n3 n4 n5 n6 = simp (n1, n2, n3, n4, n5, n6) (neither (λ z. z) (λ z. z))
no_more_ops (o ∷ os) K c b n1 n2 n3 n4 n5 n6 = simp (n1, n2, n3, n4, n5, n6) (neither (λ z. z) (λ z. z))

white_op : (os : List Op) (K : List ℕ → Type 0) (b : List ℕ) (c : ℕ) → (is_white c ≡ true) → ((c == 44) ≡ false) → ((c == 41) ≡ false) → more_ops os (ws (byte 41 K)) (c ∷ b) ↔ more_ops os (ws (byte 41 K)) b
white_op [] K b c n1 n2 n3 = simp (n1, n2, n3) (skip (λ z. z))
white_op (o ∷ os) K b c n1 n2 n3 = simp (n1, n2, n3) (skip (λ z. z))

comma : (os : List Op) (K : List ℕ → Type 0) (b : List ℕ) → more_ops os (ws (byte 41 K)) (44 ∷ b) ↔ ops_left Wanted os K b
comma [] K b = never (neither (λ z. z) (λ z. z)) (many_never is_white (ops [] (ws (byte 41 K))) (λ x z. z) b)
comma (o ∷ os) K b = stay (λ z. z)

more_listed : (br : Bool) (es : List MarchElement) (b : List ℕ) (c : ℕ) → (is_white c ≡ true) → ((c == 59) ≡ false) → ((c == 125) ≡ false) → more_elements es (ws (close br)) (c ∷ b) ↔ more_elements es (ws (close br)) b
more_listed true [] b c n1 n2 n3 = simp (n1, n2, n3) (skip (λ z. z))
more_listed false [] b c n1 n2 n3 = simp (n1, n2, n3) (skip (λ z. z))
more_listed br (e ∷ es) b c n1 n2 n3 = simp (n1, n2, n3) (skip (λ z. z))

no_more_elements : (br : Bool) (es : List MarchElement) (c : ℕ) (b : List ℕ) → (c == 32) ≡ false → (c == 9) ≡ false → (c == 13) ≡ false → (c == 10) ≡ false → (c == 59) ≡ false → (c == 125) ≡ false → more_elements es (ws (close br)) (c ∷ b) → ⊥
no_more_elements true [] c b n1 n2 n3 n4 n5 n6 = simp (n1, n2, n3, n4, n5, n6) (neither (λ z. z) (λ z. z))
no_more_elements false [] c b n1 n2 n3 n4 n5 n6 = simp (n1, n2, n3, n4, n5, n6) (neither (λ z. z) (λ z. z))
no_more_elements br (e ∷ es) c b n1 n2 n3 n4 n5 n6 = simp (n1, n2, n3, n4, n5, n6) (neither (λ z. z) (λ z. z))

semicolon : (s : State) (es : List MarchElement) (b : List ℕ) → more_elements es (ws (close s.braced)) (59 ∷ b) ↔ left_at Next s es b
semicolon s [] b = never (neither (closed s.braced) (λ z. z)) (many_never is_white (elements [] (ws (close s.braced))) (λ x z. z) b)
  where
    closed : (br : Bool) → close br (59 ∷ b) → ⊥
    closed true h = h
    closed false h = h
semicolon s (e ∷ es) b = stay (λ z. z)

no_brace : (br : Bool) (s : State) (o : Option Move) (Q : State → Type 0) → Holds (option_map (moved s) (if br && false then o else None)) Q → ⊥
no_brace true s o Q h = h
no_brace false s o Q h = h

brace : (s : State) (br : Bool) (b : List ℕ) (v : List MarchElement) → Grows s.done v (λ es. more_elements es (ws (close br)) (125 ∷ b)) ↔ Holds (option_map (moved s) (if br && true then move Closed br Quiet else None)) (λ t. rest t b v)
brace s true b v = grows_iff s.done v (λ es. more_elements es (ws (close true)) (125 ∷ b)) (λ es. Nothing es × ws finish b) each
  where
    each : (es : List MarchElement) → more_elements es (ws (close true)) (125 ∷ b) ↔ (Nothing es × ws finish b)
    each [] = also (stay (λ z. z)) (λ h. (tt, h), λ h. h.1)
    each (e ∷ es) = never (neither (λ z. z) (λ z. z)) (λ h. h.0)
brace s false b v = never (grows_never s.done v (λ es. more_elements es (ws (close false)) (125 ∷ b)) each) (λ h. h)
  where
    each : (es : List MarchElement) → more_elements es (ws (close false)) (125 ∷ b) → ⊥
    each [] = neither (λ z. z) (λ z. z)
    each (e ∷ es) = neither (λ z. z) (λ z. z)

-- the parenthesis ends an element
ends_element : (s : State) (b : List ℕ) (v : List MarchElement) → Grows s.done v (λ es. in_element Operation s es (41 ∷ b)) ↔ Grows (s.done ++ (begun s ∷ [])) v (λ es. more_elements es (ws (close s.braced)) b)
ends_element s b v = grows_one s.done v (begun s) (λ es. in_element Operation s es (41 ∷ b)) (λ es. more_elements es (ws (close s.braced)) b) each
  where
    none_left : (os : List Op) (K : List ℕ → Type 0) → more_ops os (ws (byte 41 K)) (41 ∷ b) ↔ ((os ≡ []) × K b)
    none_left [] K = also (stay (λ z. z)) (λ h. (refl, h), λ h. h.1)
    none_left (o ∷ os) K = never (neither (λ z. z) (λ z. z)) (λ h. let e : o ∷ os ≡ [] = h.0 in cc)

    each : (es : List MarchElement) → in_element Operation s es (41 ∷ b) ↔ Headed (begun s) (λ m. more_elements m (ws (close s.braced)) b) es
    each [] = same
    each (pause ∷ es) = never (λ h. h) (λ h. let e : pause ≡ begun s = h.0 in cc)
    each (sweep o os ∷ es) =
        let K : List ℕ → Type 0 = more_elements es (ws (close s.braced)) in (
          (λ h. let left = (none_left h.1.0 K).0 h.1.2 in (is_begun h.0 h.1.0 h.1.1 left.0, left.1)),
          (λ h. let order : o ≡ s.order = order_is h.0 in let ops : os ≡ s.ops = ops_is h.0 in
              (order, ([], ops ∙ sym (append-nil s.ops), (none_left [] K).1 (refl, h.1)))),
        )
      where
        is_begun : o ≡ s.order → (more : List Op) → os ≡ s.ops ++ more → more ≡ [] → sweep o os ≡ begun s
        is_begun h more f g = let e : os ≡ s.ops = f ∙ ap (λ x. s.ops ++ x) g ∙ append-nil s.ops in cc

        order_is : sweep o os ≡ begun s → o ≡ s.order
        order_is e = cc

        ops_is : sweep o os ≡ begun s → os ≡ s.ops
        ops_is e = cc

pub goes_operation : (s : State) (c : ℕ) (b : List ℕ) (v : List MarchElement) → Law Operation s b v c
goes_operation s c b v =
    at_byte P c 32 (within Operation Operation s 32 b v (λ os K. white_op os K b 32 refl refl refl)) (λ n32.
    at_byte P c 9 (within Operation Operation s 9 b v (λ os K. white_op os K b 9 refl refl refl)) (λ n9.
    at_byte P c 13 (within Operation Operation s 13 b v (λ os K. white_op os K b 13 refl refl refl)) (λ n13.
    at_byte P c 10 (within Operation Operation s 10 b v (λ os K. white_op os K b 10 refl refl refl)) (λ n10.
    at_byte P c 44 (within Operation Wanted s 44 b v (λ os K. comma os K b)) (λ n44.
    at_byte P c 41 (ends_element s b v) (λ n41.
    simp (n32, n9, n13, n10, n44, n41) (never (outside Operation s c b v (λ os K. no_more_ops os K c b n32 n9 n13 n10 n44 n41)) (λ z. z))))))))
  where
    P : ℕ → Type 0
    P x = Law Operation s b v x

pub goes_ended : (s : State) (c : ℕ) (b : List ℕ) (v : List MarchElement) → Law Ended s b v c
goes_ended s c b v =
    at_byte P c 32 (grows_iff s.done v (λ es. left_at Ended s es (32 ∷ b)) (λ es. left_at Ended s es b) (λ es. more_listed s.braced es b 32 refl refl refl)) (λ n32.
    at_byte P c 9 (grows_iff s.done v (λ es. left_at Ended s es (9 ∷ b)) (λ es. left_at Ended s es b) (λ es. more_listed s.braced es b 9 refl refl refl)) (λ n9.
    at_byte P c 13 (grows_iff s.done v (λ es. left_at Ended s es (13 ∷ b)) (λ es. left_at Ended s es b) (λ es. more_listed s.braced es b 13 refl refl refl)) (λ n13.
    at_byte P c 10 (grows_iff s.done v (λ es. left_at Ended s es (10 ∷ b)) (λ es. left_at Ended s es b) (λ es. more_listed s.braced es b 10 refl refl refl)) (λ n10.
    at_byte P c 59 (grows_iff s.done v (λ es. left_at Ended s es (59 ∷ b)) (λ es. left_at Next s es b) (λ es. semicolon s es b)) (λ n59.
    at_byte P c 125 (brace s s.braced b v) (λ n125.
    simp (n32, n9, n13, n10, n59, n125) (never (grows_never s.done v (λ es. more_elements es (ws (close s.braced)) (c ∷ b)) (λ es. no_more_elements s.braced es c b n32 n9 n13 n10 n59 n125)) (no_brace s.braced s (move Closed s.braced Quiet) (λ t. rest t b v)))))))))
  where
    P : ℕ → Type 0
    P x = Law Ended s b v x

pub goes_next : (s : State) (c : ℕ) (b : List ℕ) (v : List MarchElement) → Law Next s b v c
goes_next s c b v =
    at_byte P c 32 (grows_iff s.done v (λ es. left_at Next s es (32 ∷ b)) (λ es. left_at Next s es b) (λ es. skip (no_elements s es 32 b refl))) (λ n32.
    at_byte P c 9 (grows_iff s.done v (λ es. left_at Next s es (9 ∷ b)) (λ es. left_at Next s es b) (λ es. skip (no_elements s es 9 b refl))) (λ n9.
    at_byte P c 13 (grows_iff s.done v (λ es. left_at Next s es (13 ∷ b)) (λ es. left_at Next s es b) (λ es. skip (no_elements s es 13 b refl))) (λ n13.
    at_byte P c 10 (grows_iff s.done v (λ es. left_at Next s es (10 ∷ b)) (λ es. left_at Next s es b) (λ es. skip (no_elements s es 10 b refl))) (λ n10.
    simp (n32, n9, n13, n10) (also (grows_iff s.done v (λ es. elements es (ws (close s.braced)) (c ∷ b) ⊎ ⊥) (λ es. in_spelling [] s es (c ∷ b)) (λ es. also (stay (λ z. z)) (elements_begin s es (c ∷ b)))) (first_goes s.braced s c b v))))))
  where
    P : ℕ → Type 0
    P x = Law Next s b v x

pub goes_closed : (s : State) (c : ℕ) (b : List ℕ) (v : List MarchElement) → Law Closed s b v c
goes_closed s c b v =
    at_byte P c 32 (grows_iff s.done v (λ es. left_at Closed s es (32 ∷ b)) (λ es. left_at Closed s es b) (λ es. behind es 32)) (λ n32.
    at_byte P c 9 (grows_iff s.done v (λ es. left_at Closed s es (9 ∷ b)) (λ es. left_at Closed s es b) (λ es. behind es 9)) (λ n9.
    at_byte P c 13 (grows_iff s.done v (λ es. left_at Closed s es (13 ∷ b)) (λ es. left_at Closed s es b) (λ es. behind es 13)) (λ n13.
    at_byte P c 10 (grows_iff s.done v (λ es. left_at Closed s es (10 ∷ b)) (λ es. left_at Closed s es b) (λ es. behind es 10)) (λ n10.
    simp (n32, n9, n13, n10) (never (grows_never s.done v (λ es. Nothing es × (⊥ ⊎ ⊥)) (λ es h. neither (λ z. z) (λ z. z) h.1)) (λ z. z))))))
  where
    P : ℕ → Type 0
    P x = Law Closed s b v x

    behind : (es : List MarchElement) (c : ℕ) → (Nothing es × (⊥ ⊎ ws finish b)) ↔ (Nothing es × ws finish b)
    behind es c = (λ h. (h.0, (skip (λ z. z)).0 h.1), λ h. (h.0, inr h.1))

-- what may follow each place, by the next byte
pub goes_at : (p : Place) (s : State) (c : ℕ) (b : List ℕ) (v : List MarchElement) → Law p s b v c
goes_at Start s c b v = goes_start s c b v
goes_at Open s c b v = goes_open s c b v
goes_at (Spelling p) s c b v = goes_spelling p s c b v
goes_at Ordered s c b v = goes_ordered s c b v
goes_at Wanted s c b v = goes_wanted s c b v
goes_at (Digit r) s c b v = goes_letter r s c b v
goes_at Operation s c b v = goes_operation s c b v
goes_at Ended s c b v = goes_ended s c b v
goes_at Next s c b v = goes_next s c b v
goes_at Closed s c b v = goes_closed s c b v

no_element : (e : MarchElement) (K : List ℕ → Type 0) → element e K [] → ⊥
no_element e K h = first_ends marks fine (mark_of e) (behind e K) ((element_is e K []).0 h)

no_end : (p : Place) (s : State) → ((os : List Op) (K : List ℕ → Type 0) → ops_left p os K [] → ⊥) → (es : List MarchElement) → in_element p s es [] → ⊥
no_end p s f [] h = h
no_end p s f (pause ∷ es) h = h
no_end p s f (sweep o os ∷ es) h = f h.1.0 (more_elements es (ws (close s.braced))) h.1.2

ended_at : (br : Bool) (done v : List MarchElement) → Grows done v (λ es. more_elements es (ws (close br)) []) ↔ ((if may_end Ended br then Some done else None) ≡ Some v)
ended_at true done v = ends_none done v (λ es. more_elements es (ws (close true)) []) each
  where
    each : (es : List MarchElement) → more_elements es (ws (close true)) [] → ⊥
    each [] h = h
    each (e ∷ es) h = h
ended_at false done v = ends_here done v (λ es. more_elements es (ws (close false)) []) each tt
  where
    each : (es : List MarchElement) → more_elements es (ws (close false)) [] → es ≡ []
    each [] h = refl
    each (e ∷ es) h = absurd h

pub ends_at : (p : Place) (s : State) (v : List MarchElement) → Grows s.done v (λ es. left_at p s es []) ↔ ((if may_end p s.braced then Some s.done else None) ≡ Some v)
ends_at Start s v = ends_here s.done v (λ es. left_at Start s es []) (λ es h. nothing false es ((skip (λ z. z)).0 h)) (inr tt)
  where
    nothing : (br : Bool) (es : List MarchElement) → listed br es [] → es ≡ []
    nothing br [] h = refl
    nothing br (e ∷ es) h = absurd (no_element e (more_elements es (ws (close br))) h)
ends_at Open s v = ends_none s.done v (λ es. left_at Open s es []) unclosed
  where
    unclosed : (es : List MarchElement) → listed true es [] → ⊥
    unclosed [] h = h
    unclosed (e ∷ es) h = no_element e (more_elements es (ws (close true))) h
ends_at (Spelling p) s v = ends_none s.done v (λ es. left_at (Spelling p) s es []) each
  where
    each : (es : List MarchElement) → in_spelling (letters_of marks p) s es [] → ⊥
    each [] h = h
    each (e ∷ es) h = spell_ends marks fine p (mark_of e) (behind e (more_elements es (ws (close s.braced)))) h
ends_at Ordered s v = ends_none s.done v (λ es. left_at Ordered s es []) (no_end Ordered s (λ os K z. z))
ends_at Wanted s v = ends_none s.done v (λ es. left_at Wanted s es []) (no_end Wanted s wanted_on)
  where
    wanted_on : (os : List Op) (K : List ℕ → Type 0) → ops_left Wanted os K [] → ⊥
    wanted_on [] K h = h
    wanted_on (W0 ∷ os) K h = h
    wanted_on (W1 ∷ os) K h = h
    wanted_on (R0 ∷ os) K h = h
    wanted_on (R1 ∷ os) K h = h
ends_at (Digit r) s v = ends_none s.done v (λ es. left_at (Digit r) s es []) (no_end (Digit r) s (digit_on r))
  where
    digit_on : (r : Access) (os : List Op) (K : List ℕ → Type 0) → ops_left (Digit r) os K [] → ⊥
    digit_on r [] K h = h
    digit_on Write (W0 ∷ os) K h = h
    digit_on Write (W1 ∷ os) K h = h
    digit_on Read (R0 ∷ os) K h = h
    digit_on Read (R1 ∷ os) K h = h
    digit_on Write (R0 ∷ os) K h = h
    digit_on Write (R1 ∷ os) K h = h
    digit_on Read (W0 ∷ os) K h = h
    digit_on Read (W1 ∷ os) K h = h
ends_at Operation s v = ends_none s.done v (λ es. left_at Operation s es []) (no_end Operation s more_on)
  where
    more_on : (os : List Op) (K : List ℕ → Type 0) → ops_left Operation os K [] → ⊥
    more_on [] K h = h
    more_on (o ∷ os) K h = h
ends_at Ended s v = ended_at s.braced s.done v
ends_at Next s v = ends_none s.done v (λ es. left_at Next s es []) each
  where
    each : (es : List MarchElement) → elements es (ws (close s.braced)) [] → ⊥
    each [] h = h
    each (e ∷ es) h = no_element e (more_elements es (ws (close s.braced))) h
ends_at Closed s v = ends_here s.done v (λ es. left_at Closed s es []) nothing (tt, tt)
  where
    nothing : (es : List MarchElement) → Nothing es × Unit {0} → es ≡ []
    nothing [] h = refl
    nothing (e ∷ es) h = absurd h.0

-- what closes a text
abbrev tail : Bool → List ℕ
tail true = 125 ∷ []
tail false = []

tail_closes : (br : Bool) → ws (close br) (tail br)
tail_closes true = inl tt
tail_closes false = tt

abbrev an_element : Order → List Op → MarchElement
an_element o os = sweep o os

-- each place goes on to an end
tail_bytes : (br : Bool) → are_bytes (tail br) ≡ true
tail_bytes true = refl
tail_bytes false = refl

pub alive_at : (p : Place) (s : State) → Continues (λ b v. Grows s.done v (λ es. left_at p s es b)) []
alive_at Start s = ([], s.done, refl, ([], sym (append-nil s.done), inr tt))
alive_at Open s = (125 ∷ [], s.done, refl, ([], sym (append-nil s.done), inl tt))
alive_at (Spelling p) s =
    let a = part_alive p (ws (close s.braced)) (tail s.braced) (tail_bytes s.braced) (tail_closes s.braced) in
    (a.0, s.done ++ (a.1 ∷ []), a.2, (a.1 ∷ [], refl, a.3))
alive_at Ordered s = (40 ∷ 119 ∷ 48 ∷ 41 ∷ tail s.braced, s.done ++ (an_element s.order (s.ops ++ (W0 ∷ [])) ∷ []), tail_bytes s.braced, (an_element s.order (s.ops ++ (W0 ∷ [])) ∷ [], refl, (refl, (W0 ∷ [], refl, inl (inl (inl (tail_closes s.braced)))))))
alive_at Wanted s = (119 ∷ 48 ∷ 41 ∷ tail s.braced, s.done ++ (an_element s.order (s.ops ++ (W0 ∷ [])) ∷ []), tail_bytes s.braced, (an_element s.order (s.ops ++ (W0 ∷ [])) ∷ [], refl, (refl, (W0 ∷ [], refl, inl (inl (tail_closes s.braced))))))
alive_at (Digit r) s = (48 ∷ 41 ∷ tail s.braced, s.done ++ (an_element s.order (s.ops ++ (op_of r false ∷ [])) ∷ []), tail_bytes s.braced, (an_element s.order (s.ops ++ (op_of r false ∷ [])) ∷ [], refl, (refl, (op_of r false ∷ [], refl, (digit_goes r)))))
  where
    digit_goes : (r : Access) → digit r (op_of r false) (more_ops [] (ws (byte 41 (ws (close s.braced))))) (48 ∷ 41 ∷ tail s.braced)
    digit_goes Read = inl (tail_closes s.braced)
    digit_goes Write = inl (tail_closes s.braced)
alive_at Operation s = (41 ∷ tail s.braced, s.done ++ (an_element s.order s.ops ∷ []), tail_bytes s.braced, (an_element s.order s.ops ∷ [], refl, (refl, ([], sym (append-nil s.ops), inl (tail_closes s.braced)))))
alive_at Ended s = (tail s.braced, s.done, tail_bytes s.braced, ([], sym (append-nil s.done), tail_closes s.braced))
alive_at Next s = (94 ∷ 40 ∷ 119 ∷ 48 ∷ 41 ∷ tail s.braced, s.done ++ (an_element Up (W0 ∷ []) ∷ []), tail_bytes s.braced, (an_element Up (W0 ∷ []) ∷ [], refl, inl (inr (inl (inl (inl (inl (tail_closes s.braced))))))))
alive_at Closed s = ([], s.done, refl, ([], sym (append-nil s.done), (tt, tt)))

-- the reader's states, and what may follow them
pub follows : Follows step value rest (λ s. Unit {0})
follows = record {
  ends = λ s v. ends_at s.place s v;
  goes = λ s c b v. goes_at s.place s c b v;
  alive = λ s w. alive_at s.place s;
  keeps = λ s c t w e. tt;
}

pub start_is : (b : List ℕ) (v : List MarchElement) → rest start b v ↔ MarchText b v
start_is b v = grows_from_none v (λ es. left_at Start start es b)
