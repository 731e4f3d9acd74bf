-- The four laws of the places of a primitive or a list line: what may follow each, by the next byte.
use Rattle.std.proofs.Common.{◌≡◌, ℕ, ◌==◌, Bool, true, false, not, List, [], ◌∷◌, ◌++◌, ◌∙◌, Option, Some, None, is_some, option_map, refl, ◌↔◌, ◌⊎◌, ◌&&◌, inl, inr, subst, sym, ap, append-nil, if◌then◌else◌}
use Rattle.bist_text.specs.Grammar.{finish, word, when, many, is_blank, Continues}
use Rattle.bist_text.specs.declared.keywords.Letters.{Letters}
use Rattle.bist_text.specs.declared.keywords.Spelled.{Spelled}
use Rattle.bist_text.specs.declared.keywords.Spelled.TheVariants.{More, Whole}
use Rattle.bist_text.specs.inner.Keywords.{stands, left}
use Rattle.bist_text.specs.Keywords.{letters_of, seek, spell}
use Rattle.bist_text.specs.Machine.{Holds}
use Rattle.bist_text.specs.inner.Machine.{Grows, Follows}
use Rattle.bist_text.proofs.Bytes.{are_bytes-append}
use Rattle.bist_text.proofs.KeywordLaws.{first_law, spell_law, spell_ends, first_ends, spell_alive}
use Rattle.bist_text.proofs.Pieces.{at_byte, also, skip, stay, neither, same, never, grows_iff, grows_never, grows_from_none, Headed, grows_one, many_never, many_iff}
use Rattle.fault_syntax.specs.declared.place.Access.{Access}
use Rattle.fault_syntax.specs.declared.place.Access.TheVariants.{Writes, Reads}
use Rattle.fault_syntax.specs.declared.words.Operation.{Operation}
use Rattle.fault_syntax.specs.declared.words.Operation.TheVariants.{Write, Read, Pause}
use Rattle.fault_syntax.specs.declared.words.Form.{Form}
use Rattle.fault_syntax.specs.declared.words.Form.TheVariants.{Single, Listed}
use Rattle.fault_syntax.specs.declared.words.GroupName.{GroupName}
use Rattle.fault_syntax.specs.declared.words.AllowedNames.{AllowedNames}
use Rattle.fault_syntax.specs.inner.Names.{words_of}
use Rattle.fault_syntax.specs.declared.place.Place.{Place}
use Rattle.fault_syntax.specs.declared.place.Place.TheVariants.{Start, Spelling, Opened, Lead, Sensed, Digit, Effect, Left, Reply, Replied, Closed, Comment}
use Rattle.fault_syntax.specs.declared.place.Event.TheVariants.{Parts}
use Rattle.fault_syntax.specs.ListText.{Item, Primitive, Named, anything, line_end, item, LineOf}
use Rattle.fault_syntax.specs.PrimText.{SenseText, PrimParts, ws, bit_text, answer_text, op, more_ops, led, sense, effect, senses, PrimText}
use Rattle.fault_syntax.specs.inner.Places.{to, spelling, operation, after_letter, may_end, State, start, moved, step_at, step, parts_of, item_of, item_at, value, ending, begins, in_prim, in_name, victim_left, first_sense, the_sense, lead_left, digit_left, begun, answer_left, effect_left, left_at, rest}
use Rattle.fault_syntax.proofs.NameLaws.{fine, sf, first_word, NoName, no_names, named}

abbrev Law : Form → Place → State → List ℕ → Option Item → ℕ → Type 0
Law l p s b v c = left_at l p s v (c ∷ b) ↔ Holds (step_at l p s c) (λ t. rest l t b v)

-- ---- of the item, and of the sense that is read

prim_iff : (P Q : PrimParts → Type 0) → ((p : PrimParts) → P p ↔ Q p) → (v : Option Item) → in_prim P v ↔ in_prim Q v
prim_iff P Q f None = same
prim_iff P Q f (Some (Primitive p)) = f p
prim_iff P Q f (Some (Named n)) = same

no_prim : (P : PrimParts → Type 0) → ((p : PrimParts) → P p → ⊥) → (v : Option Item) → in_prim P v → ⊥
no_prim P f None h = h
no_prim P f (Some (Primitive p)) h = f p h
no_prim P f (Some (Named n)) h = h

name_iff : (P Q : GroupName → Type 0) → ((n : GroupName) → P n ↔ Q n) → (v : Option Item) → in_name P v ↔ in_name Q v
name_iff P Q f None = same
name_iff P Q f (Some (Primitive p)) = same
name_iff P Q f (Some (Named n)) = f n

first_iff : (a : Option SenseText) (p : PrimParts) (K : List ℕ → Type 0) (P Q : SenseText → (List ℕ → Type 0) → Type 0) → ((t : SenseText) (L : List ℕ → Type 0) → P t L ↔ Q t L) → first_sense a p K P ↔ first_sense a p K Q
first_iff None p K P Q f = f p.vic (effect p K)
first_iff (Some a) p K P Q f = f a (victim_left p K)

sense_iff : (g : Option SenseText) (p : PrimParts) (K : List ℕ → Type 0) (P Q : SenseText → (List ℕ → Type 0) → Type 0) → ((t : SenseText) (L : List ℕ → Type 0) → P t L ↔ Q t L) → the_sense g p K P ↔ the_sense g p K Q
sense_iff None p K P Q f = first_iff p.agg p K P Q f
sense_iff (Some a) p K P Q f = (λ h. (h.0, (f p.vic (effect p K)).0 h.1), λ h. (h.0, (f p.vic (effect p K)).1 h.1))

no_first : (a : Option SenseText) (p : PrimParts) (K : List ℕ → Type 0) (P : SenseText → (List ℕ → Type 0) → Type 0) → ((t : SenseText) (L : List ℕ → Type 0) → P t L → ⊥) → first_sense a p K P → ⊥
no_first None p K P f h = f p.vic (effect p K) h
no_first (Some a) p K P f h = f a (victim_left p K) h

no_sense_left : (g : Option SenseText) (p : PrimParts) (K : List ℕ → Type 0) (P : SenseText → (List ℕ → Type 0) → Type 0) → ((t : SenseText) (L : List ℕ → Type 0) → P t L → ⊥) → the_sense g p K P → ⊥
no_sense_left None p K P f h = no_first p.agg p K P f h
no_sense_left (Some a) p K P f h = f p.vic (effect p K) h.1

-- within a sense, from what holds of each
within : (l : Form) (g : Option SenseText) (P Q : SenseText → (List ℕ → Type 0) → Type 0) → ((t : SenseText) (L : List ℕ → Type 0) → P t L ↔ Q t L) → (v : Option Item) → in_prim (λ p. the_sense g p (ws (ending l)) P) v ↔ in_prim (λ p. the_sense g p (ws (ending l)) Q) v
within l g P Q f v = prim_iff (λ p. the_sense g p (ws (ending l)) P) (λ p. the_sense g p (ws (ending l)) Q) (λ p. sense_iff g p (ws (ending l)) P Q f) v

outside : (l : Form) (g : Option SenseText) (P : SenseText → (List ℕ → Type 0) → Type 0) → ((t : SenseText) (L : List ℕ → Type 0) → P t L → ⊥) → (v : Option Item) → in_prim (λ p. the_sense g p (ws (ending l)) P) v → ⊥
outside l g P f v h = no_prim (λ p. the_sense g p (ws (ending l)) P) (λ p. no_sense_left g p (ws (ending l)) P f) v h

-- ---- bytes

bit_48 : (x : Bool) (M : List ℕ → Type 0) (b : List ℕ) → word (bit_text x) M (48 ∷ b) ↔ ((x ≡ false) × M b)
bit_48 false M b = (λ h. (refl, h), λ h. h.1)
bit_48 true M b = never (λ h. h) (λ h. let e : true ≡ false = h.0 in cc)

bit_49 : (x : Bool) (M : List ℕ → Type 0) (b : List ℕ) → word (bit_text x) M (49 ∷ b) ↔ ((x ≡ true) × M b)
bit_49 true M b = (λ h. (refl, h), λ h. h.1)
bit_49 false M b = never (λ h. h) (λ h. let e : false ≡ true = h.0 in cc)

no_bit : (x : Bool) (M : List ℕ → Type 0) (c : ℕ) (b : List ℕ) → (c == 48) ≡ false → (c == 49) ≡ false → word (bit_text x) M (c ∷ b) → ⊥
no_bit false M c b e f h = rw e at h
no_bit true M c b e f h = rw f at h

answer_45 : (x : Option Bool) (M : List ℕ → Type 0) (b : List ℕ) → word (answer_text x) M (45 ∷ b) ↔ ((x ≡ None) × M b)
answer_45 None M b = (λ h. (refl, h), λ h. h.1)
answer_45 (Some false) M b = never (λ h. h) (λ h. let e : Some false ≡ None = h.0 in cc)
answer_45 (Some true) M b = never (λ h. h) (λ h. let e : Some true ≡ None = h.0 in cc)

answer_48 : (x : Option Bool) (M : List ℕ → Type 0) (b : List ℕ) → word (answer_text x) M (48 ∷ b) ↔ ((x ≡ Some false) × M b)
answer_48 None M b = never (λ h. h) (λ h. let e : None ≡ Some false = h.0 in cc)
answer_48 (Some false) M b = (λ h. (refl, h), λ h. h.1)
answer_48 (Some true) M b = never (λ h. h) (λ h. let e : Some true ≡ Some false = h.0 in cc)

answer_49 : (x : Option Bool) (M : List ℕ → Type 0) (b : List ℕ) → word (answer_text x) M (49 ∷ b) ↔ ((x ≡ Some true) × M b)
answer_49 None M b = never (λ h. h) (λ h. let e : None ≡ Some true = h.0 in cc)
answer_49 (Some false) M b = never (λ h. h) (λ h. let e : Some false ≡ Some true = h.0 in cc)
answer_49 (Some true) M b = (λ h. (refl, h), λ h. h.1)

no_answer : (x : Option Bool) (M : List ℕ → Type 0) (c : ℕ) (b : List ℕ) → (c == 45) ≡ false → (c == 48) ≡ false → (c == 49) ≡ false → word (answer_text x) M (c ∷ b) → ⊥
no_answer None M c b d e f h = rw d at h
no_answer (Some false) M c b d e f h = rw e at h
no_answer (Some true) M c b d e f h = rw f at h

no_op : (o : Operation) (M : List ℕ → Type 0) (c : ℕ) (b : List ℕ) → (c == 119) ≡ false → (c == 114) ≡ false → (c == 116) ≡ false → op o M (c ∷ b) → ⊥
no_op (Write d) M c b e f g h = rw e at h
no_op (Read d) M c b e f g h = rw f at h
no_op Pause M c b e f g h = rw g at h

op_119 : (o : Operation) (M : List ℕ → Type 0) (b : List ℕ) → op o M (119 ∷ b) ↔ after_letter Writes o M b
op_119 (Write d) M b = same
op_119 (Read d) M b = same
op_119 Pause M b = same

op_114 : (o : Operation) (M : List ℕ → Type 0) (b : List ℕ) → op o M (114 ∷ b) ↔ after_letter Reads o M b
op_114 (Write d) M b = same
op_114 (Read d) M b = same
op_114 Pause M b = same

op_116 : (o : Operation) (M : List ℕ → Type 0) (b : List ℕ) → op o M (116 ∷ b) ↔ ((o ≡ Pause) × M b)
op_116 (Write d) M b = never (λ h. h) (λ h. let e : Write d ≡ Pause = h.0 in cc)
op_116 (Read d) M b = never (λ h. h) (λ h. let e : Read d ≡ Pause = h.0 in cc)
op_116 Pause M b = (λ h. (refl, h), λ h. h.1)

-- the digit behind a letter
after_digit : (a : Access) (d : Bool) (o : Operation) (M : List ℕ → Type 0) (c : ℕ) (b : List ℕ)
    → ((x : Bool) (M : List ℕ → Type 0) → word (bit_text x) M (c ∷ b) ↔ ((x ≡ d) × M b)) → after_letter a o M (c ∷ b) ↔ ((o ≡ operation a d) × M b)
after_digit Writes d (Write x) M c b f = (λ h. (ap Write ((f x M).0 h).0, ((f x M).0 h).1), λ h. (f x M).1 (bit_is h.0, h.1))
  where
    bit_is : Write x ≡ Write d → x ≡ d
    bit_is e = cc
after_digit Writes d (Read x) M c b f = never (λ h. h) (λ h. let e : Read x ≡ Write d = h.0 in cc)
after_digit Writes d Pause M c b f = never (λ h. h) (λ h. let e : Pause ≡ Write d = h.0 in cc)
after_digit Reads d (Write x) M c b f = never (λ h. h) (λ h. let e : Write x ≡ Read d = h.0 in cc)
after_digit Reads d (Read x) M c b f = (λ h. (ap Read ((f x M).0 h).0, ((f x M).0 h).1), λ h. (f x M).1 (bit_is h.0, h.1))
  where
    bit_is : Read x ≡ Read d → x ≡ d
    bit_is e = cc
after_digit Reads d Pause M c b f = never (λ h. h) (λ h. let e : Pause ≡ Read d = h.0 in cc)

no_digit_here : (a : Access) (o : Operation) (M : List ℕ → Type 0) (c : ℕ) (b : List ℕ) → (c == 48) ≡ false → (c == 49) ≡ false → after_letter a o M (c ∷ b) → ⊥
no_digit_here Writes (Write d) M c b e f h = no_bit d M c b e f h
no_digit_here Writes (Read d) M c b e f h = h
no_digit_here Writes Pause M c b e f h = h
no_digit_here Reads (Write d) M c b e f h = h
no_digit_here Reads (Read d) M c b e f h = no_bit d M c b e f h
no_digit_here Reads Pause M c b e f h = h

abbrev a_sense : Bool → List Operation → SenseText
a_sense state ops = record { state = state; ops = ops }

sense_same : (a c : Bool) (b d : List Operation) → a ≡ c → b ≡ d → a_sense a b ≡ a_sense c d
sense_same a c b d e f = cc

sense_is : (t s : SenseText) → t.state ≡ s.state → t.ops ≡ s.ops → t ≡ s
sense_is t s e f = sense_same t.state s.state t.ops s.ops e f

-- ---- a sense begins

no_led : (state : Bool) (os : List Operation) (L : List ℕ → Type 0) (c : ℕ) (b : List ℕ) → (c == 114) ≡ false → led state os L (c ∷ b) → ⊥
no_led state [] L c b e h = h
no_led state (o ∷ os) L c b e h =
    let r : op (Read state) (more_ops os L) (c ∷ b) = subst (λ x. op x (more_ops os L) (c ∷ b)) h.0 h.1 in rw e at r

no_sense : (t : SenseText) (L : List ℕ → Type 0) (c : ℕ) (b : List ℕ) → (c == 48) ≡ false → (c == 49) ≡ false → (c == 114) ≡ false → sense t L (c ∷ b) → ⊥
no_sense t L c b e f g h = neither (no_bit t.state (more_ops t.ops L) c b e f) (no_led t.state t.ops L c b g) h

sense_48 : (t : SenseText) (L : List ℕ → Type 0) (b : List ℕ) → sense t L (48 ∷ b) ↔ begun (record { state = false; ops = [] }) t (λ os. more_ops os L b)
sense_48 t L b = also (stay (no_led t.state t.ops L 48 b refl)) (also (bit_48 t.state (more_ops t.ops L) b) (λ h. (h.0, (grows_from_none t.ops (λ os. more_ops os L b)).1 h.1), λ h. (h.0, (grows_from_none t.ops (λ os. more_ops os L b)).0 h.1)))

sense_49 : (t : SenseText) (L : List ℕ → Type 0) (b : List ℕ) → sense t L (49 ∷ b) ↔ begun (record { state = true; ops = [] }) t (λ os. more_ops os L b)
sense_49 t L b = also (stay (no_led t.state t.ops L 49 b refl)) (also (bit_49 t.state (more_ops t.ops L) b) (λ h. (h.0, (grows_from_none t.ops (λ os. more_ops os L b)).1 h.1), λ h. (h.0, (grows_from_none t.ops (λ os. more_ops os L b)).0 h.1)))

sense_114 : (t : SenseText) (L : List ℕ → Type 0) (b : List ℕ) → sense t L (114 ∷ b) ↔ lead_left t.state t.ops L b
sense_114 t L b = also (skip (no_bit t.state (more_ops t.ops L) 114 b refl refl)) (leads t.ops)
  where
    leads : (os : List Operation) → led t.state os L (114 ∷ b) ↔ lead_left t.state os L b
    leads [] = same
    leads (o ∷ os) =
        (λ h. (h.0, subst (λ x. op x (more_ops os L) (114 ∷ b)) h.0 h.1), λ h. (h.0, subst (λ x. op x (more_ops os L) (114 ∷ b)) (sym h.0) h.1))

-- the digit of a read that begins a sense
lead_digit : (d : Bool) (t : SenseText) (L : List ℕ → Type 0) (c : ℕ) (b : List ℕ)
    → ((x : Bool) (M : List ℕ → Type 0) → word (bit_text x) M (c ∷ b) ↔ ((x ≡ d) × M b))
    → lead_left t.state t.ops L (c ∷ b) ↔ begun (record { state = d; ops = Read d ∷ [] }) t (λ os. more_ops os L b)
lead_digit d t L c b f = go t.ops
  where
    go : (os : List Operation) → lead_left t.state os L (c ∷ b) ↔ ((t.state ≡ d) × Grows (Read d ∷ []) os (λ os. more_ops os L b))
    go [] = never (λ h. h) (λ h. let e : [] ≡ Read d ∷ h.1.0 = h.1.1 in cc)
    go (o ∷ os) = (λ h. forth h.0 ((f t.state (more_ops os L)).0 h.1), λ h. aback h.0 h.1.0 h.1.1 h.1.2)
      where
        forth : o ≡ Read t.state → (t.state ≡ d) × more_ops os L b → (t.state ≡ d) × Grows (Read d ∷ []) (o ∷ os) (λ os. more_ops os L b)
        forth e h = (h.0, (os, ap (λ x. x ∷ os) (e ∙ ap Read h.0), h.1))

        aback : t.state ≡ d → (m : List Operation) → o ∷ os ≡ Read d ∷ m → more_ops m L b → (o ≡ Read t.state) × word (bit_text t.state) (more_ops os L) (c ∷ b)
        aback s m e h =
            let o_is : o ≡ Read d = cc in
            let os_is : os ≡ m = cc in
            (o_is ∙ ap Read (sym s), (f t.state (more_ops os L)).1 (s, subst (λ x. more_ops x L b) (sym os_is) h))

no_lead : (state : Bool) (os : List Operation) (L : List ℕ → Type 0) (c : ℕ) (b : List ℕ) → (c == 48) ≡ false → (c == 49) ≡ false → lead_left state os L (c ∷ b) → ⊥
no_lead state [] L c b e f h = h
no_lead state (o ∷ os) L c b e f h = no_bit state (more_ops os L) c b e f h.1

-- ---- operations

-- no blank goes on
no_blanks : (K : List ℕ → Type 0) (c : ℕ) (b : List ℕ) → is_blank c ≡ false → when (is_blank c) (many is_blank K b) → ⊥
no_blanks K c b w z = let k : when false (many is_blank K b) = subst (λ q. when q (many is_blank K b)) w z in k

-- the letter of an operation
letter : (a : Access) (s t : SenseText) (L : List ℕ → Type 0) (c : ℕ) (b : List ℕ)
    → ((o : Operation) (M : List ℕ → Type 0) → op o M (c ∷ b) ↔ after_letter a o M b) → is_blank c ≡ false → (L (c ∷ b) → ⊥)
    → begun s t (λ os. more_ops os L (c ∷ b)) ↔ begun s t (λ os. digit_left a os L b)
letter a s t L c b f w n =
    let g = grows_iff s.ops t.ops (λ os. more_ops os L (c ∷ b)) (λ os. digit_left a os L b) each in
    (λ h. (h.0, g.0 h.1), λ h. (h.0, g.1 h.1))
  where
    each : (os : List Operation) → more_ops os L (c ∷ b) ↔ digit_left a os L b
    each [] = never n (λ h. h)
    each (o ∷ os) = also (stay (no_blanks (op o (more_ops os L)) c b w)) (f o (more_ops os L))

-- the letter of a pause is the whole of it
pause_letter : (s t : SenseText) (L : List ℕ → Type 0) (b : List ℕ) → (L (116 ∷ b) → ⊥)
    → begun s t (λ os. more_ops os L (116 ∷ b)) ↔ begun (record { state = s.state; ops = s.ops ++ Pause ∷ [] }) t (λ os. more_ops os L b)
pause_letter s t L b n = (λ h. (h.0, g.0 h.1), λ h. (h.0, g.1 h.1))
  where
    each : (os : List Operation) → more_ops os L (116 ∷ b) ↔ Headed Pause (λ m. more_ops m L b) os
    each [] = never n (λ h. h)
    each (o ∷ os) = also (stay (λ z. z)) (op_116 o (more_ops os L) b)

    g : Grows s.ops t.ops (λ os. more_ops os L (116 ∷ b)) ↔ Grows (s.ops ++ Pause ∷ []) t.ops (λ os. more_ops os L b)
    g = grows_one s.ops t.ops Pause (λ os. more_ops os L (116 ∷ b)) (λ os. more_ops os L b) each

-- the digit of an operation
digit_ends : (a : Access) (d : Bool) (s t : SenseText) (L : List ℕ → Type 0) (c : ℕ) (b : List ℕ)
    → ((x : Bool) (M : List ℕ → Type 0) → word (bit_text x) M (c ∷ b) ↔ ((x ≡ d) × M b))
    → begun s t (λ os. digit_left a os L (c ∷ b)) ↔ begun (record { state = s.state; ops = s.ops ++ operation a d ∷ [] }) t (λ os. more_ops os L b)
digit_ends a d s t L c b f = (λ h. (h.0, g.0 h.1), λ h. (h.0, g.1 h.1))
  where
    each : (os : List Operation) → digit_left a os L (c ∷ b) ↔ Headed (operation a d) (λ m. more_ops m L b) os
    each [] = same
    each (o ∷ os) = after_digit a d o (more_ops os L) c b f

    g : Grows s.ops t.ops (λ os. digit_left a os L (c ∷ b)) ↔ Grows (s.ops ++ operation a d ∷ []) t.ops (λ os. more_ops os L b)
    g = grows_one s.ops t.ops (operation a d) (λ os. digit_left a os L (c ∷ b)) (λ os. more_ops os L b) each

no_digit : (a : Access) (os : List Operation) (L : List ℕ → Type 0) (c : ℕ) (b : List ℕ) → (c == 48) ≡ false → (c == 49) ≡ false → digit_left a os L (c ∷ b) → ⊥
no_digit a [] L c b e f h = h
no_digit a (o ∷ os) L c b e f h = no_digit_here a o (more_ops os L) c b e f h

-- a blank behind a state or an operation
more_blank : (os : List Operation) (L : List ℕ → Type 0) (c : ℕ) (b : List ℕ) → is_blank c ≡ true → (c == 119) ≡ false → (c == 114) ≡ false → (c == 116) ≡ false
    → (L (c ∷ b) ↔ L b) → more_ops os L (c ∷ b) ↔ more_ops os L b
more_blank [] L c b w e f g k = k
more_blank (o ∷ os) L c b w e f g k =
    also (skip (no_op o (more_ops os L) c b e f g))
    (subst (λ q. when q (many is_blank (op o (more_ops os L)) b) ↔ many is_blank (op o (more_ops os L)) b) (sym w) same)

-- what nothing behind a sense begins with
no_more : (os : List Operation) (L : List ℕ → Type 0) (c : ℕ) (b : List ℕ) → is_blank c ≡ false → (c == 119) ≡ false → (c == 114) ≡ false → (c == 116) ≡ false
    → (L (c ∷ b) → ⊥) → more_ops os L (c ∷ b) → ⊥
no_more [] L c b w e f g k h = k h
no_more (o ∷ os) L c b w e f g k h = neither (no_op o (more_ops os L) c b e f g) (no_blanks (op o (more_ops os L)) c b w) h

-- ---- marks

-- ---- behind a sense

-- of the two that may follow a sense
within_known : (l : Form) (g : Option SenseText) (P Q : SenseText → (List ℕ → Type 0) → Type 0) → ((t : SenseText) (p : PrimParts) → P t (effect p (ws (ending l))) ↔ Q t (effect p (ws (ending l)))) → ((t : SenseText) (p : PrimParts) → P t (victim_left p (ws (ending l))) ↔ Q t (victim_left p (ws (ending l)))) → (v : Option Item) → in_prim (λ p. the_sense g p (ws (ending l)) P) v ↔ in_prim (λ p. the_sense g p (ws (ending l)) Q) v
within_known l g P Q f h v = prim_iff (λ p. the_sense g p (ws (ending l)) P) (λ p. the_sense g p (ws (ending l)) Q) (λ p. each g p) v
  where
    first : (a : Option SenseText) (p : PrimParts) → first_sense a p (ws (ending l)) P ↔ first_sense a p (ws (ending l)) Q
    first None p = f p.vic p
    first (Some a) p = h a p

    each : (g : Option SenseText) (p : PrimParts) → the_sense g p (ws (ending l)) P ↔ the_sense g p (ws (ending l)) Q
    each None p = first p.agg p
    each (Some a) p = (λ z. (z.0, (f p.vic p).0 z.1), λ z. (z.0, (f p.vic p).1 z.1))

outside_known : (l : Form) (g : Option SenseText) (P : SenseText → (List ℕ → Type 0) → Type 0) → ((t : SenseText) (p : PrimParts) → P t (effect p (ws (ending l))) → ⊥) → ((t : SenseText) (p : PrimParts) → P t (victim_left p (ws (ending l))) → ⊥) → (v : Option Item) → in_prim (λ p. the_sense g p (ws (ending l)) P) v → ⊥
outside_known l g P f h v z = no_prim (λ p. the_sense g p (ws (ending l)) P) (λ p. each g p) v z
  where
    first : (a : Option SenseText) (p : PrimParts) → first_sense a p (ws (ending l)) P → ⊥
    first None p z = f p.vic p z
    first (Some a) p z = h a p z

    each : (g : Option SenseText) (p : PrimParts) → the_sense g p (ws (ending l)) P → ⊥
    each None p z = first p.agg p z
    each (Some a) p z = f p.vic p z.1

begun_iff : (s t : SenseText) (P Q : List Operation → Type 0) → ((os : List Operation) → P os ↔ Q os) → begun s t P ↔ begun s t Q
begun_iff s t P Q f = (λ h. (h.0, (grows_iff s.ops t.ops P Q f).0 h.1), λ h. (h.0, (grows_iff s.ops t.ops P Q f).1 h.1))

no_begun : (s t : SenseText) (P : List Operation → Type 0) → ((os : List Operation) → P os → ⊥) → begun s t P → ⊥
no_begun s t P f h = grows_never s.ops t.ops P f h.1

-- a byte that ends a sense
sense_ends : (s t : SenseText) (L : List ℕ → Type 0) (c : ℕ) (b : List ℕ) (Y : Type 0)
    → is_blank c ≡ false → (c == 119) ≡ false → (c == 114) ≡ false → (c == 116) ≡ false → (L (c ∷ b) ↔ Y)
    → begun s t (λ os. more_ops os L (c ∷ b)) ↔ ((t ≡ s) × Y)
sense_ends s t L c b Y w e f g k = (λ h. forth h.0 h.1.0 h.1.1 h.1.2, λ h. (ap (λ (x : SenseText). x.state) h.0, ([], ap (λ (x : SenseText). x.ops) h.0 ∙ sym (append-nil s.ops), k.1 h.1)))
  where
    forth : t.state ≡ s.state → (m : List Operation) → t.ops ≡ s.ops ++ m → more_ops m L (c ∷ b) → (t ≡ s) × Y
    forth x [] y z = (sense_is t s x (y ∙ append-nil s.ops), k.0 z)
    forth x (o ∷ os) y z = absurd (neither (no_op o (more_ops os L) c b e f g) (no_blanks (op o (more_ops os L)) c b w) z)

-- the slash behind the senses
slash : (l : Form) (g : Option SenseText) (s : SenseText) (b : List ℕ) (v : Option Item) → in_prim (λ p. the_sense g p (ws (ending l)) (λ t L. begun s t (λ os. more_ops os L (47 ∷ b)))) v ↔ in_prim (λ p. (p.agg ≡ g) × (p.vic ≡ s) × effect_left p (ws (ending l)) b) v
slash l g s b v = prim_iff (λ p. the_sense g p (ws (ending l)) (λ t L. begun s t (λ os. more_ops os L (47 ∷ b)))) (λ p. (p.agg ≡ g) × (p.vic ≡ s) × effect_left p (ws (ending l)) b) (λ p. each g p) v
  where
    victim : (p : PrimParts) → begun s p.vic (λ os. more_ops os (effect p (ws (ending l))) (47 ∷ b)) ↔ ((p.vic ≡ s) × effect_left p (ws (ending l)) b)
    victim p = sense_ends s p.vic (effect p (ws (ending l))) 47 b (effect_left p (ws (ending l)) b) refl refl refl refl (stay (λ z. z))

    first : (a : Option SenseText) (p : PrimParts) → first_sense a p (ws (ending l)) (λ t L. begun s t (λ os. more_ops os L (47 ∷ b))) ↔ ((a ≡ None) × (p.vic ≡ s) × effect_left p (ws (ending l)) b)
    first None p = (λ h. let k : (p.vic ≡ s) × effect_left p (ws (ending l)) b = (victim p).0 h in (refl, k.0, k.1), λ h. (victim p).1 (h.1, h.2))
    first (Some a) p = never (no_begun s a (λ os. more_ops os (victim_left p (ws (ending l))) (47 ∷ b)) (λ os. no_more os (victim_left p (ws (ending l))) 47 b refl refl refl refl (neither (λ z. z) (λ z. z)))) (λ h. let e : Some a ≡ None = h.0 in cc)

    each : (g : Option SenseText) (p : PrimParts) → the_sense g p (ws (ending l)) (λ t L. begun s t (λ os. more_ops os L (47 ∷ b))) ↔ ((p.agg ≡ g) × (p.vic ≡ s) × effect_left p (ws (ending l)) b)
    each None p = first p.agg p
    each (Some a) p = (λ h. let k : (p.vic ≡ s) × effect_left p (ws (ending l)) b = (victim p).0 h.1 in (h.0, k.0, k.1), λ h. (h.0, (victim p).1 (h.1, h.2)))

some_is : (a c : SenseText) → Some a ≡ Some c → a ≡ c
some_is a c e = cc

-- the semicolon behind the aggressor's sense
semicolon : (l : Form) (g : Option SenseText) (s : State) (b : List ℕ) (v : Option Item) → in_prim (λ p. the_sense g p (ws (ending l)) (λ t L. begun s.sense t (λ os. more_ops os L (59 ∷ b)))) v ↔ Holds (option_map (moved s) (if not (is_some g) && true then to Opened Parts else None)) (λ t. rest l t b v)
semicolon l (Some a) s b v = never (no_prim (λ p. the_sense (Some a) p (ws (ending l)) (λ t L. begun s.sense t (λ os. more_ops os L (59 ∷ b)))) (λ p h. no_begun s.sense p.vic (λ os. more_ops os (effect p (ws (ending l))) (59 ∷ b)) (λ os. no_more os (effect p (ws (ending l))) 59 b refl refl refl refl (neither (λ z. z) (λ z. z))) h.1) v) (λ h. h)
semicolon l None s b v = prim_iff (λ p. the_sense None p (ws (ending l)) (λ t L. begun s.sense t (λ os. more_ops os L (59 ∷ b)))) (λ p. (p.agg ≡ Some s.sense) × ws (sense p.vic (effect p (ws (ending l)))) b) (λ p. first p.agg p) v
  where
    first : (a : Option SenseText) (p : PrimParts) → first_sense a p (ws (ending l)) (λ t L. begun s.sense t (λ os. more_ops os L (59 ∷ b))) ↔ ((a ≡ Some s.sense) × ws (sense p.vic (effect p (ws (ending l)))) b)
    first None p = never (no_begun s.sense p.vic (λ os. more_ops os (effect p (ws (ending l))) (59 ∷ b)) (λ os. no_more os (effect p (ws (ending l))) 59 b refl refl refl refl (neither (λ z. z) (λ z. z)))) (λ h. let e : None ≡ Some s.sense = h.0 in cc)
    first (Some a) p = also (sense_ends s.sense a (victim_left p (ws (ending l))) 59 b (ws (sense p.vic (effect p (ws (ending l)))) b) refl refl refl refl (stay (λ z. z))) (λ h. (ap (λ x. Some x) h.0, h.1), λ h. (some_is a s.sense h.0, h.1))

-- what may follow the sense, where it goes on so behind a byte
abbrev Goes : Form → State → List ℕ → Option Item → ℕ → (SenseText → (List ℕ → Type 0) → Type 0) → Type 0
Goes l s b v d Q =
    in_prim (λ p. the_sense s.agg p (ws (ending l)) (λ t L. begun s.sense t (λ os. more_ops os L (d ∷ b)))) v
    ↔ in_prim (λ p. the_sense s.agg p (ws (ending l)) Q) v

goes_sensed : (l : Form) (s : State) (c : ℕ) (b : List ℕ) (v : Option Item) → Law l Sensed s b v c
goes_sensed l s c b v =
    at_byte P c 32 (blank 32 (λ os L. more_blank os L 32 b refl refl refl refl) (λ p. skip (λ z. z)) (λ p. skip (λ z. z))) (λ n32.
    at_byte P c 9 (blank 9 (λ os L. more_blank os L 9 b refl refl refl refl) (λ p. skip (λ z. z)) (λ p. skip (λ z. z))) (λ n9.
    at_byte P c 13 (blank 13 (λ os L. more_blank os L 13 b refl refl refl refl) (λ p. skip (λ z. z)) (λ p. skip (λ z. z))) (λ n13.
    at_byte P c 119 (lettered Writes 119 (λ o M. op_119 o M b) refl (λ p. neither (λ z. z) (λ z. z)) (λ p. neither (λ z. z) (λ z. z))) (λ n119.
    at_byte P c 114 (lettered Reads 114 (λ o M. op_114 o M b) refl (λ p. neither (λ z. z) (λ z. z)) (λ p. neither (λ z. z) (λ z. z))) (λ n114.
    at_byte P c 116 paused (λ n116.
    at_byte P c 47 (slash l s.agg s.sense b v) (λ n47.
    at_byte P c 59 (semicolon l s.agg s b v) (λ n59.
    simp (n32, n9, n13, n119, n114, n116, n47, n59)
    (never
    (outside_known l s.agg (λ t L. begun s.sense t (λ os. more_ops os L (c ∷ b)))
    (λ t p. nothing t (effect p (ws (ending l))) (simp (n32, n9, n13) refl) n119 n114 n116 (simp (n32, n9, n13, n47) (neither (λ z. z) (λ z. z))))
    (λ t p. nothing t (victim_left p (ws (ending l))) (simp (n32, n9, n13) refl) n119 n114 n116 (simp (n32, n9, n13, n59) (neither (λ z. z) (λ z. z))))
    v)
    (no_mark (is_some s.agg)))))))))))
  where
    P : ℕ → Type 0
    P x = Law l Sensed s b v x

    blank : (d : ℕ) → ((os : List Operation) (L : List ℕ → Type 0) → (L (d ∷ b) ↔ L b) → more_ops os L (d ∷ b) ↔ more_ops os L b)
        → ((p : PrimParts) → effect p (ws (ending l)) (d ∷ b) ↔ effect p (ws (ending l)) b)
        → ((p : PrimParts) → victim_left p (ws (ending l)) (d ∷ b) ↔ victim_left p (ws (ending l)) b)
        → Goes l s b v d (λ t L. begun s.sense t (λ os. more_ops os L b))
    blank d f g h =
        within_known l s.agg (λ t L. begun s.sense t (λ os. more_ops os L (d ∷ b))) (λ t L. begun s.sense t (λ os. more_ops os L b))
        (λ t p. each t (effect p (ws (ending l))) (g p)) (λ t p. each t (victim_left p (ws (ending l))) (h p)) v
      where
        each : (t : SenseText) (L : List ℕ → Type 0) → (L (d ∷ b) ↔ L b) → begun s.sense t (λ os. more_ops os L (d ∷ b)) ↔ begun s.sense t (λ os. more_ops os L b)
        each t L k = begun_iff s.sense t (λ os. more_ops os L (d ∷ b)) (λ os. more_ops os L b) (λ os. f os L k)

    lettered : (a : Access) (d : ℕ) → ((o : Operation) (M : List ℕ → Type 0) → op o M (d ∷ b) ↔ after_letter a o M b) → is_blank d ≡ false
        → ((p : PrimParts) → effect p (ws (ending l)) (d ∷ b) → ⊥) → ((p : PrimParts) → victim_left p (ws (ending l)) (d ∷ b) → ⊥)
        → Goes l s b v d (λ t L. begun s.sense t (λ os. digit_left a os L b))
    lettered a d f w g h =
        within_known l s.agg (λ t L. begun s.sense t (λ os. more_ops os L (d ∷ b))) (λ t L. begun s.sense t (λ os. digit_left a os L b))
        (λ t p. letter a s.sense t (effect p (ws (ending l))) d b f w (g p)) (λ t p. letter a s.sense t (victim_left p (ws (ending l))) d b f w (h p)) v

    paused : Goes l s b v 116 (λ t L. begun (a_sense s.sense.state (s.sense.ops ++ Pause ∷ [])) t (λ os. more_ops os L b))
    paused =
        within_known l s.agg (λ t L. begun s.sense t (λ os. more_ops os L (116 ∷ b)))
        (λ t L. begun (a_sense s.sense.state (s.sense.ops ++ Pause ∷ [])) t (λ os. more_ops os L b))
        (λ t p. pause_letter s.sense t (effect p (ws (ending l))) b (neither (λ z. z) (λ z. z)))
        (λ t p. pause_letter s.sense t (victim_left p (ws (ending l))) b (neither (λ z. z) (λ z. z))) v

    nothing : (t : SenseText) (L : List ℕ → Type 0) → is_blank c ≡ false → (c == 119) ≡ false → (c == 114) ≡ false → (c == 116) ≡ false → (L (c ∷ b) → ⊥)
        → begun s.sense t (λ os. more_ops os L (c ∷ b)) → ⊥
    nothing t L w e f g n = no_begun s.sense t (λ os. more_ops os L (c ∷ b)) (λ os. no_more os L c b w e f g n)

    no_mark : (t : Bool) → Holds (option_map (moved s) (if not t && false then to Opened Parts else None)) (λ t. rest l t b v) → ⊥
    no_mark true h = h
    no_mark false h = h

goes_digit : (l : Form) (a : Access) (s : State) (c : ℕ) (b : List ℕ) (v : Option Item) → Law l (Digit a) s b v c
goes_digit l a s c b v =
    at_byte P c 48 (within l s.agg (λ t L. begun s.sense t (λ os. digit_left a os L (48 ∷ b))) (λ t L. begun (a_sense s.sense.state (s.sense.ops ++ operation a false ∷ [])) t (λ os. more_ops os L b)) (λ t L. digit_ends a false s.sense t L 48 b (λ x M. bit_48 x M b)) v) (λ n48.
    at_byte P c 49 (within l s.agg (λ t L. begun s.sense t (λ os. digit_left a os L (49 ∷ b))) (λ t L. begun (a_sense s.sense.state (s.sense.ops ++ operation a true ∷ [])) t (λ os. more_ops os L b)) (λ t L. digit_ends a true s.sense t L 49 b (λ x M. bit_49 x M b)) v) (λ n49.
    simp (n48, n49) (never (outside l s.agg (λ t L. begun s.sense t (λ os. digit_left a os L (c ∷ b))) (λ t L. no_begun s.sense t (λ os. digit_left a os L (c ∷ b)) (λ os. no_digit a os L c b n48 n49)) v) (λ z. z))))
  where
    P : ℕ → Type 0
    P x = Law l (Digit a) s b v x

goes_lead : (l : Form) (s : State) (c : ℕ) (b : List ℕ) (v : Option Item) → Law l Lead s b v c
goes_lead l s c b v =
    at_byte P c 48 (within l s.agg (λ t L. lead_left t.state t.ops L (48 ∷ b)) (λ t L. begun (a_sense false (Read false ∷ [])) t (λ os. more_ops os L b)) (λ t L. lead_digit false t L 48 b (λ x M. bit_48 x M b)) v) (λ n48.
    at_byte P c 49 (within l s.agg (λ t L. lead_left t.state t.ops L (49 ∷ b)) (λ t L. begun (a_sense true (Read true ∷ [])) t (λ os. more_ops os L b)) (λ t L. lead_digit true t L 49 b (λ x M. bit_49 x M b)) v) (λ n49.
    simp (n48, n49) (never (outside l s.agg (λ t L. lead_left t.state t.ops L (c ∷ b)) (λ t L. no_lead t.state t.ops L c b n48 n49) v) (λ z. z))))
  where
    P : ℕ → Type 0
    P x = Law l Lead s b v x

goes_opened : (l : Form) (s : State) (c : ℕ) (b : List ℕ) (v : Option Item) → Law l Opened s b v c
goes_opened l s c b v =
    at_byte P c 32 (within l s.agg (λ t L. ws (sense t L) (32 ∷ b)) (λ t L. ws (sense t L) b) (λ t L. skip (no_sense t L 32 b refl refl refl)) v) (λ n32.
    at_byte P c 9 (within l s.agg (λ t L. ws (sense t L) (9 ∷ b)) (λ t L. ws (sense t L) b) (λ t L. skip (no_sense t L 9 b refl refl refl)) v) (λ n9.
    at_byte P c 13 (within l s.agg (λ t L. ws (sense t L) (13 ∷ b)) (λ t L. ws (sense t L) b) (λ t L. skip (no_sense t L 13 b refl refl refl)) v) (λ n13.
    at_byte P c 48 (within l s.agg (λ t L. ws (sense t L) (48 ∷ b)) (λ t L. begun (a_sense false []) t (λ os. more_ops os L b)) (λ t L. also (stay (λ z. z)) (sense_48 t L b)) v) (λ n48.
    at_byte P c 49 (within l s.agg (λ t L. ws (sense t L) (49 ∷ b)) (λ t L. begun (a_sense true []) t (λ os. more_ops os L b)) (λ t L. also (stay (λ z. z)) (sense_49 t L b)) v) (λ n49.
    at_byte P c 114 (within l s.agg (λ t L. ws (sense t L) (114 ∷ b)) (λ t L. lead_left t.state t.ops L b) (λ t L. also (stay (λ z. z)) (sense_114 t L b)) v) (λ n114.
    simp (n32, n9, n13, n48, n49, n114) (never (outside l s.agg (λ t L. sense t L (c ∷ b) ⊎ ⊥) (λ t L. neither (no_sense t L c b n48 n49 n114) (λ z. z)) v) (λ z. z))))))))
  where
    P : ℕ → Type 0
    P x = Law l Opened s b v x

-- ---- behind the senses

keep_third : {A B C D : Type 0} → C ↔ D → (A × B × C) ↔ (A × B × D)
keep_third f = (λ h. (h.0, h.1, f.0 h.2), λ h. (h.0, h.1, f.1 h.2))

third : {A B C D E : Type 0} → C ↔ (D × E) → (A × B × C) ↔ (A × B × D × E)
third f = (λ h. (h.0, h.1, (f.0 h.2).0, (f.0 h.2).1), λ h. (h.0, h.1, f.1 (h.2, h.3)))

keep_fourth : {A B C D E : Type 0} → D ↔ E → (A × B × C × D) ↔ (A × B × C × E)
keep_fourth f = (λ h. (h.0, h.1, h.2, f.0 h.3), λ h. (h.0, h.1, h.2, f.1 h.3))

fourth : {A B C D E F : Type 0} → D ↔ (E × F) → (A × B × C × D) ↔ (A × B × C × E × F)
fourth f = (λ h. (h.0, h.1, h.2, (f.0 h.3).0, (f.0 h.3).1), λ h. (h.0, h.1, h.2, f.1 (h.3, h.4)))

keep_fifth : {A B C D E F : Type 0} → E ↔ F → (A × B × C × D × E) ↔ (A × B × C × D × F)
keep_fifth f = (λ h. (h.0, h.1, h.2, h.3, f.0 h.4), λ h. (h.0, h.1, h.2, h.3, f.1 h.4))

goes_effect : (l : Form) (s : State) (c : ℕ) (b : List ℕ) (v : Option Item) → Law l Effect s b v c
goes_effect l s c b v =
    at_byte P c 32 (prim_iff (λ p. (p.agg ≡ s.agg) × (p.vic ≡ s.sense) × effect_left p (ws (ending l)) (32 ∷ b)) (λ p. (p.agg ≡ s.agg) × (p.vic ≡ s.sense) × effect_left p (ws (ending l)) b) (λ p. keep_third (skip (no_bit p.after (ws (word (47 ∷ []) (answer_left p (ws (ending l))))) 32 b refl refl))) v) (λ n32.
    at_byte P c 9 (prim_iff (λ p. (p.agg ≡ s.agg) × (p.vic ≡ s.sense) × effect_left p (ws (ending l)) (9 ∷ b)) (λ p. (p.agg ≡ s.agg) × (p.vic ≡ s.sense) × effect_left p (ws (ending l)) b) (λ p. keep_third (skip (no_bit p.after (ws (word (47 ∷ []) (answer_left p (ws (ending l))))) 9 b refl refl))) v) (λ n9.
    at_byte P c 13 (prim_iff (λ p. (p.agg ≡ s.agg) × (p.vic ≡ s.sense) × effect_left p (ws (ending l)) (13 ∷ b)) (λ p. (p.agg ≡ s.agg) × (p.vic ≡ s.sense) × effect_left p (ws (ending l)) b) (λ p. keep_third (skip (no_bit p.after (ws (word (47 ∷ []) (answer_left p (ws (ending l))))) 13 b refl refl))) v) (λ n13.
    at_byte P c 48 (prim_iff (λ p. (p.agg ≡ s.agg) × (p.vic ≡ s.sense) × effect_left p (ws (ending l)) (48 ∷ b)) (λ p. (p.agg ≡ s.agg) × (p.vic ≡ s.sense) × (p.after ≡ false) × ws (word (47 ∷ []) (answer_left p (ws (ending l)))) b) (λ p. third (also (stay (λ z. z)) (bit_48 p.after (ws (word (47 ∷ []) (answer_left p (ws (ending l))))) b))) v) (λ n48.
    at_byte P c 49 (prim_iff (λ p. (p.agg ≡ s.agg) × (p.vic ≡ s.sense) × effect_left p (ws (ending l)) (49 ∷ b)) (λ p. (p.agg ≡ s.agg) × (p.vic ≡ s.sense) × (p.after ≡ true) × ws (word (47 ∷ []) (answer_left p (ws (ending l)))) b) (λ p. third (also (stay (λ z. z)) (bit_49 p.after (ws (word (47 ∷ []) (answer_left p (ws (ending l))))) b))) v) (λ n49.
    simp (n32, n9, n13, n48, n49) (never (no_prim (λ p. (p.agg ≡ s.agg) × (p.vic ≡ s.sense) × (word (bit_text p.after) (ws (word (47 ∷ []) (answer_left p (ws (ending l))))) (c ∷ b) ⊎ ⊥)) (λ p h. neither (no_bit p.after (ws (word (47 ∷ []) (answer_left p (ws (ending l))))) c b n48 n49) (λ z. z) h.2) v) (λ z. z)))))))
  where
    P : ℕ → Type 0
    P x = Law l Effect s b v x

goes_left : (l : Form) (s : State) (c : ℕ) (b : List ℕ) (v : Option Item) → Law l Left s b v c
goes_left l s c b v =
    at_byte P c 32 (prim_iff (λ p. (p.agg ≡ s.agg) × (p.vic ≡ s.sense) × (p.after ≡ s.after) × ws (word (47 ∷ []) (answer_left p (ws (ending l)))) (32 ∷ b)) (λ p. (p.agg ≡ s.agg) × (p.vic ≡ s.sense) × (p.after ≡ s.after) × ws (word (47 ∷ []) (answer_left p (ws (ending l)))) b) (λ p. keep_fourth (skip (λ z. z))) v) (λ n32.
    at_byte P c 9 (prim_iff (λ p. (p.agg ≡ s.agg) × (p.vic ≡ s.sense) × (p.after ≡ s.after) × ws (word (47 ∷ []) (answer_left p (ws (ending l)))) (9 ∷ b)) (λ p. (p.agg ≡ s.agg) × (p.vic ≡ s.sense) × (p.after ≡ s.after) × ws (word (47 ∷ []) (answer_left p (ws (ending l)))) b) (λ p. keep_fourth (skip (λ z. z))) v) (λ n9.
    at_byte P c 13 (prim_iff (λ p. (p.agg ≡ s.agg) × (p.vic ≡ s.sense) × (p.after ≡ s.after) × ws (word (47 ∷ []) (answer_left p (ws (ending l)))) (13 ∷ b)) (λ p. (p.agg ≡ s.agg) × (p.vic ≡ s.sense) × (p.after ≡ s.after) × ws (word (47 ∷ []) (answer_left p (ws (ending l)))) b) (λ p. keep_fourth (skip (λ z. z))) v) (λ n13.
    at_byte P c 47 (prim_iff (λ p. (p.agg ≡ s.agg) × (p.vic ≡ s.sense) × (p.after ≡ s.after) × ws (word (47 ∷ []) (answer_left p (ws (ending l)))) (47 ∷ b)) (λ p. (p.agg ≡ s.agg) × (p.vic ≡ s.sense) × (p.after ≡ s.after) × answer_left p (ws (ending l)) b) (λ p. keep_fourth (stay (λ z. z))) v) (λ n47.
    simp (n32, n9, n13, n47) (never (no_prim (λ p. (p.agg ≡ s.agg) × (p.vic ≡ s.sense) × (p.after ≡ s.after) × (⊥ ⊎ ⊥)) (λ p h. neither (λ z. z) (λ z. z) h.3) v) (λ z. z))))))
  where
    P : ℕ → Type 0
    P x = Law l Left s b v x

goes_reply : (l : Form) (s : State) (c : ℕ) (b : List ℕ) (v : Option Item) → Law l Reply s b v c
goes_reply l s c b v =
    at_byte P c 32 (prim_iff (λ p. (p.agg ≡ s.agg) × (p.vic ≡ s.sense) × (p.after ≡ s.after) × answer_left p (ws (ending l)) (32 ∷ b)) (λ p. (p.agg ≡ s.agg) × (p.vic ≡ s.sense) × (p.after ≡ s.after) × answer_left p (ws (ending l)) b) (λ p. keep_fourth (skip (no_answer p.answer (ws (word (62 ∷ []) (ws (ending l)))) 32 b refl refl refl))) v) (λ n32.
    at_byte P c 9 (prim_iff (λ p. (p.agg ≡ s.agg) × (p.vic ≡ s.sense) × (p.after ≡ s.after) × answer_left p (ws (ending l)) (9 ∷ b)) (λ p. (p.agg ≡ s.agg) × (p.vic ≡ s.sense) × (p.after ≡ s.after) × answer_left p (ws (ending l)) b) (λ p. keep_fourth (skip (no_answer p.answer (ws (word (62 ∷ []) (ws (ending l)))) 9 b refl refl refl))) v) (λ n9.
    at_byte P c 13 (prim_iff (λ p. (p.agg ≡ s.agg) × (p.vic ≡ s.sense) × (p.after ≡ s.after) × answer_left p (ws (ending l)) (13 ∷ b)) (λ p. (p.agg ≡ s.agg) × (p.vic ≡ s.sense) × (p.after ≡ s.after) × answer_left p (ws (ending l)) b) (λ p. keep_fourth (skip (no_answer p.answer (ws (word (62 ∷ []) (ws (ending l)))) 13 b refl refl refl))) v) (λ n13.
    at_byte P c 45 (prim_iff (λ p. (p.agg ≡ s.agg) × (p.vic ≡ s.sense) × (p.after ≡ s.after) × answer_left p (ws (ending l)) (45 ∷ b)) (λ p. (p.agg ≡ s.agg) × (p.vic ≡ s.sense) × (p.after ≡ s.after) × (p.answer ≡ None) × ws (word (62 ∷ []) (ws (ending l))) b) (λ p. fourth (also (stay (λ z. z)) (answer_45 p.answer (ws (word (62 ∷ []) (ws (ending l)))) b))) v) (λ n45.
    at_byte P c 48 (prim_iff (λ p. (p.agg ≡ s.agg) × (p.vic ≡ s.sense) × (p.after ≡ s.after) × answer_left p (ws (ending l)) (48 ∷ b)) (λ p. (p.agg ≡ s.agg) × (p.vic ≡ s.sense) × (p.after ≡ s.after) × (p.answer ≡ Some false) × ws (word (62 ∷ []) (ws (ending l))) b) (λ p. fourth (also (stay (λ z. z)) (answer_48 p.answer (ws (word (62 ∷ []) (ws (ending l)))) b))) v) (λ n48.
    at_byte P c 49 (prim_iff (λ p. (p.agg ≡ s.agg) × (p.vic ≡ s.sense) × (p.after ≡ s.after) × answer_left p (ws (ending l)) (49 ∷ b)) (λ p. (p.agg ≡ s.agg) × (p.vic ≡ s.sense) × (p.after ≡ s.after) × (p.answer ≡ Some true) × ws (word (62 ∷ []) (ws (ending l))) b) (λ p. fourth (also (stay (λ z. z)) (answer_49 p.answer (ws (word (62 ∷ []) (ws (ending l)))) b))) v) (λ n49.
    simp (n32, n9, n13, n45, n48, n49) (never (no_prim (λ p. (p.agg ≡ s.agg) × (p.vic ≡ s.sense) × (p.after ≡ s.after) × (word (answer_text p.answer) (ws (word (62 ∷ []) (ws (ending l)))) (c ∷ b) ⊎ ⊥)) (λ p h. neither (no_answer p.answer (ws (word (62 ∷ []) (ws (ending l)))) c b n45 n48 n49) (λ z. z) h.3) v) (λ z. z))))))))
  where
    P : ℕ → Type 0
    P x = Law l Reply s b v x

abbrev some_parts : Option SenseText → SenseText → Bool → Option Bool → PrimParts
some_parts g t d a = record { agg = g; vic = t; after = d; answer = a }

parts_same : (g h : Option SenseText) (t u : SenseText) (d e : Bool) (a b : Option Bool) → g ≡ h → t ≡ u → d ≡ e → a ≡ b → some_parts g t d a ≡ some_parts h u e b
parts_same g h t u d e a b i j k m = cc

prim_is : (p q : PrimParts) → (let x : Option Item = Some (Primitive p) in x ≡ Some (Primitive q)) → p ≡ q
prim_is p q e = cc

-- the whole primitive is known
closes : (s : State) (X : Type 0) (v : Option Item) → in_prim (λ p. (p.agg ≡ s.agg) × (p.vic ≡ s.sense) × (p.after ≡ s.after) × (p.answer ≡ s.answer) × X) v ↔ ((v ≡ Some (Primitive (parts_of s))) × X)
closes s X None = never (λ h. h) (λ h. let e : None ≡ Some (Primitive (parts_of s)) = h.0 in cc)
closes s X (Some (Named n)) = never (λ h. h) (λ h. let e : Some (Named n) ≡ Some (Primitive (parts_of s)) = h.0 in cc)
closes s X (Some (Primitive p)) = (λ h. (ap (λ x. Some (Primitive x)) (parts_same p.agg s.agg p.vic s.sense p.after s.after p.answer s.answer h.0 h.1 h.2 h.3), h.4), λ h. let e : p ≡ parts_of s = prim_is p (parts_of s) h.0 in (ap (λ (x : PrimParts). x.agg) e, ap (λ (x : PrimParts). x.vic) e, ap (λ (x : PrimParts). x.after) e, ap (λ (x : PrimParts). x.answer) e, h.1))

goes_replied : (l : Form) (s : State) (c : ℕ) (b : List ℕ) (v : Option Item) → Law l Replied s b v c
goes_replied l s c b v =
    at_byte P c 32 (prim_iff (λ p. (p.agg ≡ s.agg) × (p.vic ≡ s.sense) × (p.after ≡ s.after) × (p.answer ≡ s.answer) × ws (word (62 ∷ []) (ws (ending l))) (32 ∷ b)) (λ p. (p.agg ≡ s.agg) × (p.vic ≡ s.sense) × (p.after ≡ s.after) × (p.answer ≡ s.answer) × ws (word (62 ∷ []) (ws (ending l))) b) (λ p. keep_fifth (skip (λ z. z))) v) (λ n32.
    at_byte P c 9 (prim_iff (λ p. (p.agg ≡ s.agg) × (p.vic ≡ s.sense) × (p.after ≡ s.after) × (p.answer ≡ s.answer) × ws (word (62 ∷ []) (ws (ending l))) (9 ∷ b)) (λ p. (p.agg ≡ s.agg) × (p.vic ≡ s.sense) × (p.after ≡ s.after) × (p.answer ≡ s.answer) × ws (word (62 ∷ []) (ws (ending l))) b) (λ p. keep_fifth (skip (λ z. z))) v) (λ n9.
    at_byte P c 13 (prim_iff (λ p. (p.agg ≡ s.agg) × (p.vic ≡ s.sense) × (p.after ≡ s.after) × (p.answer ≡ s.answer) × ws (word (62 ∷ []) (ws (ending l))) (13 ∷ b)) (λ p. (p.agg ≡ s.agg) × (p.vic ≡ s.sense) × (p.after ≡ s.after) × (p.answer ≡ s.answer) × ws (word (62 ∷ []) (ws (ending l))) b) (λ p. keep_fifth (skip (λ z. z))) v) (λ n13.
    at_byte P c 62 (also (prim_iff (λ p. (p.agg ≡ s.agg) × (p.vic ≡ s.sense) × (p.after ≡ s.after) × (p.answer ≡ s.answer) × ws (word (62 ∷ []) (ws (ending l))) (62 ∷ b)) (λ p. (p.agg ≡ s.agg) × (p.vic ≡ s.sense) × (p.after ≡ s.after) × (p.answer ≡ s.answer) × ws (ending l) b) (λ p. keep_fifth (stay (λ z. z))) v) (closes s (ws (ending l) b) v)) (λ n62.
    simp (n32, n9, n13, n62) (never (no_prim (λ p. (p.agg ≡ s.agg) × (p.vic ≡ s.sense) × (p.after ≡ s.after) × (p.answer ≡ s.answer) × (⊥ ⊎ ⊥)) (λ p h. neither (λ z. z) (λ z. z) h.4) v) (λ z. z))))))
  where
    P : ℕ → Type 0
    P x = Law l Replied s b v x

-- ---- outside of primitives

keep_second : {A B C : Type 0} → B ↔ C → (A × B) ↔ (A × C)
keep_second f = (λ h. (h.0, f.0 h.1), λ h. (h.0, f.1 h.1))

goes_closed_listed : (set : AllowedNames) (s : State) (c : ℕ) (b : List ℕ) (v : Option Item) → Law (Listed set) Closed s b v c
goes_closed_listed set s c b v =
    at_byte P c 32 (keep_second (skip (neither (λ z. z) (λ z. z)))) (λ n32.
    at_byte P c 9 (keep_second (skip (neither (λ z. z) (λ z. z)))) (λ n9.
    at_byte P c 13 (keep_second (skip (neither (λ z. z) (λ z. z)))) (λ n13.
    at_byte P c 35 (keep_second (also (stay (λ z. z)) (skip (λ z. z)))) (λ n35.
    simp (n32, n9, n13, n35) (never (λ h. neither (neither (λ z. z) (λ z. z)) (λ z. z) h.1) (λ z. z))))))
  where
    P : ℕ → Type 0
    P x = Law (Listed set) Closed s b v x

goes_closed_single : (s : State) (c : ℕ) (b : List ℕ) (v : Option Item) → Law Single Closed s b v c
goes_closed_single s c b v =
    at_byte P c 32 (keep_second (skip (λ z. z))) (λ n32.
    at_byte P c 9 (keep_second (skip (λ z. z))) (λ n9.
    at_byte P c 13 (keep_second (skip (λ z. z))) (λ n13.
    simp (n32, n9, n13) (never (λ h. neither (λ z. z) (λ z. z) h.1) (λ z. z)))))
  where
    P : ℕ → Type 0
    P x = Law Single Closed s b v x

-- a letter of a name
named_on : (l : Form) (s : State) (o : Option (Spelled GroupName)) (b : List ℕ) (v : Option Item)
    → in_name (λ n. Holds o (λ q. left (words_of l) q n (ws (ending l)) b)) v ↔ Holds (option_map (moved s) (spelling o)) (λ t. rest l t b v)
named_on l s None b None = same
named_on l s None b (Some (Primitive p)) = same
named_on l s None b (Some (Named n)) = same
named_on l s (Some (More r)) b v = same
named_on l s (Some (Whole k)) b None = never (λ h. h) (λ h. let e : None ≡ Some (Named k) = h.0 in cc)
named_on l s (Some (Whole k)) b (Some (Primitive p)) = never (λ h. h) (λ h. let e : Some (Primitive p) ≡ Some (Named k) = h.0 in cc)
named_on l s (Some (Whole k)) b (Some (Named n)) = (λ h. (ap (λ x. Some (Named x)) h.0, h.1), λ h. (named_is n k h.0, h.1))
  where
    named_is : (n k : GroupName) → (let x : Option Item = Some (Named n) in x ≡ Some (Named k)) → n ≡ k
    named_is n k e = cc

goes_spelling : (l : Form) (q : Letters) (s : State) (c : ℕ) (b : List ℕ) (v : Option Item) → Law l (Spelling q) s b v c
goes_spelling l q s c b v =
    also
    (name_iff (λ n. stands (words_of l) n (ws (ending l)) (letters_of (words_of l) q ++ c ∷ b)) (λ n. Holds (spell (words_of l) q c) (λ x. left (words_of l) x n (ws (ending l)) b))
    (λ n. spell_law (words_of l) (fine l) q n (ws (ending l)) c b) v)
    (named_on l s (spell (words_of l) q c) b v)

no_name : (set : AllowedNames) (n : GroupName) (K : List ℕ → Type 0) (c : ℕ) (b : List ℕ) → NoName set c → stands (words_of (Listed set)) n K (c ∷ b) → ⊥
no_name set n K c b e h =
    subst (λ (o : Option (Spelled GroupName)). Holds o (λ q. left (words_of (Listed set)) q n K b)) e ((first_law (words_of (Listed set)) (fine (Listed set)) n K c b).0 h)

no_line : (set : AllowedNames) (v : Option Item) (c : ℕ) (b : List ℕ) → (c == 60) ≡ false → (c == 35) ≡ false → NoName set c → begins (Listed set) v (c ∷ b) → ⊥
no_line set None c b e f n h = neither (λ z. z) (λ z. let k : when false (anything b) = subst (λ q. when q (anything b)) f z in k) h
no_line set (Some (Primitive p)) c b e f n h = rw e at h
no_line set (Some (Named k)) c b e f n h = no_name set k (ws line_end) c b n h

-- a primitive begins
opens : (l : Form) (v : Option Item) (b : List ℕ) → begins l v (60 ∷ b) ↔ in_prim (λ p. first_sense p.agg p (ws (ending l)) (λ t L. ws (sense t L) b)) v
opens l v b = go l v
  where
    first : (a : Option SenseText) (p : PrimParts) (K : List ℕ → Type 0) → ws (senses a p.vic (effect p K)) b ↔ first_sense a p K (λ t L. ws (sense t L) b)
    first None p K = same
    first (Some a) p K = same

    go : (l : Form) (v : Option Item) → begins l v (60 ∷ b) ↔ in_prim (λ p. first_sense p.agg p (ws (ending l)) (λ t L. ws (sense t L) b)) v
    go (Listed set) None = never (neither (λ z. z) (λ z. z)) (λ h. h)
    go (Listed set) (Some (Primitive p)) = first p.agg p (ws line_end)
    go (Listed set) (Some (Named k)) = never (no_name set k (ws line_end) 60 b (no_names set).3) (λ h. h)
    go Single None = same
    go Single (Some (Primitive p)) = first p.agg p (ws finish)
    go Single (Some (Named k)) = same

-- a comment, or a name
comment : (set : AllowedNames) (v : Option Item) (b : List ℕ) → begins (Listed set) v (35 ∷ b) ↔ ((v ≡ None) × anything b)
comment set None b = (λ h. (refl, tt), λ h. inr tt)
comment set (Some (Primitive p)) b = never (λ h. h) (λ h. let e : Some (Primitive p) ≡ None = h.0 in cc)
comment set (Some (Named n)) b = never (no_name set n (ws line_end) 35 b (no_names set).4) (λ h. let e : Some (Named n) ≡ None = h.0 in cc)

name_wants : (set : AllowedNames) (v : Option Item) (c : ℕ) (b : List ℕ) → (c == 60) ≡ false → (c == 35) ≡ false
    → begins (Listed set) v (c ∷ b) ↔ in_name (λ n. Holds (seek [] c 0 (words_of (Listed set))) (λ q. left (words_of (Listed set)) q n (ws line_end) b)) v
name_wants set None c b e f = never (neither (λ z. z) (λ z. let k : when false (anything b) = subst (λ q. when q (anything b)) f z in k)) (λ h. h)
name_wants set (Some (Primitive p)) c b e f = never (λ h. rw e at h) (λ h. h)
name_wants set (Some (Named n)) c b e f = first_law (words_of (Listed set)) (fine (Listed set)) n (ws line_end) c b

goes_start_listed : (set : AllowedNames) (s : State) (c : ℕ) (b : List ℕ) (v : Option Item) → Law (Listed set) Start s b v c
goes_start_listed set s c b v =
    at_byte P c 32 (skip (no_line set v 32 b refl refl (no_names set).0)) (λ n32.
    at_byte P c 9 (skip (no_line set v 9 b refl refl (no_names set).1)) (λ n9.
    at_byte P c 13 (skip (no_line set v 13 b refl refl (no_names set).2)) (λ n13.
    at_byte P c 60 (also (stay (λ z. z)) (opens (Listed set) v b)) (λ n60.
    at_byte P c 35 (also (stay (λ z. z)) (comment set v b)) (λ n35.
    simp (n32, n9, n13, n60, n35) (also (stay (λ z. z)) (also (name_wants set v c b n60 n35) (named_on (Listed set) s (seek [] c 0 (words_of (Listed set))) b v))))))))
  where
    P : ℕ → Type 0
    P x = Law (Listed set) Start s b v x

alone : (v : Option Item) (c : ℕ) (b : List ℕ) → (c == 60) ≡ false → begins Single v (c ∷ b) → ⊥
alone None c b e h = h
alone (Some (Primitive p)) c b e h = rw e at h
alone (Some (Named n)) c b e h = h

goes_start_single : (s : State) (c : ℕ) (b : List ℕ) (v : Option Item) → Law Single Start s b v c
goes_start_single s c b v =
    at_byte P c 32 (skip (alone v 32 b refl)) (λ n32.
    at_byte P c 9 (skip (alone v 9 b refl)) (λ n9.
    at_byte P c 13 (skip (alone v 13 b refl)) (λ n13.
    at_byte P c 60 (also (stay (λ z. z)) (opens Single v b)) (λ n60.
    simp (n32, n9, n13, n60) (never (neither (alone v c b n60) (λ z. z)) (λ z. z))))))
  where
    P : ℕ → Type 0
    P x = Law Single Start s b v x

goes_at : (l : Form) (p : Place) (s : State) (c : ℕ) (b : List ℕ) (v : Option Item) → Law l p s b v c
goes_at (Listed set) Start s c b v = goes_start_listed set s c b v
goes_at Single Start s c b v = goes_start_single s c b v
goes_at l (Spelling q) s c b v = goes_spelling l q s c b v
goes_at l Opened s c b v = goes_opened l s c b v
goes_at l Lead s c b v = goes_lead l s c b v
goes_at l Sensed s c b v = goes_sensed l s c b v
goes_at l (Digit a) s c b v = goes_digit l a s c b v
goes_at l Effect s c b v = goes_effect l s c b v
goes_at l Left s c b v = goes_left l s c b v
goes_at l Reply s c b v = goes_reply l s c b v
goes_at l Replied s c b v = goes_replied l s c b v
goes_at (Listed set) Closed s c b v = goes_closed_listed set s c b v
goes_at Single Closed s c b v = goes_closed_single s c b v
goes_at l Comment s c b v = same

-- ---- the end of a text

end_here : (l : Form) → ending l []
end_here (Listed set) = inl tt
end_here Single = tt

op_end : (o : Operation) (M : List ℕ → Type 0) → op o M [] → ⊥
op_end (Write d) M z = z
op_end (Read d) M z = z
op_end Pause M z = z

no_sense_end : (t : SenseText) (L : List ℕ → Type 0) → sense t L [] → ⊥
no_sense_end t L h = neither (no_state t.state) (no_led_end t.ops) h
  where
    no_state : (d : Bool) → word (bit_text d) (more_ops t.ops L) [] → ⊥
    no_state true z = z
    no_state false z = z

    no_led_end : (os : List Operation) → led t.state os L [] → ⊥
    no_led_end [] z = z
    no_led_end (o ∷ os) z = op_end o (more_ops os L) z.1

no_bit_end : (d : Bool) (M : List ℕ → Type 0) → word (bit_text d) M [] → ⊥
no_bit_end true M z = z
no_bit_end false M z = z

no_lead_end : (state : Bool) (os : List Operation) (L : List ℕ → Type 0) → lead_left state os L [] → ⊥
no_lead_end state [] L z = z
no_lead_end state (o ∷ os) L z = no_bit_end state (more_ops os L) z.1

no_digit_end : (a : Access) (os : List Operation) (L : List ℕ → Type 0) → digit_left a os L [] → ⊥
no_digit_end a [] L z = z
no_digit_end a (o ∷ os) L z = none a o z
  where
    none : (a : Access) (o : Operation) → after_letter a o (more_ops os L) [] → ⊥
    none Writes (Write d) z = no_bit_end d (more_ops os L) z
    none Writes (Read d) z = z
    none Writes Pause z = z
    none Reads (Write d) z = z
    none Reads (Read d) z = no_bit_end d (more_ops os L) z
    none Reads Pause z = z

no_answer_end : (x : Option Bool) (M : List ℕ → Type 0) → word (answer_text x) M [] → ⊥
no_answer_end None M z = z
no_answer_end (Some d) M z = no_bit_end d M z

no_more_end : (os : List Operation) (L : List ℕ → Type 0) → (L [] → ⊥) → more_ops os L [] → ⊥
no_more_end [] L f z = f z
no_more_end (o ∷ os) L f z = op_end o (more_ops os L) z

none_ends : {X : Type 0} (v : Option Item) → (X → ⊥) → X ↔ ((let o : Option (Option Item) = None in o) ≡ Some v)
none_ends v f = never f (λ e. cc)

ends_start : (l : Form) (s : State) (v : Option Item) → begins l v [] ↔ ((if may_end Start l then Some (item_at Start s) else None) ≡ Some v)
ends_start (Listed set) s None = (λ h. refl, λ h. inl tt)
ends_start (Listed set) s (Some (Primitive p)) = never (λ h. h) (λ e. cc)
ends_start (Listed set) s (Some (Named n)) = never (first_ends (words_of (Listed set)) (fine (Listed set)) n (ws line_end)) (λ e. cc)
ends_start Single s None = none_ends None (λ h. h)
ends_start Single s (Some (Primitive p)) = none_ends (Some (Primitive p)) (λ h. h)
ends_start Single s (Some (Named n)) = none_ends (Some (Named n)) (λ h. h)

no_name_end : (l : Form) (q : Letters) (v : Option Item) → in_name (λ n. stands (words_of l) n (ws (ending l)) (letters_of (words_of l) q ++ [])) v → ⊥
no_name_end l q None h = h
no_name_end l q (Some (Primitive p)) h = h
no_name_end l q (Some (Named n)) h = spell_ends (words_of l) (fine l) q n (ws (ending l)) h

some_of : (x v : Option Item) → (let o : Option (Option Item) = Some x in o ≡ Some v) → v ≡ x
some_of x v e = cc

ends_at : (l : Form) (p : Place) (s : State) (v : Option Item) → left_at l p s v [] ↔ ((if may_end p l then Some (item_at p s) else None) ≡ Some v)
ends_at l Start s v = ends_start l s v
ends_at l (Spelling q) s v = none_ends v (no_name_end l q v)
ends_at l Opened s v = none_ends v (outside l s.agg (λ t L. ws (sense t L) []) (λ t L. no_sense_end t L) v)
ends_at l Lead s v = none_ends v (outside l s.agg (λ t L. lead_left t.state t.ops L []) (λ t L. no_lead_end t.state t.ops L) v)
ends_at l Sensed s v = none_ends v (outside_known l s.agg (λ t L. begun s.sense t (λ os. more_ops os L [])) (λ t p. no_begun s.sense t (λ os. more_ops os (effect p (ws (ending l))) []) (λ os. no_more_end os (effect p (ws (ending l))) (λ z. z))) (λ t p. no_begun s.sense t (λ os. more_ops os (victim_left p (ws (ending l))) []) (λ os. no_more_end os (victim_left p (ws (ending l))) (λ z. z))) v)
ends_at l (Digit a) s v = none_ends v (outside l s.agg (λ t L. begun s.sense t (λ os. digit_left a os L [])) (λ t L. no_begun s.sense t (λ os. digit_left a os L []) (λ os. no_digit_end a os L)) v)
ends_at l Effect s v = none_ends v (no_prim (λ p. (p.agg ≡ s.agg) × (p.vic ≡ s.sense) × effect_left p (ws (ending l)) []) (λ p h. no_bit_end p.after (ws (word (47 ∷ []) (answer_left p (ws (ending l))))) h.2) v)
ends_at l Left s v = none_ends v (no_prim (λ p. (p.agg ≡ s.agg) × (p.vic ≡ s.sense) × (p.after ≡ s.after) × ws (word (47 ∷ []) (answer_left p (ws (ending l)))) []) (λ p h. h.3) v)
ends_at l Reply s v = none_ends v (no_prim (λ p. (p.agg ≡ s.agg) × (p.vic ≡ s.sense) × (p.after ≡ s.after) × answer_left p (ws (ending l)) []) (λ p h. no_answer_end p.answer (ws (word (62 ∷ []) (ws (ending l)))) h.3) v)
ends_at l Replied s v = none_ends v (no_prim (λ p. (p.agg ≡ s.agg) × (p.vic ≡ s.sense) × (p.after ≡ s.after) × (p.answer ≡ s.answer) × ws (word (62 ∷ []) (ws (ending l))) []) (λ p h. h.4) v)
ends_at l Closed s v = (λ h. ap (λ x. Some x) (sym h.0), λ e. (some_of (item_of s.kind (parts_of s)) v e, end_here l))
ends_at l Comment s v = (λ h. ap (λ x. Some x) (sym h.0), λ e. (some_of (item_of s.kind (parts_of s)) v e, tt))

-- ---- each place goes on to an end

-- `0/->` behind the slash
effect_on : (l : Form) (p : PrimParts) → p.after ≡ false → p.answer ≡ None → effect p (ws (ending l)) (47 ∷ 48 ∷ 47 ∷ 45 ∷ 62 ∷ [])
effect_on l p e f = inl (inl (subst (λ d. word (bit_text d) (ws (word (47 ∷ []) (answer_left p (ws (ending l))))) (48 ∷ 47 ∷ 45 ∷ 62 ∷ [])) (sym e) (inl (inl (subst (λ a. word (answer_text a) (ws (word (62 ∷ []) (ws (ending l)))) (45 ∷ 62 ∷ [])) (sym f) (inl (end_here l)))))))

abbrev with_sense : Option SenseText → SenseText → PrimParts
with_sense g t = some_parts g t false None

sense_on : (l : Form) (g : Option SenseText) (t : SenseText) (P : SenseText → (List ℕ → Type 0) → Type 0) → P t (effect (with_sense g t) (ws (ending l))) → the_sense g (with_sense g t) (ws (ending l)) P
sense_on l None t P h = h
sense_on l (Some a) t P h = (refl, h)

alive_at : (l : Form) (p : Place) (s : State) → Continues (λ b v. left_at l p s v b) []
alive_at (Listed set) Start s = ([], None, refl, inl tt)
alive_at Single Start s = (60 ∷ 48 ∷ 47 ∷ 48 ∷ 47 ∷ 45 ∷ 62 ∷ [], Some (Primitive (with_sense None (a_sense false []))), refl, inl (inl (inl (effect_on Single (with_sense None (a_sense false [])) refl refl))))
alive_at l (Spelling q) s =
    let a = spell_alive (words_of l) (fine l) sf (first_word l) (λ n. ws (ending l)) (λ n. []) (λ n. end_here l) q in
    (a.1 ++ [], Some (Named a.0), are_bytes-append a.1 [] a.2 refl, a.3)
alive_at l Opened s = (48 ∷ 47 ∷ 48 ∷ 47 ∷ 45 ∷ 62 ∷ [], Some (Primitive (with_sense s.agg (a_sense false []))), refl, sense_on l s.agg (a_sense false []) (λ t L. ws (sense t L) (48 ∷ 47 ∷ 48 ∷ 47 ∷ 45 ∷ 62 ∷ [])) (inl (inl (effect_on l (with_sense s.agg (a_sense false [])) refl refl))))
alive_at l Lead s = let t : SenseText = a_sense false (Read false ∷ []) in (48 ∷ 47 ∷ 48 ∷ 47 ∷ 45 ∷ 62 ∷ [], Some (Primitive (with_sense s.agg t)), refl, sense_on l s.agg t (λ t L. lead_left t.state t.ops L (48 ∷ 47 ∷ 48 ∷ 47 ∷ 45 ∷ 62 ∷ [])) (refl, effect_on l (with_sense s.agg t) refl refl))
alive_at l Sensed s = (47 ∷ 48 ∷ 47 ∷ 45 ∷ 62 ∷ [], Some (Primitive (with_sense s.agg s.sense)), refl, sense_on l s.agg s.sense (λ t L. begun s.sense t (λ os. more_ops os L (47 ∷ 48 ∷ 47 ∷ 45 ∷ 62 ∷ []))) (refl, ([], sym (append-nil s.sense.ops), effect_on l (with_sense s.agg s.sense) refl refl)))
alive_at l (Digit a) s =
    let t : SenseText = a_sense s.sense.state (s.sense.ops ++ operation a false ∷ []) in (
      48 ∷ 47 ∷ 48 ∷ 47 ∷ 45 ∷ 62 ∷ [],
      Some (Primitive (with_sense s.agg t)),
      refl,
      sense_on l s.agg t (λ t L. begun s.sense t (λ os. digit_left a os L (48 ∷ 47 ∷ 48 ∷ 47 ∷ 45 ∷ 62 ∷ [])))
          (refl, (operation a false ∷ [], refl, digit_on a (effect (with_sense s.agg t) (ws (ending l))) (effect_on l (with_sense s.agg t) refl refl))),
    )
  where
    digit_on : (a : Access) (L : List ℕ → Type 0) → L (47 ∷ 48 ∷ 47 ∷ 45 ∷ 62 ∷ []) → after_letter a (operation a false) L (48 ∷ 47 ∷ 48 ∷ 47 ∷ 45 ∷ 62 ∷ [])
    digit_on Writes L h = h
    digit_on Reads L h = h
alive_at l Effect s = (48 ∷ 47 ∷ 45 ∷ 62 ∷ [], Some (Primitive (with_sense s.agg s.sense)), refl, (refl, refl, inl (inl (inl (inl (end_here l))))))
alive_at l Left s = (47 ∷ 45 ∷ 62 ∷ [], Some (Primitive (some_parts s.agg s.sense s.after None)), refl, (refl, refl, refl, inl (inl (inl (end_here l)))))
alive_at l Reply s = (45 ∷ 62 ∷ [], Some (Primitive (some_parts s.agg s.sense s.after None)), refl, (refl, refl, refl, inl (inl (end_here l))))
alive_at l Replied s = (62 ∷ [], Some (Primitive (parts_of s)), refl, (refl, refl, refl, refl, inl (end_here l)))
alive_at l Closed s = ([], item_of s.kind (parts_of s), refl, (refl, end_here l))
alive_at l Comment s = ([], item_of s.kind (parts_of s), refl, (refl, tt))

-- the reader's states, and what may follow them
pub follows : (l : Form) → Follows (step l) (value l) (rest l) (λ s. Unit {0})
follows l = record {
  ends = λ s v. ends_at l s.place s v;
  goes = λ s c b v. goes_at l s.place s c b v;
  alive = λ s w. alive_at l s.place s;
  keeps = λ s c t w e. tt;
}

pub line_is : (set : AllowedNames) (b : List ℕ) (v : Option Item) → rest (Listed set) start b v ↔ LineOf set b v
line_is set b None = same
line_is set b (Some (Primitive p)) = same
line_is set b (Some (Named n)) = many_iff is_blank (stands (words_of (Listed set)) n (ws line_end)) (item set (Named n) (ws line_end)) (named set n (ws line_end)) b

-- the text of a primitive alone
abbrev pub Alone : List ℕ → Option Item → Type 0
Alone b v = in_prim (PrimText b) v

pub alone_is : (b : List ℕ) (v : Option Item) → rest Single start b v ↔ Alone b v
alone_is b None = never (many_never is_blank (λ x. ⊥) (λ x z. z) b) (λ h. h)
alone_is b (Some (Primitive p)) = same
alone_is b (Some (Named n)) = never (many_never is_blank (λ x. ⊥) (λ x z. z) b) (λ h. h)
