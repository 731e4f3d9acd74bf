-- The pins of a port are decoded, and a memory behind them goes on whatever they hold.
use Rattle.std.proofs.Common.{◌≡◌, ◌^◌, ◌≤◌, ◌<◌, ℕ, Bool, true, false, cond, not, List, [], ◌∷◌, ◌++◌, length, Option, Some, None, refl, sym, ap, subst, ◌∙◌, ◌⊎◌, inl, inr, ⊎_elim, arith, length-append}
use Rattle.std.specs.Prelude.{◌||◌, bit_xor}
use Rattle.std.proofs.Math.Nat.{one-le-pow}
use Rattle.std.proofs.lemmas.Bool.Decides.{eqb_tells}
use Rattle.macro_pins.specs.declared.pins.PinKind.{PinKind}
use Rattle.macro_pins.specs.declared.pins.PinKind.TheVariants as K
use Rattle.macro_pins.specs.Pins.{PinTree, Pins, has_enable}
use Rattle.macro_pins.specs.Asked.{ones, level, switched, Asked, writing, reading_alone, writing_alone, PinAsks, AllAsk, PinsAsk}
use Rattle.macro_pins.specs.Ports.{is_address, is_data, has, IsPort, SameAsked}
use Rattle.macro_pins.specs.Macros.{Values, PortMemory, own, Stands, due_after, Held}
use Rattle.macro_pins.specs.Going.{Decoder, PortDecodes, TellsAsked, AllLow, IsHeld, GoesOn}
use Rattle.macro_pins.proofs.One.{xor_twice, ask_one}

-- ---- whether these values ask for a command

abbrev Dec : Type 0 → Type 0
Dec P = P ⊎ (P → ⊥)

same_number : (v w : ℕ) → Dec (v ≡ w)
same_number v w = ⊎_elim (λ h. inl h.1) (λ h. inr h.1) (eqb_tells v w)

where_true : {P : Type 0} (t : Bool) → Dec P → Dec ((t ≡ true) → P)
where_true true (inl x) = inl (λ e. x)
where_true true (inr n) = inr (λ f. n (f refl))
where_true false d = inl (λ e. cc)

both : {P Q : Type 0} → Dec P → Dec Q → Dec (P × Q)
both (inl x) (inl y) = inl (x, y)
both (inr n) d = inr (λ h. n h.0)
both (inl x) (inr n) = inr (λ h. n h.1)

decide_pin : (enabled : Bool) (k : PinKind) (p : PinTree) (a : Asked) (v : ℕ) → Dec (PinAsks enabled k p a v)
decide_pin enabled K.Enable p a v = same_number v (switched p a.en)
decide_pin enabled K.Write p a v = where_true (cond enabled a.en true) (same_number v (switched p (writing enabled a)))
decide_pin enabled K.ReadAlone p a v = same_number v (switched p (reading_alone a))
decide_pin enabled K.WriteAlone p a v = same_number v (switched p (writing_alone a))
decide_pin enabled K.Address p a v = where_true a.en (same_number v (level p a.addr))
decide_pin enabled K.Data p a v = where_true a.en (where_true a.we (same_number v (level p a.wdata)))
decide_pin enabled K.Mask p a v = where_true a.en (same_number v (switched p true))
decide_pin enabled K.Pass p a v = inl tt
decide_pin enabled K.Fixed p a v = same_number v p.value
decide_pin enabled K.Tie p a v = same_number v p.value

decide : (enabled : Bool) (ps : List PinTree) (a : Asked) (e : Values) → Dec (AllAsk enabled ps a e)
decide enabled [] a e = inl tt
decide enabled (p ∷ ps) a e = both (decide_pin enabled p.kind p a (e p.name)) (decide enabled ps a e)

-- ---- the same command is asked by the same values

cond_same : (x y u v : Bool) → x ≡ y → (x ≡ true → u ≡ v) → cond x u false ≡ cond y v false
cond_same true true u v e h = h refl
cond_same false false u v e h = refl
cond_same true false u v e h = cc
cond_same false true u v e h = cc

module _ (a b : Asked) (s : SameAsked a b) where
  writing_same : (enabled : Bool) → cond enabled b.en true ≡ true → writing enabled a ≡ writing enabled b
  writing_same true on = s.we (s.en ∙ on)
  writing_same false on = cond_same a.en b.en a.we b.we s.en s.we

  may_too : (enabled : Bool) → cond enabled b.en true ≡ true → cond enabled a.en true ≡ true
  may_too true on = s.en ∙ on
  may_too false on = refl

  pin_too : (enabled : Bool) (k : PinKind) (p : PinTree) (v : ℕ) → PinAsks enabled k p a v → PinAsks enabled k p b v
  pin_too enabled K.Enable p v x = x ∙ ap (switched p) s.en
  pin_too enabled K.Write p v x = λ on. x (may_too enabled on) ∙ ap (switched p) (writing_same enabled on)
  pin_too enabled K.ReadAlone p v x = x ∙ ap (switched p) (cond_same a.en b.en (not a.we) (not b.we) s.en (λ on. ap not (s.we on)))
  pin_too enabled K.WriteAlone p v x = x ∙ ap (switched p) (cond_same a.en b.en a.we b.we s.en s.we)
  pin_too enabled K.Address p v x = λ on. x (s.en ∙ on) ∙ ap (level p) (s.addr (s.en ∙ on))
  pin_too enabled K.Data p v x = λ on we.
      let first : a.en ≡ true = s.en ∙ on in
      let second : a.we ≡ true = s.we first ∙ we in
      x first second ∙ ap (level p) (s.wdata first second)
  pin_too enabled K.Mask p v x = λ on. x (s.en ∙ on)
  pin_too enabled K.Pass p v x = tt
  pin_too enabled K.Fixed p v x = x
  pin_too enabled K.Tie p v x = x

  all_too : (enabled : Bool) (ps : List PinTree) (e : Values) → AllAsk enabled ps a e → AllAsk enabled ps b e
  all_too enabled [] e x = tt
  all_too enabled (p ∷ ps) e x = (pin_too enabled p.kind p (e p.name) x.0, all_too enabled ps e x.1)

-- ---- the address and the word

unlevel : PinTree → ℕ → ℕ
unlevel p v = cond p.low (bit_xor v (ones p.width)) v

unlevel_level : (p : PinTree) (n : ℕ) → unlevel p (level p n) ≡ n
unfolding unlevel
unlevel_level p n = go p.low
  where
    go : (low : Bool) → cond low (bit_xor (cond low (bit_xor n (ones p.width)) n) (ones p.width)) (cond low (bit_xor n (ones p.width)) n) ≡ n
    go true = xor_twice n (ones p.width)
    go false = refl

record Spot (enabled : Bool) (test : PinKind → Bool) (ps : List PinTree) : Type 0 where
  pin : PinTree
  kind : test pin.kind ≡ true
  asks : (a : Asked) (e : Values) → AllAsk enabled ps a e → PinAsks enabled pin.kind pin a (e pin.name)

spot : (enabled : Bool) (test : PinKind → Bool) (ps : List PinTree) → has test ps ≡ true → Spot enabled test ps
spot enabled test [] h = cc
spot enabled test (p ∷ ps) h = go (test p.kind) refl h (λ k. spot enabled test ps k)
  where
    go : (t : Bool) → test p.kind ≡ t → (t || has test ps) ≡ true → (has test ps ≡ true → Spot enabled test ps) → Spot enabled test (p ∷ ps)
    go true k h later = record { pin = p; kind = k; asks = λ a e x. x.0 }
    go false k h later = let s = later h in record { pin = s.pin; kind = s.kind; asks = λ a e x. s.asks a e x.1 }

-- ---- the decoder

module _ (p : Pins) (port : IsPort p) where
  abbrev enabled : Bool
  enabled = has_enable p.inputs

  address : Spot (has_enable p.inputs) is_address p.inputs
  address = spot (has_enable p.inputs) is_address p.inputs port.address

  word_pin : Spot (has_enable p.inputs) is_data p.inputs
  word_pin = spot (has_enable p.inputs) is_data p.inputs port.word

  candidate : Bool → Bool → Values → Asked
  candidate en we e = record { en = en; we = we; addr = unlevel address.pin (e address.pin.name); wdata = unlevel word_pin.pin (e word_pin.pin.name) }

  addr_is : (a : Asked) (e : Values) → PinsAsk p a e → a.en ≡ true → a.addr ≡ unlevel address.pin (e address.pin.name)
  addr_is a e x on = go address.pin.kind address.kind (address.asks a e x)
    where
      go : (k : PinKind) → is_address k ≡ true → PinAsks (has_enable p.inputs) k address.pin a (e address.pin.name) → a.addr ≡ unlevel address.pin (e address.pin.name)
      go K.Address t y = sym (ap (unlevel address.pin) (y on) ∙ unlevel_level address.pin a.addr)
      go other t y = cc

  data_is : (a : Asked) (e : Values) → PinsAsk p a e → a.en ≡ true → a.we ≡ true → a.wdata ≡ unlevel word_pin.pin (e word_pin.pin.name)
  data_is a e x on we = go word_pin.pin.kind word_pin.kind (word_pin.asks a e x)
    where
      go : (k : PinKind) → is_data k ≡ true → PinAsks (has_enable p.inputs) k word_pin.pin a (e word_pin.pin.name) → a.wdata ≡ unlevel word_pin.pin (e word_pin.pin.name)
      go K.Data t y = sym (ap (unlevel word_pin.pin) (y on we) ∙ unlevel_level word_pin.pin a.wdata)
      go other t y = cc

  same_candidate : (a : Asked) (e : Values) → PinsAsk p a e → (en we : Bool) → a.en ≡ en → (a.en ≡ true → a.we ≡ we) → SameAsked a (candidate en we e)
  unfolding candidate
  same_candidate a e x en we is way = record { en = is; we = way; addr = addr_is a e x; wdata = data_is a e x }

  pick : (e : Values) (a : Asked) → Dec (PinsAsk p a e) → Option Asked → Option Asked
  pick e a (inl x) rest = Some a
  pick e a (inr n) rest = rest

  pick_sound : (e : Values) (c a : Asked) (d : Dec (PinsAsk p c e)) (rest : Option Asked) → (rest ≡ Some a → PinsAsk p a e) → pick e c d rest ≡ Some a → PinsAsk p a e
  unfolding pick
  pick_sound e c a (inl x) rest h is = let same : c ≡ a = cc in subst (λ (y : Asked). PinsAsk p y e) same x
  pick_sound e c a (inr n) rest h is = h is

  pick_some : (e : Values) (c : Asked) (d : Dec (PinsAsk p c e)) (rest : Option Asked) → PinsAsk p c e → (b : Asked) × (pick e c d rest ≡ Some b)
  unfolding pick
  pick_some e c (inl x) rest h = (c, refl)
  pick_some e c (inr n) rest h = absurd (n h)

  pick_later : (e : Values) (c : Asked) (d : Dec (PinsAsk p c e)) (rest : Option Asked) → (b : Asked) × (rest ≡ Some b) → (b : Asked) × (pick e c d rest ≡ Some b)
  unfolding pick
  pick_later e c (inl x) rest h = (c, refl)
  pick_later e c (inr n) rest h = h

  abbrev tried : Bool → Bool → Values → Option Asked → Option Asked
  tried en we e rest = pick e (candidate en we e) (decide (has_enable p.inputs) p.inputs (candidate en we e) e) rest

  decoded : Values → Option Asked
  decoded e = tried false false e (tried true false e (tried true true e None))

  decoded_sound : (e : Values) (a : Asked) → decoded e ≡ Some a → PinsAsk p a e
  unfolding decoded
  decoded_sound e a is =
      pick_sound e (candidate false false e) a _ _
      (pick_sound e (candidate true false e) a _ _ (pick_sound e (candidate true true e) a _ None (λ h. cc))) is

  some_decoded : (e : Values) (a : Asked) → PinsAsk p a e → (b : Asked) × (decoded e ≡ Some b)
  unfolding decoded
  some_decoded e a x = go a.en a.we refl refl
    where
      too : (en we : Bool) → a.en ≡ en → (a.en ≡ true → a.we ≡ we) → PinsAsk p (candidate en we e) e
      too en we is way = all_too a (candidate en we e) (same_candidate a e x en we is way) (has_enable p.inputs) p.inputs e x

      go : (en we : Bool) → a.en ≡ en → a.we ≡ we → (b : Asked) × (decoded e ≡ Some b)
      go false we on way = pick_some e (candidate false false e) _ _ (too false false on (λ h. cc))
      go true false on way = pick_later e (candidate false false e) _ _ (pick_some e (candidate true false e) _ _ (too true false on (λ h. way)))
      go true true on way =
          pick_later e (candidate false false e) _ _ (pick_later e (candidate true false e) _ _ (pick_some e (candidate true true e) _ None (too true true on (λ h. way))))

  pub decoder : Decoder p
  decoder = record {
    asked = decoded;
    sound = decoded_sound;
    complete = λ e a x.
        let found = some_decoded e a x in
        (found.0, found.1, ask_one p a found.0 e port x (decoded_sound e found.0 found.1));
  }

pub port_decodes : PortDecodes
port_decodes p port = decoder p port

-- ---- a macro that goes on

all_low_end : (bits : ℕ) (ws : List (Option ℕ)) (w : Option ℕ) → AllLow bits ws → AllLow bits (w ∷ []) → AllLow bits (ws ++ w ∷ [])
all_low_end bits [] w h k = k
all_low_end bits (None ∷ ws) w h k = all_low_end bits ws w h k
all_low_end bits (Some v ∷ ws) w h k = (h.0, all_low_end bits ws w h.1 k)

all_low_after : (bits : ℕ) (ws : List (Option ℕ)) (w : Option ℕ) → AllLow bits ws → AllLow bits (w ∷ []) → AllLow bits (due_after ws w)
all_low_after bits [] w h k = k
all_low_after bits (None ∷ ws) w h k = all_low_end bits ws w h k
all_low_after bits (Some v ∷ ws) w h k = all_low_end bits ws w h.1 k

as_many : (ws : List (Option ℕ)) (w : Option ℕ) → 1 ≤ length ws → length (due_after ws w) ≡ length ws
as_many [] w some = absurd (omega arith)
as_many (v ∷ ws) w some = let size = length-append ws (w ∷ []) in omega arith

module _ {S : Type 0} (m : PortMemory S) (Good : S → Type 0) (bits : ℕ) (tells : TellsAsked m) (keeps : (s : S) (a : Asked) → Good s → Good (m.after s a))
    (low : (s : S) (a : Asked) → m.reply s a < 2 ^ bits) (p : Pins) (port : IsPort p) where
  does : Held S → Option Asked → Held S
  does h None = record { state = h.state; due = due_after h.due None }
  does h (Some a) = record { state = m.after h.state a; due = due_after h.due (own m h.state a) }

  own_low : (s : S) (a : Asked) → AllLow bits (own m s a ∷ [])
  own_low s a = go a.en a.we
    where
      go : (en we : Bool) → AllLow bits (cond en (cond we None (Some (m.reply s a))) None ∷ [])
      go true true = tt
      go true false = (low s a, tt)
      go false we = tt

  does_held : (h : Held S) (o : Option Asked) → IsHeld Good bits h → IsHeld Good bits (does h o)
  unfolding does
  does_held h None held =
      let size = as_many h.due None held.some in
      let some = held.some in
      record { good = held.good; some = omega arith; low = all_low_after bits h.due None held.low tt }
  does_held h (Some a) held =
      let size = as_many h.due (own m h.state a) held.some in
      let some = held.some in
      record { good = keeps h.state a held.good; some = omega arith; low = all_low_after bits h.due (own m h.state a) held.low (own_low h.state a) }

  does_many : (h : Held S) (o : Option Asked) → 1 ≤ length h.due → (let left : Held S = does h o in length left.due) ≡ length h.due
  unfolding does
  does_many h None some = as_many h.due None some
  does_many h (Some a) some = as_many h.due (own m h.state a) some

  done : (h : Held S) (o : Option Asked) (a b : Asked) → o ≡ Some b → SameAsked a b
      → (let left : Held S = does h o in (left.state ≡ m.after h.state a) × (left.due ≡ due_after h.due (own m h.state a)))
  unfolding does
  done h None a b is same = cc
  done h (Some c) a b is same =
      let one : c ≡ b = cc in (
        ap (m.after h.state) one ∙ sym (tells.after h.state a b same),
        ap (λ (x : Asked). due_after h.due (own m h.state x)) one ∙ sym (ap (due_after h.due) (tells.answer h.state a b same)),
      )

  first_word : List (Option ℕ) → ℕ
  first_word [] = 0
  first_word (None ∷ ws) = 0
  first_word (Some w ∷ ws) = w

  first_stands : (ws : List (Option ℕ)) → Stands ws (first_word ws)
  unfolding first_word
  first_stands [] = tt
  first_stands (None ∷ ws) = tt
  first_stands (Some w ∷ ws) = refl

  first_low : (ws : List (Option ℕ)) → AllLow bits ws → first_word ws < 2 ^ bits
  unfolding first_word
  first_low [] h = one-le-pow bits 2 (omega arith)
  first_low (None ∷ ws) h = one-le-pow bits 2 (omega arith)
  first_low (Some w ∷ ws) h = h.0

  -- behind the pins of a port there is a macro with this memory
  pub goes_on : GoesOn m Good p bits
  goes_on =
      let d : Decoder p = decoder p port in
      record {
        left = λ e h. does h (d.asked e);
        goes = λ e h held stands.
            record {
              word = stands;
              asked = λ a x. let found = d.complete e a x in done h (d.asked e) a found.0 found.1 found.2;
              good = (does_held h (d.asked e) held).good;
              as_many = does_many h (d.asked e) held.some;
            };
        held = λ e h held. does_held h (d.asked e) held;
        word = λ h. first_word h.due;
        stands = λ h held. first_stands h.due;
        low = λ h held. first_low h.due held.low;
      }
