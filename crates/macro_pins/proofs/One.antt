-- The pins of a port ask for one thing.
use Rattle.std.proofs.Common.{◌≡◌, ◌+◌, ◌^◌, ◌≤◌, ℕ, zero, suc, Bool, true, false, cond, not, List, [], ◌∷◌, refl, sym, ap, ◌∙◌, arith}
use Rattle.std.specs.Prelude.{◌||◌, ◌&&◌, bit_xor}
use Rattle.std.proofs.lemmas.Nat.{pow_pos}
use Rattle.std.specs.Int.Bits.{xor_assoc, xor_self, xor_zero_r}
use Rattle.macro_pins.specs.declared.pins.PinKind.{PinKind}
use Rattle.macro_pins.specs.declared.pins.PinKind.TheVariants as K
use Rattle.macro_pins.specs.Pins.{PinTree, is_enable, has_enable}
use Rattle.macro_pins.specs.Asked.{ones, level, switched, Asked, writing, reading_alone, writing_alone, PinAsks, AllAsk}
use Rattle.macro_pins.specs.Ports.{is_way, is_read_alone, is_write_alone, is_address, is_data, has, AllWide, AskOne}

-- ---- one pin

pub xor_twice : (w p : ℕ) → bit_xor (bit_xor w p) p ≡ w
xor_twice w p = xor_assoc w p p ∙ ap (bit_xor w) (xor_self p) ∙ xor_zero_r w

some_ones : (w : ℕ) → 1 ≤ w → 1 ≤ ones w
some_ones zero h = absurd (omega arith)
some_ones (suc w) h = let p = pow_pos w in let more : 2 ^ suc w ≡ 2 ^ w + 2 ^ w = omega arith in omega arith

apart : (w : ℕ) → 1 ≤ w → ones w ≡ 0 → ⊥
apart w h e = let some = some_ones w h in absurd (omega arith)

one_switch : (w : ℕ) → 1 ≤ w → (low x y : Bool) → cond low (cond x 0 (ones w)) (cond x (ones w) 0) ≡ cond low (cond y 0 (ones w)) (cond y (ones w) 0) → x ≡ y
one_switch w h low true true e = refl
one_switch w h low false false e = refl
one_switch w h true true false e = absurd (apart w h (sym e))
one_switch w h false true false e = absurd (apart w h e)
one_switch w h true false true e = absurd (apart w h e)
one_switch w h false false true e = absurd (apart w h (sym e))

switched_one : (p : PinTree) → 1 ≤ p.width → (x y : Bool) (v : ℕ) → v ≡ switched p x → v ≡ switched p y → x ≡ y
switched_one p wide x y v h k = one_switch p.width wide p.low x y (sym h ∙ k)

one_level : (k x y : ℕ) (low : Bool) → cond low (bit_xor x k) x ≡ cond low (bit_xor y k) y → x ≡ y
one_level k x y true e = sym (xor_twice x k) ∙ ap (λ n. bit_xor n k) e ∙ xor_twice y k
one_level k x y false e = e

level_one : (p : PinTree) (x y v : ℕ) → v ≡ level p x → v ≡ level p y → x ≡ y
level_one p x y v h k = one_level (ones p.width) x y p.low (sym h ∙ k)

-- ---- a pin of some kinds

record Found (enabled : Bool) (test : PinKind → Bool) (a b : Asked) (e : List ℕ → ℕ) : Type 0 where
  pin : PinTree
  wide : 1 ≤ pin.width
  kind : test pin.kind ≡ true
  first : PinAsks enabled pin.kind pin a (e pin.name)
  second : PinAsks enabled pin.kind pin b (e pin.name)

find : (enabled : Bool) (test : PinKind → Bool) (a b : Asked) (e : List ℕ → ℕ) (ps : List PinTree) → has test ps ≡ true → AllWide ps → AllAsk enabled ps a e → AllAsk enabled ps b e
    → Found enabled test a b e
find enabled test a b e [] h w x y = cc
find enabled test a b e (p ∷ ps) h w x y = go (test p.kind) refl h (λ k. find enabled test a b e ps k w.1 x.1 y.1)
  where
    go : (t : Bool) → test p.kind ≡ t → (t || has test ps) ≡ true → (has test ps ≡ true → Found enabled test a b e) → Found enabled test a b e
    go true k h later = record { pin = p; wide = w.0; kind = k; first = x.0; second = y.0 }
    go false k h later = later h

enable_is : (ps : List PinTree) → has_enable ps ≡ has is_enable ps
enable_is [] = refl
enable_is (p ∷ ps) = ap (λ (t : Bool). is_enable p.kind || t) (enable_is ps)

module _ (enabled : Bool) (a b : Asked) (e : List ℕ → ℕ) where
  en_of : (f : Found enabled is_enable a b e) → a.en ≡ b.en
  en_of f = go f.pin.kind f.kind f.first f.second
    where
      go : (k : PinKind) → is_enable k ≡ true → PinAsks enabled k f.pin a (e f.pin.name) → PinAsks enabled k f.pin b (e f.pin.name) → a.en ≡ b.en
      go K.Enable t x y = switched_one f.pin f.wide a.en b.en (e f.pin.name) x y
      go other t x y = cc

  read_of : (f : Found enabled is_read_alone a b e) → reading_alone a ≡ reading_alone b
  read_of f = go f.pin.kind f.kind f.first f.second
    where
      go : (k : PinKind) → is_read_alone k ≡ true → PinAsks enabled k f.pin a (e f.pin.name) → PinAsks enabled k f.pin b (e f.pin.name) → reading_alone a ≡ reading_alone b
      go K.ReadAlone t x y = switched_one f.pin f.wide (reading_alone a) (reading_alone b) (e f.pin.name) x y
      go other t x y = cc

  write_of : (f : Found enabled is_write_alone a b e) → writing_alone a ≡ writing_alone b
  write_of f = go f.pin.kind f.kind f.first f.second
    where
      go : (k : PinKind) → is_write_alone k ≡ true → PinAsks enabled k f.pin a (e f.pin.name) → PinAsks enabled k f.pin b (e f.pin.name) → writing_alone a ≡ writing_alone b
      go K.WriteAlone t x y = switched_one f.pin f.wide (writing_alone a) (writing_alone b) (e f.pin.name) x y
      go other t x y = cc

  addr_of : (f : Found enabled is_address a b e) → a.en ≡ true → b.en ≡ true → a.addr ≡ b.addr
  addr_of f on on' = go f.pin.kind f.kind f.first f.second
    where
      go : (k : PinKind) → is_address k ≡ true → PinAsks enabled k f.pin a (e f.pin.name) → PinAsks enabled k f.pin b (e f.pin.name) → a.addr ≡ b.addr
      go K.Address t x y = level_one f.pin a.addr b.addr (e f.pin.name) (x on) (y on')
      go other t x y = cc

  data_of : (f : Found enabled is_data a b e) → a.en ≡ true → b.en ≡ true → a.we ≡ true → b.we ≡ true → a.wdata ≡ b.wdata
  data_of f on on' we we' = go f.pin.kind f.kind f.first f.second
    where
      go : (k : PinKind) → is_data k ≡ true → PinAsks enabled k f.pin a (e f.pin.name) → PinAsks enabled k f.pin b (e f.pin.name) → a.wdata ≡ b.wdata
      go K.Data t x y = level_one f.pin a.wdata b.wdata (e f.pin.name) (x on we) (y on' we')
      go other t x y = cc

-- whether it writes, of commands that are enabled
write_bit : (enabled : Bool) (a : Asked) → a.en ≡ true → writing enabled a ≡ a.we
write_bit true a on = refl
write_bit false a on = ap (λ (t : Bool). cond t a.we false) on

may : (enabled : Bool) (a : Asked) → a.en ≡ true → cond enabled a.en true ≡ true
may true a on = on
may false a on = refl

way_of : (enabled : Bool) (a b : Asked) (e : List ℕ → ℕ) → Found enabled is_way a b e → a.en ≡ true → b.en ≡ true → a.we ≡ b.we
way_of enabled a b e f on on' = go f.pin.kind f.kind f.first f.second
  where
    go : (k : PinKind) → is_way k ≡ true → PinAsks enabled k f.pin a (e f.pin.name) → PinAsks enabled k f.pin b (e f.pin.name) → a.we ≡ b.we
    go K.Write t x y =
        sym (write_bit enabled a on)
        ∙ switched_one f.pin f.wide (writing enabled a) (writing enabled b) (e f.pin.name) (x (may enabled a on)) (y (may enabled b on'))
        ∙ write_bit enabled b on'
    go K.WriteAlone t x y =
        sym (write_bit false a on) ∙ switched_one f.pin f.wide (writing_alone a) (writing_alone b) (e f.pin.name) x y ∙ write_bit false b on'
    go other t x y = cc

-- of pins of each way
both_ways : (x y u v : Bool) → cond x (not u) false ≡ cond y (not v) false → cond x u false ≡ cond y v false → x ≡ y
both_ways true true u v h k = refl
both_ways false false u v h k = refl
both_ways true false true v h k = cc
both_ways true false false v h k = cc
both_ways false true u true h k = cc
both_ways false true u false h k = cc

pub ask_one : AskOne
ask_one p a b e port x y =
    let enabled : Bool = has_enable p.inputs in
    let en : a.en ≡ b.en = enable (has_enable p.inputs) refl port.enable in
    let way = find enabled is_way a b e p.inputs port.way port.wide x y in
    let address = find enabled is_address a b e p.inputs port.address port.wide x y in
    let data_ = find enabled is_data a b e p.inputs port.word port.wide x y in
    record {
      en = en;
      we = λ on. way_of enabled a b e way on (sym en ∙ on);
      addr = λ on. addr_of enabled a b e address on (sym en ∙ on);
      wdata = λ on we. data_of enabled a b e data_ on (sym en ∙ on) we (sym (way_of enabled a b e way on (sym en ∙ on)) ∙ we);
    }
  where
    parts : (u v : Bool) → (u && v) ≡ true → (u ≡ true) × (v ≡ true)
    parts true true h = (refl, refl)
    parts true false h = cc
    parts false v h = cc

    enable : (t : Bool) → has_enable p.inputs ≡ t → (t || (has is_read_alone p.inputs && has is_write_alone p.inputs)) ≡ true → a.en ≡ b.en
    enable true k h =
        en_of (has_enable p.inputs) a b e (find (has_enable p.inputs) is_enable a b e p.inputs (sym (enable_is p.inputs) ∙ k) port.wide x y)
    enable false k h =
        let both = parts (has is_read_alone p.inputs) (has is_write_alone p.inputs) h in
        both_ways a.en b.en a.we b.we
        (read_of (has_enable p.inputs) a b e (find (has_enable p.inputs) is_read_alone a b e p.inputs both.0 port.wide x y))
        (write_of (has_enable p.inputs) a b e (find (has_enable p.inputs) is_write_alone a b e p.inputs both.1 port.wide x y))
