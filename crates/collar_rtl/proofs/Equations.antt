-- What settles a cycle of the interface: the pins, the word, the reset, and what the registers take.
use Rattle.std.proofs.Common.{◌≡◌, ◌+◌, ◌*◌, ◌^◌, ℕ, Bool, true, false, cond, not, nat_eq, List, [], ◌∷◌, ◌++◌, refl, ap, ◌∙◌, arith}
use Rattle.std.specs.Prelude.{◌&&◌, ◌-◌, bit_xor}
use Rattle.verilog_tree.specs.declared.tree.BinOp.TheVariants.{Xor}
use Rattle.verilog_tree.specs.Plain.{Expression, Net, Concatenation, Followed, NoMore, Infixed, Conditional, ModuleItem, WireItem, RegItem, AssignItem, AlwaysItem}
use Rattle.verilog_tree.specs.Meaning.{Env, bit, truth, value, names_widths, Equations, Settles}
use Rattle.macro_pins.specs.declared.pins.PinKind.{PinKind}
use Rattle.macro_pins.specs.declared.pins.PinKind.TheVariants as K
use Rattle.macro_pins.specs.Pins.{PinTree, Pins, has_enable}
use Rattle.macro_pins.specs.Asked.{ones, level, switched, writing, reading_alone, writing_alone, PinAsks, AllAsk, PinsAsk}
use Rattle.collar_rtl.specs.Interface as I
use Rattle.collar_rtl.specs.Interface.{test, at_pin, en_at, we_at, addr_at, wdata_at, rdata_at, lit}
use Rattle.collar_rtl.specs.Collared.{PinPasses, AllPass, PassesThrough, command_at}

-- ---- the equations of a part of the items

pub left_of : (w : List ℕ → ℕ) (e : Env) (is js : List ModuleItem) → Equations w e (is ++ js) → Equations w e is
left_of w e [] js h = tt
left_of w e (WireItem n k ∷ is) js h = left_of w e is js h
left_of w e (RegItem n k ∷ is) js h = left_of w e is js h
left_of w e (AssignItem n x ∷ is) js h = (h.0, left_of w e is js h.1)
left_of w e (AlwaysItem c ss ∷ is) js h = left_of w e is js h

pub right_of : (w : List ℕ → ℕ) (e : Env) (is js : List ModuleItem) → Equations w e (is ++ js) → Equations w e js
right_of w e [] js h = h
right_of w e (WireItem n k ∷ is) js h = right_of w e is js h
right_of w e (RegItem n k ∷ is) js h = right_of w e is js h
right_of w e (AssignItem n x ∷ is) js h = right_of w e is js h.1
right_of w e (AlwaysItem c ss ∷ is) js h = right_of w e is js h

module _ (p : Pins) (b a : ℕ) (name : List ℕ) (regs ins e : Env) (s : Settles (I.interface name p b a) regs ins e) where
  abbrev widths : List ℕ → ℕ
  widths = names_widths (I.interface name p b a)

  behind : Equations widths e (I.drives p a ++ I.ends p)
  behind = right_of widths e (I.word_regs p.rdata b 0 p.after) (I.drives p a ++ I.ends p) (right_of widths e (I.command_regs b a 0 p.before) _ s.equations)

  pub of_drives : Equations widths e (I.drives p a)
  of_drives = left_of widths e (I.drives p a) (I.ends p) behind

  pub of_ends : Equations widths e (I.ends p)
  of_ends = right_of widths e (I.drives p a) (I.ends p) behind

-- ---- a choice by `test`

in_test_is : (w : List ℕ → ℕ) (e : Env) (x y : Expression) → e test ≡ 1 → value w e (Conditional (Net test) x y) ≡ value w e x
in_test_is w e x y h = ap (λ (v : ℕ). cond (truth v) (value w e x) (value w e y)) h

in_use_is : (w : List ℕ → ℕ) (e : Env) (x y : Expression) → e test ≡ 0 → value w e (Conditional (Net test) x y) ≡ value w e y
in_use_is w e x y h = ap (λ (v : ℕ). cond (truth v) (value w e x) (value w e y)) h

-- ---- in use

passes_pin : (w : List ℕ → ℕ) (e : Env) (enabled : Bool) (i a : ℕ) (k : PinKind) (p : PinTree) → e test ≡ 0
    → e (at_pin p.name) ≡ value w e (I.at_macro enabled i a k p) → PinPasses k p e
passes_pin w e enabled i a K.Enable p off is = is ∙ in_use_is w e (I.in_test enabled i a K.Enable p) (Net p.name) off
passes_pin w e enabled i a K.Write p off is = is ∙ in_use_is w e (I.in_test enabled i a K.Write p) (Net p.name) off
passes_pin w e enabled i a K.ReadAlone p off is = is ∙ in_use_is w e (I.in_test enabled i a K.ReadAlone p) (Net p.name) off
passes_pin w e enabled i a K.WriteAlone p off is = is ∙ in_use_is w e (I.in_test enabled i a K.WriteAlone p) (Net p.name) off
passes_pin w e enabled i a K.Address p off is = is ∙ in_use_is w e (I.in_test enabled i a K.Address p) (Net p.name) off
passes_pin w e enabled i a K.Data p off is = is ∙ in_use_is w e (I.in_test enabled i a K.Data p) (Net p.name) off
passes_pin w e enabled i a K.Mask p off is = is ∙ in_use_is w e (I.in_test enabled i a K.Mask p) (Net p.name) off
passes_pin w e enabled i a K.Pass p off is = is
passes_pin w e enabled i a K.Fixed p off is = is ∙ in_use_is w e (I.in_test enabled i a K.Fixed p) (Net p.name) off
passes_pin w e enabled i a K.Tie p off is = is

pass_all : (w : List ℕ → ℕ) (e : Env) (enabled : Bool) (i a : ℕ) (ps : List PinTree) → e test ≡ 0 → Equations w e (I.pin_assigns enabled i a ps) → AllPass ps e
pass_all w e enabled i a [] off h = tt
pass_all w e enabled i a (p ∷ ps) off h = (passes_pin w e enabled i a p.kind p off h.0, pass_all w e enabled i a ps off h.1)

pub passes_through : (p : Pins) (b a : ℕ) (name : List ℕ) (regs ins e : Env) → Settles (I.interface name p b a) regs ins e → PassesThrough p e
passes_through p b a name regs ins e s =
    let drives = of_drives p b a name regs ins e s in
    let ends = of_ends p b a name regs ins e s in
    record {
      pins = λ off. pass_all (widths p b a name regs ins e s) e (has_enable p.inputs) p.before a p.inputs off drives.1;
      word = ends.0;
      in_use = λ off. drives.0 ∙ ap (λ (v : ℕ). bit (not (truth v))) off;
      in_test = λ on. drives.0 ∙ ap (λ (v : ℕ). bit (not (truth v))) on;
    }

-- ---- in test

by_test : (t : Bool) (x y : ℕ) (c : Bool) → t ≡ c → cond t x y ≡ cond c x y
by_test t x y c h = ap (λ (u : Bool). cond u x y) h

-- a pin that is on where a condition holds
on_is : (p : PinTree) (t : Bool) → cond t (switched p true) (switched p false) ≡ switched p t
on_is p true = refl
on_is p false = refl

truth_bit : (t : Bool) → truth (bit t) ≡ t
truth_bit true = refl
truth_bit false = refl

both_is : (x y : Bool) → x && y ≡ cond x y false
both_is true y = refl
both_is false y = refl

other_is : (x y : Bool) → x && truth (bit (not y)) ≡ cond x (not y) false
other_is true y = truth_bit (not y)
other_is false y = refl

low_word : (h v : ℕ) → 0 * 2 ^ h + (v * 2 ^ 0 + 0) ≡ v
low_word h v = let none : 0 * 2 ^ h ≡ 0 = omega arith in let one : v * 2 ^ 0 ≡ v = omega arith in omega arith

widened_is : (w : List ℕ → ℕ) (e : Env) (a k : ℕ) (n : List ℕ) → value w e (I.widened a k (Net n)) ≡ e n
widened_is w e a k n = go (nat_eq a k)
  where
    go : (t : Bool) → value w e (cond t (Net n) (Concatenation (Followed (lit (k - a) 0) (Followed (Net n) NoMore)))) ≡ e n
    go true = refl
    go false = low_word (w n + 0) (e n)

inverted_is : (w : List ℕ → ℕ) (e : Env) (p : PinTree) (x : Expression) → value w e (I.inverted p x) ≡ level p (value w e x)
inverted_is w e p x = go p.low
  where
    go : (t : Bool) → value w e (cond t (Infixed Xor x (lit p.width (ones p.width))) x) ≡ cond t (bit_xor (value w e x) (ones p.width)) (value w e x)
    go true = refl
    go false = refl

module _ (w : List ℕ → ℕ) (e : Env) (i a : ℕ) (on : e test ≡ 1) where
  writes_is : truth (value w e (I.writes i)) ≡ cond (truth (e (en_at i))) (truth (e (we_at i))) false
  writes_is = truth_bit (truth (e (en_at i)) && truth (e (we_at i))) ∙ both_is (truth (e (en_at i))) (truth (e (we_at i)))

  reads_is : truth (value w e (I.reads i)) ≡ cond (truth (e (en_at i))) (not (truth (e (we_at i)))) false
  reads_is = truth_bit (truth (e (en_at i)) && truth (bit (not (truth (e (we_at i)))))) ∙ other_is (truth (e (en_at i))) (truth (e (we_at i)))

  where_on_is : (p : PinTree) (x : Expression) (t : Bool) → truth (value w e x) ≡ t → value w e (I.where_on p x) ≡ switched p t
  where_on_is p x t h = by_test (truth (value w e x)) (switched p true) (switched p false) t h ∙ on_is p t

  write_is : (enabled : Bool) → truth (value w e (cond enabled (Net (we_at i)) (I.writes i))) ≡ cond enabled (truth (e (we_at i))) (cond (truth (e (en_at i))) (truth (e (we_at i))) false)
  write_is true = refl
  write_is false = writes_is

  asks_pin : (enabled : Bool) (k : PinKind) (p : PinTree) → e (at_pin p.name) ≡ value w e (I.at_macro enabled i a k p) → PinAsks enabled k p (command_at i e) (e (at_pin p.name))
  asks_pin enabled K.Enable p is = is ∙ in_test_is w e (I.in_test enabled i a K.Enable p) (Net p.name) on ∙ where_on_is p (Net (en_at i)) (truth (e (en_at i))) refl
  asks_pin enabled K.Write p is = λ any. is ∙ in_test_is w e (I.in_test enabled i a K.Write p) (Net p.name) on ∙ where_on_is p (cond enabled (Net (we_at i)) (I.writes i)) (writing enabled (command_at i e)) (write_is enabled)
  asks_pin enabled K.ReadAlone p is = is ∙ in_test_is w e (I.in_test enabled i a K.ReadAlone p) (Net p.name) on ∙ where_on_is p (I.reads i) (reading_alone (command_at i e)) reads_is
  asks_pin enabled K.WriteAlone p is = is ∙ in_test_is w e (I.in_test enabled i a K.WriteAlone p) (Net p.name) on ∙ where_on_is p (I.writes i) (writing_alone (command_at i e)) writes_is
  asks_pin enabled K.Address p is = λ any. is ∙ in_test_is w e (I.in_test enabled i a K.Address p) (Net p.name) on ∙ inverted_is w e p (I.widened a p.width (Net (addr_at i))) ∙ ap (level p) (widened_is w e a p.width (addr_at i))
  asks_pin enabled K.Data p is = λ any more. is ∙ in_test_is w e (I.in_test enabled i a K.Data p) (Net p.name) on ∙ inverted_is w e p (Net (wdata_at i))
  asks_pin enabled K.Mask p is = λ any. is ∙ in_test_is w e (I.in_test enabled i a K.Mask p) (Net p.name) on
  asks_pin enabled K.Pass p is = tt
  asks_pin enabled K.Fixed p is = is ∙ in_test_is w e (I.in_test enabled i a K.Fixed p) (Net p.name) on
  asks_pin enabled K.Tie p is = is

  ask_all : (enabled : Bool) (ps : List PinTree) → Equations w e (I.pin_assigns enabled i a ps) → AllAsk enabled ps (command_at i e) (λ n. e (at_pin n))
  ask_all enabled [] h = tt
  ask_all enabled (p ∷ ps) h = (asks_pin enabled p.kind p h.0, ask_all enabled ps h.1)

-- in test the pins ask for the command behind the registers
pub pins_ask : (p : Pins) (b a : ℕ) (name : List ℕ) (regs ins e : Env) → Settles (I.interface name p b a) regs ins e → e test ≡ 1
    → PinsAsk p (command_at p.before e) (λ n. e (at_pin n))
pins_ask p b a name regs ins e s on =
    let drives = of_drives p b a name regs ins e s in
    ask_all (widths p b a name regs ins e s) e p.before a on (has_enable p.inputs) p.inputs drives.1
