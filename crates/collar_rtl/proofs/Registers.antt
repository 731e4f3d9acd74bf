-- What the registers of the interface take, and so what stands in them in the next cycle.
use Rattle.std.proofs.Common.{◌≡◌, ◌<◌, ◌≤◌, ℕ, zero, suc, Bool, false, cond, List, [], ◌∷◌, ◌++◌, refl, sym, ap, ◌∙◌, arith}
use Rattle.std.specs.Str.{bytes_eq}
use Rattle.std.proofs.lemmas.List.{append-nil, append_assoc}
use Rattle.verilog_tree.specs.Plain.{Statement, statements, ModuleItem, WireItem, RegItem, AssignItem, AlwaysItem, ModuleTree}
use Rattle.verilog_tree.specs.Names.{Declaration, port_declarations, item_declarations}
use Rattle.verilog_tree.specs.Meaning.{Env, truth, names_widths, AllGiven, Settles, sets_of, sets, block_sets, last_set, next}
use Rattle.macro_pins.specs.Pins.{PinTree, Pins, has_enable}
use Rattle.macro_pins.specs.Asked.{Asked}
use Rattle.collar_rtl.specs.Interface as I
use Rattle.collar_rtl.specs.Interface.{test, at_pin, en_at, we_at, addr_at, wdata_at, rdata_at}
use Rattle.collar_rtl.specs.Collared.{command_at}

-- ---- what is set

last_of_both : (n : List ℕ) (xs ys : List (List ℕ × ℕ)) (old : ℕ) → last_set n (xs ++ ys) old ≡ last_set n ys (last_set n xs old)
last_of_both n [] ys old = refl
last_of_both n (x ∷ xs) ys old = last_of_both n xs ys (cond (bytes_eq n x.0) x.1 old)

sets_of_both : (w : List ℕ → ℕ) (e : Env) (xs ys : List Statement) → sets w e (statements (xs ++ ys)) ≡ sets w e (statements xs) ++ sets w e (statements ys)
sets_of_both w e [] ys = refl
sets_of_both w e (x ∷ xs) ys =
    ap (λ (l : List (List ℕ × ℕ)). sets_of w e x ++ l) (sets_of_both w e xs ys) ∙ sym (append_assoc (sets_of w e x) (sets w e (statements xs)) (sets w e (statements ys)))

block_is : (w : List ℕ → ℕ) (e : Env) (ss : List Statement) → block_sets w e (I.block_of ss) ≡ sets w e (statements ss)
block_is w e [] = refl
block_is w e (s ∷ ss) = append-nil (sets w e (statements (s ∷ ss)))

skip_commands : (w : List ℕ → ℕ) (e : Env) (b a i n : ℕ) (is : List ModuleItem) → block_sets w e (I.command_regs b a i n ++ is) ≡ block_sets w e is
skip_commands w e b a i zero is = refl
skip_commands w e b a i (suc n) is = skip_commands w e b a (suc i) n is

skip_words : (w : List ℕ → ℕ) (e : Env) (q : List ℕ) (b i n : ℕ) (is : List ModuleItem) → block_sets w e (I.word_regs q b i n ++ is) ≡ block_sets w e is
skip_words w e q b i zero is = refl
skip_words w e q b i (suc n) is = skip_words w e q b (suc i) n is

skip_pins : (w : List ℕ → ℕ) (e : Env) (enabled : Bool) (i a : ℕ) (ps : List PinTree) (is : List ModuleItem) → block_sets w e (I.pin_assigns enabled i a ps ++ is) ≡ block_sets w e is
skip_pins w e enabled i a [] is = refl
skip_pins w e enabled i a (p ∷ ps) is = skip_pins w e enabled i a ps is

items_set : (w : List ℕ → ℕ) (e : Env) (p : Pins) (b a : ℕ)
    → block_sets w e (I.items p b a) ≡ sets w e (statements (I.command_sets 0 p.before)) ++ sets w e (statements (I.word_sets p.rdata 0 p.after))
items_set w e p b a =
    skip_commands w e b a 0 p.before (I.word_regs p.rdata b 0 p.after ++ (I.drives p a ++ I.ends p))
    ∙ skip_words w e p.rdata b 0 p.after (I.drives p a ++ I.ends p)
    ∙ skip_pins w e (has_enable p.inputs) p.before a p.inputs (I.ends p)
    ∙ block_is w e (I.all_sets p) ∙ sets_of_both w e (I.command_sets 0 p.before) (I.word_sets p.rdata 0 p.after)

-- a name that no register of a word has
words_leave : (w : List ℕ → ℕ) (e : Env) (q n : List ℕ) → ((j : ℕ) → bytes_eq n (rdata_at q (suc j)) ≡ false) → (i k old : ℕ)
    → last_set n (sets w e (statements (I.word_sets q i k))) old ≡ old
words_leave w e q n apart i zero old = refl
words_leave w e q n apart i (suc k) old =
    ap (λ (t : Bool). last_set n (sets w e (statements (I.word_sets q (suc i) k))) (cond t (e (rdata_at q i)) old)) (apart i) ∙ words_leave w e q n apart (suc i) k old

-- ---- by the number of a register

record CommandTakes (w : List ℕ → ℕ) (e : Env) (n k : ℕ) : Type 0 where
  en : (old : ℕ) → last_set (en_at (suc k)) (sets w e (statements (I.command_sets 0 n))) old ≡ cond (truth (e test)) (e (en_at k)) 0
  we : (old : ℕ) → last_set (we_at (suc k)) (sets w e (statements (I.command_sets 0 n))) old ≡ e (we_at k)
  addr : (old : ℕ) → last_set (addr_at (suc k)) (sets w e (statements (I.command_sets 0 n))) old ≡ e (addr_at k)
  wdata : (old : ℕ) → last_set (wdata_at (suc k)) (sets w e (statements (I.command_sets 0 n))) old ≡ e (wdata_at k)

command_takes : (w : List ℕ → ℕ) (e : Env) (n k : ℕ) → k < n → n ≤ 3 → CommandTakes w e n k
command_takes w e (suc zero) zero low few = record { en = λ old. refl; we = λ old. refl; addr = λ old. refl; wdata = λ old. refl }
command_takes w e (suc (suc zero)) zero low few = record { en = λ old. refl; we = λ old. refl; addr = λ old. refl; wdata = λ old. refl }
command_takes w e (suc (suc zero)) (suc zero) low few = record { en = λ old. refl; we = λ old. refl; addr = λ old. refl; wdata = λ old. refl }
command_takes w e (suc (suc (suc zero))) zero low few = record { en = λ old. refl; we = λ old. refl; addr = λ old. refl; wdata = λ old. refl }
command_takes w e (suc (suc (suc zero))) (suc zero) low few = record { en = λ old. refl; we = λ old. refl; addr = λ old. refl; wdata = λ old. refl }
command_takes w e (suc (suc (suc zero))) (suc (suc zero)) low few = record { en = λ old. refl; we = λ old. refl; addr = λ old. refl; wdata = λ old. refl }
command_takes w e n k low few = absurd (omega arith)

word_takes : (w : List ℕ → ℕ) (e : Env) (q : List ℕ) (n k old : ℕ) → k < n → n ≤ 3 → last_set (rdata_at q (suc k)) (sets w e (statements (I.word_sets q 0 n))) old ≡ e (rdata_at q k)
word_takes w e q (suc zero) zero old low few = refl
word_takes w e q (suc (suc zero)) zero old low few = refl
word_takes w e q (suc (suc zero)) (suc zero) old low few = refl
word_takes w e q (suc (suc (suc zero))) zero old low few = refl
word_takes w e q (suc (suc (suc zero))) (suc zero) old low few = refl
word_takes w e q (suc (suc (suc zero))) (suc (suc zero)) old low few = refl
word_takes w e q n k old low few = absurd (omega arith)

-- ---- what a cycle is given

behind_given : (regs ins e : Env) (ds es : List Declaration) → AllGiven regs ins e (ds ++ es) → AllGiven regs ins e es
behind_given regs ins e [] es h = h
behind_given regs ins e (d ∷ ds) es h = behind_given regs ins e ds es h.1

given_left : (regs ins e : Env) (is js : List ModuleItem) → AllGiven regs ins e (item_declarations (is ++ js)) → AllGiven regs ins e (item_declarations is)
given_left regs ins e [] js h = tt
given_left regs ins e (WireItem n k ∷ is) js h = (h.0, given_left regs ins e is js h.1)
given_left regs ins e (RegItem n k ∷ is) js h = (h.0, given_left regs ins e is js h.1)
given_left regs ins e (AssignItem n x ∷ is) js h = given_left regs ins e is js h
given_left regs ins e (AlwaysItem c ss ∷ is) js h = given_left regs ins e is js h

given_right : (regs ins e : Env) (is js : List ModuleItem) → AllGiven regs ins e (item_declarations (is ++ js)) → AllGiven regs ins e (item_declarations js)
given_right regs ins e [] js h = h
given_right regs ins e (WireItem n k ∷ is) js h = given_right regs ins e is js h.1
given_right regs ins e (RegItem n k ∷ is) js h = given_right regs ins e is js h.1
given_right regs ins e (AssignItem n x ∷ is) js h = given_right regs ins e is js h
given_right regs ins e (AlwaysItem c ss ∷ is) js h = given_right regs ins e is js h

record CommandGiven (regs e : Env) (k : ℕ) : Type 0 where
  en : e (en_at (suc k)) ≡ regs (en_at (suc k))
  we : e (we_at (suc k)) ≡ regs (we_at (suc k))
  addr : e (addr_at (suc k)) ≡ regs (addr_at (suc k))
  wdata : e (wdata_at (suc k)) ≡ regs (wdata_at (suc k))

command_given : (regs ins e : Env) (b a n k : ℕ) → k < n → n ≤ 3 → AllGiven regs ins e (item_declarations (I.command_regs b a 0 n)) → CommandGiven regs e k
command_given regs ins e b a (suc zero) zero low few h = record { en = h.0; we = h.1.0; addr = h.1.1.0; wdata = h.1.1.1.0 }
command_given regs ins e b a (suc (suc zero)) zero low few h = record { en = h.0; we = h.1.0; addr = h.1.1.0; wdata = h.1.1.1.0 }
command_given regs ins e b a (suc (suc zero)) (suc zero) low few h = record { en = h.1.1.1.1.0; we = h.1.1.1.1.1.0; addr = h.1.1.1.1.1.1.0; wdata = h.1.1.1.1.1.1.1.0 }
command_given regs ins e b a (suc (suc (suc zero))) zero low few h = record { en = h.0; we = h.1.0; addr = h.1.1.0; wdata = h.1.1.1.0 }
command_given regs ins e b a (suc (suc (suc zero))) (suc zero) low few h = record { en = h.1.1.1.1.0; we = h.1.1.1.1.1.0; addr = h.1.1.1.1.1.1.0; wdata = h.1.1.1.1.1.1.1.0 }
command_given regs ins e b a (suc (suc (suc zero))) (suc (suc zero)) low few h = record { en = h.1.1.1.1.1.1.1.1.0; we = h.1.1.1.1.1.1.1.1.1.0; addr = h.1.1.1.1.1.1.1.1.1.1.0; wdata = h.1.1.1.1.1.1.1.1.1.1.1.0 }
command_given regs ins e b a n k low few h = absurd (omega arith)

word_given : (regs ins e : Env) (q : List ℕ) (b n k : ℕ) → k < n → n ≤ 3 → AllGiven regs ins e (item_declarations (I.word_regs q b 0 n)) → e (rdata_at q (suc k)) ≡ regs (rdata_at q (suc k))
word_given regs ins e q b (suc zero) zero low few h = h.0
word_given regs ins e q b (suc (suc zero)) zero low few h = h.0
word_given regs ins e q b (suc (suc zero)) (suc zero) low few h = h.1.0
word_given regs ins e q b (suc (suc (suc zero))) zero low few h = h.0
word_given regs ins e q b (suc (suc (suc zero))) (suc zero) low few h = h.1.0
word_given regs ins e q b (suc (suc (suc zero))) (suc (suc zero)) low few h = h.1.1.0
word_given regs ins e q b n k low few h = absurd (omega arith)

-- ---- from one cycle to the next

module _ (p : Pins) (b a : ℕ) (name : List ℕ) (e ins f : Env) (s : Settles (I.interface name p b a) (next (I.interface name p b a) e) ins f) where
  abbrev mo : ModuleTree
  mo = I.interface name p b a

  abbrev w : List ℕ → ℕ
  w = names_widths (I.interface name p b a)

  abbrev taken : List (List ℕ × ℕ)
  taken = sets w e (statements (I.command_sets 0 p.before))

  abbrev words : List (List ℕ × ℕ)
  words = sets w e (statements (I.word_sets p.rdata 0 p.after))

  next_is : (n : List ℕ) → next mo e n ≡ last_set n words (last_set n taken (e n))
  next_is n = ap (λ (l : List (List ℕ × ℕ)). last_set n l (e n)) (items_set w e p b a) ∙ last_of_both n taken words (e n)

  declared : AllGiven (next mo e) ins f (item_declarations (I.items p b a))
  declared = behind_given (next mo e) ins f (port_declarations (I.ports p b a)) (item_declarations (I.items p b a)) s.given

  of_commands : AllGiven (next mo e) ins f (item_declarations (I.command_regs b a 0 p.before))
  of_commands = given_left (next mo e) ins f (I.command_regs b a 0 p.before) _ declared

  of_words : AllGiven (next mo e) ins f (item_declarations (I.word_regs p.rdata b 0 p.after))
  of_words = given_left (next mo e) ins f (I.word_regs p.rdata b 0 p.after) (I.drives p a ++ I.ends p) (given_right (next mo e) ins f (I.command_regs b a 0 p.before) _ declared)

  pub command_goes_on : (k : ℕ) → k < p.before → p.before ≤ 3 → e test ≡ 1 → command_at (suc k) f ≡ command_at k e
  command_goes_on k low few on =
      let given = command_given (next mo e) ins f b a p.before k low few of_commands in
      let takes = command_takes w e p.before k low few in
      let left = λ (n : List ℕ) (apart : (j : ℕ) → bytes_eq n (rdata_at p.rdata (suc j)) ≡ false). next_is n ∙ words_leave w e p.rdata n apart 0 p.after (last_set n taken (e n)) in
      let en : f (en_at (suc k)) ≡ e (en_at k) =
      given.en ∙ left (en_at (suc k)) (λ j. refl) ∙ takes.en (e (en_at (suc k))) ∙ ap (λ (v : ℕ). cond (truth v) (e (en_at k)) 0) on in
      let we : f (we_at (suc k)) ≡ e (we_at k) = given.we ∙ left (we_at (suc k)) (λ j. refl) ∙ takes.we (e (we_at (suc k))) in
      let addr : f (addr_at (suc k)) ≡ e (addr_at k) = given.addr ∙ left (addr_at (suc k)) (λ j. refl) ∙ takes.addr (e (addr_at (suc k))) in
      let wdata : f (wdata_at (suc k)) ≡ e (wdata_at k) = given.wdata ∙ left (wdata_at (suc k)) (λ j. refl) ∙ takes.wdata (e (wdata_at (suc k))) in
      same en we addr wdata
    where
      same : {x x' y y' z z' u u' : ℕ} → x ≡ x' → y ≡ y' → z ≡ z' → u ≡ u'
          → ◌≡◌ {A = Asked} (record { en = truth x; we = truth y; addr = z; wdata = u }) (record { en = truth x'; we = truth y'; addr = z'; wdata = u' })
      same {x} {x'} {y} {y'} {z} {z'} {u} {u'} h i j l =
          ap (λ (v : ℕ). record { en = truth v; we = truth y; addr = z; wdata = u }) h
          ∙ ap (λ (v : ℕ). record { en = truth x'; we = truth v; addr = z; wdata = u }) i
          ∙ ap (λ (v : ℕ). record { en = truth x'; we = truth y'; addr = v; wdata = u }) j
          ∙ ap (λ (v : ℕ). record { en = truth x'; we = truth y'; addr = z'; wdata = v }) l

  -- behind a cycle of use no register commands
  pub none_goes_on : (k : ℕ) → k < p.before → p.before ≤ 3 → e test ≡ 0 → f (en_at (suc k)) ≡ 0
  none_goes_on k low few off =
      let given = command_given (next mo e) ins f b a p.before k low few of_commands in
      let takes = command_takes w e p.before k low few in
      given.en ∙ next_is (en_at (suc k)) ∙ words_leave w e p.rdata (en_at (suc k)) (λ j. refl) 0 p.after (last_set (en_at (suc k)) taken (e (en_at (suc k))))
      ∙ takes.en (e (en_at (suc k))) ∙ ap (λ (v : ℕ). cond (truth v) (e (en_at k)) 0) off

  pub word_goes_on : (k : ℕ) → k < p.after → p.after ≤ 3 → f (rdata_at p.rdata (suc k)) ≡ e (rdata_at p.rdata k)
  word_goes_on k low few =
      let n : List ℕ = rdata_at p.rdata (suc k) in
      word_given (next mo e) ins f p.rdata b p.after k low few of_words ∙ next_is n
      ∙ word_takes w e p.rdata p.after k (last_set n taken (e n)) low few
