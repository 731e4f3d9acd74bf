-- One cycle of the module is one step of the controller.
use Rattle.std.proofs.Common.{◌≡◌, ◌≢◌, ℕ, zero, suc, ◌+◌, ◌-◌, ◌^◌, ◌<◌, ◌≤◌, Bool, true, false, cond, not, nat_eq, nat_le, List, [], ◌∷◌, ◌++◌, length, map, refl, sym, ap, ◌∙◌, subst, arith, inl, inr}
use Rattle.std.specs.Prelude.{slice_index_or}
use Rattle.std.proofs.lemmas.Bool.{ltb-false}
use Rattle.std.proofs.lemmas.Bool.Decides.{eqb_tells, leb_tells}
use Rattle.verilog_tree.specs.Plain.{Expression, Net, Infixed, statements}
use Rattle.verilog_tree.specs.declared.tree.BinOp.TheVariants.{Ne}
use Rattle.verilog_tree.specs.Names.{declared_width, width_of}
use Rattle.verilog_tree.specs.Meaning.{Env, bit, truth, value, width, names_widths, Settles, sets, last_set, next}
use Rattle.rtl_layout.specs.Build.{lit, choose, rotated, counted, number_of}
use Rattle.rtl_layout.specs.declared.element.PlanOperation.{PlanOperation}
use Rattle.rtl_layout.specs.Plan.{Element, Plan, several, several_bits, port_word, limit, is_single}
use Rattle.rtl_layout.specs.Layout.{reset, rdata, oper, visit, element, back, run, want, bad, writes, ones, ends, write, down, pause, one, ends_more, ends_again, ends_next, pause_next, last_oper, last_visit, last_element, last_back, live, pattern, word, reads_at, over_at, value_at, back_at, aged, row_width, by_element, by_next, flag_row, in_row, pattern_of, word_of, end_sets, self_test, feed_reads, feed_over}
use Rattle.rtl_layout.specs.Layout as L
use Rattle.rtl_layout.specs.Control.{Stage, Control, nothing, idle, element_at, background_at, operation_at, word_at, here, operation, is_live, now, ends_oper, ends_visit, ends_element, ends_back, turned, all, step, oldest, younger}
use Rattle.rtl_layout.specs.Shows.{Ready, Sized}
use Rattle.rtl_layout.specs.inner.Shows.{ShowsStages, BacksIn, Shows}
use Rattle.rtl_layout.proofs.Choice.{pick_of, leaf_map, length_map, below_wide}
use Rattle.rtl_layout.proofs.Rows.{bit_in_is, length_rotated, rotated_at}
use Rattle.rtl_layout.proofs.Words.{complemented}
use Rattle.rtl_layout.proofs.Legal.{pattern_at}
use Rattle.rtl_layout.proofs.Whole.{all_names}
use Rattle.rtl_layout.proofs.Counter.{truth_bit, by_bit, on_zero, all_hold, step_while_is, and_bit, and_then, not_equal, counter_is, turned_in}
use Rattle.rtl_layout.proofs.Stages.{ages_held, last_held, Leaves, Feeds, ages_take, last_takes, oldest_feeds}
use Rattle.rtl_layout.proofs.Turn as T

bit_choice : (t : Bool) (a b : Bool) → cond t (bit a) (bit b) ≡ bit (cond t a b)
bit_choice true a b = refl
bit_choice false a b = refl

-- the digits stay in range
oper_stays : (f : ℕ → ℕ) → ((k : ℕ) → 0 < f k) → (r t u : Bool) (o k x : ℕ) → o < f k → (t ≡ false → o ≢ f k - 1) → cond (all (r ∷ [])) (turned t o) o < f (cond (all (r ∷ t ∷ u ∷ [])) x k)
oper_stays f some false t u o k x h e = h
oper_stays f some true true false o k x h e = some k
oper_stays f some true true true o k x h e = some x
oper_stays f some true false u o k x h e = let ne = e refl in omega arith

visit_stays : (f : ℕ → ℕ) → ((k : ℕ) → 0 < f k) → (r t u : Bool) (v k x : ℕ) → v < f k → (u ≡ false → v ≢ f k - 1) → cond (all (r ∷ t ∷ [])) (turned u v) v < f (cond (all (r ∷ t ∷ u ∷ [])) x k)
visit_stays f some false t u v k x h e = h
visit_stays f some true false u v k x h e = h
visit_stays f some true true false v k x h e = let ne = e refl in omega arith
visit_stays f some true true true v k x h e = some x

-- ---- which digits are at their last in the next place

same_test : (a b c d : ℕ) → (a ≡ b → c ≡ d) → (c ≡ d → a ≡ b) → nat_eq a b ≡ nat_eq c d
same_test a b c d there back =
    elim (eqb_tells a b) [
      | inl q ↦ elim (eqb_tells c d) [ inl r ↦ q.0 ∙ sym r.0 | inr r ↦ absurd (r.1 (there q.1)) ]
      | inr q ↦ elim (eqb_tells c d) [ inl r ↦ absurd (q.1 (back r.1)) | inr r ↦ q.0 ∙ sym r.0 ]
    ]

-- the first of n is the last where n is 1, and one more is the last where this is the last but one
pub first_last : (n : ℕ) → 0 < n → nat_eq n 1 ≡ nat_eq 0 (n - 1)
first_last n h = same_test n 1 0 (n - 1) (λ e. omega arith) (λ e. omega arith)

more_last : (k n : ℕ) → k < n → k ≢ n - 1 → nat_eq k (n - 2) ≡ nat_eq (k + 1) (n - 1)
more_last k n h ne = same_test k (n - 2) (k + 1) (n - 1) (λ e. omega arith) (λ e. omega arith)

more_within : (k n : ℕ) → k < n → k ≢ n - 1 → nat_le n (k + 2) ≡ nat_eq (k + 1) (n - 1)
more_within k n h ne =
    elim (leb_tells n (k + 2)) [
      | inl q ↦ let l = q.1 in elim (eqb_tells (k + 1) (n - 1)) [ inl r ↦ q.0 ∙ sym r.0 | inr r ↦ let u = r.1 in absurd (omega arith) ]
      | inr q ↦ let l = q.1 in elim (eqb_tells (k + 1) (n - 1)) [ inl r ↦ let u = r.1 in absurd (omega arith) | inr r ↦ q.0 ∙ sym r.0 ]
    ]

any_default : {A : Type 0} (xs : List A) (k : ℕ) (d d' : A) → k < length xs → slice_index_or xs k d ≡ slice_index_or xs k d'
any_default [] k d d' h = absurd (omega arith)
any_default (x ∷ xs) zero d d' h = refl
any_default (x ∷ xs) (suc k) d d' h = any_default xs k d d' (omega arith)

-- what an operation has, at the places that can come next
operation_turns : (g : ℕ → ℕ → Bool) (r t u : Bool) (o k x m : ℕ) → (t ≡ false → m ≡ bit (g k (o + 1)))
    → cond (all (r ∷ [])) (cond t (cond u (bit (g x 0)) (bit (g k 0))) m) (bit (g k o)) ≡ bit (g (cond (all (r ∷ t ∷ u ∷ [])) x k) (cond (all (r ∷ [])) (turned t o) o))
operation_turns g false t u o k x m h = refl
operation_turns g true true true o k x m h = refl
operation_turns g true true false o k x m h = refl
operation_turns g true false u o k x m h = h refl

oper_ends : (f : ℕ → ℕ) → ((k : ℕ) → 0 < f k) → (r t u : Bool) (o k x : ℕ) → o < f k → t ≡ nat_eq o (f k - 1)
    → cond (all (r ∷ [])) (cond t (cond u (bit (nat_eq (f x) 1)) (bit (nat_eq (f k) 1))) (bit (nat_le (f k) (o + 2)))) (bit t)
    ≡ bit (nat_eq (cond (all (r ∷ [])) (turned t o) o) (f (cond (all (r ∷ t ∷ u ∷ [])) x k) - 1))
oper_ends f some false t u o k x h e = ap bit e
oper_ends f some true true false o k x h e = ap bit (first_last (f k) (some k))
oper_ends f some true true true o k x h e = ap bit (first_last (f x) (some x))
oper_ends f some true false u o k x h e = ap bit (more_within o (f k) h (not_equal o (f k - 1) (sym e)))

visit_ends : (f : ℕ → ℕ) → ((k : ℕ) → 0 < f k) → (r t u : Bool) (v k x : ℕ) → v < f k → u ≡ nat_eq v (f k - 1)
    → cond (all (r ∷ t ∷ [])) (cond u (bit (nat_eq (f x) 1)) (bit (nat_eq v (f k - 2)))) (bit u)
    ≡ bit (nat_eq (cond (all (r ∷ t ∷ [])) (turned u v) v) (f (cond (all (r ∷ t ∷ u ∷ [])) x k) - 1))
visit_ends f some false t u v k x h e = ap bit e
visit_ends f some true false u v k x h e = ap bit e
visit_ends f some true true true v k x h e = ap bit (first_last (f x) (some x))
visit_ends f some true true false v k x h e = ap bit (more_last v (f k) h (not_equal v (f k - 1) (sym e)))

-- the bit that an element begins with
pub begins : (p : Plan) → Ready p → (k : ℕ) → L.begins_one (element_at p k) ≡ (operation_at p k 0).bit
begins p ready k = ap (λ (o : PlanOperation). o.bit) (any_default (element_at p k).operations 0 _ idle (ready.has_operation k))

-- ---- the word of a background and a value

module _ (p : Plan) (ready : Ready p) (sized : Sized p) (ws : List ℕ → ℕ) (e : Env) where
  pattern_wide : (k : List ℕ) → width ws (pattern_of p k) ≡ p.bits
  pattern_wide k =
      let l = length_map (λ b. lit p.bits (port_word p false b)) p.backgrounds in
      let some = ready.has_background in
      below_wide ws k p.back_width p.bits p.back_width (map (λ b. lit p.bits (port_word p false b)) p.backgrounds) (omega arith)
      (λ j h. ap (width ws) (leaf_map (λ b. lit p.bits (port_word p false b)) 0 p.backgrounds j (omega arith)))

  pattern_word : (k : List ℕ) (b : ℕ) → e k ≡ b → b < length p.backgrounds → value ws e (pattern_of p k) ≡ port_word p false (background_at p b)
  pattern_word k b h l = pick_of ws e k p.back_width (λ c. lit p.bits (port_word p false c)) 0 p.backgrounds b ready.backgrounds_fit h l

  word_is : (v : List ℕ) (x : Expression) (b : ℕ) (t : Bool) → width ws x ≡ p.bits → value ws e x ≡ port_word p false (background_at p b) → b < length p.backgrounds → e v ≡ bit t → value ws e (word_of v x) ≡ word_at p b t
  word_is v x b t wide is l g =
      by_bit t (e v) _ _ g
      ∙ elim t as (λ u. cond u (2 ^ width ws x - 1 - value ws e x) (value ws e x) ≡ word_at p b u) [
        | true ↦ ap (λ k. 2 ^ k - 1 - value ws e x) wide ∙ ap (λ k. 2 ^ p.bits - 1 - k) is ∙ complemented p sized (background_at p b) (sized.grounds_fit b l)
        | false ↦ is
      ]

  -- of names alone
  pub aged_word : (k v : List ℕ) (b : ℕ) (t : Bool) → e k ≡ b → b < length p.backgrounds → e v ≡ bit t → value ws e (word_of v (pattern_of p k)) ≡ word_at p b t
  aged_word k v b t h l g = word_is v (pattern_of p k) b t (pattern_wide k) (pattern_word k b h l) l g

  pub wire_word : (k v n : List ℕ) (b : ℕ) (t : Bool) → ws n ≡ p.bits → e n ≡ value ws e (pattern_of p k) → e k ≡ b → b < length p.backgrounds → e v ≡ bit t → value ws e (word_of v (Net n)) ≡ word_at p b t
  wire_word k v n b t wide is h l g = word_is v (Net n) b t wide (is ∙ pattern_word k b h l) l g

-- ---- the tables

module _ (p : Plan) (ready : Ready p) (ws : List ℕ → ℕ) (e : Env) where
  module _ (c : Control) (oper_is : e oper ≡ c.oper) (element_is : e element ≡ c.element) (oper_in : c.oper < length (here p c).operations) (element_in : c.element < length p.elements) where
    pub by_element_is : (s : ℕ) (f : Element → ℕ) → value ws e (by_element p s f) ≡ f (here p c)
    by_element_is s f = pick_of ws e element p.element_width (λ (x : Element). lit s (f x)) nothing p.elements c.element ready.elements_fit element_is element_in

    pub by_next_is : (f : Element → ℕ) → value ws e (by_next p f) ≡ f (element_at p (turned (ends_element p c) c.element))
    by_next_is f =
        let l = length_rotated p.elements in
        let fits = ready.elements_fit in
        pick_of ws e element p.element_width (λ (x : Element). lit 1 (f x)) nothing (rotated p.elements) c.element (omega arith) element_is (omega arith)
        ∙ ap f (rotated_at p.elements c.element nothing element_in)

    pub in_row_is : (row : List ℕ) (f : Element → ℕ → Bool) → e row ≡ value ws e (flag_row p f) → value ws e (in_row p row) ≡ bit (f (here p c) c.oper)
    in_row_is row f is =
        let fits = ready.operations_fit c.element in
        bit_in_is ws e row oper p.oper_width (f (here p c)) c.oper (is ∙ by_element_is (row_width p) (λ x. number_of (map (f x) (counted (row_width p))))) oper_is (omega arith)

backs_younger : (k : ℕ) (s : Stage) (ss : List Stage) → s.back < k → BacksIn k ss → BacksIn k (younger s ss)
backs_younger k s [] h b = tt
backs_younger k s (t ∷ ts) h b = (h, backs_younger k t ts b.0 b.1)

back_oldest : (k : ℕ) (s : Stage) (ss : List Stage) → s.back < k → BacksIn k ss → (oldest s ss).back < k
back_oldest k s [] h b = h
back_oldest k s (t ∷ ts) h b = back_oldest k t ts b.0 b.1

length_younger : (s : Stage) (ss : List Stage) → length (younger s ss) ≡ length ss
length_younger s [] = refl
length_younger s (t ∷ ts) = ap suc (length_younger t ts)

-- what the ages are set to is what they show; one background has the number 0
pub ages_shown : (many : Bool) (k i : ℕ) (ss : List Stage) (xs : List (List ℕ × ℕ)) (f : Env) → Leaves many i ss xs → BacksIn k ss → (many ≡ false → k ≤ 1) → (many ≡ false → f back ≡ 0)
    → ((n : List ℕ) → (old : ℕ) × (f n ≡ last_set n xs old)) → ShowsStages many i ss f
ages_shown many k i [] xs f h b one z g = tt
ages_shown true k i (s ∷ ss) xs f h b one z g =
    let r = g (reads_at (suc i)) in
    let o = g (over_at (suc i)) in
    let v = g (value_at (suc i)) in
    let a = g (aged back (suc i)) in (
      record { reads_is = r.1 ∙ h.0 r.0; over_is = o.1 ∙ h.1 o.0; value_is = v.1 ∙ h.2 v.0; back_is = a.1 ∙ h.3 refl a.0 },
      ages_shown true k (suc i) ss xs f h.4 b.1 one z g,
    )
ages_shown false k i (s ∷ ss) xs f h b one z g =
    let r = g (reads_at (suc i)) in
    let o = g (over_at (suc i)) in
    let v = g (value_at (suc i)) in
    let l = one refl in
    let q = b.0 in
    let lone : 0 ≡ s.back = omega arith in (
      record { reads_is = r.1 ∙ h.0 r.0; over_is = o.1 ∙ h.1 o.0; value_is = v.1 ∙ h.2 v.0; back_is = z refl ∙ lone },
      ages_shown false k (suc i) ss xs f h.4 b.1 one z g,
    )

module _ (p : Plan) (ready : Ready p) (sized : Sized p) (regs ins e : Env) (s : Settles (self_test p) regs ins e) (c : Control) (sh : Shows p c regs) where
  abbrev ws : List ℕ → ℕ
  ws = names_widths (self_test p)

  pub is_oper : e oper ≡ c.oper
  is_oper = T.oper_held p regs ins e s ∙ sh.oper_is

  pub is_visit : e visit ≡ c.visit
  is_visit = T.visit_held p regs ins e s ∙ sh.visit_is

  pub is_element : e element ≡ c.element
  is_element = T.element_held p regs ins e s ∙ sh.element_is

  pub is_back : e back ≡ c.back
  is_back = T.back_held p regs ins e s ∙ sh.back_is

  pub is_run : e run ≡ bit c.run
  is_run = T.run_held p regs ins e s ∙ sh.run_is

  element_tells : (n : ℕ) (f : Element → ℕ) → value ws e (by_element p n f) ≡ f (here p c)
  element_tells = by_element_is p ready ws e c is_oper is_element sh.oper_in sh.element_in

  next_tells : (f : Element → ℕ) → value ws e (by_next p f) ≡ f (element_at p (turned (ends_element p c) c.element))
  next_tells = by_next_is p ready ws e c is_oper is_element sh.oper_in sh.element_in

  row_tells : (row : List ℕ) (f : Element → ℕ → Bool) → e row ≡ value ws e (flag_row p f) → value ws e (in_row p row) ≡ bit (f (here p c) c.oper)
  row_tells = in_row_is p ready ws e c is_oper is_element sh.oper_in sh.element_in

  operation_told : L.operation_in (here p c) c.oper ≡ operation p c
  operation_told = any_default (here p c).operations c.oper _ idle sh.oper_in

  pub is_write : e write ≡ bit (operation p c).write
  is_write =
      T.write_is p regs ins e s
      ∙ row_tells writes L.writes_at (T.writes_is p regs ins e s)
      ∙ ap (λ (o : PlanOperation). bit o.write) operation_told

  pub is_value : e L.value ≡ bit (operation p c).bit
  is_value = T.value_is p regs ins e s ∙ held_or_told (several_bits p) refl
    where
      held_or_told : (t : Bool) → several_bits p ≡ t → value ws e (cond t (Net one) (in_row p ones)) ≡ bit (operation p c).bit
      held_or_told true h = T.one_held p regs ins e s h ∙ sh.one_is h
      held_or_told false h =
          row_tells ones (L.ones_row p) (T.ones_is p regs ins e s)
          ∙ ap (λ t. bit (cond t L.one_behind L.one_at (here p c) c.oper)) h
          ∙ ap (λ (o : PlanOperation). bit o.bit) operation_told

  pub is_down : e down ≡ bit (here p c).down
  is_down = T.down_is p regs ins e s ∙ element_tells 1 (λ x. bit x.down)

  pub is_pause : e pause ≡ bit (here p c).pause
  is_pause = T.pause_is p regs ins e s ∙ element_tells 1 (λ x. bit x.pause)

  pub is_last_oper : e last_oper ≡ bit (ends_oper p c)
  is_last_oper = T.last_oper_held p regs ins e s ∙ sh.last_oper_is

  pub is_last_visit : e last_visit ≡ bit (ends_visit p c)
  is_last_visit = T.last_visit_held p regs ins e s ∙ sh.last_visit_is

  abbrev next_element : Element
  next_element = element_at p (turned (ends_element p c) c.element)

  is_ends_more : e ends_more ≡ bit (nat_le (length (here p c).operations) (c.oper + 2))
  is_ends_more = T.ends_more_is p regs ins e s ∙ row_tells ends L.ends_behind (T.ends_is p regs ins e s)

  is_ends_again : e ends_again ≡ bit (is_single (here p c))
  is_ends_again = T.ends_again_is p regs ins e s ∙ element_tells 1 (λ x. bit (is_single x))

  is_ends_next : e ends_next ≡ bit (is_single next_element)
  is_ends_next = T.ends_next_is p regs ins e s ∙ next_tells (λ x. bit (is_single x))

  -- the bit of the operation of a place
  abbrev bit_at : ℕ → ℕ → Bool
  bit_at k o = (operation_at p k o).bit

  is_one_more : several_bits p ≡ true → ends_oper p c ≡ false → value ws e (in_row p ones) ≡ bit (bit_at c.element (c.oper + 1))
  is_one_more wide h =
      let ne = not_equal c.oper (length (here p c).operations - 1) h in
      let l = sh.oper_in in
      row_tells ones (L.ones_row p) (T.ones_is p regs ins e s)
      ∙ ap (λ t. bit (cond t L.one_behind L.one_at (here p c) c.oper)) wide
      ∙ ap (λ (o : PlanOperation). bit o.bit) (any_default (here p c).operations (c.oper + 1) _ idle (omega arith))

  is_one_again : value ws e (by_element p 1 (λ x. bit (L.begins_one x))) ≡ bit (bit_at c.element 0)
  is_one_again = element_tells 1 (λ x. bit (L.begins_one x)) ∙ ap bit (begins p ready c.element)

  is_one_next : value ws e (by_next p (λ x. bit (L.begins_one x))) ≡ bit (bit_at (turned (ends_element p c) c.element) 0)
  is_one_next = next_tells (λ x. bit (L.begins_one x)) ∙ ap bit (begins p ready (turned (ends_element p c) c.element))

  is_pause_next : e pause_next ≡ bit next_element.pause
  is_pause_next = T.pause_next_is p regs ins e s ∙ next_tells (λ x. bit x.pause)

  visit_more : value ws e (L.visit_ends_more p) ≡ bit (nat_eq c.visit (limit p (here p c) - 2))
  visit_more =
      ap (λ v. bit (nat_eq v (cond (truth (e pause)) (p.pause - 2) (p.words - 2)))) is_visit
      ∙ ap (λ v. bit (nat_eq c.visit v)) (by_bit (here p c).pause (e pause) (p.pause - 2) (p.words - 2) is_pause ∙ less (here p c).pause)
    where
      less : (t : Bool) → cond t (p.pause - 2) (p.words - 2) ≡ cond t p.pause p.words - 2
      less true = refl
      less false = refl

  visit_next : value ws e (L.visit_ends_next p) ≡ bit (nat_eq (limit p next_element) 1)
  visit_next = by_bit next_element.pause (e pause_next) (bit (nat_eq p.pause 1)) (bit (nat_eq p.words 1)) is_pause_next ∙ once next_element.pause
    where
      once : (t : Bool) → cond t (bit (nat_eq p.pause 1)) (bit (nat_eq p.words 1)) ≡ bit (nat_eq (cond t p.pause p.words) 1)
      once true = refl
      once false = refl

  -- the word of the place
  pattern_width : ws pattern ≡ p.bits
  pattern_width = ap (λ l. width_of l pattern) (all_names p ready sized) ∙ ap declared_width (pattern_at p).found

  pub word_for : (b : ℕ) (t : Bool) → e back ≡ b → b < length p.backgrounds → e L.value ≡ bit t → e word ≡ word_at p b t
  word_for b t h l g = T.word_is p regs ins e s ∙ wire_word p ready sized ws e back L.value pattern b t pattern_width (T.pattern_is p regs ins e s) h l g

  pub is_last_element : e last_element ≡ bit (ends_element p c)
  is_last_element = T.last_element_is p regs ins e s ∙ ap (λ v. bit (nat_eq v (length p.elements - 1))) is_element

  pub is_last_back : e last_back ≡ bit (ends_back p c)
  is_last_back = T.last_back_is p regs ins e s ∙ ap (λ v. bit (nat_eq v (length p.backgrounds - 1))) is_back

  pub is_live_here : e live ≡ bit (is_live p c)
  is_live_here = T.live_is p regs ins e s ∙ by_bit (here p c).pause (e pause) 0 (e run) is_pause ∙ ap (λ v. cond (here p c).pause 0 v) is_run ∙ bit_choice (here p c).pause false c.run

  -- what goes to age 1
  pub feeds_now : Feeds ws e (several p) 0 (now p c)
  feeds_now = record {
    reads_fed = by_bit (operation p c).write (e write) 0 (e live) is_write ∙ ap (λ v. cond (operation p c).write 0 v) is_live_here ∙ bit_choice (operation p c).write false (is_live p c);
    over_fed = ap (λ v. bit (not (truth v))) is_run ∙ ap (λ t. bit (not t)) (truth_bit c.run);
    value_fed = is_value;
    back_fed = is_back;
  }

  pub ages : ShowsStages (several p) 0 c.stages e
  ages = ages_held regs ins e (several p) p.back_width 0 c.stages (L.items_after p) (T.back_held p regs ins e s)
      (subst (λ k. T.AgesGiven p regs ins e k) (sym sh.stages_count) (T.ages_given p regs ins e s)) sh.stages_are

  -- all digits at their last
  hold_1 : all_hold ws e (Net run ∷ []) ≡ all (c.run ∷ [])
  hold_1 = and_bit c.run (e run) true true is_run refl

  hold_2 : all_hold ws e (Net run ∷ Net last_oper ∷ []) ≡ all (c.run ∷ ends_oper p c ∷ [])
  hold_2 = and_bit c.run (e run) _ _ is_run (and_bit (ends_oper p c) (e last_oper) true true is_last_oper refl)

  hold_3 : all_hold ws e (Net run ∷ Net last_oper ∷ Net last_visit ∷ []) ≡ all (c.run ∷ ends_oper p c ∷ ends_visit p c ∷ [])
  hold_3 = and_bit c.run (e run) _ _ is_run (and_bit (ends_oper p c) (e last_oper) _ _ is_last_oper (and_bit (ends_visit p c) (e last_visit) true true is_last_visit refl))

  hold_4 : all_hold ws e (Net run ∷ Net last_oper ∷ Net last_visit ∷ Net last_element ∷ []) ≡ all (c.run ∷ ends_oper p c ∷ ends_visit p c ∷ ends_element p c ∷ [])
  hold_4 = and_bit c.run (e run) _ _ is_run (and_bit (ends_oper p c) (e last_oper) _ _ is_last_oper (and_bit (ends_visit p c) (e last_visit) _ _ is_last_visit (and_bit (ends_element p c) (e last_element) true true is_last_element refl)))

  hold_5 : all_hold ws e (Net run ∷ Net last_oper ∷ Net last_visit ∷ Net last_element ∷ Net last_back ∷ []) ≡ all (c.run ∷ ends_oper p c ∷ ends_visit p c ∷ ends_element p c ∷ ends_back p c ∷ [])
  hold_5 = and_bit c.run (e run) _ _ is_run (and_bit (ends_oper p c) (e last_oper) _ _ is_last_oper (and_bit (ends_visit p c) (e last_visit) _ _ is_last_visit (and_bit (ends_element p c) (e last_element) _ _ is_last_element (and_bit (ends_back p c) (e last_back) true true is_last_back refl))))

  module _ (z : ins reset ≡ 0) where
    no_reset : e reset ≡ 0
    no_reset = T.reset_in p regs ins e s ∙ z

    pub oper_goes : next (self_test p) e oper ≡ (step p (ins rdata) c).oper
    oper_goes =
        T.next_oper p e
        ∙ counter_is ws e oper p.oper_width (Net run ∷ []) last_oper c.oper (length (here p c).operations - 1) no_reset refl is_oper is_last_oper
        (let h = sh.oper_in in omega arith) (let h = ready.operations_fit c.element in let k = sh.oper_in in omega arith)
        ∙ ap (λ t. cond t (turned (ends_oper p c) c.oper) c.oper) hold_1

    pub visit_goes : next (self_test p) e visit ≡ (step p (ins rdata) c).visit
    visit_goes =
        T.next_visit p e
        ∙ counter_is ws e visit p.visit_width (Net run ∷ Net last_oper ∷ []) last_visit c.visit (limit p (here p c) - 1) no_reset refl is_visit is_last_visit
        (let h = sh.visit_in in omega arith) (limit_fits (here p c).pause)
        ∙ ap (λ t. cond t (turned (ends_visit p c) c.visit) c.visit) hold_2
      where
        limit_fits : (t : Bool) → cond t p.pause p.words - 1 < 2 ^ p.visit_width
        limit_fits true = let a = ready.has_pause in let b = ready.pause_fits in omega arith
        limit_fits false = let a = ready.has_word in let b = ready.words_fit in omega arith

    pub element_goes : next (self_test p) e element ≡ (step p (ins rdata) c).element
    element_goes =
        T.next_element p e
        ∙ counter_is ws e element p.element_width (Net run ∷ Net last_oper ∷ Net last_visit ∷ []) last_element c.element (length p.elements - 1) no_reset refl is_element is_last_element
        (let h = sh.element_in in omega arith) (let h = ready.elements_fit in let k = sh.element_in in omega arith)
        ∙ ap (λ t. cond t (turned (ends_element p c) c.element) c.element) hold_3

    pub back_goes : next (self_test p) e back ≡ (step p (ins rdata) c).back
    back_goes =
        T.next_back p e
        ∙ counter_is ws e back p.back_width (Net run ∷ Net last_oper ∷ Net last_visit ∷ Net last_element ∷ []) last_back c.back (length p.backgrounds - 1) no_reset refl is_back is_last_back
        (let h = sh.back_in in omega arith) (let h = ready.backgrounds_fit in let k = sh.back_in in omega arith)
        ∙ ap (λ t. cond t (turned (ends_back p c) c.back) c.back) hold_4

    -- what the next operation has
    turns : (r : List ℕ) (next again more : Expression) (first : Bool) (a b m h : ℕ) → value ws e next ≡ a → value ws e again ≡ b → value ws e more ≡ m → e r ≡ h
        → value ws e (L.turning r first next again more) ≡ cond (all (c.run ∷ [])) (cond (ends_oper p c) (cond (ends_visit p c) a b) m) h
    turns r next again more first a b m h na aa ma ra =
        let t = ends_oper p c in
        let u = ends_visit p c in
        on_zero (e reset) _ _ no_reset
        ∙ step_while_is ws e (Net run ∷ []) (choose (Net last_oper) (choose (Net last_visit) next again) more) (Net r)
        ∙ ap (λ b. cond b (cond (truth (e last_oper)) (cond (truth (e last_visit)) (value ws e next) (value ws e again)) (value ws e more)) (e r)) hold_1
        ∙ ap (λ v. cond (all (c.run ∷ [])) v (e r))
        (by_bit t (e last_oper) _ _ is_last_oper
        ∙ ap (λ v. cond t v (value ws e more)) (by_bit u (e last_visit) (value ws e next) (value ws e again) is_last_visit ∙ ap (λ v. cond u v (value ws e again)) na ∙ ap (λ v. cond u a v) aa)
        ∙ ap (λ v. cond t (cond u a b) v) ma)
        ∙ ap (λ v. cond (all (c.run ∷ [])) (cond t (cond u a b) m) v) ra

    last_oper_goes : next (self_test p) e last_oper ≡ bit (ends_oper p (step p (ins rdata) c))
    last_oper_goes =
        T.next_last_oper p e
        ∙ turns last_oper (Net ends_next) (Net ends_again) (Net ends_more) (is_single (element_at p 0)) _ _ _ _ is_ends_next is_ends_again is_ends_more is_last_oper
        ∙ oper_ends (λ k. length (element_at p k).operations) ready.has_operation c.run (ends_oper p c) (ends_visit p c) c.oper c.element (turned (ends_element p c) c.element) sh.oper_in refl

    one_goes : several_bits p ≡ true → next (self_test p) e one ≡ bit (operation p (step p (ins rdata) c)).bit
    one_goes wide =
        T.next_one p e wide
        ∙ turns one (by_next p (λ x. bit (L.begins_one x))) (by_element p 1 (λ x. bit (L.begins_one x))) (in_row p ones) (L.begins_one (element_at p 0)) _ _ (value ws e (in_row p ones)) _
        is_one_next is_one_again refl (T.one_held p regs ins e s wide ∙ sh.one_is wide)
        ∙ operation_turns bit_at c.run (ends_oper p c) (ends_visit p c) c.oper c.element (turned (ends_element p c) c.element) (value ws e (in_row p ones)) (is_one_more wide)

    last_visit_goes : next (self_test p) e last_visit ≡ bit (ends_visit p (step p (ins rdata) c))
    last_visit_goes =
        let t = ends_oper p c in
        let u = ends_visit p c in
        T.next_last_visit p e
        ∙ on_zero (e reset) _ _ no_reset
        ∙ step_while_is ws e (Net run ∷ Net last_oper ∷ []) (choose (Net last_visit) (L.visit_ends_next p) (L.visit_ends_more p)) (Net last_visit)
        ∙ ap (λ b. cond b (cond (truth (e last_visit)) (value ws e (L.visit_ends_next p)) (value ws e (L.visit_ends_more p))) (e last_visit)) hold_2
        ∙ ap (λ v. cond (all (c.run ∷ t ∷ [])) v (e last_visit))
        (by_bit u (e last_visit) _ _ is_last_visit
        ∙ ap (λ v. cond u v (value ws e (L.visit_ends_more p))) visit_next
        ∙ ap (λ v. cond u (bit (nat_eq (limit p next_element) 1)) v) visit_more)
        ∙ ap (λ v. cond (all (c.run ∷ t ∷ [])) (cond u (bit (nat_eq (limit p next_element) 1)) (bit (nat_eq c.visit (limit p (here p c) - 2)))) v) is_last_visit
        ∙ visit_ends (λ k. limit p (element_at p k)) (λ k. limit_some (element_at p k).pause) c.run t u c.visit c.element (turned (ends_element p c) c.element) sh.visit_in refl
      where
        limit_some : (t : Bool) → 0 < cond t p.pause p.words
        limit_some true = ready.has_pause
        limit_some false = ready.has_word

    pub run_goes : next (self_test p) e run ≡ bit (step p (ins rdata) c).run
    run_goes =
        T.next_run p e
        ∙ on_zero (e reset) _ _ no_reset
        ∙ step_while_is ws e (Net run ∷ Net last_oper ∷ Net last_visit ∷ Net last_element ∷ Net last_back ∷ []) (lit 1 0) (Net run)
        ∙ ap (λ t. cond t 0 (e run)) hold_5
        ∙ ap (λ v. cond (all (c.run ∷ ends_oper p c ∷ ends_visit p c ∷ ends_element p c ∷ ends_back p c ∷ [])) 0 v) is_run
        ∙ bit_choice (all (c.run ∷ ends_oper p c ∷ ends_visit p c ∷ ends_element p c ∷ ends_back p c ∷ [])) false c.run

    -- what feeds the last age
    old_feeds : Feeds ws e (several p) p.delay (oldest (now p c) c.stages)
    old_feeds = oldest_feeds ws e p.back_width (end_sets p) (T.ends_clear p e) (several p) 0 p.delay (now p c) c.stages (let n = sh.stages_count in omega arith) feeds_now ages

    pub last_is : (e (reads_at (suc p.delay)) ≡ regs (reads_at (suc p.delay))) × (e (over_at (suc p.delay)) ≡ regs (over_at (suc p.delay)))
    last_is = last_held regs ins e (several p) p.back_width 0 p.delay p.delay (L.items_after p) (omega arith) (T.ages_given p regs ins e s)

    pub want_goes : next (self_test p) e want ≡ (step p (ins rdata) c).want
    want_goes =
        let o = oldest (now p c) c.stages in
        let low = back_oldest (length p.backgrounds) (now p c) c.stages sh.back_in sh.backs_in in
        let aged = word_of (value_at p.delay) (pattern_of p (back_at (several p) p.delay)) in
        T.next_want p e
        ∙ elim (eqb_tells p.delay 0) [
          | inl q ↦
              let f : Feeds ws e (several p) 0 o = subst (λ (i : ℕ). Feeds ws e (several p) i o) q.1 old_feeds in
              ap (λ t. value ws e (cond t (Net word) aged)) q.0 ∙ word_for o.back o.value f.back_fed low f.value_fed
          | inr q ↦
              ap (λ t. value ws e (cond t (Net word) aged)) q.0
              ∙ aged_word p ready sized ws e (back_at (several p) p.delay) (value_at p.delay) o.back o.value old_feeds.back_fed low old_feeds.value_fed
        ]

    pub bad_goes : next (self_test p) e bad ≡ bit (step p (ins rdata) c).bad
    bad_goes =
        let cs = Net (reads_at (suc p.delay)) ∷ Infixed Ne (Net rdata) (Net want) ∷ [] in
        let differ = not (nat_eq (ins rdata) c.want) in
        let both : all_hold ws e cs ≡ all (c.reads ∷ differ ∷ []) =
        and_then c.reads (e (reads_at (suc p.delay))) _ _ (last_is.0 ∙ sh.reads_is)
        (λ h. and_bit differ (bit (not (nat_eq (e rdata) (e want)))) true true
        (ap (λ v. bit (not (nat_eq v (e want)))) (T.rdata_in p regs ins e s) ∙ ap (λ v. bit (not (nat_eq (ins rdata) v))) (T.want_held p regs ins e s ∙ sh.want_is h)) refl) in
        T.next_bad p e
        ∙ on_zero (e reset) _ _ no_reset
        ∙ step_while_is ws e cs (lit 1 1) (Net bad)
        ∙ ap (λ t. cond t 1 (e bad)) both
        ∙ ap (λ v. cond (all (c.reads ∷ differ ∷ [])) 1 v) (T.bad_held p regs ins e s ∙ sh.bad_is)
        ∙ bit_choice (all (c.reads ∷ differ ∷ [])) true c.bad

    -- the pairs that the edge takes, where k ages have a value
    abbrev Lefts : ℕ → Type 0
    Lefts k = (n : List ℕ) → (old : ℕ) × (next (self_test p) e n ≡ last_set n (sets ws e (statements (L.stage_sets (several p) p.back_width 0 k ++ end_sets p))) old)

    lefts : Lefts p.delay
    lefts n = T.next_left p e n

    last_goes : (next (self_test p) e (reads_at (suc p.delay)) ≡ bit (oldest (now p c) c.stages).reads) × (next (self_test p) e (over_at (suc p.delay)) ≡ bit (oldest (now p c) c.stages).over)
    last_goes =
        let q = last_takes ws e p.back_width (end_sets p) (T.ends_clear p e) no_reset (several p) 0 p.delay (now p c) c.stages (let n = sh.stages_count in omega arith) feeds_now ages in
        let l = subst Lefts (sym sh.stages_count) lefts in
        let a = l (reads_at (suc p.delay)) in
        let b = l (over_at (suc p.delay)) in
        (a.1 ∙ q.0 a.0, b.1 ∙ q.1 b.0)

    back_in_range : (step p (ins rdata) c).back < length p.backgrounds
    back_in_range = turned_in (all (c.run ∷ ends_oper p c ∷ ends_visit p c ∷ ends_element p c ∷ [])) c.back (length p.backgrounds) sh.back_in

    ages_go : ShowsStages (several p) 0 (younger (now p c) c.stages) (next (self_test p) e)
    ages_go =
        ages_shown (several p) (length p.backgrounds) 0 (younger (now p c) c.stages) _ (next (self_test p) e)
        (ages_take ws e p.back_width (end_sets p) (T.ends_clear p e) no_reset (several p) 0 (now p c) c.stages feeds_now ages)
        (backs_younger (length p.backgrounds) (now p c) c.stages sh.back_in sh.backs_in)
        (λ h. ltb-false 1 (length p.backgrounds) h)
        (λ h. back_goes ∙ (let l = ltb-false 1 (length p.backgrounds) h in let b = back_in_range in let t : (step p (ins rdata) c).back ≡ 0 = omega arith in t))
        (subst Lefts (sym sh.stages_count) lefts)

    -- the next registers show the next controller
    pub turn : Shows p (step p (ins rdata) c) (next (self_test p) e)
    turn = record {
      oper_is = oper_goes;
      visit_is = visit_goes;
      element_is = element_goes;
      back_is = back_goes;
      run_is = run_goes;
      last_oper_is = last_oper_goes;
      last_visit_is = last_visit_goes;
      one_is = one_goes;
      stages_are = ages_go;
      reads_is = last_goes.0;
      over_is = last_goes.1;
      want_is = λ h. want_goes;
      bad_is = bad_goes;
      stages_count = length_younger (now p c) c.stages ∙ sh.stages_count;
      backs_in = backs_younger (length p.backgrounds) (now p c) c.stages sh.back_in sh.backs_in;
      oper_in = oper_stays (λ k. length (element_at p k).operations) ready.has_operation c.run (ends_oper p c) (ends_visit p c) c.oper c.element (turned (ends_element p c) c.element) sh.oper_in (not_equal c.oper (length (here p c).operations - 1));
      visit_in = visit_stays (λ k. limit p (element_at p k)) (λ k. limit_some (element_at p k).pause) c.run (ends_oper p c) (ends_visit p c) c.visit c.element (turned (ends_element p c) c.element) sh.visit_in (not_equal c.visit (limit p (here p c) - 1));
      element_in = turned_in (all (c.run ∷ ends_oper p c ∷ ends_visit p c ∷ [])) c.element (length p.elements) sh.element_in;
      back_in = back_in_range;
    }
      where
        limit_some : (t : Bool) → 0 < cond t p.pause p.words
        limit_some true = ready.has_pause
        limit_some false = ready.has_word
