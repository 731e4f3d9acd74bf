-- The module can be written as text: its names are legal, and it nests at most 64 deep.
use Rattle.std.proofs.Common.{◌≡◌, ℕ, zero, suc, ◌+◌, ◌-◌, ◌<◌, ◌≤◌, Bool, true, false, cond, ◌&&◌, nat_eq, nat_lt, List, [], ◌∷◌, ◌++◌, length, map, refl, sym, subst, arith, inl, inr}
use Rattle.std.proofs.lemmas.Bool.{lt-ltb, ltb-true, and_parts}
use Rattle.std.proofs.lemmas.Bool.Decides.{eqb_tells}
use Rattle.std.specs.Prelude.{slice_index_or}
use Rattle.verilog_tree.specs.Plain.{Expression, Net, BitSelect, PartSelect, Literal, Concatenation, Prefixed, Infixed, Conditional, Expressions, NoMore, Followed, Statement, SetTo, IfElse, CaseOf, statements, ModuleItem}
use Rattle.verilog_tree.specs.declared.tree.UnOp.TheVariants.{Invert}
use Rattle.verilog_tree.specs.declared.tree.BinOp.TheVariants.{Ne}
use Rattle.verilog_tree.specs.Words.{is_name}
use Rattle.verilog_tree.specs.Formed.{formed}
use Rattle.verilog_tree.specs.Fits.{expression_fits, expressions_fit, statements_fit, item_fits, items_fit, ports_fit, fits}
use Rattle.verilog_tree.specs.Meaning.{bit}
use Rattle.rtl_layout.specs.Build.{lit, choose, bit_of, pick, rotated, counted, number_of, at_reset}
use Rattle.rtl_layout.specs.declared.row.Row.{Row}
use Rattle.rtl_layout.specs.Plan.{Element, Plan, several, several_bits, port_word, is_single}
use Rattle.rtl_layout.specs.Layout as L
use Rattle.rtl_layout.specs.Layout.{stage_regs, stage_sets, items_after, by_element, by_next, in_row, pattern_of, word_of, feed_reads, feed_over, self_test, reads_at, over_at, value_at, back_at, aged}
use Rattle.rtl_layout.specs.Control.{nothing, element_at}
use Rattle.rtl_layout.specs.Shows.{Ready, Sized}
use Rattle.rtl_layout.proofs.Ranked.{pick_has}
use Rattle.std.proofs.lemmas.Nat.{pow_pos}
use Rattle.rtl_layout.proofs.Rows.{length_counted, length_rotated}
use Rattle.rtl_layout.proofs.Forms.{both, is_formed}

also : {A B : Type 0} → A → B → A × B
also a b = (a, b)

also_new : {A B C : Type 0} → A → B → C → A × B × C
also_new a b c = (a, b, c)

-- more openings may be open
mutual
  more : (j k : ℕ) → j ≤ k → (x : Expression) → expression_fits j x ≡ true → expression_fits k x ≡ true
  more j k l (Net n) h = h
  more j k l (BitSelect n i) h = h
  more j k l (PartSelect n i o) h = h
  more j k l (Literal b) h = h
  more j k l (Concatenation xs) h =
      let p = and_parts (nat_lt 0 j) (expressions_fit (j - 1) xs) h in
      let some = ltb-true 0 j p.0 in
      both (nat_lt 0 k) (expressions_fit (k - 1) xs) (lt-ltb 0 k (omega arith)) (more_parts (j - 1) (k - 1) (omega arith) xs p.1)
  more j k l (Prefixed o x) h =
      let p = and_parts (nat_lt 0 j) (expression_fits (j - 1) x) h in
      let some = ltb-true 0 j p.0 in
      both (nat_lt 0 k) (expression_fits (k - 1) x) (lt-ltb 0 k (omega arith)) (more (j - 1) (k - 1) (omega arith) x p.1)
  more j k l (Infixed o x y) h =
      let q = and_parts (nat_lt 0 j && expression_fits (j - 1) x) (expression_fits (j - 1) y) h in
      let p = and_parts (nat_lt 0 j) (expression_fits (j - 1) x) q.0 in
      let some = ltb-true 0 j p.0 in
      both (nat_lt 0 k && expression_fits (k - 1) x) (expression_fits (k - 1) y) (both (nat_lt 0 k) (expression_fits (k - 1) x) (lt-ltb 0 k (omega arith)) (more (j - 1) (k - 1) (omega arith) x p.1)) (more (j - 1) (k - 1) (omega arith) y q.1)
  more j k l (Conditional c x y) h =
      let r = and_parts (nat_lt 0 j && expression_fits (j - 1) c && expression_fits (j - 1) x) (expression_fits (j - 1) y) h in
      let q = and_parts (nat_lt 0 j && expression_fits (j - 1) c) (expression_fits (j - 1) x) r.0 in
      let p = and_parts (nat_lt 0 j) (expression_fits (j - 1) c) q.0 in
      let some = ltb-true 0 j p.0 in
      both (nat_lt 0 k && expression_fits (k - 1) c && expression_fits (k - 1) x) (expression_fits (k - 1) y)
      (both (nat_lt 0 k && expression_fits (k - 1) c) (expression_fits (k - 1) x) (both (nat_lt 0 k) (expression_fits (k - 1) c) (lt-ltb 0 k (omega arith)) (more (j - 1) (k - 1) (omega arith) c p.1)) (more (j - 1) (k - 1) (omega arith) x q.1))
      (more (j - 1) (k - 1) (omega arith) y r.1)

  more_parts : (j k : ℕ) → j ≤ k → (xs : Expressions) → expressions_fit j xs ≡ true → expressions_fit k xs ≡ true
  more_parts j k l NoMore h = refl
  more_parts j k l (Followed x xs) h =
      let p = and_parts (expression_fits j x) (expressions_fit j xs) h in
      both (expression_fits k x) (expressions_fit k xs) (more j k l x p.0) (more_parts j k l xs p.1)

choose_fits : (k : ℕ) (c x y : Expression) → expression_fits k c ≡ true → expression_fits k x ≡ true → expression_fits k y ≡ true → expression_fits (suc k) (choose c x y) ≡ true
choose_fits k c x y p q r =
    let e : suc k - 1 ≡ k = omega arith in
    subst (λ j. (nat_lt 0 (suc k) && expression_fits j c && expression_fits j x && expression_fits j y) ≡ true) (sym e)
    (both (nat_lt 0 (suc k) && expression_fits k c && expression_fits k x) (expression_fits k y) (both (nat_lt 0 (suc k) && expression_fits k c) (expression_fits k x) (both (nat_lt 0 (suc k)) (expression_fits k c) (lt-ltb 0 (suc k) (omega arith)) p) q) r)

bit_of_fits : (k : ℕ) (n : List ℕ) (v i : ℕ) → is_name n ≡ true → expression_fits k (bit_of n v i) ≡ true
bit_of_fits k n v i h = elim (eqb_tells v 1) [
  | inl q ↦ subst (λ t. expression_fits k (cond t (Net n) (BitSelect n i)) ≡ true) (sym q.0) h
  | inr q ↦ subst (λ t. expression_fits k (cond t (Net n) (BitSelect n i)) ≡ true) (sym q.0) h
]

-- a choice among leaves that nest d deep, on v bits
pick_fits : {A : Type 0} (d : ℕ) (n : List ℕ) (v : ℕ) (f : A → Expression) (o : A) (xs : List A) → is_name n ≡ true → 0 < length xs → ((j : ℕ) → j < length xs → expression_fits d (f (slice_index_or xs j o)) ≡ true) → expression_fits (d + v) (pick n v (map f xs)) ≡ true
pick_fits d n v f o xs h l a =
    pick_has n v (λ i x. expression_fits (d + i) x ≡ true)
    (λ i x u. more (d + i) (d + suc i) (omega arith) x u)
    (λ i x y g p q. let e : suc (d + i) ≡ d + suc i = omega arith in subst (λ k. expression_fits k (choose (bit_of n v i) x y) ≡ true) e (choose_fits (d + i) (bit_of n v i) x y (bit_of_fits (d + i) n v i h) p q))
    f o xs l (λ j g. let e : d ≡ d + 0 = omega arith in subst (λ k. expression_fits k (f (slice_index_or xs j o)) ≡ true) e (a j g))

-- the names of ages
reads_name : (j : ℕ) → j < 4 → is_name (reads_at (suc j)) ≡ true
reads_name (suc (suc (suc (suc j)))) h = absurd (omega arith)
reads_name j h = refl

over_name : (j : ℕ) → j < 4 → is_name (over_at (suc j)) ≡ true
over_name (suc (suc (suc (suc j)))) h = absurd (omega arith)
over_name j h = refl

value_name : (j : ℕ) → j < 4 → is_name (value_at (suc j)) ≡ true
value_name (suc (suc (suc (suc j)))) h = absurd (omega arith)
value_name j h = refl

back_name : (j : ℕ) → j < 4 → is_name (aged L.back (suc j)) ≡ true
back_name (suc (suc (suc (suc j)))) h = absurd (omega arith)
back_name j h = refl

abbrev Fit : ℕ → Expression → Type 0
Fit k x = expression_fits k x ≡ true

module _ (p : Plan) (ready : Ready p) (sized : Sized p) (few : p.delay < 4) (element_few : p.element_width ≤ 16) (oper_few : p.oper_width ≤ 16) (back_few : p.back_width ≤ 16) where
  by_element_fits : (s : ℕ) (f : Element → ℕ) → Fit 63 (by_element p s f)
  by_element_fits s f = more (0 + p.element_width) 63 (omega arith) (by_element p s f) (pick_fits 0 L.element p.element_width (λ (x : Element). lit s (f x)) nothing p.elements refl ready.has_element (λ j g. refl))

  row_fits : (f : Element → ℕ → Bool) → Fit 64 (L.flag_row p f)
  row_fits f = more 63 64 (omega arith) (L.flag_row p f) (by_element_fits (L.row_width p) (λ x. number_of (map (f x) (counted (L.row_width p)))))

  flag_fits : (k : ℕ) → 16 ≤ k → (f : Element → ℕ) → Fit k (by_element p 1 f)
  flag_fits k l f = more (0 + p.element_width) k (omega arith) (by_element p 1 f) (pick_fits 0 L.element p.element_width (λ (x : Element). lit 1 (f x)) nothing p.elements refl ready.has_element (λ j g. refl))

  by_next_fits : (k : ℕ) → 16 ≤ k → (f : Element → ℕ) → Fit k (by_next p f)
  by_next_fits k l f =
      let m = length_rotated p.elements in
      let some = ready.has_element in
      more (0 + p.element_width) k (omega arith) (by_next p f) (pick_fits 0 L.element p.element_width (λ (x : Element). lit 1 (f x)) nothing (rotated p.elements) refl (omega arith) (λ j g. refl))

  in_row_fits : (k : ℕ) → 16 ≤ k → (row : List ℕ) → is_name row ≡ true → Fit k (in_row p row)
  in_row_fits k l row h =
      let m = length_counted (L.row_width p) in
      let some = pow_pos p.oper_width in
      more (0 + p.oper_width) k (omega arith) (in_row p row)
      (pick_fits 0 L.oper p.oper_width (bit_of row (L.row_width p)) 0 (counted (L.row_width p)) refl (omega arith) (λ j g. bit_of_fits 0 row (L.row_width p) (slice_index_or (counted (L.row_width p)) j 0) h))

  value_now_fits : Fit 64 (L.value_now p)
  value_now_fits = elim (several_bits p) as (λ t. Fit 64 (cond t (Net L.one) (in_row p L.ones))) [ true ↦ refl | false ↦ in_row_fits 64 (omega arith) L.ones refl ]

  pattern_fits : (j : ℕ) → 16 ≤ j → (k : List ℕ) → is_name k ≡ true → Fit j (pattern_of p k)
  pattern_fits j l k h = more (0 + p.back_width) j (omega arith) (pattern_of p k) (pick_fits 0 k p.back_width (λ b. lit p.bits (port_word p false b)) 0 p.backgrounds h ready.has_background (λ j l. refl))

  visited_fits : (k : ℕ) → Fit k (L.visited p)
  visited_fits k = elim (eqb_tells p.addr_width p.visit_width) [
    | inl q ↦ subst (λ t. Fit k (cond t (Net L.visit) (PartSelect L.visit (p.addr_width - 1) 0))) (sym q.0) refl
    | inr q ↦ subst (λ t. Fit k (cond t (Net L.visit) (PartSelect L.visit (p.addr_width - 1) 0))) (sym q.0) refl
  ]

  rows_fit : (rs : List Row) (xs : Expressions) → expressions_fit 63 xs ≡ true → expressions_fit 63 (L.address_bits p rs xs) ≡ true
  rows_fit [] xs h = h
  rows_fit (r ∷ rs) xs h = rows_fit rs (Followed (L.row_bit p.addr_width r) xs) h

  address_fits : Fit 64 (L.address p)
  address_fits = elim p.straight as (λ t. Fit 64 (cond t (Net L.index) (Concatenation (L.address_bits p p.rows NoMore)))) [ true ↦ refl | false ↦ rows_fit p.rows NoMore refl ]

  abbrev SetsFit : List Statement → Type 0
  SetsFit [] = Unit {0}
  SetsFit (SetTo n x ∷ ss) = (is_name n ≡ true) × Fit 63 x × SetsFit ss
  SetsFit (IfElse c a b ∷ ss) = ⊥
  SetsFit (CaseOf x a d ∷ ss) = ⊥

  sets_fit : (ss : List Statement) → SetsFit ss → statements_fit 63 (statements ss) ≡ true
  sets_fit [] h = refl
  sets_fit (SetTo n x ∷ ss) h = both (is_name n && expression_fits 63 x) (statements_fit 63 (statements ss)) (both (is_name n) (expression_fits 63 x) h.0 h.1) (sets_fit ss h.2)
  sets_fit (IfElse c a b ∷ ss) h = absurd h
  sets_fit (CaseOf x a d ∷ ss) h = absurd h

  gated_fits : (w a : ℕ) (x : Expression) → Fit 62 x → Fit 63 (at_reset (lit w a) x)
  gated_fits w a x h = choose_fits 62 (Net L.reset) (lit w a) x refl refl h

  feeds_fit : (i : ℕ) → i < 4 → Fit 62 (feed_reads i) × Fit 62 (feed_over i)
  feeds_fit zero h = (refl, refl)
  feeds_fit (suc i) h = (reads_name i (omega arith), over_name i (omega arith))

  value_fits : (i : ℕ) → i < 4 → Fit 62 (Net (value_at i))
  value_fits zero h = refl
  value_fits (suc i) h = value_name i (omega arith)

  back_fits : (many : Bool) (i : ℕ) → i < 4 → Fit 62 (Net (back_at many i))
  back_fits many zero h = refl
  back_fits true (suc i) h = back_name i (omega arith)
  back_fits false (suc i) h = refl

  stages_fit : (many : Bool) (i n : ℕ) → i + n < 4 → (ss : List Statement) → SetsFit ss → SetsFit (stage_sets many p.back_width i n ++ ss)
  stages_fit many i zero l ss h = (reads_name i (omega arith), gated_fits 1 0 (feed_reads i) ((feeds_fit i (omega arith)).0), (over_name i (omega arith), gated_fits 1 0 (feed_over i) ((feeds_fit i (omega arith)).1), h))
  stages_fit true i (suc n) l ss h = (
    reads_name i (omega arith),
    gated_fits 1 0 (feed_reads i) ((feeds_fit i (omega arith)).0),
    (
      over_name i (omega arith),
      gated_fits 1 0 (feed_over i) ((feeds_fit i (omega arith)).1),
      (
        value_name i (omega arith),
        gated_fits 1 0 (Net (value_at i)) (value_fits i (omega arith)),
        (
          back_name i (omega arith),
          gated_fits p.back_width 0 (Net (back_at true i)) (back_fits true i (omega arith)),
          stages_fit true (suc i) n (omega arith) ss h,
        ),
      ),
    ),
  )
  stages_fit false i (suc n) l ss h = (
    reads_name i (omega arith),
    gated_fits 1 0 (feed_reads i) ((feeds_fit i (omega arith)).0),
    (
      over_name i (omega arith),
      gated_fits 1 0 (feed_over i) ((feeds_fit i (omega arith)).1),
      (
        value_name i (omega arith),
        gated_fits 1 0 (Net (value_at i)) (value_fits i (omega arith)),
        stages_fit false (suc i) n (omega arith) ss h,
      ),
    ),
  )

  -- three tables in one expression
  one_fits : Fit 63 (L.one_next p)
  one_fits =
      let next = by_next p (λ x. bit (L.begins_one x)) in
      let again = by_element p 1 (λ x. bit (L.begins_one x)) in
      let first = choose (Net L.last_visit) next again in
      let ends = choose (Net L.last_oper) first (in_row p L.ones) in
      gated_fits 1 (bit (L.begins_one (element_at p 0))) (choose (Net L.run) ends (Net L.one))
      (choose_fits 61 (Net L.run) ends (Net L.one) refl
      (choose_fits 60 (Net L.last_oper) first (in_row p L.ones) refl
      (choose_fits 59 (Net L.last_visit) next again refl (by_next_fits 59 (omega arith) (λ x. bit (L.begins_one x))) (flag_fits 59 (omega arith) (λ x. bit (L.begins_one x))))
      (in_row_fits 60 (omega arith) L.ones refl)) refl)

  one_set_fits : (wide : Bool) (ss : List Statement) → SetsFit ss → SetsFit (L.one_set p wide ++ ss)
  one_set_fits true ss h = (refl, one_fits, h)
  one_set_fits false ss h = h

  want_fits : Fit 63 (L.want_next p)
  want_fits =
      let x = pattern_of p (back_at (several p) p.delay) in
      let k = back_fits (several p) p.delay few in
      let aged : Fit 63 (word_of (value_at p.delay) x) =
      choose_fits 62 (Net (value_at p.delay)) (Prefixed Invert x) x (value_fits p.delay few) (pattern_fits 61 (omega arith) (back_at (several p) p.delay) k) (pattern_fits 62 (omega arith) (back_at (several p) p.delay) k) in
      elim (nat_eq p.delay 0) as (λ t. Fit 63 (cond t (Net L.word) (word_of (value_at p.delay) x))) [ true ↦ refl | false ↦ aged ]

  block_fits : statements_fit 63 (statements (L.sets_all p)) ≡ true
  block_fits =
      let inner = choose (Infixed Ne (Net L.rdata) (Net L.want)) (lit 1 1) (Net L.bad) in
      sets_fit (L.sets_all p)
      (also_new refl refl
      (also_new refl refl
      (also_new refl refl
      (also_new refl refl
      (also_new refl refl
      (also_new refl refl
      (also_new refl refl
      (one_set_fits (several_bits p) (stage_sets (several p) p.back_width 0 p.delay ++ L.end_sets p)
      (stages_fit (several p) 0 p.delay (omega arith) (L.end_sets p)
      (also_new refl want_fits
      (also_new refl (gated_fits 1 0 (choose (Net (reads_at (suc p.delay))) inner (Net L.bad)) (choose_fits 61 (Net (reads_at (suc p.delay))) inner (Net L.bad) (reads_name p.delay few) refl refl))
      tt)))))))))))

  abbrev ItemsFit : List ModuleItem → Type 0
  ItemsFit [] = Unit {0}
  ItemsFit (i ∷ is) = (item_fits 64 i ≡ true) × ItemsFit is

  all_fit : (is : List ModuleItem) → ItemsFit is → items_fit 64 is ≡ true
  all_fit [] h = refl
  all_fit (i ∷ is) h = both (item_fits 64 i) (items_fit 64 is) h.0 (all_fit is h.1)

  one_item_fits : (wide : Bool) (rest : List ModuleItem) → ItemsFit rest → ItemsFit (L.one_reg wide ++ rest)
  one_item_fits true rest h = (refl, h)
  one_item_fits false rest h = h

  stage_items_fit : (many : Bool) (i n : ℕ) → i + n < 4 → (rest : List ModuleItem) → ItemsFit rest → ItemsFit (stage_regs many p.back_width i n ++ rest)
  stage_items_fit many i zero l rest h = (reads_name i (omega arith), (over_name i (omega arith), h))
  stage_items_fit true i (suc n) l rest h = (reads_name i (omega arith), (over_name i (omega arith), (value_name i (omega arith), (back_name i (omega arith), stage_items_fit true (suc i) n (omega arith) rest h))))
  stage_items_fit false i (suc n) l rest h = (reads_name i (omega arith), (over_name i (omega arith), (value_name i (omega arith), stage_items_fit false (suc i) n (omega arith) rest h)))

  after_fit : ItemsFit (items_after p)
  after_fit =
      also refl
      (also refl
      (also refl
      (also refl
      (also refl
      (also refl
      (also refl
      (also refl
      (also refl
      (also refl
      (also refl
      (also refl
      (also refl
      (also refl
      (also refl
      (also refl
      (also refl
      (also refl
      (also refl
      (also (row_fits L.writes_at)
      (also (row_fits (L.ones_row p))
      (also (row_fits L.ends_behind)
      (also (in_row_fits 64 (omega arith) L.writes refl)
      (also value_now_fits
      (also (flag_fits 64 (omega arith) (λ x. bit x.down))
      (also (flag_fits 64 (omega arith) (λ x. bit x.pause))
      (also (in_row_fits 64 (omega arith) L.ends refl)
      (also (flag_fits 64 (omega arith) (λ x. bit (is_single x)))
      (also (by_next_fits 64 (omega arith) (λ x. bit (is_single x)))
      (also (by_next_fits 64 (omega arith) (λ x. bit x.pause))
      (also refl
      (also refl
      (also refl
      (also (both (expression_fits 62 (L.visited p)) (expression_fits 63 (L.visited p)) (visited_fits 62) (visited_fits 63))
      (also (pattern_fits 64 (omega arith) L.back refl)
      (also refl
      (also refl
      (also refl
      (also address_fits
      (also refl
      (also (over_name p.delay few)
      (also refl
      (also block_fits
      tt))))))))))))))))))))))))))))))))))))))))))

  items_are_fit : items_fit 64 (L.items p) ≡ true
  items_are_fit =
      all_fit (L.items p)
      (also refl
      (also refl
      (also refl
      (also refl
      (also refl
      (also refl
      (also refl
      (one_item_fits (several_bits p) (stage_regs (several p) p.back_width 0 p.delay ++ items_after p) (stage_items_fit (several p) 0 p.delay (omega arith) (items_after p) after_fit)))))))))

  pub all_fits : is_name p.name ≡ true → fits (self_test p) ≡ true
  all_fits n =
      both (formed (self_test p) && is_name p.name && ports_fit (L.ports p)) (items_fit 64 (L.items p))
      (both (formed (self_test p) && is_name p.name) (ports_fit (L.ports p)) (both (formed (self_test p)) (is_name p.name) (is_formed p ready sized) n) refl) items_are_fit
