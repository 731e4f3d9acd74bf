-- No expression of the module has more than 256 operators.
use Rattle.std.proofs.Common.{◌≡◌, ℕ, zero, suc, ◌+◌, ◌-◌, ◌*◌, ◌^◌, ◌<◌, ◌≤◌, Bool, true, false, cond, nat_eq, List, [], ◌∷◌, ◌++◌, Some, length, take, drop, map, refl, sym, ap, ◌∙◌, subst, arith, inl, inr}
use Rattle.std.specs.Prelude.{slice_index_or}
use Rattle.std.proofs.lemmas.Bool.{le-leb}
use Rattle.std.proofs.lemmas.Bool.Decides.{eqb_tells, leb_tells}
use Rattle.std.proofs.lemmas.List.{length-drop}
use Rattle.std.proofs.lemmas.Nat.{pow_pos}
use Rattle.verilog_tree.specs.Free.{operators, all_operators}
use Rattle.verilog_tree.specs.Plain.{Expression, Net, BitSelect, PartSelect, Concatenation, Expressions, NoMore, Followed, Statement, SetTo, IfElse, CaseOf, statements, ModuleItem}
use Rattle.verilog_tree.specs.Meaning.{bit}
use Rattle.verilog_text.specs.Operators.{expression_few, statements_few, item_few, items_few, few_operators}
use Rattle.rtl_layout.specs.Build.{lit, choose, bit_of, leaf, below, pick, rotated, counted, number_of}
use Rattle.rtl_layout.specs.declared.row.Row.{Row}
use Rattle.rtl_layout.specs.Plan.{Element, Plan, several, several_bits, port_word, is_single}
use Rattle.rtl_layout.specs.Layout as L
use Rattle.rtl_layout.specs.Layout.{stage_regs, stage_sets, items_after, by_element, by_next, in_row, pattern_of, word_of, feed_reads, feed_over, value_at, back_at, self_test}
use Rattle.rtl_layout.specs.Control.{nothing}
use Rattle.rtl_layout.specs.Shows.{IsPlan}
use Rattle.rtl_layout.proofs.Choice.{leaf_map, length_map, leaf_drop, leaf_take, length_take}
use Rattle.rtl_layout.proofs.Rows.{length_counted, length_rotated}
use Rattle.rtl_layout.proofs.Forms.{both}

also : {A B : Type 0} → A → B → A × B
also a b = (a, b)

-- ---- choices

bit_of_none : (n : List ℕ) (v i : ℕ) → operators (bit_of n v i) ≡ 0
bit_of_none n v i = elim (eqb_tells v 1) [
  | inl q ↦ ap (λ t. operators (cond t (Net n) (BitSelect n i))) q.0
  | inr q ↦ ap (λ t. operators (cond t (Net n) (BitSelect n i))) q.0
]

-- a choice among leaves without operators has one less than there are leaves
below_few : (n : List ℕ) (w i : ℕ) (xs : List Expression) → 0 < length xs → ((j : ℕ) → j < length xs → operators (leaf xs j) ≡ 0) → operators (below n w i xs) < length xs
below_few n w zero xs h a = let z = a 0 h in omega arith
below_few n w (suc i) xs h a =
    elim (leb_tells (length xs) (2 ^ i)) [
      | inl q ↦ subst (λ t. operators (cond t (below n w i xs) (choose (bit_of n w i) (below n w i (drop (2 ^ i) xs)) (below n w i (take (2 ^ i) xs)))) < length xs) (sym q.0) (below_few n w i xs h a)
      | inr q ↦
          let many = q.1 in
          let behind = length-drop (2 ^ i) xs in
          let before = length_take (2 ^ i) xs (omega arith) in
          let p = pow_pos i in
          let high = below_few n w i (drop (2 ^ i) xs) (omega arith) (λ j g. ap operators (leaf_drop (2 ^ i) j (2 ^ i + j) xs refl) ∙ a (2 ^ i + j) (omega arith)) in
          let low = below_few n w i (take (2 ^ i) xs) (omega arith) (λ j g. ap operators (leaf_take (2 ^ i) j xs (omega arith)) ∙ a j (omega arith)) in
          let none = bit_of_none n w i in
          subst (λ t. operators (cond t (below n w i xs) (choose (bit_of n w i) (below n w i (drop (2 ^ i) xs)) (below n w i (take (2 ^ i) xs)))) < length xs) (sym q.0) (omega arith)
    ]

pick_few : {A : Type 0} (n : List ℕ) (w : ℕ) (f : A → Expression) (d : A) (xs : List A) → 0 < length xs → ((j : ℕ) → j < length xs → operators (f (slice_index_or xs j d)) ≡ 0) → operators (pick n w (map f xs)) < length xs
pick_few n w f d xs h a =
    let size = length_map f xs in
    let few = below_few n w w (map f xs) (omega arith) (λ j g. ap operators (leaf_map f d xs j (omega arith)) ∙ a j (omega arith)) in
    omega arith

-- ---- the module

abbrev Few : Expression → Type 0
Few x = expression_few (Some 256) x ≡ true

few_of : (x : Expression) → operators x ≤ 256 → Few x
few_of x h = le-leb (operators x) 256 h

module _ (p : Plan) (plan : IsPlan p) where
  by_element_count : (s : ℕ) (f : Element → ℕ) → operators (by_element p s f) < 64
  by_element_count s f =
      let q = pick_few L.element p.element_width (λ (x : Element). lit s (f x)) nothing p.elements plan.ready.has_element (λ j g. refl) in
      let l = plan.few_elements in
      omega arith

  by_element_few : (s : ℕ) (f : Element → ℕ) → Few (by_element p s f)
  by_element_few s f = let q = by_element_count s f in few_of (by_element p s f) (omega arith)

  row_few : (f : Element → ℕ → Bool) → Few (L.flag_row p f)
  row_few f = by_element_few (L.row_width p) (λ x. number_of (map (f x) (counted (L.row_width p))))

  by_next_count : (f : Element → ℕ) → operators (by_next p f) < 64
  by_next_count f =
      let m = length_rotated p.elements in
      let some = plan.ready.has_element in
      let q = pick_few L.element p.element_width (λ (x : Element). lit 1 (f x)) nothing (rotated p.elements) (omega arith) (λ j g. refl) in
      let l = plan.few_elements in
      omega arith

  by_next_few : (f : Element → ℕ) → Few (by_next p f)
  by_next_few f = let q = by_next_count f in few_of (by_next p f) (omega arith)

  in_row_count : (row : List ℕ) → operators (in_row p row) < 64
  in_row_count row =
      let m = length_counted (L.row_width p) in
      let some = pow_pos p.oper_width in
      let q = pick_few L.oper p.oper_width (bit_of row (L.row_width p)) 0 (counted (L.row_width p)) (omega arith) (λ j g. bit_of_none row (L.row_width p) (slice_index_or (counted (L.row_width p)) j 0)) in
      let l = plan.ready.sized.row_narrow in
      omega arith

  in_row_few : (row : List ℕ) → Few (in_row p row)
  in_row_few row = let q = in_row_count row in few_of (in_row p row) (omega arith)

  value_few : Few (L.value_now p)
  value_few = elim (several_bits p) as (λ t. Few (cond t (Net L.one) (in_row p L.ones))) [ true ↦ refl | false ↦ in_row_few L.ones ]

  pattern_count : (k : List ℕ) → operators (pattern_of p k) < 8
  pattern_count k =
      let q = pick_few k p.back_width (λ b. lit p.bits (port_word p false b)) 0 p.backgrounds plan.ready.has_background (λ j g. refl) in
      let l = plan.few_backgrounds in
      omega arith

  pattern_few : (k : List ℕ) → Few (pattern_of p k)
  pattern_few k = let q = pattern_count k in few_of (pattern_of p k) (omega arith)

  visited_none : operators (L.visited p) ≡ 0
  visited_none = elim (eqb_tells p.addr_width p.visit_width) [
    | inl q ↦ ap (λ t. operators (cond t (Net L.visit) (PartSelect L.visit (p.addr_width - 1) 0))) q.0
    | inr q ↦ ap (λ t. operators (cond t (Net L.visit) (PartSelect L.visit (p.addr_width - 1) 0))) q.0
  ]

  index_few : Few (L.index_of p)
  index_few = let q = visited_none in few_of (L.index_of p) (omega arith)

  rows_count : (rs : List Row) (xs : Expressions) → all_operators (L.address_bits p rs xs) ≡ length rs * 3 + all_operators xs
  rows_count [] xs = omega arith
  rows_count (r ∷ rs) xs = let q = rows_count rs (Followed (L.row_bit p.addr_width r) xs) in omega arith

  address_few : Few (L.address p)
  address_few =
      let q = rows_count p.rows NoMore in
      let l = plan.ready.sized.rows_full in
      let n = plan.ready.sized.addr_narrow in
      elim p.straight as (λ t. Few (cond t (Net L.index) (Concatenation (L.address_bits p p.rows NoMore))))
      [ true ↦ refl | false ↦ few_of (Concatenation (L.address_bits p p.rows NoMore)) (omega arith) ]

  want_few : Few (L.want_next p)
  want_few =
      let x = pattern_of p (back_at (several p) p.delay) in
      let q = pattern_count (back_at (several p) p.delay) in
      let aged : Few (word_of (value_at p.delay) x) = few_of (word_of (value_at p.delay) x) (omega arith) in
      elim (nat_eq p.delay 0) as (λ t. Few (cond t (Net L.word) (word_of (value_at p.delay) x))) [ true ↦ refl | false ↦ aged ]

  abbrev SetsFew : List Statement → Type 0
  SetsFew [] = Unit {0}
  SetsFew (SetTo n x ∷ ss) = Few x × SetsFew ss
  SetsFew (IfElse c a b ∷ ss) = ⊥
  SetsFew (CaseOf x a d ∷ ss) = ⊥

  sets_few : (ss : List Statement) → SetsFew ss → statements_few (Some 256) (statements ss) ≡ true
  sets_few [] h = refl
  sets_few (SetTo n x ∷ ss) h = both (expression_few (Some 256) x) (statements_few (Some 256) (statements ss)) h.0 (sets_few ss h.1)
  sets_few (IfElse c a b ∷ ss) h = absurd h
  sets_few (CaseOf x a d ∷ ss) h = absurd h

  feeds_few : (i : ℕ) → Few (L.gated (feed_reads i)) × Few (L.gated (feed_over i))
  feeds_few zero = (refl, refl)
  feeds_few (suc i) = (refl, refl)

  stages_few : (many : Bool) (i n : ℕ) (ss : List Statement) → SetsFew ss → SetsFew (stage_sets many p.back_width i n ++ ss)
  stages_few many i zero ss h = ((feeds_few i).0, ((feeds_few i).1, h))
  stages_few true i (suc n) ss h = ((feeds_few i).0, ((feeds_few i).1, (refl, (refl, stages_few true (suc i) n ss h))))
  stages_few false i (suc n) ss h = ((feeds_few i).0, ((feeds_few i).1, (refl, stages_few false (suc i) n ss h)))

  -- three tables in one expression
  one_few : Few (L.one_next p)
  one_few =
      let a = by_next_count (λ x. bit (L.begins_one x)) in
      let b = by_element_count 1 (λ x. bit (L.begins_one x)) in
      let c = in_row_count L.ones in
      few_of (L.one_next p) (omega arith)

  one_set_few : (wide : Bool) (ss : List Statement) → SetsFew ss → SetsFew (L.one_set p wide ++ ss)
  one_set_few true ss h = (one_few, h)
  one_set_few false ss h = h

  block_few : statements_few (Some 256) (statements (L.sets_all p)) ≡ true
  block_few =
      sets_few (L.sets_all p)
      (also refl
      (also refl
      (also refl
      (also refl
      (also refl
      (also refl
      (also refl
      (one_set_few (several_bits p) (stage_sets (several p) p.back_width 0 p.delay ++ L.end_sets p) (stages_few (several p) 0 p.delay (L.end_sets p) (want_few, (refl, tt)))))))))))

  abbrev ItemsFew : List ModuleItem → Type 0
  ItemsFew [] = Unit {0}
  ItemsFew (i ∷ is) = (item_few (Some 256) i ≡ true) × ItemsFew is

  all_few : (is : List ModuleItem) → ItemsFew is → items_few (Some 256) is ≡ true
  all_few [] h = refl
  all_few (i ∷ is) h = both (item_few (Some 256) i) (items_few (Some 256) is) h.0 (all_few is h.1)

  one_item_few : (wide : Bool) (rest : List ModuleItem) → ItemsFew rest → ItemsFew (L.one_reg wide ++ rest)
  one_item_few true rest h = (refl, h)
  one_item_few false rest h = h

  stage_items_few : (many : Bool) (i n : ℕ) (rest : List ModuleItem) → ItemsFew rest → ItemsFew (stage_regs many p.back_width i n ++ rest)
  stage_items_few many i zero rest h = (refl, (refl, h))
  stage_items_few true i (suc n) rest h = (refl, (refl, (refl, (refl, stage_items_few true (suc i) n rest h))))
  stage_items_few false i (suc n) rest h = (refl, (refl, (refl, stage_items_few false (suc i) n rest h)))

  after_few : ItemsFew (items_after p)
  after_few =
      also refl
      (also refl
      (also refl
      (also refl
      (also refl
      (also refl
      (also refl
      (also refl
      (also refl
      (also refl
      (also refl
      (also refl
      (also refl
      (also refl
      (also refl
      (also refl
      (also refl
      (also refl
      (also refl
      (also (row_few L.writes_at)
      (also (row_few (L.ones_row p))
      (also (row_few L.ends_behind)
      (also (in_row_few L.writes)
      (also value_few
      (also (by_element_few 1 (λ x. bit x.down))
      (also (by_element_few 1 (λ x. bit x.pause))
      (also (in_row_few L.ends)
      (also (by_element_few 1 (λ x. bit (is_single x)))
      (also (by_next_few (λ x. bit (is_single x)))
      (also (by_next_few (λ x. bit x.pause))
      (also refl
      (also refl
      (also refl
      (also index_few
      (also (pattern_few L.back)
      (also refl
      (also refl
      (also refl
      (also address_few
      (also refl
      (also refl
      (also refl
      (also block_few
      tt))))))))))))))))))))))))))))))))))))))))))

  pub operators_few : few_operators (Some 256) (self_test p) ≡ true
  operators_few =
      all_few (L.items p)
      (also refl
      (also refl
      (also refl
      (also refl
      (also refl
      (also refl
      (also refl
      (one_item_few (several_bits p) (stage_regs (several p) p.back_width 0 p.delay ++ items_after p) (stage_items_few (several p) 0 p.delay (items_after p) after_few)))))))))
