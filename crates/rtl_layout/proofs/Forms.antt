-- The module has the sizes that a text can have, so exactly one environment settles.
use Rattle.std.proofs.Common.{◌≡◌, ℕ, zero, suc, ◌-◌, ◌^◌, ◌<◌, ◌≤◌, Bool, true, false, cond, ◌&&◌, nat_eq, nat_lt, List, [], ◌∷◌, ◌++◌, length, map, refl, sym, subst, arith, inl, inr}
use Rattle.std.proofs.lemmas.Bool.{lt-ltb, le-leb}
use Rattle.std.proofs.lemmas.Bool.Decides.{eqb_tells}
use Rattle.std.proofs.lemmas.Nat.{pow_pos}
use Rattle.std.specs.Prelude.{slice_index_or, nat_le}
use Rattle.verilog_tree.specs.Plain.{Expression, Net, BitSelect, PartSelect, Concatenation, Prefixed, Infixed, Expressions, NoMore, Followed, Statement, SetTo, IfElse, CaseOf, statements, ModuleItem}
use Rattle.verilog_tree.specs.declared.tree.UnOp.TheVariants.{Invert}
use Rattle.verilog_tree.specs.declared.tree.BinOp.TheVariants.{Add, Sub}
use Rattle.verilog_tree.specs.Meaning.{Env, bit}
use Rattle.verilog_tree.specs.Formed.{is_width, is_place, has_expression, expression_formed, expressions_formed, statements_formed, item_formed, items_formed, ports_formed, formed}
use Rattle.verilog_tree.specs.Wires.{Starts, OneSettles, Falls}
use Rattle.verilog_tree.proofs.Settling.{one_settles}
use Rattle.rtl_layout.specs.Build.{lit, choose, bit_of, pick, rotated, counted, number_of, step_while, at_reset, counter}
use Rattle.rtl_layout.specs.declared.row.Row.{Row}
use Rattle.rtl_layout.specs.Plan.{Element, Plan, several, several_bits, port_word, is_single, limit}
use Rattle.rtl_layout.specs.Layout as L
use Rattle.rtl_layout.specs.Layout.{stage_regs, stage_sets, items_after, by_element, by_next, in_row, pattern_of, word_of, feed_reads, feed_over, self_test}
use Rattle.rtl_layout.specs.Control.{nothing, element_at, background_at}
use Rattle.rtl_layout.specs.Shows.{Ready, Sized, no_row}
use Rattle.rtl_layout.proofs.Rows.{length_counted, counted_below, length_rotated, row_fits}
use Rattle.rtl_layout.proofs.Words.{word_below}
use Rattle.rtl_layout.proofs.Ranked.{pick_has, rank, rank_falls}
use Rattle.rtl_layout.proofs.Choice.{double}
use Rattle.rtl_layout.proofs.Whole.{legal}

also : {A B : Type 0} → A → B → A × B
also a b = (a, b)

pub both : (a b : Bool) → a ≡ true → b ≡ true → (a && b) ≡ true
both a b h k = rw (h, k) refl

-- ---- expressions

abbrev IsFormed : Expression → Type 0
IsFormed x = expression_formed x ≡ true

is_wide : (v : ℕ) → 1 ≤ v → v ≤ 64 → is_width v ≡ true
is_wide v h k = both (nat_le 1 v) (nat_le v 64) (le-leb 1 v h) (le-leb v 64 k)

lit_formed : (v a : ℕ) → 1 ≤ v → v ≤ 64 → a < 2 ^ v → IsFormed (lit v a)
lit_formed v a h k l = both (is_width v) (nat_lt a (2 ^ v)) (is_wide v h k) (lt-ltb a (2 ^ v) l)

bit_below : (t : Bool) → bit t < 2 ^ 1
bit_below true = omega arith
bit_below false = omega arith

choose_formed : (c x y : Expression) → IsFormed c → IsFormed x → IsFormed y → IsFormed (choose c x y)
choose_formed c x y h k l = both (expression_formed c && expression_formed x) (expression_formed y) (both (expression_formed c) (expression_formed x) h k) l

bit_of_formed : (n : List ℕ) (v i : ℕ) → i < v → v ≤ 64 → IsFormed (bit_of n v i)
bit_of_formed n v i h k = elim (eqb_tells v 1) [
  | inl q ↦ subst (λ t. IsFormed (cond t (Net n) (BitSelect n i))) (sym q.0) refl
  | inr q ↦ subst (λ t. IsFormed (cond t (Net n) (BitSelect n i))) (sym q.0) (le-leb i 63 (omega arith))
]

pick_formed : {A : Type 0} (n : List ℕ) (v : ℕ) (f : A → Expression) (d : A) (xs : List A) → v ≤ 64 → 0 < length xs → ((j : ℕ) → j < length xs → IsFormed (f (slice_index_or xs j d))) → IsFormed (pick n v (map f xs))
pick_formed n v f d xs h l a = pick_has n v (λ i x. IsFormed x) (λ i x u. u) (λ i x y g a b. choose_formed (bit_of n v i) x y (bit_of_formed n v i g h) a b) f d xs l a

abbrev AllFormed : List Expression → Type 0
AllFormed [] = Unit {0}
AllFormed (c ∷ cs) = IsFormed c × AllFormed cs

step_formed : (cs : List Expression) (x y : Expression) → AllFormed cs → IsFormed x → IsFormed y → IsFormed (step_while cs x y)
step_formed [] x y a h k = h
step_formed (c ∷ cs) x y a h k = choose_formed c (step_while cs x y) y a.0 (step_formed cs x y a.1 h k) k

reset_formed : (v a : ℕ) (x : Expression) → 1 ≤ v → v ≤ 64 → a < 2 ^ v → IsFormed x → IsFormed (at_reset (lit v a) x)
reset_formed v a x h k l f = choose_formed (Net L.reset) (lit v a) x refl (lit_formed v a h k l) f

sum_formed : (x : Expression) (v : ℕ) → IsFormed x → 1 ≤ v → v ≤ 64 → IsFormed (Infixed Add x (lit v 1))
sum_formed x v f h k = both (expression_formed x) (expression_formed (lit v 1)) f (lit_formed v 1 h k (one_below v h))
  where
    one_below : (v : ℕ) → 1 ≤ v → 1 < 2 ^ v
    one_below zero h = absurd (omega arith)
    one_below (suc v) h = omega (arith, double v, pow_pos v)

counter_formed : (r : List ℕ) (v : ℕ) (cs : List Expression) (last : List ℕ) → 1 ≤ v → v ≤ 64 → AllFormed cs → IsFormed (counter r v cs last)
counter_formed r v cs last h k a =
    let z = pow_pos v in
    let more = Infixed Add (Net r) (lit v 1) in
    reset_formed v 0 (step_while cs (choose (Net last) (lit v 0) more) (Net r)) h k (omega arith)
    (step_formed cs (choose (Net last) (lit v 0) more) (Net r) a
    (choose_formed (Net last) (lit v 0) more refl (lit_formed v 0 h k (omega arith)) (sum_formed (Net r) v refl h k)) refl)

-- ---- the module

module _ (p : Plan) (ready : Ready p) (sized : Sized p) where
  by_element_formed : (s : ℕ) (f : Element → ℕ) → 1 ≤ s → s ≤ 64 → ((j : ℕ) → f (element_at p j) < 2 ^ s) → IsFormed (by_element p s f)
  by_element_formed s f h k a = pick_formed L.element p.element_width (λ (x : Element). lit s (f x)) nothing p.elements sized.element_narrow ready.has_element (λ j g. lit_formed s (f (element_at p j)) h k (a j))

  by_next_formed : (f : Element → Bool) → IsFormed (by_next p (λ x. bit (f x)))
  by_next_formed f =
      let l = length_rotated p.elements in
      let some = ready.has_element in
      pick_formed L.element p.element_width (λ (x : Element). lit 1 (bit (f x))) nothing (rotated p.elements) sized.element_narrow (omega arith)
      (λ j g. lit_formed 1 (bit (f (slice_index_or (rotated p.elements) j nothing))) (omega arith) (omega arith) (bit_below (f (slice_index_or (rotated p.elements) j nothing))))

  row_some : 1 ≤ L.row_width p
  row_some = let some = pow_pos p.oper_width in omega arith

  row_formed_of : (f : Element → ℕ → Bool) → IsFormed (L.flag_row p f)
  row_formed_of f = by_element_formed (L.row_width p) (λ x. number_of (map (f x) (counted (L.row_width p)))) row_some sized.row_narrow (λ j. row_fits (f (element_at p j)) (L.row_width p))

  in_row_formed : (row : List ℕ) → IsFormed (in_row p row)
  in_row_formed row =
      let l = length_counted (L.row_width p) in
      let some = row_some in
      pick_formed L.oper p.oper_width (bit_of row (L.row_width p)) 0 (counted (L.row_width p)) sized.oper_narrow (omega arith)
      (λ j g. bit_of_formed row (L.row_width p) (slice_index_or (counted (L.row_width p)) j 0) (counted_below (L.row_width p) j 0 g) sized.row_narrow)

  pattern_formed : (k : List ℕ) → IsFormed (pattern_of p k)
  pattern_formed k =
      pick_formed k p.back_width (λ b. lit p.bits (port_word p false b)) 0 p.backgrounds sized.back_narrow ready.has_background
      (λ j g. lit_formed p.bits (port_word p false (background_at p j)) sized.bits_some sized.bits_narrow (word_below p sized false (background_at p j) (sized.grounds_fit j g)))

  visited_formed : IsFormed (L.visited p)
  visited_formed =
      let a = sized.addr_narrow in
      elim (eqb_tells p.addr_width p.visit_width) [
        | inl q ↦ subst (λ t. IsFormed (cond t (Net L.visit) (PartSelect L.visit (p.addr_width - 1) 0))) (sym q.0) refl
        | inr q ↦ subst (λ t. IsFormed (cond t (Net L.visit) (PartSelect L.visit (p.addr_width - 1) 0))) (sym q.0) (both (is_place (p.addr_width - 1)) (is_place 0) (le-leb (p.addr_width - 1) 63 (omega arith)) refl)
      ]

  row_formed : (r : Row) → r.mask < 2 ^ p.addr_width → IsFormed (L.row_bit p.addr_width r)
  row_formed r h = both (expression_formed (lit p.addr_width r.mask)) (expression_formed (lit 1 (bit r.flip))) (lit_formed p.addr_width r.mask sized.addr_some sized.addr_narrow h) (lit_formed 1 (bit r.flip) (omega arith) (omega arith) (bit_below r.flip))

  rows_formed : (rs : List Row) (xs : Expressions) → ((j : ℕ) → j < length rs → (slice_index_or rs j no_row).mask < 2 ^ p.addr_width) → expressions_formed xs ≡ true → expressions_formed (L.address_bits p rs xs) ≡ true
  rows_formed [] xs a h = h
  rows_formed (r ∷ rs) xs a h =
      let f = a 0 (omega arith) in
      rows_formed rs (Followed (L.row_bit p.addr_width r) xs) (λ j g. a (suc j) (omega arith)) (both (expression_formed (L.row_bit p.addr_width r)) (expressions_formed xs) (row_formed r f) h)

  some_row : (rs : List Row) (xs : Expressions) → has_expression xs ≡ true → has_expression (L.address_bits p rs xs) ≡ true
  some_row [] xs h = h
  some_row (r ∷ rs) xs h = some_row rs (Followed (L.row_bit p.addr_width r) xs) refl

  some_rows : (rs : List Row) → 0 < length rs → has_expression (L.address_bits p rs NoMore) ≡ true
  some_rows [] h = absurd (omega arith)
  some_rows (r ∷ rs) h = some_row rs (Followed (L.row_bit p.addr_width r) NoMore) refl

  address_formed : IsFormed (L.address p)
  address_formed =
      let a = sized.addr_some in
      let b = sized.rows_full in
      elim p.straight as (λ t. IsFormed (cond t (Net L.index) (Concatenation (L.address_bits p p.rows NoMore)))) [
        | true ↦ refl
        | false ↦ both (has_expression (L.address_bits p p.rows NoMore)) (expressions_formed (L.address_bits p p.rows NoMore)) (some_rows p.rows (omega arith)) (rows_formed p.rows NoMore (λ j g. sized.masks_fit j g) refl)
      ]

  -- ---- statements

  abbrev SetsFormed : List Statement → Type 0
  SetsFormed [] = Unit {0}
  SetsFormed (SetTo n x ∷ ss) = IsFormed x × SetsFormed ss
  SetsFormed (IfElse c a b ∷ ss) = ⊥
  SetsFormed (CaseOf x a d ∷ ss) = ⊥

  sets_formed : (ss : List Statement) → SetsFormed ss → statements_formed (statements ss) ≡ true
  sets_formed [] h = refl
  sets_formed (SetTo n x ∷ ss) h = both (expression_formed x) (statements_formed (statements ss)) h.0 (sets_formed ss h.1)
  sets_formed (IfElse c a b ∷ ss) h = absurd h
  sets_formed (CaseOf x a d ∷ ss) h = absurd h

  gated_formed : (x : Expression) → IsFormed x → IsFormed (L.gated x)
  gated_formed x h = reset_formed 1 0 x (omega arith) (omega arith) (omega arith) h

  feed_formed : (i : ℕ) → IsFormed (feed_reads i) × IsFormed (feed_over i)
  feed_formed zero = (refl, refl)
  feed_formed (suc i) = (refl, refl)

  stages_formed : (many : Bool) (i n : ℕ) (ss : List Statement) → SetsFormed ss → SetsFormed (stage_sets many p.back_width i n ++ ss)
  stages_formed many i zero ss h = (gated_formed (feed_reads i) ((feed_formed i).0), (gated_formed (feed_over i) ((feed_formed i).1), h))
  stages_formed true i (suc n) ss h =
      let z = pow_pos p.back_width in (
        gated_formed (feed_reads i) ((feed_formed i).0),
        (
          gated_formed (feed_over i) ((feed_formed i).1),
          (
            gated_formed (Net (L.value_at i)) refl,
            (reset_formed p.back_width 0 (Net (L.back_at true i)) sized.back_some sized.back_narrow (omega arith) refl, stages_formed true (suc i) n ss h),
          ),
        ),
      )
  stages_formed false i (suc n) ss h = (gated_formed (feed_reads i) ((feed_formed i).0), (gated_formed (feed_over i) ((feed_formed i).1), (gated_formed (Net (L.value_at i)) refl, stages_formed false (suc i) n ss h)))

  turning_formed : (r : List ℕ) (next again more : Expression) (first : Bool) → IsFormed next → IsFormed again → IsFormed more → IsFormed (L.turning r first next again more)
  turning_formed r next again more first n a m =
      let ends = choose (Net L.last_oper) (choose (Net L.last_visit) next again) more in
      reset_formed 1 (bit first) (step_while (Net L.run ∷ []) ends (Net r)) (omega arith) (omega arith) (bit_below first)
      (step_formed (Net L.run ∷ []) ends (Net r) (refl, tt) (choose_formed (Net L.last_oper) (choose (Net L.last_visit) next again) more refl (choose_formed (Net L.last_visit) next again refl n a) m) refl)

  visit_some : 1 ≤ p.visit_width
  visit_some = let a = sized.addr_some in let b = sized.visit_holds in omega arith

  less_below : (n k : ℕ) → 0 < n → n ≤ k → n - 2 < k
  less_below n k h l = omega arith

  last_visit_formed : IsFormed (L.last_visit_next p)
  last_visit_formed =
      let pause = lit_formed p.visit_width (p.pause - 2) visit_some sized.visit_narrow (less_below p.pause (2 ^ p.visit_width) ready.has_pause ready.pause_fits) in
      let words = lit_formed p.visit_width (p.words - 2) visit_some sized.visit_narrow (less_below p.words (2 ^ p.visit_width) ready.has_word ready.words_fit) in
      let more : IsFormed (L.visit_ends_more p) = choose_formed (Net L.pause) (lit p.visit_width (p.pause - 2)) (lit p.visit_width (p.words - 2)) refl pause words in
      let next : IsFormed (L.visit_ends_next p) = choose_formed (Net L.pause_next) (lit 1 (bit (nat_eq p.pause 1))) (lit 1 (bit (nat_eq p.words 1))) refl
      (lit_formed 1 (bit (nat_eq p.pause 1)) (omega arith) (omega arith) (bit_below (nat_eq p.pause 1))) (lit_formed 1 (bit (nat_eq p.words 1)) (omega arith) (omega arith) (bit_below (nat_eq p.words 1))) in
      let first = nat_eq (limit p (element_at p 0)) 1 in
      reset_formed 1 (bit first) (step_while (Net L.run ∷ Net L.last_oper ∷ []) (choose (Net L.last_visit) (L.visit_ends_next p) (L.visit_ends_more p)) (Net L.last_visit)) (omega arith) (omega arith) (bit_below first)
      (step_formed (Net L.run ∷ Net L.last_oper ∷ []) (choose (Net L.last_visit) (L.visit_ends_next p) (L.visit_ends_more p)) (Net L.last_visit) (refl, (refl, tt)) (choose_formed (Net L.last_visit) (L.visit_ends_next p) (L.visit_ends_more p) refl next more) refl)

  want_formed : IsFormed (L.want_next p)
  want_formed =
      let x = pattern_of p (L.back_at (several p) p.delay) in
      let f : IsFormed x = pattern_formed (L.back_at (several p) p.delay) in
      elim (nat_eq p.delay 0) as (λ t. IsFormed (cond t (Net L.word) (word_of (L.value_at p.delay) x))) [ true ↦ refl | false ↦ choose_formed (Net (L.value_at p.delay)) (Prefixed Invert x) x refl f f ]

  one_set_formed : (wide : Bool) (ss : List Statement) → SetsFormed ss → SetsFormed (L.one_set p wide ++ ss)
  one_set_formed true ss h = (
    turning_formed L.one (by_next p (λ x. bit (L.begins_one x))) (by_element p 1 (λ x. bit (L.begins_one x))) (in_row p L.ones) (L.begins_one (element_at p 0))
        (by_next_formed (λ x. L.begins_one x)) (by_element_formed 1 (λ x. bit (L.begins_one x)) (omega arith) (omega arith) (λ j. bit_below (L.begins_one (element_at p j)))) (in_row_formed L.ones),
    h,
  )
  one_set_formed false ss h = h

  block_formed : statements_formed (statements (L.sets_all p)) ≡ true
  block_formed =
      sets_formed (L.sets_all p)
      (also (counter_formed L.oper p.oper_width (Net L.run ∷ []) L.last_oper sized.oper_some sized.oper_narrow (refl, tt))
      (also (counter_formed L.visit p.visit_width (Net L.run ∷ Net L.last_oper ∷ []) L.last_visit visit_some sized.visit_narrow (refl, (refl, tt)))
      (also (counter_formed L.element p.element_width (Net L.run ∷ Net L.last_oper ∷ Net L.last_visit ∷ []) L.last_element sized.element_some sized.element_narrow (refl, (refl, (refl, tt))))
      (also (counter_formed L.back p.back_width (Net L.run ∷ Net L.last_oper ∷ Net L.last_visit ∷ Net L.last_element ∷ []) L.last_back sized.back_some sized.back_narrow (refl, (refl, (refl, (refl, tt)))))
      (also refl
      (also (turning_formed L.last_oper (Net L.ends_next) (Net L.ends_again) (Net L.ends_more) (is_single (element_at p 0)) refl refl refl)
      (also last_visit_formed
      (one_set_formed (several_bits p) (stage_sets (several p) p.back_width 0 p.delay ++ L.end_sets p)
      (stages_formed (several p) 0 p.delay (L.end_sets p) (want_formed, (refl, tt)))))))))))

  -- ---- items

  abbrev Items : List ModuleItem → Type 0
  Items [] = Unit {0}
  Items (i ∷ is) = (item_formed i ≡ true) × Items is

  all_items : (is : List ModuleItem) → Items is → items_formed is ≡ true
  all_items [] h = refl
  all_items (i ∷ is) h = both (item_formed i) (items_formed is) h.0 (all_items is h.1)

  one_item : (wide : Bool) (rest : List ModuleItem) → Items rest → Items (L.one_reg wide ++ rest)
  one_item true rest h = (refl, h)
  one_item false rest h = h

  value_formed : IsFormed (L.value_now p)
  value_formed = elim (several_bits p) as (λ t. IsFormed (cond t (Net L.one) (in_row p L.ones))) [ true ↦ refl | false ↦ in_row_formed L.ones ]

  stage_items : (many : Bool) (i n : ℕ) (rest : List ModuleItem) → Items rest → Items (stage_regs many p.back_width i n ++ rest)
  stage_items many i zero rest h = (refl, (refl, h))
  stage_items true i (suc n) rest h = (refl, (refl, (refl, (is_wide p.back_width sized.back_some sized.back_narrow, stage_items true (suc i) n rest h))))
  stage_items false i (suc n) rest h = (refl, (refl, (refl, stage_items false (suc i) n rest h)))

  ends_below : (n k : ℕ) → 0 < n → n ≤ k → n - 1 < k
  ends_below n k h l = omega arith

  index_formed : IsFormed (L.index_of p)
  index_formed =
      choose_formed (Net L.down) (Infixed Sub (lit p.addr_width (p.words - 1)) (L.visited p)) (L.visited p) refl
      (both (expression_formed (lit p.addr_width (p.words - 1))) (expression_formed (L.visited p)) (lit_formed p.addr_width (p.words - 1) sized.addr_some sized.addr_narrow (ends_below p.words (2 ^ p.addr_width) ready.has_word ready.index_fits)) visited_formed)
      visited_formed

  after_formed : Items (items_after p)
  after_formed =
      also (is_wide p.bits sized.bits_some sized.bits_narrow)
      (also refl
      (also (is_wide (L.row_width p) row_some sized.row_narrow)
      (also (is_wide (L.row_width p) row_some sized.row_narrow)
      (also (is_wide (L.row_width p) row_some sized.row_narrow)
      (also refl
      (also refl
      (also refl
      (also refl
      (also refl
      (also refl
      (also refl
      (also refl
      (also refl
      (also refl
      (also refl
      (also (is_wide p.addr_width sized.addr_some sized.addr_narrow)
      (also (is_wide p.bits sized.bits_some sized.bits_narrow)
      (also (is_wide p.bits sized.bits_some sized.bits_narrow)
      (also (row_formed_of L.writes_at)
      (also (row_formed_of (L.ones_row p))
      (also (row_formed_of L.ends_behind)
      (also (in_row_formed L.writes)
      (also value_formed
      (also (by_element_formed 1 (λ x. bit x.down) (omega arith) (omega arith) (λ j. bit_below (element_at p j).down))
      (also (by_element_formed 1 (λ x. bit x.pause) (omega arith) (omega arith) (λ j. bit_below (element_at p j).pause))
      (also (in_row_formed L.ends)
      (also (by_element_formed 1 (λ x. bit (is_single x)) (omega arith) (omega arith) (λ j. bit_below (is_single (element_at p j))))
      (also (by_next_formed (λ x. is_single x))
      (also (by_next_formed (λ x. x.pause))
      (also (lit_formed p.element_width (length p.elements - 1) sized.element_some sized.element_narrow (ends_below (length p.elements) (2 ^ p.element_width) ready.has_element ready.elements_fit))
      (also (lit_formed p.back_width (length p.backgrounds - 1) sized.back_some sized.back_narrow (ends_below (length p.backgrounds) (2 ^ p.back_width) ready.has_background ready.backgrounds_fit))
      (also refl
      (also index_formed
      (also (pattern_formed L.back)
      (also refl
      (also refl
      (also refl
      (also address_formed
      (also refl
      (also refl
      (also refl
      (also block_formed
      tt))))))))))))))))))))))))))))))))))))))))))

  items_are : items_formed (L.items p) ≡ true
  items_are =
      all_items (L.items p)
      (also (is_wide p.oper_width sized.oper_some sized.oper_narrow)
      (also (is_wide p.visit_width visit_some sized.visit_narrow)
      (also (is_wide p.element_width sized.element_some sized.element_narrow)
      (also (is_wide p.back_width sized.back_some sized.back_narrow)
      (also refl
      (also refl
      (also refl
      (one_item (several_bits p) (stage_regs (several p) p.back_width 0 p.delay ++ items_after p) (stage_items (several p) 0 p.delay (items_after p) after_formed)))))))))

  pub is_formed : formed (self_test p) ≡ true
  is_formed = both (ports_formed (L.ports p)) (items_formed (L.items p)) ports_are items_are
    where
      bits_wide : is_width p.bits ≡ true
      bits_wide = is_wide p.bits sized.bits_some sized.bits_narrow

      addr_wide : is_width p.addr_width ≡ true
      addr_wide = is_wide p.addr_width sized.addr_some sized.addr_narrow

      ports_are : ports_formed (L.ports p) ≡ true
      ports_are = rw (bits_wide, addr_wide) refl

  -- in each cycle exactly one environment settles
  pub settles_once : (regs ins : Env) → Starts (self_test p) regs ins → OneSettles (self_test p) regs ins
  settles_once regs ins s = one_settles (self_test p) is_formed (legal p ready sized) rank rank_falls_here regs ins s
    where
      rank_falls_here : Falls rank (L.items p)
      rank_falls_here = rank_falls p ready
