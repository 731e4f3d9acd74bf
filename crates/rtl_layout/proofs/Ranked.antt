-- A rank falls along the wires.
use Rattle.std.proofs.Common.{◌≡◌, ℕ, zero, suc, ◌+◌, ◌-◌, ◌^◌, ◌<◌, ◌≤◌, Bool, true, false, cond, nat_lt, List, [], ◌∷◌, ◌++◌, length, take, drop, map, refl, sym, subst, arith, inl, inr}
use Rattle.std.proofs.lemmas.Bool.{ltb-true}
use Rattle.std.proofs.lemmas.Bool.Decides.{eqb_tells, leb_tells}
use Rattle.std.proofs.lemmas.List.{length-drop}
use Rattle.std.proofs.lemmas.Nat.{pow_pos}
use Rattle.std.specs.Prelude.{slice_index_or}
use Rattle.std.specs.Str.{bytes_eq}
use Rattle.verilog_tree.specs.Plain.{Expression, Net, BitSelect, PartSelect, Literal, Concatenation, Prefixed, Infixed, Conditional, Expressions, NoMore, Followed, statements, ModuleItem, AssignItem, AlwaysItem}
use Rattle.verilog_tree.specs.Meaning.{bit}
use Rattle.verilog_tree.specs.Wires.{Uses, UsesAny, Leads, Falls}
use Rattle.rtl_layout.specs.Build.{lit, choose, bit_of, leaf, below, pick, rotated, counted, number_of}
use Rattle.rtl_layout.specs.declared.row.Row.{Row}
use Rattle.rtl_layout.specs.Plan.{Element, Plan, several, several_bits, port_word, is_single}
use Rattle.rtl_layout.specs.Layout as L
use Rattle.rtl_layout.specs.Layout.{stage_regs, items_after, row_width, by_element, by_next, flag_row, in_row, pattern_of}
use Rattle.rtl_layout.specs.Control.{nothing}
use Rattle.rtl_layout.specs.Shows.{Ready}
use Rattle.rtl_layout.proofs.Choice.{leaf_map, length_map, leaf_drop, leaf_take, length_take}
use Rattle.rtl_layout.proofs.Rows.{length_counted, length_rotated}

-- What holds of all leaves, and of a choice where it holds of both sides, holds of the whole. The number
-- counts the choices above a leaf.
pub below_has : (n : List ℕ) (k : ℕ) (P : ℕ → Expression → Type 0) → ((i : ℕ) (x : Expression) → P i x → P (suc i) x)
    → ((i : ℕ) (x y : Expression) → i < k → P i x → P i y → P (suc i) (choose (bit_of n k i) x y))
    → (i : ℕ) (xs : List Expression) → i ≤ k → 0 < length xs → ((j : ℕ) → j < length xs → P 0 (leaf xs j)) → P i (below n k i xs)
below_has n k P up both zero xs h l a = a 0 l
below_has n k P up both (suc i) xs h l a =
    elim (leb_tells (length xs) (2 ^ i)) [
      | inl q ↦ subst (λ t. P (suc i) (cond t (below n k i xs) (choose (bit_of n k i) (below n k i (drop (2 ^ i) xs)) (below n k i (take (2 ^ i) xs))))) (sym q.0) (up i (below n k i xs) (below_has n k P up both i xs (omega arith) l a))
      | inr q ↦
          let many = q.1 in
          let behind = length-drop (2 ^ i) xs in
          let before = length_take (2 ^ i) xs (omega arith) in
          let p = pow_pos i in
          subst (λ t. P (suc i) (cond t (below n k i xs) (choose (bit_of n k i) (below n k i (drop (2 ^ i) xs)) (below n k i (take (2 ^ i) xs))))) (sym q.0)
          (both i (below n k i (drop (2 ^ i) xs)) (below n k i (take (2 ^ i) xs)) (omega arith)
          (below_has n k P up both i (drop (2 ^ i) xs) (omega arith) (omega arith) (λ j g. subst (λ x. P 0 x) (sym (leaf_drop (2 ^ i) j (2 ^ i + j) xs refl)) (a (2 ^ i + j) (omega arith))))
          (below_has n k P up both i (take (2 ^ i) xs) (omega arith) (omega arith) (λ j g. subst (λ x. P 0 x) (sym (leaf_take (2 ^ i) j xs (omega arith))) (a j (omega arith)))))
    ]

pub pick_has : {A : Type 0} (n : List ℕ) (k : ℕ) (P : ℕ → Expression → Type 0) → ((i : ℕ) (x : Expression) → P i x → P (suc i) x)
    → ((i : ℕ) (x y : Expression) → i < k → P i x → P i y → P (suc i) (choose (bit_of n k i) x y))
    → (f : A → Expression) (d : A) (xs : List A) → 0 < length xs → ((j : ℕ) → j < length xs → P 0 (f (slice_index_or xs j d))) → P k (pick n k (map f xs))
pick_has n k P up both f d xs h a =
    let size = length_map f xs in
    below_has n k P up both k (map f xs) (omega arith) (omega arith) (λ j g. subst (λ x. P 0 x) (sym (leaf_map f d xs j (omega arith))) (a j (omega arith)))

-- ---- ranks

abbrev mutual
  pub Under : (List ℕ → ℕ) → ℕ → Expression → Type 0
  Under rank r (Net m) = nat_lt (rank m) r ≡ true
  Under rank r (BitSelect m i) = nat_lt (rank m) r ≡ true
  Under rank r (PartSelect m h l) = nat_lt (rank m) r ≡ true
  Under rank r (Literal b) = Unit {0}
  Under rank r (Concatenation xs) = UnderAll rank r xs
  Under rank r (Prefixed o x) = Under rank r x
  Under rank r (Infixed o x y) = Under rank r x × Under rank r y
  Under rank r (Conditional c x y) = Under rank r c × Under rank r x × Under rank r y

  pub UnderAll : (List ℕ → ℕ) → ℕ → Expressions → Type 0
  UnderAll rank r NoMore = Unit {0}
  UnderAll rank r (Followed x xs) = Under rank r x × UnderAll rank r xs

mutual
  pub under_uses : (rank : List ℕ → ℕ) (r : ℕ) (m : List ℕ) (x : Expression) → Under rank r x → Uses m x → rank m < r
  under_uses rank r m (Net k) h u = rw u (ltb-true _ _ h)
  under_uses rank r m (BitSelect k i) h u = rw u (ltb-true _ _ h)
  under_uses rank r m (PartSelect k i l) h u = rw u (ltb-true _ _ h)
  under_uses rank r m (Literal b) h u = absurd u
  under_uses rank r m (Concatenation xs) h u = all_uses rank r m xs h u
  under_uses rank r m (Prefixed o x) h u = under_uses rank r m x h u
  under_uses rank r m (Infixed o x y) h u = elim u [ inl v ↦ under_uses rank r m x h.0 v | inr v ↦ under_uses rank r m y h.1 v ]
  under_uses rank r m (Conditional c x y) h u =
      elim u [ inl v ↦ under_uses rank r m c h.0 v | inr q ↦ elim q [ inl v ↦ under_uses rank r m x h.1 v | inr v ↦ under_uses rank r m y h.2 v ] ]

  all_uses : (rank : List ℕ → ℕ) (r : ℕ) (m : List ℕ) (xs : Expressions) → UnderAll rank r xs → UsesAny m xs → rank m < r
  all_uses rank r m NoMore h u = absurd u
  all_uses rank r m (Followed x xs) h u = elim u [ inl v ↦ under_uses rank r m x h.0 v | inr v ↦ all_uses rank r m xs h.1 v ]

-- the rank falls along each assign
abbrev pub Ranked : (List ℕ → ℕ) → List ModuleItem → Type 0
Ranked rank [] = Unit {0}
Ranked rank (AssignItem n x ∷ is) = Under rank (rank n) x × Ranked rank is
Ranked rank (other ∷ is) = Ranked rank is

falls : (rank : List ℕ → ℕ) (is : List ModuleItem) → Ranked rank is → (n m : List ℕ) → Leads is n m → rank m < rank n
falls rank [] h n m l = absurd l
falls rank (AssignItem k x ∷ is) h n m l = elim l [ inl v ↦ rw v.0 (under_uses rank (rank k) m x h.0 v.1) | inr v ↦ falls rank is h.1 n m v ]
falls rank (other ∷ is) h n m l = falls rank is h n m l

one_ranked : (rank : List ℕ → ℕ) (wide : Bool) (rest : List ModuleItem) → Ranked rank rest → Ranked rank (L.one_reg wide ++ rest)
one_ranked rank true rest h = h
one_ranked rank false rest h = h

stages_ranked : (rank : List ℕ → ℕ) (many : Bool) (w i n : ℕ) (rest : List ModuleItem) → Ranked rank rest → Ranked rank (stage_regs many w i n ++ rest)
stages_ranked rank many w i zero rest h = h
stages_ranked rank true w i (suc n) rest h = stages_ranked rank true w (suc i) n rest h
stages_ranked rank false w i (suc n) rest h = stages_ranked rank false w (suc i) n rest h

-- registers and inputs have 0, tables 1, what they lead to 2, the word 3, ports 4
abbrev level : List (List ℕ) → ℕ → ℕ → List ℕ → ℕ
level [] k other n = other
level (m ∷ ms) k other n = cond (bytes_eq n m) k (level ms k other n)

abbrev pub rank : List ℕ → ℕ
rank n =
    level (L.writes ∷ L.ones ∷ L.ends ∷ L.down ∷ L.pause ∷ L.ends_again ∷ L.ends_next ∷ L.pause_next ∷ L.last_element ∷ L.last_back ∷ L.pattern ∷ []) 1
    (level (L.write ∷ L.value ∷ L.ends_more ∷ L.live ∷ L.index ∷ []) 2
    (level (L.word ∷ []) 3
    (level (L.en ∷ L.we ∷ L.addr ∷ L.wdata ∷ L.done ∷ L.fail ∷ []) 4 0 n) n) n) n

bit_under : (r : List ℕ → ℕ) (k : ℕ) (n : List ℕ) (v i : ℕ) → nat_lt (r n) k ≡ true → Under r k (bit_of n v i)
bit_under r k n v i h = elim (eqb_tells v 1) [ inl q ↦ subst (λ t. Under r k (cond t (Net n) (BitSelect n i))) (sym q.0) h | inr q ↦ subst (λ t. Under r k (cond t (Net n) (BitSelect n i))) (sym q.0) h ]

pick_under : {A : Type 0} (r : List ℕ → ℕ) (k : ℕ) (n : List ℕ) (v : ℕ) (f : A → Expression) (d : A) (xs : List A) → nat_lt (r n) k ≡ true → 0 < length xs → ((j : ℕ) → j < length xs → Under r k (f (slice_index_or xs j d))) → Under r k (pick n v (map f xs))
pick_under r k n v f d xs h l a = pick_has n v (λ i x. Under r k x) (λ i x u. u) (λ i x y g a b. (bit_under r k n v i h, a, b)) f d xs l a

-- the tables and the address, for any rank under which the names that they use are low enough
module _ (p : Plan) (ready : Ready p) (r : List ℕ → ℕ) (k : ℕ) where
  pub element_under : (s : ℕ) (f : Element → ℕ) → nat_lt (r L.element) k ≡ true → Under r k (by_element p s f)
  element_under s f h = pick_under r k L.element p.element_width (λ (x : Element). lit s (f x)) nothing p.elements h ready.has_element (λ j g. tt)

  pub row_under : (f : Element → ℕ → Bool) → nat_lt (r L.element) k ≡ true → Under r k (flag_row p f)
  row_under f = element_under (row_width p) (λ x. number_of (map (f x) (counted (row_width p))))

  pub next_under : (f : Element → ℕ) → nat_lt (r L.element) k ≡ true → Under r k (by_next p f)
  next_under f h =
      let l = length_rotated p.elements in
      let some = ready.has_element in
      pick_under r k L.element p.element_width (λ (x : Element). lit 1 (f x)) nothing (rotated p.elements) h (omega arith) (λ j g. tt)

  pub in_row_under : (row : List ℕ) → nat_lt (r L.oper) k ≡ true → nat_lt (r row) k ≡ true → Under r k (in_row p row)
  in_row_under row h g =
      let l = length_counted (row_width p) in
      let some = pow_pos p.oper_width in
      pick_under r k L.oper p.oper_width (bit_of row (row_width p)) 0 (counted (row_width p)) h (omega arith) (λ j m. bit_under r k row (row_width p) (slice_index_or (counted (row_width p)) j 0) g)

  pub value_under : nat_lt (r L.one) k ≡ true → nat_lt (r L.oper) k ≡ true → nat_lt (r L.ones) k ≡ true → Under r k (L.value_now p)
  value_under o h g = elim (several_bits p) as (λ t. Under r k (cond t (Net L.one) (in_row p L.ones))) [ true ↦ o | false ↦ in_row_under L.ones h g ]

  pub pattern_under : (b : List ℕ) → nat_lt (r b) k ≡ true → Under r k (pattern_of p b)
  pattern_under b h = pick_under r k b p.back_width (λ w. lit p.bits (port_word p false w)) 0 p.backgrounds h ready.has_background (λ j l. tt)

  pub visited_under : nat_lt (r L.visit) k ≡ true → Under r k (L.visited p)
  visited_under h = elim (eqb_tells p.addr_width p.visit_width) [
    | inl q ↦ subst (λ t. Under r k (cond t (Net L.visit) (PartSelect L.visit (p.addr_width - 1) 0))) (sym q.0) h
    | inr q ↦ subst (λ t. Under r k (cond t (Net L.visit) (PartSelect L.visit (p.addr_width - 1) 0))) (sym q.0) h
  ]

  rows_under : (rs : List Row) (xs : Expressions) → nat_lt (r L.index) k ≡ true → UnderAll r k xs → UnderAll r k (L.address_bits p rs xs)
  rows_under [] xs i h = h
  rows_under (w ∷ rs) xs i h = rows_under rs (Followed (L.row_bit p.addr_width w) xs) i (((i, tt), tt), h)

  pub address_under : nat_lt (r L.index) k ≡ true → Under r k (L.address p)
  address_under i = elim p.straight as (λ t. Under r k (cond t (Net L.index) (Concatenation (L.address_bits p p.rows NoMore)))) [ true ↦ i | false ↦ rows_under p.rows NoMore i tt ]

pub also : {A B : Type 0} → A → B → A × B
also a b = (a, b)

module _ (p : Plan) (ready : Ready p) where
  wires_ranked : Ranked rank (L.wire_assigns p ++ (L.port_assigns p ++ AlwaysItem L.clk (statements (L.sets_all p)) ∷ []))
  wires_ranked =
      also (row_under p ready rank 1 L.writes_at refl)
      (also (row_under p ready rank 1 (L.ones_row p) refl)
      (also (row_under p ready rank 1 L.ends_behind refl)
      (also (in_row_under p ready rank 2 L.writes refl refl)
      (also (value_under p ready rank 2 refl refl refl)
      (also (element_under p ready rank 1 1 (λ x. bit x.down) refl)
      (also (element_under p ready rank 1 1 (λ x. bit x.pause) refl)
      (also (in_row_under p ready rank 2 L.ends refl refl)
      (also (element_under p ready rank 1 1 (λ x. bit (is_single x)) refl)
      (also (next_under p ready rank 1 (λ x. bit (is_single x)) refl)
      (also (next_under p ready rank 1 (λ x. bit x.pause) refl)
      (also (refl, tt)
      (also (refl, tt)
      (also (refl, tt, refl)
      (also (refl, (tt, visited_under p ready rank 2 refl), visited_under p ready rank 2 refl)
      (also (pattern_under p ready rank 1 L.back refl)
      (also (refl, refl, refl)
      (also (refl, tt, refl)
      (also refl
      (also (address_under p ready rank 4 refl)
      (also refl
      (also (refl, tt, refl)
      (also (refl, tt, refl)
      tt))))))))))))))))))))))

  pub rank_falls : Falls rank (L.items p)
  rank_falls = falls rank (L.items p) (one_ranked rank (several_bits p) (stage_regs (several p) p.back_width 0 p.delay ++ items_after p) (stages_ranked rank (several p) p.back_width 0 p.delay (items_after p) wires_ranked))
