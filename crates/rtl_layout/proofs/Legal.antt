-- The module breaks no rule.
use Rattle.std.proofs.Common.{◌≡◌, ℕ, zero, suc, ◌+◌, ◌-◌, ◌^◌, ◌<◌, ◌≤◌, Bool, true, false, cond, nat_eq, List, [], ◌∷◌, ◌++◌, length, take, drop, map, Some, is_none, refl, sym, ap, ◌∙◌, subst, arith, inl, inr}
use Rattle.std.proofs.lemmas.Bool.Decides.{eqb_tells, leb_tells}
use Rattle.std.proofs.lemmas.List.{length-drop}
use Rattle.std.proofs.lemmas.Nat.{pow_pos}
use Rattle.std.specs.Prelude.{slice_index_or}
use Rattle.std.specs.Str.{bytes_eq}
use Rattle.verilog_tree.specs.declared.tree.BinOp.TheVariants.{Add, Ne}
use Rattle.verilog_tree.specs.declared.names.Kind.{Kind}
use Rattle.verilog_tree.specs.declared.names.Kind.TheVariants as K
use Rattle.verilog_tree.specs.Plain.{Expression, Net, BitSelect, PartSelect, Concatenation, Infixed, Expressions, NoMore, Followed, ModuleItem}
use Rattle.verilog_tree.specs.Names.{Declaration, declarations, item_declarations, lookup, declared_width, is_wire, is_register, is_clk, is_declared_as}
use Rattle.verilog_tree.specs.Meaning.{bit, width, widths}
use Rattle.rtl_layout.specs.Build.{lit, choose, bit_of, leaf, below, pick, rotated, counted, number_of, step_while, at_reset, counter}
use Rattle.rtl_layout.specs.declared.row.Row.{Row}
use Rattle.rtl_layout.specs.Plan.{Element, Plan, several, several_bits, port_word, is_single, limit}
use Rattle.rtl_layout.specs.Layout as L
use Rattle.rtl_layout.specs.Layout.{stage_regs, stage_sets, aged, reads_at, over_at, value_at, back_at, feed_reads, feed_over, end_regs, wires, digit_regs, self_test, by_element, by_next, in_row, pattern_of, word_of}
use Rattle.rtl_layout.specs.Control.{nothing, element_at}
use Rattle.rtl_layout.specs.Shows.{Ready, Sized}
use Rattle.rtl_layout.proofs.Choice.{leaf_map, length_map, leaf_drop, leaf_take, length_take, AllWide, below_wide}
use Rattle.rtl_layout.proofs.Rows.{length_counted, counted_below, length_rotated}
use Rattle.rtl_layout.proofs.Stages.{Ageless, lookup_behind_one, lookup_behind, found_reads, found_over, found_value, found_back, reg}
use Rattle.verilog_tree.proofs.Sound.{Known, Sound, SoundParts, GoodAssign, GoodAssigns, GoodSet, GoodSets, sets_append}

-- ---- choices

module _ (w : List ℕ → ℕ) (ds : List Declaration) (n : List ℕ) (k : ℕ) (known : Known ds n) (wide : w n ≡ k) (some : 1 ≤ k) where
  bit_of_sound : (i : ℕ) → i < k → Sound w ds (bit_of n k i)
  bit_of_sound i h =
      elim (eqb_tells k 1) [
        | inl q ↦ subst (λ t. Sound w ds (cond t (Net n) (BitSelect n i))) (sym q.0) known
        | inr q ↦ let ne = q.1 in subst (λ t. Sound w ds (cond t (Net n) (BitSelect n i))) (sym q.0) (known, omega arith, omega arith)
      ]

  -- choices among sound leaves of one width are sound
  pub below_sound : (m i : ℕ) (xs : List Expression) → i ≤ k → 0 < length xs → ((j : ℕ) → j < length xs → Sound w ds (leaf xs j)) → AllWide w m xs → Sound w ds (below n k i xs)
  below_sound m zero xs h l s a = s 0 l
  below_sound m (suc i) xs h l s a =
      elim (leb_tells (length xs) (2 ^ i)) [
        | inl q ↦ subst (λ t. Sound w ds (cond t (below n k i xs) more)) (sym q.0) (below_sound m i xs (omega arith) l s a)
        | inr q ↦
            let many = q.1 in
            let behind = length-drop (2 ^ i) xs in
            let before = length_take (2 ^ i) xs (omega arith) in
            let p = pow_pos i in
            let high_leaf : (j : ℕ) → leaf (drop (2 ^ i) xs) j ≡ leaf xs (2 ^ i + j) = λ j. leaf_drop (2 ^ i) j (2 ^ i + j) xs refl in
            let high_wide : AllWide w m (drop (2 ^ i) xs) = λ j g. ap (width w) (high_leaf j) ∙ a (2 ^ i + j) (omega arith) in
            let low_wide : AllWide w m (take (2 ^ i) xs) = λ j g. ap (width w) (leaf_take (2 ^ i) j xs (omega arith)) ∙ a j (omega arith) in
            subst (λ t. Sound w ds (cond t (below n k i xs) more)) (sym q.0) (
              bit_of_sound i (omega arith),
              below_sound m i (drop (2 ^ i) xs) (omega arith) (omega arith) (λ j g. subst (λ x. Sound w ds x) (sym (high_leaf j)) (s (2 ^ i + j) (omega arith))) high_wide,
              below_sound m i (take (2 ^ i) xs) (omega arith) (omega arith) (λ j g. subst (λ x. Sound w ds x) (sym (leaf_take (2 ^ i) j xs (omega arith))) (s j (omega arith))) low_wide,
              below_wide w n k m i (drop (2 ^ i) xs) (omega arith) high_wide ∙ sym (below_wide w n k m i (take (2 ^ i) xs) (omega arith) low_wide),
            )
      ]
    where
      more : Expression
      more = choose (bit_of n k i) (below n k i (drop (2 ^ i) xs)) (below n k i (take (2 ^ i) xs))

  -- a choice among what a table gives
  pub pick_sound : {A : Type 0} (m : ℕ) (f : A → Expression) (d : A) (xs : List A) → 0 < length xs → ((j : ℕ) → j < length xs → Sound w ds (f (slice_index_or xs j d)) × (width w (f (slice_index_or xs j d)) ≡ m))
      → Sound w ds (pick n k (map f xs)) × (width w (pick n k (map f xs)) ≡ m)
  pick_sound m f d xs h s =
      let size = length_map f xs in
      let all : AllWide w m (map f xs) = λ j g. ap (width w) (leaf_map f d xs j (omega arith)) ∙ (s j (omega arith)).1 in (
        below_sound m k (map f xs) (omega arith) (omega arith) (λ j g. subst (λ x. Sound w ds x) (sym (leaf_map f d xs j (omega arith))) (s j (omega arith)).0) all,
        below_wide w n k m k (map f xs) (omega arith) all,
      )

-- ---- the names of the module

-- what is declared
abbrev pub declared : Plan → List ModuleItem
declared p = digit_regs p ++ (L.one_reg (several_bits p) ++ (stage_regs (several p) p.back_width 0 p.delay ++ (end_regs p ++ wires p)))

abbrev pub names : Plan → List Declaration
names p = declarations (L.ports p) (declared p)

abbrev pub wide : Plan → List ℕ → ℕ
wide p n = declared_width (lookup (names p) n)

-- a name of the module, which is not its clock
pub record Has (p : Plan) (n : List ℕ) (k : Kind) (v : ℕ) : Type 0 where
  pub found : lookup (names p) n ≡ Some (record { name = n; kind = k; width = v })
  pub no_clock : is_clk n ≡ false

pub ageless : (n : List ℕ) → ((j : ℕ) → bytes_eq n (reads_at (suc j)) ≡ false) → ((j : ℕ) → bytes_eq n (over_at (suc j)) ≡ false) → ((j : ℕ) → bytes_eq n (value_at (suc j)) ≡ false) → ((j : ℕ) → bytes_eq n (aged L.back (suc j)) ≡ false) → Ageless 0 n
ageless n a b c d = record { no_reads = λ j l. a j; no_over = λ j l. b j; no_value = λ j l. c j; no_back = λ j l. d j }

module _ (p : Plan) where
  -- of the ports and the digits
  here : (n : List ℕ) (k : Kind) (v : ℕ) → lookup (names p) n ≡ Some (record { name = n; kind = k; width = v }) → is_clk n ≡ false → Has p n k v
  here n k v h c = record { found = h; no_clock = c }

  -- behind the digits and the operation's bit
  abbrev Ages : List ModuleItem
  Ages = stage_regs (several p) p.back_width 0 p.delay ++ (end_regs p ++ wires p)

  -- of the ages, or behind them
  of_ages : (n : List ℕ) (k : Kind) (v : ℕ) → lookup (item_declarations Ages) n ≡ Some (record { name = n; kind = k; width = v }) → bytes_eq n L.one ≡ false → is_clk n ≡ false
      → lookup (names p) n ≡ lookup (item_declarations (L.one_reg (several_bits p) ++ Ages)) n → Has p n k v
  of_ages n k v h o c e = record { found = e ∙ lookup_behind_one n (several_bits p) o Ages ∙ h; no_clock = c }

  -- behind the registers of the ages
  behind : (n : List ℕ) (k : Kind) (v : ℕ) → Ageless 0 n → lookup (item_declarations (end_regs p ++ wires p)) n ≡ Some (record { name = n; kind = k; width = v }) → bytes_eq n L.one ≡ false → is_clk n ≡ false
      → lookup (names p) n ≡ lookup (item_declarations (L.one_reg (several_bits p) ++ Ages)) n → Has p n k v
  behind n k v f h = of_ages n k v (lookup_behind n (several p) p.back_width 0 p.delay f (end_regs p ++ wires p) ∙ h)

  one_at : several_bits p ≡ true → Has p L.one K.Register 1
  one_at h = here L.one K.Register 1 (ap (λ t. lookup (item_declarations (L.one_reg t ++ Ages)) L.one) h) refl

  want_at : Has p L.want K.Register p.bits
  want_at = behind L.want K.Register p.bits (ageless L.want (λ j. refl) (λ j. refl) (λ j. refl) (λ j. refl)) refl refl refl refl

  bad_at : Has p L.bad K.Register 1
  bad_at = behind L.bad K.Register 1 (ageless L.bad (λ j. refl) (λ j. refl) (λ j. refl) (λ j. refl)) refl refl refl refl

  writes_at : Has p L.writes K.Wire (L.row_width p)
  writes_at = behind L.writes K.Wire (L.row_width p) (ageless L.writes (λ j. refl) (λ j. refl) (λ j. refl) (λ j. refl)) refl refl refl refl

  ones_at : Has p L.ones K.Wire (L.row_width p)
  ones_at = behind L.ones K.Wire (L.row_width p) (ageless L.ones (λ j. refl) (λ j. refl) (λ j. refl) (λ j. refl)) refl refl refl refl

  ends_at : Has p L.ends K.Wire (L.row_width p)
  ends_at = behind L.ends K.Wire (L.row_width p) (ageless L.ends (λ j. refl) (λ j. refl) (λ j. refl) (λ j. refl)) refl refl refl refl

  write_at : Has p L.write K.Wire 1
  write_at = behind L.write K.Wire 1 (ageless L.write (λ j. refl) (λ j. refl) (λ j. refl) (λ j. refl)) refl refl refl refl

  down_at : Has p L.down K.Wire 1
  down_at = behind L.down K.Wire 1 (ageless L.down (λ j. refl) (λ j. refl) (λ j. refl) (λ j. refl)) refl refl refl refl

  pause_at : Has p L.pause K.Wire 1
  pause_at = behind L.pause K.Wire 1 (ageless L.pause (λ j. refl) (λ j. refl) (λ j. refl) (λ j. refl)) refl refl refl refl

  ends_more_at : Has p L.ends_more K.Wire 1
  ends_more_at = behind L.ends_more K.Wire 1 (ageless L.ends_more (λ j. refl) (λ j. refl) (λ j. refl) (λ j. refl)) refl refl refl refl

  ends_again_at : Has p L.ends_again K.Wire 1
  ends_again_at = behind L.ends_again K.Wire 1 (ageless L.ends_again (λ j. refl) (λ j. refl) (λ j. refl) (λ j. refl)) refl refl refl refl

  ends_next_at : Has p L.ends_next K.Wire 1
  ends_next_at = behind L.ends_next K.Wire 1 (ageless L.ends_next (λ j. refl) (λ j. refl) (λ j. refl) (λ j. refl)) refl refl refl refl

  pause_next_at : Has p L.pause_next K.Wire 1
  pause_next_at = behind L.pause_next K.Wire 1 (ageless L.pause_next (λ j. refl) (λ j. refl) (λ j. refl) (λ j. refl)) refl refl refl refl

  last_element_at : Has p L.last_element K.Wire 1
  last_element_at = behind L.last_element K.Wire 1 (ageless L.last_element (λ j. refl) (λ j. refl) (λ j. refl) (λ j. refl)) refl refl refl refl

  last_back_at : Has p L.last_back K.Wire 1
  last_back_at = behind L.last_back K.Wire 1 (ageless L.last_back (λ j. refl) (λ j. refl) (λ j. refl) (λ j. refl)) refl refl refl refl

  live_at : Has p L.live K.Wire 1
  live_at = behind L.live K.Wire 1 (ageless L.live (λ j. refl) (λ j. refl) (λ j. refl) (λ j. refl)) refl refl refl refl

  index_at : Has p L.index K.Wire p.addr_width
  index_at = behind L.index K.Wire p.addr_width (ageless L.index (λ j. refl) (λ j. refl) (λ j. refl) (λ j. refl)) refl refl refl refl

  pub pattern_at : Has p L.pattern K.Wire p.bits
  pattern_at = behind L.pattern K.Wire p.bits (ageless L.pattern (λ j. refl) (λ j. refl) (λ j. refl) (λ j. refl)) refl refl refl refl

  word_at : Has p L.word K.Wire p.bits
  word_at = behind L.word K.Wire p.bits (ageless L.word (λ j. refl) (λ j. refl) (λ j. refl) (λ j. refl)) refl refl refl refl

  reset_at : Has p L.reset K.Input 1
  reset_at = here L.reset K.Input 1 refl refl

  rdata_at : Has p L.rdata K.Input p.bits
  rdata_at = here L.rdata K.Input p.bits refl refl

  oper_at : Has p L.oper K.Register p.oper_width
  oper_at = here L.oper K.Register p.oper_width refl refl

  visit_at : Has p L.visit K.Register p.visit_width
  visit_at = here L.visit K.Register p.visit_width refl refl

  element_is : Has p L.element K.Register p.element_width
  element_is = here L.element K.Register p.element_width refl refl

  back_is : Has p L.back K.Register p.back_width
  back_is = here L.back K.Register p.back_width refl refl

  run_at : Has p L.run K.Register 1
  run_at = here L.run K.Register 1 refl refl

  last_oper_at : Has p L.last_oper K.Register 1
  last_oper_at = here L.last_oper K.Register 1 refl refl

  last_visit_at : Has p L.last_visit K.Register 1
  last_visit_at = here L.last_visit K.Register 1 refl refl

  value_is : Has p L.value K.Wire 1
  value_is = behind L.value K.Wire 1 (ageless L.value (λ j. refl) (λ j. refl) (λ j. refl) (λ j. refl)) refl refl refl refl

-- ---- the expressions of the module

-- sound, and of v bits
abbrev pub Fits : Plan → ℕ → Expression → Type 0
Fits p v x = Sound (wide p) (names p) x × (width (wide p) x ≡ v)

abbrev AllSound : Plan → List Expression → Type 0
AllSound p [] = Unit {0}
AllSound p (c ∷ cs) = Sound (wide p) (names p) c × AllSound p cs

step_fits : (p : Plan) (v : ℕ) (cs : List Expression) (x y : Expression) → AllSound p cs → Fits p v x → Fits p v y → Fits p v (step_while cs x y)
step_fits p v [] x y s h k = h
step_fits p v (c ∷ cs) x y s h k = let q = step_fits p v cs x y s.1 h k in ((s.0, q.0, k.0, q.1 ∙ sym k.1), q.1)

known : {p : Plan} {n : List ℕ} {k : Kind} {v : ℕ} → Has p n k v → Known (names p) n
known h = record { declared = ap is_none h.found; no_clock = h.no_clock }

net_fits : {p : Plan} {n : List ℕ} {k : Kind} {v : ℕ} → Has p n k v → Fits p v (Net n)
net_fits h = (known h, ap declared_width h.found)

reset_fits : (p : Plan) (v a : ℕ) (x : Expression) → Fits p v x → Fits p v (at_reset (lit v a) x)
reset_fits p v a x h = ((known (reset_at p), tt, h.0, sym h.1), refl)

counter_fits : (p : Plan) (r : List ℕ) (v : ℕ) (cs : List Expression) (last : List ℕ) → Has p r K.Register v → Known (names p) last → AllSound p cs → Fits p v (counter r v cs last)
counter_fits p r v cs last h l s =
    let net = net_fits h in
    reset_fits p v 0 (step_while cs (choose (Net last) (lit v 0) (Infixed Add (Net r) (lit v 1))) (Net r))
    (step_fits p v cs (choose (Net last) (lit v 0) (Infixed Add (Net r) (lit v 1))) (Net r) s ((l, tt, (net.0, tt, net.1), sym net.1), refl) net)

-- a bit of a wire
bit_fits : {p : Plan} (n : List ℕ) (v i : ℕ) → Has p n K.Wire v → i < v → Fits p 1 (bit_of n v i)
bit_fits {p} n v i h l =
    elim (eqb_tells v 1) [
      | inl q ↦ subst (λ t. Fits p 1 (cond t (Net n) (BitSelect n i))) (sym q.0) (known h, ap declared_width h.found ∙ q.1)
      | inr q ↦
          let ne = q.1 in
          let wide : wide p n ≡ v = ap declared_width h.found in
          subst (λ t. Fits p 1 (cond t (Net n) (BitSelect n i))) (sym q.0) ((known h, omega arith, omega arith), refl)
    ]

good : (p : Plan) {n : List ℕ} {v : ℕ} {x : Expression} → Has p n K.Wire v → Fits p v x → GoodAssign (wide p) (names p) n x
good p h f = record { sound = f.0; wide = ap declared_width h.found ∙ sym f.1; there = ap is_none h.found; wire = ap (is_declared_as (λ d. is_wire d.kind)) h.found }

good_set : (p : Plan) {n : List ℕ} {v : ℕ} {x : Expression} → Has p n K.Register v → Fits p v x → GoodSet (wide p) (names p) n x
good_set p h f = record { sound = f.0; wide = ap declared_width h.found ∙ sym f.1; there = ap is_none h.found; register = ap (is_declared_as (λ d. is_register d.kind)) h.found }

-- one more
also : {A B : Type 0} → A → B → A × B
also a b = (a, b)

also_new : {A B C : Type 0} → A → B → C → A × B × C
also_new a b c = (a, b, c)

module _ (p : Plan) (ready : Ready p) (sized : Sized p) where
  abbrev w : List ℕ → ℕ
  w = wide p

  by_element_fits : (s : ℕ) (f : Element → ℕ) → Fits p s (by_element p s f)
  by_element_fits s f =
      pick_sound w (names p) L.element p.element_width (known (element_is p)) refl sized.element_some s (λ (x : Element). lit s (f x)) nothing p.elements ready.has_element (λ j g. (tt, refl))

  by_next_fits : (f : Element → ℕ) → Fits p 1 (by_next p f)
  by_next_fits f =
      let l = length_rotated p.elements in
      let some = ready.has_element in
      pick_sound w (names p) L.element p.element_width (known (element_is p)) refl sized.element_some 1 (λ (x : Element). lit 1 (f x)) nothing (rotated p.elements) (omega arith) (λ j g. (tt, refl))

  in_row_fits : (row : List ℕ) → Has p row K.Wire (L.row_width p) → Fits p 1 (in_row p row)
  in_row_fits row h =
      let l = length_counted (L.row_width p) in
      let some = pow_pos p.oper_width in
      pick_sound w (names p) L.oper p.oper_width (known (oper_at p)) refl sized.oper_some 1 (bit_of row (L.row_width p)) 0 (counted (L.row_width p)) (omega arith)
      (λ j g. bit_fits row (L.row_width p) (slice_index_or (counted (L.row_width p)) j 0) h (counted_below (L.row_width p) j 0 g))

  pattern_fits : (k : List ℕ) → Known (names p) k → w k ≡ p.back_width → Fits p p.bits (pattern_of p k)
  pattern_fits k h e = pick_sound w (names p) k p.back_width h e sized.back_some p.bits (λ b. lit p.bits (port_word p false b)) 0 p.backgrounds ready.has_background (λ j l. (tt, refl))

  word_fits : (v : List ℕ) (x : Expression) → Known (names p) v → Fits p p.bits x → Fits p p.bits (word_of v x)
  word_fits v x h f = ((h, f.0, f.0, refl), f.1)

  visited_fits : Fits p p.addr_width (L.visited p)
  visited_fits =
      let a = sized.addr_some in
      let b = sized.visit_holds in
      let v = known (visit_at p) in
      elim (eqb_tells p.addr_width p.visit_width) [
        | inl q ↦ subst (λ t. Fits p p.addr_width (cond t (Net L.visit) (PartSelect L.visit (p.addr_width - 1) 0))) (sym q.0) (v, sym q.1)
        | inr q ↦
            let ne = q.1 in
            subst (λ t. Fits p p.addr_width (cond t (Net L.visit) (PartSelect L.visit (p.addr_width - 1) 0))) (sym q.0) ((v, omega arith, omega arith, omega arith), omega arith)
      ]

  parts_fit : (rs : List Row) (xs : Expressions) → SoundParts w (names p) xs → SoundParts w (names p) (L.address_bits p rs xs) × (widths w (L.address_bits p rs xs) ≡ length rs + widths w xs)
  parts_fit [] xs s = (s, omega arith)
  parts_fit (r ∷ rs) xs s =
      let q = parts_fit rs (Followed (L.row_bit p.addr_width r) xs) (((known (index_at p), tt, ap declared_width (index_at p).found), tt, refl), s) in
      let n : widths w (Followed (L.row_bit p.addr_width r) xs) ≡ 1 + widths w xs = refl in
      (q.0, q.1 ∙ (let m : length rs + (1 + widths w xs) ≡ length (r ∷ rs) + widths w xs = omega arith in m))

  address_fits : Fits p p.addr_width (L.address p)
  address_fits =
      let q = parts_fit p.rows NoMore tt in
      let full = sized.rows_full in
      let narrow = sized.addr_narrow in
      let all : widths w (L.address_bits p p.rows NoMore) ≡ p.addr_width = q.1 ∙ (let m : length p.rows + 0 ≡ p.addr_width = omega arith in m) in
      elim p.straight as (λ t. Fits p p.addr_width (cond t (Net L.index) (Concatenation (L.address_bits p p.rows NoMore))))
      [ true ↦ net_fits (index_at p) | false ↦ ((q.0, omega arith), all) ]

  -- ---- the ages

  reads_has : (j : ℕ) → j ≤ p.delay → Has p (reads_at (suc j)) K.Register 1
  reads_has j h = of_ages p (reads_at (suc j)) K.Register 1 (found_reads (several p) p.back_width 0 p.delay (end_regs p ++ wires p) j (omega arith) (omega arith)) refl refl refl

  over_has : (j : ℕ) → j ≤ p.delay → Has p (over_at (suc j)) K.Register 1
  over_has j h = of_ages p (over_at (suc j)) K.Register 1 (found_over (several p) p.back_width 0 p.delay (end_regs p ++ wires p) j (omega arith) (omega arith)) refl refl refl

  value_has : (j : ℕ) → j < p.delay → Has p (value_at (suc j)) K.Register 1
  value_has j h = of_ages p (value_at (suc j)) K.Register 1 (found_value (several p) p.back_width 0 p.delay (end_regs p ++ wires p) j (omega arith) (omega arith)) refl refl refl

  back_has : several p ≡ true → (j : ℕ) → j < p.delay → Has p (aged L.back (suc j)) K.Register p.back_width
  back_has q j h =
      of_ages p (aged L.back (suc j)) K.Register p.back_width
      (subst (λ t. lookup (item_declarations (stage_regs t p.back_width 0 p.delay ++ (end_regs p ++ wires p))) (aged L.back (suc j)) ≡ Some (reg (aged L.back (suc j)) p.back_width)) (sym q)
      (found_back p.back_width 0 p.delay (end_regs p ++ wires p) j (omega arith) (omega arith))) refl refl refl

  feed_reads_fits : (i : ℕ) → i ≤ p.delay → Fits p 1 (feed_reads i)
  feed_reads_fits zero h = let live = net_fits (live_at p) in ((known (write_at p), tt, live.0, sym live.1), refl)
  feed_reads_fits (suc i) h = net_fits (reads_has i (omega arith))

  feed_over_fits : (i : ℕ) → i ≤ p.delay → Fits p 1 (feed_over i)
  feed_over_fits zero h = net_fits (run_at p)
  feed_over_fits (suc i) h = net_fits (over_has i (omega arith))

  value_fits : (i : ℕ) → i ≤ p.delay → Fits p 1 (Net (value_at i))
  value_fits zero h = net_fits (value_is p)
  value_fits (suc i) h = net_fits (value_has i (omega arith))

  back_fits : (many : Bool) → several p ≡ many → (i : ℕ) → i ≤ p.delay → Fits p p.back_width (Net (back_at many i))
  back_fits many q zero h = net_fits (back_is p)
  back_fits false q (suc i) h = net_fits (back_is p)
  back_fits true q (suc i) h = net_fits (back_has q i (omega arith))

  reads_good : (i : ℕ) → i ≤ p.delay → GoodSet w (names p) (reads_at (suc i)) (L.gated (feed_reads i))
  reads_good i h = good_set p (reads_has i h) (reset_fits p 1 0 (feed_reads i) (feed_reads_fits i h))

  over_good : (i : ℕ) → i ≤ p.delay → GoodSet w (names p) (over_at (suc i)) (L.gated (feed_over i))
  over_good i h = good_set p (over_has i h) (reset_fits p 1 0 (feed_over i) (feed_over_fits i h))

  value_good : (i : ℕ) → i < p.delay → GoodSet w (names p) (value_at (suc i)) (L.gated (Net (value_at i)))
  value_good i h = good_set p (value_has i h) (reset_fits p 1 0 (Net (value_at i)) (value_fits i (omega arith)))

  back_good : several p ≡ true → (i : ℕ) → i < p.delay → GoodSet w (names p) (aged L.back (suc i)) (at_reset (lit p.back_width 0) (Net (back_at true i)))
  back_good q i h = good_set p (back_has q i h) (reset_fits p p.back_width 0 (Net (back_at true i)) (back_fits true q i (omega arith)))

  stages_good : (many : Bool) → several p ≡ many → (i n : ℕ) → i + n ≡ p.delay → GoodSets w (names p) (stage_sets many p.back_width i n)
  stages_good many q i zero m = (reads_good i (omega arith), (over_good i (omega arith), tt))
  stages_good true q i (suc n) m = (reads_good i (omega arith), (over_good i (omega arith), (value_good i (omega arith), (back_good q i (omega arith), stages_good true q (suc i) n (omega arith)))))
  stages_good false q i (suc n) m = (reads_good i (omega arith), (over_good i (omega arith), (value_good i (omega arith), stages_good false q (suc i) n (omega arith))))

  -- ---- the block

  turning_good : (r : List ℕ) (next again more : Expression) (first : Bool) → Has p r K.Register 1 → Fits p 1 next → Fits p 1 again → Fits p 1 more → GoodSet w (names p) r (L.turning r first next again more)
  turning_good r next again more first h n a m =
      let ends = choose (Net L.last_oper) (choose (Net L.last_visit) next again) more in
      good_set p h
      (reset_fits p 1 (bit first) (step_while (Net L.run ∷ []) ends (Net r))
      (step_fits p 1 (Net L.run ∷ []) ends (Net r) (known (run_at p), tt)
      ((known (last_oper_at p), (known (last_visit_at p), n.0, a.0, n.1 ∙ sym a.1), m.0, n.1 ∙ sym m.1), n.1) (net_fits h)))

  last_visit_good : GoodSet w (names p) L.last_visit (L.last_visit_next p)
  last_visit_good =
      let ends = choose (Net L.last_visit) (L.visit_ends_next p) (L.visit_ends_more p) in
      good_set p (last_visit_at p)
      (reset_fits p 1 (bit (nat_eq (limit p (element_at p 0)) 1)) (step_while (Net L.run ∷ Net L.last_oper ∷ []) ends (Net L.last_visit))
      (step_fits p 1 (Net L.run ∷ Net L.last_oper ∷ []) ends (Net L.last_visit) (known (run_at p), (known (last_oper_at p), tt))
      ((known (last_visit_at p), (known (pause_next_at p), tt, tt, refl), (known (visit_at p), (known (pause_at p), tt, tt, refl), refl), refl), refl) (net_fits (last_visit_at p))))

  digits_good : GoodSets w (names p) (L.digit_sets p)
  digits_good =
      let run = known (run_at p) in
      let oper = known (last_oper_at p) in
      let visit = known (last_visit_at p) in
      let element = known (last_element_at p) in
      let back = known (last_back_at p) in
      also (good_set p (oper_at p) (counter_fits p L.oper p.oper_width (Net L.run ∷ []) L.last_oper (oper_at p) oper (run, tt)))
      (also (good_set p (visit_at p) (counter_fits p L.visit p.visit_width (Net L.run ∷ Net L.last_oper ∷ []) L.last_visit (visit_at p) visit (run, (oper, tt))))
      (also (good_set p (element_is p) (counter_fits p L.element p.element_width (Net L.run ∷ Net L.last_oper ∷ Net L.last_visit ∷ []) L.last_element (element_is p) element (run, (oper, (visit, tt)))))
      (also (good_set p (back_is p) (counter_fits p L.back p.back_width (Net L.run ∷ Net L.last_oper ∷ Net L.last_visit ∷ Net L.last_element ∷ []) L.last_back (back_is p) back (run, (oper, (visit, (element, tt))))))
      (also (good_set p (run_at p)
      (reset_fits p 1 1 (step_while (Net L.run ∷ Net L.last_oper ∷ Net L.last_visit ∷ Net L.last_element ∷ Net L.last_back ∷ []) (lit 1 0) (Net L.run))
      (step_fits p 1 (Net L.run ∷ Net L.last_oper ∷ Net L.last_visit ∷ Net L.last_element ∷ Net L.last_back ∷ []) (lit 1 0) (Net L.run) (run, (oper, (visit, (element, (back, tt))))) (tt, refl) (net_fits (run_at p)))))
      (also (turning_good L.last_oper (Net L.ends_next) (Net L.ends_again) (Net L.ends_more) (is_single (element_at p 0)) (last_oper_at p) (net_fits (ends_next_at p)) (net_fits (ends_again_at p)) (net_fits (ends_more_at p)))
      (also last_visit_good
      tt))))))

  one_good : (wide : Bool) → several_bits p ≡ wide → GoodSets w (names p) (L.one_set p wide)
  one_good true h = (
    turning_good L.one (by_next p (λ x. bit (L.begins_one x))) (by_element p 1 (λ x. bit (L.begins_one x))) (in_row p L.ones) (L.begins_one (element_at p 0))
        (one_at p h) (by_next_fits (λ x. bit (L.begins_one x))) (by_element_fits 1 (λ x. bit (L.begins_one x))) (in_row_fits L.ones (ones_at p)),
    tt,
  )
  one_good false h = tt

  want_good : GoodSet w (names p) L.want (L.want_next p)
  want_good =
      let b = back_fits (several p) refl p.delay (omega arith) in
      let v = value_fits p.delay (omega arith) in
      let aged = word_of (value_at p.delay) (pattern_of p (back_at (several p) p.delay)) in
      let fits : Fits p p.bits aged = word_fits (value_at p.delay) (pattern_of p (back_at (several p) p.delay)) v.0 (pattern_fits (back_at (several p) p.delay) b.0 b.1) in
      good_set p (want_at p) (elim (nat_eq p.delay 0) as (λ t. Fits p p.bits (cond t (Net L.word) aged)) [ true ↦ net_fits (word_at p) | false ↦ fits ])

  ends_good : GoodSets w (names p) (L.end_sets p)
  ends_good =
      let cs = Net (reads_at (suc p.delay)) ∷ Infixed Ne (Net L.rdata) (Net L.want) ∷ [] in
      let sound : AllSound p cs = (known (reads_has p.delay (omega arith)), ((known (rdata_at p), known (want_at p), sym (ap declared_width (want_at p).found)), tt)) in
      also want_good
      (also (good_set p (bad_at p) (reset_fits p 1 0 (step_while cs (lit 1 1) (Net L.bad)) (step_fits p 1 cs (lit 1 1) (Net L.bad) sound (tt, refl) (net_fits (bad_at p)))))
      tt)

  pub block_good : GoodSets w (names p) (L.sets_all p)
  block_good = sets_append w (names p) (L.digit_sets p) (L.one_set p (several_bits p) ++ (stage_sets (several p) p.back_width 0 p.delay ++ L.end_sets p)) digits_good
      (sets_append w (names p) (L.one_set p (several_bits p)) (stage_sets (several p) p.back_width 0 p.delay ++ L.end_sets p) (one_good (several_bits p) refl)
      (sets_append w (names p) (stage_sets (several p) p.back_width 0 p.delay) (L.end_sets p) (stages_good (several p) refl 0 p.delay (omega arith)) ends_good))

  -- ---- the assigns

  row_fits : (f : Element → ℕ → Bool) → Fits p (L.row_width p) (L.flag_row p f)
  row_fits f = by_element_fits (L.row_width p) (λ x. number_of (map (f x) (counted (L.row_width p))))

  value_now_fits : (wide : Bool) → several_bits p ≡ wide → Fits p 1 (cond wide (Net L.one) (in_row p L.ones))
  value_now_fits true h = net_fits (one_at p h)
  value_now_fits false h = in_row_fits L.ones (ones_at p)

  pub assigns_good : GoodAssigns w (names p) [] (L.wire_assigns p ++ L.port_assigns p)
  assigns_good =
      let pause = known (pause_at p) in
      let run = net_fits (run_at p) in
      let v = visited_fits in
      also_new (good p (writes_at p) (row_fits L.writes_at)) refl
      (also_new (good p (ones_at p) (row_fits (L.ones_row p))) refl
      (also_new (good p (ends_at p) (row_fits L.ends_behind)) refl
      (also_new (good p (write_at p) (in_row_fits L.writes (writes_at p))) refl
      (also_new (good p (value_is p) (value_now_fits (several_bits p) refl)) refl
      (also_new (good p (down_at p) (by_element_fits 1 (λ x. bit x.down))) refl
      (also_new (good p (pause_at p) (by_element_fits 1 (λ x. bit x.pause))) refl
      (also_new (good p (ends_more_at p) (in_row_fits L.ends (ends_at p))) refl
      (also_new (good p (ends_again_at p) (by_element_fits 1 (λ x. bit (is_single x)))) refl
      (also_new (good p (ends_next_at p) (by_next_fits (λ x. bit (is_single x)))) refl
      (also_new (good p (pause_next_at p) (by_next_fits (λ x. bit x.pause))) refl
      (also_new (good p (last_element_at p) ((known (element_is p), tt, refl), refl)) refl
      (also_new (good p (last_back_at p) ((known (back_is p), tt, refl), refl)) refl
      (also_new (good p (live_at p) ((pause, tt, run.0, sym run.1), refl)) refl
      (also_new (good p (index_at p) ((known (down_at p), (tt, v.0, sym v.1), v.0, sym v.1), refl)) refl
      (also_new (good p (pattern_at p) (pattern_fits L.back (known (back_is p)) refl)) refl
      (also_new (good p (word_at p) (word_fits L.value (Net L.pattern) (known (value_is p)) (net_fits (pattern_at p)))) refl
      (also_new (good p (here p L.en K.Wire 1 refl refl) (reset_fits p 1 0 (Net L.live) (net_fits (live_at p)))) refl
      (also_new (good p (here p L.we K.Wire 1 refl refl) (net_fits (write_at p))) refl
      (also_new (good p (here p L.addr K.Wire p.addr_width refl refl) address_fits) refl
      (also_new (good p (here p L.wdata K.Wire p.bits refl refl) (net_fits (word_at p))) refl
      (also_new (good p (here p L.done K.Wire 1 refl refl) (reset_fits p 1 0 (Net (over_at (suc p.delay))) (net_fits (over_has p.delay (omega arith))))) refl
      (also_new (good p (here p L.fail K.Wire 1 refl refl) (reset_fits p 1 0 (Net L.bad) (net_fits (bad_at p)))) refl
      tt))))))))))))))))))))))
