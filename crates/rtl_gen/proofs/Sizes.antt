-- A plan of an accepted march and memory has the sizes that its module needs.
use Rattle.std.proofs.Common.{◌≡◌, ℕ, zero, suc, ◌+◌, ◌-◌, ◌^◌, ◌<◌, ◌≤◌, inl, inr, List, [], ◌∷◌, length, map, sym, ap, ◌∙◌, subst, arith, lit<}
use Rattle.std.specs.Prelude.{slice_index_or}
use Rattle.std.specs.List.{AllByRecursion}
use Rattle.std.proofs.lemmas.List.{length-map}
use Rattle.std.proofs.Math.Nat.{pow-le-pow_right}
use Rattle.bist_bits.specs.Width.{IsWidthOf}
use Rattle.verilog_tree.specs.Words.{is_name}
use Rattle.march_core.specs.March.{MarchElement, pause, sweep, ops_of, IsElement, ops_at, IsMarch}
use Rattle.march_core.proofs.Built.{march_some}
use Rattle.scrambler.specs.Scrambling.{Scrambling, row}
use Rattle.memory_desc.specs.Descriptions.{Description, IsMemory}
use Rattle.rtl_layout.specs.Plan.{Plan}
use Rattle.rtl_layout.specs.Control.{nothing, element_at, background_at}
use Rattle.rtl_layout.specs.Shows.{Ready, Sized, IsPlan, no_row, mask_at}
use Rattle.rtl_gen.specs.inner.Planned.{operation_of, element_of, rows_from, Plans}
use Rattle.rtl_gen.proofs.Listed.{length-rows}
use Rattle.self_test.proofs.Named.{module_name_legal}

-- what the numbers of a plan are made from
pub record Widths (march : List MarchElement) (d : Description) (p : Plan) (most : ℕ) : Type 0 where
  pub rows : p.rows ≡ rows_from d.scramble 0 d.scramble.width
  pub pause_low : 1 ≤ p.pause
  pub pause_high : p.pause ≤ 65536
  pub pause_holds : p.pause - 1 < 2 ^ p.visit_width
  pub visit_holds : p.addr_width ≤ p.visit_width
  pub visit_narrow : p.visit_width ≤ 16
  pub element : IsWidthOf (length march - 1) p.element_width
  pub most_low : 1 ≤ most
  pub most_high : most ≤ 16
  pub most_each : (k : ℕ) → length (ops_at march k) ≤ most
  pub oper : IsWidthOf (most - 1) p.oper_width
  pub back : IsWidthOf (length d.backgrounds - 1) p.back_width

-- ---- operations

some_in : (x : MarchElement) → IsElement x → 0 < length (element_of x).operations
some_in pause h = omega arith
some_in (sweep order ops) h = let l = length-map ops operation_of in elim h [ inl e ↦ cc | inr k ↦ let s = k.0 in omega arith ]

operations_some : (xs : List MarchElement) → AllByRecursion IsElement xs → (k : ℕ) → 0 < length (slice_index_or (map element_of xs) k nothing).operations
operations_some [] a k = omega arith
operations_some (x ∷ xs) a zero = some_in x a.0
operations_some (x ∷ xs) a (suc k) = operations_some xs a.1 k

few_in : (x : MarchElement) (most : ℕ) → 1 ≤ most → length (ops_of x) ≤ most → length (element_of x).operations ≤ most
few_in pause most h l = h
few_in (sweep order ops) most h l = let e = length-map ops operation_of in omega arith

operations_few : (xs : List MarchElement) (most : ℕ) → 1 ≤ most → ((k : ℕ) → length (ops_at xs k) ≤ most) → (k : ℕ) → length (slice_index_or (map element_of xs) k nothing).operations ≤ most
operations_few [] most h l k = h
operations_few (x ∷ xs) most h l zero = few_in x most h (l 0)
operations_few (x ∷ xs) most h l (suc k) = operations_few xs most h (λ j. l (suc j)) k

-- ---- rows

mask_in : (m : Scrambling) (i n j : ℕ) → j < n → (slice_index_or (rows_from m i n) j no_row).mask ≡ row m (i + j)
mask_in m i zero j h = absurd (omega arith)
mask_in m i (suc n) zero h = let here : i ≡ i + 0 = omega arith in ap (row m) here
mask_in m i (suc n) (suc j) h = let on : i + 1 + j ≡ i + suc j = omega arith in mask_in m (i + 1) n j (omega arith) ∙ ap (row m) on

narrow : (n w : ℕ) → n < 2 ^ 16 → IsWidthOf n w → w ≤ 16
narrow n w h i = i.least 16 (omega arith) h

module _ (march : List MarchElement) (d : Description) (p : Plan) (pl : Plans march d p) (most : ℕ) (w : Widths march d p most) (m : IsMarch march) (n : IsMemory d) where
  count : length p.elements ≡ length march
  count = ap length pl.elements ∙ length-map march element_of

  some : (k : ℕ) → 0 < length (element_at p k).operations
  some k = subst (λ l. 0 < length (slice_index_or l k nothing).operations) (sym pl.elements) (operations_some march m.each k)

  few : (k : ℕ) → length (element_at p k).operations ≤ 2 ^ p.oper_width
  few k =
      let l : length (element_at p k).operations ≤ most = subst (λ l. length (slice_index_or l k nothing).operations ≤ most) (sym pl.elements) (operations_few march most w.most_low w.most_each k) in
      let h = w.oper.holds in
      let s = w.most_low in
      omega arith

  address_wide : p.words ≤ 2 ^ p.addr_width
  address_wide =
      let h = n.address.holds in
      let l = n.words_low in
      let a : d.words ≤ 2 ^ d.scramble.width = omega arith in
      let b : d.words ≤ 2 ^ p.addr_width = subst (λ k. d.words ≤ 2 ^ k) (sym pl.address_width) a in
      subst (λ k. k ≤ 2 ^ p.addr_width) (sym pl.words) b

  full : length p.rows ≡ p.addr_width
  full = ap length w.rows ∙ length-rows d.scramble 0 d.scramble.width ∙ sym pl.address_width

  masks : (j : ℕ) → j < length p.rows → mask_at p j < 2 ^ p.addr_width
  masks j h =
      let f = full in
      let e = pl.address_width in
      let inside : j < d.scramble.width = omega arith in
      let on : 0 + j ≡ j = omega arith in
      let is : mask_at p j ≡ row d.scramble j = ap (λ l. (slice_index_or l j no_row).mask) w.rows ∙ mask_in d.scramble 0 d.scramble.width j inside ∙ ap (row d.scramble) on in
      subst (λ v. v < 2 ^ p.addr_width) (sym is) (subst (λ k. row d.scramble j < 2 ^ k) (sym pl.address_width) (n.full.rows_fit j inside))

  grounds : (j : ℕ) → j < length p.backgrounds → background_at p j < 2 ^ p.bits
  grounds j h =
      let inside : j < length d.backgrounds = let e = ap length pl.backgrounds in omega arith in
      subst (λ l. slice_index_or l j 0 < 2 ^ p.bits) (sym pl.backgrounds) (subst (λ k. slice_index_or d.backgrounds j 0 < 2 ^ k) (sym pl.bits) (n.tested.fit j 0 inside))

  polarity : p.polarity < 2 ^ p.bits
  polarity = subst (λ k. p.polarity < 2 ^ k) (sym pl.bits) (subst (λ k. k < 2 ^ d.bits) (sym pl.polarity) n.polarity)

  element_narrow : p.element_width ≤ 16
  element_narrow = let l = m.elements_within in narrow (length march - 1) p.element_width (omega arith) w.element

  oper_narrow : p.oper_width ≤ 16
  oper_narrow = let l = w.most_high in narrow (most - 1) p.oper_width (omega arith) w.oper

  row_narrow : 2 ^ p.oper_width ≤ 64
  row_narrow =
      let l = w.most_high in
      let k : p.oper_width ≤ 4 = w.oper.least 4 (omega arith) (omega arith) in
      let g : 2 ^ p.oper_width ≤ 2 ^ 4 = pow-le-pow_right (lit< tt) k in
      omega arith

  back_narrow : p.back_width ≤ 16
  back_narrow = let l = n.tested.few in narrow (length d.backgrounds - 1) p.back_width (omega arith) w.back

  sized : Sized p
  sized =
      let e = element_narrow in
      let o = oper_narrow in
      let b = back_narrow in
      let v = w.visit_narrow in
      let a = w.visit_holds in
      record {
        addr_some = let s = n.address.positive in let e = pl.address_width in omega arith;
        addr_narrow = omega arith;
        visit_holds = w.visit_holds;
        visit_narrow = omega arith;
        element_some = w.element.positive;
        element_narrow = omega arith;
        oper_some = w.oper.positive;
        oper_narrow = omega arith;
        row_narrow = row_narrow;
        back_some = w.back.positive;
        back_narrow = omega arith;
        bits_some = let s = n.bits_low in let q = pl.bits in omega arith;
        bits_narrow = let s = n.bits_high in let q = pl.bits in omega arith;
        rows_full = full;
        masks_fit = masks;
        grounds_fit = grounds;
        polarity_fits = polarity;
      }

  ready : Ready p
  ready = record {
    sized = sized;
    has_element = let s = march_some march m in let c = count in omega arith;
    has_background = let s = n.tested.some in let c = ap length pl.backgrounds in omega arith;
    has_operation = some;
    has_word = let s = n.words_low in let e = pl.words in omega arith;
    has_pause = let s = w.pause_low in omega arith;
    elements_fit = let h = w.element.holds in let c = count in omega arith;
    backgrounds_fit = let h = w.back.holds in let c = ap length pl.backgrounds in omega arith;
    words_fit = let a = address_wide in let g : 2 ^ p.addr_width ≤ 2 ^ p.visit_width = pow-le-pow_right (lit< tt) w.visit_holds in omega arith;
    pause_fits = let h = w.pause_holds in let s = w.pause_low in omega arith;
    operations_fit = few;
    index_fits = address_wide;
  }

  pub is_plan : IsPlan p
  is_plan = record {
    ready = ready;
    few_ages = let l = n.latency_high in let e = pl.latency in omega arith;
    few_elements = let l = m.elements_within in let e = count in omega arith;
    few_backgrounds = let l = n.tested.few in let e = ap length pl.backgrounds in omega arith;
    element_small = element_narrow;
    oper_small = oper_narrow;
    back_small = back_narrow;
    name = ap is_name pl.name ∙ module_name_legal d.name n.name;
  }
