-- A generated top can be written as text.
use Rattle.std.proofs.Common.{◌≡◌, ℕ, zero, suc, ◌+◌, ◌-◌, ◌<◌, ◌≤◌, cond, Bool, true, false, ◌&&◌, nat_lt, nat_eq, List, [], ◌∷◌, ◌++◌, length, Some, slice_get, refl, subst, arith, lt-ltb, append_assoc}
use Rattle.std.specs.Fmt.{digits}
use Rattle.verilog_tree.specs.Plain.{Concatenation, ModuleItem, ModulePort}
use Rattle.verilog_tree.specs.Words.{is_name}
use Rattle.verilog_tree.specs.Fits.{expression_fits, expressions_fit, items_fit, ports_fit}
use Rattle.verilog_tree.specs.Formed.{is_width, expression_formed, items_formed}
use Rattle.memory_desc.specs.Descriptions.{Description, IsMemory}
use Rattle.self_test.specs.SelfTest.{module_name}
use Rattle.chip_plan.specs.Groups.{last_group}
use Rattle.chip_plan.proofs.Filling.{few_groups}
use Rattle.chip_rtl.specs.ChipLaws.{memories, weights}
use Rattle.chip_rtl.specs.ChipTree.{LinkTree}
use Rattle.chip_rtl.specs.Tops.{rdata_of, en_of, we_of, addr_of, wdata_of, over_of, bad_of, hold_of, unit_of, unit_ports, members, over_from, all_over, unit_wires, hold_wires, hold_assigns, bad_parts, top_assigns, reset_net, unit_links, placed_units, top_of}
use Rattle.chip_rtl.proofs.Forms.{Wide, width_is, both, units_formed, wires_formed, holds_formed, fail_formed, over_formed}
use Rattle.chip_rtl.proofs.Composing.{same_count}
use Rattle.chip_rtl.proofs.Whole.{counted, wide_at, memory_of, unit_of_memory}
use Rattle.chip_rtl.specs.TopFits.{all_own, links_fit, placed_fit, TopFits}
use Rattle.chip_rtl.specs.PrintedLaws.{GeneratedFit}
use Rattle.self_test.proofs.Named.{module_name_legal}

-- ---- names with small numbers

-- of the first n numbers
abbrev all_first : ℕ → (ℕ → Bool) → Bool
all_first zero p = true
all_first (suc n) p = p 0 && all_first n (λ i. p (suc i))

parts : (a b : Bool) → (a && b) ≡ true → (a ≡ true) × (b ≡ true)
parts true b h = (refl, h)
parts false b h = cc

one_of : (n : ℕ) (p : ℕ → Bool) → all_first n p ≡ true → (i : ℕ) → i < n → p i ≡ true
one_of zero p h i l = absurd (omega arith)
one_of (suc n) p h zero l = (parts (p 0) (all_first n (λ i. p (suc i))) h).0
one_of (suc n) p h (suc i) l = one_of n (λ i. p (suc i)) (parts (p 0) (all_first n (λ i. p (suc i))) h).1 i (omega arith)

named_by : (i : ℕ) → i < 17 → (n : ℕ → List ℕ) → all_first 17 (λ i. is_name (n i)) ≡ true → is_name (n i) ≡ true
named_by i l n h = one_of 17 (λ i. is_name (n i)) h i l

reset_name : (g : ℕ) → g < 17 → is_name (reset_net g) ≡ true
unfolding digits
reset_name zero l = refl
reset_name (suc g) l = named_by (suc g) l hold_of refl

-- ---- ports

units_named : (i : ℕ) (ds : List Description) (rest : List ModulePort) → i + length ds ≤ 17 → ports_fit rest ≡ true → ports_fit (unit_ports i ds ++ rest) ≡ true
unfolding digits
units_named i [] rest l h = h
units_named i (d ∷ ds) rest l h =
    let k : i < 17 = omega arith in
    both (is_name (rdata_of i)) _ (named_by i k rdata_of refl) (both (is_name (en_of i)) _ (named_by i k en_of refl) (both (is_name (we_of i)) _ (named_by i k we_of refl) (both (is_name (addr_of i)) _ (named_by i k addr_of refl) (both (is_name (wdata_of i)) _ (named_by i k wdata_of refl) (units_named (suc i) ds rest (omega arith) h)))))

-- ---- items

wires_fit : (i : ℕ) (ds : List Description) (rest : List ModuleItem) → i + length ds ≤ 17 → items_fit 64 rest ≡ true → items_fit 64 (unit_wires i ds ++ rest) ≡ true
unfolding digits
wires_fit i [] rest l h = h
wires_fit i (d ∷ ds) rest l h = let k : i < 17 = omega arith in both (is_name (over_of i)) _ (named_by i k over_of refl) (both (is_name (bad_of i)) _ (named_by i k bad_of refl) (wires_fit (suc i) ds rest (omega arith) h))

holds_fit : (g k : ℕ) (rest : List ModuleItem) → g + k < 17 → items_fit 64 rest ≡ true → items_fit 64 (hold_wires g k ++ rest) ≡ true
unfolding digits
holds_fit g zero rest l h = h
holds_fit g (suc k) rest l h = both (is_name (hold_of (suc g))) _ (named_by (suc g) (omega arith) hold_of refl) (holds_fit (suc g) k rest (omega arith) h)

-- all below a bound
abbrev Below : ℕ → List ℕ → Type 0
Below n [] = Unit {0}
Below n (i ∷ is) = (i < n) × Below n is

one_more : (i : ℕ) (is : List ℕ) (n : ℕ) (t : Bool) → i < 17 → Below 17 is → length is ≤ n → Below 17 (cond t (i ∷ is) is) × (length (cond t (i ∷ is) is) ≤ suc n)
one_more i is n true k b l = ((k, b), omega arith)
one_more i is n false k b l = (b, omega arith)

-- the members of a group are few, and their numbers small
members_small : (g i : ℕ) (gs : List ℕ) → i + length gs ≤ 17 → Below 17 (members g i gs) × (length (members g i gs) ≤ length gs)
members_small g i [] l = (tt, omega arith)
members_small g i (h ∷ gs) l =
    let k : i < 17 = omega arith in
    let m = members_small g (suc i) gs (omega arith) in
    one_more i (members g (suc i) gs) (length gs) (nat_eq h g) k m.0 m.1

from_fits : (k i : ℕ) (is : List ℕ) → i < 17 → Below 17 is → length is ≤ k → expression_fits k (over_from i is) ≡ true
unfolding digits
from_fits k i [] l b s = named_by i l over_of refl
from_fits k i (j ∷ js) l b s =
    let z : 0 < k = omega arith in
    both (nat_lt 0 k && is_name (over_of i)) _ (both (nat_lt 0 k) _ (lt-ltb 0 k z) (named_by i l over_of refl)) (from_fits (k - 1) j js b.0 b.1 (omega arith))

over_fits : (k : ℕ) (is : List ℕ) → Below 17 is → length is ≤ k → expression_fits k (all_over is) ≡ true
over_fits k [] b s = refl
over_fits k (i ∷ is) b s = from_fits k i is b.0 b.1 (omega arith)

group_fits : (k g : ℕ) (gs : List ℕ) → length gs ≤ 16 → 17 ≤ k → expression_fits k (all_over (members g 0 gs)) ≡ true
group_fits k g gs l s = let m = members_small g 0 gs (omega arith) in let q = m.1 in over_fits k (members g 0 gs) m.0 (omega arith)

assigns_fit : (gs : List ℕ) (g k : ℕ) (rest : List ModuleItem) → length gs ≤ 16 → g + k < 17 → items_fit 64 rest ≡ true → items_fit 64 (hold_assigns gs g k ++ rest) ≡ true
unfolding digits
assigns_fit gs g zero rest n l h = h
assigns_fit gs g (suc k) rest n l h =
    both (is_name (hold_of (suc g)) && expression_fits 63 (all_over (members g 0 gs))) _ (both (is_name (hold_of (suc g))) _ (named_by (suc g) (omega arith) hold_of refl) (group_fits 63 g gs n (omega arith))) (assigns_fit gs (suc g) k rest n (omega arith) h)

bads_fit : (n : ℕ) → n < 17 → expressions_fit 63 (bad_parts n) ≡ true
unfolding digits
bads_fit zero l = refl
bads_fit (suc n) l = both (is_name (bad_of n)) _ (named_by n (omega arith) bad_of refl) (bads_fit n (omega arith))

own_wires : (i : ℕ) (ds : List Description) (rest : List ModuleItem) → all_own rest ≡ true → all_own (unit_wires i ds ++ rest) ≡ true
own_wires i [] rest h = h
own_wires i (d ∷ ds) rest h = own_wires (suc i) ds rest h

own_holds : (g k : ℕ) (rest : List ModuleItem) → all_own rest ≡ true → all_own (hold_wires g k ++ rest) ≡ true
own_holds g zero rest h = h
own_holds g (suc k) rest h = own_holds (suc g) k rest h

own_assigns : (gs : List ℕ) (g k : ℕ) (rest : List ModuleItem) → all_own rest ≡ true → all_own (hold_assigns gs g k ++ rest) ≡ true
own_assigns gs g zero rest h = h
own_assigns gs g (suc k) rest h = own_assigns gs (suc g) k rest h

-- ---- placed modules

abbrev LinksNamed : List LinkTree → Type 0
LinksNamed [] = Unit {0}
LinksNamed (x ∷ xs) = (is_name x.port ≡ true) × (is_name x.net ≡ true) × LinksNamed xs

all_named : (xs : List LinkTree) → LinksNamed xs → links_fit xs ≡ true
all_named [] h = refl
all_named (x ∷ xs) h = both (is_name x.port && is_name x.net) (links_fit xs) (both (is_name x.port) (is_name x.net) h.0 h.1) (all_named xs h.2)

unit_links_fit : (i g : ℕ) → i < 17 → g < 17 → links_fit (unit_links i g) ≡ true
unfolding digits
unit_links_fit i g l m =
    all_named (unit_links i g)
    (refl, refl, (refl, reset_name g m, (refl, named_by i l rdata_of refl, (refl, named_by i l en_of refl, (refl, named_by i l we_of refl, (refl, named_by i l addr_of refl, (refl, named_by i l wdata_of refl, (refl, named_by i l over_of refl, (refl, named_by i l bad_of refl, tt)))))))))

units_fit : (i n : ℕ) (ds : List Description) (gs : List ℕ) → i + length ds ≤ 17 → last_group gs < 17 → ((j : ℕ) (d : Description) → slice_get ds j ≡ Some d → is_name (module_name d.name) ≡ true) → placed_fit (placed_units i ds gs) ≡ true
unfolding digits
units_fit i n [] gs l m h = refl
units_fit i n (d ∷ ds) [] l m h = refl
units_fit i n (d ∷ ds) (g ∷ gs) l m h =
    let k : i < 17 = omega arith in
    let a : is_name (module_name d.name) ≡ true = h 0 d refl in
    both ((is_name (module_name d.name) && is_name (unit_of i) && true) && links_fit (unit_links i g)) _
    (both (is_name (module_name d.name) && is_name (unit_of i) && true) _ (both (is_name (module_name d.name) && is_name (unit_of i)) _ (both (is_name (module_name d.name)) _ a (named_by i k unit_of refl)) refl) (unit_links_fit i g k (omega arith)))
    (units_fit (suc i) n ds gs (omega arith) (omega arith) (λ j e q. h (suc j) e q))

-- ---- the top

fits_of : (name gs : List ℕ) (ds : List Description) → is_name name ≡ true → 1 ≤ length ds → length ds ≤ 16 → length gs ≡ length ds → last_group gs < 17 → ((j : ℕ) (d : Description) → slice_get ds j ≡ Some d → Wide d) → ((j : ℕ) (d : Description) → slice_get ds j ≡ Some d → is_name (module_name d.name) ≡ true) → TopFits (top_of name gs ds)
fits_of name gs ds named some few many last wide legal =
    let n : ℕ = length ds in
    let g : ℕ = last_group gs in
    let short : length gs ≤ 16 = omega arith in
    record {
      ported = refl;
      ports_formed = units_formed 0 ds _ wide (both (is_width n) _ (width_is n some (omega arith)) refl);
      items_formed = subst (λ is. items_formed is ≡ true) (append_assoc (unit_wires 0 ds) (hold_wires 0 g) (top_assigns gs n))
          (wires_formed 0 ds 0 g (top_assigns gs n) (holds_formed gs 0 g _ (both (expression_formed (all_over (members g 0 gs))) _ (over_formed (members g 0 gs)) (both (expression_formed (Concatenation (bad_parts n))) _ (fail_formed n some) refl))));
      named = named;
      ports_fit = units_named 0 ds _ (omega arith) refl;
      items_fit = wires_fit 0 ds _ (omega arith) (holds_fit 0 g _ (omega arith) (assigns_fit gs 0 g _ short (omega arith) (both (expression_fits 64 (all_over (members g 0 gs))) _ (group_fits 64 g gs short (omega arith)) (both (expressions_fit 63 (bad_parts n)) _ (bads_fit n (omega arith)) refl))));
      own = own_wires 0 ds _ (own_holds 0 g _ (own_assigns gs 0 g _ refl));
      placed = units_fit 0 n ds gs (omega arith) last legal;
    }

pub generated_fit : GeneratedFit
generated_fit name us budget groups p named =
    let c = counted us budget groups p in
    let a = same_count us in
    let f = p.few in
    let s = p.some in
    let m = c.many in
    let w = c.some in
    fits_of name groups (memories us) named c.some (omega arith) c.many last (wide_at us p.memories) legal
  where
    last : last_group groups < 17
    last =
        let c = counted us budget groups p in
        let m = c.many in
        let w = c.some in
        let a = same_count us in
        let f = p.few in
        let l = few_groups budget (weights us) groups p.fitted p.light (omega arith) in
        omega arith

    legal : (j : ℕ) (d : Description) → slice_get (memories us) j ≡ Some d → is_name (module_name d.name) ≡ true
    legal j d q =
        let u = unit_of_memory us j d q in
        module_name_legal d.name (subst (λ (x : Description). IsMemory x) u.2 (memory_of us p.memories j u.0 u.1)).name
