-- What is read of a march and a memory makes a plan of them.
use Rattle.std.proofs.Common.{◌≡◌, ℕ, ◌-◌, ◌^◌, ◌<◌, ◌≤◌, true, List, length, map, ap, sym, ◌∙◌, subst, arith}
use Rattle.bist_bits.specs.Width.{IsWidthOf}
use Rattle.march_core.specs.March.{MarchElement, is_pause_at, ops_at}
use Rattle.scrambler.specs.Scrambling.{Scrambling, is_identity}
use Rattle.memory_desc.specs.Descriptions.{Description, IsMemory}
use Rattle.self_test.specs.SelfTest.{module_name}
use Rattle.rtl_layout.specs.Plan.{Plan}
use Rattle.rtl_gen.specs.inner.Planned.{element_of, rows_from, Plans}
use Rattle.scrambler.proofs.Identity.{unit_rows}
use Rattle.rtl_gen.proofs.Addressed.{addresses_are}
use Rattle.rtl_gen.proofs.Sizes.{Widths}

pub planned : (march : List MarchElement) (d : Description) (p : Plan) (s : Scrambling) → IsMemory d → s ≡ d.scramble
    → p.name ≡ module_name d.name → p.elements ≡ map element_of march → p.words ≡ d.words → p.bits ≡ d.bits → p.backgrounds ≡ d.backgrounds
    → p.delay ≡ d.latency - 1 → p.polarity ≡ d.polarity → ((k : ℕ) → k < length march → is_pause_at march k ≡ true → p.pause ≡ d.pause) → p.addr_width ≡ d.scramble.width
    → p.straight ≡ is_identity s → p.rows ≡ rows_from s 0 s.width
    → Plans march d p
planned march d p s m is name elements words bits backgrounds delay polarity pauses address straight rows =
    let late = m.latency_low in
    record {
      name = name;
      elements = elements;
      words = words;
      bits = bits;
      backgrounds = backgrounds;
      latency = omega arith;
      polarity = polarity;
      pauses = pauses;
      address_width = address;
      addresses = λ k h.
          let wide = m.address.holds in
          addresses_are p d.scramble (λ t. unit_rows d.scramble (sym (straight ∙ ap is_identity is) ∙ t))
          (rows ∙ ap (λ (t : Scrambling). rows_from t 0 t.width) is) k (omega arith);
    }

pub widthed : (march : List MarchElement) (d : Description) (p : Plan) (s : Scrambling) (most elements address : ℕ) (backgrounds : List ℕ) → s ≡ d.scramble → p.rows ≡ rows_from s 0 s.width
    → 1 ≤ p.pause → p.pause ≤ 65536 → p.pause - 1 < 2 ^ p.visit_width → p.addr_width ≡ d.scramble.width → address ≡ d.scramble.width → address ≤ p.visit_width → p.visit_width ≤ 16
    → elements ≡ length march → IsWidthOf (elements - 1) p.element_width
    → 1 ≤ most → most ≤ 16 → ((k : ℕ) → length (ops_at march k) ≤ most) → IsWidthOf (most - 1) p.oper_width
    → backgrounds ≡ d.backgrounds → IsWidthOf (length backgrounds - 1) p.back_width
    → Widths march d p most
widthed march d p s most elements address backgrounds is rows low high holds wide same visit narrow count element some few each oper are back = record {
  rows = rows ∙ ap (λ (t : Scrambling). rows_from t 0 t.width) is;
  pause_low = low;
  pause_high = high;
  pause_holds = holds;
  visit_holds = omega arith;
  visit_narrow = narrow;
  element = subst (λ k. IsWidthOf (k - 1) p.element_width) count element;
  most_low = some;
  most_high = few;
  most_each = each;
  oper = oper;
  back = subst (λ l. IsWidthOf (length l - 1) p.back_width) are back;
}
