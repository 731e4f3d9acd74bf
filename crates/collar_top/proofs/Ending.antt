-- A top of a collar whose frame and placed modules can be written can be, and its text ends a chip's.
use Rattle.std.proofs.Common.{◌≡◌, Bool, true, false, ◌&&◌, ℕ, List, [], ◌∷◌, ◌++◌, refl, sym, ap, subst, ◌∙◌, None}
use Rattle.std.proofs.lemmas.List.{append_assoc}
use Rattle.memory_desc.specs.Descriptions.{Description}
use Rattle.verilog_tree.specs.Plain.{ModuleItem, ModuleTree}
use Rattle.verilog_tree.specs.Spells.{all_limits}
use Rattle.verilog_tree.specs.Fits.{fits}
use Rattle.verilog_emit.specs.Printed.{printed}
use Rattle.chip_rtl.specs.ChipTree.{PlacedTree, TopTree}
use Rattle.chip_rtl.specs.ChipGrammar.{ChipText}
use Rattle.chip_rtl.specs.PrintedTop.{printed_units, printed_top}
use Rattle.chip_rtl.proofs.WrittenChip.{ends_chips}
use Rattle.verilog_tree.specs.Formed.{formed}
use Rattle.verilog_tree.specs.Rules.{first_break}
use Rattle.collar_rtl.specs.Interface.{interface}
use Rattle.collar_top.specs.Links.{all_differ, all_once}
use Rattle.chip_rtl.specs.TopFits.{all_own, placed_fit, TopFits, AllFit}
use Rattle.macro_pins.specs.Pins.{PinTree}
use Rattle.collar_top.specs.CollarTops.{Placing, pin_wires, frame_of, top_with, interface_name, top_ports, top_wires, placed_three, IsLegal}
use Rattle.collar_top.specs.CollarText.{EndsCollar}

left : (a b : Bool) → (a && b) ≡ true → a ≡ true
left true b h = refl
left false b h = cc

right : (a b : Bool) → (a && b) ≡ true → b ≡ true
right true b h = h
right false b h = cc

own_wires : (ps : List PinTree) (is : List ModuleItem) → all_own is ≡ true → all_own (pin_wires ps ++ is) ≡ true
own_wires [] is h = h
own_wires (p ∷ ps) is h = own_wires ps is h

pub top_fits : (m : Placing) (d : Description) (frame : ModuleTree) (placed : List PlacedTree) → frame ≡ frame_of m d → fits frame ≡ true → placed_fit placed ≡ true → TopFits (top_with frame placed)
top_fits m d frame placed is all places =
    let names_ports = left _ _ all in
    let names = left _ _ names_ports in
    let sizes = left _ _ names in
    let begun = left _ _ sizes in
    record {
      ported = left _ _ begun;
      ports_formed = right _ _ begun;
      items_formed = right _ _ sizes;
      named = right _ _ names;
      ports_fit = right _ _ names_ports;
      items_fit = right _ _ all;
      own = ap (λ (f : ModuleTree). all_own f.items) is ∙ own_wires m.pins.inputs _ refl;
      placed = places;
    }

units_end : (us : List ModuleTree) (i : ModuleTree) (b : List ℕ) → printed_units (us ++ i ∷ []) ++ b ≡ printed_units us ++ (printed i ++ b)
units_end [] i b = append_assoc (printed i) [] b
units_end (u ∷ us) i b =
    append_assoc (printed u) (printed_units (us ++ i ∷ [])) b ∙ ap (λ l. printed u ++ l) (units_end us i b) ∙ sym (append_assoc (printed u) (printed_units us) (printed i ++ b))

all_fit : (us : List ModuleTree) (i : ModuleTree) → AllFit us → fits i ≡ true → AllFit (us ++ i ∷ [])
all_fit [] i h f = (f, tt)
all_fit (u ∷ us) i h f = (h.0, all_fit us i h.1 f)

pub ends_collar : (out : List ℕ) (i j : ModuleTree) (t u : TopTree) → i ≡ j → t ≡ u → fits i ≡ true → TopFits t → out ≡ printed i ++ printed_top t → EndsCollar out j u
ends_collar out i j t u e g f fit is =
    subst (λ (m : ModuleTree). EndsCollar out m u) e (subst (λ (x : TopTree). EndsCollar out i x) g one)
  where
    one : EndsCollar out i t
    one us all =
        let whole = ends_chips t fit (us ++ i ∷ []) (all_fit us i all f) in
        let same : printed_units (us ++ i ∷ []) ++ printed_top t ≡ printed_units us ++ out = units_end us i (printed_top t) ∙ ap (λ l. printed_units us ++ l) (sym is) in (
          subst (λ (l : List ℕ). ChipText all_limits l (record { units = us ++ i ∷ []; top = t })) same whole.0,
          λ other text. whole.1 other (subst (λ (l : List ℕ). ChipText all_limits l other) (sym same) text),
        )

pub is_legal : (m : Placing) (d : Description) (i : ModuleTree) → i ≡ interface (interface_name d.name) m.pins d.bits d.scramble.width → fits i ≡ true → first_break i ≡ None
    → all_differ (top_ports m d.bits) (top_wires m.pins d.bits d.scramble.width) ≡ true → all_once (placed_three m d) ≡ true → IsLegal m d
is_legal m d i e f legal named linked = record {
  sized = subst (λ (x : ModuleTree). formed x ≡ true) e (left _ _ (left _ _ (left _ _ f)));
  lawful = subst (λ (x : ModuleTree). first_break x ≡ None) e legal;
  named = named;
  linked = linked;
}
