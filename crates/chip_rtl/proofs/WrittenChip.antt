-- The printed texts of modules that fit, and behind them that of a top that fits, spell the chip.
use Rattle.std.proofs.Common.{◌≡◌, ℕ, Bool, true, false, List, [], ◌∷◌, ◌++◌, codes, refl, sym, subst, append_assoc, append-nil}
use Rattle.std.specs.List.{list_all}
use Rattle.verilog_tree.specs.declared.tokens.Mark.TheVariants.{Semicolon}
use Rattle.verilog_tree.specs.Fits.{items_fit, ports_fit, fits}
use Rattle.verilog_tree.specs.Formed.{items_formed, ports_formed}
use Rattle.verilog_tree.specs.Grammar.{File, sign, keyword, no_token}
use Rattle.verilog_tree.specs.Plain as P
use Rattle.verilog_tree.specs.Spells.{all_limits}
use Rattle.verilog_tree.specs.Tokens.{Token}
use Rattle.verilog_tree.specs.Words.{is_name}
use Rattle.verilog_emit.specs.Printed.{items_text, printed}
use Rattle.verilog_emit.specs.Written.{is_text_byte}
use Rattle.verilog_emit.proofs.Derivations.{derive_items}
use Rattle.verilog_emit.proofs.Pieces.{Spelt, grouped}
use Rattle.verilog_emit.proofs.WrittenExpressions.{L}
use Rattle.verilog_emit.proofs.WrittenModule.{head, head_text, head_spelt, end_spelt, nothing_spelt, Module, told_as, spelt_before}
use Rattle.chip_rtl.specs.ChipFile.{IsChipTextOf}
use Rattle.chip_rtl.specs.ChipTree.{PlacedTree, TopTree, ChipTree}
use Rattle.chip_rtl.specs.ChipGrammar.{own_items, all_placed, top, ChipTokens, ChipText}
use Rattle.chip_rtl.proofs.Cuts.{Cut, joined, sign_cut, keyword_cut}
use Rattle.chip_rtl.proofs.CutGrammar.{Harmless, file_body, fl}
use Rattle.chip_rtl.proofs.OneText.{one_text}
use Rattle.chip_rtl.specs.PrintedTop.{placed_texts, printed_top, printed_units, printed_chip}
use Rattle.chip_rtl.specs.TopFits.{all_own, placed_fit, TopFits, AllFit}
use Rattle.chip_rtl.specs.PrintedLaws.{EndsChips}
use Rattle.chip_rtl.proofs.TopDerived.{derive_placed, derive_top, same_top}
use Rattle.chip_rtl.proofs.WrittenTop.{placed_spelt, owns_spelt}

-- ---- the tokens of a module are a list of their own

any : Token → Bool
any t = false

any_harmless : Harmless any
unfolding any
any_harmless = record {
  other = λ m h n q. refl;
  word = λ w h v q. refl;
  named = λ v h. refl;
  numbers = λ l i. refl;
  literals = λ x. refl;
}

semi : Cut any (sign Semicolon)
unfolding any
semi = sign_cut L any Semicolon (λ n q. refl)

last : Cut any (keyword (codes "endmodule"))
unfolding any
last = keyword_cut L any (codes "endmodule") (λ v q. refl)

whole : (f : File) → Cut any (λ K. file_body L any any_harmless semi f (keyword (codes "endmodule") K))
whole f = joined L any (file_body L any any_harmless semi f) (keyword (codes "endmodule")) (fl L any any_harmless semi f) last

-- ---- a top

top_bytes : (h i p e : List ℕ) → h ++ i ++ p ++ e ≡ h ++ (i ++ (p ++ (e ++ [])))
top_bytes h i p e = simp (append_assoc, append-nil)

top_spelt : (n : List ℕ) (p : P.ModulePort) (ps : List P.ModulePort) (is : List P.ModuleItem) (pl : List PlacedTree) → is_name n ≡ true → ports_formed (p ∷ ps) ≡ true → ports_fit (p ∷ ps) ≡ true → items_formed is ≡ true → items_fit 64 is ≡ true → all_own is ≡ true → placed_fit pl ≡ true
    → Spelt (top L (derive_top n p ps is pl)) (printed_top (record { name = n; ports = p ∷ ps; items = is; placed = pl }))
top_spelt n p ps is pl f m1 f1 m2 f2 o g =
    let e : List ℕ = codes "endmodule" ++ (10 ∷ []) in
    let E : List Token → Type 0 = keyword (codes "endmodule") no_token in
    let K1 : List Token → Type 0 = own_items L (derive_items is) (all_placed L (derive_placed pl) E) in
    grouped (head n p ps K1) (printed_top (record { name = n; ports = p ∷ ps; items = is; placed = pl })) (head_text n (p ∷ ps) ++ (items_text is ++ (placed_texts pl ++ (e ++ [])))) (top_bytes (head_text n (p ∷ ps)) (items_text is) (placed_texts pl) e)
    (head_spelt n p ps K1 (items_text is ++ (placed_texts pl ++ (e ++ []))) f m1 f1
    (owns_spelt is (all_placed L (derive_placed pl) E) (placed_texts pl ++ (e ++ [])) o f2 m2
    (placed_spelt pl E (e ++ []) g (end_spelt no_token [] nothing_spelt))))

no_ports : false ≡ true → ⊥
no_ports q = cc

-- with its tree
top_of_parts : (n : List ℕ) (ps : List P.ModulePort) (is : List P.ModuleItem) (pl : List PlacedTree) → TopFits (record { name = n; ports = ps; items = is; placed = pl }) → Spelt (ChipTokens L [] (record { name = n; ports = ps; items = is; placed = pl })) (printed_top (record { name = n; ports = ps; items = is; placed = pl }))
top_of_parts n [] is pl h = absurd (no_ports h.ported)
top_of_parts n (p ∷ ps) is pl h =
    let t : TopTree = record { name = n; ports = p ∷ ps; items = is; placed = pl } in
    told_as (top L (derive_top n p ps is pl)) (ChipTokens L [] t) (printed_top t) (λ ts k. (derive_top n p ps is pl, k, same_top n p ps is pl h.ports_formed h.items_formed h.placed))
    (top_spelt n p ps is pl h.named h.ports_formed h.ports_fit h.items_formed h.items_fit h.own h.placed)

-- ---- modules before a text of tokens

unit_spelt : (m : P.ModuleTree) (ms : List P.ModuleTree) (t : TopTree) (r : List ℕ) → fits m ≡ true → Spelt (ChipTokens L ms t) r → Spelt (ChipTokens L (m ∷ ms) t) (printed m ++ r)
unit_spelt m ms t r f h =
    told_as (Module m (ChipTokens L ms t)) (ChipTokens L (m ∷ ms) t) (printed m ++ r)
    (λ ts k. let c = (whole k.0).cut (ChipTokens L ms t) ts k.1 in (c.own, c.behind, c.is, (k.0, c.alone, k.2), c.next))
    (spelt_before m (ChipTokens L ms t) r f h)

units_spelt : (ms : List P.ModuleTree) (t : TopTree) (r : List ℕ) → AllFit ms → Spelt (ChipTokens L [] t) r → Spelt (ChipTokens L ms t) (printed_units ms ++ r)
units_spelt [] t r f h = h
units_spelt (m ∷ ms) t r f h =
    grouped (ChipTokens L (m ∷ ms) t) (printed_units (m ∷ ms) ++ r) (printed m ++ (printed_units ms ++ r)) (append_assoc (printed m) (printed_units ms) r)
    (unit_spelt m ms t (printed_units ms ++ r) f.0 (units_spelt ms t r f.1 h))

-- ---- the chip

pub chip_spelt : (ms : List P.ModuleTree) (t : TopTree) → AllFit ms → TopFits t → ChipText all_limits (printed_chip (record { units = ms; top = t })) (record { units = ms; top = t })
chip_spelt ms t f g =
    let h = units_spelt ms t (printed_top t) f (top_of_parts t.name t.ports t.items t.placed g) in
    (h.tokens, h.lexed, h.kept, h.meant)

-- the text of a chip is one by the grammar, and of no other chip
pub text_derived : (b : List ℕ) (c : ChipTree) → IsChipTextOf b c → ChipText all_limits b c
text_derived b c h = subst (λ (x : List ℕ). ChipText all_limits x c) (sym h.2) (chip_spelt c.units c.top h.0 h.1)

pub no_other_chip : (b : List ℕ) (c other : ChipTree) → IsChipTextOf b c → ChipText all_limits b other → other ≡ c
no_other_chip b c other h k = one_text b other c k (text_derived b c h)

pub text_bytes : (b : List ℕ) (c : ChipTree) → IsChipTextOf b c → list_all is_text_byte b ≡ true
text_bytes b c h =
    subst (λ (x : List ℕ). list_all is_text_byte x ≡ true) (sym h.2) (units_spelt c.units c.top (printed_top c.top) h.0 (top_of_parts c.top.name c.top.ports c.top.items c.top.placed h.1)).bare

pub ends_chips : (t : TopTree) → TopFits t → EndsChips (printed_top t) t
ends_chips t g us f =
    let h = chip_spelt us t f g in
    (h, λ other k. one_text (printed_chip (record { units = us; top = t })) other (record { units = us; top = t }) k h)
