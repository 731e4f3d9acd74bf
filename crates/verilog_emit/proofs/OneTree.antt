-- The text of a module is one by the reader's grammar, and no bytes are the text of two modules.
use Rattle.std.proofs.Common.{◌≡◌, ◌&&◌, ℕ, true, List, sym, subst}
use Rattle.verilog_tree.specs.Grammar.{Parenthesised}
use Rattle.verilog_tree.specs.Plain.{ModuleTree}
use Rattle.verilog_tree.specs.Fits.{ports_fit, items_fit}
use Rattle.verilog_tree.specs.Formed.{formed}
use Rattle.verilog_tree.specs.Spells.{all_limits, no_limits, Text, Spells}
use Rattle.verilog_tree.specs.Words.{is_name}
use Rattle.verilog_text.proofs.Firsts.{without_limits}
use Rattle.verilog_text.proofs.ReadingLaws.{one_text}
use Rattle.verilog_emit.specs.Written.{IsTextOf}
use Rattle.verilog_emit.proofs.Pieces.{both}
use Rattle.verilog_emit.proofs.WrittenModule.{printed_spells}

pub text_spells : (b : List ℕ) (mo : ModuleTree) → IsTextOf b mo → Spells b mo
text_spells b mo h = subst (λ (x : List ℕ). Spells x mo) (sym h.1) (printed_spells mo h.0)

pub text_derived : (b : List ℕ) (mo : ModuleTree) → IsTextOf b mo → Text Parenthesised no_limits b mo
text_derived b mo h = without_limits Parenthesised b mo (text_spells b mo h)

-- the grammar derives no other module, limits aside
pub no_other_tree : (b : List ℕ) (mo other : ModuleTree) → IsTextOf b mo → Text Parenthesised no_limits b other → other ≡ mo
no_other_tree b mo other h k = one_text no_limits Parenthesised b other mo k (text_derived b mo h)

pub one_tree : (b : List ℕ) (mo other : ModuleTree) → IsTextOf b mo → IsTextOf b other → other ≡ mo
one_tree b mo other h k = one_text all_limits Parenthesised b other mo (text_spells b other k) (text_spells b mo h)

pub text_formed : (b : List ℕ) (mo : ModuleTree) → IsTextOf b mo → formed mo ≡ true
text_formed b mo h = (both (formed mo) (is_name mo.name) (both (formed mo && is_name mo.name) (ports_fit mo.ports) (both (formed mo && is_name mo.name && ports_fit mo.ports) (items_fit 64 mo.items) h.0).0).0).0
