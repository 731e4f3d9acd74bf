-- Tokens are one module, and bytes are one list of tokens, so bytes are one chip.
use Rattle.std.proofs.Common.{◌≡◌, ℕ, List, [], ◌∷◌, Option, Some, None, sym, ap, ◌∙◌, subst}
use Rattle.bist_text.specs.Machine.{Holds}
use Rattle.bist_text.specs.inner.Lexed.{emitted}
use Rattle.verilog_tree.specs.declared.tokens.Within.TheVariants.{Between}
use Rattle.verilog_tree.specs.Plain.{ModuleTree}
use Rattle.verilog_tree.specs.Tokens.{Token}
use Rattle.verilog_tree.specs.Grammar.{Limit, Parenthesised}
use Rattle.verilog_tree.specs.Spells.{bounded}
use Rattle.verilog_text.specs.inner.Following.{rest}
use Rattle.verilog_text.specs.Lexing.{Lexer, InGap, lex, last}
use Rattle.verilog_text.specs.inner.Lexing.{unread}
use Rattle.verilog_text.specs.Places.{State, AtItem, Begin}
use Rattle.verilog_text.specs.Steps.{step}
use Rattle.verilog_text.proofs.GrammarPieces.{begins_file}
use Rattle.verilog_text.proofs.ItemLaws.{parses}
use Rattle.verilog_text.proofs.LexerLaws.{lexes}
use Rattle.chip_rtl.specs.ChipTree.{TopTree}
use Rattle.chip_rtl.specs.ChipGrammar.{ChipTokens}
use Rattle.chip_rtl.specs.TextLaws.{NoTwoModules}
use Rattle.chip_rtl.proofs.OneChip.{one_chip}
use Rattle.chip_rtl.specs.ReadingLaws.{NoTwoTexts}

abbrev L : Limit
L = bounded

held : {A : Type 0} (o : Option A) (P Q : A → Type 0) → Holds o P → Holds o Q → (x : A) × P x × Q x
held None P Q p q = absurd p
held (Some x) P Q p q = (x, p, q)

one_parse : (ts : List Token) (s : State) (v w : ModuleTree) → rest L s ts v → rest L s ts w → v ≡ w
one_parse [] s v w g h =
    let p = ((parses L).ends s v).0 g in
    let q = ((parses L).ends s w).0 h in
    let z : Some v ≡ Some w = sym p ∙ q in
    let y : v ≡ w = cc in y
one_parse (t ∷ ts) s v w g h =
    let r = held (step L s t) (λ q. rest L q ts v) (λ q. rest L q ts w) (((parses L).goes s t ts v).0 g) (((parses L).goes s t ts w).0 h) in
    one_parse ts r.0 v w r.1 r.2

pub one_module : NoTwoModules
one_module ts m n d e = one_parse ts (AtItem (Begin Parenthesised)) m n ((begins_file L Parenthesised ts m).1 d) ((begins_file L Parenthesised ts n).1 e)

one_lexing : (b : List ℕ) (l : Lexer) (ts us : List Token) → unread l b ts → unread l b us → ts ≡ us
one_lexing [] l ts us g h =
    let r = held (last l) (λ o. ts ≡ emitted o []) (λ o. us ≡ emitted o []) ((lexes.ends l ts).0 g) ((lexes.ends l us).0 h) in
    r.1 ∙ sym r.2
one_lexing (c ∷ b) l ts us g h =
    let r = held (lex l c) (λ r. (vs : List Token) × (ts ≡ emitted r.1 vs) × unread r.0 b vs) (λ r. (vs : List Token) × (us ≡ emitted r.1 vs) × unread r.0 b vs) ((lexes.goes l c b ts).0 g) ((lexes.goes l c b us).0 h) in
    let same = one_lexing b r.0.0 r.1.0 r.2.0 r.1.2 r.2.2 in
    r.1.1 ∙ ap (emitted r.0.1) same ∙ sym r.2.1

pub one_text : NoTwoTexts
one_text b c d g h =
    let same = one_lexing b (InGap Between) g.0 h.0 g.1 h.1 in
    let r = one_chip one_module c.units d.units c.top d.top g.0 g.3 (subst (λ ts. ChipTokens L d.units d.top ts) (sym same) h.3) in
    ap (λ ms. record { units = ms; top = c.top }) r.0 ∙ ap (λ (t : TopTree). record { units = d.units; top = t }) r.1
