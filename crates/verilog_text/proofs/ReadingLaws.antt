-- The machine reads exactly the texts within its limits, each to its one module.
use Rattle.std.proofs.Common.{◌≡◌, ℕ, ◌&&◌, List, [], ◌∷◌, refl, sym, ap, ◌∙◌, ◌↔◌}
use Rattle.bist_text.specs.inner.Lexed.{Parses}
use Rattle.bist_text.specs.Machine.{read}
use Rattle.bist_text.specs.inner.Machine.{Follows}
use Rattle.bist_text.proofs.Machine.{scan_reads, scan_read, one_value}
use Rattle.bist_text.proofs.Pieces.{also, holds_iff}
use Rattle.bist_text.proofs.Unique.{all_within, rest_within, within_parses}
use Rattle.bist_text.proofs.Lexed.{pruned}
use Rattle.verilog_tree.specs.Plain.{ModuleTree}
use Rattle.verilog_tree.specs.Spells.{Limits, keeps, all_keep, Text}
use Rattle.verilog_tree.specs.Tokens.{Token}
use Rattle.verilog_tree.specs.Grammar.{Style}
use Rattle.verilog_text.specs.Expected.{live_in}
use Rattle.verilog_text.specs.inner.Following.{rest}
use Rattle.verilog_text.specs.Lexing.{lex, last}
use Rattle.verilog_text.specs.inner.Lexing.{unread}
use Rattle.verilog_text.specs.Places.{State}
use Rattle.verilog_text.specs.Reading.{step_in, start, byte_step, end_value, reads}
use Rattle.verilog_text.specs.inner.Reading.{rest_in, unread_in}
use Rattle.verilog_text.specs.Steps.{step, value}
use Rattle.verilog_text.proofs.Complete.{complete}
use Rattle.verilog_text.proofs.GrammarPieces.{begins_file}
use Rattle.verilog_text.proofs.ItemLaws.{parses}
use Rattle.verilog_text.proofs.LexerLaws.{lexes}

module _ (limits : Limits) where
  abbrev Kept : List Token → Type 0
  Kept ts = all_within (step limits.counts) value (rest limits.counts) (parses limits.counts) (keeps limits) ts ≡ all_keep limits ts

  kept : (ts : List Token) → Kept ts
  kept [] = refl
  kept (t ∷ ts) = ap (λ b. keeps limits t && b) (kept ts)

  -- the same tokens, by either word
  within : (s : State) (ts : List Token) (v : ModuleTree) → rest_in limits s ts v ↔ rest_within (step limits.counts) value (rest limits.counts) (parses limits.counts) (keeps limits) s ts v
  within s ts v = (λ h. (kept ts ∙ h.0, h.1), λ h. (sym (kept ts) ∙ h.0, h.1))

  pub parses_in : Parses (step_in limits) value (rest_in limits)
  parses_in =
      let w = within_parses (step limits.counts) value (rest limits.counts) (parses limits.counts) (keeps limits) in
      record {
        ends = λ s v. also (within s [] v) (w.ends s v);
        goes = λ s t ts v. also (within s (t ∷ ts) v) (also (w.goes s t ts v) (holds_iff (step_in limits s t) _ _ (λ q. ((within q ts v).1, (within q ts v).0))));
      }

  -- the machine, whose states need not go on
  pub machine : Follows (byte_step limits) (end_value limits) (unread_in limits) (λ q. ⊥)
  machine = pruned lex last unread (step_in limits) value (rest_in limits) (live_in limits) lexes parses_in (λ s l b ts v u r. complete limits s l b ts v u r.0 r.1)

  -- from the start, what may follow is a text
  pub start_is : (y : Style) (b : List ℕ) (v : ModuleTree) → unread_in limits (start y) b v ↔ Text y limits b v
  start_is y b v = (λ h. (h.0, h.1, h.2.0, (begins_file limits.counts y h.0 v).0 h.2.1), λ h. (h.0, h.1, (h.2, (begins_file limits.counts y h.0 v).1 h.3)))

  pub reads_text : (y : Style) (b : List ℕ) (v : ModuleTree) → (reads y limits b ≡ read v) ↔ Text y limits b v
  reads_text y b v = (λ e. (start_is y b v).0 (scan_read (byte_step limits) (end_value limits) (unread_in limits) (λ q. ⊥) machine b (start y) 0 v e), λ t. scan_reads (byte_step limits) (end_value limits) (unread_in limits) (λ q. ⊥) machine b (start y) 0 v ((start_is y b v).1 t))

  -- no bytes are two modules
  pub one_text : (y : Style) (b : List ℕ) (v w : ModuleTree) → Text y limits b v → Text y limits b w → v ≡ w
  one_text y b v w p q = one_value (byte_step limits) (end_value limits) (unread_in limits) (λ q. ⊥) machine b (start y) v w ((start_is y b v).1 p) ((start_is y b w).1 q)
