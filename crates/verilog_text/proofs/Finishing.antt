-- What the reader answers is a module exactly where the machine reads it.
use Rattle.verilog_tree.specs.Grammar.{Style}
use Rattle.std.proofs.Common.{◌≡◌, ℕ, ◌+◌, Bool, true, false, List, [], ◌∷◌, Option, Some, None, refl, sym, ap, subst, ◌↔◌, if◌then◌else◌}
use Rattle.bist_text.specs.Lexed.{Both, advance, then as and_then}
use Rattle.bist_text.specs.Machine.{Outcome, read, ended, after, scan}
use Rattle.bist_text.proofs.Pieces.{also, never}
use Rattle.verilog_tree.specs.Plain.{ModuleTree}
use Rattle.verilog_tree.specs.Spells.{all_limits, Text, bounded}
use Rattle.verilog_tree.specs.Tokens.{Token}
use Rattle.verilog_text.specs.Answering.{taking, take_token, Move, Goes, Stops, byte_move, Answer, Finished, value_answer, last_answer, end_answer, on_move, run, answer}
use Rattle.verilog_text.specs.Expected.{taken}
use Rattle.verilog_text.specs.Lexing.{Lexer, last}
use Rattle.verilog_text.specs.Places.{State}
use Rattle.verilog_text.specs.Reading.{step_in, start, byte_step, end_value}
use Rattle.verilog_text.specs.Steps.{step, value}
use Rattle.verilog_text.proofs.Moving.{Sound, Agrees, sound_parts, same_step, move_agrees}
use Rattle.verilog_text.proofs.ReadingLaws.{reads_text}

-- the value at a text's end
value_ends : (o : Option ModuleTree) (v : ModuleTree) → (value_answer o ≡ Finished v) ↔ (ended o ≡ read v)
value_ends None v = never (λ e. cc) (λ e. cc)
value_ends (Some w) v = (λ e. let k : w ≡ v = cc in ap read k, λ e. let k : w ≡ v = cc in ap Finished k)

-- a token that is not taken
no_value : (b : Bool) (k : ℕ) (v : ModuleTree) → (last_answer (taking None b) k ≡ Finished v) ↔ (ended (let x : Option ModuleTree = None in x) ≡ read v)
no_value true k v = never (λ e. cc) (λ e. cc)
no_value false k v = never (λ e. cc) (λ e. cc)

last_value : (s : State) (t : Token) (k : ℕ) (v : ModuleTree) (o : Option State) → (last_answer (taking o (taken s t)) k ≡ Finished v) ↔ (ended (and_then o value) ≡ read v)
last_value s t k v None = no_value (taken s t) k v
last_value s t k v (Some z) = value_ends (value z) v

at_end : (q : Both State Lexer) (k : ℕ) (v : ModuleTree) → Sound q → (end_answer q.parser (last q.lexer) k ≡ Finished v) ↔ (ended (end_value all_limits q) ≡ read v)
at_end q k v h = go (last q.lexer) refl
  where
    go : (o : Option (Option Token)) → last q.lexer ≡ o → (end_answer q.parser o k ≡ Finished v) ↔ (ended (and_then o (λ x. and_then (advance (step_in all_limits) q.parser x) value)) ≡ read v)
    go None e = never (λ f. cc) (λ f. cc)
    go (Some None) e = value_ends (value q.parser) v
    go (Some (Some t)) e = subst (λ (o : Option State). (last_answer (take_token q.parser t) k ≡ Finished v) ↔ (ended (and_then o value) ≡ read v)) (sym (same_step q.parser q.lexer t (sound_parts q h).1 e)) (last_value q.parser t k v (step bounded q.parser t))

-- a byte, and what follows
on_byte : (m : Move) (o : Option (Both State Lexer)) (k i j : ℕ) (v : ModuleTree) (f : Both State Lexer → ℕ → Answer) (g : Both State Lexer → Outcome ModuleTree) → Agrees m o → ((z : Both State Lexer) (n : ℕ) → Sound z → (f z n ≡ Finished v) ↔ (g z ≡ read v)) → (on_move m k i f ≡ Finished v) ↔ (after o j g ≡ read v)
on_byte (Goes z fresh) o k i j v f g h r = subst (λ (x : Option (Both State Lexer)). (f z (if fresh then i else k) ≡ Finished v) ↔ (after x j g ≡ read v)) (sym h.0) (r z (if fresh then i else k) h.1)
on_byte (Stops x) o k i j v f g h r = subst (λ (y : Option (Both State Lexer)). (on_move (Stops x) k i f ≡ Finished v) ↔ (after y j g ≡ read v)) (sym h) (never (λ e. cc) (λ e. cc))

runs : (b : List ℕ) (q : Both State Lexer) (k i : ℕ) (v : ModuleTree) → Sound q → (run b q k i ≡ Finished v) ↔ (scan (byte_step all_limits) (end_value all_limits) b q i ≡ read v)
runs [] q k i v h = at_end q k v h
runs (c ∷ b) q k i v h = on_byte (byte_move q c) (byte_step all_limits q c) k i i v (λ z n. run b z n (i + 1)) (λ z. scan (byte_step all_limits) (end_value all_limits) b z (i + 1)) (move_agrees q c h) (λ z n s. runs b z n (i + 1) v s)

-- the reader finishes with a module exactly where the text is one
pub finishes : (style : Style) (b : List ℕ) (v : ModuleTree) → (answer style b ≡ Finished v) ↔ Text style all_limits b v
finishes style b v = also (runs b (start style) 0 0 v refl) (reads_text all_limits style b v)
