-- Where the reader stops, and why: what a byte does in the grammars of fewer limits.
use Rattle.verilog_tree.specs.Grammar.{unlimited}
use Rattle.std.proofs.Common.{◌≡◌, ℕ, ◌&&◌, Bool, true, false, List, [], ◌∷◌, Option, Some, None, refl, sym, ap, ◌∙◌, ◌⊎◌, inl, inr, if◌then◌else◌}
use Rattle.bist_text.specs.Lexed.{Both, advance, then as and_then, only_if}
use Rattle.bist_text.specs.inner.Machine.{Follows}
use Rattle.bist_text.proofs.Lexed.{both_follows}
use Rattle.verilog_tree.specs.Spells.{all_limits, no_limits, short_names, small_numbers, keeps, bounded}
use Rattle.verilog_tree.specs.Tokens.{Token, Identifier, Number, Based, Unused, Sign}
use Rattle.verilog_text.specs.declared.fault.ByteFault.{ByteFault}
use Rattle.verilog_text.specs.declared.fault.ByteFault.TheVariants.{Unexpected, TooDeep, LongName, OutOfRange, NoMemory}
use Rattle.verilog_text.specs.Answering.{Taking, Leads, Refused, OneTooMany, taking, take_token, Stops, is_between, while_live, gone, arrive, within, ended, stuck_at, stuck, read_on, lexed, byte_move}
use Rattle.verilog_text.specs.Expected.{is_step, taken, live, name_fits, number_fits, most_of, live_in}
use Rattle.verilog_text.specs.Lexing.{Lexer, InWord, Whole, lex, last}
use Rattle.verilog_text.specs.inner.Lexing.{unread}
use Rattle.verilog_text.specs.Places.{State}
use Rattle.verilog_text.specs.Reading.{step_in, byte_step, end_value}
use Rattle.verilog_text.specs.inner.Reading.{rest_in, unread_in}
use Rattle.verilog_text.specs.Steps.{step, value}
use Rattle.verilog_text.proofs.Complete.{live_from, most_low}
use Rattle.verilog_text.proofs.Extends.{limits, all_kept, decides}
use Rattle.verilog_text.proofs.LexerLaws.{lexes}
use Rattle.verilog_text.proofs.Limits.{without_limit}
use Rattle.verilog_text.proofs.Moving.{Small, sound_parts}
use Rattle.verilog_text.proofs.Reached.{come}
use Rattle.verilog_text.proofs.ReadingLaws.{parses_in}

abbrev place : State → Lexer → Both State Lexer
place s l = record { parser = s; lexer = l }

module _ (names_kept numbers_kept : Bool) where
  -- the machine of a grammar with limits of tokens alone, each state of which goes on
  pub follows : Follows (byte_step (limits names_kept numbers_kept)) (end_value (limits names_kept numbers_kept)) (unread_in (limits names_kept numbers_kept)) (λ q. live_in (limits names_kept numbers_kept) q.parser q.lexer ≡ true)
  follows = both_follows lex last unread (step_in (limits names_kept numbers_kept)) value (rest_in (limits names_kept numbers_kept)) (live_in (limits names_kept numbers_kept)) lexes (parses_in (limits names_kept numbers_kept)) (decides names_kept numbers_kept)

  live_sub : (s : State) (l : Lexer) → live_in all_limits s l ≡ true → live_in (limits names_kept numbers_kept) s l ≡ true
  live_sub s l h = let p = sound_parts (place s l) h in live_from (limits names_kept numbers_kept) s l p.0 (λ e. p.1.0) (λ e. p.1.1)

  step_sub : (s : State) (t : Token) (z : State) → step_in all_limits s t ≡ Some z → step_in (limits names_kept numbers_kept) s t ≡ Some z
  step_sub s t z h = go (keeps all_limits t) refl h
    where
      go : (b : Bool) → keeps all_limits t ≡ b → (if b then step bounded s t else None) ≡ Some z → step_in (limits names_kept numbers_kept) s t ≡ Some z
      go true e k = ap (λ b. if b then step unlimited s t else None) (all_kept names_kept numbers_kept t e) ∙ without_limit bounded s t z k
      go false e k = cc

  -- a byte within all limits is one within fewer
  pub byte_sub : (q : Both State Lexer) (c : ℕ) (z : Both State Lexer) → byte_step all_limits q c ≡ Some z → byte_step (limits names_kept numbers_kept) q c ≡ Some z
  byte_sub q c z h = go (lex q.lexer c) h
    where
      arrive_sub : (s : State) (l : Lexer) → only_if (live_in all_limits s l) (place s l) ≡ Some z → only_if (live_in (limits names_kept numbers_kept) s l) (place s l) ≡ Some z
      arrive_sub s l h = by (live_in all_limits s l) refl h
        where
          by : (b : Bool) → live_in all_limits s l ≡ b → only_if b (place s l) ≡ Some z → only_if (live_in (limits names_kept numbers_kept) s l) (place s l) ≡ Some z
          by true e k = ap (λ b. only_if b (place s l)) (live_sub s l e) ∙ k
          by false e k = cc

      on : (l : Lexer) (t : Option Token) → and_then (advance (step_in all_limits) q.parser t) (λ s. only_if (live_in all_limits s l) (place s l)) ≡ Some z → and_then (advance (step_in (limits names_kept numbers_kept)) q.parser t) (λ s. only_if (live_in (limits names_kept numbers_kept) s l) (place s l)) ≡ Some z
      on l None h = arrive_sub q.parser l h
      on l (Some t) h = by (step_in all_limits q.parser t) refl h
        where
          by : (o : Option State) → step_in all_limits q.parser t ≡ o → and_then o (λ s. only_if (live_in all_limits s l) (place s l)) ≡ Some z → and_then (step_in (limits names_kept numbers_kept) q.parser t) (λ s. only_if (live_in (limits names_kept numbers_kept) s l) (place s l)) ≡ Some z
          by None e k = cc
          by (Some s) e k = ap (λ o. and_then o (λ s. only_if (live_in (limits names_kept numbers_kept) s l) (place s l))) (step_sub q.parser t s e) ∙ arrive_sub s l k

      go : (o : Option (Lexer × Option Token)) → and_then o (λ r. and_then (advance (step_in all_limits) q.parser r.1) (λ s. only_if (live_in all_limits s r.0) (place s r.0))) ≡ Some z → and_then o (λ r. and_then (advance (step_in (limits names_kept numbers_kept)) q.parser r.1) (λ s. only_if (live_in (limits names_kept numbers_kept) s r.0) (place s r.0))) ≡ Some z
      go None h = cc
      go (Some r) h = on r.0 r.1 h

  pub come_sub : (b : List ℕ) (q z : Both State Lexer) → come (byte_step all_limits) b q ≡ Some z → come (byte_step (limits names_kept numbers_kept)) b q ≡ Some z
  come_sub [] q z h = h
  come_sub (c ∷ b) q z h = go (byte_step all_limits q c) refl h (λ y k. come_sub b y z k)
    where
      go : (o : Option (Both State Lexer)) → byte_step all_limits q c ≡ o → and_then o (λ t. come (byte_step all_limits) b t) ≡ Some z → ((y : Both State Lexer) → come (byte_step all_limits) b y ≡ Some z → come (byte_step (limits names_kept numbers_kept)) b y ≡ Some z) → and_then (byte_step (limits names_kept numbers_kept) q c) (λ t. come (byte_step (limits names_kept numbers_kept)) b t) ≡ Some z
      go None e k r = cc
      go (Some y) e k r = ap (λ o. and_then o (λ t. come (byte_step (limits names_kept numbers_kept)) b t)) (byte_sub q c y e) ∙ r y k

-- ---- why a byte stops the reader

no_long : (o : Option (Option Token)) (s : State) → stuck s o ≡ Stops LongName → ⊥
no_long None s e = cc
no_long (Some None) s e = cc
no_long (Some (Some t)) s e = go (take_token s t) e
  where
    go : (k : Taking) → stuck_at k ≡ Stops LongName → ⊥
    go (Leads z) e = cc
    go Refused e = cc
    go OneTooMany e = cc

no_out : (o : Option (Option Token)) (s : State) → stuck s o ≡ Stops OutOfRange → ⊥
no_out None s e = cc
no_out (Some None) s e = cc
no_out (Some (Some t)) s e = go (take_token s t) e
  where
    go : (k : Taking) → stuck_at k ≡ Stops OutOfRange → ⊥
    go (Leads z) e = cc
    go Refused e = cc
    go OneTooMany e = cc

pub keeps_any : (t : Token) → keeps no_limits t ≡ true
keeps_any (Identifier w) = refl
keeps_any (Number l n) = refl
keeps_any (Based x) = refl
keeps_any Unused = refl
keeps_any (Sign m) = refl

pub free_step : (s : State) (t : Token) → step_in no_limits s t ≡ step unlimited s t
free_step s t = ap (λ b. if b then step unlimited s t else None) (keeps_any t)

pub not_taken : (s : State) (t : Token) → taken s t ≡ false → step unlimited s t ≡ None
not_taken s t h = go (step unlimited s t) h
  where
    go : (o : Option State) → is_step o ≡ false → o ≡ None
    go None e = refl
    go (Some z) e = cc

-- a state that is not live in the grammar without limits
dead : (s : State) (l : Lexer) → live s l ≡ false → only_if (live_in no_limits s l) (place s l) ≡ None
dead s l h = ap (λ b. only_if ((b && true) && true) (place s l)) h

free_live : (s : State) (l : Lexer) → live s l ≡ true → only_if (live_in no_limits s l) (place s l) ≡ Some (place s l)
free_live s l h = ap (λ b. only_if ((b && true) && true) (place s l)) h

-- a move that is within the limits is not unexpected
within_goes : (a b : Bool) (s : State) (l : Lexer) (fresh : Bool) → within a b (gone s l fresh) ≡ Stops Unexpected → ⊥
within_goes true true s l fresh e = cc
within_goes true false s l fresh e = cc
within_goes false b s l fresh e = cc

pub unexpected_byte : (q : Both State Lexer) (c : ℕ) → byte_move q c ≡ Stops Unexpected → byte_step no_limits q c ≡ None
unexpected_byte q c h = go (lex q.lexer c) h
  where
    arrived : (s : State) (l : Lexer) → arrive s l true ≡ Stops Unexpected → only_if (live_in no_limits s l) (place s l) ≡ None
    arrived s l h = by (live s l) refl h
      where
        by : (b : Bool) → live s l ≡ b → while_live b (gone s l true) ≡ Stops Unexpected → only_if (live_in no_limits s l) (place s l) ≡ None
        by true e k = cc
        by false e k = dead s l e

    on : (l : Lexer) (t : Option Token) → read_on q l t ≡ Stops Unexpected → and_then (advance (step_in no_limits) q.parser t) (λ s. only_if (live_in no_limits s l) (place s l)) ≡ None
    on l None h = by (live q.parser l) refl h
      where
        by : (b : Bool) → live q.parser l ≡ b → while_live b (within (name_fits l) (number_fits (most_of q.parser) l) (gone q.parser l (is_between q.lexer))) ≡ Stops Unexpected → only_if (live_in no_limits q.parser l) (place q.parser l) ≡ None
        by true e k = absurd (within_goes (name_fits l) (number_fits (most_of q.parser) l) q.parser l (is_between q.lexer) k)
        by false e k = dead q.parser l e
    on l (Some t) h = ap (λ o. and_then o (λ s. only_if (live_in no_limits s l) (place s l))) (free_step q.parser t) ∙ by (step bounded q.parser t) (taken q.parser t) refl refl h
      where
        by : (o : Option State) (b : Bool) → step bounded q.parser t ≡ o → taken q.parser t ≡ b → ended (taking o b) l ≡ Stops Unexpected → and_then (step unlimited q.parser t) (λ s. only_if (live_in no_limits s l) (place s l)) ≡ None
        by (Some s) b e f k = ap (λ o. and_then o (λ s. only_if (live_in no_limits s l) (place s l))) (without_limit bounded q.parser t s e) ∙ arrived s l k
        by None true e f k = cc
        by None false e f k = ap (λ o. and_then o (λ s. only_if (live_in no_limits s l) (place s l))) (not_taken q.parser t f)

    go : (o : Option (Lexer × Option Token)) → lexed q o ≡ Stops Unexpected → and_then o (λ r. and_then (advance (step_in no_limits) q.parser r.1) (λ s. only_if (live_in no_limits s r.0) (place s r.0))) ≡ None
    go None h = refl
    go (Some r) h = on r.0 r.1 h

-- what a token that ends does
pub ended_only : (k : Taking) (l : Lexer) (f : ByteFault) → ended k l ≡ Stops f → (f ≡ Unexpected) ⊎ (f ≡ TooDeep)
ended_only (Leads s) l f e = go (live s l) e
  where
    go : (b : Bool) → while_live b (gone s l true) ≡ Stops f → (f ≡ Unexpected) ⊎ (f ≡ TooDeep)
    go true e = cc
    go false e = inl (let k : Unexpected ≡ f = cc in sym k)
ended_only Refused l f e = inl (let k : Unexpected ≡ f = cc in sym k)
ended_only OneTooMany l f e = inr (let k : TooDeep ≡ f = cc in sym k)

not_ended : (k : Taking) (l : Lexer) (f : ByteFault) → ended k l ≡ Stops f → (f ≡ Unexpected → ⊥) → (f ≡ TooDeep → ⊥) → ⊥
not_ended k l f e g h = elim (ended_only k l f e) [ inl x ↦ g x | inr x ↦ h x ]

-- a limit that a byte passes: without limits the text goes on, and within that one it doesn't
abbrev pub PassesOne : Bool → Bool → Both State Lexer → ℕ → Type 0
PassesOne a b q c = (byte_step (limits a b) q c ≡ None) × ((z : Both State Lexer) × (byte_step no_limits q c ≡ Some z))

limit_state : (a b : Bool) (q : Both State Lexer) (l : Lexer) → live q.parser l ≡ true → live_in (limits a b) q.parser l ≡ false → (only_if (live_in (limits a b) q.parser l) (place q.parser l) ≡ None) × ((z : Both State Lexer) × (only_if (live_in no_limits q.parser l) (place q.parser l) ≡ Some z))
limit_state a b q l e f = (ap (λ x. only_if x (place q.parser l)) f, (place q.parser l, free_live q.parser l e))

long_state : (q : Both State Lexer) (l : Lexer) (a b d fresh : Bool) → live q.parser l ≡ a → name_fits l ≡ b → while_live a (within b d (gone q.parser l fresh)) ≡ Stops LongName → (live q.parser l ≡ true) × (live_in short_names q.parser l ≡ false)
long_state q l true false d fresh e f k = (e, ap (λ x. (x && name_fits l) && true) e ∙ ap (λ x. (true && x) && true) f)
long_state q l true true true fresh e f k = cc
long_state q l true true false fresh e f k = cc
long_state q l false b d fresh e f k = cc

out_state : (q : Both State Lexer) (l : Lexer) (a b d fresh : Bool) → live q.parser l ≡ a → number_fits (most_of q.parser) l ≡ d → while_live a (within b d (gone q.parser l fresh)) ≡ Stops OutOfRange → (live q.parser l ≡ true) × (live_in small_numbers q.parser l ≡ false)
out_state q l true true false fresh e f k = (e, ap (λ x. (x && true) && number_fits (most_of q.parser) l) e ∙ f)
out_state q l true true true fresh e f k = cc
out_state q l true false d fresh e f k = cc
out_state q l false b d fresh e f k = cc

pub long_byte : (q : Both State Lexer) (c : ℕ) → byte_move q c ≡ Stops LongName → PassesOne true false q c
long_byte q c h = go (lex q.lexer c) h
  where
    on : (l : Lexer) (t : Option Token) → read_on q l t ≡ Stops LongName → (and_then (advance (step_in short_names) q.parser t) (λ s. only_if (live_in short_names s l) (place s l)) ≡ None) × ((z : Both State Lexer) × (and_then (advance (step_in no_limits) q.parser t) (λ s. only_if (live_in no_limits s l) (place s l)) ≡ Some z))
    on l None h = let p = long_state q l (live q.parser l) (name_fits l) (number_fits (most_of q.parser) l) (is_between q.lexer) refl refl h in limit_state true false q l p.0 p.1
    on l (Some t) h = absurd (not_ended (take_token q.parser t) l LongName h (λ e. cc) (λ e. cc))

    go : (o : Option (Lexer × Option Token)) → lexed q o ≡ Stops LongName → (and_then o (λ r. and_then (advance (step_in short_names) q.parser r.1) (λ s. only_if (live_in short_names s r.0) (place s r.0))) ≡ None) × ((z : Both State Lexer) × (and_then o (λ r. and_then (advance (step_in no_limits) q.parser r.1) (λ s. only_if (live_in no_limits s r.0) (place s r.0))) ≡ Some z))
    go None h = absurd (no_long (last q.lexer) q.parser h)
    go (Some r) h = on r.0 r.1 h

pub out_byte : (q : Both State Lexer) (c : ℕ) → byte_move q c ≡ Stops OutOfRange → PassesOne false true q c
out_byte q c h = go (lex q.lexer c) h
  where
    on : (l : Lexer) (t : Option Token) → read_on q l t ≡ Stops OutOfRange → (and_then (advance (step_in small_numbers) q.parser t) (λ s. only_if (live_in small_numbers s l) (place s l)) ≡ None) × ((z : Both State Lexer) × (and_then (advance (step_in no_limits) q.parser t) (λ s. only_if (live_in no_limits s l) (place s l)) ≡ Some z))
    on l None h = let p = out_state q l (live q.parser l) (name_fits l) (number_fits (most_of q.parser) l) (is_between q.lexer) refl refl h in limit_state false true q l p.0 p.1
    on l (Some t) h = absurd (not_ended (take_token q.parser t) l OutOfRange h (λ e. cc) (λ e. cc))

    go : (o : Option (Lexer × Option Token)) → lexed q o ≡ Stops OutOfRange → (and_then o (λ r. and_then (advance (step_in small_numbers) q.parser r.1) (λ s. only_if (live_in small_numbers s r.0) (place s r.0))) ≡ None) × ((z : Both State Lexer) × (and_then o (λ r. and_then (advance (step_in no_limits) q.parser r.1) (λ s. only_if (live_in no_limits s r.0) (place s r.0))) ≡ Some z))
    go None h = absurd (no_out (last q.lexer) q.parser h)
    go (Some r) h = on r.0 r.1 h

-- ---- what it does in the grammar of the other limit

long_parts : (a b d : Bool) (s : State) (l : Lexer) (fresh : Bool) → while_live a (within b d (gone s l fresh)) ≡ Stops LongName → (a ≡ true) × (b ≡ false)
long_parts true false d s l fresh e = (refl, refl)
long_parts true true true s l fresh e = cc
long_parts true true false s l fresh e = cc
long_parts false b d s l fresh e = cc

out_parts : (a b d : Bool) (s : State) (l : Lexer) (fresh : Bool) → while_live a (within b d (gone s l fresh)) ≡ Stops OutOfRange → (a ≡ true) × (b ≡ true)
out_parts true true d s l fresh e = (refl, refl)
out_parts true false d s l fresh e = cc
out_parts false b d s l fresh e = cc

-- what is too long a name is no number
long_number : (most : ℕ) (l : Lexer) → name_fits l ≡ false → number_fits most l ≡ true
long_number most (InWord w) e = refl
long_number most (Whole (Identifier w)) e = refl
long_number most (Whole (Number b n)) e = cc
long_number most (Whole (Based x)) e = cc
long_number most (Whole Unused) e = cc
long_number most (Whole (Sign m)) e = cc
long_number most l e = cc

pub long_elsewhere : (q : Both State Lexer) (c : ℕ) → byte_move q c ≡ Stops LongName → (z : Both State Lexer) × (byte_step small_numbers q c ≡ Some z)
long_elsewhere q c h = go (lex q.lexer c) h
  where
    on : (l : Lexer) (t : Option Token) → read_on q l t ≡ Stops LongName → (z : Both State Lexer) × (and_then (advance (step_in small_numbers) q.parser t) (λ s. only_if (live_in small_numbers s l) (place s l)) ≡ Some z)
    on l None h = let p = long_parts (live q.parser l) (name_fits l) (number_fits (most_of q.parser) l) q.parser l (is_between q.lexer) h in (place q.parser l, ap (λ x. only_if x (place q.parser l)) (ap (λ x. (x && true) && number_fits (most_of q.parser) l) p.0 ∙ long_number (most_of q.parser) l p.1))
    on l (Some t) h = absurd (not_ended (take_token q.parser t) l LongName h (λ e. cc) (λ e. cc))

    go : (o : Option (Lexer × Option Token)) → lexed q o ≡ Stops LongName → (z : Both State Lexer) × (and_then o (λ r. and_then (advance (step_in small_numbers) q.parser r.1) (λ s. only_if (live_in small_numbers s r.0) (place s r.0))) ≡ Some z)
    go None h = absurd (no_long (last q.lexer) q.parser h)
    go (Some r) h = on r.0 r.1 h

pub out_elsewhere : (q : Both State Lexer) (c : ℕ) → byte_move q c ≡ Stops OutOfRange → (z : Both State Lexer) × (byte_step short_names q c ≡ Some z)
out_elsewhere q c h = go (lex q.lexer c) h
  where
    on : (l : Lexer) (t : Option Token) → read_on q l t ≡ Stops OutOfRange → (z : Both State Lexer) × (and_then (advance (step_in short_names) q.parser t) (λ s. only_if (live_in short_names s l) (place s l)) ≡ Some z)
    on l None h = let p = out_parts (live q.parser l) (name_fits l) (number_fits (most_of q.parser) l) q.parser l (is_between q.lexer) h in (place q.parser l, ap (λ x. only_if x (place q.parser l)) (ap (λ x. (x && name_fits l) && true) p.0 ∙ ap (λ x. (true && x) && true) p.1))
    on l (Some t) h = absurd (not_ended (take_token q.parser t) l OutOfRange h (λ e. cc) (λ e. cc))

    go : (o : Option (Lexer × Option Token)) → lexed q o ≡ Stops OutOfRange → (z : Both State Lexer) × (and_then o (λ r. and_then (advance (step_in short_names) q.parser r.1) (λ s. only_if (live_in short_names s r.0) (place s r.0))) ≡ Some z)
    go None h = absurd (no_out (last q.lexer) q.parser h)
    go (Some r) h = on r.0 r.1 h

-- ---- a byte that goes on with what is small, or begins it

-- no byte stops it for want of memory
pub never_memory : (q : Both State Lexer) (c : ℕ) → byte_move q c ≡ Stops NoMemory → ⊥
never_memory q c h = go (lex q.lexer c) h
  where
    stuck_not : (o : Option (Option Token)) → stuck q.parser o ≡ Stops NoMemory → ⊥
    stuck_not None e = cc
    stuck_not (Some None) e = cc
    stuck_not (Some (Some t)) e = by (take_token q.parser t) e
      where
        by : (k : Taking) → stuck_at k ≡ Stops NoMemory → ⊥
        by (Leads z) e = cc
        by Refused e = cc
        by OneTooMany e = cc

    silent_not : (a b d : Bool) (l : Lexer) → while_live a (within b d (gone q.parser l (is_between q.lexer))) ≡ Stops NoMemory → ⊥
    silent_not true true true l e = cc
    silent_not true true false l e = cc
    silent_not true false d l e = cc
    silent_not false b d l e = cc

    on : (l : Lexer) (t : Option Token) → read_on q l t ≡ Stops NoMemory → ⊥
    on l None h = silent_not (live q.parser l) (name_fits l) (number_fits (most_of q.parser) l) l h
    on l (Some t) h = not_ended (take_token q.parser t) l NoMemory h (λ e. cc) (λ e. cc)

    go : (o : Option (Lexer × Option Token)) → lexed q o ≡ Stops NoMemory → ⊥
    go None h = stuck_not (last q.lexer) h
    go (Some r) h = on r.0 r.1 h

pub small_stops : (q : Both State Lexer) (c : ℕ) (m : Lexer) (t : Option Token) (f : ByteFault) → lex q.lexer c ≡ Some (m, t) → Small m → byte_move q c ≡ Stops f → (f ≡ Unexpected) ⊎ ((f ≡ TooDeep) × (t ≡ None → ⊥))
small_stops q c m t f e s h = on t (sym (ap (lexed q) e) ∙ h)
  where
    silent : (a b d : Bool) → b ≡ true → d ≡ true → while_live a (within b d (gone q.parser m (is_between q.lexer))) ≡ Stops f → f ≡ Unexpected
    silent true true true i j e = cc
    silent true true false i j e = cc
    silent true false d i j e = cc
    silent false b d i j e = let k : Unexpected ≡ f = cc in sym k

    on : (t : Option Token) → read_on q m t ≡ Stops f → (f ≡ Unexpected) ⊎ ((f ≡ TooDeep) × (t ≡ None → ⊥))
    on None h = inl (silent (live q.parser m) (name_fits m) (number_fits (most_of q.parser) m) s.0 (s.1 (most_of q.parser) (most_low q.parser)) h)
    on (Some t) h = elim (ended_only (take_token q.parser t) m f h) [ inl x ↦ inl x | inr x ↦ inr (x, λ e. cc) ]
