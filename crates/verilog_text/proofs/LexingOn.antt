-- What the lexer makes of bytes, whatever follows.
use Rattle.std.proofs.Common.{◌≡◌, ℕ, List, [], ◌∷◌, ◌++◌, Option, Some, None, refl, sym, ap, subst, ◌∙◌}
use Rattle.bist_text.specs.inner.Lexed.{emitted}
use Rattle.bist_text.specs.Lexed.{then as and_then}
use Rattle.bist_text.specs.Machine.{Holds}
use Rattle.verilog_tree.specs.Tokens.{Token}
use Rattle.verilog_text.specs.Lexing.{Lexer, lex}
use Rattle.verilog_text.specs.inner.Lexing.{unread}
use Rattle.verilog_text.proofs.LexerLaws.{lexes}

-- the tokens that end in these bytes, and where the lexer then stands
abbrev pub lexing : List ℕ → Lexer → Option (List Token × Lexer)
lexing [] l = Some ([], l)
lexing (c ∷ b) l = and_then (lex l c) (λ r. and_then (lexing b r.0) (λ s. Some (emitted r.1 s.0, s.1)))

pub emitted_on : (o : Option Token) (ts us : List Token) → emitted o (ts ++ us) ≡ emitted o ts ++ us
emitted_on None ts us = refl
emitted_on (Some t) ts us = refl

-- what is unread behind the bytes
abbrev Behind : Option (List Token × Lexer) → List ℕ → List Token → Type 0
Behind o more ws = Holds o (λ s. (us : List Token) × (ws ≡ s.0 ++ us) × unread s.1 more us)

-- of a byte, and of the bytes behind it
behind_to : (o : Option Token) (p : Option (List Token × Lexer)) (more : List ℕ) (vs : List Token) → Behind p more vs → Behind (and_then p (λ s. Some (emitted o s.0, s.1))) more (emitted o vs)
behind_to o None more vs h = h
behind_to o (Some s) more vs h = (h.0, ap (emitted o) h.1 ∙ emitted_on o s.0 h.0, h.2)

behind_from : (o : Option Token) (p : Option (List Token × Lexer)) (more : List ℕ) (ws : List Token) → Behind (and_then p (λ s. Some (emitted o s.0, s.1))) more ws → (vs : List Token) × (ws ≡ emitted o vs) × Behind p more vs
behind_from o None more ws h = absurd h
behind_from o (Some s) more ws h = (s.0 ++ h.0, h.1 ∙ sym (emitted_on o s.0 h.0), (h.0, refl, h.2))

pub unread_to : (b : List ℕ) (l : Lexer) (more : List ℕ) (ws : List Token) → unread l (b ++ more) ws → Behind (lexing b l) more ws
unread_to [] l more ws h = (ws, refl, h)
unread_to (c ∷ b) l more ws h = go (lex l c) ((lexes.goes l c (b ++ more) ws).0 h) (λ m vs u. unread_to b m more vs u)
  where
    go : (o : Option (Lexer × Option Token)) → Holds o (λ r. (us : List Token) × (ws ≡ emitted r.1 us) × unread r.0 (b ++ more) us) → ((m : Lexer) (vs : List Token) → unread m (b ++ more) vs → Behind (lexing b m) more vs) → Behind (and_then o (λ r. and_then (lexing b r.0) (λ s. Some (emitted r.1 s.0, s.1)))) more ws
    go None h f = h
    go (Some r) h f = subst (λ (x : List Token). Behind (and_then (lexing b r.0) (λ s. Some (emitted r.1 s.0, s.1))) more x) (sym h.1) (behind_to r.1 (lexing b r.0) more h.0 (f r.0 h.0 h.2))

pub unread_from : (b : List ℕ) (l : Lexer) (more : List ℕ) (ws : List Token) → Behind (lexing b l) more ws → unread l (b ++ more) ws
unread_from [] l more ws h = subst (λ (x : List Token). unread l more x) (sym h.1) h.2
unread_from (c ∷ b) l more ws h = (lexes.goes l c (b ++ more) ws).1 (go (lex l c) h (λ m vs k. unread_from b m more vs k))
  where
    go : (o : Option (Lexer × Option Token)) → Behind (and_then o (λ r. and_then (lexing b r.0) (λ s. Some (emitted r.1 s.0, s.1)))) more ws → ((m : Lexer) (vs : List Token) → Behind (lexing b m) more vs → unread m (b ++ more) vs) → Holds o (λ r. (us : List Token) × (ws ≡ emitted r.1 us) × unread r.0 (b ++ more) us)
    go None h f = h
    go (Some r) h f = let k = behind_from r.1 (lexing b r.0) more ws h in (k.0, k.1, f r.0 k.0 k.2)

-- bytes of which the lexer makes these tokens, before others
pub lexed_on : (b : List ℕ) (l m : Lexer) (ts : List Token) (more : List ℕ) (us : List Token) → lexing b l ≡ Some (ts, m) → unread m more us → unread l (b ++ more) (ts ++ us)
lexed_on b l m ts more us e h = unread_from b l more (ts ++ us) (subst (λ (o : Option (List Token × Lexer)). Behind o more (ts ++ us)) (sym e) (us, refl, h))
