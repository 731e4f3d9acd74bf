-- Inner. For proofs and private contracts alone, beside Lexing: what the lexer does at each byte, and what may still come where it stands.
use Rattle.std.specs.Prelude.{◌≡◌, ℕ, List, [], ◌∷◌}
use Rattle.verilog_tree.specs.Tokens.{gap, Token, Identifier, run, sized, decimal, digits, behind_digits, behind_letter, behind_quote, behind_number, behind_mark, first, Lexed}
use Rattle.bist_text.specs.Identifiers.{in_identifier}
use Rattle.verilog_text.specs.Lexing.{Lexer, InGap, InWord, InNumber, Quoted, Lettered, InDigits, Marked, Whole}

-- what the rest of a token's text is
abbrev pub unread_token : Lexer → Token → (List ℕ → Type 0) → List ℕ → Type 0
unread_token (InGap m) t K b = ⊥
unread_token (InWord w) (Identifier v) K b = run in_identifier w (λ x r. (x ≡ v) × K r) b
unread_token (InWord w) _ K b = ⊥
unread_token (InNumber long n) t K b = decimal long n (behind_number t K) b
unread_token (Quoted n) t K b = sized t (behind_quote t K n b)
unread_token (Lettered n base) t K b = sized t (behind_letter t K n base b)
unread_token (InDigits n base v) t K b = sized t (digits base v (behind_digits t K n base) b)
unread_token (Marked m) t K b = behind_mark m t K b
unread_token (Whole s) t K b = (s ≡ t) × K b

abbrev pub unread_first : Lexer → List ℕ → List Token → Type 0
unread_first l b [] = ⊥
unread_first l b (t ∷ us) = unread_token l t (Lexed us) b

abbrev pub unread : Lexer → List ℕ → List Token → Type 0
unread (InGap m) b ts = gap m (first ts) b
unread l b ts = unread_first l b ts
