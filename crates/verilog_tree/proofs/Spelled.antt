-- A text and its tokens.
use Rattle.std.proofs.Common.{List, [], ◌∷◌, None, refl, inl, inr, codes, false}
use Rattle.verilog_tree.specs.declared.tokens.Mark.TheVariants.{Open, Close, Comma, Semicolon, Equals}
use Rattle.verilog_tree.specs.declared.tree.Dir.TheVariants.{Input, Output}
use Rattle.verilog_tree.specs.Tokens.{Token, Identifier, Sign, Lexed}
use Rattle.verilog_tree.specs.Grammar.{File, Drives, Full}
use Rattle.verilog_tree.specs.Parenthesised.{Parens, Name}
use Rattle.verilog_tree.specs.Spells.{Spells}
use Rattle.verilog_tree.specs.Examples.{text, spelled}

tokens : List Token
tokens = Identifier (codes "module") ∷ Identifier (codes "m") ∷ Sign Open ∷ Identifier (codes "input") ∷ Identifier (codes "a") ∷ Sign Comma
    ∷ Identifier (codes "output") ∷ Identifier (codes "y") ∷ Sign Close ∷ Sign Semicolon ∷ Identifier (codes "assign") ∷ Identifier (codes "y")
    ∷ Sign Equals ∷ Sign Open ∷ Identifier (codes "a") ∷ Sign Close ∷ Sign Semicolon ∷ Identifier (codes "endmodule") ∷ []

derivation : File
derivation = record {
  name = codes "m";
  port = record { dir = Input; wire = false; range = None; name = codes "a" };
  ports = record { dir = Output; wire = false; range = None; name = codes "y" } ∷ [];
  items = Drives (codes "y") (Full (Parens (Name (codes "a")))) ∷ [];
}

lexed : Lexed tokens text
unfolding tokens
lexed = inl (refl, inr (inl (inl (refl, inl (refl, inl (refl, inr (inl (inl (refl, inl (refl, inl (refl, inr (inl (inl (refl, inl (refl, inl (refl, inl (refl, inr (inl (inl (refl, inl (refl, inl (refl, inl (refl, inl (refl, inl (refl, inr (inl (inl (refl, tt))))))))))))))))))))))))))))

pub spells : Spells text spelled
unfolding tokens derivation
spells = (tokens, lexed, refl, (derivation, (refl, refl, (refl, refl, (refl, refl, (refl, refl, (refl, refl, tt))))), refl))
