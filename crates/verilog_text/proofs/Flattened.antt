-- A derivation by ten rules made flat, and that it keeps the rules.
use Rattle.std.proofs.Common.{◌≡◌, ℕ, zero, suc}
use Rattle.verilog_tree.specs.Free as T
use Rattle.verilog_text.specs.Flat as F

abbrev mutual
  pub flattened : T.Expr → F.Flat
  flattened (T.Simple x) = F.FlatOf (head x) (behind x F.End)
  flattened (T.Choice c x y) = F.FlatOf (head c) (behind c (F.Ask (flattened x) (flattened y)))

  -- its first operand
  pub head : T.Rule → F.Operand
  head (T.Chain x xs) = head x
  head (T.Operand u p) = F.OperandOf u (flat_prim p)

  -- the others, and then a tail
  pub behind : T.Rule → F.Tail → F.Tail
  behind (T.Chain x xs) t = behind x (links_behind xs t)
  behind (T.Operand u p) t = t

  pub links_behind : T.Links → F.Tail → F.Tail
  links_behind T.NoLink t = t
  links_behind (T.AndLink o x xs) t = F.Link o (head x) (behind x (links_behind xs t))

  pub flat_prim : T.Prim → F.Prim
  flat_prim (T.Name n) = F.Name n
  flat_prim (T.Select n i) = F.Select n i
  flat_prim (T.Range n h l) = F.Range n h l
  flat_prim (T.Constant x) = F.Constant x
  flat_prim (T.Braces x xs) = F.Braces (flattened x) (all_flattened xs)
  flat_prim (T.Parens x) = F.Parens (flattened x)

  pub all_flattened : T.Exprs → F.Flats
  all_flattened T.NoExpr = F.NoFlat
  all_flattened (T.AndExpr x xs) = F.AndFlat (flattened x) (all_flattened xs)

-- what the rules say of a derivation, whatever its tokens
abbrev mutual
  pub Fits : T.Expr → Type 0
  Fits (T.Simple x) = FitsRule T.lor x
  Fits (T.Choice c x y) = FitsRule T.lor c × Fits x × Fits y

  pub FitsRule : ℕ → T.Rule → Type 0
  FitsRule (suc k) (T.Chain x xs) = FitsRule k x × FitsLinks k xs
  FitsRule zero (T.Operand u p) = FitsPrim p
  FitsRule zero (T.Chain x xs) = ⊥
  FitsRule (suc k) (T.Operand u p) = ⊥

  pub FitsLinks : ℕ → T.Links → Type 0
  FitsLinks k T.NoLink = Unit {0}
  FitsLinks k (T.AndLink o x xs) = (T.height o ≡ suc k) × FitsRule k x × FitsLinks k xs

  pub FitsPrim : T.Prim → Type 0
  FitsPrim (T.Name n) = Unit {0}
  FitsPrim (T.Select n i) = Unit {0}
  FitsPrim (T.Range n h l) = Unit {0}
  FitsPrim (T.Constant x) = Unit {0}
  FitsPrim (T.Braces x xs) = Fits x × FitsAll xs
  FitsPrim (T.Parens x) = Fits x

  pub FitsAll : T.Exprs → Type 0
  FitsAll T.NoExpr = Unit {0}
  FitsAll (T.AndExpr x xs) = Fits x × FitsAll xs
