-- Inner. Rows of names and of what was built for them.
use Rattle.std.specs.Prelude.{◌≡◌, ℕ, List, [], ◌∷◌, Result, IfOk, ⊤}
use Rattle.arrayvec.specs.declared.array_string.ArrayString.{ArrayString}
use Rattle.verilog_tree.specs.declared.tree.Expr.{Expr}
use Rattle.verilog_tree.specs.Plain.{Expression, plain}

-- Whether this is what each row writes: under its name what was built, where that was built.
abbrev pub AreRows : {A E : Type 0} → (List ℕ → Expression → A) → List (ArrayString 64 × Result Expr E) → List A → Type 0
AreRows f [] [] = ⊤
AreRows f [] (w ∷ ws) = ⊥
AreRows f (row ∷ rows) [] = ⊥
AreRows f (row ∷ rows) (w ∷ ws) = IfOk row.1 (λ x. f row.0.bytes (plain x) ≡ w) × AreRows f rows ws
