-- Inner. For proofs and private contracts alone, beside Building: a march under construction: one more operation, and why it is not yet a march.
use Rattle.std.specs.Prelude.{◌==◌, ◌&&◌, ◌||◌, Bool, false, not, List, [], ◌∷◌, length}
use Rattle.march_core.specs.March.{MarchElement, ops_of, is_pause}

-- some element isn't a pause and has no operation
abbrev pub some_empty : List MarchElement → Bool
some_empty [] = false
some_empty (e ∷ es) = (not (is_pause e) && (length (ops_of e) == 0)) || some_empty es
