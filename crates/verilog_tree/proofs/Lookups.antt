-- Looking names up.
use Rattle.std.proofs.Common.{◌≡◌, ℕ, Bool, true, false, cond, List, [], ◌∷◌, ◌++◌, Option, Some, None, refl}
use Rattle.std.specs.Str.{bytes_eq}
use Rattle.verilog_tree.specs.Names.{Declaration, lookup}

here_first : (t : Bool) (c d : Declaration) (o p : Option Declaration) → cond t (Some c) o ≡ Some d → (o ≡ Some d → p ≡ Some d) → cond t (Some c) p ≡ Some d
here_first true c d o p h later = h
here_first false c d o p h later = later h

-- the first declaration is that of the first list, if it has one
pub lookup_first : (ds es : List Declaration) (n : List ℕ) (d : Declaration) → lookup ds n ≡ Some d → lookup (ds ++ es) n ≡ Some d
lookup_first [] es n d h = cc
lookup_first (c ∷ ds) es n d h = here_first (bytes_eq n c.name) c d (lookup ds n) (lookup (ds ++ es) n) h (lookup_first ds es n d)

not_here : (t : Bool) (c : Declaration) (o p q : Option Declaration) → cond t (Some c) o ≡ None → (o ≡ None → p ≡ q) → cond t (Some c) p ≡ q
not_here true c o p q h later = cc
not_here false c o p q h later = later h

-- and else that of the second
pub lookup_second : (ds es : List Declaration) (n : List ℕ) → lookup ds n ≡ None → lookup (ds ++ es) n ≡ lookup es n
lookup_second [] es n h = refl
lookup_second (c ∷ ds) es n h = not_here (bytes_eq n c.name) c (lookup ds n) (lookup (ds ++ es) n) (lookup es n) h (lookup_second ds es n)
