-- Public. Tables of names, and what they keep.
use Rattle.std.specs.Prelude.{ℕ, cond, List, [], ◌∷◌, ◌++◌, map, is_some}
use Rattle.bist_text.specs.ReservedWords.{is_among}
use Rattle.verilog_tree.specs.declared.tables.Declarations.TheInside as D
use Rattle.verilog_tree.specs.declared.tables.NameSet.TheInside as S
use Rattle.verilog_tree.specs.Names.{Declaration, lookup}

abbrev pub declarations_of : D.Inside → List Declaration
declarations_of t = map (λ e. record { name = e.0.bytes; kind = e.1.kind; width = e.1.width }) t.forms.entries

abbrev pub names_of : S.Inside → List (List ℕ)
names_of t = map (λ n. n.bytes) t.names.keys

-- one more declaration, where the name has none
abbrev pub with_declared : List Declaration → Declaration → List Declaration
with_declared ds d = cond (is_some (lookup ds d.name)) ds (ds ++ d ∷ [])

-- one more name, where it isn't there
abbrev pub with_name : List (List ℕ) → List ℕ → List (List ℕ)
with_name ns n = cond (is_among n ns) ns (ns ++ n ∷ [])
