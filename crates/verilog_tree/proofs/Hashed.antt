-- Tables of names.
use Rattle.std.proofs.Common.{◌≡◌, ℕ, Bool, true, false, cond, ◌||◌, List, [], ◌∷◌, ◌++◌, map, Option, Some, None, option_map, is_some, Result, Ok, Err, IfOk, OnOk, refl, sym, ap, subst, ◌∙◌}
use Rattle.std.proofs.lemmas.Slice.Eq.{bytes_eq-Decides}
use Rattle.std.specs.Str.{bytes_eq}
use Rattle.std.specs.List.{list_any}
use Rattle.std.specs.Map as M
use Rattle.arrayvec.specs.ArrayString.{ArrayString}
use Rattle.bist_text.specs.ReservedWords.{is_among}
use Rattle.verilog_tree.specs.declared.tables.Form.{Form}
use Rattle.verilog_tree.specs.Names.{Declaration, lookup}
use Rattle.verilog_tree.specs.Tables.{with_declared, with_name}

abbrev pub declares : ArrayString × Form → Declaration
declares e = record { name = e.0.bytes; kind = e.1.kind; width = e.1.width }

abbrev pub is_name : List ℕ → ArrayString → Bool
is_name n k = bytes_eq n k.bytes

-- a name with its form
abbrev pub named : List ℕ → Form → Declaration
named n f = record { name = n; kind = f.kind; width = f.width }

found : (t : Bool) (n m : List ℕ) (f : Form) (o : Option Declaration) (p : Option Form) → (t ≡ true → n ≡ m) → o ≡ option_map (named n) p → cond t (Some (named m f)) o ≡ option_map (named n) (cond t (Some f) p)
found true n m f o p same h = ap (λ k. Some (named k f)) (sym (same refl))
found false n m f o p same h = h

pub table_lookup : (es : List (ArrayString × Form)) (n : List ℕ) → lookup (map declares es) n ≡ option_map (named n) (M.lookup (is_name n) es)
table_lookup [] n = refl
table_lookup (e ∷ es) n = found (bytes_eq n e.0.bytes) n e.0.bytes e.1 (lookup (map declares es) n) (M.lookup (is_name n) es) ((bytes_eq-Decides n e.0.bytes).0) (table_lookup es n)

some_mapped : (n : List ℕ) (p : Option Form) → is_some (option_map (named n) p) ≡ is_some p
some_mapped n None = refl
some_mapped n (Some f) = refl

pub table_has : (es : List (ArrayString × Form)) (n : List ℕ) → is_some (lookup (map declares es) n) ≡ is_some (M.lookup (is_name n) es)
table_has es n = ap is_some (table_lookup es n) ∙ some_mapped n (M.lookup (is_name n) es)

map_more : (es : List (ArrayString × Form)) (e : ArrayString × Form) → map declares (es ++ e ∷ []) ≡ map declares es ++ declares e ∷ []
map_more [] e = refl
map_more (d ∷ es) e = ap (λ l. declares d ∷ l) (map_more es e)

none_of : {A : Type 0} (o : Option A) → is_some o ≡ false → o ≡ None
none_of None h = refl
none_of (Some x) h = cc

pub table_none : (es : List (ArrayString × Form)) (n : List ℕ) → is_some (M.lookup (is_name n) es) ≡ false → M.lookup (is_name n) es ≡ None
table_none es n h = none_of (M.lookup (is_name n) es) h

-- a name that is there already
pub declared_already : (es : List (ArrayString × Form)) (d : Declaration) → is_some (M.lookup (is_name d.name) es) ≡ true → map declares es ≡ with_declared (map declares es) d
declared_already es d h = sym (ap (λ t. cond t (map declares es) (map declares es ++ d ∷ [])) (table_has es d.name ∙ h))

-- a name that is new
pub declared_last : (es : List (ArrayString × Form)) (k : ArrayString) (f : Form) → is_some (M.lookup (is_name k.bytes) es) ≡ false → map declares (es ++ (k, f) ∷ []) ≡ with_declared (map declares es) (declares (k, f))
declared_last es k f h = map_more es (k, f) ∙ sym (ap (λ t. cond t (map declares es) (map declares es ++ declares (k, f) ∷ [])) (table_has es k.bytes ∙ h))

abbrev bytes_of : List ArrayString → List (List ℕ)
bytes_of ks = map (λ k. k.bytes) ks

pub set_has : (ks : List ArrayString) (n : List ℕ) → list_any (is_name n) ks ≡ is_among n (bytes_of ks)
set_has [] n = refl
set_has (k ∷ ks) n = ap (λ t. bytes_eq n k.bytes || t) (set_has ks n)

bytes_more : (ks : List ArrayString) (k : ArrayString) → bytes_of (ks ++ k ∷ []) ≡ bytes_of ks ++ k.bytes ∷ []
bytes_more [] k = refl
bytes_more (j ∷ ks) k = ap (λ l. j.bytes ∷ l) (bytes_more ks k)

one_way : (t : Bool) (ks : List ArrayString) (k : ArrayString) → bytes_of (cond t ks (ks ++ k ∷ [])) ≡ cond t (bytes_of ks) (bytes_of ks ++ k.bytes ∷ [])
one_way true ks k = refl
one_way false ks k = bytes_more ks k

pub set_more : (ks : List ArrayString) (k : ArrayString) → bytes_of (cond (list_any (is_name k.bytes) ks) ks (ks ++ k ∷ [])) ≡ with_name (bytes_of ks) k.bytes
set_more ks k = one_way (list_any (is_name k.bytes) ks) ks k ∙ ap (λ t. cond t (bytes_of ks) (bytes_of ks ++ k.bytes ∷ [])) (set_has ks k.bytes)

-- what an answer tells, where it is this one
pub if_ok : {A E : Type 0} (r : Result A E) (P : A → Type 0) (x : A) → r ≡ Ok x → IfOk r P → P x
if_ok r P x e h = subst (λ q. IfOk q P) e h

pub on_ok : {A E : Type 0} (r : Result A E) (P : Type 0) (x : A) → r ≡ Ok x → OnOk r P → P
on_ok r P x e h = subst (λ q. OnOk q P) e h

pub ok_now : {A E : Type 0} (r : Result A E) (P : Type 0) (x : A) → r ≡ Ok x → P → OnOk r P
ok_now r P x e p = subst (λ q. OnOk q P) (sym e) p

pub err_now : {A E : Type 0} (r : Result A E) (P : Type 0) (x : E) → r ≡ Err x → OnOk r P
err_now r P x e = subst (λ q. OnOk q P) (sym e) tt
