-- The names of a list as the words that a reader looks for.
use Rattle.std.proofs.Common.{◌≡◌, ◌↔◌, ℕ, true, List, [], ◌∷◌, Some, None, refl, inl}
use Rattle.std.specs.List.{list_all}
use Rattle.std.specs.Prelude.{slice_get}
use Rattle.bist_text.specs.Grammar.{word}
use Rattle.bist_text.specs.Keywords.{Word, seek}
use Rattle.bist_text.specs.inner.Keywords.{stands, are_apart}
use Rattle.bist_text.proofs.KeywordLaws.{IsOf, is_at, is_passed, stands_all}
use Rattle.bist_text.proofs.Pieces.{stay}
use Rattle.fault_core.specs.declared.table.Class.TheVariants.{SF, TF, WDF, RDF, DRDF, IRF, CFst, CFds, CFtr, CFwd, CFrd, CFdr, CFir, DRF}
use Rattle.fault_syntax.specs.declared.words.Form.{Form}
use Rattle.fault_syntax.specs.declared.words.Form.TheVariants.{Single, Listed}
use Rattle.fault_syntax.specs.declared.words.GroupName.{GroupName}
use Rattle.fault_syntax.specs.declared.words.GroupName.TheVariants.{OfClass, One, Two, All, DynOne, DynTwo}
use Rattle.fault_syntax.specs.declared.words.AllowedNames.{AllowedNames}
use Rattle.fault_syntax.specs.declared.words.AllowedNames.TheVariants.{Static, Every}
use Rattle.fault_syntax.specs.Names.{name_text, is_in}
use Rattle.fault_syntax.specs.inner.Names.{static_names, names_of, words_of}

-- no word begins another
pub fine : (form : Form) → are_apart (words_of form) ≡ true
fine Single = refl
fine (Listed Static) = refl
fine (Listed Every) = refl

abbrev pub sf : Word GroupName
sf = record { text = name_text (OfClass SF); value = OfClass SF }

pub first_word : (form : Form) → slice_get (words_of form) 0 ≡ Some sf
first_word Single = refl
first_word (Listed Static) = refl
first_word (Listed Every) = refl

abbrev pub NoName : AllowedNames → ℕ → Type 0
NoName set c = seek [] c 0 (words_of (Listed set)) ≡ None

-- blanks and marks begin no name
pub no_names : (set : AllowedNames) → NoName set 32 × NoName set 9 × NoName set 13 × NoName set 60 × NoName set 35
no_names Static = (refl, refl, refl, refl, refl)
no_names Every = (refl, refl, refl, refl, refl)

-- the names of a set
in_either : (i : ℕ) (n : GroupName) (set : AllowedNames) → slice_get static_names i ≡ Some n → slice_get (names_of (Listed Every)) i ≡ Some n → IsOf (names_of (Listed set)) n
in_either i n Static h k = is_at static_names i n h
in_either i n Every h k = is_at (names_of (Listed Every)) i n k

name_in : (set : AllowedNames) (n : GroupName) → is_in set n ≡ true → IsOf (names_of (Listed set)) n
name_in set (OfClass SF) e = in_either 0 (OfClass SF) set refl refl
name_in set (OfClass TF) e = in_either 1 (OfClass TF) set refl refl
name_in set (OfClass WDF) e = in_either 2 (OfClass WDF) set refl refl
name_in set (OfClass RDF) e = in_either 3 (OfClass RDF) set refl refl
name_in set (OfClass DRDF) e = in_either 4 (OfClass DRDF) set refl refl
name_in set (OfClass IRF) e = in_either 5 (OfClass IRF) set refl refl
name_in set (OfClass CFst) e = in_either 6 (OfClass CFst) set refl refl
name_in set (OfClass CFds) e = in_either 7 (OfClass CFds) set refl refl
name_in set (OfClass CFtr) e = in_either 8 (OfClass CFtr) set refl refl
name_in set (OfClass CFwd) e = in_either 9 (OfClass CFwd) set refl refl
name_in set (OfClass CFrd) e = in_either 10 (OfClass CFrd) set refl refl
name_in set (OfClass CFdr) e = in_either 11 (OfClass CFdr) set refl refl
name_in set (OfClass CFir) e = in_either 12 (OfClass CFir) set refl refl
name_in set (OfClass DRF) e = in_either 13 (OfClass DRF) set refl refl
name_in set One e = in_either 14 One set refl refl
name_in set Two e = in_either 15 Two set refl refl
name_in set All e = in_either 16 All set refl refl
name_in Static DynOne e = cc
name_in Static DynTwo e = cc
name_in Every DynOne e = is_at (names_of (Listed Every)) 17 DynOne refl
name_in Every DynTwo e = is_at (names_of (Listed Every)) 18 DynTwo refl

all_in : (set : AllowedNames) → list_all (is_in set) (names_of (Listed set)) ≡ true
all_in Static = refl
all_in Every = refl

-- a name that the set has, by its word
pub named : (set : AllowedNames) (n : GroupName) (K : List ℕ → Type 0) (b : List ℕ) → stands (words_of (Listed set)) n K b ↔ ((is_in set n ≡ true) × word (name_text n) K b)
named set n K b =
    let all = stands_all (λ m. name_text m ∷ []) (names_of (Listed set)) n K b in (
      λ h. let k = all.0 h in (is_passed (is_in set) (names_of (Listed set)) n (all_in set) k.0, (stay (λ z. z)).0 k.1),
      λ h. all.1 (name_in set n h.0, inl h.1),
    )
