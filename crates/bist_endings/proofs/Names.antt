-- The names of a loop of wires, one after another.
use Rattle.std.proofs.Common.{◌≡◌, ◌≤◌, ◌<◌, ℕ, ◌+◌, ◌++◌, List, [], ◌∷◌, length, get_or, drop, sym, ◌∙◌, ap, codes, append-nil, append_assoc}
use Rattle.std.proofs.lemmas.List.{drop_more, drop_all}
use Rattle.arrayvec.specs.ArrayString.{ArrayString}
use Rattle.bist_endings.specs.Ending.{names_text}

pub names_more : (all out new : List ℕ) (names : List ArrayString) (i : ℕ) (name : ArrayString) → i < length names → name ≡ get_or names i name
    → new ≡ out ++ (codes " " ++ name.bytes ++ codes "") → out ++ names_text (drop i names) ≡ all → new ++ names_text (drop (i + 1) names) ≡ all
names_more all out new names i name within is grown inv =
    ap (λ (l : List ℕ). l ++ names_text (drop (i + 1) names)) grown
    ∙ append_assoc out (codes " " ++ name.bytes ++ []) (names_text (drop (i + 1) names))
    ∙ ap (λ (l : List ℕ). out ++ (codes " " ++ (l ++ names_text (drop (i + 1) names)))) (append-nil name.bytes)
    ∙ ap (λ (n : ArrayString). out ++ names_text (n ∷ drop (i + 1) names)) is
    ∙ ap (λ (l : List ArrayString). out ++ names_text l) (sym (drop_more names i name within))
    ∙ inv

pub names_all : (all out : List ℕ) (names : List ArrayString) (i : ℕ) → length names ≤ i → out ++ names_text (drop i names) ≡ all → out ≡ all
names_all all out names i ended inv = sym (append-nil out) ∙ ap (λ (l : List ArrayString). out ++ names_text l) (sym (drop_all i names ended)) ∙ inv
