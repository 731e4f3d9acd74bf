-- Texts that grow by one line, or by one letter.
use Rattle.std.proofs.Common.{◌≡◌, ◌+◌, ◌-◌, ◌<◌, ◌≤◌, ℕ, List, [], ◌∷◌, ◌++◌, map, take, get_or, length, Result, Ok, Err, OnOk, refl, ap, sym, ◌∙◌, append_assoc, append-nil, arith}
use Rattle.std.proofs.lemmas.List.{take_more, take_all, flat_map_more}
use Rattle.std.proofs.lemmas.Grind.{flat_map-append}
use Rattle.std.proofs.lemmas.List.FromFn.{map-range_with_len_more}
use Rattle.std.specs.List.{flat_map, range_with_len}
use Rattle.std.specs.Prelude.{codes, decimal}
use Rattle.march_core.specs.Visits.{direction_at}
use Rattle.report_lines.specs.Lines.{letter, directions_text, total_line}

pub no_letters : (word : ℕ) → directions_text word 0 ≡ []
unfolding directions_text
no_letters word = refl

pub one_letter_more : (word k : ℕ) → directions_text word (k + 1) ≡ directions_text word k ++ letter (direction_at word k)
unfolding directions_text
one_letter_more word k =
    ap (flat_map letter) (map-range_with_len_more (direction_at word) 0 k k (omega arith))
    ∙ flat_map-append letter (map (direction_at word) (range_with_len 0 k)) (direction_at word k ∷ [])
    ∙ ap (λ l. flat_map letter (map (direction_at word) (range_with_len 0 k)) ++ l) (append-nil (letter (direction_at word k)))

-- a text that grew by two parts
pub two_parts : (o a b p q : List ℕ) → p ≡ o ++ a → q ≡ p ++ b → q ≡ o ++ (a ++ b)
two_parts o a b p q ep eq = eq ∙ ap (λ l. l ++ b) ep ∙ append_assoc o a b

-- a text that grew by the text of one element more, and by those of all
pub text_more : {X : Type 0} (f : X → List ℕ) (xs : List X) (i : ℕ) (d x : X) (old so_far now : List ℕ) → i < length xs → x ≡ get_or xs i d
    → so_far ≡ old ++ flat_map f (take i xs) → now ≡ so_far ++ f x → now ≡ old ++ flat_map f (take (i + 1) xs)
text_more f xs i d x old so_far now h is inv grown =
    grown
    ∙ ap (λ l. l ++ f x) inv
    ∙ ap (λ y. (old ++ flat_map f (take i xs)) ++ f y) is
    ∙ flat_map_more f old (take i xs) (get_or xs i d)
    ∙ ap (λ l. old ++ flat_map f l) (sym (take_more xs i d h))

pub all_texts : {X : Type 0} (f : X → List ℕ) (xs : List X) (i : ℕ) (old now : List ℕ) → length xs ≤ i → now ≡ old ++ flat_map f (take i xs) → now ≡ old ++ flat_map f xs
all_texts f xs i old now h inv = inv ∙ ap (λ l. old ++ flat_map f l) (take_all i xs h)

-- a text that grew by seven parts, in three steps
pub seven_parts : {E : Type 0} (result : Result (Unit {0}) E) (o a b c d e f g p q t : List ℕ) → p ≡ o ++ (a ++ b ++ c) → q ≡ p ++ (d ++ e) → OnOk result (t ≡ q ++ (f ++ g)) → OnOk result (t ≡ o ++ (a ++ b ++ c ++ d ++ e ++ f ++ g))
seven_parts (Err x) o a b c d e f g p q t ep eq et = tt
seven_parts (Ok u) o a b c d e f g p q t ep eq et = et ∙ ap (λ l. l ++ (f ++ g)) (eq ∙ ap (λ l. l ++ (d ++ e)) ep) ∙ simp append_assoc

-- the line of the total
pub total_written : {E : Type 0} (result : Result (Unit {0}) E) (count covered : ℕ) (o p q t : List ℕ) → p ≡ o ++ (codes "total " ++ decimal count ++ codes " covered ")
    → q ≡ p ++ (decimal covered ++ codes " escapes ") → OnOk result (t ≡ q ++ (decimal (count - covered) ++ codes "\n")) → OnOk result (t ≡ o ++ total_line count covered)
total_written result count covered o p q t ep eq et =
    seven_parts result o (codes "total ") (decimal count) (codes " covered ") (decimal covered) (codes " escapes ") (decimal (count - covered)) (codes "\n") p q t ep eq et

-- an item and its class behind a verdict
pub item_written : {E : Type 0} (result : Result (Unit {0}) E) (o verdict item class name p r : List ℕ) → p ≡ o ++ (verdict ++ item ++ codes " ") → OnOk result (r ≡ p ++ class) → class ≡ name → OnOk result (r ≡ o ++ (verdict ++ (item ++ codes " " ++ name)))
item_written (Err e) o verdict item class name p r ep er ec = tt
item_written (Ok u) o verdict item class name p r ep er ec = er ∙ ap (λ l. p ++ l) ec ∙ ap (λ l. l ++ name) ep ∙ joined (codes " ")
  where
    joined : (blank : List ℕ) → (o ++ (verdict ++ item ++ blank)) ++ name ≡ o ++ (verdict ++ (item ++ blank ++ name))
    joined blank = simp append_assoc

-- the line of a memory
pub memory_written : {E : Type 0} (result : Result (Unit {0}) E) (o a name b words c bits d backgrounds e commands f p q r s t : List ℕ) → p ≡ o ++ (a ++ name ++ b) → q ≡ p ++ (words ++ c) → r ≡ q ++ (bits ++ d) → s ≡ r ++ (backgrounds ++ e)
    → OnOk result (t ≡ s ++ (commands ++ f)) → OnOk result (t ≡ o ++ ((a ++ name ++ b ++ words ++ c ++ bits) ++ (d ++ backgrounds ++ e ++ commands) ++ f))
memory_written (Err x) o a name b words c bits d backgrounds e commands f p q r s t ep eq er es et = tt
memory_written (Ok u) o a name b words c bits d backgrounds e commands f p q r s t ep eq er es et =
    et ∙ ap (λ l. l ++ (commands ++ f)) (es ∙ ap (λ l. l ++ (backgrounds ++ e)) (er ∙ ap (λ l. l ++ (bits ++ d)) (eq ∙ ap (λ l. l ++ (words ++ c)) ep))) ∙ simp append_assoc
