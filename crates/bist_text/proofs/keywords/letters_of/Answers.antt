use Rattle.std.proofs.Common.{◌≡◌, ◌∙◌, ℕ, ◌<◌, ◌≤◌, Bool, List, [], length, take, get_or, map, if◌then◌else◌, refl, sym, ap, arith}
use Rattle.std.specs.Prelude.{nat_lt}
use Rattle.std.specs.Option.{option_map}
use Rattle.std.proofs.lemmas.Bool.{lt-ltb, le-ltb}
use Rattle.std.proofs.lemmas.List.{length-take-le}
use Rattle.std.proofs.lemmas.Option.{slice_get-map, slice_get_past, slice_get_read}
use Rattle.bist_text.specs.declared.keywords.Keyword.{Keyword}
use Rattle.bist_text.specs.declared.keywords.Letters.{Letters}
use Rattle.bist_text.specs.Keywords.{word_of, front_of, letters_of}
use Rattle.bist_text.proofs.keywords.letters_of.Goals as goal

-- the letters are the front of the word at their place
front_at : {N : Type 0} (ws : List (Keyword N)) (k : Keyword N) (s : Letters) (t : List ℕ) → (s.word < length ws) → k ≡ get_or ws s.word k → t ≡ k.0.now → (if nat_lt s.count (length t) then take s.count t else []) ≡ letters_of (map word_of ws) s
front_at ws k s t i e h =
    ap (λ (x : List ℕ). if nat_lt s.count (length x) then take s.count x else []) h
    ∙ ap (λ o. front_of o s.count) (sym (slice_get-map word_of ws s.word ∙ ap (option_map word_of) (slice_get_read ws (length ws) s.word k refl i e)))

none_past : {N : Type 0} (ws : List (Keyword N)) (s : Letters) → length ws ≤ s.word → [] ≡ letters_of (map word_of ws) s
none_past ws s h = ap (λ o. front_of o s.count) (sym (slice_get-map word_of ws s.word ∙ ap (option_map word_of) (slice_get_past ws s.word h)))

pub returns-in_default : goal.returns-in_default
returns-in_default g c = none_past c.args.words.now c.args.letters c.in_default.ensures.lookup.3

pub slice_bounds-result-end-then-letters-text : goal.slice_bounds-result-end-then-letters-text
slice_bounds-result-end-then-letters-text g c = sym (length-take-le c.args.letters.count _ (omega arith))

pub returns-then-letters-text : goal.returns-then-letters-text
returns-then-letters-text g c =
    ap (λ (q : Bool). if q then take c.args.letters.count c.as_bytes-text.result.now else []) (sym (lt-ltb _ _ c.if-letters-text.true))
    ∙ front_at c.args.words.now c.in-Some.word.now c.args.letters _ c.in-Some.ensures.lookup.3.0 c.in-Some.ensures.lookup.1 c.as_bytes-text.ensures.value

pub returns-else-letters-text : goal.returns-else-letters-text
returns-else-letters-text g c =
    ap (λ (q : Bool). if q then take c.args.letters.count c.as_bytes-text.result.now else []) (sym (le-ltb _ _ c.if-letters-text.false))
    ∙ front_at c.args.words.now c.in-Some.word.now c.args.letters _ c.in-Some.ensures.lookup.3.0 c.in-Some.ensures.lookup.1 c.as_bytes-text.ensures.value
