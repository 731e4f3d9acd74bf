use Rattle.std.proofs.Common.{◌≡◌, ◌∙◌, ℕ, suc, ◌+◌, ◌<◌, Bool, List, ◌∷◌, Option, Some, length, drop, drop-cons, get_or, map, if◌then◌else◌, sym, ap, arith}
use Rattle.std.proofs.lemmas.List.{drop_all}
use Rattle.bist_text.specs.declared.keywords.Keyword.{Keyword}
use Rattle.bist_text.specs.declared.keywords.Spelled.{Spelled}
use Rattle.bist_text.specs.Keywords.{word_of, goes_on, spelled_as, seek}
use Rattle.bist_text.proofs.keywords.seek.Goals as goal

-- what the next word makes of what is sought
seek_read : {N : Type 0} (ls : List ℕ) (c i : ℕ) (ws : List (Keyword N)) (w : Keyword N) (t : Bool) (x : Option (Spelled N)) → i < length ws → w ≡ get_or ws i w → t ≡ goes_on ls c w.0.now → seek ls c i (map word_of (drop i ws)) ≡ x → (if t then Some (spelled_as ls i (word_of w)) else seek ls c (i + 1) (map word_of (drop (i + 1) ws))) ≡ x
seek_read {N} ls c i ws w t x l e q h =
    let next : suc i ≡ i + 1 = omega arith in
    let head : drop i ws ≡ w ∷ drop (i + 1) ws = drop-cons ws i w l ∙ ap (λ (y : Keyword N). y ∷ drop (suc i) ws) (sym e) ∙ ap (λ (k : ℕ). w ∷ drop k ws) next in
    ap (λ (t : Bool). if t then Some (spelled_as ls i (word_of w)) else seek ls c (i + 1) (map word_of (drop (i + 1) ws))) q ∙ sym (ap (λ (y : List (Keyword N)). seek ls c i (map word_of y)) head) ∙ h

pub returns-then-goes_on : goal.returns-then-goes_on
returns-then-goes_on g c =
    ap Some c.spelled_as.ensures
    ∙ seek_read c.args.letters.now c.args.letter c.loop-i.i c.args.words.now c.index-words-i.result _ _ c.loop-i-test.true c.index-words-i.is (sym c.if-goes_on.true ∙ c.goes_on.ensures ∙ ap (goes_on c.args.letters.now c.args.letter) c.as_bytes.ensures.value) c.loop-i.invariant

pub loop-i-preserved : goal.loop-i-preserved
loop-i-preserved g c =
    seek_read c.args.letters.now c.args.letter c.loop-i.i c.args.words.now c.index-words-i.result _ _ c.loop-i-test.true c.index-words-i.is (sym c.if-goes_on.false ∙ c.goes_on.ensures ∙ ap (goes_on c.args.letters.now c.args.letter) c.as_bytes.ensures.value) c.loop-i.invariant

pub returns : goal.returns
returns g c =
    ap (λ ws. seek c.args.letters.now c.args.letter c.loop-i.i (map word_of ws)) (sym (drop_all c.loop-i.i c.args.words.now c.loop-i-test.false)) ∙ c.loop-i.invariant
