use Rattle.std.proofs.Common.{◌≡◌, ◌<◌, ◌^◌, ℕ, Result, Ok, arith, sym, ◌∙◌, lit<, true, false, not, decimal, ap}
use Rattle.std.proofs.lemmas.Fmt.{parse-decimal}
use Rattle.std.specs.Str.{bytes_eq}
use Rattle.std.proofs.lemmas.Slice.Eq.{bytes_eq-Decides}
use Rattle.bist_endings.proofs.words.number_of.Goals as goal

fits_word : (n : ℕ) → n < 10 ^ 9 → n < 2 ^ 64
fits_word n h = let big : 10 ^ 9 < 2 ^ 64 = lit< tt in omega (arith, h, big)

pub returns-in_default-clause-every : goal.returns-in_default-clause-every
returns-in_default-clause-every c n h =
    absurd (c.in_default.not-Ok n (parse-decimal 64 n _ _ (fits_word n h.0) (fits_word n h.0) h.1 c.parse.ensures.value.0))

same_number : {E : Type 0} (r : Result ℕ E) (m n : ℕ) → r ≡ Ok m → r ≡ Ok n → m ≡ n
same_number r m n h k = cc

pub returns-then-number-ge1000000000-clause-every : goal.returns-then-number-ge1000000000-clause-every
returns-then-number-ge1000000000-clause-every c n h =
    let parsed = parse-decimal 64 n _ _ (fits_word n h.0) (fits_word n h.0) h.1 c.parse.ensures.value.0 in
    let same : c.in-Ok.number ≡ n = same_number _ _ n c.in-Ok.is parsed in
    absurd (omega (arith, same, h.0, c.if-number-ge1000000000.true))

pub returns-then-ne-clause-every : goal.returns-then-ne-clause-every
returns-then-ne-clause-every c n h =
    let parsed = parse-decimal 64 n _ _ (fits_word n h.0) (fits_word n h.0) h.1 c.parse.ensures.value.0 in
    let same : c.in-Ok.number ≡ n = same_number _ _ n c.in-Ok.is parsed in
    let text : c.format.result.now ≡ c.args.word.now = c.format.ensures.text ∙ ap decimal same ∙ sym h.1 in
    let equal = (bytes_eq-Decides c.format.result.now c.args.word.now).1 text in
    let differs : true ≡ not (bytes_eq c.format.result.now c.args.word.now) = sym c.if-ne.true ∙ c.ne.ensures in
    let bad : true ≡ false = differs ∙ ap not equal in cc

pub returns-clause-every : goal.returns-clause-every
returns-clause-every c n h =
    let parsed = parse-decimal 64 n _ _ (fits_word n h.0) (fits_word n h.0) h.1 c.parse.ensures.value.0 in
    let is = c.in-Ok.is in cc
