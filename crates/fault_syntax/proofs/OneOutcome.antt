-- A text is read as one primitive, or refused in one way.
use Rattle.std.proofs.Common.{◌≡◌, ◌↔◌, ℕ, List, ◌∙◌, Option, Some, None, Result, Ok, Err, sym, ap, subst, arith}
use Rattle.bist_text.specs.Grammar.{IsUnexpected, IsTruncated}
use Rattle.bist_text.specs.Machine.{Outcome, read, unexpected, truncated}
use Rattle.bist_text.specs.inner.Machine.{Answers}
use Rattle.bist_text.proofs.Machine.{HasTexts, unexpected_so, truncated_so}
use Rattle.bist_text.proofs.Settled.{answers_one}
use Rattle.fault_core.specs.Primitive.{Primitive, IsPrimitive}
use Rattle.fault_syntax.specs.declared.fault.FaultFault.{FaultFault}
use Rattle.fault_syntax.specs.declared.fault.FaultFault.TheVariants.{Unexpected, Truncated, NotAFault, TooManyOperations, TooManyPrimitives, NoMemory}
use Rattle.fault_syntax.specs.Answers.{RefusesAt, ReadsPrim}
use Rattle.fault_syntax.specs.inner.Answers.{JudgesAt, GivesPrim}
use Rattle.fault_syntax.specs.ListText.{Item, Primitive as OnePrimitive, Named}
use Rattle.fault_syntax.specs.Parts.{StandsFor}
use Rattle.fault_syntax.specs.declared.words.Form.TheVariants.{Single}
use Rattle.fault_syntax.specs.inner.Places.{start, step, value, rest}
use Rattle.fault_syntax.specs.PrimText.{PrimParts, PrimText}
use Rattle.fault_syntax.proofs.Judging.{stands_one, one_operation}
use Rattle.fault_syntax.proofs.PlaceLaws.{follows, Alone, alone_is}

-- ---- the parts alone, and as an item

has_parts : HasTexts Alone PrimText
has_parts b None h = absurd h
has_parts b (Some (OnePrimitive p)) h = (p, h)
has_parts b (Some (Named n)) h = absurd h

is_item : HasTexts PrimText Alone
is_item b p h = (Some (OnePrimitive p), h)

pub unexpected_parts : (b : List ℕ) (k : ℕ) → IsUnexpected Alone b k ↔ IsUnexpected PrimText b k
unexpected_parts b k = (unexpected_so Alone PrimText has_parts is_item b k, unexpected_so PrimText Alone is_item has_parts b k)

pub truncated_parts : (b : List ℕ) → IsTruncated Alone b ↔ IsTruncated PrimText b
truncated_parts b = (truncated_so Alone PrimText has_parts is_item b, truncated_so PrimText Alone is_item has_parts b)

-- ---- written parts

-- a primitive isn't refused
pub not_refused : (line : ℕ) (text : PrimParts) (p : Primitive) (fault : FaultFault) → StandsFor text p → IsPrimitive p → RefusesAt line text fault → ⊥
not_refused line text p (TooManyOperations l) h i r = let n = one_operation text p h i in omega (arith, r.1)
not_refused line text p (NotAFault l) h i r = r.1.1 p h i
not_refused line text p (Unexpected l k) h i r = r
not_refused line text p (Truncated l) h i r = r
not_refused line text p (TooManyPrimitives l) h i r = r
not_refused line text p NoMemory h i r = r

-- parts are refused in one way
pub refuses_one : (line : ℕ) (text : PrimParts) (f g : FaultFault) → RefusesAt line text f → RefusesAt line text g → f ≡ g
refuses_one line text (TooManyOperations l) (TooManyOperations m) h k = ap TooManyOperations (h.0 ∙ sym k.0)
refuses_one line text (NotAFault l) (NotAFault m) h k = ap NotAFault (h.0 ∙ sym k.0)
refuses_one line text (TooManyOperations l) (NotAFault m) h k = absurd (omega (arith, h.1, k.1.0))
refuses_one line text (NotAFault l) (TooManyOperations m) h k = absurd (omega (arith, h.1.0, k.1))
refuses_one line text (Unexpected l n) g h k = absurd h
refuses_one line text (Truncated l) g h k = absurd h
refuses_one line text (TooManyPrimitives l) g h k = absurd h
refuses_one line text NoMemory g h k = absurd h
refuses_one line text f (Unexpected l n) h k = absurd k
refuses_one line text f (Truncated l) h k = absurd k
refuses_one line text f (TooManyPrimitives l) h k = absurd k
refuses_one line text f NoMemory h k = absurd k

judges_one : (line : ℕ) (text : PrimParts) (q r : Result Primitive FaultFault) → JudgesAt line text q → JudgesAt line text r → q ≡ r
judges_one line text (Ok p) (Ok q) h k = ap (λ x. Ok x) (stands_one text p q h.0 k.0)
judges_one line text (Ok p) (Err g) h k = absurd (not_refused line text p g h.0 h.1 k)
judges_one line text (Err f) (Ok q) h k = absurd (not_refused line text q f k.0 k.1 h)
judges_one line text (Err f) (Err g) h k = ap (λ x. Err x) (refuses_one line text f g h k)

-- ---- the text of a primitive

gives_one : (o : Outcome (Option Item)) (q r : Result Primitive FaultFault) → GivesPrim o q → GivesPrim o r → q ≡ r
gives_one (unexpected k) q r h i = h ∙ sym i
gives_one truncated q r h i = h ∙ sym i
gives_one (read None) q r h i = absurd h
gives_one (read (Some (OnePrimitive text))) q r h i = judges_one 1 text q r h i
gives_one (read (Some (Named n))) q r h i = absurd h

alone_one : (b : List ℕ) (o p : Outcome (Option Item)) → Answers Alone b o → Answers Alone b p → o ≡ p
alone_one b o p h k = answers_one (step Single) (value Single) (rest Single) (λ s. Unit {0}) (follows Single) Alone start tt alone_is b o p h k

-- what the bytes are read as is what their outcome gives
outcome_of : (b : List ℕ) (r : Result Primitive FaultFault) → ReadsPrim b r → (o : Outcome (Option Item)) × Answers Alone b o × GivesPrim o r
outcome_of b (Ok p) h = (read (Some (OnePrimitive h.0)), h.1, (h.2, h.3))
outcome_of b (Err (Unexpected l k)) h = (unexpected k, (unexpected_parts b k).1 h.1, ap (λ n. Err (Unexpected n k)) h.0)
outcome_of b (Err (Truncated l)) h = (truncated, (truncated_parts b).1 h.1, ap (λ n. Err (Truncated n)) h.0)
outcome_of b (Err (NotAFault l)) h = (read (Some (OnePrimitive h.0)), h.1, h.2)
outcome_of b (Err (TooManyOperations l)) h = (read (Some (OnePrimitive h.0)), h.1, h.2)
outcome_of b (Err (TooManyPrimitives l)) h = absurd h.2
outcome_of b (Err NoMemory) h = absurd h.2

pub prim_one : (b : List ℕ) (q r : Result Primitive FaultFault) → ReadsPrim b q → ReadsPrim b r → q ≡ r
prim_one b q r h k =
    let x = outcome_of b q h in
    let y = outcome_of b r k in
    gives_one y.0 q r (subst (λ o. GivesPrim o q) (alone_one b x.0 y.0 x.1 y.1) x.2) y.2

-- a text has one reading
pub text_one : (b : List ℕ) (text other : PrimParts) → PrimText b text → PrimText b other → text ≡ other
text_one b text other t u = same (alone_one b (read (Some (OnePrimitive text))) (read (Some (OnePrimitive other))) t u)
  where
    same : (let o : Outcome (Option Item) = read (Some (OnePrimitive text)) in o ≡ read (Some (OnePrimitive other))) → text ≡ other
    same e = cc
