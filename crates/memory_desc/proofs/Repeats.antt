-- The search for a repeated line: a line that is the first about something repeats none.
use Rattle.memory_desc.proofs.Common.{Bool, Content, Err, List, MayBeMet, MayHave, None, Ok, Option, Repeated, Some, Statement, Subject, TextLine, [], about, ap, append_assoc, at_line, checked, cond, eq-eqb, eqb-true, false, find, find-append, is_about, is_other, is_same, ne_eqb, not, option_or, refl, repeated, subject, subst, sym, true, ℕ, ◌++◌, ◌∙◌, ◌∷◌, ◌≡◌}
use Rattle.memory_desc.specs.Statements.{stated}
use Rattle.memory_desc.specs.inner.Heard.{said, statements}
use Rattle.memory_desc.specs.Table.{is_repeat}
use Rattle.memory_desc.specs.declared.content.Subject.TheVariants.{Version, Name, Words, Bits, Latency, Polarity, Pause, Row, Backgrounds}

-- the search has come to the lines that are left: none of the statements that it passed repeats one, or is about a subject that can't have been met
pub record Passing (lines left : List TextLine) (met : List ℕ) : Type 0 where
  pub passed : List Statement
  pub parts : statements lines ≡ passed ++ statements left
  pub none : find (is_repeat (statements lines)) passed ≡ None
  pub new : (q : Subject) → (MayBeMet met q → ⊥) → about q passed ≡ None

pub passing_begun : (lines left : List TextLine) (met : List ℕ) → lines ≡ left → Passing lines left met
passing_begun lines left met e = record { passed = []; parts = ap statements e; none = refl; new = λ q n. refl }

-- ---- subjects

pub self_same : (q : Subject) → is_same q q ≡ true
self_same (Row i) = eq-eqb i i refl
self_same q = refl

pub same_is : (q r : Subject) → is_same q r ≡ true → q ≡ r
same_is Version Version e = refl
same_is Name Name e = refl
same_is Words Words e = refl
same_is Bits Bits e = refl
same_is Latency Latency e = refl
same_is Polarity Polarity e = refl
same_is Pause Pause e = refl
same_is (Row i) (Row j) e = ap Row (eqb-true i j e)
same_is Backgrounds Backgrounds e = refl
same_is q r e = (let z : ⊥ = cc in absurd z)

-- ---- searches in two parts

find_behind : (p : Statement → Bool) (xs ys : List Statement) → find p xs ≡ None → find p (xs ++ ys) ≡ find p ys
find_behind p xs ys e = find-append p xs ys ∙ ap (λ o. option_or o (find p ys)) e

find_one : (p : Statement → Bool) (x : Statement) (xs : List Statement) → p x ≡ true → find p (x ∷ xs) ≡ Some x
find_one p x xs e = ap (λ b. cond b (Some x) (find p xs)) e

find_other : (p : Statement → Bool) (x : Statement) → p x ≡ false → find p (x ∷ []) ≡ None
find_other p x e = ap (λ b. cond b (Some x) None) e

-- the first statement about something repeats none
first_repeats_none : (passed more ss : List Statement) (s : Statement) → ss ≡ passed ++ s ∷ more → about (subject s.content) passed ≡ None → is_repeat ss s ≡ false
first_repeats_none passed more ss s e f =
    let q : Subject = subject s.content in
    let here : about q ss ≡ Some s = ap (about q) e ∙ find_behind (is_about q) passed (s ∷ more) f ∙ find_one (is_about q) s more (self_same q) in
    ap (is_other s.line) here ∙ ap not (eq-eqb s.line s.line refl)

pub same_line : {n : ℕ} (s : Statement) → s.line ≡ n → is_other n (Some s) ≡ false
same_line s e = ap (λ m. is_other m (Some s)) (sym e) ∙ ap not (eq-eqb s.line s.line refl)

pub other_line : {n : ℕ} (s : Statement) → (s.line ≡ n → ⊥) → is_other n (Some s) ≡ true
other_line {n} s f = ap not (ne_eqb s.line n f)

-- ---- one line further

-- a content line, of which a test says whether it repeats one
module _ {lines before left : List TextLine} {l : TextLine} {t : Bool} {old : List ℕ} {content : Content} (q : Subject) (s : Passing lines before old) (step : before ≡ l ∷ left) (there : Some content ≡ said l.text)
    (own : q ≡ subject content) (tested : ((MayBeMet old q → ⊥) → is_other l.number (about q (statements lines)) ≡ false) → t ≡ is_other l.number (about q (statements lines))) where
  abbrev here : Statement
  here = record { line = l.number; content = content }

  whole : statements lines ≡ s.passed ++ here ∷ statements left
  whole = s.parts ∙ ap (λ ls. s.passed ++ statements ls) step ∙ ap (λ (v : Option Content). s.passed ++ (stated l.number v ++ statements left)) (sym there)

  repeats : t ≡ is_repeat (statements lines) here
  repeats =
      tested (λ n. ap (λ r. is_other l.number (about r (statements lines))) own
      ∙ first_repeats_none s.passed (statements left) (statements lines) here whole (s.new (subject content) (subst (λ r. MayBeMet old r → ⊥) own n)))
      ∙ ap (λ r. is_other l.number (about r (statements lines))) own

  pub passing_on : {met : List ℕ} → t ≡ false → MayBeMet met q → ((r : Subject) → MayBeMet old r → MayBeMet met r) → Passing lines left met
  passing_on {met} f kept stay = record {
    passed = s.passed ++ here ∷ [];
    parts = whole ∙ sym (append_assoc s.passed (here ∷ []) (statements left));
    none = find_behind (is_repeat (statements lines)) s.passed (here ∷ []) s.none ∙ find_other (is_repeat (statements lines)) here (sym repeats ∙ f);
    new = λ r n. find_behind (is_about r) s.passed (here ∷ []) (s.new r (λ y. n (stay r y))) ∙ find_other (is_about r) here (apart r n (is_same r (subject content)) refl);
  }
    where
      apart : (r : Subject) → (MayBeMet met r → ⊥) → (b : Bool) → is_same r (subject content) ≡ b → is_same r (subject content) ≡ false
      apart r n false e = e
      apart r n true e = absurd (n (subst (MayBeMet met) (own ∙ sym (same_is r (subject content) e)) kept))

  -- a line that repeats one is the first
  pub repeat_stops : t ≡ true → Err (Repeated l.number) ≡ checked (repeated (statements lines))
  repeat_stops f =
      let first : find (is_repeat (statements lines)) (statements lines) ≡ Some here =
      ap (find (is_repeat (statements lines))) whole ∙ find_behind (is_repeat (statements lines)) s.passed (here ∷ statements left) s.none
      ∙ find_one (is_repeat (statements lines)) here (statements left) (sym repeats ∙ f) in
      ap (λ o. checked (at_line (λ n. Repeated n) o)) (sym first)

-- no line repeats one
pub repeat_ends : {lines before : List TextLine} {met : List ℕ} → Passing lines before met → before ≡ [] → Ok tt ≡ checked (repeated (statements lines))
repeat_ends {lines = lines} s step =
    let all : find (is_repeat (statements lines)) (statements lines) ≡ None =
    ap (find (is_repeat (statements lines))) (s.parts ∙ ap (λ ls. s.passed ++ statements ls) step) ∙ find_behind (is_repeat (statements lines)) s.passed [] s.none in
    ap (λ o. checked (at_line (λ n. Repeated n) o)) (sym all)

-- ---- what the lines before have met

pub stays_met : (old met : List ℕ) → ((n : ℕ) → MayHave old n → MayHave met n) → (q : Subject) → MayBeMet old q → MayBeMet met q
stays_met old met f (Row i) m = f i m
stays_met old met f q m = tt
