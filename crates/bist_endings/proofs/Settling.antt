-- What is known of the checks of a command, put together once for any chain of them: none refuses words that say something, and over told
-- files two settled outcomes have one value, or one answer and the same settled files.
use Rattle.std.proofs.Common.{◌≡◌, ◌∙◌, ◌⊎◌, List, Option, Some, None, Result, Ok, Err, refl, sym, ap, subst, inl, inr}
use Rattle.bist_host.specs.Files.{Files}
use Rattle.bist_endings.specs.declared.ending.Refusal.{Refusal}
use Rattle.bist_endings.specs.Then.{Then, OrNoMemory, PassesWhere, SaysOwn}
use Rattle.bist_endings.specs.Ending.{Done, Written}
use Rattle.bist_endings.specs.OneOutcome.{HasOneOutcome, HasOneValue, HasOneAnswer, HasOneAnswerButNames, answer_of}
use Rattle.bist_endings.proofs.OneOutcome.{outcome_value, but_names, then_but_names, then_value}

-- the files are told
abbrev pub IsTold : Option Files → Type 0
IsTold None = ⊥
IsTold (Some files) = Unit {0}

-- a check that never answers usage
abbrev pub NeverUsage : {A : Type 0} → (Result A Refusal → Type 0) → Type 0
NeverUsage check = check (Err Refusal.Usage) → ⊥

-- a check: words that say something are never refused, and over told files it has one value
pub record Settles (A Says Told : Type 0) (check : Result A Refusal → Type 0) : Type 0 where
  pub never : Says → NeverUsage check
  pub one : Told → HasOneValue check

-- all checks of a command and what it leaves: the same, and the settled files of two outcomes that are done are the same
pub record Concludes (Says Told Tells : Type 0) (settled : List Written → List Written) (checks : Result Done Refusal → Type 0) : Type 0 where
  pub never : Says → NeverUsage checks
  pub one : Told → HasOneAnswerButNames Tells checks
  pub files : Told → (d e : Done) → checks (Ok d) → checks (Ok e) → settled d.outputs ≡ settled e.outputs

same_refusal : {A : Type 0} (e f : Refusal) (r s : Result A Refusal) → r ≡ Err e → s ≡ Err f → r ≡ s → e ≡ f
same_refusal e f r s x y h = cc

never_done : {A : Type 0} (a : A) (e : Refusal) (r s : Result A Refusal) → r ≡ Ok a → s ≡ Err e → r ≡ s → ⊥
never_done a e r s x y is = cc

-- ---- checks

pub outcome_settles : {A Says Told : Type 0} (check : Result A Refusal → Type 0) → NeverUsage check → HasOneOutcome check → Settles A Says Told check
outcome_settles check never one = record { never = λ says. never; one = λ told. outcome_value check one }

-- over files that are told alone
pub told_settles : {A Says : Type 0} (files : Option Files) (check : Option Files → Result A Refusal → Type 0) → NeverUsage (check files)
    → ((told : Files) → HasOneValue (check (Some told))) → Settles A Says (IsTold files) (check files)
told_settles None check never one = record { never = λ says. never; one = λ told. absurd told }
told_settles (Some files) check never one = record { never = λ says. never; one = λ told. one files }

-- a check with one refusal
pub where_settles : {Says Told : Type 0} (holds : Type 0) (refusal : Refusal) → (Refusal.Usage ≡ refusal → ⊥) → Settles (Unit {0}) Says Told (PassesWhere holds refusal)
where_settles holds refusal other = outcome_settles (PassesWhere holds refusal) (λ h. other h.1) one
  where
    one : HasOneOutcome (PassesWhere holds refusal)
    one (Ok u) (Ok v) f g r s = refl
    one (Ok u) (Err e) f g r s = absurd (g.0 f)
    one (Err e) (Ok v) f g r s = absurd (f.0 g)
    one (Err e) (Err d) f g r s = ap (λ (x : Refusal). Err x) (f.1 ∙ sym g.1)

same_own : {Own : Type 0} (o p : Own) → o ≡ p → (let x : Result Own Refusal = Ok o in x) ≡ Ok p
same_own o p same = cc

-- what a command's own words say is one thing
pub own_settles : {Own Told : Type 0} (says : Own → Type 0) → ((o p : Own) → says o → says p → o ≡ p) → Settles Own ((own : Own) × says own) Told (SaysOwn says)
own_settles {Own} {Told} says one = record { never = λ said refused. refused said.0 said.1; one = λ told. outcome_value (SaysOwn says) outcome }
  where
    outcome : HasOneOutcome (SaysOwn says)
    outcome (Ok o) (Ok p) f g r s = same_own o p (one o p f g)
    outcome (Ok o) (Err Refusal.Usage) f g r s = absurd (g o f)
    outcome (Ok o) (Err other) f g r s = absurd g
    outcome (Err Refusal.Usage) (Ok p) f g r s = absurd (f p g)
    outcome (Err Refusal.Usage) (Err Refusal.Usage) f g r s = refl
    outcome (Err Refusal.Usage) (Err other) f g r s = absurd g
    outcome (Err other) y f g r s = absurd f

-- ---- chains

pub then_never : {A B : Type 0} (first : Result A Refusal → Type 0) (rest : A → Result B Refusal → Type 0) → NeverUsage first
    → ((a : A) → first (Ok a) → NeverUsage (rest a)) → NeverUsage (Then first rest)
then_never first rest never each (Ok a, f, x) = each a f x
then_never {A} {B} first rest never each (Err e, f, x) =
    never (subst (λ (d : Refusal). first (Err d)) (sym (same_refusal {A = B} Refusal.Usage e (Err Refusal.Usage) (Err e) refl refl x)) f)

then_files : {A : Type 0} (first : Result A Refusal → Type 0) (rest : A → Result Done Refusal → Type 0) (settled : List Written → List Written) → HasOneValue first
    → ((a : A) → first (Ok a) → (d e : Done) → rest a (Ok d) → rest a (Ok e) → settled d.outputs ≡ settled e.outputs)
    → (d e : Done) → Then first rest (Ok d) → Then first rest (Ok e) → settled d.outputs ≡ settled e.outputs
then_files first rest settled one each d e (Ok a, f, x) (Ok b, g, y) =
    let same = one (Ok a) (Ok b) f g tt tt in
    each b g d e (subst (λ c. rest c (Ok d)) same x) y
then_files first rest settled one each d e (Ok a, f, x) (Err t, g, y) = absurd (never_done e t (Ok e) (Err t) refl refl y)
then_files first rest settled one each d e (Err t, f, x) other = absurd (never_done d t (Ok d) (Err t) refl refl x)

pub then_settles : {A B Says Told : Type 0} (first : Result A Refusal → Type 0) (rest : A → Result B Refusal → Type 0) → Settles A Says Told first
    → ((a : A) → Settles B Says Told (rest a)) → Settles B Says Told (Then first rest)
then_settles first rest check each = record {
  never = λ says. then_never first rest (check.never says) (λ a f. (each a).never says);
  one = λ told. then_value first rest (check.one told) (λ a f. (each a).one told);
}

pub then_concludes : {A Says Told Tells : Type 0} {settled : List Written → List Written} (first : Result A Refusal → Type 0) (rest : A → Result Done Refusal → Type 0)
    → Settles A Says Told first → ((a : A) → first (Ok a) → Concludes Says Told Tells settled (rest a)) → Concludes Says Told Tells settled (Then first rest)
then_concludes {A} {Says} {Told} {Tells} {settled} first rest check each = record {
  never = λ says. then_never first rest (check.never says) (λ a f. (each a f).never says);
  one = λ told. then_but_names first rest (check.one told) (λ a f. (each a f).one told);
  files = λ told. then_files first rest settled (check.one told) (λ a f. (each a f).files told);
}

-- checks that allow less
pub narrows : {Says Told Tells : Type 0} {settled : List Written → List Written} (wide narrow : Result Done Refusal → Type 0)
    → ((r : Result Done Refusal) → narrow r → wide r) → Concludes Says Told Tells settled wide → Concludes Says Told Tells settled narrow
narrows wide narrow widen c = record {
  never = λ says h. c.never says (widen (Err Refusal.Usage) h);
  one = λ told r s tells f g. c.one told r s tells (widen r f) (widen s g);
  files = λ told d e f g. c.files told d e (widen (Ok d) f) (widen (Ok e) g);
}

-- checks that allow nothing
pub none_conclude : {Says Told Tells : Type 0} {settled : List Written → List Written} (checks : Result Done Refusal → Type 0)
    → ((r : Result Done Refusal) → checks r → ⊥) → Concludes Says Told Tells settled checks
none_conclude checks none = record {
  never = λ says. none (Err Refusal.Usage);
  one = λ told r s tells f g. absurd (none r f);
  files = λ told d e f. absurd (none (Ok d) f);
}

-- what is left where memory was there
pub leaves_conclude : {Says Told Tells : Type 0} {settled : List Written → List Written} (P : Done → Type 0)
    → (Told → Tells → (d e : Done) → P d → P e → answer_of (Ok d) ≡ answer_of (Ok e)) → (Told → (d e : Done) → P d → P e → settled d.outputs ≡ settled e.outputs)
    → Concludes Says Told Tells settled (OrNoMemory P)
leaves_conclude {Says} {Told} {Tells} {settled} P one files = record { never = λ says h. h; one = λ told. but_names (OrNoMemory P) (answer told); files = files }
  where
    answer : Told → HasOneAnswer Tells (OrNoMemory P)
    answer told (Ok d) (Ok e) tells f g r s = one told (tells tt) d e f g
    answer told (Ok d) (Err Refusal.NoMemory) tells f g r s = absurd s
    answer told (Ok d) (Err other) tells f g r s = absurd g
    answer told (Err Refusal.NoMemory) outcome tells f g r s = absurd r
    answer told (Err other) outcome tells f g r s = absurd f

-- ---- a command's own words

-- words that say nothing are refused
pub own_said : {Own : Type 0} (says : Own → Type 0) (rest : Own → Result Done Refusal → Type 0) (r : Result Done Refusal) → Then (SaysOwn says) rest r
    → ((r ≡ Err Refusal.Usage) × (((own : Own) × says own) → ⊥)) ⊎ ((own : Own) × says own)
own_said says rest r (Ok own, f, x) = inr (own, f)
own_said says rest r (Err Refusal.Usage, f, x) = inl (x, λ said. f said.0 said.1)
own_said says rest r (Err other, f, x) = absurd f
