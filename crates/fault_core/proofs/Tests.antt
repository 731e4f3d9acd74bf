-- Tests that compute: of every value of a small type, of equality, and of four parts whatever their senses have.
use Rattle.std.proofs.Common.{◌≡◌, ◌≢◌, Bool, true, false, not, ◌&&◌, ◌||◌, Option, Some, None, List, [], ◌∷◌, refl, ap, sym, ◌∙◌, arith}
use Rattle.std.specs.List.{All, AllPairs, list_all}
use Rattle.std.proofs.lemmas.Bool.{and_parts, and_from, both_ways, not-true}
use Rattle.std.proofs.lemmas.List.Sums.{AllPass-from_list_all}
use Rattle.std.proofs.lemmas.List.Kept.{AllPairs-cons}
use Rattle.fault_core.specs.declared.primitive.Act.{Act}
use Rattle.fault_core.specs.declared.primitive.Act.TheVariants.{Write, Read, Pause}
use Rattle.fault_core.specs.Primitive.{same_bit}
use Rattle.fault_core.specs.Cells.{same_act}

pub implied : (a b : Bool) → a ≡ true → (not a || b) ≡ true → b ≡ true
implied true b e x = x
implied false b e x = cc

pub other_holds : (a b : Bool) → a ≡ false → (a || b) ≡ true → b ≡ true
other_holds true b e x = cc
other_holds false b e x = x

-- ---- a test passes at every value

abbrev pub at_all_bits : (Bool → Bool) → Bool
at_all_bits f = f false && f true

abbrev pub at_all_acts : (Act → Bool) → Bool
at_all_acts f = (f Read && f Pause) && at_all_bits (λ b. f (Write b))

abbrev pub at_all_options : {A : Type 0} → ((A → Bool) → Bool) → (Option A → Bool) → Bool
at_all_options all f = f None && all (λ a. f (Some a))

pub bit_passes : (f : Bool → Bool) → at_all_bits f ≡ true → (b : Bool) → f b ≡ true
bit_passes f h false = (and_parts _ _ h).0
bit_passes f h true = (and_parts _ _ h).1

pub act_passes : (f : Act → Bool) → at_all_acts f ≡ true → (act : Act) → f act ≡ true
act_passes f h Read = (and_parts _ _ (and_parts _ _ h).0).0
act_passes f h Pause = (and_parts _ _ (and_parts _ _ h).0).1
act_passes f h (Write b) = bit_passes (λ x. f (Write x)) (and_parts _ _ h).1 b

pub option_passes : {A : Type 0} (all : (A → Bool) → Bool) → ((f : A → Bool) → all f ≡ true → (a : A) → f a ≡ true)
    → (f : Option A → Bool) → at_all_options all f ≡ true → (a : Option A) → f a ≡ true
option_passes all passes f h None = (and_parts _ _ h).0
option_passes all passes f h (Some a) = passes (λ x. f (Some x)) (and_parts _ _ h).1 a

-- ---- equality, as tests

abbrev pub same_options : {A : Type 0} → (A → A → Bool) → Option A → Option A → Bool
same_options same None None = true
same_options same None (Some b) = false
same_options same (Some a) None = false
same_options same (Some a) (Some b) = same a b

pub same_bit-equal : (a b : Bool) → same_bit a b ≡ true → a ≡ b
same_bit-equal true true h = refl
same_bit-equal true false h = cc
same_bit-equal false true h = cc
same_bit-equal false false h = refl

pub same_act-equal : (a b : Act) → same_act a b ≡ true → a ≡ b
same_act-equal Read Read h = refl
same_act-equal Read (Write b) h = cc
same_act-equal (Write a) Read h = cc
same_act-equal (Write a) (Write b) h = ap Write (same_bit-equal a b h)
same_act-equal Read Pause h = cc
same_act-equal (Write a) Pause h = cc
same_act-equal Pause Read h = cc
same_act-equal Pause (Write b) h = cc
same_act-equal Pause Pause h = refl

pub same_options-equal : {A : Type 0} (same : A → A → Bool) → ((a b : A) → same a b ≡ true → a ≡ b)
    → (a b : Option A) → same_options same a b ≡ true → a ≡ b
same_options-equal same equal None None h = refl
same_options-equal same equal None (Some b) h = cc
same_options-equal same equal (Some a) None h = cc
same_options-equal same equal (Some a) (Some b) h = ap Some (equal a b h)

same_options-refl : {A : Type 0} (same : A → A → Bool) → ((a : A) → same a a ≡ true) → (a : Option A) → same_options same a a ≡ true
same_options-refl same alike None = refl
same_options-refl same alike (Some a) = alike a

-- no two elements of a list are the same
abbrev pub all_differ : {P : Type 0} → (P → P → Bool) → List P → Bool
all_differ same [] = true
all_differ same (p ∷ ps) = list_all (λ q. not (same p q)) ps && all_differ same ps

module _ {P : Type 0} (same : P → P → Bool) (alike : (p : P) → same p p ≡ true) where
  differ : (p q : P) → not (same p q) ≡ true → p ≢ q
  differ p q h e = both_ways (same p q) (not-true _ h) (ap (same p) (sym e) ∙ alike p)

  pub all_differ-pairs : (ps : List P) → all_differ same ps ≡ true → AllPairs (λ p q. p ≢ q) ps
  all_differ-pairs [] h = λ i j d below within. absurd (omega arith)
  all_differ-pairs (p ∷ ps) h =
      let both = and_parts (list_all (λ q. not (same p q)) ps) (all_differ same ps) h in
      let here : All (λ q. p ≢ q) ps = λ k d within. differ p _ (AllPass-from_list_all (λ q. not (same p q)) ps both.0 k d within) in
      AllPairs-cons (λ a b. a ≢ b) p ps here (all_differ-pairs ps both.1)

-- ---- the four parts of a primitive

pub record FourParts (S : Type 0) : Type 0 where
  pub agg : Option S
  pub vic : S
  pub after : Bool
  pub answer : Option Bool

abbrev four : {S : Type 0} → Option S → S → Bool → Option Bool → FourParts S
four agg vic after answer = record { agg = agg; vic = vic; after = after; answer = answer }

abbrev at_all_effects : {S : Type 0} → Option S → S → (FourParts S → Bool) → Bool
at_all_effects agg vic f = at_all_bits (λ after. at_all_options at_all_bits (λ answer. f (four agg vic after answer)))

-- a test passes at every choice of parts of which the senses are kept
abbrev pub at_all_four : {S : Type 0} → ((S → Bool) → Bool) → (Option S → S → Bool) → (FourParts S → Bool) → Bool
at_all_four all keep f = at_all_options all (λ agg. all (λ vic. not (keep agg vic) || at_all_effects agg vic f))

-- what such a test says
pub four_pass : {S : Type 0} (all : (S → Bool) → Bool) → ((f : S → Bool) → all f ≡ true → (s : S) → f s ≡ true)
    → (keep : Option S → S → Bool) (f : FourParts S → Bool) → at_all_four all keep f ≡ true
    → (p : FourParts S) → keep p.agg p.vic ≡ true → f p ≡ true
four_pass all passes keep f h p kept =
    let senses = option_passes all passes (λ agg. all (λ vic. not (keep agg vic) || at_all_effects agg vic f)) h p.agg in
    let effects = implied (keep p.agg p.vic) (at_all_effects p.agg p.vic f) kept (passes (λ vic. not (keep p.agg vic) || at_all_effects p.agg vic f) senses p.vic) in
    option_passes at_all_bits bit_passes (λ answer. f (four p.agg p.vic p.after answer))
    (bit_passes (λ after. at_all_options at_all_bits (λ answer. f (four p.agg p.vic after answer))) effects p.after) p.answer

abbrev pub same_four : {S : Type 0} → (S → S → Bool) → FourParts S → FourParts S → Bool
same_four same p q =
    (same_options same p.agg q.agg && same p.vic q.vic) && (same_bit p.after q.after && same_options same_bit p.answer q.answer)

pub same_four-equal : {S : Type 0} (same : S → S → Bool) → ((a b : S) → same a b ≡ true → a ≡ b)
    → (p q : FourParts S) → same_four same p q ≡ true → p ≡ q
same_four-equal same equal p q h =
    let front = and_parts (same_options same p.agg q.agg) (same p.vic q.vic) (and_parts _ _ h).0 in
    let back = and_parts (same_bit p.after q.after) (same_options same_bit p.answer q.answer) (and_parts _ _ h).1 in
    let agg : p.agg ≡ q.agg = same_options-equal same equal _ _ front.0 in
    let vic : p.vic ≡ q.vic = equal _ _ front.1 in
    let after : p.after ≡ q.after = same_bit-equal _ _ back.0 in
    let answer : p.answer ≡ q.answer = same_options-equal same_bit same_bit-equal _ _ back.1 in
    ap (λ x. four x p.vic p.after p.answer) agg
    ∙ ap (λ x. four q.agg x p.after p.answer) vic
    ∙ ap (λ x. four q.agg q.vic x p.answer) after
    ∙ ap (λ x. four q.agg q.vic q.after x) answer

pub same_four-refl : {S : Type 0} (same : S → S → Bool) → ((s : S) → same s s ≡ true) → (p : FourParts S) → same_four same p p ≡ true
same_four-refl same alike p =
    and_from _ _ (and_from _ _ (same_options-refl same alike p.agg) (alike p.vic))
    (and_from _ _ (bit_passes (λ b. same_bit b b) refl p.after) (same_options-refl same_bit (bit_passes (λ b. same_bit b b) refl) p.answer))
