-- What is said of each subject, where no line is outside its range.
use Rattle.memory_desc.proofs.Common.{Bool, Content, IsName, IsSome, List, None, Option, Some, Statement, Subject, TextLine, [], about, ap, arith, bits, bits_said, cond, content_of, false, find, found_fails, found_passes, is_about, is_among, is_formed, is_same, is_some, latency, latency_in, latency_said, leb-false, length, list_any, ltb-false, name, name_in, name_said, nat_lt, number_in, number_or, option_map, or_parts, pause, pause_in, pause_said, polarity, polarity_in, polarity_said, pow_pos, refl, reserved_words, said_found, subject, sym, true, words, words_said, ℕ, ◌<◌, ◌^◌, ◌||◌, ◌∙◌, ◌∷◌, ◌≡◌, ◌≤◌}
use Rattle.memory_desc.specs.Subjects.{said}
use Rattle.memory_desc.specs.Described.{is_out_of_range, is_too_wide}
use Rattle.memory_desc.specs.inner.Heard.{said as said_by, statements}
use Rattle.memory_desc.specs.declared.content.Subject.TheVariants.{Name, Words, Bits, Latency, Polarity, Pause}
use Rattle.memory_desc.proofs.OneText.{formed_said}

-- What is said of something is about it, and passes a test that no statement fails.
abbrev pub Passes : Subject → (Content → Bool) → Option Content → Type 0
Passes q p o = (c : Content) → o ≡ Some c → (is_same q (subject c) ≡ true) × (p c ≡ false)

pub passes : (q : Subject) (p : Content → Bool) (ss : List Statement) → find (λ s. p s.content) ss ≡ None → Passes q p (said q ss)
passes q p ss n c e = go (about q ss) refl e
  where
    go : (o : Option Statement) → about q ss ≡ o → content_of o ≡ Some c → (is_same q (subject c) ≡ true) × (p c ≡ false)
    go None k e = (let z : ⊥ = cc in absurd z)
    go (Some s) k e =
        let same : s.content ≡ c = cc in
        (ap (λ c. is_same q (subject c)) (sym same) ∙ found_passes (is_about q) ss s k, ap p (sym same) ∙ found_fails (λ s. p s.content) (is_about q) ss s n k)

-- ---- the number that is said of something, whatever kind of number may be said

abbrev IsAbout : Subject → Option Content → Type 0
IsAbout q o = (c : Content) → o ≡ Some c → is_same q (subject c) ≡ true

is_about_it : (q : Subject) (ss : List Statement) → IsAbout q (said q ss)
is_about_it q ss c e = go (about q ss) refl e
  where
    go : (o : Option Statement) → about q ss ≡ o → content_of o ≡ Some c → is_same q (subject c) ≡ true
    go None k e = (let z : ⊥ = cc in absurd z)
    go (Some s) k e = (let same : s.content ≡ c = cc in ap (λ c. is_same q (subject c)) (sym same) ∙ found_passes (is_about q) ss s k)

pub words_are : (ss : List Statement) → number_or 0 (said Words ss) ≡ words_said ss
words_are ss = go (said Words ss) (is_about_it Words ss)
  where
    go : (o : Option Content) → IsAbout Words o → number_or 0 o ≡ number_in o
    go None f = refl
    go (Some (words n)) f = refl
    go (Some c) f = (let e = f c refl in let z : ⊥ = cc in absurd z)

pub bits_are : (ss : List Statement) → number_or 0 (said Bits ss) ≡ bits_said ss
bits_are ss = go (said Bits ss) (is_about_it Bits ss)
  where
    go : (o : Option Content) → IsAbout Bits o → number_or 0 o ≡ number_in o
    go None f = refl
    go (Some (bits n)) f = refl
    go (Some c) f = (let e = f c refl in let z : ⊥ = cc in absurd z)

pub latency_is : (ss : List Statement) → number_or 1 (said Latency ss) ≡ latency_said ss
latency_is ss = go (said Latency ss) (is_about_it Latency ss)
  where
    go : (o : Option Content) → IsAbout Latency o → number_or 1 o ≡ latency_in o
    go None f = refl
    go (Some (latency n)) f = refl
    go (Some c) f = (let e = f c refl in let z : ⊥ = cc in absurd z)

pub pause_is : (ss : List Statement) → number_or 1 (said Pause ss) ≡ pause_said ss
pause_is ss = go (said Pause ss) (is_about_it Pause ss)
  where
    go : (o : Option Content) → IsAbout Pause o → number_or 1 o ≡ pause_in o
    go None f = refl
    go (Some (pause n)) f = refl
    go (Some c) f = (let e = f c refl in let z : ⊥ = cc in absurd z)

pub polarity_is : (ss : List Statement) → number_or 0 (said Polarity ss) ≡ polarity_said ss
polarity_is ss = go (said Polarity ss) (is_about_it Polarity ss)
  where
    go : (o : Option Content) → IsAbout Polarity o → number_or 0 o ≡ polarity_in o
    go None f = refl
    go (Some (polarity w)) f = refl
    go (Some c) f = (let e = f c refl in let z : ⊥ = cc in absurd z)

inside : (low high n : ℕ) → (nat_lt n low || nat_lt high n) ≡ false → (low ≤ n) × (n ≤ high)
inside low high n h = let p = or_parts (nat_lt n low) (nat_lt high n) h in (ltb-false n low p.0, ltb-false high n p.1)

some_said : (o : Option Statement) → IsSome o → is_some (content_of o) ≡ true
some_said None h = h
some_said (Some s) h = refl

-- whether something is found
pub any_found : {A B : Type 0} (f : A → B) (p : B → Bool) (xs : List B) (o : Option A) → option_map f o ≡ find p xs → is_some o ≡ list_any p xs
any_found f p [] None e = refl
any_found f p [] (Some a) e = (let z : ⊥ = cc in absurd z)
any_found {A} {B} f p (x ∷ xs) o e = go (p x) o e (λ o e. any_found f p xs o e)
  where
    go : (t : Bool) (o : Option A) → option_map f o ≡ cond t (Some x) (find p xs) → ((o : Option A) → option_map f o ≡ find p xs → is_some o ≡ list_any p xs) → is_some o ≡ (t || list_any p xs)
    go true None e again = (let z : ⊥ = cc in absurd z)
    go true (Some a) e again = refl
    go false o e again = again o e

module _ (ss : List Statement) (ranged : find (λ s. is_out_of_range s.content) ss ≡ None) where
  pub words_inside : IsSome (about Words ss) → (2 ≤ words_said ss) × (words_said ss ≤ 65536)
  words_inside h = go (said Words ss) (passes Words is_out_of_range ss ranged) (some_said (about Words ss) h)
    where
      go : (o : Option Content) → Passes Words is_out_of_range o → is_some o ≡ true → (2 ≤ number_in o) × (number_in o ≤ 65536)
      go (Some (words n)) f h = inside 2 65536 n (f (words n) refl).1
      go (Some c) f h = (let e = (f c refl).0 in let z : ⊥ = cc in absurd z)
      go None f h = (let z : ⊥ = cc in absurd z)

  pub bits_inside : IsSome (about Bits ss) → (1 ≤ bits_said ss) × (bits_said ss ≤ 64)
  bits_inside h = go (said Bits ss) (passes Bits is_out_of_range ss ranged) (some_said (about Bits ss) h)
    where
      go : (o : Option Content) → Passes Bits is_out_of_range o → is_some o ≡ true → (1 ≤ number_in o) × (number_in o ≤ 64)
      go (Some (bits n)) f h = inside 1 64 n (f (bits n) refl).1
      go (Some c) f h = (let e = (f c refl).0 in let z : ⊥ = cc in absurd z)
      go None f h = (let z : ⊥ = cc in absurd z)

  pub latency_inside : (1 ≤ latency_said ss) × (latency_said ss ≤ 4)
  latency_inside = go (said Latency ss) (passes Latency is_out_of_range ss ranged)
    where
      go : (o : Option Content) → Passes Latency is_out_of_range o → (1 ≤ latency_in o) × (latency_in o ≤ 4)
      go (Some (latency n)) f = inside 1 4 n (f (latency n) refl).1
      go o f = (omega arith, omega arith)

  pub pause_inside : (1 ≤ pause_said ss) × (pause_said ss ≤ 65535)
  pause_inside = go (said Pause ss) (passes Pause is_out_of_range ss ranged)
    where
      go : (o : Option Content) → Passes Pause is_out_of_range o → (1 ≤ pause_in o) × (pause_in o ≤ 65535)
      go (Some (pause n)) f = inside 1 65535 n (f (pause n) refl).1
      go o f = (omega arith, omega arith)

pub polarity_fits : (ss : List Statement) (width size : ℕ) → find (λ s. is_too_wide width size s.content) ss ≡ None → polarity_said ss < 2 ^ size
polarity_fits ss width size n = go (said Polarity ss) (passes Polarity (is_too_wide width size) ss n)
  where
    go : (o : Option Content) → Passes Polarity (is_too_wide width size) o → polarity_in o < 2 ^ size
    go (Some (polarity w)) f = leb-false (2 ^ size) w (f (polarity w) refl).1
    go o f = pow_pos size

pub named : (ls : List TextLine) → find (λ s. is_out_of_range s.content) (statements ls) ≡ None → IsSome (about Name (statements ls)) → IsName (name_said (statements ls))
named ls n h = go (about Name (statements ls)) refl h
  where
    by : (c : Content) → is_same Name (subject c) ≡ true → is_formed c ≡ true → is_out_of_range c ≡ false → IsName (name_in (Some c))
    by (name b) e f o = (let p = or_parts (nat_lt 48 (length b)) (is_among b reserved_words) o in record { identifier = f; short = ltb-false 48 (length b) p.0; free = p.1 })
    by c e f o = (let z : ⊥ = cc in absurd z)

    go : (o : Option Statement) → about Name (statements ls) ≡ o → IsSome o → IsName (name_in (content_of o))
    go None k h = (let z : ⊥ = cc in absurd z)
    go (Some s) k h =
        by s.content (found_passes (is_about Name) (statements ls) s k) (said_found said_by is_formed formed_said (is_about Name) ls s k)
        (found_fails (λ s. is_out_of_range s.content) (is_about Name) (statements ls) s n k)
