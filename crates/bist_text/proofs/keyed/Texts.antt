-- The lines of a text are refused as the grammar says, and say what the grammar says, whatever the table of their lines is.
use Rattle.bist_text.proofs.keyed.Common.{AreRefused, Bool, Err, IsExact, IsLineFault, LineOf, List, MatchResult, None, Ok, Option, Outcome, Result, Say, Some, Statement, TextLine, [], all_stated, answer, ap, carried, false, if◌then◌else◌, inl, inr, known, length, option_map, read, refl, said_in, stated, step, subst, sym, true, truncated, unexpected, versions, walk, ℕ, ◌++◌, ◌∙◌, ◌∷◌, ◌≡◌, ◌⊎◌}
use Rattle.std.proofs.Math.Path.{ap₂}
use Rattle.bist_text.proofs.keyed.Checks.{some_same}
use Rattle.bist_text.specs.declared.keyed_lines.LineFault.{LineFault}
use Rattle.bist_text.specs.declared.keyed_lines.TextFault.{TextFault}
use Rattle.bist_text.specs.declared.keyed_lines.TextFault.TheVariants.{Unexpected, Truncated}

-- ---- the lines of a table

module _ {C V : Type 0} (text : List ℕ → C → Type 0) (stands : Option V → C → Bool) (version_in : C → Option V) (heard : Option V → List ℕ → Outcome (Option C))
    (exact : (v : Option V) (b : List ℕ) → IsExact (LineOf text stands v) b (heard v b)) where
  abbrev pub reader : Option V → List ℕ → Result (Option (Option V)) LineFault
  reader given b = versions version_in (answer (heard given b))

  abbrev Line : Option V → List ℕ → Option C → Type 0
  Line = LineOf text stands

  abbrev stepped : Option V → TextLine → Result (Option V) TextFault
  stepped given l = step given l (reader given l.text)

  abbrev at : Option V → TextLine → Outcome (Option C) → Result (Option V) TextFault
  at given l o = step given l (versions version_in (answer o))

  line_known : (given : Option V) (l : TextLine) (k : Option C) → Line given l.text k → stepped given l ≡ known version_in given k
  line_known given l k h = ap (at given l) (((exact given l.text).reads k).1 h) ∙ same given k
    where
      same : (given : Option V) (k : Option C) → known (λ v. v) given (option_map version_in k) ≡ known version_in given k
      same (Some v) k = refl
      same None None = refl
      same None (Some c) = refl

  cut : TextLine → Bool → TextFault
  cut l ended = if ended then Unexpected l.number (length l.text) else Truncated

  line_refused : (given : Option V) (l : TextLine) (f : TextFault) → IsLineFault text stands given l f → stepped given l ≡ Err f
  unfolding cut
  line_refused given l (Unexpected n i) h = elim h.1 [
    | inl u ↦ ap (at given l) (((exact given l.text).refuses i).1 u) ∙ ap (λ m. Err (Unexpected m i)) (sym h.0)
    | inr t ↦ ap (at given l) ((exact given l.text).ends_early.1 t.1) ∙ ap (λ e. Err (cut l e)) t.0 ∙ ap₂ (λ m j. Err (Unexpected m j)) (sym h.0) (sym t.2)
  ]
  line_refused given l Truncated h = ap (at given l) ((exact given l.text).ends_early.1 h.1) ∙ ap (λ e. Err (cut l e)) h.0
  line_refused given l other h = absurd h

  -- a line is one of the table, or it is refused
  line_either : (given : Option V) (l : TextLine) → ((k : Option C) × Line given l.text k) ⊎ ((f : TextFault) × IsLineFault text stands given l f)
  line_either given l = go (heard given l.text) refl
    where
      early : heard given l.text ≡ truncated → (t : Bool) → l.ended ≡ t → (f : TextFault) × IsLineFault text stands given l f
      early h true k = (Unexpected l.number (length l.text), (refl, inr (k, (exact given l.text).ends_early.0 h, refl)))
      early h false k = (Truncated, (k, (exact given l.text).ends_early.0 h))

      go : (o : Outcome (Option C)) → heard given l.text ≡ o → ((k : Option C) × Line given l.text k) ⊎ ((f : TextFault) × IsLineFault text stands given l f)
      go (read k) h = inl (k, ((exact given l.text).reads k).0 h)
      go (unexpected i) h = inr (Unexpected l.number i, (refl, inl (((exact given l.text).refuses i).0 h)))
      go truncated h = inr (early h l.ended refl)

  -- ---- refusals

  pub refused_heard : (ls : List TextLine) (given : Option V) (f : TextFault) → AreRefused text stands version_in ls given f → walk reader ls given ≡ Some f
  refused_heard [] None f h = ap Some (sym h)
  refused_heard [] (Some v) f h = absurd h
  refused_heard (l ∷ ls) given f h = elim h [
    | inl a ↦ ap (λ r. carried r (λ next. walk reader ls next)) (line_refused given l f a)
    | inr a ↦ ap (λ r. carried r (λ next. walk reader ls next)) (line_known given l a.0 a.1) ∙ go (known version_in given a.0) a.2 (λ next. refused_heard ls next f)
  ]
    where
      go : (r : Result (Option V) TextFault) → MatchResult r (λ next. AreRefused text stands version_in ls next f) (λ other. f ≡ other)
          → ((next : Option V) → AreRefused text stands version_in ls next f → walk reader ls next ≡ Some f) → carried r (λ next. walk reader ls next) ≡ Some f
      go (Ok next) m again = again next m
      go (Err g) m again = ap Some (sym m)

  pub heard_refused : (ls : List TextLine) (given : Option V) (f : TextFault) → walk reader ls given ≡ Some f → AreRefused text stands version_in ls given f
  heard_refused [] None f e = sym (some_same Truncated f e)
  heard_refused [] (Some v) f e = (let z : ⊥ = cc in absurd z)
  heard_refused (l ∷ ls) given f e = elim (line_either given l) [
    | inl a ↦ inr (a.0, a.1, go (known version_in given a.0) (on (line_known given l a.0 a.1)) (λ next. heard_refused ls next f))
    | inr a ↦ inl (subst (IsLineFault text stands given l) (some_same a.0 f (on (line_refused given l a.0 a.1))) a.1)
  ]
    where
      on : {r : Result (Option V) TextFault} → stepped given l ≡ r → carried r (λ next. walk reader ls next) ≡ Some f
      on h = sym (ap (λ r. carried r (λ next. walk reader ls next)) h) ∙ e

      go : (r : Result (Option V) TextFault) → carried r (λ next. walk reader ls next) ≡ Some f → ((next : Option V) → walk reader ls next ≡ Some f → AreRefused text stands version_in ls next f)
          → MatchResult r (λ next. AreRefused text stands version_in ls next f) (λ other. f ≡ other)
      go (Ok next) k again = again next k
      go (Err g) k again = sym (some_same g f k)

  -- ---- statements, where one version has all lines

  module _ (widest : V) (wide : (v : Option V) (c : C) → stands v c ≡ true → stands (Some widest) c ≡ true) where
    abbrev said : List ℕ → Option C
    said b = said_in (heard (Some widest) b)

    abbrev statements : List TextLine → List (Statement C)
    statements = all_stated said

    abbrev Says : List TextLine → Option V → List (Statement C) → Type 0
    Says = Say text stands version_in

    pub says : (v : Option V) (b : List ℕ) (k : Option C) → Line v b k → said b ≡ k
    says v b k h = ap said_in (((exact (Some widest) b).reads k).1 (elim h [ inl a ↦ inl a | inr a ↦ inr (a.0, wide v a.0 a.1, a.2, a.3) ]))

    -- a line that says something is a content line
    pub text_said : (b : List ℕ) (c : C) → said b ≡ Some c → text b c
    text_said b c e = go (heard (Some widest) b) refl
      where
        line : Line (Some widest) b (Some c) → text b c
        line h = elim h [ inl a ↦ (let j = a.0 in let z : ⊥ = cc in absurd z) | inr a ↦ (let same : a.0 ≡ c = (let j = a.2 in cc) in subst (text b) same a.3) ]

        go : (o : Outcome (Option C)) → heard (Some widest) b ≡ o → text b c
        go (read k) h = line (((exact (Some widest) b).reads (Some c)).0 (h ∙ ap read (sym (ap said_in h) ∙ e)))
        go (unexpected i) h = let n : said b ≡ None = ap said_in h in let z : ⊥ = cc in absurd z
        go truncated h = let n : said b ≡ None = ap said_in h in let z : ⊥ = cc in absurd z

    pub say_heard : (ls : List TextLine) (given : Option V) (ss : List (Statement C)) → Says ls given ss → (walk reader ls given ≡ None) × (statements ls ≡ ss)
    say_heard [] None ss h = absurd h
    say_heard [] (Some v) ss h = (refl, sym h)
    say_heard (l ∷ ls) given ss h =
        let q = go (known version_in given h.0) h.3 (λ next. say_heard ls next h.1) in (
          ap (λ r. carried r (λ next. walk reader ls next)) (line_known given l h.0 h.2) ∙ q.0,
          ap₂ (λ (k : Option C) (more : List (Statement C)). stated l.number k ++ more) (says given l.text h.0 h.2) q.1 ∙ sym h.4,
        )
      where
        go : (r : Result (Option V) TextFault) → MatchResult r (λ next. Says ls next h.1) (λ fault. ⊥) → ((next : Option V) → Says ls next h.1 → (walk reader ls next ≡ None) × (statements ls ≡ h.1))
            → (carried r (λ next. walk reader ls next) ≡ None) × (statements ls ≡ h.1)
        go (Ok next) m again = again next m
        go (Err g) m again = absurd m

    pub heard_say : (ls : List TextLine) (given : Option V) → walk reader ls given ≡ None → Says ls given (statements ls)
    heard_say [] None e = (let z : ⊥ = cc in absurd z)
    heard_say [] (Some v) e = refl
    heard_say (l ∷ ls) given e = elim (line_either given l) [
      | inl a ↦ let s : said l.text ≡ a.0 = says given l.text a.0 a.1 in
          (a.0, statements ls, a.1, go (known version_in given a.0) (on (line_known given l a.0 a.1)) (λ next. heard_say ls next), ap (λ (k : Option C). stated l.number k ++ statements ls) s)
      | inr a ↦ (let k : Some a.0 ≡ None = on (line_refused given l a.0 a.1) in let z : ⊥ = cc in absurd z)
    ]
      where
        on : {r : Result (Option V) TextFault} → stepped given l ≡ r → carried r (λ next. walk reader ls next) ≡ None
        on h = sym (ap (λ r. carried r (λ next. walk reader ls next)) h) ∙ e

        go : (r : Result (Option V) TextFault) → carried r (λ next. walk reader ls next) ≡ None → ((next : Option V) → walk reader ls next ≡ None → Says ls next (statements ls))
            → MatchResult r (λ next. Says ls next (statements ls)) (λ fault. ⊥)
        go (Ok next) k again = again next k
        go (Err g) k again = (let z : ⊥ = cc in absurd z)
