-- Lines of a first word and what stands behind it, whatever the words are and what they say.
use Rattle.bist_text.proofs.keyed.Common.{nat_le, ◌&&◌, Bool, IsExact, IsOf, LineOf, List, None, Option, Read, Some, Word, [], all_words, ap, are_apart, arith, by_byte, comment, eqb-true, false, gap, gap_of, inl, inr, is_blank, is_hash, keyed_of, length, line_of, of_blank, onward, outcome, refl, remark_of, slice_get, space, stands_all, subst, sym, took, true, when_false, when_holds, word, ℕ, ◌==◌, ◌↔◌, ◌∙◌, ◌∷◌, ◌≡◌, ◌⊎◌}
use Rattle.bist_text.proofs.Carried.{Said, after, either, gap_carries, many_carries, onto, said_on, word_carries}
use Rattle.bist_text.proofs.LinePieces.{apart}
use Rattle.bist_text.proofs.keyed.PartLaws.{Either, Gap, Hears, Keys, Remark, Space, either_told, gap_told, key_told, remark_told, space_told}
use Rattle.bist_text.proofs.keyed.Taken.{Takes}
use Rattle.bist_text.proofs.keyed.Told.{told_exact, told_iff}

-- a word that begins with a small letter
abbrev is_small : ℕ → Bool
is_small c = nat_le 97 c && nat_le c 122

abbrev pub begins_small : List ℕ → Bool
begins_small [] = false
begins_small (c ∷ w) = is_small c

small_stops : (p : ℕ → Bool) (w : List ℕ) (K : List ℕ → Type 0) (c : ℕ) (b : List ℕ) → begins_small w ≡ true → (is_small c ≡ true → p c ≡ true → ⊥) → p c ≡ true → word w K (c ∷ b) → ⊥
small_stops p [] K c b e f h k = (let z : ⊥ = cc in z)
small_stops p (d ∷ w) K c b e f h k = (let q = when_holds (c == d) (word w K b) k in f (ap is_small (eqb-true c d q.0) ∙ e) h)

small_none : (w : List ℕ) (K : List ℕ → Type 0) → begins_small w ≡ true → word w K [] → ⊥
small_none [] K e k = cc
small_none (d ∷ w) K e k = k

no_blank : (c : ℕ) → is_small c ≡ true → is_blank c ≡ true → ⊥
no_blank c h e = (let z : is_small c ≡ false = of_blank (λ k. is_small k ≡ false) c e refl refl refl in let y : ⊥ = cc in y)

no_hash : (c : ℕ) → is_small c ≡ true → (c == 35) ≡ true → ⊥
no_hash c h e = (let z : is_small c ≡ false = ap is_small (eqb-true c 35 e) in let y : ⊥ = cc in y)

-- the kinds, what the contents are, and what stands behind a first word; a content of a kind is made of what its form has
module _ {K C : Type 0} (kind_of : C → K) (is_formed : C → Bool) (argument : C → List ℕ → Type 0) (key_text : K → List ℕ) (keys : List K) (Form : K → Type 0) (made : (k : K) → Form k → C) where
  abbrev pub words_of : List (Word K)
  words_of = all_words (λ k. key_text k ∷ []) keys

  -- The table: its words are apart, each begins with a small letter, the formed contents of a kind are those of its form, and what
  -- stands behind a word is taken.
  pub record IsTable (argument_of : K → List ℕ → Read (Option C)) : Type 0 where
    pub fine : are_apart words_of ≡ true
    pub first : K
    pub begins : slice_get words_of 0 ≡ Some (record { text = key_text first; value = first })
    pub small : (k : K) → begins_small (key_text k) ≡ true
    pub kind : (k : K) (a : Form k) → kind_of (made k a) ≡ k
    pub formed : (k : K) (a : Form k) → is_formed (made k a) ≡ true
    pub parts : (c : C) (x : List ℕ) → is_formed c ≡ true → argument c x → (a : Form (kind_of c)) × (c ≡ made (kind_of c) a)
    pub taken : (n : ℕ) (k : K) → Takes n is_blank (λ a. Some (made k a)) (λ a. argument (made k a)) (argument_of k)

  module _ (argument_of : K → List ℕ → Read (Option C)) (t : IsTable argument_of) where
    abbrev Behind : K → List ℕ → Option C → Type 0
    Behind k = Said (λ a. Some (made k a)) (λ a. argument (made k a))

    abbrev Keyed : List ℕ → Option C → Type 0
    Keyed = Keys words_of [] (λ k. Gap (Behind k))

    -- a content of a kind of the table
    pub record Standing : Type 0 where
      pub content : C
      pub stands : IsOf keys (kind_of content)
      pub formed : is_formed content ≡ true

    abbrev text : C → List ℕ → Type 0
    text c = word (key_text (kind_of c)) (gap (argument c))

    abbrev Whole : List ℕ → Option C → Type 0
    Whole = Said (λ (s : Standing). Some s.content) (λ s. text s.content)

    on : (k : K) (x : List ℕ) (v : Option C) → word (key_text k) (λ y. Gap (Behind k) y v) x ↔ Said (λ a. Some (made k a)) (λ a. word (key_text k) (gap (argument (made k a)))) x v
    on k x v = said_on (after (word_carries (key_text k)) gap_carries) (λ a. Some (made k a)) (λ a. argument (made k a)) x v

    keyed_iff : (x : List ℕ) (v : Option C) → Keyed x v ↔ Whole x v
    keyed_iff x v = (λ h. from h.0 ((stands_all (λ k. key_text k ∷ []) keys h.0 (λ y. Gap (Behind h.0) y v) x).0 h.1), λ h. to h.0 h.1 h.2)
      where
        from : (k : K) → IsOf keys k × (word (key_text k) (λ y. Gap (Behind k) y v) x ⊎ ⊥) → Whole x v
        from k h = elim h.1 [
          | inl w ↦ (
              let r = (on k x v).0 w in
              let same = sym (t.kind k r.0) in
              (record { content = made k r.0; stands = subst (IsOf keys) same h.0; formed = t.formed k r.0 }, r.1, subst (λ j. word (key_text j) (gap (argument (made k r.0))) x) same r.2)
              )
          | inr w ↦ absurd w
        ]

        to : (s : Standing) → v ≡ Some s.content → text s.content x → Keyed x v
        to s e w =
            let c = s.content in
            let k = kind_of c in
            let r = (after (word_carries (key_text k)) gap_carries).draw Parts (argument c) (λ a. argument (made k a.0)) (λ y m. (let p = t.parts c y s.formed m in (p, subst (λ c. argument c y) p.1 m))) x w in
            (k, (stands_all (λ k. key_text k ∷ []) keys k (λ y. Gap (Behind k) y v) x).1 (s.stands, inl ((on k x v).1 (r.0.0, e ∙ ap Some r.0.1, r.1))))
          where
            Parts : Type 0
            Parts = (a : Form (kind_of s.content)) × (s.content ≡ made (kind_of s.content) a)

    abbrev keyed : List ℕ → Read (Option C)
    keyed b = keyed_of words_of argument_of b

    keyed_told : (n : ℕ) → Hears n Keyed keyed
    keyed_told n b l =
        key_told n words_of t.fine (record { text = key_text t.first; value = t.first }) t.begins (λ k. Gap (Behind k)) (λ k x. onward (gap_of x) (λ _ x. argument_of k x))
        (λ k y i. gap_told n (Behind k) (argument_of k) (λ c x v e h. (t.taken n k).shuns h.0 c x e h.2) (t.taken n k).told y (omega arith)) b (omega arith)

    -- a first word begins neither with a blank nor with #
    stops : (p : ℕ → Bool) → ((c : ℕ) → is_small c ≡ true → p c ≡ true → ⊥) → (c : ℕ) (x : List ℕ) (v : Option C) → p c ≡ true → Keyed (c ∷ x) v → ⊥
    stops p f c x v e h = (let k = (keyed_iff (c ∷ x) v).0 h in small_stops p (key_text (kind_of k.0.content)) (gap (argument k.0.content)) c x (t.small (kind_of k.0.content)) (f c) e k.2)

    ends : (v : Option C) → Keyed [] v → ⊥
    ends v h = (let k = (keyed_iff [] v).0 h in small_none (key_text (kind_of k.0.content)) (gap (argument k.0.content)) (t.small (kind_of k.0.content)) k.2)

    abbrev Both : List ℕ → Option C → Type 0
    Both = Either (Remark None) Keyed

    both_told : (n : ℕ) → Hears n Both (by_byte is_hash (remark_of None) keyed (took None []))
    both_told n =
        either_told n is_hash (Remark None) Keyed (remark_of None) keyed (took None []) (λ c e x v h. when_false (c == 35) (Unit {0}) e h.1) (λ c e x v h. stops is_hash no_hash c x v e h)
        (inl (refl, tt), λ w h. elim h [ inl a ↦ a.0 | inr a ↦ absurd (ends w a) ]) (remark_told n None) (keyed_told n)

    both_shuns : (c : ℕ) (x : List ℕ) (v : Option C) → is_blank c ≡ true → Both (c ∷ x) v → ⊥
    both_shuns c x v e h = elim h [ inl a ↦ when_false (c == 35) (Unit {0}) (apart is_blank c 35 e refl) a.1 | inr a ↦ stops is_blank no_blank c x v e a ]

    -- The reader of a line is exact, where the kinds of the table are those that may stand.
    pub line_exact : {V : Type 0} (stands : Option V → C → Bool) (given : Option V) → ((c : C) → IsOf keys (kind_of c) ↔ (stands given c ≡ true)) → (b : List ℕ)
        → IsExact (LineOf (λ b c. (is_formed c ≡ true) × space (text c) b) stands given) b (outcome b (line_of words_of argument_of b))
    line_exact {V} stands given of b =
        told_exact Line b (line_of words_of argument_of b)
        (told_iff (Space Both) Line b (line_of words_of argument_of b) (λ x v. (from x v, to x v))
        (space_told (length b) Both (by_byte is_hash (remark_of None) keyed (took None [])) both_shuns (both_told (length b)) b (omega arith)))
      where
        Line : List ℕ → Option C → Type 0
        Line = LineOf (λ b c. (is_formed c ≡ true) × space (text c) b) stands given

        from : (x : List ℕ) (v : Option C) → Space Both x v → Line x v
        from x v h = elim (either (many_carries is_blank) (λ y. Remark None y v) (λ y. Keyed y v) x h) [
          | inl a ↦ inl ((many_carries is_blank).draw (v ≡ None) (λ y. Remark None y v) (λ _. comment) (λ y k. k) x a)
          | inr a ↦ (
              let r = (said_on (many_carries is_blank) (λ (s : Standing). Some s.content) (λ s. text s.content) x v).0 (onto (many_carries is_blank) (λ y. Keyed y v) (λ y. Whole y v) (λ y. (keyed_iff y v).0) x a) in
              inr (r.0.content, (of r.0.content).0 r.0.stands, r.1, (r.0.formed, r.2))
              )
        ]

        to : (x : List ℕ) (v : Option C) → Line x v → Space Both x v
        to x v h = elim h [
          | inl a ↦ onto (many_carries is_blank) comment (λ y. Both y v) (λ y k. inl (a.0, k)) x a.1
          | inr a ↦ (
              let s : Standing = record { content = a.0; stands = (of a.0).1 a.1; formed = a.3.0 } in
              onto (many_carries is_blank) (text a.0) (λ y. Both y v) (λ y k. inr ((keyed_iff y v).1 (s, a.2, k))) x a.3.1
              )
        ]
