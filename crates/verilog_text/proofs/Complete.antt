-- What is begun, and goes on to tokens that may follow, is live.
use Rattle.std.proofs.Common.{◌≡◌, ℕ, ◌≤◌, ◌<◌, ◌+◌, ◌^◌, Bool, true, false, not, ◌||◌, ◌&&◌, List, [], ◌∷◌, ◌++◌, Option, Some, None, refl, sym, ap, subst, ◌∙◌, ◌⊎◌, inl, inr, arith, length, if◌then◌else◌, nat_le, nat_lt, ◌==◌}
use Rattle.std.proofs.lemmas.Bool.{or_cases, or_left, or_right, and_parts, and_from, leb-true, le-leb, lt-ltb, ltb-true}
use Rattle.std.proofs.lemmas.List.{length-append}
use Rattle.bist_bits.specs.Vector.{Vector}
use Rattle.bist_text.specs.Grammar.{byte, when}
use Rattle.bist_text.specs.Machine.{Holds}
use Rattle.bist_text.specs.ReservedWords.{is_among, reserved_words}
use Rattle.verilog_tree.specs.declared.tokens.Base.{Base}
use Rattle.verilog_tree.specs.declared.tokens.Mark.{Mark}
use Rattle.verilog_tree.specs.Formed.{is_place, is_width, is_literal}
use Rattle.verilog_tree.specs.Plain.{ModuleTree}
use Rattle.verilog_tree.specs.Spells.{Limits, keeps, all_keep, short_names, small_numbers}
use Rattle.verilog_tree.specs.Tokens.{Token, Identifier, Number, Based, Unused, Sign, Lexed, decimal, digits, spoils, growth_of, grown, lengthened, behind_mark, behind_number, behind_quote, behind_letter, behind_digits}
use Rattle.bist_text.specs.Identifiers.{in_identifier}
use Rattle.verilog_tree.specs.Words.{base_of, is_digit_of, digit_value}
use Rattle.verilog_text.specs.inner.Expected.{Numbers, AllNumbers, ZeroAlone, NoNumber, numbers, taken_as}
use Rattle.verilog_text.specs.Expected.{words, takes_names, taken, takes_literals, most_of, some_begins, some_taken, longer_marks, live, name_fits, number_fits, live_in}
use Rattle.verilog_text.specs.inner.Following.{rest}
use Rattle.verilog_text.specs.Lexing.{Lexer, InGap, InWord, InNumber, Quoted, Lettered, InDigits, Marked, Whole}
use Rattle.verilog_text.specs.inner.Lexing.{unread}
use Rattle.verilog_text.specs.Places.{State}
use Rattle.verilog_text.proofs.Expectations.{word_taken, literals_alike, no_query, number_taken, numbers_or_literals}
use Rattle.verilog_text.proofs.Limits.{first_taken}
use Rattle.verilog_text.proofs.Prefixes.{run_more, decimal_more, digits_more, among_begins, lengthened_taken, no_third}

if_from : (b t : Bool) → (b ≡ true → t ≡ true) → (if b then t else true) ≡ true
if_from true t f = f refl
if_from false t f = refl

-- the parts of being live
pub live_from : (limits : Limits) (s : State) (l : Lexer) → live s l ≡ true → (limits.names ≡ true → name_fits l ≡ true) → (limits.numbers ≡ true → number_fits (most_of s) l ≡ true) → live_in limits s l ≡ true
live_from limits s l a b c = and_from _ _ (and_from _ _ a (if_from limits.names (name_fits l) b)) (if_from limits.numbers (number_fits (most_of s) l) c)

-- a limit that is kept
unless_kept : (b t : Bool) → (not b || t) ≡ true → b ≡ true → t ≡ true
unless_kept true t h e = h
unless_kept false t h e = cc

-- where a literal is taken, a number may be 64
pub most_literal : (s : State) → takes_literals s ≡ true → most_of s ≡ 64
most_literal s h = let e : taken s (Number false 0) ≡ false = number_taken s false 0 ∙ ap (λ n. taken_as n false 0) (numbers_or_literals s h) in ap (λ t. if t then 63 else 64) e

-- no number may be larger than that, and 63 always may
pub most_low : (s : State) → 63 ≤ most_of s
most_low s = go (taken s (Number false 0))
  where
    go : (t : Bool) → 63 ≤ (if t then 63 else 64)
    go true = omega arith
    go false = omega arith

word_live : (s : State) (w more : List ℕ) → taken s (Identifier (w ++ more)) ≡ true → live s (InWord w) ≡ true
word_live s w more t = elim (or_cases (is_among (w ++ more) (words s)) (takes_names s && not (is_among (w ++ more) reserved_words)) (sym (word_taken s (w ++ more)) ∙ t)) [
  | inl e ↦ or_right (takes_names s) (some_begins w (words s)) (among_begins w more (words s) e)
  | inr e ↦ or_left (takes_names s) (some_begins w (words s)) (and_parts (takes_names s) _ e).0
]

-- digits that become a number which is taken
number_live : (s : State) (long l : Bool) (n m : ℕ) → ((l ≡ true) ⊎ ((long ≡ l) × (n ≡ m))) → taken s (Number l m) ≡ true → taken s (Number long n) ≡ true
number_live s long l n m c t = number_taken s long n ∙ go (numbers s) c (sym (number_taken s l m) ∙ t)
  where
    go : (k : Numbers) → ((l ≡ true) ⊎ ((long ≡ l) × (n ≡ m))) → taken_as k l m ≡ true → taken_as k long n ≡ true
    go AllNumbers c e = refl
    go ZeroAlone (inl q) e = let f : taken_as ZeroAlone true m ≡ true = subst (λ (b : Bool). taken_as ZeroAlone b m ≡ true) q e in cc
    go ZeroAlone (inr q) e = subst (λ (b : Bool). taken_as ZeroAlone b n ≡ true) (sym q.0) (subst (λ (k : ℕ). taken_as ZeroAlone l k ≡ true) (sym q.1) e)
    go NoNumber c e = cc

-- the parts of a literal's limits
literal_parts : (x : Vector) → is_literal x ≡ true → (1 ≤ x.width) × (x.width ≤ 64) × (x.value < 2 ^ x.width)
literal_parts x h =
    let p = and_parts (is_width x.width) (nat_lt x.value (2 ^ x.width)) h in
    let q = and_parts (nat_le 1 x.width) (nat_le x.width 64) p.0 in
    (leb-true 1 x.width q.0, leb-true x.width 64 q.1, ltb-true x.value (2 ^ x.width) p.1)

width_from : (n : ℕ) (x : Vector) → n ≡ x.width → is_literal x ≡ true → is_width n ≡ true
width_from n x e h = subst (λ k. is_width k ≡ true) (sym e) (and_parts (is_width x.width) (nat_lt x.value (2 ^ x.width)) h).0

-- no rule uses a queried literal
queried : {A : Type 0} (s : State) → taken s Unused ≡ true → A
queried s t = let e : false ≡ true = sym (no_query s) ∙ t in cc

module _ (limits : Limits) where
  -- a literal whose size is so far n: the size becomes m
  literal_case : (s : State) (l : Lexer) (x : Vector) (us : List Token) → taken s (Based x) ≡ true → keeps limits (Based x) ≡ true → live s l ≡ takes_literals s → name_fits l ≡ true → (is_literal x ≡ true → most_of s ≡ 64 → number_fits (most_of s) l ≡ true) → live_in limits s l ≡ true
  literal_case s l x us t k same name number =
      let lit : takes_literals s ≡ true = sym (literals_alike s x) ∙ t in
      live_from limits s l (same ∙ lit) (λ e. name) (λ e. number (unless_kept limits.numbers (is_literal x) k e) (most_literal s lit))

  when_parts : (t : Bool) (P : Type 0) → when t P → P
  when_parts true P h = h
  when_parts false P h = absurd h

  -- the literal that digits become
  digits_literal : (x : Vector) (K : List ℕ → Type 0) (n : ℕ) (base : Base) (v : ℕ) (b : List ℕ) → digits base v (behind_digits (Based x) K n base) b → (n ≡ x.width) × (v ≤ x.value)
  digits_literal x K n base v b h =
      let k : (m : ℕ) × (r : List ℕ) × (v ≤ m) × behind_digits (Based x) K n base m r = digits_more base v (behind_digits (Based x) K n base) b h in
      (ap (λ (y : Vector). y.width) k.3.0, let e : k.0 ≡ x.value = ap (λ (y : Vector). y.value) k.3.0 in omega (arith, k.2, e))

  letter_width : (x : Vector) (K : List ℕ → Type 0) (n : ℕ) (base : Base) (b : List ℕ) → behind_letter (Based x) K n base b → n ≡ x.width
  letter_width x K n base [] h = absurd h
  letter_width x K n base (c ∷ b) h = (digits_literal x K n base (digit_value c) b (when_parts (is_digit_of base c) _ h)).0

  quote_width : (x : Vector) (K : List ℕ → Type 0) (n : ℕ) (b : List ℕ) → behind_quote (Based x) K n b → n ≡ x.width
  quote_width x K n [] h = absurd h
  quote_width x K n (c ∷ b) h = go (base_of c) h
    where
      go : (o : Option Base) → Holds o (λ base. behind_letter (Based x) K n base b) → n ≡ x.width
      go None h = absurd h
      go (Some base) h = letter_width x K n base b h

  size_width : (x : Vector) (K : List ℕ → Type 0) (n : ℕ) (b : List ℕ) → byte 39 (behind_quote (Based x) K n) b → n ≡ x.width
  size_width x K n [] h = absurd h
  size_width x K n (c ∷ b) h = quote_width x K n b (when_parts (c == 39) _ h)

  -- behind digits: a number, or a literal of that size
  number_case : (s : State) (long : Bool) (n : ℕ) (t : Token) (us : List Token) (b : List ℕ) → decimal long n (behind_number t (Lexed us)) b → keeps limits t ≡ true → taken s t ≡ true → live_in limits s (InNumber long n) ≡ true
  number_case s long n t us b h k g = go t k g (decimal_more long n (behind_number t (Lexed us)) b h)
    where
      go : (t : Token) → keeps limits t ≡ true → taken s t ≡ true → ((l : Bool) × (m : ℕ) × (r : List ℕ) × (n ≤ m) × ((l ≡ true) ⊎ ((long ≡ l) × (n ≡ m))) × behind_number t (Lexed us) l m r) → live_in limits s (InNumber long n) ≡ true
      go (Number l m) k g d =
          let c : (l ≡ true) ⊎ ((long ≡ l) × (n ≡ m)) = elim d.4 [ inl e ↦ inl (sym d.5.0 ∙ e) | inr e ↦ inr (e.0 ∙ d.5.0, e.1 ∙ d.5.1) ] in
          live_from limits s (InNumber long n) (or_left (taken s (Number long n)) (takes_literals s) (number_live s long l n m c g)) (λ e. refl)
          (λ e. let p : m ≤ 63 = leb-true m 63 (unless_kept limits.numbers (is_place m) k e) in le-leb n (most_of s) (omega (arith, d.3, d.5.1, p, most_low s)))
      go (Based x) k g d =
          let lit : takes_literals s ≡ true = sym (literals_alike s x) ∙ g in
          live_from limits s (InNumber long n) (or_right (taken s (Number long n)) (takes_literals s) lit) (λ e. refl)
          (λ e. let p = literal_parts x (unless_kept limits.numbers (is_literal x) k e) in le-leb n (most_of s) (omega (arith, d.3, size_width x (Lexed us) d.1 d.2 d.5, p.1, most_literal s lit)))
      go Unused k g d = let e : false ≡ true = sym (no_query s) ∙ g in cc
      go (Identifier w) k g d = absurd d.5
      go (Sign m) k g d = absurd d.5

  -- a token that is taken, and that no rule refuses
  taken_used : (s : State) (t : Token) → Unused ≡ t → taken s t ≡ true → ⊥
  taken_used s t e k = let z : false ≡ true = sym (no_query s) ∙ ap (taken s) e ∙ k in cc

  mark_case : (s : State) (m : Mark) (t : Token) (K : List ℕ → Type 0) (b : List ℕ) → behind_mark m t K b → taken s t ≡ true → live s (Marked m) ≡ true
  mark_case s m t K [] h k = or_left (taken s (Sign m)) (some_taken s (longer_marks m)) (ap (taken s) h.0 ∙ k)
  mark_case s m t K (c ∷ b) h k = go (lengthened m c) (spoils m c) refl h
    where
      second : (n : Mark) → lengthened m c ≡ Some n → (b : List ℕ) → behind_mark n t K b → live s (Marked m) ≡ true
      second n e [] h = or_right (taken s (Sign m)) (some_taken s (longer_marks m)) (lengthened_taken s m n c e (ap (taken s) h.0 ∙ k))
      second n e (d ∷ b) h = by (lengthened n d) (spoils n d) (no_third m n c d e) h
        where
          by : (o : Option Mark) (p : Bool) → o ≡ None → grown (growth_of o p) (λ j. behind_mark j t K b) n t K d b → live s (Marked m) ≡ true
          by (Some j) p f h = cc
          by None true f h = absurd (taken_used s t h.0 k)
          by None false f h = or_right (taken s (Sign m)) (some_taken s (longer_marks m)) (lengthened_taken s m n c e (ap (taken s) h.0 ∙ k))

      go : (o : Option Mark) (p : Bool) → lengthened m c ≡ o → grown (growth_of o p) (λ j. behind_mark j t K b) m t K c b → live s (Marked m) ≡ true
      go (Some n) p e h = second n e b h
      go None true e h = absurd (taken_used s t h.0 k)
      go None false e h = or_left (taken s (Sign m)) (some_taken s (longer_marks m)) (ap (taken s) h.0 ∙ k)

  names_keep : (t : Token) → keeps limits t ≡ true → limits.names ≡ true → keeps short_names t ≡ true
  names_keep (Identifier w) k e = unless_kept limits.names (nat_le (length w) 64) k e
  names_keep t k e = refl

  numbers_keep : (t : Token) → keeps limits t ≡ true → limits.numbers ≡ true → keeps small_numbers t ≡ true
  numbers_keep (Number l n) k e = unless_kept limits.numbers (is_place n) k e
  numbers_keep (Based x) k e = unless_kept limits.numbers (is_literal x) k e
  numbers_keep t k e = refl

  -- the first token is taken, and keeps the limits
  head_kept : (t : Token) (us : List Token) → all_keep limits (t ∷ us) ≡ true → keeps limits t ≡ true
  head_kept t us k = (and_parts (keeps limits t) (all_keep limits us) k).0

  pub complete : (s : State) (l : Lexer) (b : List ℕ) (ts : List Token) (v : ModuleTree) → unread l b ts → all_keep limits ts ≡ true → rest limits.counts s ts v → live_in limits s l ≡ true
  complete s (InGap m) b ts v u k r = live_from limits s (InGap m) refl (λ e. refl) (λ e. refl)
  complete s (InWord w) b (Identifier x ∷ us) v u k r =
      let m : (more : List ℕ) × (z : List ℕ) × (((w ++ more) ≡ x) × Lexed us z) = run_more in_identifier w (λ y z. (y ≡ x) × Lexed us z) b u in
      let t : taken s (Identifier x) ≡ true = first_taken limits.counts s (Identifier x) us v r in
      live_from limits s (InWord w) (word_live s w m.0 (subst (λ (y : List ℕ). taken s (Identifier y) ≡ true) (sym m.2.0) t))
      (λ e. let p : length x ≤ 64 = leb-true (length x) 64 (unless_kept limits.names (nat_le (length x) 64) (head_kept (Identifier x) us k) e) in
      let q : length w + length m.0 ≡ length x = sym (length-append w m.0) ∙ ap length m.2.0 in le-leb (length w) 64 (omega (arith, p, q)))
      (λ e. refl)
  complete s (InNumber long n) b (t ∷ us) v u k r = number_case s long n t us b u (head_kept t us k) (first_taken limits.counts s t us v r)
  complete s (Quoted n) b (Based x ∷ us) v u k r = literal_case s (Quoted n) x us (first_taken limits.counts s (Based x) us v r) (head_kept (Based x) us k) refl refl (λ h m. width_from n x (quote_width x (Lexed us) n b u) h)
  complete s (Lettered n base) b (Based x ∷ us) v u k r = literal_case s (Lettered n base) x us (first_taken limits.counts s (Based x) us v r) (head_kept (Based x) us k) refl refl (λ h m. width_from n x (letter_width x (Lexed us) n base b u) h)
  complete s (InDigits n base w) b (Based x ∷ us) v u k r = literal_case s (InDigits n base w) x us (first_taken limits.counts s (Based x) us v r) (head_kept (Based x) us k) refl refl
      (λ h m. let d = digits_literal x (Lexed us) n base w b u in let p = literal_parts x h in
      and_from (is_width n) (nat_lt w (2 ^ n)) (width_from n x d.0 h) (lt-ltb w (2 ^ n) (subst (λ (k : ℕ). w < 2 ^ k) (sym d.0) (omega (arith, d.1, p.2)))))
  complete s (Quoted n) b (Unused ∷ us) v u k r = queried s (first_taken limits.counts s Unused us v r)
  complete s (Lettered n base) b (Unused ∷ us) v u k r = queried s (first_taken limits.counts s Unused us v r)
  complete s (InDigits n base w) b (Unused ∷ us) v u k r = queried s (first_taken limits.counts s Unused us v r)
  complete s (Marked m) b (t ∷ us) v u k r = live_from limits s (Marked m) (mark_case s m t (Lexed us) b u (first_taken limits.counts s t us v r)) (λ e. refl) (λ e. refl)
  complete s (Whole t) b (x ∷ us) v u k r = let kept : keeps limits t ≡ true = subst (λ (y : Token). keeps limits y ≡ true) (sym u.0) (head_kept x us k) in live_from limits s (Whole t) (subst (λ (y : Token). taken s y ≡ true) (sym u.0) (first_taken limits.counts s x us v r)) (λ e. names_keep t kept e) (λ e. numbers_keep t kept e)
  complete s l b ts v u k r = absurd u
