-- What a begun token becomes: longer words, larger numbers.
use Rattle.std.proofs.Common.{◌≡◌, ℕ, ◌+◌, ◌*◌, ◌≤◌, Bool, true, false, ◌==◌, List, [], ◌∷◌, ◌++◌, Some, None, refl, sym, subst, ◌⊎◌, inl, inr, arith, nat_eq, append_assoc, append-nil, if◌then◌else◌}
use Rattle.std.specs.List.{starts_with}
use Rattle.std.specs.Str.{bytes_eq}
use Rattle.std.proofs.lemmas.Bool.Decides.{Decides-eqb}
use Rattle.std.proofs.lemmas.Bool.{or_cases, or_left, or_right}
use Rattle.std.proofs.lemmas.Slice.Eq.{bytes_eq-Decides, starts_is}
use Rattle.bist_text.specs.ReservedWords.{is_among}
use Rattle.verilog_tree.specs.declared.tokens.Base.{Base}
use Rattle.verilog_tree.specs.declared.tokens.Base.TheVariants.{Binary}
use Rattle.verilog_tree.specs.declared.tokens.Mark.{Mark}
use Rattle.verilog_tree.specs.declared.tokens.Mark.TheVariants.{Equals, Bang, Less, Greater, Ampersand, Bar, TwoEquals, BangEquals, LessEquals, TwoLess, GreaterEquals, TwoGreater, TwoAmpersands, TwoBars}
use Rattle.verilog_tree.specs.Tokens.{whether, run, decimal, digits, lengthened, Sign}
use Rattle.bist_text.specs.Identifiers.{is_digit}
use Rattle.verilog_tree.specs.Words.{digit_value, radix, is_digit_of}
use Rattle.verilog_text.specs.Expected.{some_begins, longer_marks, some_taken, taken}
use Rattle.verilog_text.specs.Places.{State}

whether_cases : (t : Bool) (A B : Type 0) → whether t A B → A ⊎ B
whether_cases true A B h = inl h
whether_cases false A B h = inr h

-- a word goes on to one that begins with it
pub run_more : (p : ℕ → Bool) (w : List ℕ) (K : List ℕ → List ℕ → Type 0) (b : List ℕ) → run p w K b → (more : List ℕ) × (r : List ℕ) × K (w ++ more) r
run_more p w K [] h = ([], [], subst (λ x. K x []) (sym (append-nil w)) h)
run_more p w K (c ∷ b) h = elim (whether_cases (p c) (run p (w ++ (c ∷ [])) K b) (K w (c ∷ b)) h) [
  | inl k ↦ longer (run_more p (w ++ (c ∷ [])) K b k)
  | inr k ↦ ([], c ∷ b, subst (λ x. K x (c ∷ b)) (sym (append-nil w)) k)
]
  where
    longer : ((more : List ℕ) × (r : List ℕ) × K ((w ++ (c ∷ [])) ++ more) r) → (more : List ℕ) × (r : List ℕ) × K (w ++ more) r
    longer k = (c ∷ k.0, k.1, subst (λ x. K x k.1) (append_assoc w (c ∷ []) k.0) k.2)

-- digits go on to the same number, or to one of more digits that is no smaller
pub decimal_more : (long : Bool) (n : ℕ) (K : Bool → ℕ → List ℕ → Type 0) (b : List ℕ) → decimal long n K b → (l : Bool) × (m : ℕ) × (r : List ℕ) × (n ≤ m) × ((l ≡ true) ⊎ ((long ≡ l) × (n ≡ m))) × K l m r
decimal_more long n K [] h = (long, n, [], omega arith, inr (refl, refl), h)
decimal_more long n K (c ∷ b) h = elim (whether_cases (is_digit c) (decimal true (n * 10 + digit_value c) K b) (K long n (c ∷ b)) h) [
  | inl k ↦ longer (decimal_more true (n * 10 + digit_value c) K b k)
  | inr k ↦ (long, n, c ∷ b, omega arith, inr (refl, refl), k)
]
  where
    longer : ((l : Bool) × (m : ℕ) × (r : List ℕ) × (n * 10 + digit_value c ≤ m) × ((l ≡ true) ⊎ ((true ≡ l) × (n * 10 + digit_value c ≡ m))) × K l m r) → (l : Bool) × (m : ℕ) × (r : List ℕ) × (n ≤ m) × ((l ≡ true) ⊎ ((long ≡ l) × (n ≡ m))) × K l m r
    longer k = (k.0, k.1, k.2, omega (arith, k.3), elim k.4 [ inl e ↦ inl e | inr e ↦ inl (sym e.0) ], k.5)

radix_more : (base : Base) (v : ℕ) → v ≤ v * radix base
radix_more Binary v = omega arith
radix_more base v = omega arith

-- and digits of a base to a value that is no smaller
pub digits_more : (base : Base) (v : ℕ) (K : ℕ → List ℕ → Type 0) (b : List ℕ) → digits base v K b → (m : ℕ) × (r : List ℕ) × (v ≤ m) × K m r
digits_more base v K [] h = (v, [], omega arith, h)
digits_more base v K (c ∷ b) h = elim (whether_cases (is_digit_of base c) (digits base (v * radix base + digit_value c) K b) (whether (c == 95) (digits base v K b) (K v (c ∷ b))) h) [
  | inl k ↦ longer (digits_more base (v * radix base + digit_value c) K b k)
  | inr k ↦ elim (whether_cases (c == 95) (digits base v K b) (K v (c ∷ b)) k) [
    | inl z ↦ digits_more base v K b z
    | inr z ↦ (v, c ∷ b, omega arith, z)
  ]
]
  where
    longer : ((m : ℕ) × (r : List ℕ) × (v * radix base + digit_value c ≤ m) × K m r) → (m : ℕ) × (r : List ℕ) × (v ≤ m) × K m r
    longer k = (k.0, k.1, omega (arith, k.2, radix_more base v), k.3)

-- a word of the list begins with what begins it
pub among_begins : (w more : List ℕ) (ws : List (List ℕ)) → is_among (w ++ more) ws ≡ true → some_begins w ws ≡ true
among_begins w more [] h = cc
among_begins w more (v ∷ vs) h = elim (or_cases (bytes_eq (w ++ more) v) (is_among (w ++ more) vs) h) [
  | inl e ↦ or_left (starts_with nat_eq v w) (some_begins w vs) ((starts_is (λ x y. Decides-eqb x y) v w (starts_with nat_eq v w) refl).1 more (sym ((bytes_eq-Decides (w ++ more) v).0 e)))
  | inr e ↦ or_right (starts_with nat_eq v w) (some_begins w vs) (among_begins w more vs e)
]

same_mark : (s : State) (m k : Mark) → Some m ≡ Some k → taken s (Sign k) ≡ true → taken s (Sign m) ≡ true
same_mark s m k e t = let i : k ≡ m = cc in subst (λ (x : Mark). taken s (Sign x) ≡ true) i t

-- a second byte makes a longer mark
pub lengthened_taken : (s : State) (m k : Mark) (c : ℕ) → lengthened m c ≡ Some k → taken s (Sign k) ≡ true → some_taken s (longer_marks m) ≡ true
lengthened_taken s Equals k c e t = one (c == 61) e
  where
    one : (b : Bool) → (if b then Some TwoEquals else None) ≡ Some k → some_taken s (longer_marks Equals) ≡ true
    one true e = or_left _ _ (same_mark s TwoEquals k e t)
    one false e = cc
lengthened_taken s Bang k c e t = one (c == 61) e
  where
    one : (b : Bool) → (if b then Some BangEquals else None) ≡ Some k → some_taken s (longer_marks Bang) ≡ true
    one true e = or_left _ _ (same_mark s BangEquals k e t)
    one false e = cc
lengthened_taken s Less k c e t = two (c == 61) (c == 60) e
  where
    two : (a b : Bool) → (if a then Some LessEquals else if b then Some TwoLess else None) ≡ Some k → some_taken s (longer_marks Less) ≡ true
    two true b e = or_left _ _ (same_mark s LessEquals k e t)
    two false true e = or_right (taken s (Sign LessEquals)) _ (or_left _ _ (same_mark s TwoLess k e t))
    two false false e = cc
lengthened_taken s Greater k c e t = two (c == 61) (c == 62) e
  where
    two : (a b : Bool) → (if a then Some GreaterEquals else if b then Some TwoGreater else None) ≡ Some k → some_taken s (longer_marks Greater) ≡ true
    two true b e = or_left _ _ (same_mark s GreaterEquals k e t)
    two false true e = or_right (taken s (Sign GreaterEquals)) _ (or_left _ _ (same_mark s TwoGreater k e t))
    two false false e = cc
lengthened_taken s Ampersand k c e t = one (c == 38) e
  where
    one : (b : Bool) → (if b then Some TwoAmpersands else None) ≡ Some k → some_taken s (longer_marks Ampersand) ≡ true
    one true e = or_left _ _ (same_mark s TwoAmpersands k e t)
    one false e = cc
lengthened_taken s Bar k c e t = one (c == 124) e
  where
    one : (b : Bool) → (if b then Some TwoBars else None) ≡ Some k → some_taken s (longer_marks Bar) ≡ true
    one true e = or_left _ _ (same_mark s TwoBars k e t)
    one false e = cc
lengthened_taken s m k c e t = cc

-- a mark of two bytes
abbrev two_bytes : Mark → Bool
two_bytes TwoEquals = true
two_bytes BangEquals = true
two_bytes LessEquals = true
two_bytes TwoLess = true
two_bytes GreaterEquals = true
two_bytes TwoGreater = true
two_bytes TwoAmpersands = true
two_bytes TwoBars = true
two_bytes _ = false

is_two : (m k : Mark) → two_bytes m ≡ true → Some m ≡ Some k → two_bytes k ≡ true
is_two m k h e = let i : m ≡ k = cc in subst (λ x. two_bytes x ≡ true) i h

lengthened_two : (m k : Mark) (c : ℕ) → lengthened m c ≡ Some k → two_bytes k ≡ true
lengthened_two Equals k c e = one (c == 61) e
  where
    one : (b : Bool) → (if b then Some TwoEquals else None) ≡ Some k → two_bytes k ≡ true
    one true e = is_two TwoEquals k refl e
    one false e = cc
lengthened_two Bang k c e = one (c == 61) e
  where
    one : (b : Bool) → (if b then Some BangEquals else None) ≡ Some k → two_bytes k ≡ true
    one true e = is_two BangEquals k refl e
    one false e = cc
lengthened_two Less k c e = two (c == 61) (c == 60) e
  where
    two : (a b : Bool) → (if a then Some LessEquals else if b then Some TwoLess else None) ≡ Some k → two_bytes k ≡ true
    two true b e = is_two LessEquals k refl e
    two false true e = is_two TwoLess k refl e
    two false false e = cc
lengthened_two Greater k c e = two (c == 61) (c == 62) e
  where
    two : (a b : Bool) → (if a then Some GreaterEquals else if b then Some TwoGreater else None) ≡ Some k → two_bytes k ≡ true
    two true b e = is_two GreaterEquals k refl e
    two false true e = is_two TwoGreater k refl e
    two false false e = cc
lengthened_two Ampersand k c e = one (c == 38) e
  where
    one : (b : Bool) → (if b then Some TwoAmpersands else None) ≡ Some k → two_bytes k ≡ true
    one true e = is_two TwoAmpersands k refl e
    one false e = cc
lengthened_two Bar k c e = one (c == 124) e
  where
    one : (b : Bool) → (if b then Some TwoBars else None) ≡ Some k → two_bytes k ≡ true
    one true e = is_two TwoBars k refl e
    one false e = cc
lengthened_two m k c e = cc

-- a mark of two bytes is not lengthened
two_whole : (k : Mark) (d : ℕ) → two_bytes k ≡ true → lengthened k d ≡ None
two_whole Equals d h = cc
two_whole Bang d h = cc
two_whole Less d h = cc
two_whole Greater d h = cc
two_whole Ampersand d h = cc
two_whole Bar d h = cc
two_whole k d h = refl

pub no_third : (m k : Mark) (c d : ℕ) → lengthened m c ≡ Some k → lengthened k d ≡ None
no_third m k c d e = two_whole k d (lengthened_two m k c e)
