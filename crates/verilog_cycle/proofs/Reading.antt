-- What a code reads, by what its parts read.
use Rattle.std.proofs.Common.{◌≡◌, ◌≢◌, ℕ, ◌-◌, ◌%◌, ◌^◌, ◌<◌, List, [], ◌∷◌, ◌++◌, Option, Some, sym, ap, ap₂, ◌∙◌, subst, arith, bit_and, bit_or}
use Rattle.std.specs.Int.{bit_at}
use Rattle.std.proofs.lemmas.Nat.{and_mask, and_comm}
use Rattle.std.proofs.Math.Nat.{mod-eq_of_lt}
use Rattle.std.proofs.lemmas.Nat.Bits.{bit_at_or, bit_at-pow_same, bit_at-zero, bit_at-lt}
use Rattle.verilog_code.specs.declared.code.Code.{Code}
use Rattle.verilog_code.specs.declared.step.Step.{Step}
use Rattle.verilog_code.specs.Code.{at, meaning}
use Rattle.verilog_code.specs.OpenCode.{open_at, open_meaning}
use Rattle.verilog_code.specs.Reading.{Alike, Rests, Reads, AreReading}

-- ---- bits

in_left : (a b i : ℕ) → bit_at a i ≡ 1 → bit_at (bit_or a b) i ≡ 1
in_left a b i h = let e = bit_at_or a b i in let l = bit_at-lt b i in omega (arith, e, h, l)

in_right : (a b i : ℕ) → bit_at b i ≡ 1 → bit_at (bit_or a b) i ≡ 1
in_right a b i h = let e = bit_at_or a b i in let l = bit_at-lt a i in omega (arith, e, h, l)

left_alike : {A : Type 0} (z : A) (a b : ℕ) (vs ws : List A) → Alike z (bit_or a b) vs ws → Alike z a vs ws
left_alike z a b vs ws h = λ p one. h p (in_left a b (p % 64) one)

right_alike : {A : Type 0} (z : A) (a b : ℕ) (vs ws : List A) → Alike z (bit_or a b) vs ws → Alike z b vs ws
right_alike z a b vs ws h = λ p one. h p (in_right a b (p % 64) one)

low_bits : (x : ℕ) → x < 2 ^ 64 → bit_and (2 ^ 64 - 1) x ≡ x
low_bits x lt = and_comm (2 ^ 64 - 1) x ∙ and_mask x 64 ∙ mod-eq_of_lt lt

pub some_bits : (x : ℕ) → x < 2 ^ 64 → x ≢ 0 → bit_and (2 ^ 64 - 1) x ≢ 0
some_bits x lt h = λ e. h (sym (low_bits x lt) ∙ e)

-- what reads nothing reads only the places with any bits
pub reads_nothing : (x bits : ℕ) (c : Code) → x ≡ 0 → Reads x c → Reads bits c
reads_nothing x bits c e r = record {
  closed = λ vs ws h. r.closed vs ws (λ p one. none p one);
  when_open = λ vs ws h. r.when_open vs ws (λ p one. none p one);
}
  where
    none : {B : Type 0} (p : ℕ) → bit_at x (p % 64) ≡ 1 → B
    none p one = let z = bit_at-zero (p % 64) in let o = ap (λ (j : ℕ). bit_at j (p % 64)) e in absurd (omega (arith, one, z, o))

-- ---- codes

no_part_rests : {A : Type 0} (z : A) (worth : List A → Code → A) (v : A) (bits : ℕ) (c : Code) → ((e : List A) → worth e c ≡ v) → Rests z worth bits c
no_part_rests z worth v bits c h = λ vs ws alike. h vs ∙ sym (h ws)

leaf_rests : {A : Type 0} (z : A) (worth : List A → Code → A) (at : List A → ℕ → A) (f : A → A) (n bits : ℕ) (c : Code) → ((vs ws : List A) → Alike z (2 ^ (n % 64)) vs ws → at vs n ≡ at ws n) → bits ≡ 2 ^ (n % 64) → ((e : List A) → worth e c ≡ f (at e n)) → Rests z worth bits c
leaf_rests z worth at f n bits c same e h = λ vs ws alike. h vs ∙ ap f (same vs ws (subst (λ (b : ℕ). Alike z b vs ws) e alike)) ∙ sym (h ws)

one_rests : {A : Type 0} (z : A) (worth : List A → Code → A) (f : A → A) (bits : ℕ) (a c : Code) → ((e : List A) → worth e c ≡ f (worth e a)) → Rests z worth bits a → Rests z worth bits c
one_rests z worth f bits a c h r = λ vs ws alike. h vs ∙ ap f (r vs ws alike) ∙ sym (h ws)

two_rests : {A : Type 0} (z : A) (worth : List A → Code → A) (f : A → A → A) (i j : ℕ) (a b c : Code) → ((e : List A) → worth e c ≡ f (worth e a) (worth e b)) → Rests z worth i a → Rests z worth j b → Rests z worth (bit_or i j) c
two_rests z worth f i j a b c h r s = λ vs ws alike. h vs ∙ ap₂ f (r vs ws (left_alike z i j vs ws alike)) (s vs ws (right_alike z i j vs ws alike)) ∙ sym (h ws)

three_rests : {A : Type 0} (z : A) (worth : List A → Code → A) (f : A → A → A → A) (i j k : ℕ) (a b d c : Code) → ((e : List A) → worth e c ≡ f (worth e a) (worth e b) (worth e d)) → Rests z worth i a → Rests z worth j b → Rests z worth k d → Rests z worth (bit_or (bit_or i j) k) c
three_rests z worth f i j k a b d c h r s t = λ vs ws alike.
    let front = left_alike z (bit_or i j) k vs ws alike in
    h vs
    ∙ ap₂ (λ g y. g y) (ap₂ f (r vs ws (left_alike z i j vs ws front)) (s vs ws (right_alike z i j vs ws front))) (t vs ws (right_alike z (bit_or i j) k vs ws alike))
    ∙ sym (h ws)

-- a value, or bits of it
pub leaf_reads : (n bits : ℕ) (c : Code) (f : ℕ → ℕ) (g : Option ℕ → Option ℕ) → bits ≡ 2 ^ (n % 64) → ((e : List ℕ) → meaning e c ≡ f (at e n)) → ((e : List (Option ℕ)) → open_meaning e c ≡ g (open_at e n)) → Reads bits c
leaf_reads n bits c f g e h k = record {
  closed = leaf_rests 0 meaning at f n bits c (λ vs ws alike. alike n (bit_at-pow_same (n % 64))) e h;
  when_open = leaf_rests (Some 0) open_meaning open_at g n bits c (λ vs ws alike. alike n (bit_at-pow_same (n % 64))) e k;
}

pub constant_reads : (bits v : ℕ) (c : Code) → ((e : List ℕ) → meaning e c ≡ v) → ((e : List (Option ℕ)) → open_meaning e c ≡ Some v) → Reads bits c
constant_reads bits v c h k = record { closed = no_part_rests 0 meaning v bits c h; when_open = no_part_rests (Some 0) open_meaning (Some v) bits c k }

pub one_reads : (bits : ℕ) (a c : Code) (f : ℕ → ℕ) (g : Option ℕ → Option ℕ) → ((e : List ℕ) → meaning e c ≡ f (meaning e a)) → ((e : List (Option ℕ)) → open_meaning e c ≡ g (open_meaning e a)) → Reads bits a → Reads bits c
one_reads bits a c f g h k r = record { closed = one_rests 0 meaning f bits a c h r.closed; when_open = one_rests (Some 0) open_meaning g bits a c k r.when_open }

pub two_reads : (i j : ℕ) (a b c : Code) (f : ℕ → ℕ → ℕ) (g : Option ℕ → Option ℕ → Option ℕ) → ((e : List ℕ) → meaning e c ≡ f (meaning e a) (meaning e b)) → ((e : List (Option ℕ)) → open_meaning e c ≡ g (open_meaning e a) (open_meaning e b)) → Reads i a → Reads j b → Reads (bit_or i j) c
two_reads i j a b c f g h k r s = record {
  closed = two_rests 0 meaning f i j a b c h r.closed s.closed;
  when_open = two_rests (Some 0) open_meaning g i j a b c k r.when_open s.when_open;
}

pub three_reads : (i j k : ℕ) (a b d c : Code) (f : ℕ → ℕ → ℕ → ℕ) (g : Option ℕ → Option ℕ → Option ℕ → Option ℕ) → ((e : List ℕ) → meaning e c ≡ f (meaning e a) (meaning e b) (meaning e d)) → ((e : List (Option ℕ)) → open_meaning e c ≡ g (open_meaning e a) (open_meaning e b) (open_meaning e d)) →
    Reads i a → Reads j b → Reads k d → Reads (bit_or (bit_or i j) k) c
three_reads i j k a b d c f g h m r s t = record {
  closed = three_rests 0 meaning f i j k a b d c h r.closed s.closed t.closed;
  when_open = three_rests (Some 0) open_meaning g i j k a b d c m r.when_open s.when_open t.when_open;
}

-- ---- steps

pub reading_more : (all : List Step) (s : Step) → AreReading all → AreReading (s ∷ []) → AreReading (all ++ s ∷ [])
reading_more [] s h g = g
reading_more (x ∷ all) s h g = (h.0, h.1, reading_more all s h.2 g)
