use Rattle.memory_desc.proofs.Common.{Bool, nat_le, leb-false, List, Term, ap, arith, bit_xor, constant, constant_of, false, if◌then◌else◌, index_bit, index_bits, is_term_too_wide, list_any, not, or_parts, pow-lt, refl, sym, true, xor_assoc, ℕ, ◌%◌, ◌*◌, ◌<◌, ◌^◌, ◌∙◌, ◌∷◌, ◌≡◌, ◌≤◌}
use Rattle.memory_desc.proofs.building.row_of.Goals as goal

abbrev Fit : List Term → Type 0
Fit ts = (width : ℕ) × (width ≤ 16) × (list_any (is_term_too_wide width) ts ≡ false)

-- the constant up to some terms, with that of these
abbrev with_constant : Bool → List Term → Bool
with_constant k ts = if k then not (constant_of ts) else constant_of ts

-- one term is taken from the first on
module _ (t : Term) (ts us : List Term) (e : us ≡ t ∷ ts) where
  fit_on : Fit us → Fit ts
  fit_on f = (f.0, f.1, (or_parts (is_term_too_wide f.0 t) (list_any (is_term_too_wide f.0) ts) (ap (list_any (is_term_too_wide f.0)) (sym e) ∙ f.2)).1)

  names_on : (n all : ℕ) → bit_xor n (index_bits us) ≡ all → bit_xor n (index_bits (t ∷ ts)) ≡ all
  names_on n all h = ap (λ us. bit_xor n (index_bits us)) (sym e) ∙ h

  constant_on : (k all : Bool) → with_constant k us ≡ all → with_constant k (t ∷ ts) ≡ all
  constant_on k all h = ap (with_constant k) (sym e) ∙ h

bit_alone : (b : ℕ) → b < 16 → 1 * 2 ^ b % 65536 ≡ 2 ^ b
bit_alone b l = let p : 2 ^ b < 65536 = pow-lt l in omega arith

bit_on : (n b all : ℕ) (ts us : List Term) → us ≡ index_bit b ∷ ts → Fit us → bit_xor n (index_bits us) ≡ all → bit_xor (bit_xor n (1 * 2 ^ b % 65536)) (index_bits ts) ≡ all
bit_on n b all ts us e f h =
    let low = leb-false f.0 b (or_parts (nat_le f.0 b) (list_any (is_term_too_wide f.0) ts) (ap (list_any (is_term_too_wide f.0)) (sym e) ∙ f.2)).0 in
    ap (λ x. bit_xor (bit_xor n x) (index_bits ts)) (bit_alone b (let wide = f.1 in omega arith)) ∙ xor_assoc n (2 ^ b) (index_bits ts) ∙ names_on (index_bit b) ts us e n all h

turned_on : (k all : Bool) (ts : List Term) → with_constant k (constant true ∷ ts) ≡ all → with_constant (not k) ts ≡ all
turned_on k all ts h = go k (constant_of ts) ∙ h
  where
    go : (k v : Bool) → (if not k then not v else v) ≡ (if k then not (not v) else not v)
    go false v = refl
    go true false = refl
    go true true = refl

pub loop-term-preserved-in-IndexBit : goal.loop-term-preserved-in-IndexBit
loop-term-preserved-in-IndexBit c =
    let s = c.loop-term.invariant in
    let b = c.in-IndexBit.bit in
    let ts = c.next.new.self in
    let e = c.in-Some.ensures.steps ∙ ap (λ t. t ∷ ts) c.in-IndexBit.is in
    record {
      can_next = tt;
      is_finite = tt;
      fit = fit_on (index_bit b) ts _ e s.fit;
      names = bit_on c.loop-term.row.names b _ ts _ e s.fit s.names;
      constant = constant_on (index_bit b) ts _ e c.loop-term.row.constant _ s.constant;
    }

pub loop-term-preserved-in-Constant-true : goal.loop-term-preserved-in-Constant-true
loop-term-preserved-in-Constant-true c =
    let s = c.loop-term.invariant in
    let ts = c.next.new.self in
    let e = c.in-Some.ensures.steps ∙ ap (λ t. t ∷ ts) (c.in-Constant-true.is ∙ ap constant c.in-Constant-true.field-0-test) in
    record {
      can_next = tt;
      is_finite = tt;
      fit = fit_on (constant true) ts _ e s.fit;
      names = names_on (constant true) ts _ e c.loop-term.row.names _ s.names;
      constant = turned_on c.loop-term.row.constant _ ts (constant_on (constant true) ts _ e c.loop-term.row.constant _ s.constant);
    }

pub loop-term-preserved : goal.loop-term-preserved
loop-term-preserved c =
    let s = c.loop-term.invariant in
    let ts = c.next.new.self in
    let e = c.in-Some.ensures.steps ∙ ap (λ t. t ∷ ts) (c.in-Constant-false.is ∙ ap constant c.in-Constant-false.field-0-test) in
    record {
      can_next = tt;
      is_finite = tt;
      fit = fit_on (constant false) ts _ e s.fit;
      names = names_on (constant false) ts _ e c.loop-term.row.names _ s.names;
      constant = constant_on (constant false) ts _ e c.loop-term.row.constant _ s.constant;
    }
