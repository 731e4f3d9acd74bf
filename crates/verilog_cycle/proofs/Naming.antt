-- What is set to names, and what stands at the places of registers then.
use Rattle.std.proofs.Common.{◌≡◌, ℕ, suc, ◌+◌, Bool, true, false, cond, ◌||◌, List, [], ◌∷◌, ◌++◌, length, map, get_or, slice_set, refl, sym, ap, ◌∙◌, subst, arith}
use Rattle.std.specs.List.{filter}
use Rattle.std.specs.Str.{bytes_eq}
use Rattle.std.proofs.lemmas.List.{length-map}
use Rattle.bist_text.specs.ReservedWords.{is_among}
use Rattle.verilog_tree.specs.Names.{Declaration, number}
use Rattle.verilog_tree.specs.Meaning.{last_set}
use Rattle.verilog_code.specs.Places.{put}
use Rattle.verilog_code.proofs.Putting.{put_within, put_beyond}
use Rattle.verilog_cycle.specs.Nets.{held}
use Rattle.verilog_cycle.specs.Does.{written}
use Rattle.verilog_cycle.specs.Design.{names}
use Rattle.verilog_cycle.proofs.Places.{same_name, itself, number_left, number_right}
use Rattle.verilog_cycle.proofs.Declarations.{Apart, none_among}

-- the pairs of two lists, set in order
pub written_append : {A : Type 0} (ns : List (List ℕ)) (ps qs : List (List ℕ × A)) (old : List A) → written ns (ps ++ qs) old ≡ written ns qs (written ns ps old)
written_append ns [] qs old = refl
written_append ns (p ∷ ps) qs old = written_append ns ps qs (put old (number ns p.0) p.1)

-- names of which none is among those behind it
abbrev pub Distinct : List (List ℕ) → Type 0
Distinct [] = Unit {0}
Distinct (n ∷ ns) = (is_among n ns ≡ false) × Distinct ns

pub distinct_of : (test : Declaration → Bool) (ds : List Declaration) → Apart ds → Distinct (names (filter test ds))
distinct_of test [] a = tt
distinct_of test (d ∷ ds) a = by_test (test d) (distinct_of test ds a.1)
  where
    by_test : (t : Bool) → Distinct (names (filter test ds)) → Distinct (names (cond t (d ∷ filter test ds) (filter test ds)))
    by_test true later = (none_among test ds d.name a.0, later)
    by_test false later = later

pub flipped : (n m : List ℕ) → bytes_eq n m ≡ false → bytes_eq m n ≡ false
flipped n m h = by_test (bytes_eq m n) refl
  where
    by_test : (t : Bool) → bytes_eq m n ≡ t → t ≡ false
    by_test true e = let z : false ≡ true = sym h ∙ subst (λ (k : List ℕ). bytes_eq n k ≡ true) (sym (same_name m n e)) (itself n) in cc
    by_test false e = refl

pub or_false : (a b : Bool) → (a || b) ≡ false → (a ≡ false) × (b ≡ false)
or_false true b h = cc
or_false false b h = (refl, h)

-- functions that agree on these names
pub map_on : {A : Type 0} (f g : List ℕ → A) (ns : List (List ℕ)) → ((n : List ℕ) → is_among n ns ≡ true → f n ≡ g n) → map f ns ≡ map g ns
map_on f g [] h = refl
map_on f g (n ∷ ns) h =
    ap (λ v. v ∷ map f ns) (h n (ap (λ (t : Bool). t || is_among n ns) (itself n)))
    ∙ ap (λ l. g n ∷ l) (map_on f g ns (λ m k. h m (or_right (bytes_eq m n) (is_among m ns) k)))
  where
    or_right : (a b : Bool) → b ≡ true → (a || b) ≡ true
    or_right true b k = refl
    or_right false b k = k

-- a name that isn't among these, set
abbrev set_name : {A : Type 0} → List ℕ → A → (List ℕ → A) → List ℕ → A
set_name m v f n = cond (bytes_eq n m) v (f n)

set_none : {A : Type 0} (m : List ℕ) (v : A) (f : List ℕ → A) (ns : List (List ℕ)) → is_among m ns ≡ false → map (set_name m v f) ns ≡ map f ns
set_none m v f [] h = refl
set_none m v f (n ∷ ns) h =
    let p = or_false (bytes_eq m n) (is_among m ns) h in
    ap (λ (t : Bool). cond t v (f n) ∷ map (set_name m v f) ns) (flipped m n p.0) ∙ ap (λ l. f n ∷ l) (set_none m v f ns p.1)

set_one : {A : Type 0} (m : List ℕ) (v : A) (f : List ℕ → A) (ns : List (List ℕ)) → Distinct ns → is_among m ns ≡ true → slice_set (map f ns) (number ns m) v ≡ map (set_name m v f) ns
set_one m v f [] d h = cc
set_one m v f (n ∷ ns) d h = by_test (bytes_eq m n) refl h (set_one m v f ns d.1)
  where
    next_place : (k : ℕ) → slice_set (f n ∷ map f ns) (1 + k) v ≡ f n ∷ slice_set (map f ns) k v
    next_place k = ap (λ (j : ℕ). slice_set (f n ∷ map f ns) j v) (let e : 1 + k ≡ suc k = omega arith in e)

    by_test : (t : Bool) → bytes_eq m n ≡ t → (t || is_among m ns) ≡ true → (is_among m ns ≡ true → slice_set (map f ns) (number ns m) v ≡ map (set_name m v f) ns) → slice_set (f n ∷ map f ns) (cond t 0 (1 + number ns m)) v ≡ cond (bytes_eq n m) v (f n) ∷ map (set_name m v f) ns
    by_test true e h later =
        let same = same_name m n e in
        ap (λ l. v ∷ l) (sym (set_none m v f ns (subst (λ (k : List ℕ). is_among k ns ≡ false) (sym same) d.0)))
        ∙ sym (ap (λ (t : Bool). cond t v (f n) ∷ map (set_name m v f) ns) (subst (λ (k : List ℕ). bytes_eq k m ≡ true) same (itself m)))
    by_test false e h later =
        next_place (number ns m) ∙ ap (λ l. f n ∷ l) (later h)
        ∙ sym (ap (λ (t : Bool). cond t v (f n) ∷ map (set_name m v f) ns) (flipped m n e))

put_named : {A : Type 0} (m : List ℕ) (v : A) (f : List ℕ → A) (rs more : List (List ℕ)) → Distinct rs → put (map f rs) (number (rs ++ more) m) v ≡ map (set_name m v f) rs
put_named m v f rs more d = by_test (is_among m rs) refl
  where
    by_test : (t : Bool) → is_among m rs ≡ t → put (map f rs) (number (rs ++ more) m) v ≡ map (set_name m v f) rs
    by_test true e =
        let left = number_left rs more m e in
        let low = left.1 in
        let l = length-map rs f in
        ap (λ (k : ℕ). put (map f rs) k v) left.0 ∙ put_within (map f rs) (number rs m) v (omega (arith, low, l)) ∙ set_one m v f rs d e
    by_test false e =
        let right = number_right rs more m e in
        let l = length-map rs f in
        put_beyond (map f rs) (number (rs ++ more) m) v (omega (arith, right, l)) ∙ sym (set_none m v f rs e)

-- the last pair of each name
pub write_all : {A : Type 0} (rs more : List (List ℕ)) → Distinct rs → (ps : List (List ℕ × A)) (f : List ℕ → A) → written (rs ++ more) ps (map f rs) ≡ map (λ n. last_set n ps (f n)) rs
write_all rs more d [] f = refl
write_all rs more d (p ∷ ps) f = ap (written (rs ++ more) ps) (put_named p.0 p.1 f rs more d) ∙ write_all rs more d ps (set_name p.0 p.1 f)

-- values by their names
pub named_values : {A : Type 0} (z : A) (rs : List (List ℕ)) (vs : List A) → Distinct rs → length vs ≡ length rs → map (held z rs vs) rs ≡ vs
named_values z [] [] d l = refl
named_values z [] (v ∷ vs) d l = absurd (omega arith)
named_values z (r ∷ rs) [] d l = absurd (omega arith)
named_values z (r ∷ rs) (v ∷ vs) d l =
    ap (λ (t : Bool). get_or (v ∷ vs) (cond t 0 (1 + number rs r)) z ∷ map (held z (r ∷ rs) (v ∷ vs)) rs) (itself r)
    ∙ ap (λ k. v ∷ k) (map_on (held z (r ∷ rs) (v ∷ vs)) (held z rs vs) rs (λ n a. later n (bytes_eq n r) refl a) ∙ named_values z rs vs d.1 (omega (arith, l)))
  where
    next_place : (k : ℕ) → get_or (v ∷ vs) (1 + k) z ≡ get_or vs k z
    next_place k = ap (λ (j : ℕ). get_or (v ∷ vs) j z) (let e : 1 + k ≡ suc k = omega arith in e)

    later : (n : List ℕ) (t : Bool) → bytes_eq n r ≡ t → is_among n rs ≡ true → get_or (v ∷ vs) (cond t 0 (1 + number rs n)) z ≡ get_or vs (number rs n) z
    later n true e a = let z : false ≡ true = sym (subst (λ (k : List ℕ). is_among k rs ≡ false) (sym (same_name n r e)) d.0) ∙ a in cc
    later n false e a = next_place (number rs n)

pub of_names : {A : Type 0} (f : List ℕ → A) (ds : List Declaration) → map f (names ds) ≡ map (λ d. f d.name) ds
of_names f [] = refl
of_names f (d ∷ ds) = ap (λ l. f d.name ∷ l) (of_names f ds)
