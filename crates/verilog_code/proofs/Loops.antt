-- One more item of a loop over a list.
use Rattle.std.proofs.Common.{◌≡◌, ℕ, ◌+◌, ◌<◌, ◌≤◌, suc, List, [], ◌∷◌, ◌++◌, length, map, drop, get_or, sym, ap, ◌∙◌, append_assoc, append-nil, take, arith}
use Rattle.std.proofs.Math.ListN.{drop_of_length-le}
use Rattle.std.proofs.Math.Seq.{drop-cons, take-length}
use Rattle.std.proofs.Math.Numerals.{add-one}
use Rattle.verilog_code.specs.declared.code.Code.{Code}
use Rattle.verilog_code.specs.Places.{put, put_all, settled}

-- the item at a place, and what is behind it
pub next_of : {X : Type 0} (xs : List X) (i : ℕ) (d : X) → i < length xs → d ≡ get_or xs i d → drop i xs ≡ d ∷ drop (i + 1) xs
next_of xs i d lt is = drop-cons xs i d lt ∙ ap (λ x. x ∷ drop (suc i) xs) (sym is) ∙ ap (λ j. d ∷ drop j xs) (sym (add-one i))

pub grown : {X : Type 0} (all more : List X) (r : X) (rs : List X) → more ≡ all ++ r ∷ [] → all ++ r ∷ rs ≡ more ++ rs
grown all more r rs e = sym (ap (λ l. l ++ rs) e ∙ append_assoc all (r ∷ []) rs)

-- what the item gives stands behind what is there
pub one_more : {X Y : Type 0} (g : List X → List Y) (xs : List X) (i : ℕ) (d : X) (r all more ys : List Y) → i < length xs → d ≡ get_or xs i d → g (d ∷ drop (i + 1) xs) ≡ r ++ g (drop (i + 1) xs) → more ≡ all ++ r → all ++ g (drop i xs) ≡ ys → more ++ g (drop (i + 1) xs) ≡ ys
one_more g xs i d r all more ys lt is step e so =
    ap (λ l. l ++ g (drop (i + 1) xs)) e
    ∙ append_assoc all r (g (drop (i + 1) xs))
    ∙ ap (λ l. all ++ l) (sym step)
    ∙ ap (λ l. all ++ g l) (sym (next_of xs i d lt is))
    ∙ so

-- the value of one more net
pub one_settled : {X A : Type 0} (meaning : List A → Code → A) (v : X → Code) (xs : List X) (first i : ℕ) (d : X) (x : A) (vs more ys : List A) → i < length xs → d ≡ get_or xs i d → more ≡ put vs (first + i) x → x ≡ meaning vs (v d) → settled meaning (first + i) (map v (drop i xs)) vs ≡ ys → settled meaning (first + (i + 1)) (map v (drop (i + 1) xs)) more ≡ ys
one_settled meaning v xs first i d x vs more ys lt is e ex so =
    ap (settled meaning (first + (i + 1)) (map v (drop (i + 1) xs))) (e ∙ ap (put vs (first + i)) ex)
    ∙ ap (λ k. settled meaning k (map v (drop (i + 1) xs)) (put vs (first + i) (meaning vs (v d)))) (let k : first + (i + 1) ≡ first + i + 1 = omega arith in k)
    ∙ ap (λ l. settled meaning (first + i) (map v l) vs) (sym (next_of xs i d lt is))
    ∙ so

-- one more value that is put
pub one_put : {A : Type 0} (xs : List A) (first i : ℕ) (d : A) (vs more ys : List A) → i < length xs → d ≡ get_or xs i d → more ≡ put vs (first + i) d → put_all (first + i) (drop i xs) vs ≡ ys → put_all (first + (i + 1)) (drop (i + 1) xs) more ≡ ys
one_put xs first i d vs more ys lt is e so =
    ap (put_all (first + (i + 1)) (drop (i + 1) xs)) e
    ∙ ap (λ k. put_all k (drop (i + 1) xs) (put vs (first + i) d)) (let k : first + (i + 1) ≡ first + i + 1 = omega arith in k)
    ∙ ap (λ l. put_all (first + i) l vs) (sym (next_of xs i d lt is))
    ∙ so

-- all values are put
pub all_put : {A : Type 0} (xs : List A) (first i : ℕ) (vs ys : List A) → length xs ≤ i → put_all (first + i) (drop i xs) vs ≡ ys → vs ≡ ys
all_put xs first i vs ys all so = ap (λ l. put_all (first + i) l vs) (sym (drop_of_length-le xs all)) ∙ so

-- as many values over all that there are
whole : {A : Type 0} (n : ℕ) (new old : List A) → n ≡ length old → length new ≡ length old → take n (new ++ drop (length new) old) ≡ new
whole n new old all same =
    ap (λ l. take n (new ++ l)) (drop_of_length-le old (omega arith)) ∙ ap (take n) (append-nil new) ∙ ap (λ k. take k new) (all ∙ sym same) ∙ take-length new

-- one more block that is run
pub one_run : {X A : Type 0} (xs : List X) (g : List X → List A → List A) (one : X → List A → List A) (i n : ℕ) (d : X) (old new ys : List A) → i < length xs → d ≡ get_or xs i d
    → ((more : List X) (l : List A) → g (d ∷ more) l ≡ g more (one d l)) → n ≡ length old → length new ≡ length old → new ≡ one d old → g (drop i xs) old ≡ ys
    → g (drop (i + 1) xs) (take n (new ++ drop (length new) old)) ≡ ys
one_run xs g one i n d old new ys lt at step all same is so =
    ap (g (drop (i + 1) xs)) (whole n new old all same ∙ is) ∙ sym (step (drop (i + 1) xs) old) ∙ ap (λ l. g l old) (sym (next_of xs i d lt at)) ∙ so
