-- Lists that grow at their end, as the builders write them.
use Rattle.std.proofs.Common.{◌≡◌, ℕ, suc, ◌+◌, ◌≤◌, Fits, w8, List, [], ◌∷◌, ◌++◌, map, ap, ◌∙◌, arith, append_assoc, Result, Ok, Err, OnOk}
use Rattle.std.proofs.lemmas.List.{map-append}
use Rattle.verilog_tree.specs.Plain.{Expression, Net}
use Rattle.rtl_layout.specs.Build.{counter}
use Rattle.rtl_layout.specs.Layout.{aged}

pub join : {A : Type 0} (xs ys zs as' bs : List A) → ys ≡ xs ++ as' → zs ≡ ys ++ bs → zs ≡ xs ++ (as' ++ bs)
join xs ys zs as' bs p q = q ∙ ap (λ l. l ++ bs) p ∙ append_assoc xs as' bs

-- the number behind that of an age
pub next_age : (i : ℕ) → i ≤ 3 → (i + 1 ≤ 4) × (i ≤ 4) × Fits w8 (i + 1)
next_age i h = (omega arith, omega arith, omega arith)

-- several more, and then the rest
pub grown : {A U E : Type 0} (r : Result U E) (xs ys zs as' bs : List A) → ys ≡ xs ++ as' → OnOk r (zs ≡ ys ++ bs) → OnOk r (zs ≡ xs ++ (as' ++ bs))
grown (Ok u) xs ys zs as' bs p q = join xs ys zs as' bs p q
grown (Err e) xs ys zs as' bs p q = q

-- what is pushed is told as its plain form
pub pushed : {A B : Type 0} (f : A → B) (xs ys : List A) (x : A) (z : B) → ys ≡ xs ++ x ∷ [] → f x ≡ z → map f ys ≡ map f xs ++ z ∷ []
pushed f xs ys x z grown is = ap (map f) grown ∙ map-append f xs (x ∷ []) ∙ ap (λ w. map f xs ++ w ∷ []) is

pub aged_next : (t n : List ℕ) (i : ℕ) → n ≡ aged t (i + 1) → n ≡ aged t (suc i)
aged_next t n i p = let up : i + 1 ≡ suc i = omega arith in p ∙ ap (aged t) up

pub from_nothing : {A : Type 0} (none xs as' : List A) → none ≡ [] → xs ≡ none ++ as' → xs ≡ as'
from_nothing none xs as' p q = q ∙ ap (λ l. l ++ as') p

-- a counter whose parts are told otherwise
pub counter_told : (r r' l l' : List ℕ) (w : ℕ) (cs cs' : List Expression) → r ≡ r' → cs ≡ cs' → l ≡ l' → counter r w cs l ≡ counter r' w cs' l'
counter_told r r' l l' w cs cs' p q t = ap (λ n. counter n w cs l) p ∙ ap (λ ks. counter r' w ks l) q ∙ ap (λ n. counter r' w cs' n) t

pub nets : (n m : List ℕ) (cs cs' : List Expression) → n ≡ m → cs ≡ cs' → Net n ∷ cs ≡ Net m ∷ cs'
nets n m cs cs' p q = ap (λ k. Net k ∷ cs) p ∙ ap (λ ks. Net m ∷ ks) q

-- the items in their nesting
pub regrouped : {A : Type 0} (d n s e rest : List A) → (d ++ (n ++ (s ++ e))) ++ rest ≡ d ++ (n ++ (s ++ (e ++ rest)))
regrouped d n s e rest =
    append_assoc d (n ++ (s ++ e)) rest
    ∙ ap (λ l. d ++ l) (append_assoc n (s ++ e) rest)
    ∙ ap (λ l. d ++ (n ++ l)) (append_assoc s e rest)
