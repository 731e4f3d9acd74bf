-- Loops over a list that gather what each item gives.
use Rattle.std.proofs.Common.{◌≡◌, ℕ, ◌+◌, ◌-◌, ◌<◌, ◌≤◌, List, [], ◌++◌, length, drop, sym, ap, ◌∙◌, append-nil, arith}
use Rattle.std.proofs.lemmas.List.{drop_all}

-- before the first item
pub none_yet : {X Y : Type 0} (g : List X → List Y) (xs : List X) (all : List Y) → all ≡ [] → all ++ g xs ≡ g xs
none_yet g xs all e = ap (λ l. l ++ g xs) e

-- behind the last item
pub all_gathered : {X Y : Type 0} (g : List X → List Y) (xs : List X) (i : ℕ) (all ys : List Y) → g [] ≡ [] → length xs ≤ i → all ++ g (drop i xs) ≡ ys → all ≡ ys
all_gathered g xs i all ys nothing le so = sym (append-nil all) ∙ ap (λ l. all ++ l) (sym (ap g (drop_all i xs le) ∙ nothing)) ∙ so

-- fewer items are left
pub fewer : (n i : ℕ) → i < n → n - (i + 1) < n - i
fewer n i lt = omega arith
