-- Lists to which more is appended, part by part.
use Rattle.std.proofs.Common.{◌≡◌, ℕ, ◌+◌, ◌<◌, ◌≤◌, suc, List, [], ◌∷◌, ◌++◌, length, drop, get_or, sym, ap, ◌∙◌, append_assoc, add-one, drop-cons}
use Rattle.std.proofs.lemmas.List.{append-nil, drop_all}

pub two_more : {A : Type 0} (l m n a b : List A) → m ≡ l ++ a → n ≡ m ++ b → n ≡ l ++ (a ++ b)
two_more l m n a b p q = q ∙ ap (λ k. k ++ b) p ∙ append_assoc l a b

pub three_more : {A : Type 0} (l m n o a b c : List A) → m ≡ l ++ a → n ≡ m ++ b → o ≡ n ++ c → o ≡ l ++ (a ++ (b ++ c))
three_more l m n o a b c p q r = two_more l m o a (b ++ c) p (two_more m n o b c q r)

-- a loop that appends what f gives of each item, one item on
pub item_more : {A B : Type 0} (f : A → List B) (g : List A → List B) (m n whole : List B) (xs : List A) (i : ℕ) (x : A) → ((y : A) (ys : List A) → g (y ∷ ys) ≡ f y ++ g ys) →
    i < length xs → x ≡ get_or xs i x → n ≡ m ++ f x → m ++ g (drop i xs) ≡ whole → n ++ g (drop (i + 1) xs) ≡ whole
item_more f g m n whole xs i x step below at more so_far =
    ap (λ j. n ++ g (drop j xs)) (add-one i)
    ∙ ap (λ k. k ++ g (drop (suc i) xs)) more
    ∙ append_assoc m (f x) (g (drop (suc i) xs))
    ∙ ap (λ k. m ++ k) (sym (step x (drop (suc i) xs)))
    ∙ ap (λ y. m ++ g (y ∷ drop (suc i) xs)) at
    ∙ ap (λ k. m ++ g k) (sym (drop-cons xs i x below))
    ∙ so_far

-- the same loop past its last item
pub items_done : {A B : Type 0} (g : List A → List B) (m whole : List B) (xs : List A) (i : ℕ) → g [] ≡ [] → length xs ≤ i → m ++ g (drop i xs) ≡ whole → m ≡ whole
items_done g m whole xs i none past so_far =
    sym (append-nil m)
    ∙ ap (λ k. m ++ k) (sym none)
    ∙ ap (λ k. m ++ g k) (sym (drop_all i xs past))
    ∙ so_far
