-- Loops that look for one of a list with some property.
use Rattle.std.proofs.Common.{◌≡◌, ℕ, ◌+◌, ◌<◌, ◌≤◌, Bool, true, false, ◌||◌, List, [], ◌∷◌, length, get_or, drop, sym, ap, ◌∙◌}
use Rattle.std.proofs.lemmas.List.{drop_more, drop_all}

module _ {A : Type 0} (test : A → Bool) (any : List A → Bool) (each : (x : A) (xs : List A) → any (x ∷ xs) ≡ (test x || any xs)) where
  -- what is left at a place is the item there, and the rest
  opened : (xs : List A) (i : ℕ) (x : A) (b : Bool) → i < length xs → x ≡ get_or xs i x → test x ≡ b → any (drop i xs) ≡ any xs → (b || any (drop (i + 1) xs)) ≡ any xs
  opened xs i x b below is tells inv =
      ap (λ t. t || any (drop (i + 1) xs)) (sym tells ∙ ap test is) ∙ sym (ap any (drop_more xs i x below) ∙ each (get_or xs i x) (drop (i + 1) xs)) ∙ inv

  pub any_found : (xs : List A) (i : ℕ) (x : A) → i < length xs → x ≡ get_or xs i x → test x ≡ true → any (drop i xs) ≡ any xs → true ≡ any xs
  any_found xs i x = opened xs i x true

  pub any_past : (xs : List A) (i : ℕ) (x : A) → i < length xs → x ≡ get_or xs i x → test x ≡ false → any (drop i xs) ≡ any xs → any (drop (i + 1) xs) ≡ any xs
  any_past xs i x = opened xs i x false

  pub any_none : (xs : List A) (i : ℕ) → length xs ≤ i → false ≡ any [] → any (drop i xs) ≡ any xs → false ≡ any xs
  any_none xs i ended none inv = none ∙ ap any (sym (drop_all i xs ended)) ∙ inv
