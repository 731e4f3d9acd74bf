-- A list that is made item by item: where what is made so far goes on to all of it, so does it with one more, and at the end it is all.
use Rattle.std.proofs.Common.{◌≡◌, ℕ, ◌+◌, ◌<◌, ◌≤◌, List, [], ◌∷◌, ◌++◌, length, drop, get_or, sym, subst, append-nil}
use Rattle.std.proofs.lemmas.List.{drop_all}
use Rattle.verilog_code.proofs.Loops.{next_of, grown}

module _ {T R : Type 0} (Made : List T → List R → Type 0) (items : List T) (i : ℕ) (all : List R)
    (so : (rs : List R) → Made (drop i items) rs → Made items (all ++ rs)) where
  pub next : (t : T) (r : R) (more rs : List R) → i < length items → t ≡ get_or items i t → more ≡ all ++ r ∷ []
      → Made (t ∷ drop (i + 1) items) (r ∷ rs) → Made items (more ++ rs)
  next t r more rs lt is e made =
      subst (λ (l : List R). Made items l) (grown all more r rs e) (so (r ∷ rs) (subst (λ (l : List T). Made l (r ∷ rs)) (sym (next_of items i t lt is)) made))

  pub last : length items ≤ i → Made [] [] → Made items all
  last le none =
      subst (λ (l : List R). Made items l) (append-nil all) (so [] (subst (λ (l : List T). Made l []) (sym (drop_all i items le)) none))
