-- Rows of names and of what was built for them.
use Rattle.std.proofs.Common.{◌≡◌, ℕ, ◌-◌, ◌<◌, ◌≤◌, IsTrue, List, [], ◌∷◌, ◌++◌, Result, Ok, Err, IfOk, sym, ap, ◌∙◌, subst, refl, map, length, get_or, take, drop, OnOk, arith, append_assoc, append-nil}
use Rattle.std.specs.Borrow.{Bor}
use Rattle.std.proofs.lemmas.Bool.Decides.{nat_tests}
use Rattle.std.proofs.lemmas.List.{take_all}
use Rattle.arrayvec.specs.declared.array_string.ArrayString.{ArrayString}
use Rattle.verilog_tree.specs.declared.tree.Expr.{Expr}
use Rattle.verilog_tree.specs.Plain.{Expression, plain}
use Rattle.rtl_layout.specs.inner.Layout.{are_names}
use Rattle.rtl_layout.specs.inner.Rows.{AreRows}

-- one row more, which was built
pub one_written : {A E : Type 0} (f : List ℕ → Expression → A) (rows : List (ArrayString 64 × Result Expr E)) (n : ArrayString 64) (r : Result Expr E) (x : Expr) (old mid new : List A)
    → ((ws : List A) → AreRows f rows ws → mid ≡ old ++ ws) → r ≡ Ok x → new ≡ mid ++ f n.bytes (plain x) ∷ []
    → (ws : List A) → AreRows f (rows ++ (n, r) ∷ []) ws → new ≡ old ++ ws
one_written f [] n r x old mid new all built grown [] are = absurd are
one_written f [] n r x old mid new all built grown (w ∷ []) are =
    let is : f n.bytes (plain x) ≡ w = subst (λ b. IfOk b (λ y. f n.bytes (plain y) ≡ w)) built are.0 in
    grown ∙ ap (λ l. l ++ f n.bytes (plain x) ∷ []) (all [] tt) ∙ append_assoc old [] (f n.bytes (plain x) ∷ []) ∙ ap (λ z. old ++ z ∷ []) is
one_written f [] n r x old mid new all built grown (w ∷ v ∷ ws) are = absurd are.1
one_written f (row ∷ rows) n r x old mid new all built grown [] are = absurd are
one_written f (row ∷ rows) n r x old mid new all built grown (w ∷ ws) are =
    one_written f rows n r x (old ++ w ∷ []) mid new (λ vs h. all (w ∷ vs) (are.0, h) ∙ sym (append_assoc old (w ∷ []) vs)) built grown ws are.1
    ∙ append_assoc old (w ∷ []) ws

-- a row whose name and value are told otherwise
pub row_is : {A E : Type 0} (f : List ℕ → Expression → A) (n m : List ℕ) (r : Result Expr E) (v : Expression) → n ≡ m → IfOk r (λ x. plain x ≡ v) → IfOk r (λ x. f n (plain x) ≡ f m v)
row_is f n m (Ok x) v p q = ap (λ k. f k (plain x)) p ∙ ap (f m) q
row_is f n m (Err e) v p q = q

pub nothing_left : {A : Type 0} (l : List A) → length l ≡ 0 → l ≡ []
nothing_left [] h = refl
nothing_left (x ∷ xs) h = absurd (omega arith)

-- ---- rows of a text and a width

pub first_fits : (rows : List (Bor (List ℕ) × ℕ)) (d : Bor (List ℕ) × ℕ) → 1 ≤ length rows → IsTrue (are_names rows) → length (get_or rows 0 d).0.now ≤ 64
first_fits [] d h q = absurd (omega arith)
first_fits (r ∷ rows) d h q = grind (arith, nat_tests)

pub none_more : {B : Type 0} (f : List ℕ → ℕ → B) (rows : List (Bor (List ℕ) × ℕ)) (old : List B) → length rows < 1 → old ≡ old ++ map (λ r. f r.0.now r.1) rows
none_more f [] old h = sym (append-nil old)
none_more f (r ∷ rows) old h = absurd (omega arith)

pub first_more : {B U E : Type 0} (f : List ℕ → ℕ → B) (r : Result U E) (rows : List (Bor (List ℕ) × ℕ)) (d : Bor (List ℕ) × ℕ) (old mid new : List B) (n : List ℕ) → 1 ≤ length rows
    → n ≡ (get_or rows 0 d).0.now → mid ≡ old ++ f n (get_or rows 0 d).1 ∷ [] → OnOk r (new ≡ mid ++ map (λ r. f r.0.now r.1) (take (length rows - 1) (drop 1 rows)))
    → OnOk r (new ≡ old ++ map (λ r. f r.0.now r.1) rows)
first_more f r [] d old mid new n h is one rest = absurd (omega arith)
first_more f (Ok u) (x ∷ rows) d old mid new n h is one rest =
    rest
    ∙ ap (λ l. mid ++ map (λ (r : Bor (List ℕ) × ℕ). f r.0.now r.1) l) (take_all (length (x ∷ rows) - 1) rows (omega arith))
    ∙ ap (λ l. l ++ map (λ (r : Bor (List ℕ) × ℕ). f r.0.now r.1) rows) (one ∙ ap (λ m. old ++ f m x.1 ∷ []) is)
    ∙ append_assoc old (f x.0.now x.1 ∷ []) (map (λ (r : Bor (List ℕ) × ℕ). f r.0.now r.1) rows)
first_more f (Err e) (x ∷ rows) d old mid new n h is one rest = rest
