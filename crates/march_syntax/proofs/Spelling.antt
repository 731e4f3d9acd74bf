-- The spellings of orders and pauses as words that a reader looks for.
use Rattle.std.proofs.Common.{◌≡◌, ◌↔◌, ℕ, true, List, ◌∷◌, [], ◌++◌, refl, inl, inr, subst}
use Rattle.bist_text.specs.declared.keywords.Letters.{Letters}
use Rattle.bist_text.specs.Grammar.{one_of, are_bytes}
use Rattle.bist_text.specs.inner.Keywords.{stands, are_apart}
use Rattle.bist_text.specs.Keywords.{letters_of}
use Rattle.bist_text.proofs.Bytes.{are_bytes-append}
use Rattle.bist_text.proofs.KeywordLaws.{IsOf, stands_all, spell_alive}
use Rattle.march_core.specs.declared.operation.Order.TheVariants.{Up, Down, Any}
use Rattle.march_core.specs.declared.operation.Op.TheVariants.{W0}
use Rattle.march_core.specs.March.{MarchElement, pause, sweep}
use Rattle.march_syntax.specs.declared.place.Mark.{Mark}
use Rattle.march_syntax.specs.declared.place.Mark.TheVariants.{OfOrder, OfPause}
use Rattle.march_syntax.specs.MarchText.{element, body}
use Rattle.march_syntax.specs.inner.Places.{texts, all_marks, marks, mark_of, behind}

pub fine : are_apart marks ≡ true
fine = refl

is_mark : (m : Mark) → IsOf all_marks m
is_mark (OfOrder Up) = inl refl
is_mark (OfOrder Down) = inr (inl refl)
is_mark (OfOrder Any) = inr (inr (inl refl))
is_mark OfPause = inr (inr (inr (inl refl)))

spelled : (m : Mark) (K : List ℕ → Type 0) (b : List ℕ) → one_of (texts m) K b ↔ stands marks m K b
spelled m K b = let all = stands_all texts all_marks m K b in (λ h. all.1 (is_mark m, h), λ h. (all.0 h).1)

-- an element begins with its mark
pub element_is : (e : MarchElement) (K : List ℕ → Type 0) (b : List ℕ) → element e K b ↔ stands marks (mark_of e) (behind e K) b
element_is pause K b = spelled OfPause K b
element_is (sweep o os) K b = spelled (OfOrder o) (body os K) b

-- ---- letters go on to an element

abbrev an_element : Mark → MarchElement
an_element (OfOrder o) = sweep o (W0 ∷ [])
an_element OfPause = pause

-- `(w0)` before more
abbrev written : Mark → List ℕ → List ℕ
written (OfOrder o) b = 40 ∷ 119 ∷ 48 ∷ 41 ∷ b
written OfPause b = b

pub part_alive : (q : Letters) (K : List ℕ → Type 0) (b : List ℕ) → are_bytes b ≡ true → K b
    → (x : List ℕ) × (e : MarchElement) × (are_bytes x ≡ true) × stands marks (mark_of e) (behind e K) (letters_of marks q ++ x)
part_alive q K b w h =
    let a = spell_alive marks fine (record { text = 117 ∷ 112 ∷ []; value = OfOrder Up }) refl (λ m. behind (an_element m) K) (λ m. written m b) on q in
    (a.1 ++ written a.0 b, an_element a.0, are_bytes-append a.1 (written a.0 b) a.2 (bytes a.0), subst (λ m. stands marks m (behind (an_element a.0) K) (letters_of marks q ++ (a.1 ++ written a.0 b))) (mark_is a.0) a.3)
  where
    on : (m : Mark) → behind (an_element m) K (written m b)
    on (OfOrder o) = inl (inl (inl h))
    on OfPause = h

    bytes : (m : Mark) → are_bytes (written m b) ≡ true
    bytes (OfOrder o) = w
    bytes OfPause = w

    mark_is : (m : Mark) → m ≡ mark_of (an_element m)
    mark_is (OfOrder o) = refl
    mark_is OfPause = refl
