-- A report has one text.
use Rattle.std.proofs.Common.{◌≡◌, ◌++◌, inl, inr, ℕ, Bool, true, false, List, [], ◌∷◌, Option, Some, None, length, codes, decimal, refl, sym, ◌∙◌, ap, ap₂, subst, arith}
use Rattle.std.specs.Option.{IsSome}
use Rattle.fault_core.specs.declared.primitive.Sense.{Sense}
use Rattle.fault_core.specs.declared.cells.Places.{Places}
use Rattle.fault_core.specs.Primitive.{Primitive}
use Rattle.march_core.specs.March.{MarchElement}
use Rattle.memory_desc.specs.Descriptions.{Description}
use Rattle.pair_tracker.specs.declared.placement.Placement.{Placement}
use Rattle.pair_tracker.specs.declared.placement.Placement.TheVariants.{Alone, Below, Above}
use Rattle.pair_tracker.specs.Placements.{places_in, FitsPlacement}
use Rattle.escape_array.specs.declared.escape.EscapeArray.{EscapeArray}
use Rattle.escape_array.specs.Escapes.{placement_number, content_number, IsNoGreater, IsLeastEscape}
use Rattle.escape_array.proofs.LeastArray.{same_content}
use Rattle.dynamic_core.specs.declared.item.Item.{Item}
use Rattle.dynamic_core.specs.declared.item.Item.TheVariants.{Plain, Dyn}
use Rattle.dynamic_core.specs.Primitive.{DynamicSense, DynamicPrimitive}
use Rattle.dynamic_core.specs.Detecting.{FitsDynAgg}
use Rattle.dynamic_prover.specs.declared.escape.DynEscape.{DynEscape}
use Rattle.dynamic_prover.specs.Escapes.{DynArray, PassesDyn, address_number, digit_of, digits_of, order_of_array, IsInOrder, array_of, LeastDyn}
use Rattle.report.specs.declared.class_lines.ItemClass.{ItemClass}
use Rattle.report_lines.specs.Lines.{places_text, passing_text, march_line, memory_line, total_line}
use Rattle.report_lines.proofs.Listed.{counts_one, line_one, lines_one}
use Rattle.report.specs.Items.{DetectsItem}
use Rattle.report.specs.Report.{item_text, escape_text, dyn_escape_text, class_line, class_size, class_order, DetectsOf, IsEscapeText, IsLine, IsClassLine, IsMixedReport}

-- ---- the least array of two cells

-- neither of two is greater
both_least : (e f : EscapeArray) → IsNoGreater e f → IsNoGreater f e
    → (placement_number e.agg ≡ placement_number f.agg) × (content_number e.content ≡ content_number f.content) × (e.directions ≡ f.directions)
both_least e f (inl h) (inl i) = absurd (omega (arith, h, i))
both_least e f (inl h) (inr (i, k)) = absurd (omega (arith, h, i))
both_least e f (inr (h, k)) (inl i) = absurd (omega (arith, h, i))
both_least e f (inr (h, inl k)) (inr (i, inl l)) = absurd (omega (arith, k, l))
both_least e f (inr (h, inl k)) (inr (i, inr (l, m))) = absurd (omega (arith, k, l))
both_least e f (inr (h, inr (k, l))) (inr (i, inl m)) = absurd (omega (arith, k, m))
both_least e f (inr (h, inr (k, l))) (inr (i, inr (m, n))) = (h, k, omega (arith, l, n))

no_some : (o : Option Sense) → o ≡ None → IsSome o → ⊥
no_some None none some = cc
no_some (Some s) none some = cc

none_or_some : (p q : Primitive) → p ≡ q → p.agg ≡ None → IsSome q.agg → ⊥
none_or_some p q same none some = no_some q.agg (ap (λ (x : Primitive). x.agg) (sym same) ∙ none) some

same_places : (p q : Primitive) (one other : Placement) → p ≡ q → FitsPlacement p one → FitsPlacement q other
    → (let a : Places = places_in one in let b : Places = places_in other in placement_number a.agg ≡ placement_number b.agg) → places_in one ≡ places_in other
same_places p q Alone Alone same f g h = refl
same_places p q Alone Below same f g h = absurd (none_or_some p q same f g)
same_places p q Alone Above same f g h = absurd (none_or_some p q same f g)
same_places p q Below Alone same f g h = absurd (none_or_some q p (sym same) g f)
same_places p q Below Below same f g h = refl
same_places p q Below Above same f g h = let no : 0 ≡ 1 = h in absurd (omega (arith, no))
same_places p q Above Alone same f g h = absurd (none_or_some q p (sym same) g f)
same_places p q Above Below same f g h = let no : 1 ≡ 0 = h in absurd (omega (arith, no))
same_places p q Above Above same f g h = refl

static_one : (march : List MarchElement) (size : ℕ) (e f : EscapeArray) → e.prim ≡ f.prim → IsLeastEscape march e → IsLeastEscape march f
    → escape_text size e ≡ escape_text size f
static_one march size e f same x y =
    let both = both_least e f (x.least f (sym same) y.escape) (y.least e same x.escape) in
    let a = x.escape.array in
    let b = y.escape.array in
    let number = ap (λ (at : Places). placement_number at.agg) (sym a.places) ∙ both.0 ∙ ap (λ (at : Places). placement_number at.agg) b.places in
    let places = a.places ∙ same_places e.prim f.prim a.placement b.placement same a.fits b.fits number ∙ sym b.places in
    let content = same_content e.content f.content a.two_cells b.two_cells both.1 in
    λ j. (let at : Places = places j in places_text at.agg at.vic) ++ passing_text size (content j) (both.2 j)

-- ---- the least array of a dynamic primitive

both_in_order : (xs ys : List ℕ) → IsInOrder xs ys → IsInOrder ys xs → xs ≡ ys
both_in_order [] [] a b = refl
both_in_order [] (y ∷ ys) a b = absurd b
both_in_order (x ∷ xs) [] a b = absurd a
both_in_order (x ∷ xs) (y ∷ ys) (inl a) (inl b) = absurd (omega (arith, a, b))
both_in_order (x ∷ xs) (y ∷ ys) (inl a) (inr (b, rest)) = absurd (omega (arith, a, b))
both_in_order (x ∷ xs) (y ∷ ys) (inr (a, rest)) (inl b) = absurd (omega (arith, a, b))
both_in_order (x ∷ xs) (y ∷ ys) (inr (a, h)) (inr (b, k)) = ap₂ (λ z zs. z ∷ zs) a (both_in_order xs ys h k)

parts : (a b c d e f : ℕ) (xs ys : List ℕ) → a ∷ b ∷ c ∷ xs ≡ d ∷ e ∷ f ∷ ys → (a ≡ d) × (b ≡ e) × (c ≡ f) × (xs ≡ ys)
parts a b c d e f xs ys h = (cc, cc, cc, cc)

head_one : (x y : ℕ) (xs ys : List ℕ) → x ∷ xs ≡ y ∷ ys → (x ≡ y) × (xs ≡ ys)
head_one x y xs ys h = (cc, cc)

no_end : (xs : List ℕ) (v : ℕ) → ◌≡◌ {A = List ℕ} [] (xs ++ v ∷ []) → ⊥
no_end [] v h = cc
no_end (x ∷ xs) v h = cc

digit_one : (x y : Bool) → digit_of x ≡ digit_of y → x ≡ y
digit_one true true h = refl
digit_one false false h = refl
digit_one true false h = let no : 1 ≡ 0 = h in absurd (omega (arith, no))
digit_one false true h = let no : 0 ≡ 1 = h in absurd (omega (arith, no))

digits_one : (xs ys : List Bool) (v w : ℕ) → digits_of xs ++ v ∷ [] ≡ digits_of ys ++ w ∷ [] → (xs ≡ ys) × (v ≡ w)
digits_one [] [] v w h = (refl, (head_one v w [] [] h).0)
digits_one [] (y ∷ ys) v w h = absurd (no_end (digits_of ys) w (head_one v (digit_of y) [] (digits_of ys ++ w ∷ []) h).1)
digits_one (x ∷ xs) [] v w h = absurd (no_end (digits_of xs) v (sym (head_one (digit_of x) w (digits_of xs ++ v ∷ []) [] h).1))
digits_one (x ∷ xs) (y ∷ ys) v w h =
    let cut = head_one (digit_of x) (digit_of y) (digits_of xs ++ v ∷ []) (digits_of ys ++ w ∷ []) h in
    let rest = digits_one xs ys v w cut.1 in
    (ap₂ (λ z zs. z ∷ zs) (digit_one x y cut.0) rest.0, rest.1)

same_aggressor : (s : Option DynamicSense) (a b : Option ℕ) (v w n m : ℕ) → FitsDynAgg s a v n → FitsDynAgg s b w m → address_number a ≡ address_number b → a ≡ b
same_aggressor None None None v w n m f g h = refl
same_aggressor None None (Some b) v w n m f g h = absurd g
same_aggressor None (Some a) b v w n m f g h = absurd f
same_aggressor (Some s) None b v w n m f g h = absurd f
same_aggressor (Some s) (Some a) None v w n m f g h = absurd g
same_aggressor (Some s) (Some a) (Some b) v w n m f g h = ap Some h

-- the text of an array that passes, by its parts
abbrev text_of : ℕ → ℕ → Option ℕ → ℕ → List Bool → ℕ → List ℕ
text_of size cells agg vic content directions = (codes " cells " ++ decimal cells ++ places_text agg vic) ++ passing_text size content directions

arrays_one : (march : List MarchElement) (size : ℕ) (p : DynamicPrimitive) (x y : DynArray) → PassesDyn march p x → PassesDyn march p y
    → IsInOrder (order_of_array x) (order_of_array y) → IsInOrder (order_of_array y) (order_of_array x)
    → text_of size x.size x.agg x.vic x.content x.directions ≡ text_of size y.size y.agg y.vic y.content y.directions
arrays_one march size p x y f g below above =
    let cut = parts x.size (address_number x.agg) x.vic y.size (address_number y.agg) y.vic (digits_of x.content ++ x.directions ∷ []) (digits_of y.content ++ y.directions ∷ [])
    (both_in_order (order_of_array x) (order_of_array y) below above) in
    let agg = same_aggressor p.agg x.agg y.agg x.vic y.vic x.size y.size f.array.places.aggressor g.array.places.aggressor cut.1 in
    let rest = digits_one x.content y.content x.directions y.directions cut.3 in
    λ j. text_of size (cut.0 j) (agg j) (cut.2 j) (rest.0 j) (rest.1 j)

dynamic_one : (march : List MarchElement) (size : ℕ) (e f : DynEscape) → e.prim ≡ f.prim → LeastDyn march e → LeastDyn march f
    → dyn_escape_text size e ≡ dyn_escape_text size f
dynamic_one march size e f same x y =
    let there : PassesDyn march e.prim (array_of f) = subst (λ p. PassesDyn march p (array_of f)) (sym same) y.escape in
    let here : PassesDyn march f.prim (array_of e) = subst (λ p. PassesDyn march p (array_of e)) same x.escape in
    arrays_one march size e.prim (array_of e) (array_of f) x.escape there (x.least (array_of f) there) (y.least (array_of e) here)

-- ---- the lines

escape_one : (march : List MarchElement) (item : Item) (s t : List ℕ) → IsEscapeText march item s → IsEscapeText march item t → s ≡ t
escape_one march (Plain p) s t (e, a, x, is) (f, b, y, it) = is ∙ static_one march (length march) e f (a ∙ sym b) x y ∙ sym it
escape_one march (Dyn p) s t (e, a, x, is) (f, b, y, it) = is ∙ dynamic_one march (length march) e f (a ∙ sym b) x y ∙ sym it

one_line : (march : List MarchElement) (item : Item) (s t : List ℕ) → IsLine march item s → IsLine march item t → s ≡ t
one_line march item = line_one (item_text item) (DetectsItem march item) (IsEscapeText march item) (escape_one march item)

pub detects_one : (march : List MarchElement) (items : List Item) (m n : ℕ) → DetectsOf march items m → DetectsOf march items n → m ≡ n
detects_one march = counts_one (DetectsItem march)

one_class : (march : List MarchElement) (items : List Item) (c : ItemClass) (s t : List ℕ) → IsClassLine march items c s → IsClassLine march items c t → s ≡ t
one_class march items c s t (m, f, is) (n, g, it) = is ∙ ap (class_line c (class_size c items)) (detects_one march _ m n f g) ∙ sym it

pub text_one : (march : List MarchElement) (memory : Option Description) (items : List Item) (text other : List ℕ)
    → IsMixedReport text march memory items → IsMixedReport other march memory items → text ≡ other
text_one march memory items text other r q =
    let lines = lines_one (IsLine march) (one_line march) items r.lines q.lines r.are_lines q.are_lines in
    let classes = lines_one (IsClassLine march items) (one_class march items) class_order r.classes q.classes r.are_classes q.are_classes in
    let covered = detects_one march items r.covered q.covered r.detects q.detects in
    r.is ∙ (λ j. march_line march ++ memory_line march memory ++ lines j ++ classes j ++ total_line (length items) (covered j)) ∙ sym q.is
