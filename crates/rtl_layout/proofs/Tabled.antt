-- Tables as loops make them.
use Rattle.std.proofs.Common.{◌≡◌, ℕ, suc, ◌+◌, ◌-◌, ◌<◌, ◌≤◌, true, false, cond, IfOk, List, [], ◌∷◌, ◌++◌, length, map, take, drop, reverse, get_or, refl, append-nil, append_assoc, sym, ap, ◌∙◌, subst, arith}
use Rattle.std.proofs.lemmas.List.{length-append, length-drop, length-take, drop-map, take-map, take_more, take_all, drop_more, drop_all, length-map, map-append, reverse-append}
use Rattle.std.specs.Prelude.{Result}
use Rattle.verilog_tree.specs.declared.tree.Expr.{Expr}
use Rattle.verilog_tree.specs.Plain.{Expression, Net, Concatenation, NoMore, expressions, plain}
use Rattle.rtl_layout.proofs.Rows.{length_counted}
use Rattle.verilog_tree.specs.Meaning.{bit}
use Rattle.rtl_layout.specs.Build.{lit, pick, rotated, counted, number_of}
use Rattle.rtl_layout.specs.declared.flags.MarchFlag.{MarchFlag}
use Rattle.rtl_layout.specs.inner.Flags.{row_flag, row_leaf, flags_ahead}
use Rattle.rtl_layout.specs.declared.row.Row.{Row}
use Rattle.rtl_layout.specs.Plan.{Element, Plan}
use Rattle.rtl_layout.specs.Layout.{element, index, row_width, by_element, by_next, flag_row, row_bit, address_bits, address}

-- a choice whose name and leaves are told otherwise
pub picked : {E : Type 0} (r : Result Expr E) (n m : List ℕ) (w : ℕ) (xs ys : List Expression) → n ≡ m → xs ≡ ys → IfOk r (λ x. plain x ≡ pick n w xs) → IfOk r (λ x. plain x ≡ pick m w ys)
picked r n m w xs ys p q h = subst (λ k. IfOk r (λ x. plain x ≡ pick k w ys)) p (subst (λ l. IfOk r (λ x. plain x ≡ pick n w l)) q h)

-- one leaf more
pub one_more : {A : Type 0} (f : A → Expression) (xs : List A) (i : ℕ) (d : A) (ls ms : List Expr) (y : Expr) → i < length xs → ms ≡ ls ++ y ∷ [] → plain y ≡ f (get_or xs i d)
    → map plain ls ≡ map f (take i xs) → map plain ms ≡ map f (take (i + 1) xs)
one_more f xs i d ls ms y h grown tells inv =
    ap (map plain) grown
    ∙ map-append plain ls (y ∷ [])
    ∙ ap (λ l. l ++ plain y ∷ []) inv
    ∙ ap (λ z. map f (take i xs) ++ z ∷ []) tells
    ∙ sym (ap (map f) (take_more xs i d h) ∙ map-append f (take i xs) (get_or xs i d ∷ []))

-- all leaves, once the loop has ended
pub all_of : {A : Type 0} (f : A → Expression) (xs : List A) (i : ℕ) (ls : List Expr) → length xs ≤ i → map plain ls ≡ map f (take i xs) → map plain ls ≡ map f xs
all_of f xs i ls h inv = inv ∙ ap (map f) (take_all i xs h)

-- one leaf more, where the loop goes from the last value to the first
pub one_before : {A : Type 0} (f : A → Expression) (xs : List A) (i : ℕ) (d : A) (ls ms : List Expr) (y : Expr) → i < length xs → ms ≡ ls ++ y ∷ []
    → plain y ≡ f (get_or xs (length xs - 1 - i) d) → map plain ls ≡ reverse (map f (drop (length xs - i) xs)) → map plain ms ≡ reverse (map f (drop (length xs - (i + 1)) xs))
one_before f xs i d ls ms y h grown tells inv =
    let k : ℕ = length xs - 1 - i in
    let at : length xs - (i + 1) ≡ k = omega arith in
    let next : k + 1 ≡ length xs - i = omega arith in
    let within : k < length xs = omega arith in
    let split : drop (length xs - (i + 1)) xs ≡ get_or xs k d ∷ drop (length xs - i) xs =
    ap (λ (n : ℕ). drop n xs) at ∙ drop_more xs k d within ∙ ap (λ (n : ℕ). get_or xs k d ∷ drop n xs) next in
    ap (map plain) grown
    ∙ map-append plain ls (y ∷ [])
    ∙ ap (λ l. l ++ plain y ∷ []) inv
    ∙ ap (λ z. reverse (map f (drop (length xs - i) xs)) ++ z ∷ []) tells
    ∙ sym (ap (λ l. reverse (map f l)) split ∙ reverse-append (f (get_or xs k d) ∷ []) (map f (drop (length xs - i) xs)))

-- the place that the loop is at
pub place_before : (n i : ℕ) → i < n → (1 ≤ n) × (i ≤ n - 1) × (n - 1 - i < n)
place_before n i h = (omega arith, omega arith, omega arith)

pub none_before : {A : Type 0} (f : A → Expression) (xs : List A) (ls : List Expr) → ls ≡ [] → map plain ls ≡ reverse (map f (drop (length xs - 0) xs))
none_before f xs ls e = ap (map plain) e ∙ sym (ap (λ l. reverse (map f l)) (drop_all (length xs - 0) xs (omega arith)))

pub all_before : {A : Type 0} (f : A → Expression) (xs : List A) (i : ℕ) (ls : List Expr) → length xs ≤ i → map plain ls ≡ reverse (map f (drop (length xs - i) xs))
    → map plain ls ≡ reverse (map f xs)
all_before f xs i ls h inv = let none : length xs - i ≡ 0 = omega arith in inv ∙ ap (λ (n : ℕ). reverse (map f (drop n xs))) none

-- as many leaves as there are values
pub as_many : {A : Type 0} (f : A → Expression) (xs ys : List A) (ls : List Expr) → map plain ls ≡ map f xs → xs ≡ ys → length ys ≡ length ls
as_many f xs ys ls told is = sym (ap length is) ∙ sym (length-map xs f) ∙ sym (ap length told) ∙ length-map ls plain

pub some_leaves : {A : Type 0} (f : A → Expression) (xs ys : List A) (ls : List Expr) → map plain ls ≡ map f xs → xs ≡ ys → 0 < length ys → 0 < length ls
some_leaves f xs ys ls told is h = subst (λ (n : ℕ). 0 < n) (as_many f xs ys ls told is) h

pub few_leaves : {A : Type 0} (f : A → Expression) (xs ys : List A) (ls : List Expr) (most : ℕ) → map plain ls ≡ map f xs → xs ≡ ys → length ys ≤ most → length ls ≤ most
few_leaves f xs ys ls most told is h = subst (λ (n : ℕ). n ≤ most) (as_many f xs ys ls told is) h

-- the address as a list of its bits
pub address_listed : (p : Plan) (rs : List Row) (xs : List Expression) → address_bits p rs (expressions xs) ≡ expressions (reverse (map (row_bit p.addr_width) rs) ++ xs)
address_listed p [] xs = refl
address_listed p (r ∷ rs) xs =
    address_listed p rs (row_bit p.addr_width r ∷ xs)
    ∙ ap expressions (sym (ap (λ l. l ++ xs) (reverse-append (row_bit p.addr_width r ∷ []) (map (row_bit p.addr_width) rs)) ∙ append_assoc (reverse (map (row_bit p.addr_width) rs)) (row_bit p.addr_width r ∷ []) xs))

pub address_straight : (p : Plan) → p.straight ≡ true → Net index ≡ address p
address_straight p h = sym (ap (λ t. cond t (Net index) (Concatenation (address_bits p p.rows NoMore))) h)

pub address_written : (p : Plan) (bits : List Expression) → p.straight ≡ false → bits ≡ reverse (map (row_bit p.addr_width) p.rows) → Concatenation (expressions bits) ≡ address p
address_written p bits h is =
    ap (λ l. Concatenation (expressions l)) is
    ∙ ap (λ l. Concatenation (expressions l)) (sym (append-nil (reverse (map (row_bit p.addr_width) p.rows))))
    ∙ ap Concatenation (sym (address_listed p p.rows []))
    ∙ sym (ap (λ t. cond t (Net index) (Concatenation (address_bits p p.rows NoMore))) h)

-- one bit of a row more
pub one_bit : (f : ℕ → Expression) (i : ℕ) (ls ms : List Expr) (y : Expr) → ms ≡ ls ++ y ∷ [] → plain y ≡ f i → map plain ls ≡ map f (counted i) → map plain ms ≡ map f (counted (i + 1))
one_bit f i ls ms y grown tells inv =
    let up : suc i ≡ i + 1 = omega arith in
    ap (map plain) grown
    ∙ map-append plain ls (y ∷ [])
    ∙ ap (λ l. l ++ plain y ∷ []) inv
    ∙ ap (λ z. map f (counted i) ++ z ∷ []) tells
    ∙ sym (map-append f (counted i) (i ∷ []))
    ∙ ap (λ (n : ℕ). map f (counted n)) up

pub bits_count : (f : ℕ → Expression) (i : ℕ) (ls : List Expr) → map plain ls ≡ map f (counted i) → length ls ≡ i
bits_count f i ls told = sym (length-map ls plain) ∙ ap length told ∙ length-map (counted i) f ∙ length_counted i

-- leaves moved on
pub moved : {A : Type 0} (f : A → Expression) (xs ys : List A) (ls ms : List Expr) (k : ℕ) → ms ≡ drop k ls ++ take k ls → map plain ls ≡ map f xs → xs ≡ ys → map plain ms ≡ map f (drop k ys ++ take k ys)
moved f xs ys ls ms k turned told is =
    ap (map plain) turned
    ∙ map-append plain (drop k ls) (take k ls)
    ∙ ap (λ l. l ++ map plain (take k ls)) (sym (drop-map plain k ls))
    ∙ ap (λ l. drop k (map plain ls) ++ l) (sym (take-map plain k ls))
    ∙ ap (λ l. drop k l ++ take k l) (told ∙ ap (map f) is)
    ∙ sym (map-append f (drop k ys) (take k ys) ∙ ap (λ l. l ++ map f (take k ys)) (sym (drop-map f k ys)) ∙ ap (λ l. drop k (map f ys) ++ l) (sym (take-map f k ys)))

pub moved_count : {A : Type 0} (f : A → Expression) (ys : List A) (ms : List Expr) (k : ℕ) → k ≤ length ys → map plain ms ≡ map f (drop k ys ++ take k ys) → length ms ≡ length ys
moved_count f ys ms k within told =
    let all = sym (length-map ms plain) ∙ ap length told ∙ length-map (drop k ys ++ take k ys) f ∙ length-append (drop k ys) (take k ys) in
    let behind = length-drop k ys in
    let before = length-take k ys in
    omega arith

-- a row of one bit is that bit
narrow_leaves : (which : MarchFlag) (xs : List Element) → map (row_leaf 1 which) xs ≡ map (λ (x : Element). lit 1 (bit (row_flag which x 0))) xs
narrow_leaves which [] = refl
narrow_leaves which (x ∷ xs) =
    let one : number_of (map (row_flag which x) (counted 1)) ≡ bit (row_flag which x 0) = omega arith in
    ap (λ v. lit 1 v ∷ map (row_leaf 1 which) xs) one ∙ ap (λ l. lit 1 (bit (row_flag which x 0)) ∷ l) (narrow_leaves which xs)

-- none moved on
none_moved : (p : Plan) (w : ℕ) (which : MarchFlag) → flags_ahead p w which 0 ≡ by_element p w (λ x. number_of (map (row_flag which x) (counted w)))
none_moved p w which = ap (λ l. pick element p.element_width (map (row_leaf w which) l)) (append-nil p.elements)

pub row_of_all : {E : Type 0} (p : Plan) (which : MarchFlag) (r : Result Expr E) (w : ℕ) → w ≡ row_width p → IfOk r (λ x. plain x ≡ flags_ahead p w which 0) → IfOk r (λ x. plain x ≡ flag_row p (row_flag which))
row_of_all p which r w wide h = subst (λ v. IfOk r (λ x. plain x ≡ v)) (ap (λ n. flags_ahead p n which 0) wide ∙ none_moved p (row_width p) which) h

pub flag_of_all : {E : Type 0} (p : Plan) (which : MarchFlag) (r : Result Expr E) → IfOk r (λ x. plain x ≡ flags_ahead p 1 which 0) → IfOk r (λ x. plain x ≡ by_element p 1 (λ x. bit (row_flag which x 0)))
flag_of_all p which r h =
    subst (λ v. IfOk r (λ x. plain x ≡ v)) (none_moved p 1 which ∙ ap (pick element p.element_width) (narrow_leaves which p.elements)) h

pub flag_of_next : {E : Type 0} (p : Plan) (which : MarchFlag) (r : Result Expr E) → IfOk r (λ x. plain x ≡ flags_ahead p 1 which 1) → IfOk r (λ x. plain x ≡ by_next p (λ x. bit (row_flag which x 0)))
flag_of_next p which r h = subst (λ v. IfOk r (λ x. plain x ≡ v)) (ap (pick element p.element_width) (narrow_leaves which (rotated p.elements))) h
