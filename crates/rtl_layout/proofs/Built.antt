-- Expressions whose parts are told otherwise.
use Rattle.std.proofs.Common.{◌≡◌, ◌≢◌, ℕ, zero, suc, ◌-◌, ◌<◌, Bool, cond, nat_eq, List, [], ◌∷◌, length, get_or, Result, IfOk, sym, ap, ◌∙◌, subst, arith}
use Rattle.std.specs.Prelude.{slice_index_or}
use Rattle.std.proofs.lemmas.Bool.{eq-eqb, ne_eqb}
use Rattle.std.proofs.lemmas.Bool.Decides.{nat_tests}
use Rattle.arrayvec.specs.declared.array_string.ArrayString.{ArrayString}
use Rattle.verilog_tree.specs.declared.tree.Expr.{Expr}
use Rattle.verilog_tree.specs.declared.tree.Expr.TheVariants.{Name, Part, rolls-Name, rolls-Part}
use Rattle.verilog_tree.specs.declared.tree.Expr.TheOpen.{Name as NameOf, Part as PartOf}
use Rattle.verilog_tree.specs.declared.tree.Expr.TheFolds.{fold-roll-Expr}
use Rattle.verilog_tree.specs.declared.tree.BinOp.{BinOp}
use Rattle.verilog_tree.specs.Plain.{Expression, Net, PartSelect, Infixed, Conditional, expr_layer, plain}
use Rattle.rtl_layout.specs.Build.{low_bits}
use Rattle.rtl_layout.specs.Control.{nothing}
use Rattle.rtl_layout.specs.Layout.{turning}
use Rattle.rtl_layout.specs.Plan.{Element, Plan}
use Rattle.rtl_layout.specs.Shows.{Ready}

plain_name : (n : ArrayString 64) → plain (Name n) ≡ Net n.bytes
plain_name n = ap plain (sym (rolls-Name n)) ∙ fold-roll-Expr Expression expr_layer (NameOf n)

plain_part : (n : ArrayString 64) (high low : ℕ) → plain (Part n high low) ≡ PartSelect n.bytes high low
plain_part n high low = ap plain (sym (rolls-Part n high low)) ∙ fold-roll-Expr Expression expr_layer (PartOf n high low)

pub told : {E : Type 0} (r : Result Expr E) (x y : Expression) → x ≡ y → IfOk r (λ t. plain t ≡ x) → IfOk r (λ t. plain t ≡ y)
told r x y same h = subst (λ e. IfOk r (λ t. plain t ≡ e)) same h

pub chosen : (c c' a a' b b' : Expression) → c ≡ c' → a ≡ a' → b ≡ b' → Conditional c a b ≡ Conditional c' a' b'
chosen c c' a a' b b' p q r = ap (λ x. Conditional x a b) p ∙ ap (λ x. Conditional c' x b) q ∙ ap (λ x. Conditional c' a' x) r

pub joined : (op : BinOp) (a a' b b' : Expression) → a ≡ a' → b ≡ b' → Infixed op a b ≡ Infixed op a' b'
joined op a a' b b' p q = ap (λ x. Infixed op x b) p ∙ ap (λ x. Infixed op a' x) q

pub turned : (r r' : List ℕ) (b b' : Bool) (n n' a a' m m' : Expression) → r ≡ r' → b ≡ b' → n ≡ n' → a ≡ a' → m ≡ m' → turning r b n a m ≡ turning r' b' n' a' m'
turned r r' b b' n n' a a' m m' same first next again more =
    ap (λ x. turning x b n a m) same ∙ ap (λ x. turning r' x n a m) first ∙ ap (λ x. turning r' b' x a m) next ∙ ap (λ x. turning r' b' n' x m) again ∙ ap (turning r' b' n' a') more

-- where a number is not 0, the second of two
pub unless_none : {A : Type 0} (n : ℕ) (x y : A) → n ≢ 0 → y ≡ cond (nat_eq n 0) x y
unless_none n x y h = grind (arith, nat_tests)

-- and where it is 0, the first
pub when_none : {A : Type 0} (n : ℕ) (x y : A) → n ≡ 0 → x ≡ cond (nat_eq n 0) x y
when_none n x y h = sym (ap (λ t. cond t x y) (eq-eqb n 0 h))

-- what stands first in a list that has something
pub first_of : {A : Type 0} (xs ys : List A) (x d : A) → xs ≡ ys → 0 < length ys → x ≡ get_or xs 0 x → x ≡ slice_index_or ys 0 d
first_of xs [] x d e some same = absurd (omega arith)
first_of xs (y ∷ ys) x d e some same = same ∙ ap (λ l. get_or l 0 x) e

-- the first element of a plan has an operation
pub first_has : (p : Plan) (xs : List Element) (x : Element) → Ready p → xs ≡ p.elements → x ≡ get_or xs 0 x → 0 < length x.operations
first_has p xs x ready e same = subst (λ (y : Element). 0 < length y.operations) (sym (first_of xs p.elements x nothing e ready.has_element same)) (ready.has_operation 0)

-- what stands at a number that a list has
item_is : {A : Type 0} (xs : List A) (k : ℕ) (x d : A) → k < length xs → x ≡ get_or xs k x → x ≡ slice_index_or xs k d
item_is [] k x d h same = absurd (omega arith)
item_is (y ∷ ys) zero x d h same = same
item_is (y ∷ ys) (suc k) x d h same = item_is ys k x d (omega arith) same

-- and so has each element
pub item_has : (p : Plan) (xs : List Element) (k : ℕ) (x : Element) → Ready p → xs ≡ p.elements → k < length xs → x ≡ get_or xs k x → 0 < length x.operations
item_has p xs k x ready e h same =
    subst (λ (y : Element). 0 < length y.operations) (sym (item_is xs k x nothing h same ∙ ap (λ (l : List Element). slice_index_or l k nothing) e)) (ready.has_operation k)

-- the lowest bits of a name, which are all of them or a part
pub all_low : (n : ArrayString 64) (m : List ℕ) (w low : ℕ) → n.bytes ≡ m → low ≡ w → plain (Name n) ≡ low_bits m w low
all_low n m w low e same = plain_name n ∙ ap Net e ∙ sym (ap (λ t. cond t (Net m) (PartSelect m (low - 1) 0)) (eq-eqb low w same))

pub some_low : (n : ArrayString 64) (m : List ℕ) (w low : ℕ) → n.bytes ≡ m → low ≢ w → plain (Part n (low - 1) 0) ≡ low_bits m w low
some_low n m w low e other = plain_part n (low - 1) 0 ∙ ap (λ k. PartSelect k (low - 1) 0) e ∙ sym (ap (λ t. cond t (Net m) (PartSelect m (low - 1) 0)) (ne_eqb low w other))
