-- What a code of each kind means, and what it reads.
use Rattle.std.proofs.Common.{◌≡◌, ℕ, ◌+◌, ◌-◌, ◌%◌, ◌^◌, ◌≤◌, List, map, Option, Some, Box, Vec, Global, Result, Ok, Err, IfOk, min, refl, ap, sym, subst, ◌∙◌, option_map, bit_and, bit_or}
use Rattle.bist_bits.specs.Vector.{Vector}
use Rattle.verilog_tree.specs.Names.{number}
use Rattle.arrayvec.specs.ArrayString.{ArrayString}
use Rattle.verilog_tree.specs.declared.tree.Expr.{Expr}
use Rattle.verilog_tree.specs.declared.tree.Expr as E
use Rattle.verilog_tree.specs.Plain.{plain, expressions, Expression, Net, BitSelect, PartSelect, Literal, Concatenation, Infixed, Expressions, NoMore, Followed}
use Rattle.verilog_tree.specs.Meaning.{infixed_width}
use Rattle.verilog_tree.specs.Partial.{both}
use Rattle.verilog_tree.specs.declared.tree.BinOp.{BinOp}
use Rattle.verilog_code.specs.declared.code.Code.{Code}
use Rattle.verilog_code.specs.declared.code.Code as C
use Rattle.verilog_code.specs.Code.{at, lowered, raised, infixed_code, meaning}
use Rattle.verilog_code.specs.OpenCode.{open_at, open_infixed_code, open_meaning}
use Rattle.verilog_code.specs.Reading.{Reads}
use Rattle.verilog_cycle.specs.declared.compile.Compiled.{Compiled}
use Rattle.verilog_cycle.specs.Compile.{Compiles, JoinsParts}
use Rattle.verilog_cycle.proofs.Compiling.{name_compiles, bit_compiles, part_compiles, literal_compiles, infixed_compiles, concatenation_compiles, no_parts, above_more}
use Rattle.verilog_cycle.proofs.Reading.{leaf_reads, constant_reads, two_reads}

pub plain_name : (n : ArrayString) → plain (E.Name n) ≡ Net n.bytes
plain_name n = search E.the_lemmas

pub plain_bit : (n : ArrayString) (i : ℕ) → plain (E.Bit n i) ≡ BitSelect n.bytes i
plain_bit n i = search E.the_lemmas

pub plain_part : (n : ArrayString) (i l : ℕ) → plain (E.Part n i l) ≡ PartSelect n.bytes i l
plain_part n i l = search E.the_lemmas

pub plain_literal : (b : Vector) → plain (E.Lit b) ≡ Literal b
plain_literal b = search E.the_lemmas

pub plain_concat : (parts : Vec Expr Global) → plain (E.Concat parts) ≡ Concatenation (expressions (map plain parts.items))
plain_concat parts = search E.the_lemmas

-- what holds of a code holds of it in a box
pub ok_boxed : {E : Type 0} (P : ℕ → ℕ → Code → Type 0) (width reads : ℕ) (code : Code) (r : Result Compiled E) → IfOk r (λ c. (c.width ≡ width) × (c.code.value ≡ code) × (c.reads ≡ reads)) → P width reads code → IfOk r (λ c. P c.width c.reads c.code.value)
ok_boxed P width reads code (Ok c) h p =
    subst (λ (k : ℕ). P k c.reads c.code.value) (sym h.0)
    (subst (λ (i : ℕ). P width i c.code.value) (sym h.2)
    (subst (λ (x : Code). P width reads x) (sym h.1) p))
ok_boxed P width reads code (Err e) h p = h

-- a code of an expression, in a box
pub boxed_compiles : {E : Type 0} (w : List ℕ → ℕ) (ns : List (List ℕ)) (x y : Expression) (width j reads : ℕ) (code : Code) (r : Result Compiled E) → IfOk r (λ c. (c.width ≡ width) × (c.code.value ≡ code) × (c.reads ≡ reads)) → x ≡ y → width ≡ j → Compiles w ns y j code → IfOk r (λ c. Compiles w ns x c.width c.code.value)
boxed_compiles w ns x y width j reads code r h e f g =
    ok_boxed (λ k i z. Compiles w ns x k z) width reads code r h (subst (λ (z : Expression). Compiles w ns z width code) (sym e) (subst (λ (k : ℕ). Compiles w ns y k code) (sym f) g))

-- the code of the parts is the concatenation's
pub joined_compiles : {E : Type 0} (w : List ℕ → ℕ) (ns : List (List ℕ)) (x : Expression) (xs : Expressions) (r : Result Compiled E) → x ≡ Concatenation xs → IfOk r (λ c. JoinsParts w ns xs c.width c.code.value) → IfOk r (λ c. Compiles w ns x c.width c.code.value)
joined_compiles w ns x xs (Ok c) is g = subst (λ (y : Expression). Compiles w ns y c.width c.code.value) (sym is) (concatenation_compiles w ns xs c.width c.code.value g)
joined_compiles w ns x xs (Err e) is g = g

net_means : (e : List ℕ) (n : ℕ) → meaning e (C.Net n) ≡ at e n
net_means e n = search C.the_lemmas

net_means_open : (e : List (Option ℕ)) (n : ℕ) → open_meaning e (C.Net n) ≡ open_at e n
net_means_open e n = search C.the_lemmas

part_means : (e : List ℕ) (n low ones : ℕ) → meaning e (C.Part n low ones) ≡ bit_and (lowered (at e n) low) ones
part_means e n low ones = search C.the_lemmas

part_means_open : (e : List (Option ℕ)) (n low ones : ℕ) → open_meaning e (C.Part n low ones) ≡ option_map (λ v. bit_and (lowered v low) ones) (open_at e n)
part_means_open e n low ones = search C.the_lemmas

literal_means : (e : List ℕ) (v : ℕ) → meaning e (C.Lit v) ≡ v
literal_means e v = search C.the_lemmas

literal_means_open : (e : List (Option ℕ)) (v : ℕ) → open_meaning e (C.Lit v) ≡ Some v
literal_means_open e v = search C.the_lemmas

infixed_means : (e : List ℕ) (o : BinOp) (ones : ℕ) (a b : Box Code Global) → meaning e (C.Infixed o ones a b) ≡ infixed_code o ones (meaning e a.value) (meaning e b.value)
infixed_means e o ones a b = search C.the_lemmas

infixed_means_open : (e : List (Option ℕ)) (o : BinOp) (ones : ℕ) (a b : Box Code Global) → open_meaning e (C.Infixed o ones a b) ≡ open_infixed_code o ones (open_meaning e a.value) (open_meaning e b.value)
infixed_means_open e o ones a b = search C.the_lemmas

concat_means : (e : List ℕ) (low : ℕ) (a b : Box Code Global) → meaning e (C.Concat low a b) ≡ (raised (meaning e a.value) low + meaning e b.value) % 2 ^ 64
concat_means e low a b = search C.the_lemmas

concat_means_open : (e : List (Option ℕ)) (low : ℕ) (a b : Box Code Global) → open_meaning e (C.Concat low a b) ≡ both (λ x y. (raised x low + y) % 2 ^ 64) (open_meaning e a.value) (open_meaning e b.value)
concat_means_open e low a b = search C.the_lemmas

-- ---- a value, bits of it, and a number

pub net_compiles : (w : List ℕ → ℕ) (ns : List (List ℕ)) (n : List ℕ) (place : ℕ) → place ≡ number ns n → Compiles w ns (Net n) (w n) (C.Net place)
net_compiles w ns n place e = name_compiles w ns n (C.Net place) (λ vs. net_means vs place ∙ ap (at vs) e) (λ vs. net_means_open vs place ∙ ap (open_at vs) e)

pub net_reads : (place bits : ℕ) → bits ≡ 2 ^ (place % 64) → Reads bits (C.Net place)
net_reads place bits e = leaf_reads place bits (C.Net place) (λ v. v) (λ v. v) e (λ vs. net_means vs place) (λ vs. net_means_open vs place)

pub bit_part_compiles : (w : List ℕ → ℕ) (ns : List (List ℕ)) (n : List ℕ) (i place : ℕ) → place ≡ number ns n → Compiles w ns (BitSelect n i) 1 (C.Part place i 1)
bit_part_compiles w ns n i place e =
    bit_compiles w ns n i (C.Part place i 1) (λ vs. part_means vs place i 1 ∙ ap (λ (p : ℕ). bit_and (lowered (at vs p) i) 1) e)
    (λ vs. part_means_open vs place i 1 ∙ ap (λ (p : ℕ). option_map (λ v. bit_and (lowered v i) 1) (open_at vs p)) e)

pub bits_compile : (w : List ℕ → ℕ) (ns : List (List ℕ)) (n : List ℕ) (i l k ones place : ℕ) → place ≡ number ns n → k ≡ i + 1 - l → (k ≤ 64 → ones ≡ 2 ^ k - 1) → Compiles w ns (PartSelect n i l) k (C.Part place l ones)
bits_compile w ns n i l k ones place e wide m =
    part_compiles w ns n i l k ones (C.Part place l ones) wide m (λ vs. part_means vs place l ones ∙ ap (λ (p : ℕ). bit_and (lowered (at vs p) l) ones) e)
    (λ vs. part_means_open vs place l ones ∙ ap (λ (p : ℕ). option_map (λ v. bit_and (lowered v l) ones) (open_at vs p)) e)

pub part_reads : (place low ones bits : ℕ) → bits ≡ 2 ^ (place % 64) → Reads bits (C.Part place low ones)
part_reads place low ones bits e = leaf_reads place bits (C.Part place low ones) (λ v. bit_and (lowered v low) ones) (option_map (λ v. bit_and (lowered v low) ones)) e (λ vs. part_means vs place low ones) (λ vs. part_means_open vs place low ones)

pub number_compiles : (w : List ℕ → ℕ) (ns : List (List ℕ)) (b : Vector) (v : ℕ) → v ≡ b.value → Compiles w ns (Literal b) b.width (C.Lit v)
number_compiles w ns b v e = literal_compiles w ns b (C.Lit v) (λ vs. literal_means vs v ∙ e) (λ vs. literal_means_open vs v ∙ ap Some e)

pub number_reads : (v : ℕ) → Reads 0 (C.Lit v)
number_reads v = constant_reads 0 v (C.Lit v) (λ vs. literal_means vs v) (λ vs. literal_means_open vs v)

pub no_part_compiles : (w : List ℕ → ℕ) (ns : List (List ℕ)) → JoinsParts w ns NoMore 0 (C.Lit 0)
no_part_compiles w ns = no_parts w ns 0 (C.Lit 0) refl (λ vs. literal_means vs 0) (λ vs. literal_means_open vs 0)

-- ---- two parts

pub two_compile : (w : List ℕ → ℕ) (ns : List (List ℕ)) (o : BinOp) (x y : Expression) (k i j ones : ℕ) (a b : Box Code Global) → Compiles w ns x k a.value → Compiles w ns y i b.value → j ≡ infixed_width o k → (k ≤ 64 → ones ≡ 2 ^ k - 1) → Compiles w ns (Infixed o x y) j (C.Infixed o ones a b)
two_compile w ns o x y k i j ones a b g h e m = infixed_compiles w ns o x y k i j ones a.value b.value (C.Infixed o ones a b) g h e m (λ vs. infixed_means vs o ones a b) (λ vs. infixed_means_open vs o ones a b)

pub infixed_reads : (o : BinOp) (i j ones : ℕ) (a b : Box Code Global) → Reads i a.value → Reads j b.value → Reads (bit_or i j) (C.Infixed o ones a b)
infixed_reads o i j ones a b = two_reads i j a.value b.value (C.Infixed o ones a b) (infixed_code o ones) (open_infixed_code o ones) (λ vs. infixed_means vs o ones a b) (λ vs. infixed_means_open vs o ones a b)

pub concat_joins : (w : List ℕ → ℕ) (ns : List (List ℕ)) (x : Expression) (xs : Expressions) (k j i : ℕ) (a b : Box Code Global) → i ≡ min (k + j) (2 ^ 64 - 1) → Compiles w ns x k a.value → JoinsParts w ns xs j b.value → JoinsParts w ns (Followed x xs) i (C.Concat j a b)
concat_joins w ns x xs k j i a b e = above_more w ns x xs k j i a.value b.value (C.Concat j a b) e (λ vs. concat_means vs j a b) (λ vs. concat_means_open vs j a b)

pub concat_reads : (i j low : ℕ) (a b : Box Code Global) → Reads i a.value → Reads j b.value → Reads (bit_or i j) (C.Concat low a b)
concat_reads i j low a b = two_reads i j a.value b.value (C.Concat low a b) (λ x y. (raised x low + y) % 2 ^ 64) (both (λ x y. (raised x low + y) % 2 ^ 64)) (λ vs. concat_means vs low a b) (λ vs. concat_means_open vs low a b)
