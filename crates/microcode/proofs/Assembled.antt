-- The code of a march, one element after another.
use Rattle.std.proofs.Common.{◌≡◌, ℕ, zero, suc, ◌+◌, ◌-◌, ◌<◌, ◌≤◌, ◌==◌, Bool, true, false, List, [], ◌∷◌, ◌++◌, length, take, get_or, refl, sym, ◌∙◌, ap, arith, length-append, append_assoc, append-nil}
use Rattle.std.proofs.lemmas.Option.{slice_get_within}
use Rattle.std.proofs.lemmas.List.{get_or_default}
use Rattle.std.specs.List.{slice_index_or}
use Rattle.march_core.specs.declared.operation.Op.{Op}
use Rattle.march_core.specs.declared.operation.Op.TheVariants.{W0, R0}
use Rattle.march_core.specs.Runs.{is_write, data_value}
use Rattle.microcode.specs.declared.code.Instr.{Instr}
use Rattle.march_core.specs.March.{MarchElement, pause, sweep, order_of, ops_of, order_at, ops_at, is_pause, is_pause_at, element_at, all_ops, IsMarch}
use Rattle.microcode.specs.Code.{goes_down, opers_of, opers_at, instr_of, instrs_from, assemble, first_of}
use Rattle.microcode.proofs.Turn.{opers_some}
use Rattle.microcode.proofs.Behind.{code_at, length-instrs, first_zero}

-- one instruction more
pub instrs_more : (x : MarchElement) (i n : ℕ) → instrs_from x i (n + 1) ≡ instrs_from x i n ++ instr_of x (i + n) ∷ []
instrs_more x i zero = let here : i ≡ i + 0 = omega arith in ap (λ k. instr_of x k ∷ []) here
instrs_more x i (suc n) =
    let on : suc n + 1 ≡ suc (n + 1) = omega arith in
    let there : i + 1 + n ≡ i + suc n = omega arith in
    ap (instrs_from x i) on ∙ ap (λ l. instr_of x i ∷ l) (instrs_more x (i + 1) n)
    ∙ ap (λ k. instr_of x i ∷ (instrs_from x (i + 1) n ++ instr_of x k ∷ [])) there

-- the instruction of an operation
pub instr_is : (x : MarchElement) (ops : List Op) (n : ℕ) (write bit down : Bool) → is_pause x ≡ false → ops ≡ ops_of x → n < length ops
    → write ≡ is_write (get_or ops n W0) → bit ≡ data_value (get_or ops n W0) → down ≡ goes_down (order_of x)
    → instr_of x n ≡ record { write = write; bit = bit; down = down; last = n == length ops - 1; pause = false }
instr_is pause ops n write bit down p h l w b d = cc
instr_is (sweep order these) ops n write bit down p h l w b d =
    let long = ap length h in
    let there : get_or ops n W0 ≡ slice_index_or these n R0 = ap (λ os. get_or os n W0) h ∙ get_or_default these n W0 R0 (omega arith) in
    λ j. record {
      write = sym (w ∙ ap is_write there) j;
      bit = sym (b ∙ ap data_value there) j;
      down = sym d j;
      last = ap (λ m. n == m - 1) (sym long) j;
      pause = false;
    }

-- one instruction is pushed
pub pushed_more : (x : MarchElement) (n : ℕ) (i : Instr) (old now after : List Instr) → after ≡ now ++ i ∷ [] → now ≡ old ++ instrs_from x 0 n → instr_of x n ≡ i
    → after ≡ old ++ instrs_from x 0 (n + 1)
pushed_more x n i old now after p so_far is =
    let here : n ≡ 0 + n = omega arith in
    p ∙ ap (λ l. l ++ i ∷ []) so_far ∙ append_assoc old (instrs_from x 0 n) (i ∷ [])
    ∙ ap (λ l. old ++ l) (ap (λ y. instrs_from x 0 n ++ y ∷ []) (sym is ∙ ap (instr_of x) here) ∙ sym (instrs_more x 0 n))

-- ---- how long it is

opers_within : (x : MarchElement) → opers_of x ≤ 1 + length (ops_of x)
opers_within pause = omega arith
opers_within (sweep order ops) = omega arith

code_within : (march : List MarchElement) → length (assemble march) ≤ length march + length (all_ops march)
code_within [] = omega arith
code_within (x ∷ march) =
    let rest = code_within march in
    let both = length-append (instrs_from x 0 (opers_of x)) (assemble march) in
    let here = length-instrs x 0 (opers_of x) in
    let ops = length-append (ops_of x) (all_ops march) in
    let one = opers_within x in
    omega arith

length-taken : (march : List MarchElement) (e : ℕ) → e ≤ length march → length (assemble (take e march)) ≡ first_of march e
length-taken march zero h = sym (first_zero march)
length-taken [] (suc e) h = absurd (omega arith)
length-taken (x ∷ march) (suc e) h =
    let rest = length-taken march e (omega arith) in
    let both = length-append (instrs_from x 0 (opers_of x)) (assemble (take e march)) in
    let here = length-instrs x 0 (opers_of x) in
    omega arith

-- there is room for the next element
pub room : (march : List MarchElement) (e : ℕ) (code : List Instr) → IsMarch march → e < length march → code ≡ assemble (take e march)
    → length code + opers_at march e ≤ 320
room march e code m h c =
    let elements = m.elements_within in
    let ops = m.ops_within in
    let whole = code_within march in
    let so_far = ap length c ∙ length-taken march e (omega arith) in
    let some = opers_some march e m.each in
    let last : opers_at march e - 1 < opers_at march e = omega arith in
    let within = slice_get_within (assemble march) _ _ (code_at march e (opers_at march e - 1) h last) in
    omega arith

-- ---- an element by its number

pub pause_at : (march : List MarchElement) (e : ℕ) → is_pause_at march e ≡ true → element_at march e ≡ pause
pause_at [] e h = cc
pause_at (pause ∷ march) zero h = refl
pause_at (sweep order ops ∷ march) zero h = cc
pause_at (x ∷ march) (suc e) h = pause_at march e h

pub sweep_at : (march : List MarchElement) (e : ℕ) → e < length march → is_pause_at march e ≡ false → element_at march e ≡ sweep (order_at march e) (ops_at march e)
sweep_at [] e l h = absurd (omega arith)
sweep_at (pause ∷ march) zero l h = cc
sweep_at (sweep order ops ∷ march) zero l h = refl
sweep_at (x ∷ march) (suc e) l h = sweep_at march e (omega arith) h

-- one element more
pub element_more : (march : List MarchElement) (e : ℕ) → e < length march
    → assemble (take (e + 1) march) ≡ assemble (take e march) ++ instrs_from (element_at march e) 0 (opers_at march e)
element_more [] e h = absurd (omega arith)
element_more (x ∷ march) zero h = append-nil (instrs_from x 0 (opers_of x))
element_more (x ∷ march) (suc e) h =
    let on : suc e + 1 ≡ suc (e + 1) = omega arith in
    ap (λ n. assemble (take n (x ∷ march))) on ∙ ap (λ l. instrs_from x 0 (opers_of x) ++ l) (element_more march e (omega arith))
    ∙ sym (append_assoc (instrs_from x 0 (opers_of x)) (assemble (take e march)) (instrs_from (element_at march e) 0 (opers_at march e)))
