-- How many commands there are, and how many pauses.
use Rattle.std.proofs.Common.{◌≡◌, ℕ, zero, suc, ◌+◌, ◌*◌, ◌<◌, ◌≤◌, true, false, Option, Some, None, List, [], ◌∷◌, ◌++◌, take, map, arith, length, refl, sym, ◌∙◌, ap, length-append}
use Rattle.std.proofs.Math.Nat.{add_comm, mul-zero, zero-mul, suc-mul, mul-suc, add-mul}
use Rattle.std.proofs.Math.Path.{ap₂}
use Rattle.std.proofs.lemmas.Nat.{mul-le}
use Rattle.std.proofs.lemmas.List.{length-map, map-append}
use Rattle.std.specs.List.{flat_map}
use Rattle.march_core.specs.declared.operation.Op.{Op}
use Rattle.march_core.specs.March.{MarchElement, pause, sweep, order_of, ops_of, all_ops, is_pause_at}
use Rattle.march_core.specs.Visits.{Visit, cell_visits, addresses, address_visits, visiting, visits_from}
use Rattle.memory_desc.specs.Descriptions.{Description}
use Rattle.march_core.specs.Runs.{upward, up}
use Rattle.word_march.specs.Commands.{word_op, word_step, run_in, word_steps, word_ops, port_op, command_count, pauses, span}
use Rattle.word_march.specs.Standing.{sweeps_from, run_ops}
use Rattle.word_march.specs.inner.Standing.{pause_count}
use Rattle.march_core.proofs.Addresses.{length-addresses}
use Rattle.word_march.proofs.Left.{runs_are}

length-cell_visits : (element address number : ℕ) (ops : List Op) → length (cell_visits element address number ops) ≡ length ops
length-cell_visits element address number [] = refl
length-cell_visits element address number (op ∷ ops) = ap suc (length-cell_visits element address (number + 1) ops)

length-address_visits : (element : ℕ) (ops : List Op) (xs : List ℕ) → length (address_visits element ops xs) ≡ length ops * length xs
length-address_visits element ops [] = sym (mul-zero (length ops))
length-address_visits element ops (x ∷ xs) =
    let rest = length-address_visits element ops xs in
    let cell = length-cell_visits element x 0 ops in
    length-append (cell_visits element x 0 ops) (address_visits element ops xs) ∙ ap₂ (λ (a b : ℕ). a + b) cell rest
    ∙ add_comm (length ops) (length ops * length xs) ∙ sym (mul-suc (length ops) (length xs))

length-sweeps : (element size : ℕ) (march : List MarchElement) → length (sweeps_from element march size) ≡ length (all_ops march) * size
length-sweeps element size [] = sym (zero-mul size)
length-sweeps element size (e ∷ march) =
    let rest = length-sweeps (element + 1) size march in
    let first = length-address_visits element (ops_of e) (addresses (upward (order_of e)) size) in
    let count = length-addresses (upward (order_of e)) size in
    length-append (address_visits element (ops_of e) (addresses (upward (order_of e)) size)) (sweeps_from (element + 1) march size)
    ∙ ap₂ (λ (a b : ℕ). a + b) (first ∙ ap (λ (n : ℕ). length (ops_of e) * n) count) rest
    ∙ sym (add-mul (length (ops_of e)) (length (all_ops march)) size)
    ∙ ap (λ (n : ℕ). n * size) (sym (length-append (ops_of e) (all_ops march)))

length-each : {A : Type 0} (f : ℕ → List A) (n : ℕ) (bs : List ℕ) → ((b : ℕ) → length (f b) ≡ n) → length (flat_map f bs) ≡ length bs * n
length-each f n [] h = sym (zero-mul n)
length-each f n (b ∷ bs) h =
    length-append (f b) (flat_map f bs) ∙ ap₂ (λ (a c : ℕ). a + c) (h b) (length-each f n bs h) ∙ add_comm n (length bs * n) ∙ sym (suc-mul (length bs) n)

-- operations, times words, times backgrounds
pub command_count_is : (march : List MarchElement) (d : Description)
    → command_count march d ≡ length d.backgrounds * (length (all_ops march) * d.words)
command_count_is march d =
    length-map (word_ops march d) (port_op d) ∙ ap length (runs_are march d)
    ∙ length-each (run_ops march d) (length (all_ops march) * d.words) d.backgrounds
    (λ b. length-map (sweeps_from 0 march d.words) (word_op d.bits b) ∙ length-sweeps 0 d.words march)

-- ---- the pauses

pub pauses_both : {A : Type 0} (xs ys : List (Option A)) → pauses (xs ++ ys) ≡ pauses xs + pauses ys
pauses_both [] ys = omega arith
pauses_both (None ∷ xs) ys = let h = pauses_both xs ys in omega arith
pauses_both (Some o ∷ xs) ys = pauses_both xs ys

module _ (bits b size : ℕ) where
  in_visits : (vs : List Visit) → pauses (map (word_step bits b) (map visiting vs)) ≡ 0
  in_visits [] = refl
  in_visits (v ∷ vs) = in_visits vs

  in_run : (e : ℕ) (march : List MarchElement) → pauses (map (word_step bits b) (visits_from e march (up march) size)) ≡ pause_count march
  in_run e [] = refl
  in_run e (pause ∷ march) = ap suc (in_run (e + 1) march)
  in_run e (sweep order ops ∷ march) =
      let here = address_visits e ops (addresses (upward order) size) in
      let more = visits_from (e + 1) march (up march) size in
      let none = in_visits here in
      let rest = in_run (e + 1) march in
      ap pauses (map-append (word_step bits b) (map visiting here) more)
      ∙ pauses_both (map (word_step bits b) (map visiting here)) (map (word_step bits b) more) ∙ omega arith

pauses_each : (march : List MarchElement) (d : Description) (bs : List ℕ) → pauses (flat_map (run_in march d) bs) ≡ length bs * pause_count march
pauses_each march d [] = sym (zero-mul (pause_count march))
pauses_each march d (b ∷ bs) =
    pauses_both (run_in march d b) (flat_map (run_in march d) bs)
    ∙ ap₂ (λ (m n : ℕ). m + n) (in_run d.bits b d.words 0 march) (pauses_each march d bs)
    ∙ add_comm (pause_count march) (length bs * pause_count march) ∙ sym (suc-mul (length bs) (pause_count march))

-- each pause in each background
pub pauses_are : (march : List MarchElement) (d : Description) → pauses (word_steps march d) ≡ length d.backgrounds * pause_count march
pauses_are march d = pauses_each march d d.backgrounds

pub span_is : (march : List MarchElement) (d : Description) (count idle backgrounds elements : ℕ) → count ≡ command_count march d → idle ≡ d.pause
    → backgrounds ≡ length d.backgrounds → elements ≡ pause_count march → count + idle * (backgrounds * elements) ≡ span march d
span_is march d count idle backgrounds elements c i b e =
    ap₂ (λ (m n : ℕ). m + n) c (ap₂ (λ (m n : ℕ). m * n) i (ap₂ (λ (m n : ℕ). m * n) b e ∙ sym (pauses_are march d)))

-- one element more
pub pause_more : (march : List MarchElement) (i : ℕ) → i < length march → is_pause_at march i ≡ true → pause_count (take (i + 1) march) ≡ pause_count (take i march) + 1
pause_more [] i h p = absurd (omega arith)
pause_more (pause ∷ march) zero h p = refl
pause_more (sweep order ops ∷ march) zero h p = cc
pause_more (x ∷ march) (suc i) h p =
    let on : suc i + 1 ≡ suc (i + 1) = omega arith in
    let rest = pause_more march i (omega arith) p in
    ap (λ (n : ℕ). pause_count (take n (x ∷ march))) on ∙ first x rest
  where
    first : (x : MarchElement) → pause_count (take (i + 1) march) ≡ pause_count (take i march) + 1
        → pause_count (x ∷ take (i + 1) march) ≡ pause_count (x ∷ take i march) + 1
    first pause e = omega arith
    first (sweep order ops) e = e

pub sweep_more : (march : List MarchElement) (i : ℕ) → i < length march → is_pause_at march i ≡ false → pause_count (take (i + 1) march) ≡ pause_count (take i march)
sweep_more [] i h p = absurd (omega arith)
sweep_more (pause ∷ march) zero h p = cc
sweep_more (sweep order ops ∷ march) zero h p = refl
sweep_more (x ∷ march) (suc i) h p =
    let on : suc i + 1 ≡ suc (i + 1) = omega arith in
    let rest = sweep_more march i (omega arith) p in
    ap (λ (n : ℕ). pause_count (take n (x ∷ march))) on ∙ first x rest
  where
    first : (x : MarchElement) → pause_count (take (i + 1) march) ≡ pause_count (take i march) → pause_count (x ∷ take (i + 1) march) ≡ pause_count (x ∷ take i march)
    first pause e = ap suc e
    first (sweep order ops) e = e

-- the limits of marches and memories
pub run_small : (operations words : ℕ) → operations ≤ 256 → words ≤ 65536 → operations * words ≤ 16777216
run_small operations words h w = mul-le operations words 256 65536 h w

pub runs_small : (backgrounds run : ℕ) → backgrounds ≤ 8 → run ≤ 16777216 → backgrounds * run ≤ 134217728
runs_small backgrounds run h r = mul-le backgrounds run 8 16777216 h r
