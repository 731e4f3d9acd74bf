-- Public. Values that stand at places, of whatever kind.
use Rattle.std.specs.Prelude.{ℕ, ◌+◌, cond, nat_lt, List, [], ◌∷◌, length, slice_set}
use Rattle.verilog_code.specs.declared.code.Code.{Code}

-- these values with x at place n, where they have one
abbrev pub put : {A : Type 0} → List A → ℕ → A → List A
put vs n x = cond (nat_lt n (length vs)) (slice_set vs n x) vs

-- these put from place k on
abbrev pub put_all : {A : Type 0} → ℕ → List A → List A → List A
put_all k [] vs = vs
put_all k (x ∷ xs) vs = put_all (k + 1) xs (put vs k x)

-- the values, with those of codes from place k on computed in order, each from what stands there by then
abbrev pub settled : {A : Type 0} → (List A → Code → A) → ℕ → List Code → List A → List A
settled meaning k [] vs = vs
settled meaning k (c ∷ cs) vs = settled meaning (k + 1) cs (put vs k (meaning vs c))

-- what blocks in order do to the next values, by what actions in order do
abbrev pub run_blocks : {A D : Type 0} → (List D → List A → List A → List A) → List (List D) → List A → List A → List A
run_blocks run_all [] vs old = old
run_blocks run_all (b ∷ bs) vs old = run_blocks run_all bs vs (run_all b vs old)
