-- The words of the commands.
use Rattle.std.proofs.Common.{ℕ, suc, sym, subst, ◌^◌, ◌<◌, Bool, true, false, List, [], ◌∷◌, All, arith}
use Rattle.std.specs.List.{slice_index_or}
use Rattle.std.proofs.lemmas.List.Concat.{flat_map-cons}
use Rattle.std.proofs.lemmas.List.Elements.{All-map, All-nil, All-append}
use Rattle.std.proofs.lemmas.Nat.{pow_pos, xor_lt}
use Rattle.std.specs.List.{flat_map}
use Rattle.march_core.specs.March.{MarchElement}
use Rattle.backgrounds.specs.Backgrounds.{word_of}
use Rattle.memory_desc.specs.Descriptions.{Description, IsMemory}
use Rattle.word_march.specs.declared.operations.WordOp.{WordOp}
use Rattle.word_march.specs.declared.operations.PortOp.{PortOp}
use Rattle.march_core.specs.Runs.{data_value}
use Rattle.word_march.specs.Commands.{word_op, word_ops, port_op, port_ops}
use Rattle.word_march.specs.Standing.{sweeps_from, run_ops}
use Rattle.word_march.proofs.Left.{runs_are}

word_fits : (bits background : ℕ) (value : Bool) → background < 2 ^ bits → word_of background value bits < 2 ^ bits
word_fits bits background false h = h
word_fits bits background true h = let some = pow_pos bits in omega arith

all_rest : (P : ℕ → Type 0) (x : ℕ) (xs : List ℕ) → All P (x ∷ xs) → P x × All P xs
all_rest P x xs h = (h 0 0 (omega arith), λ k d l. h (suc k) d (omega arith))

run_fits : (march : List MarchElement) (d : Description) (background : ℕ) → background < 2 ^ d.bits
    → All (λ o. o.word < 2 ^ d.bits) (run_ops march d background)
run_fits march d background h =
    All-map (λ (o : WordOp). o.word < 2 ^ d.bits) (word_op d.bits background) (sweeps_from 0 march d.words)
    (λ k v l. word_fits d.bits background (data_value (slice_index_or (sweeps_from 0 march d.words) k v).op) h)

runs_fit : (march : List MarchElement) (d : Description) (set : List ℕ) → All (λ b. b < 2 ^ d.bits) set
    → All (λ o. o.word < 2 ^ d.bits) (flat_map (run_ops march d) set)
runs_fit march d [] h = All-nil (λ (o : WordOp). o.word < 2 ^ d.bits)
runs_fit march d (b ∷ set) h =
    let parts = all_rest (λ b. b < 2 ^ d.bits) b set h in
    subst (λ (os : List WordOp). All (λ o. o.word < 2 ^ d.bits) os) (sym (flat_map-cons (run_ops march d) b set))
    (All-append (λ (o : WordOp). o.word < 2 ^ d.bits) (run_ops march d b) (flat_map (run_ops march d) set) (run_fits march d b parts.0) (runs_fit march d set parts.1))

-- a command's word has no more bits than the memory's words
pub commands_fit : (march : List MarchElement) (d : Description) → IsMemory d → All (λ o. o.word < 2 ^ d.bits) (port_ops march d)
commands_fit march d m =
    let fit : All (λ o. o.word < 2 ^ d.bits) (word_ops march d) =
    subst (λ (os : List WordOp). All (λ o. o.word < 2 ^ d.bits) os) (sym (runs_are march d)) (runs_fit march d d.backgrounds m.tested.fit) in
    All-map (λ (o : PortOp). o.word < 2 ^ d.bits) (port_op d) (word_ops march d)
    (λ k o l. xor_lt d.bits (slice_index_or (word_ops march d) k o).word d.polarity (fit k o l) m.polarity)
