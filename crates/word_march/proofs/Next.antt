-- What an iterator gives next.
use Rattle.std.proofs.Common.{◌≡◌, ℕ, ◌^◌, ◌<◌, List, ◌∷◌, map, length, slice_index, slice_get, Some, sym, ◌∙◌, ap, arith}
use Rattle.std.proofs.lemmas.Option.{slice_get-get_or}
use Rattle.std.specs.List.{slice_index_or}
use Rattle.march_core.specs.declared.operation.Op.{Op}
use Rattle.march_core.specs.declared.operation.Op.TheVariants.{W0}
use Rattle.march_core.specs.March.{MarchElement, ops_at}
use Rattle.memory_desc.specs.Descriptions.{Description, IsMemory}
use Rattle.word_march.specs.declared.operations.WordOp.{WordOp}
use Rattle.word_march.specs.declared.place.MarchPlace.{MarchPlace}
use Rattle.word_march.specs.Commands.{word_op, port_op, port_ops}
use Rattle.word_march.specs.Standing.{IsPlace, ops_left}
use Rattle.word_march.specs.inner.Standing.{IsFirst, Follows, visit_at}
use Rattle.word_march.proofs.Left.{left_step, all_left}

-- the operation of a place comes first
pub next_operation : (march : List MarchElement) (d : Description) (p q : MarchPlace) (r : WordOp) → IsPlace march d p → p.background < length d.backgrounds
    → ((op : Op) → slice_get (ops_at march p.element) p.op ≡ Some op → r ≡ word_op d.bits (slice_index d.backgrounds p.background) (visit_at march d.words p op))
    → Follows march d p q → ops_left march d p ≡ r ∷ ops_left march d q
next_operation march d p q r place more is behind =
    let op = slice_index_or (ops_at march p.element) p.op W0 in
    let there : slice_get (ops_at march p.element) p.op ≡ Some op = slice_get-get_or (ops_at march p.element) p.op W0 place.op in
    let step = place.step in
    left_step march d p q op (omega arith) place more there behind
    ∙ ap (λ (x : WordOp). x ∷ ops_left march d q) (sym (is op there))

-- and so at the port
pub next_command : (march : List MarchElement) (d : Description) (p q : MarchPlace) (r : WordOp) → ops_left march d p ≡ r ∷ ops_left march d q
    → map (port_op d) (ops_left march d p) ≡ port_op d r ∷ map (port_op d) (ops_left march d q)
next_command march d p q r e = ap (map (port_op d)) e

-- an index is a vector of the scrambling
pub index_fits : (d : Description) (k : ℕ) → IsMemory d → k < d.words → k < 2 ^ d.scramble.width
index_fits d k m h = let holds = m.address.holds in omega arith

-- all commands are left at the first place
pub all_commands : (march : List MarchElement) (d : Description) (p : MarchPlace) → IsFirst march 0 p → 0 < d.words
    → port_ops march d ≡ map (port_op d) (ops_left march d p)
all_commands march d p first w = ap (map (port_op d)) (all_left march d p first w)
