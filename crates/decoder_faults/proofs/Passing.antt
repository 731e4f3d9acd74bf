-- An array whose decoder has a fault, seen from its two cells.
use Rattle.std.proofs.Common.{◌≡◌, ◌≢◌, ℕ, Bool, false, nat_lt, Some, None, List, length, map, refl, ap, sym, ◌∙◌}
use Rattle.std.proofs.lemmas.List.{get_or-set_other}
use Rattle.std.specs.Prelude.{slice_set}
use Rattle.fault_core.specs.declared.primitive.Act.{Act}
use Rattle.fault_core.specs.declared.primitive.Act.TheVariants.{Write, Read, Pause}
use Rattle.fault_core.specs.Cells.{cell}
use Rattle.march_core.specs.declared.operation.Op.{Op}
use Rattle.march_core.specs.Operation.{is_wrong_of}
use Rattle.march_core.specs.Visits.{Visit, MarchStep, pausing, visiting, Direction, addresses}
use Rattle.array_sim.specs.Run.{act_of}
use Rattle.cell_machine.specs.declared.pair.Pair.{Pair}
use Rattle.cell_machine.specs.declared.pair.Side.{Side}
use Rattle.cell_machine.specs.declared.pair.Side.TheVariants.{A, V}
use Rattle.pair_tracker.specs.Few.{cells_run}
use Rattle.pair_tracker.specs.Pairs.{sides_in}
use Rattle.pair_tracker.proofs.Few.{Sees}
use Rattle.pair_tracker.proofs.Machines.{same_pair}
use Rattle.pair_tracker.proofs.Tags.{side_at, side_is, no_side, kept_does, pair_ordered}
use Rattle.decoder_faults.specs.declared.fault.DecoderFault.{DecoderFault}
use Rattle.decoder_faults.specs.Decoding.{AddressPair, FitsPair, Decoder, one_cell, reach_of, HasFault, act_through, answer_through}
use Rattle.decoder_faults.specs.Detection.{cells_behind, is_wrong_there}
use Rattle.decoder_faults.specs.inner.Pairs.{side_reach, machine_of}
use Rattle.decoder_faults.proofs.Seen.{seen, placed, x_reaches, y_reaches, reach_here, reach_elsewhere, plain_there, plainly_answered, length-act_through, answer_seen, act_seen, act_leaves}

-- the decoder of the fault alone has it
pub has_alone : (fault : DecoderFault) (at : AddressPair) → at.x ≢ at.y → HasFault (reach_of fault at) fault at
has_alone fault at apart = record { at_x = reach_here fault at apart A ∙ sym (x_reaches fault at); at_y = reach_here fault at apart V ∙ sym (y_reaches fault at) }

-- any other address leaves both cells
spared_pair : (at : AddressPair) (z : ℕ) (cells : List Bool) (act : Act) → z ≢ at.x → z ≢ at.y → seen at (act_through (one_cell z) cells act) ≡ seen at cells
spared_pair at z cells (Write bit) zx zy =
    same_pair at.x at.y (slice_set cells z bit) cells (get_or-set_other cells z at.x bit false (λ e. zx (sym e))) (get_or-set_other cells z at.y bit false (λ e. zy (sym e)))
spared_pair at z cells Read zx zy = refl
spared_pair at z cells Pause zx zy = refl

-- how an array looks from the two cells
module _ (fault : DecoderFault) (at : AddressPair) (n : ℕ) (fits : FitsPair at n) where
  abbrev decoder : Decoder
  decoder = reach_of fault at

  reaches : (v : Visit) (s : Side) → side_at at.x at.y v.address ≡ Some s → decoder v.address ≡ placed at (side_reach fault s)
  reaches v s e = ap decoder (side_is at.x at.y v.address s e) ∙ reach_here fault at fits.apart s

  elsewhere : (v : Visit) → side_at at.x at.y v.address ≡ None → decoder v.address ≡ one_cell v.address
  elsewhere v out = let off = no_side at.x at.y v.address out in reach_elsewhere fault at v.address off.0 off.1

  keeps : (cells : List Bool) (step : MarchStep) → length cells ≡ n → length (cells_behind decoder cells step) ≡ n
  keeps cells (pausing e) size = size
  keeps cells (visiting v) size = length-act_through (decoder v.address) cells (act_of v.op) ∙ size

  pub decoder_sees : Sees (cells_behind decoder) (is_wrong_there decoder) (λ cells. cells) (seen at) (side_at at.x at.y) n (machine_of fault) (λ cells. length cells ≡ n) (Unit {0})
  decoder_sees = record {
    size = λ strict cells size. size;
    holds = keeps;
    own_wrong = λ cells v s e within size.
        ap (is_wrong_of v.op) (ap (λ r. answer_through r cells (act_of v.op)) (reaches v s e) ∙ answer_seen at (side_reach fault s) cells (act_of v.op));
    own_seen = λ cells v s e within size.
        ap (λ r. seen at (act_through r cells (act_of v.op))) (reaches v s e) ∙ act_seen at n fits (side_reach fault s) cells (act_of v.op) size;
    own_leaves = λ strict cells v s y e out size.
        let off = no_side at.x at.y y out in
        ap (λ r. cell (act_through r cells (act_of v.op)) y) (reaches v s e) ∙ act_leaves at (side_reach fault s) cells (act_of v.op) y off.0 off.1;
    other_wrong = λ strict cells v out within size.
        ap (is_wrong_of v.op) (ap (λ r. answer_through r cells (act_of v.op)) (elsewhere v out) ∙ plainly_answered v.address cells (act_of v.op));
    other_seen = λ cells v out within size.
        let off = no_side at.x at.y v.address out in
        ap (λ r. seen at (act_through r cells (act_of v.op))) (elsewhere v out) ∙ spared_pair at v.address cells (act_of v.op) off.0 off.1;
    other_cells = λ strict cells v out within size. ap (λ r. act_through r cells (act_of v.op)) (elsewhere v out) ∙ plain_there v.address cells (act_of v.op);
    other_twice = λ q. refl;
    pause_seen = λ cells e size. refl;
    pause_leaves = λ strict cells e y out size. refl;
  }

pub sides_ordered : (fault : DecoderFault) (at : AddressPair) (n : ℕ) → FitsPair at n → (d : Direction) (q : Pair) (ops : List Op)
    → cells_run (machine_of fault) q (map (side_at at.x at.y) (addresses d n)) ops ≡ cells_run (machine_of fault) q (sides_in (nat_lt at.x at.y) d) ops
sides_ordered fault at n fits d q ops =
    kept_does (machine_of fault) (λ q. refl) q (map (side_at at.x at.y) (addresses d n)) ops
    ∙ ap (λ ts. cells_run (machine_of fault) q ts ops) (pair_ordered at.x at.y n fits.apart fits.x_within fits.y_within d)
