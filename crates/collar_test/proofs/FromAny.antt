-- A march on a memory from any good state, at once: where some reply differs some read is answered wrong, and where each is right each is right.
use Rattle.std.proofs.Common.{◌≡◌, ◌<◌, ◌^◌, ◌%◌, ℕ, zero, suc, Bool, false, Some, List, [], ◌∷◌, All, map, refl, ap, sym, subst, ◌∙◌, arith}
use Rattle.std.specs.Prelude.{slice_get, slice_index, bit_xor}
use Rattle.std.proofs.Math.Nat.{mod-eq_of_lt}
use Rattle.std.proofs.lemmas.Option.{get_or_from_slice_get}
use Rattle.march_core.specs.March.{MarchElement}
use Rattle.memory_desc.specs.Descriptions.{Description, IsMemory}
use Rattle.word_march.specs.declared.operations.WordOp.{WordOp}
use Rattle.word_march.specs.declared.operations.PortOp.{PortOp}
use Rattle.word_march.specs.Commands.{word_steps, word_ops, port_op, port_ops, slots, command_at}
use Rattle.word_march.proofs.Words.{commands_fit}
use Rattle.word_device.specs.declared.device.PortCmd.{PortCmd}
use Rattle.word_device.specs.Ports.{shape_of, shown}
use Rattle.word_device.specs.Runs.{AreSlots, IsRight, SomeWrong}
use Rattle.word_device.proofs.Core.{SomeReplyDiffers, AllRepliesRight}
use Rattle.word_device.proofs.Porting.{march_in_memory}
use Rattle.word_device.specs.Memories.{Behaviour, Memory}
use Rattle.word_device.specs.Answers.{own_answers}
use Rattle.word_device.proofs.Answering.{IsLawful, answers_of_slots, replies, answer_in_run}
use Rattle.word_device.proofs.Attaching.{command_of_operation, low_shown}

operation_at : (d : Description) (os : List WordOp) (j : ℕ) (c : PortOp) → slice_get (map (port_op d) os) j ≡ Some c
    → (o : WordOp) × (slice_get os j ≡ Some o) × (port_op d o ≡ c)
operation_at d [] j c e = cc
operation_at d (x ∷ os) zero c e = (x, refl, cc)
operation_at d (x ∷ os) (suc j) c e = operation_at d os j c e

fits_at : (bits : ℕ) (os : List PortOp) → All (λ o. o.word < 2 ^ bits) os → (j : ℕ) (o : PortOp) → slice_get os j ≡ Some o → o.word < 2 ^ bits
fits_at bits [] all j o e = cc
fits_at bits (x ∷ os) all zero o e =
    let same : x ≡ o = cc in
    subst (λ (y : PortOp). y.word < 2 ^ bits) same (all 0 x (omega arith))
fits_at bits (x ∷ os) all (suc j) o e = fits_at bits os (λ k y l. all (suc k) y (omega arith)) j o e

module _ {S : Type 0} (b : Behaviour S) (Good : S → Type 0) (lawful : IsLawful b Good) (march : List MarchElement) (d : Description) (m : IsMemory d) (s : S) (good : Good s)
    (pending : List ℕ) (idle : ℕ) (cmds : List PortCmd) (are : AreSlots (slots march d) cmds) where
  abbrev memory : Memory S
  memory = record { state = s; pending = pending; idle = idle }

  abbrev pub answer : ℕ → ℕ
  answer j = slice_index (own_answers b (shape_of d) (record { state = s; pending = pending; idle = idle }) cmds) (command_at march d j)

  shows : (j : ℕ) (o : WordOp) (r : ℕ) → slice_get (word_ops march d) j ≡ Some o → o.write ≡ false
      → slice_get (replies b Good lawful s (word_steps march d)) j ≡ Some r → answer j ≡ bit_xor r d.polarity
  shows j o r op read reply =
      let found = answer_in_run b Good lawful d m (word_steps march d) (march_in_memory march d m) s pending idle good j o r op reply in
      ap (λ (l : List ℕ). slice_index l (command_at march d j)) (answers_of_slots b Good lawful (shape_of d) (slots march d) cmds are memory)
      ∙ get_or_from_slice_get _ (command_at march d j) _ 0 found
      ∙ ap (λ (w : Bool). shown w d.polarity r) read

  pub fails_from : SomeReplyDiffers d.bits (word_steps march d) (replies b Good lawful s (word_steps march d)) → SomeWrong march d (λ j. answer j % 2 ^ d.bits)
  fails_from found =
      let shown_ : answer found.number ≡ bit_xor found.reply d.polarity = shows found.number found.op found.reply found.is_op found.is_read found.is_reply in (
        found.number,
        record {
          command = port_op d found.op;
          is_command = command_of_operation d (word_ops march d) found.number found.op found.is_op;
          is_read = found.is_read;
          differs = λ same. found.differs (low_shown d.bits d.polarity found.reply found.op.word m.polarity (ap (λ (n : ℕ). n % 2 ^ d.bits) (sym shown_) ∙ same));
        },
      )

  pub passes_from : AllRepliesRight (word_steps march d) (replies b Good lawful s (word_steps march d)) → (j : ℕ) → IsRight march d (λ k. answer k % 2 ^ d.bits) j
  passes_from right j command is_command is_read =
      let from = operation_at d (word_ops march d) j command is_command in
      let read : from.0.write ≡ false = ap (λ (c : PortOp). c.write) from.2 ∙ is_read in
      let whole : answer j ≡ command.word = shows j from.0 from.0.word from.1 read (right j from.0 from.1 read) ∙ ap (λ (c : PortOp). c.word) from.2 in
      ap (λ (n : ℕ). n % 2 ^ d.bits) whole ∙ mod-eq_of_lt (fits_at d.bits (port_ops march d) (commands_fit march d m) j command is_command)
