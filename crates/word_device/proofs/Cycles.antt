-- Where the commands of a run stand in its cycles.
use Rattle.std.proofs.Common.{◌≡◌, ℕ, false, ◌<◌, List, length, slice_get, Some, subst}
use Rattle.std.proofs.lemmas.Option.{slice_get_within, slice_get-get_or}
use Rattle.std.specs.List.{slice_index_or}
use Rattle.march_core.specs.March.{MarchElement}
use Rattle.word_march.specs.declared.operations.PortOp.{PortOp}
use Rattle.memory_desc.specs.Descriptions.{Description}
use Rattle.word_march.specs.Commands.{word_steps, port_ops, command_count, command_at, span, slots}
use Rattle.word_march.proofs.Spread.{length-cycles, command_stands, only_commands}

module _ (march : List MarchElement) (d : Description) where
  -- the run takes as many cycles as it spans
  pub length-slots : length (slots march d) ≡ span march d
  length-slots = length-cycles d (word_steps march d)

  -- a command stands in its cycle
  pub stands : (j : ℕ) (c : PortOp) → slice_get (port_ops march d) j ≡ Some c → slice_get (slots march d) (command_at march d j) ≡ Some (Some c)
  stands j c h = command_stands d (word_steps march d) j c h

  -- and nothing else does in any cycle
  pub only : (k : ℕ) (c : PortOp) → slice_get (slots march d) k ≡ Some (Some c)
      → (j : ℕ) × (slice_get (port_ops march d) j ≡ Some c) × (k ≡ command_at march d j)
  only k c h = only_commands d (word_steps march d) k c h

  blank : PortOp
  blank = record { write = false; addr = 0; word = 0 }

  -- each number below the count has a command
  pub some_command : (j : ℕ) → j < command_count march d → (c : PortOp) × (slice_get (port_ops march d) j ≡ Some c)
  some_command j h = (slice_index_or (port_ops march d) j blank, slice_get-get_or (port_ops march d) j blank h)

  pub at_within : (j : ℕ) → j < command_count march d → command_at march d j < span march d
  at_within j h =
      let c = some_command j h in
      subst (λ (n : ℕ). command_at march d j < n) length-slots
      (slice_get_within (slots march d) (command_at march d j) (Some c.0) (stands j c.0 c.1))
