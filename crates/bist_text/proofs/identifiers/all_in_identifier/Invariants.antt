use Rattle.std.proofs.Common.{◌≡◌, drop}
use Rattle.bist_text.specs.Identifiers.{in_identifier}
use Rattle.std.specs.List.{list_all}
use Rattle.bist_text.proofs.identifiers.all_in_identifier.Given as goal

abbrev pub invariant-loop-c : goal.invariant-loop-c
invariant-loop-c l = list_all in_identifier (drop l.c-index l.bytes) ≡ list_all in_identifier l.bytes
