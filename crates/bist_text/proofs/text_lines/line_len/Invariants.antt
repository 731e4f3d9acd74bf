use Rattle.std.proofs.Common.{◌≡◌, ◌+◌, drop}
use Rattle.std.specs.Char.{is_newline}
use Rattle.std.specs.List.{position_or_len}
use Rattle.bist_text.proofs.text_lines.line_len.Given as goal

abbrev pub invariant-loop-i : goal.invariant-loop-i
invariant-loop-i l = position_or_len is_newline (drop l.i l.bytes) + l.i ≡ position_or_len is_newline l.bytes
