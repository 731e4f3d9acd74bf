use Rattle.std.proofs.Common.{◌≡◌, take, None}
use Rattle.bist_host.specs.MemHost.{file_of}
use Rattle.bist_host.specs.MemFile.{named_files}
use Rattle.bist_host.proofs.mem_host.place_of.Given as goal

abbrev pub invariant-loop-i : goal.invariant-loop-i
invariant-loop-i l = file_of (take l.i (named_files l.files)) l.name ≡ None
