-- Public. The files of a host in memory as plain data.
use Rattle.std.specs.Prelude.{List, map, string_bytes}
use Rattle.bist_host.specs.declared.mem_host.MemFile.{MemFile}
use Rattle.bist_host.specs.MemHost.{NamedFile}

abbrev pub named_file : MemFile → NamedFile
named_file f = record { name = string_bytes f.name; bytes = f.bytes.items }

abbrev pub named_files : List MemFile → List NamedFile
named_files files = map named_file files
