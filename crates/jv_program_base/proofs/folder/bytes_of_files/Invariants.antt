use Rattle.std.proofs.Common.{◌≡◌, map, take}
use Rattle.jv_limits.specs.Bytes.{bytes_of}
use Rattle.jv_program_base.specs.Folder.{file_bytes}
use Rattle.jv_program_base.proofs.folder.bytes_of_files.Given as goal

abbrev pub invariant-loop-file : goal.invariant-loop-file
invariant-loop-file l = map bytes_of l.found.items ≡ map file_bytes (take l.file-index l.files)
