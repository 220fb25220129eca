use Rattle.std.proofs.Common.{◌≡◌, map, take}
use Rattle.std.specs.Prelude.{All}
use Rattle.jv_limits.specs.Bytes.{bytes_of}
use Rattle.jv_program_base.specs.Folder.{IsFileIn, file_name}
use Rattle.jv_program_base.proofs.folder.read_class_files.Given as goal

abbrev pub invariant-loop-name : goal.invariant-loop-name
invariant-loop-name g l = record {
  named : map file_name l.class_files.items ≡ map bytes_of (take l.name-index l.names);
  read : All (IsFileIn (g.F.Folders.disk l.fn.folders) l.folder) l.class_files.items;
  disk : g.F.Folders.disk l.folders ≡ g.F.Folders.disk l.fn.folders;
}
