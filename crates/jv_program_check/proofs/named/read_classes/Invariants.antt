use Rattle.std.proofs.Common.{◌≡◌, map, take}
use Rattle.jv_limits.specs.Bytes.{bytes_of}
use Rattle.jv_program_check.specs.Named.{AreFilesAt}
use Rattle.jv_program_check.proofs.named.read_classes.Given as goal

abbrev pub invariant-loop-name : goal.invariant-loop-name
invariant-loop-name g l = record {
  read : AreFilesAt (g.F.Folders.disk l.fn.folders) (map bytes_of (take l.name-index l.names)) (map (λ file. file.items) l.files.items);
  disk : g.F.Folders.disk l.folders ≡ g.F.Folders.disk l.fn.folders;
}
