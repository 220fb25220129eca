use Rattle.std.proofs.Common.{◌≡◌, map, take}
use Rattle.jv_limits.specs.Bytes.{bytes_of}
use Rattle.jv_program_run.specs.Named.{AreFoldersOf}
use Rattle.jv_program_run.proofs.named.read_folders.Given as goal

abbrev pub invariant-loop-word : goal.invariant-loop-word
invariant-loop-word g l = record {
  read : AreFoldersOf (g.F.Folders.disk l.fn.folders) (map bytes_of (take l.word-index l.words)) l.read.items;
  disk : g.F.Folders.disk l.folders ≡ g.F.Folders.disk l.fn.folders;
}
