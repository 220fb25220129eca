use Rattle.std.proofs.Common.{take}
use Rattle.jv_classes.specs.Inside.KeptNames.{texts_of}
use Rattle.jv_loader.specs.Inside.Files.{ArePut}
use Rattle.jv_loader.proofs.entry.put_files.Given as goal

abbrev pub invariant-loop-file : goal.invariant-loop-file
invariant-loop-file l = ArePut (texts_of (take l.file-index l.files)) l.fn.list l.list l.entries.items
