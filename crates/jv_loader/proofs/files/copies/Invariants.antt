use Rattle.std.proofs.Common.{◌≡◌, take}
use Rattle.jv_classes.specs.Inside.KeptNames.{texts_of}
use Rattle.jv_loader.specs.Inside.Library.{bytes_of}
use Rattle.jv_loader.proofs.files.copies.Given as goal

abbrev pub invariant-loop-file : goal.invariant-loop-file
invariant-loop-file l = bytes_of l.copies.items ≡ texts_of (take l.file-index l.files)
