use Rattle.std.proofs.Common.{◌≡◌, take}
use Rattle.jv_classes.specs.Inside.KeptNames.{texts_of}
use Rattle.jv_loader.specs.Inside.Library.{bytes_of, files_from}
use Rattle.jv_loader.proofs.host.lent_files.Given as goal

abbrev pub invariant-loop-place : goal.invariant-loop-place
invariant-loop-place l = texts_of l.files.items ≡ files_from (bytes_of l.own) (bytes_of l.library) 0 (take l.place l.lenders)
