use Rattle.std.proofs.Common.{◌≡◌, take}
use Rattle.jv_classes.specs.Inside.KeptNames.{texts_of}
use Rattle.jv_loader.specs.Inside.Library.{bytes_of, files_at}
use Rattle.jv_loader.proofs.host.files_at.Given as goal

abbrev pub invariant-loop-place : goal.invariant-loop-place
invariant-loop-place l = texts_of l.found.items ≡ files_at (bytes_of l.files) (take l.place-index l.places)
