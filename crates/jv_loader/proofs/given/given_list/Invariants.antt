use Rattle.std.proofs.Common.{take}
use Rattle.jv_classes.specs.Inside.KeptNames.{texts_of}
use Rattle.jv_loader.specs.Inside.Given.{AreGiven}
use Rattle.jv_loader.proofs.given.given_list.Given as goal

abbrev pub invariant-loop-place : goal.invariant-loop-place
invariant-loop-place l = AreGiven (texts_of (take l.place l.files)) l.list
