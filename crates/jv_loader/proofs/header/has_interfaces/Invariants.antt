use Rattle.std.proofs.Common.{◌≡◌, take}
use Rattle.jv_classes.specs.Inside.KeptNames.{texts_of}
use Rattle.jv_loader.proofs.header.has_interfaces.Given as goal

abbrev pub invariant-loop-place : goal.invariant-loop-place
invariant-loop-place l = take l.place l.class.class.interfaces ≡ take l.place (texts_of l.interfaces)
