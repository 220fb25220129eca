use Rattle.std.proofs.Common.{◌≡◌, length}
use Rattle.jv_classes.specs.Inside.KeptNames.{texts_of}
use Rattle.jv_classes.specs.Inside.NameLinks.{AreLinkedTo}
use Rattle.jv_classes.proofs.names.link_all.Given as goal

abbrev pub invariant-loop-place : goal.invariant-loop-place
invariant-loop-place l = record {
  many : length l.before.items ≡ length l.names;
  linked : AreLinkedTo l.seed (length l.initial.ends.items) (texts_of l.names) l.place l.before.items l.ends.items;
}
