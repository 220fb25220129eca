use Rattle.std.proofs.Common.{◌≤◌, length, take}
use Rattle.jv_lookups.specs.Inside.FinalNumbers.{AreTheirs}
use Rattle.jv_lookups.proofs.packages.package_numbers.Given as goal

abbrev pub invariant-loop-class : goal.invariant-loop-class
invariant-loop-class l = record {
  theirs : AreTheirs l.names (take l.class-index l.classes) l.numbers.items;
  few : length l.names ≤ l.class-index;
}
