use Rattle.std.proofs.Common.{ℕ, List}
use Rattle.jv_loader.specs.Loading.{AreLoaded}
use Rattle.jv_verify.specs.Inside.Numbered.{AreVerdictsBelow}
use Rattle.jv_verify.proofs.files.verdicts_of.Given as goal

abbrev pub invariant-loop-file : goal.invariant-loop-file
invariant-loop-file l =
    (library files : List (List ℕ)) (are : AreLoaded library files l.classes)
    → AreVerdictsBelow are.given are.contents l.file l.number l.verdicts.items
