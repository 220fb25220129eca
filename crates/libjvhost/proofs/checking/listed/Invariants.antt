use Rattle.std.proofs.Common.{◌≡◌, take, map}
use Rattle.libjvhost.specs.Told.{told_verdict}
use Rattle.libjvhost.proofs.checking.listed.Given as goal

abbrev pub invariant-loop-file : goal.invariant-loop-file
invariant-loop-file l = l.told.items ≡ map told_verdict (take l.file l.verified.verdicts)
