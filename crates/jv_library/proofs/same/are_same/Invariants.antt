use Rattle.std.proofs.Common.{◌≡◌, take}
use Rattle.jv_library.proofs.same.are_same.Given as goal

abbrev pub invariant-loop-file : goal.invariant-loop-file
invariant-loop-file l = take l.file l.one ≡ take l.file l.other
