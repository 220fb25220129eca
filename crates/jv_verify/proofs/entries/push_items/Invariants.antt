use Rattle.std.proofs.Common.{◌≡◌, ◌++◌, take}
use Rattle.jv_verify.proofs.entries.push_items.Given as goal

abbrev pub invariant-loop-argument : goal.invariant-loop-argument
invariant-loop-argument l = l.items.items ≡ l.fn.items.items ++ take l.argument-index l.arguments
