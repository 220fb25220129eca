use Rattle.std.proofs.Common.{◌≡◌, map, take}
use Rattle.jv_limits.specs.Bytes.{bytes_of}
use Rattle.jv_program_check.proofs.named.bytes_of_texts.Given as goal

abbrev pub invariant-loop-text : goal.invariant-loop-text
invariant-loop-text l = map bytes_of l.found.items ≡ map bytes_of (take l.text-index l.texts)
