use Rattle.std.proofs.Common.{◌≡◌, map, take}
use Rattle.jv_verify_types.specs.Typed.{typed_all}
use Rattle.jv_stackmap.specs.Seen.{seen_type}
use Rattle.jv_verify_pass.proofs.named.named_stack.Given as goal

abbrev pub invariant-loop-depth : goal.invariant-loop-depth
invariant-loop-depth l = map seen_type l.types.items ≡ take l.depth (typed_all l.names.names l.frame.stack)
