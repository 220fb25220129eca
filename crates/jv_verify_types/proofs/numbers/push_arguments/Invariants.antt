use Rattle.std.proofs.Common.{◌≡◌, map, take}
use Rattle.jv_text.specs.Seen.{seen_field_type}
use Rattle.jv_stackmap.specs.Types.{value_type}
use Rattle.jv_verify_types.specs.Typed.{GoesOn}
use Rattle.jv_verify_types.specs.Inside.KeptTexts.{Joins}
use Rattle.jv_verify_types.proofs.numbers.push_arguments.Given as goal

abbrev pub invariant-loop-parameter : goal.invariant-loop-parameter
invariant-loop-parameter l = record {
  joins : Joins l.names.names l.initial.arguments.items l.arguments.items (map value_type (map seen_field_type (take l.parameter-index l.parameters)));
  goes_on : GoesOn l.initial.names.names l.names.names;
  world : l.names.world ≡ l.initial.names.world;
}
