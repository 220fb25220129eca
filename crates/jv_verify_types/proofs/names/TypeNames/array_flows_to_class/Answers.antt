use Rattle.std.proofs.Common.{sym, ap}
use Rattle.jv_meaning_world.specs.Flow.{is_above_arrays}
use Rattle.jv_verify_types.proofs.names.TypeNames.array_flows_to_class.Goals as goal

pub returns-then-is_object : goal.returns-then-is_object
returns-then-is_object c = sym (ap is_above_arrays (c.is_object.ensures c.if-is_object.true))
