use Rattle.std.proofs.Common.{List, sym, ap, ◌∙◌}
use Rattle.std.specs.Option.{option_map}
use Rattle.jv_pool.specs.Constants.{Entry}
use Rattle.jv_verify_types.specs.Typed.{TypeWorld}
use Rattle.jv_verify_types.specs.PoolTypes.{call_types_at, typed_call}
use Rattle.jv_verify.proofs.Environments.{said}
use Rattle.jv_verify.proofs.known.known_types.Goals as goal

pub returns-then-arguments_fit-clause-said : goal.returns-then-arguments_fit-clause-said
returns-then-arguments_fit-clause-said c =
    said c.args.class.now.types.names c.method_type.result _
    (ap (λ (t : TypeWorld). option_map (typed_call t.names) c.method_type.result) (sym c.constants.ensures.types)
    ∙ (c.method_type.ensures ∙ ap (λ (p : List Entry). call_types_at p c.args.method.now.descriptor.0) c.constants.ensures.pool))
