use Rattle.std.proofs.Common.{sym, ap, ◌∙◌}
use Rattle.std.specs.Option.{option_map}
use Rattle.jv_pool.specs.Constants.{class_name_at}
use Rattle.jv_verify_types.specs.Typed.{typed, typed_field}
use Rattle.jv_verify_types.proofs.Arrays.{no_array}
use Rattle.jv_verify_types.proofs.classes.array_type.Goals as goal

pub returns-in_err-components : goal.returns-in_err-components
returns-in_err-components c =
    let names = c.args.constants.now.types.names in
    ap (option_map (typed names)) c.from_residual-in_err-components.ensures
    ∙ sym (no_array (class_name_at c.args.constants.now.pool c.args.index) (typed_field names c.in_ok-named.named) c.args.dimensions
    (sym (ap (option_map (typed_field names)) c.in_ok-named.was) ∙ c.named_type.ensures) c.in_err-components.ensures)
