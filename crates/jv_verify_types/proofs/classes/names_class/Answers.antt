use Rattle.std.proofs.Common.{ap, ◌∙◌}
use Rattle.std.specs.Option.{option_map}
use Rattle.jv_pool.specs.Constants.{class_name_at}
use Rattle.jv_verify_types.specs.Typed.{name_at}
use Rattle.jv_verify_types.specs.Inside.Named.{class_of_type}
use Rattle.jv_verify_types.proofs.Plain.{number_named, class_by_number}
use Rattle.jv_verify_types.proofs.classes.names_class.Goals as goal

pub returns-clause-operand : goal.returns-clause-operand
returns-clause-operand c =
    let names = c.args.constants.now.types.names in
    ap (option_map (name_at names)) c.class_number.ensures
    ∙ number_named names c.class_type.result (class_name_at c.args.constants.now.pool c.args.index) c.class_type.ensures

pub returns-clause-constant : goal.returns-clause-constant
returns-clause-constant c =
    let names = c.args.constants.now.types.names in
    ap (option_map (name_at names)) c.class_number.ensures ∙ (class_by_number names c.class_type.result ∙ ap class_of_type c.class_type.ensures)
