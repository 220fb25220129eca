use Rattle.std.proofs.Common.{◌≡◌, ◌∙◌, Some, true, sym, ap}
use Rattle.jv_meaning_typing.specs.Named.{when, current_type}
use Rattle.jv_meaning_typing.specs.MemberRules.{constructs_this, constructed_type}
use Rattle.jv_verify_types.specs.Typed.{typed}
use Rattle.jv_verify_types.specs.Current.{CurrentClass}
use Rattle.jv_verify_rules.proofs.Using.{of_class}
use Rattle.jv_verify_rules.proofs.constructors.type_behind.Goals as goal

pub returns-then-constructs_this : goal.returns-then-constructs_this
returns-then-constructs_this c = λ env of named calls.
    let names = c.args.context.now.class.types.names in
    let current : current_type env ≡ typed names c.current.result =
    c.current.ensures env (of_class c.args.context.now env c.class.result.now of c.class.ensures) ∙ ap (λ (k : CurrentClass). typed k.types.names c.current.result) c.class.ensures in
    let can : constructs_this env named ≡ true = c.constructs_this.ensures env of named calls.types ∙ c.if-constructs_this.true in
    sym (ap (λ object. constructed_type env named (typed names object)) c.in-UninitializedThis.is ∙ (ap (λ b. when b (current_type env)) can ∙ ap (λ t. Some t) current))
