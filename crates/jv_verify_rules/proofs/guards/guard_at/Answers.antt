use Rattle.std.proofs.Common.{◌≡◌, ◌∙◌, [], ◌∷◌, ap}
use Rattle.jv_meaning_typing.specs.Named.{current_type, guard}
use Rattle.jv_verify_types.specs.Typed.{typed}
use Rattle.jv_verify_types.specs.Current.{CurrentClass, IsOfClass}
use Rattle.jv_verify_rules.proofs.Using.{of_class, field_guarded, method_guarded}
use Rattle.jv_verify_rules.proofs.guards.guard_at.Goals as goal

pub returns-then-is_guarded-clause-field : goal.returns-then-is_guarded-clause-field
returns-then-is_guarded-clause-field c = λ env of named e.
    let here : IsOfClass c.class.result.now env = of_class c.args.context.now env c.class.result.now of c.class.ensures in
    let current : current_type env ≡ typed c.args.context.now.class.types.names c.current.result =
    c.current.ensures env (of_class c.args.context.now env c.class-then-is_guarded.result.now of c.class-then-is_guarded.ensures)
    ∙ ap (λ (k : CurrentClass). typed k.types.names c.current.result) c.class-then-is_guarded.ensures in
    field_guarded c.class.result.now env c.args.index named c.is_guarded.result here (c.is_guarded.ensures.field env here) e
    ∙ (ap (guard env) c.if-is_guarded.true ∙ ap (λ t. t ∷ []) current)

pub returns-then-is_guarded-clause-method : goal.returns-then-is_guarded-clause-method
returns-then-is_guarded-clause-method c = λ env of named e.
    let here : IsOfClass c.class.result.now env = of_class c.args.context.now env c.class.result.now of c.class.ensures in
    let current : current_type env ≡ typed c.args.context.now.class.types.names c.current.result =
    c.current.ensures env (of_class c.args.context.now env c.class-then-is_guarded.result.now of c.class-then-is_guarded.ensures)
    ∙ ap (λ (k : CurrentClass). typed k.types.names c.current.result) c.class-then-is_guarded.ensures in
    method_guarded c.class.result.now env c.args.index named c.is_guarded.result here (c.is_guarded.ensures.method env here) e
    ∙ (ap (guard env) c.if-is_guarded.true ∙ ap (λ t. t ∷ []) current)

pub returns-else-is_guarded-clause-method : goal.returns-else-is_guarded-clause-method
returns-else-is_guarded-clause-method c = λ env of named e.
    let here : IsOfClass c.class.result.now env = of_class c.args.context.now env c.class.result.now of c.class.ensures in
    method_guarded c.class.result.now env c.args.index named c.is_guarded.result here (c.is_guarded.ensures.method env here) e
    ∙ ap (guard env) c.if-is_guarded.false
