use Rattle.std.proofs.Common.{◌≡◌, ◌∙◌, ◌||◌, List, ℕ, sym, ap}
use Rattle.jv_meaning_typing.specs.MemberRules.{is_that_name}
use Rattle.jv_verify_types.specs.Typed.{name_at}
use Rattle.jv_verify_types.specs.Current.{CurrentClass}
use Rattle.jv_verify_rules.proofs.Using.{of_class}
use Rattle.jv_verify_rules.proofs.Making.{class_named, this_or_super}
use Rattle.jv_verify_rules.proofs.constructors.constructs_this.Goals as goal

pub returns-else-is_current : goal.returns-else-is_current
returns-else-is_current c = λ env of named is.
    let class : CurrentClass = c.class-class.result.now in
    let owner = c.in-Some.owner in
    let name : List ℕ = name_at class.types.names owner in
    let same : named.reference.class ≡ name =
    class_named c.args.context.now.class.types.names named.reference.class c.args.called.owner owner is.class (c.in-Some.ensures {u = tt})
    ∙ ap (λ (k : CurrentClass). name_at k.types.names owner) (sym c.class-class.ensures) in
    this_or_super class env named name (of_class c.args.context.now env class of c.class-class.ensures) same
    ∙ (ap (λ b. b || is_that_name name class.by.class.super_class) (c.is_current.ensures ∙ c.if-is_current.false) ∙ c.is_superclass.ensures)
