use Rattle.std.proofs.Common.{◌≡◌, ◌∙◌, true, false, None, refl, sym, subst}
use Rattle.jv_format.specs.Format.{◌>>=◌}
use Rattle.jv_meaning_typing.specs.Named.{method_named_by, when}
use Rattle.jv_meaning_typing.specs.MemberRules.{goes_with_version, invoke}
use Rattle.jv_verify_types.specs.Numbered.{frame_of}
use Rattle.jv_verify_types.specs.Outcomes.{IsOutcome}
use Rattle.jv_verify_rules.specs.Inside.Used.{Calls}
use Rattle.jv_verify_rules.proofs.Using.{IsNamed, is_named}
use Rattle.jv_verify_rules.proofs.calls.invoke.Goals as goal

pub returns-then-goes_with_version : goal.returns-then-goes_with_version
returns-then-goes_with_version c = λ env of.
    let names = c.args.context.now.class.types.names in
    let called = c.in-Some.called in
    let before = frame_of names c.args.frame.now in
    let found : IsNamed names (method_named_by env c.args.index) called = is_named names (method_named_by env c.args.index) called (c.in-Some.ensures {u = tt} env of) in
    let calls : Calls names env c.args.index called found.method = record { named = found.is; types = found.types } in
    let goes : goes_with_version env found.method ≡ true = c.goes_with_version.ensures env of found.method calls ∙ c.if-goes_with_version.true in
    subst (λ o. IsOutcome names (o >>= λ method. when (goes_with_version env method) method >>= λ method. invoke env c.args.how method before) c.invoke_as.new.frame c.invoke_as.result) (sym found.is)
    (subst (λ b. IsOutcome names (when b found.method >>= λ method. invoke env c.args.how method before) c.invoke_as.new.frame c.invoke_as.result) (sym goes)
    (c.invoke_as.ensures env of found.method calls))

pub returns-else-goes_with_version : goal.returns-else-goes_with_version
returns-else-goes_with_version c = λ env of.
    let names = c.args.context.now.class.types.names in
    let called = c.in-Some.called in
    let before = frame_of names c.args.frame.now in
    let found : IsNamed names (method_named_by env c.args.index) called = is_named names (method_named_by env c.args.index) called (c.in-Some.ensures {u = tt} env of) in
    let not : goes_with_version env found.method ≡ false = c.goes_with_version.ensures env of found.method (record { named = found.is; types = found.types }) ∙ c.if-goes_with_version.false in
    subst (λ o. (o >>= λ method. when (goes_with_version env method) method >>= λ method. invoke env c.args.how method before) ≡ None) (sym found.is)
    (subst (λ b. (when b found.method >>= λ method. invoke env c.args.how method before) ≡ None) (sym not) refl)
