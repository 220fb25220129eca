use Rattle.std.proofs.Common.{sym, ap, ◌∙◌}
use Rattle.std.specs.Prelude.{slice_get}
use Rattle.std.specs.Option.{option_and_then}
use Rattle.jv_classes.specs.Members.{IsMethod}
use Rattle.jv_explain.proofs.BrokenFinals.{itself, no_instance, none_named, not_final, of_some, some_and}
use Rattle.jv_explain.proofs.finals.breaks_at.Goals as goal

pub returns-then-not-is_final_instance : goal.returns-then-not-is_final_instance
returns-then-not-is_final_instance c =
    some_and (slice_get c.args.of.now.class.methods c.args.place) (IsMethod c.method-other.result) _ c.method-other.ensures
    (λ m at is. not_final c.args.own.now c.args.of.now c.method-other.result m is (sym c.if-not-is_final_instance.true ∙ c.is_final_instance.ensures))

pub returns-in_default : goal.returns-in_default
returns-in_default c =
    let own = c.args.own.now in
    let other = c.method-other.result in
    some_and (slice_get c.args.of.now.class.methods c.args.place) (IsMethod other) _ c.method-other.ensures
    (λ m at is. none_named own c.args.of.now other m is
    (sym c.method_named.ensures.found ∙ ap (option_and_then (slice_get own.class.methods)) c.in_default.is)
    (sym c.if-not-is_final_instance.false ∙ c.is_final_instance.ensures))

pub returns-then-not-is_instance : goal.returns-then-not-is_instance
returns-then-not-is_instance c =
    let own = c.args.own.now in
    let other = c.method-other.result in
    let found = c.method-method.result in
    let (d, there, also) = of_some (slice_get own.class.methods c.in-Some.at) (IsMethod found) c.method-method.ensures in
    some_and (slice_get c.args.of.now.class.methods c.args.place) (IsMethod other) _ c.method-other.ensures
    (λ m at is. no_instance own c.args.of.now other m is found d also
    (sym c.method_named.ensures.found ∙ (ap (option_and_then (slice_get own.class.methods)) c.in-Some.is ∙ there))
    (sym c.if-not-is_final_instance.false ∙ c.is_final_instance.ensures) (sym c.if-not-is_instance.true ∙ c.is_instance.ensures))

pub returns : goal.returns
returns c =
    let own = c.args.own.now in
    let other = c.method-other.result in
    let found = c.method-method.result in
    let (d, there, also) = of_some (slice_get own.class.methods c.in-Some.at) (IsMethod found) c.method-method.ensures in
    some_and (slice_get c.args.of.now.class.methods c.args.place) (IsMethod other) _ c.method-other.ensures
    (λ m at is. c.overrides_itself.ensures
    ∙ itself own c.args.of.now other m is found d also
    (sym c.method_named.ensures.found ∙ (ap (option_and_then (slice_get own.class.methods)) c.in-Some.is ∙ there))
    (sym c.if-not-is_final_instance.false ∙ c.is_final_instance.ensures) (sym c.if-not-is_instance.false ∙ c.is_instance.ensures))
