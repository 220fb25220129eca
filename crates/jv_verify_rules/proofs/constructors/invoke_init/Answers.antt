use Rattle.std.proofs.Common.{◌≡◌, ◌∙◌, None, sym, ap, subst}
use Rattle.jv_meaning_typing.specs.FrameChanges.{taken}
use Rattle.jv_verify_types.specs.Typed.{TypeWorld, typed_all}
use Rattle.jv_verify_types.specs.Numbered.{frame_of}
use Rattle.jv_verify_types.specs.Outcomes.{IsOutcome}
use Rattle.jv_verify_rules.specs.Objects.{object_in, TakesObject}
use Rattle.jv_verify_rules.proofs.Making.{left_by, object_taken, no_object}
use Rattle.jv_verify_rules.proofs.constructors.invoke_init.Goals as goal
use Rattle.std.specs.Prelude.{Some}

pub returns-in-Some : goal.returns-in-Some
returns-in-Some c = λ env of named calls.
    let types : TypeWorld = c.args.context.now.class.types in
    let arguments = c.args.called.arguments.now in
    let old = c.args.frame.now in
    let mid = c.take_constructed.new.frame in
    let object = c.in-Some.object in
    let takes : TakesObject types.names (taken types.world (typed_all types.names arguments) (typed_all types.names old.stack)) old mid (Some object) =
    subst (λ (t : TypeWorld). TakesObject t.names (taken t.world (typed_all t.names arguments) (typed_all t.names old.stack)) old mid (Some object)) c.types.ensures (c.in-Some.ensures {u = tt}) in
    subst (λ o. IsOutcome types.names o c.construct_object.new.frame c.construct_object.result)
    (sym (object_taken types.names env named object old mid (taken env.world named.arguments (typed_all types.names old.stack))
    (left_by types env named arguments old of.class.world calls.types.arguments ∙ takes.0) takes.1))
    (c.construct_object.ensures env of named calls)

pub returns-in-None : goal.returns-in-None
returns-in-None c = λ env of named calls.
    let types : TypeWorld = c.args.context.now.class.types in
    let arguments = c.args.called.arguments.now in
    let old = c.args.frame.now in
    let none : object_in (taken types.world (typed_all types.names arguments) (typed_all types.names old.stack)) ≡ None =
    subst (λ (t : TypeWorld). object_in (taken t.world (typed_all t.names arguments) (typed_all t.names old.stack)) ≡ None) c.types.ensures (c.in-None.ensures {u = tt}) in
    no_object env named (frame_of types.names old) (taken env.world named.arguments (typed_all types.names old.stack))
    (ap object_in (left_by types env named arguments old of.class.world calls.types.arguments) ∙ none)
