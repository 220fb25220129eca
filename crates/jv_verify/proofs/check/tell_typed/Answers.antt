use Rattle.std.proofs.Common.{◌≤◌, List, refl, sym, ap, subst, ◌∙◌, arith}
use Rattle.std.proofs.lemmas.Result.{IfOk-weaker}
use Rattle.jv_class_structure.specs.Parts.{CodeSeen}
use Rattle.jv_class_structure.specs.Seen.{seen_code, seen_method}
use Rattle.jv_code.specs.Places.{IsCode}
use Rattle.jv_stackmap.specs.Types.{words}
use Rattle.jv_meaning_typing.specs.Judgement.{WithFrames}
use Rattle.jv_verify_types.specs.Typed.{typed_all}
use Rattle.jv_verify_types.specs.Numbered.{Item}
use Rattle.jv_verify_types.specs.Current.{CurrentClass}
use Rattle.jv_verify_pass.specs.Before.{AreFramed}
use Rattle.jv_verify.proofs.Environments.{has_room, of_read, read_in, same_body}
use Rattle.jv_verify.proofs.StandingBefore.{took_so}
use Rattle.jv_verify.proofs.check.tell_typed.Goals as goal

pub unreachable-requires : goal.unreachable-requires
unreachable-requires g c =
    let env = c.requires.0 in
    let of = c.requires.1.0.0 in
    (c.in_default.ensures {u = tt}).bad env.instructions
    (subst (λ (b : CodeSeen). IsCode b.code env.instructions) (same_body c.args.class.now (seen_method c.args.method.now) (seen_code c.args.body.now) env of) of.is.instructions)

pub unreachable-requires-in_default-words_within : goal.unreachable-requires-in_default-words_within
unreachable-requires-in_default-words_within g c =
    let names = c.args.class.now.types.names in
    let env = c.requires.0 in
    let read =
    read_in c.args.class.now (seen_method c.args.method.now) (seen_code c.args.body.now) c.args.types c.in_ok-items.items.items c.is_static.result
    c.is_named_init-is_init.result env c.requires.1.0.0
    c.requires.1.0.1 c.is_static.ensures c.is_named_init-is_init.ensures c.in_ok-items.ensures in
    let room : words (typed_all names c.deref.result.now) ≤ c.args.body.now.max_locals =
    subst (λ (xs : List Item). words (typed_all names xs) ≤ c.args.body.now.max_locals) (sym c.deref.ensures.value) (has_room _ env read) in
    omega (arith, room, (c.in_default-words_within.ensures {u = tt}).more names)

pub new-read-requires-clause-words : goal.new-read-requires-clause-words
new-read-requires-clause-words g c = λ names.
    c.in-Some.ensures.words names ∙ ap (λ (xs : List Item). words (typed_all names xs)) (c.deref.ensures.value ∙ sym c.deref-2.ensures.value)

pub tell_in_tables-requires : goal.tell_in_tables-requires
tell_in_tables-requires g c κs =
    let env = c.requires.0 in
    let read =
    of_read c.new-read.result c.args.class.now (seen_method c.args.method.now) (seen_code c.args.body.now) c.args.types c.in_ok-items.items.items c.is_static.result c.is_named_init-is_init.result
    env c.new-read.ensures.class c.new-read.ensures.body (c.new-read.ensures.initial ∙ c.deref-2.ensures.value) c.new-read.ensures.is_init c.new-read.ensures.of c.requires.1.0.0 c.requires.1.0.1
    c.is_static.ensures c.is_named_init-is_init.ensures c.in_ok-items.ensures in
    ((refl, tt), (env, (read, c.requires.1.1)))

pub returns-clause-took : goal.returns-clause-took
returns-clause-took g c =
    IfOk-weaker c.tell_in_tables.result _ _
    (λ stop took.
    took_so g.S.FrameSink.takes c.args.sink.now c.tell_in_tables.new.sink _ _
    (λ all are env of keeps.
    subst (λ (k : CurrentClass). WithFrames k.types.world env.site (λ e ms. AreFramed e ms 0 stop all)) c.new-read.ensures.class
    (are env
    (of_read c.new-read.result c.args.class.now (seen_method c.args.method.now) (seen_code c.args.body.now) c.args.types c.in_ok-items.items.items c.is_static.result c.is_named_init-is_init.result env
    c.new-read.ensures.class c.new-read.ensures.body (c.new-read.ensures.initial ∙ c.deref-2.ensures.value) c.new-read.ensures.is_init c.new-read.ensures.of of.0 of.1 c.is_static.ensures
    c.is_named_init-is_init.ensures c.in_ok-items.ensures) keeps))
    took)
    c.tell_in_tables.ensures.took
