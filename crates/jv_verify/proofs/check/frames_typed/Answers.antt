use Rattle.std.proofs.Common.{◌≤◌, List, sym, ap, subst, ◌∙◌, arith}
use Rattle.std.specs.Prelude.{IfOk}
use Rattle.jv_class_structure.specs.Seen.{seen_code, seen_method}
use Rattle.jv_stackmap.specs.Types.{words}
use Rattle.jv_meaning_typing.specs.Judgement.{WithFrames}
use Rattle.jv_verify_types.specs.Typed.{typed_all}
use Rattle.jv_verify_types.specs.Numbered.{Item}
use Rattle.jv_verify_types.specs.Current.{CurrentClass}
use Rattle.jv_verify_pass.specs.Before.{AreBefore}
use Rattle.jv_verify.proofs.Environments.{has_room, of_read, read_in}
use Rattle.jv_verify.proofs.check.frames_typed.Goals as goal

pub unreachable-requires : goal.unreachable-requires
unreachable-requires c =
    let names = c.args.class.now.types.names in
    let env = c.requires.some.0 in
    let read =
    read_in c.args.class.now (seen_method c.args.method.now) (seen_code c.args.body.now) c.args.types c.in_ok-items.items.items c.is_static.result
    c.is_named_init-is_init.result env c.requires.some.1.0.0
    c.requires.some.1.0.1 c.is_static.ensures c.is_named_init-is_init.ensures c.in_ok-items.ensures in
    let room : words (typed_all names c.deref.result.now) ≤ c.args.body.now.max_locals =
    subst (λ (xs : List Item). words (typed_all names xs) ≤ c.args.body.now.max_locals) (sym c.deref.ensures.value) (has_room _ env read) in
    omega (arith, room, (c.in_default.ensures {u = tt}).more names)

pub new-read-requires-clause-words : goal.new-read-requires-clause-words
new-read-requires-clause-words c = λ names.
    c.in-Some.ensures.words names ∙ ap (λ (xs : List Item). words (typed_all names xs)) (c.deref.ensures.value ∙ sym c.deref-2.ensures.value)

pub frames_in_tables-requires : goal.frames_in_tables-requires
frames_in_tables-requires c =
    let env = c.requires.some.0 in (
      env,
      (
        of_read c.new-read.result c.args.class.now (seen_method c.args.method.now) (seen_code c.args.body.now) c.args.types c.in_ok-items.items.items
            c.is_static.result c.is_named_init-is_init.result env
            c.new-read.ensures.class c.new-read.ensures.body (c.new-read.ensures.initial ∙ c.deref-2.ensures.value) c.new-read.ensures.is_init
            c.new-read.ensures.of c.requires.some.1.0.0 c.requires.some.1.0.1
            c.is_static.ensures c.is_named_init-is_init.ensures c.in_ok-items.ensures,
        c.requires.some.1.1,
      ),
    )

pub returns : goal.returns
returns c = λ env of typed.
    subst (λ (k : CurrentClass). IfOk c.frames_in_tables.result (λ f. WithFrames k.types.world env.site (λ e ms. AreBefore e ms c.args.offset f))) c.new-read.ensures.class
    (c.frames_in_tables.ensures env
    (of_read c.new-read.result c.args.class.now (seen_method c.args.method.now) (seen_code c.args.body.now) c.args.types c.in_ok-items.items.items c.is_static.result c.is_named_init-is_init.result env
    c.new-read.ensures.class c.new-read.ensures.body (c.new-read.ensures.initial ∙ c.deref-2.ensures.value) c.new-read.ensures.is_init c.new-read.ensures.of of.0 of.1 c.is_static.ensures
    c.is_named_init-is_init.ensures c.in_ok-items.ensures) typed)
