use Rattle.std.proofs.Common.{◌≡◌, ◌∙◌, true, false, sym}
use Rattle.jv_text.specs.Name.{is_init}
use Rattle.jv_meaning_typing.specs.Named.{method_named_by}
use Rattle.jv_verify_rules.proofs.Using.{IsNamed, is_named}
use Rattle.jv_verify_rules.proofs.Making.{below_init, below_other}
use Rattle.jv_verify_rules.proofs.constructing.object_below.Goals as goal

pub returns-then-called : goal.returns-then-called
returns-then-called c = λ env of.
    let names = c.args.context.now.class.types.names in
    let called = c.in_ok-called.called in
    let found : IsNamed names (method_named_by env c.args.index) called = is_named names (method_named_by env c.args.index) called (c.in_ok-called.ensures {u = tt} env of) in
    let init : is_init found.method.reference.name ≡ true = found.types.init ∙ c.if-called.true in
    sym (below_init names env c.args.index found.method c.args.frame.now called.arguments.now c.item.result found.is init found.types.arguments c.item.ensures)

pub returns-else-called : goal.returns-else-called
returns-else-called c = λ env of.
    let names = c.args.context.now.class.types.names in
    let called = c.in_ok-called.called in
    let found : IsNamed names (method_named_by env c.args.index) called = is_named names (method_named_by env c.args.index) called (c.in_ok-called.ensures {u = tt} env of) in
    let other : is_init found.method.reference.name ≡ false = found.types.init ∙ c.if-called.false in
    sym (below_other names env c.args.index found.method c.args.frame.now found.is other)
