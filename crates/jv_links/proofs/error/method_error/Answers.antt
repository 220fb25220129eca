use Rattle.std.proofs.Common.{◌≡◌, ◌∙◌, true, List, sym, ap}
use Rattle.jv_pool.specs.Constants.{Entry}
use Rattle.jv_meaning_typing.specs.MethodResolution.{resolve_method}
use Rattle.jv_meaning_typing.specs.Operands.{method_operand}
use Rattle.jv_meaning_world.specs.Verdicts.{declared_by}
use Rattle.jv_link.specs.Seen.{method_target_at, seen_use}
use Rattle.jv_links.specs.Inside.Shown.{names_method}
use Rattle.jv_links.proofs.Answered.{fails, is_method, resolves, site_there, some_of}
use Rattle.jv_links.proofs.error.method_error.Goals as goal

pub resolve_method-requires-clause-index : goal.resolve_method-requires-clause-index
resolve_method-requires-clause-index c = λ l at.
    let (m, there, seen) = site_there c.args.classes.now.world c.args.site c.requires.site l at in
    is_method l.class c.args.index
    (ap (λ (p : List Entry). names_method p c.args.index) (sym (c.requires.pool (declared_by l m) seen)) ∙ (sym c.names_method.ensures ∙ c.if-not-names_method.false))

pub returns-in-Ok : goal.returns-in-Ok
returns-in-Ok c = λ s at.
    let world = c.args.classes.now.world in
    let how = seen_use c.args.how in
    let named : names_method s.by.class.constant_pool c.args.index ≡ true =
    ap (λ (p : List Entry). names_method p c.args.index) (sym (c.requires.pool s at)) ∙ (sym c.names_method.ensures ∙ c.if-not-names_method.false) in
    let (reference, is) = some_of (method_operand s.by.class c.args.index) (is_method s.by.class c.args.index named) in
    resolves (method_target_at world) (resolve_method world s how) (method_operand s.by.class c.args.index) reference c.resolve_method.result is (c.resolve_method.ensures.found s reference at is)
    c.in-Ok.field-0 c.in-Ok.is

pub returns-in-Err : goal.returns-in-Err
returns-in-Err c = λ s at.
    let world = c.args.classes.now.world in
    let how = seen_use c.args.how in
    let named : names_method s.by.class.constant_pool c.args.index ≡ true =
    ap (λ (p : List Entry). names_method p c.args.index) (sym (c.requires.pool s at)) ∙ (sym c.names_method.ensures ∙ c.if-not-names_method.false) in
    let (reference, is) = some_of (method_operand s.by.class c.args.index) (is_method s.by.class c.args.index named) in
    fails (method_target_at world) (resolve_method world s how) (method_operand s.by.class c.args.index) reference c.resolve_method.result is (c.resolve_method.ensures.found s reference at is)
    c.in-Err.error c.in-Err.is
