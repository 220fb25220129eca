use Rattle.std.proofs.Common.{ℕ, List, subst}
use Rattle.std.specs.Prelude.{IsSome}
use Rattle.jv_pool.specs.Constants.{Entry, field_reference_at}
use Rattle.jv_lookups.specs.Places.{field_at}
use Rattle.jv_meaning_typing.specs.FieldResolution.{resolve_field}
use Rattle.jv_meaning_typing.specs.Operands.{field_operand}
use Rattle.jv_meaning_world.specs.Verdicts.{declared_by}
use Rattle.jv_link.specs.Seen.{seen_use}
use Rattle.jv_links.proofs.Answered.{fails, resolves, site_there, some_of}
use Rattle.jv_links.proofs.error.field_error.Goals as goal

pub resolve_field-requires-clause-index : goal.resolve_field-requires-clause-index
resolve_field-requires-clause-index c = λ l at.
    let (m, there, seen) = site_there c.args.classes.now.world c.args.site c.requires.site l at in
    let named : IsSome (field_reference_at c.args.pool.now c.args.index) = subst (λ (i : ℕ). IsSome (field_reference_at c.args.pool.now i)) c.in-Some.ensures.same c.in-Some.ensures.names in
    subst (λ (p : List Entry). IsSome (field_reference_at p c.args.index)) (c.requires.pool (declared_by l m) seen) named

pub returns-in-Ok : goal.returns-in-Ok
returns-in-Ok c = λ s at.
    let world = c.args.classes.now.world in
    let how = seen_use c.args.how in
    let named : IsSome (field_reference_at c.args.pool.now c.args.index) = subst (λ (i : ℕ). IsSome (field_reference_at c.args.pool.now i)) c.in-Some.ensures.same c.in-Some.ensures.names in
    let (reference, is) = some_of (field_operand s.by.class c.args.index) (subst (λ (p : List Entry). IsSome (field_reference_at p c.args.index)) (c.requires.pool s at) named) in
    resolves (field_at world) (resolve_field world s how) (field_operand s.by.class c.args.index) reference c.resolve_field.result is
    (c.resolve_field.ensures.found s reference at is) c.in-Ok.field-0 c.in-Ok.is

pub returns-in-Err : goal.returns-in-Err
returns-in-Err c = λ s at.
    let world = c.args.classes.now.world in
    let how = seen_use c.args.how in
    let named : IsSome (field_reference_at c.args.pool.now c.args.index) = subst (λ (i : ℕ). IsSome (field_reference_at c.args.pool.now i)) c.in-Some.ensures.same c.in-Some.ensures.names in
    let (reference, is) = some_of (field_operand s.by.class c.args.index) (subst (λ (p : List Entry). IsSome (field_reference_at p c.args.index)) (c.requires.pool s at) named) in
    fails (field_at world) (resolve_field world s how) (field_operand s.by.class c.args.index) reference c.resolve_field.result is
    (c.resolve_field.ensures.found s reference at is) c.in-Err.error c.in-Err.is
