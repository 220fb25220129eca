use Rattle.std.proofs.Common.{◌≡◌, ◌∙◌, true, Some, sym, ap, subst}
use Rattle.std.proofs.lemmas.Result.{IfOk-weaker}
use Rattle.jv_pool.specs.Constants.{Entry, MemberReference, at_index, field_reference_at}
use Rattle.jv_pool.specs.Seen.{seen_member}
use Rattle.std.specs.Prelude.{List}
use Rattle.jv_meaning_world.specs.World.{World}
use Rattle.jv_meaning_world.specs.Numbers.{number_named}
use Rattle.jv_meaning_world.specs.Numbers.{HoldsAtNumber}
use Rattle.jv_verify_types.specs.Inside.Guarded.{is_proper_subclass, IsFieldGuarded, IsFieldFar}
use Rattle.jv_verify_types.specs.Inside.Parts.{field_indices}
use Rattle.jv_verify_types.proofs.Answering.{field_texts_in}
use Rattle.jv_verify_types.proofs.Guarding.{one_member, field_guarded}
use Rattle.jv_verify_types.proofs.guards.is_guarded_field.Goals as goal

pub field_is_far-requires-clause-texts : goal.field_is_far-requires-clause-texts
field_is_far-requires-clause-texts c =
    let pool : List Entry = c.args.constants.now.pool in
    field_texts_in pool (at_index pool c.args.index) c.field_indices-indices.result (seen_member c.field_reference.result)
    (subst (λ (p : List Entry). c.field_indices-indices.result ≡ field_indices p (at_index p c.args.index)) c.pool.ensures c.field_indices-indices.ensures)
    (sym (ap (field_reference_at pool) c.in-Some-fieldref_index.ensures.same) ∙
    (sym (ap (λ p. field_reference_at p c.in-Some-fieldref_index.index.0) c.pool-in-Some-fieldref_index.ensures) ∙ c.field_reference.ensures))

pub returns-in-Some-fieldref_index-clause-guarded : goal.returns-in-Some-fieldref_index-clause-guarded
returns-in-Some-fieldref_index-clause-guarded c =
    let world : World = c.args.classes.now.world in
    let current = c.args.current in
    let k = c.in-Some.named in
    IfOk-weaker c.field_is_far.result (IsFieldFar world current k (seen_member c.field_reference.result)) (IsFieldGuarded world c.args.constants.now.pool c.args.class c.args.index current)
    (λ answer far l at reference class_is is.
    let same : seen_member c.field_reference.result ≡ reference =
    one_member (sym c.field_reference.ensures ∙
    (ap (λ p. field_reference_at p c.in-Some-fieldref_index.index.0) c.pool-in-Some-fieldref_index.ensures ∙
    (ap (field_reference_at c.args.constants.now.pool) c.in-Some-fieldref_index.ensures.same ∙ is))) in
    field_guarded world current l reference k answer at (subst (λ (w : World). number_named w reference.class ≡ Some k) c.requires.world (c.in-Some.ensures.found reference.class class_is))
    (subst (λ (w : World). HoldsAtNumber w current (λ m. HoldsAtNumber w k (λ n. is_proper_subclass w m n ≡ true))) c.requires.world c.in-Some.ensures.below)
    (subst (λ (r : MemberReference). IsFieldFar world current k r answer) same far))
    c.field_is_far.ensures.far
