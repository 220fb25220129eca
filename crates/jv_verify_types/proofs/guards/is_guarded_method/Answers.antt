use Rattle.std.proofs.Common.{◌≡◌, ◌∙◌, true, Some, ap, subst}
use Rattle.std.proofs.lemmas.Result.{IfOk-weaker}
use Rattle.std.specs.Prelude.{List, IfSome}
use Rattle.std.specs.Option.{option_map}
use Rattle.jv_pool.specs.Constants.{Entry, MemberReference}
use Rattle.jv_pool.specs.Seen.{seen_member}
use Rattle.jv_meaning_world.specs.World.{World}
use Rattle.jv_meaning_world.specs.Numbers.{number_named}
use Rattle.jv_meaning_world.specs.Numbers.{HoldsAtNumber}
use Rattle.jv_meaning_typing.specs.Operands.{MethodReference}
use Rattle.jv_link.specs.Inside.References.{method_operand_in}
use Rattle.jv_verify_types.specs.Inside.Guarded.{is_proper_subclass, IsMethodGuarded, member_named, IsMethodFar}
use Rattle.jv_verify_types.specs.Inside.Answered.{AreTextsOf}
use Rattle.jv_verify_types.proofs.Answering.{of_named}
use Rattle.jv_verify_types.proofs.Guarding.{one_member, method_guarded}
use Rattle.jv_verify_types.proofs.guards.is_guarded_method.Goals as goal

pub method_is_far-requires-clause-texts : goal.method_is_far-requires-clause-texts
method_is_far-requires-clause-texts c =
    let pool : List Entry = c.args.constants.now.pool in
    of_named (λ (r : MemberReference). IfSome c.called_indices-indices.result (λ i. AreTextsOf pool i.name i.descriptor r))
    (method_operand_in pool c.args.index) (seen_member c.in-Some-method_in.method)
    (c.in-Some-method_in.ensures ∙ ap (λ p. option_map member_named (method_operand_in p c.args.index)) c.pool-2.ensures)
    (subst (λ (p : List Entry). (m : MethodReference) → method_operand_in p c.args.index ≡ Some m → IfSome c.called_indices-indices.result
    (λ i. AreTextsOf p i.name i.descriptor m.member)) c.pool.ensures c.called_indices-indices.ensures)

pub returns-in-Some-method_in-clause-guarded : goal.returns-in-Some-method_in-clause-guarded
returns-in-Some-method_in-clause-guarded c =
    let world : World = c.args.classes.now.world in
    let current = c.args.current in
    let k = c.in-Some.named in
    IfOk-weaker c.method_is_far.result (IsMethodFar world current k (seen_member c.in-Some-method_in.method)) (IsMethodGuarded world c.args.constants.now.pool c.args.class c.args.index current)
    (λ answer far l at m class_is is.
    let same : seen_member c.in-Some-method_in.method ≡ m.member =
    one_member (c.in-Some-method_in.ensures ∙ (ap (λ p. option_map member_named (method_operand_in p c.args.index)) c.pool-2.ensures ∙ ap (option_map member_named) is)) in
    method_guarded world current l m.member k answer at (subst (λ (w : World). number_named w m.member.class ≡ Some k) c.requires.world (c.in-Some.ensures.found m.member.class class_is))
    (subst (λ (w : World). HoldsAtNumber w current (λ o. HoldsAtNumber w k (λ n. is_proper_subclass w o n ≡ true))) c.requires.world c.in-Some.ensures.below)
    (subst (λ (r : MemberReference). IsMethodFar world current k r answer) same far))
    c.method_is_far.ensures.far
