use Rattle.std.proofs.Common.{ℕ, Some, refl, sym, subst}
use Rattle.jv_pool.specs.Seen.{seen_member}
use Rattle.jv_verify_types.specs.Inside.Answered.{AreEntries, IsDeclared}
use Rattle.jv_verify_types.proofs.Declaring.{answers_all}
use Rattle.jv_verify_types.proofs.declared.declared_once.Goals as goal

pub returns-in-Some-known-clause-found : goal.returns-in-Some-known-clause-found
returns-in-Some-known-clause-found c =
    let world = c.args.table.now in
    let r = seen_member c.args.member.now in
    subst (λ (n : ℕ). IsDeclared c.args.of_method world n r.name r.descriptor (Some c.in-Some-known.place)) c.in-Some.ensures
    (c.in-Some-known.ensures world c.args.pool.now (subst (AreEntries world c.args.pool.now) (sym c.deref.ensures.value) c.requires.answers) r c.requires.texts)

pub returns-clause-answers : goal.returns-clause-answers
returns-clause-answers c =
    let world = c.args.table.now in
    let r = seen_member c.args.member.now in
    let place = c.in-Some-looked_up.place in
    let is : IsDeclared c.args.of_method world c.in-Some.number r.name r.descriptor (Some place) =
    subst (λ (n : ℕ). IsDeclared c.args.of_method world n r.name r.descriptor (Some place)) (sym c.in-Some.ensures) c.in-Some-looked_up.ensures in
    c.in_ok-keep_declared.ensures world c.args.pool.now c.requires.answers
    (answers_all world c.args.pool.now c.args.of_method c.in-Some.number c.args.indices.name c.args.indices.descriptor r r.name r.descriptor place c.requires.texts refl refl is)
