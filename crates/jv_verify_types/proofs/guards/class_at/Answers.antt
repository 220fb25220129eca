use Rattle.std.proofs.Common.{◌≡◌, ◌∙◌, ap, subst}
use Rattle.std.specs.List.{All}
use Rattle.jv_pool.specs.Rules.{KeepsRules}
use Rattle.jv_pool.specs.Constants.{Entry}
use Rattle.std.specs.Prelude.{List}
use Rattle.jv_meaning_world.specs.Numbers.{number_named, AreNoArrays}
use Rattle.jv_verify_types.specs.Typed.{TypeWorld, name_at}
use Rattle.jv_verify_types.proofs.Naming.{class_numbered, array_numbered}
use Rattle.jv_verify_types.proofs.guards.class_at.Goals as goal

pub returns-in-Some-clause-number : goal.returns-in-Some-clause-number
returns-in-Some-clause-number c =
    let number = c.in-Some.number in
    class_numbered c.args.constants.now.types.names c.args.constants.now.types.world c.args.constants.now.pool c.args.index number c.class_of.result c.in-Some.ensures.constant
    (subst (λ (t : TypeWorld). c.class_of.result ≡ number_named t.world (name_at t.names number)) c.names-in-Some.ensures c.class_of.ensures.number)

pub returns-in-None-clause-number : goal.returns-in-None-clause-number
returns-in-None-clause-number c =
    let pool : List Entry = c.args.constants.now.pool in
    let none : AreNoArrays c.args.constants.now.types.world = subst AreNoArrays (c.table.ensures ∙ ap (λ (t : TypeWorld). t.world) c.names.ensures) c.are_no_arrays.ensures in
    let rules : All (KeepsRules pool) pool = subst (λ (p : List Entry). All (KeepsRules p) p) c.pool.ensures c.keeps_rules.ensures in
    array_numbered c.args.constants.now.types.world pool c.args.index none (c.kinds_name.ensures pool rules) c.in-None.ensures.constant
