use Rattle.std.proofs.Common.{◌<◌, ◌≤◌, ◌∙◌, ap, subst, length}
use Rattle.jv_meaning_world.specs.World.{Loaded}
use Rattle.jv_link.proofs.Fields.{lays_on, lays_end}
use Rattle.jv_link.proofs.laying.add_class.Goals as goal

pub loop-member-preserved : goal.loop-member-preserved
loop-member-preserved c =
    lays_on c.args.table.now c.args.class c.args.layout.now c.loop-member.layout c.add_own_field.new.layout c.loop-member.member
    (λ l at. subst (λ n. c.loop-member.member < n) (c.field_count-member-end.ensures ∙ ap (λ (x : Loaded). length x.class.fields) (c.class_at.ensures l at)) c.loop-member-test.true)
    c.in_ok-add_own_field.ensures.bound c.in_ok-add_own_field.ensures.laid c.loop-member.invariant

pub returns-clause-laid : goal.returns-clause-laid
returns-clause-laid c =
    lays_end c.args.table.now c.args.class c.args.layout.now c.loop-member.layout c.loop-member.member
    (λ l at. subst (λ n. n ≤ c.loop-member.member) (c.field_count-member-end.ensures ∙ ap (λ (x : Loaded). length x.class.fields) (c.class_at.ensures l at)) c.loop-member-test.false)
    c.loop-member.invariant
