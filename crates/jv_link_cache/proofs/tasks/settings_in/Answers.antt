use Rattle.std.proofs.Common.{◌<◌, subst}
use Rattle.jv_link_cache.specs.Tasks.{settings_of}
use Rattle.jv_link_cache.proofs.Begun.{settings_go_on}
use Rattle.jv_link_cache.proofs.Eachwise.{some_item}
use Rattle.jv_link_cache.proofs.tasks.settings_in.Goals as goal

pub loop-member-preserved : goal.loop-member-preserved
loop-member-preserved c =
    let f = some_item c.args.class.now.class.fields c.loop-member.member (subst (λ n. c.loop-member.member < n) c.field_count-member-end.ensures c.loop-member-test.true) in
    rw c.in_ok-push_if.ensures
    (settings_go_on c.args.class.now.class.fields c.loop-member.member f.0 c.has_initial.result c.loop-member.settings.items (settings_of c.args.class.now)
    f.1 (c.has_initial.ensures f.0 f.1) c.loop-member.invariant)
