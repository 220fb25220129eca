use Rattle.std.proofs.Common.{◌<◌, ◌∙◌, ap, subst, sym, length}
use Rattle.jv_meaning_world.specs.World.{Loaded}
use Rattle.jv_lookups.specs.declared.place.Place.{Place}
use Rattle.jv_lookups.proofs.Standing.{method_stands}
use Rattle.jv_link.proofs.Defaulting.{method_there, has_default, no_default}
use Rattle.jv_link.proofs.order.declares_default.Goals as goal

pub returns-then-is_default : goal.returns-then-is_default
returns-then-is_default c = λ l at.
    let world = c.args.table.now in
    let place : Place = record { class = c.args.class; member = c.loop-member.member } in
    let there = method_stands world place (record {
      class = c.requires;
      member = λ m at_m. subst (λ n. c.loop-member.member < n) (c.method_count-member-end.ensures ∙ ap (λ (x : Loaded). length x.class.methods) (c.class_at.ensures m at_m)) c.loop-member-test.true;
    }) in
    has_default l c.loop-member.member there.0.method (method_there world place l there.0 at there.1) (sym (c.is_default.ensures there.0 there.1) ∙ c.if-is_default.true) (c.loop-member.invariant l at)

pub loop-member-preserved : goal.loop-member-preserved
loop-member-preserved c = λ l at.
    let world = c.args.table.now in
    let place : Place = record { class = c.args.class; member = c.loop-member.member } in
    let there = method_stands world place (record {
      class = c.requires;
      member = λ m at_m. subst (λ n. c.loop-member.member < n) (c.method_count-member-end.ensures ∙ ap (λ (x : Loaded). length x.class.methods) (c.class_at.ensures m at_m)) c.loop-member-test.true;
    }) in
    no_default l c.loop-member.member there.0.method (method_there world place l there.0 at there.1) (sym (c.is_default.ensures there.0 there.1) ∙ c.if-is_default.false) (c.loop-member.invariant l at)
