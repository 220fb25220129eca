use Rattle.std.proofs.Common.{rules, ◌≡◌, ◌<◌, ap, subst, sym}
use Rattle.std.proofs.lemmas.Option.{slice_get_read}
use Rattle.jv_meaning_world.specs.Numbers.{HoldsAtNumber}
use Rattle.jv_meaning_typing.specs.Judgement.{IsVerdictOfClass}
use Rattle.jv_verify.specs.Files.{Verified, AreAcceptedBelow}
use Rattle.jv_verify.proofs.Hosts.{accepted_stand, counted_stand, of_first, one_more, refuses}
use Rattle.jv_verify.proofs.verified.Verified.first_broken.Goals as goal

pub returns-then-host-eq-WITHOUT_LIBRARY-clause-broken : goal.returns-then-host-eq-WITHOUT_LIBRARY-clause-broken
returns-then-host-eq-WITHOUT_LIBRARY-clause-broken c =
    let few : c.args.self.now.host ≡ 33 = search rules in
    counted_stand c.system_is_accepted.ensures c.args.self.now few

pub returns-then-not-is_accepted-clause-broken : goal.returns-then-not-is_accepted-clause-broken
returns-then-not-is_accepted-clause-broken c =
    let less : c.loop-class.class < c.args.self.now.host = search rules in
    let within : c.loop-class.class < c.host_count-host.result = search rules in
    let at = slice_get_read c.in_ok-verdicts.verdicts.items c.host_count-host.result c.loop-class.class c.index.result.now (sym c.in_ok-verdicts.ensures.length_is) within c.index.ensures in
    let first = of_first c.self.inside.classes.world c.host_count-host.result c.in_ok-verdicts.verdicts.items c.in_ok-verdicts.ensures c.loop-class.class c.index.result.now
    c.in_ok-verdict.verdict at c.in_ok-verdict.ensures in
    record {
      given = less;
      verdict = subst (λ w. HoldsAtNumber w c.loop-class.class (λ l. IsVerdictOfClass w l c.in_ok-verdict.verdict)) (ap (λ (v : Verified). v.world) c.self.view_is) first;
      broken = refuses c.is_accepted.result c.in_ok-verdict.verdict c.is_accepted.ensures c.if-not-is_accepted.true;
      before = c.loop-class.invariant;
    }

pub loop-class-preserved : goal.loop-class-preserved
loop-class-preserved c =
    let within : c.loop-class.class < c.host_count-host.result = search rules in
    let at = slice_get_read c.in_ok-verdicts.verdicts.items c.host_count-host.result c.loop-class.class c.index.result.now (sym c.in_ok-verdicts.ensures.length_is) within c.index.ensures in
    let first = of_first c.self.inside.classes.world c.host_count-host.result c.in_ok-verdicts.verdicts.items c.in_ok-verdicts.ensures c.loop-class.class c.index.result.now
    c.in_ok-verdict.verdict at c.in_ok-verdict.ensures in
    one_more c.args.self.now.world c.loop-class.class c.in_ok-verdict.verdict c.loop-class.invariant
    (subst (λ w. HoldsAtNumber w c.loop-class.class (λ l. IsVerdictOfClass w l c.in_ok-verdict.verdict)) (ap (λ (v : Verified). v.world) c.self.view_is) first)
    (c.is_accepted.ensures.0 c.if-not-is_accepted.false)

pub returns-clause-broken : goal.returns-clause-broken
returns-clause-broken c = λ given contents are.
    let end : c.loop-class.class ≡ c.args.self.now.host = search rules in
    accepted_stand given contents c.args.self.now are (subst (AreAcceptedBelow c.args.self.now.world) end c.loop-class.invariant)
