use Rattle.std.proofs.Common.{ap, refl, sym, subst}
use Rattle.std.proofs.lemmas.Result.{on_ok_weaker}
use Rattle.jv_verify_wants.specs.Inside.Allowed.{kept_of, raised, Allow}
use Rattle.jv_verify_wants.proofs.Allowed.{allow-set, pushed_allowed, still_allowed}
use Rattle.jv_verify_wants.proofs.Among.{among-raised, pushed, raised_items}
use Rattle.jv_verify_wants.proofs.variable.Variable.add.Goals as goal

pub returns-in-Some-clause-ok : goal.returns-in-Some-clause-ok
returns-in-Some-clause-ok c =
    among-raised c.args.self.now.wants.items _ c.in-Some.place c.args.item c.args.until c.args.offset c.in-Some.ensures
    (raised_items c.args.self.now.wants c.deref_mut.result.now c.raise.new.wants c.in-Some.place c.in-Some.ensures.want c.args.until c.deref_mut.ensures.value
    c.in-Some.ensures.there c.raise.ensures)

pub returns-in-Some-clause-allowed : goal.returns-in-Some-clause-allowed
returns-in-Some-clause-allowed c types is =
    let found = c.in-Some.ensures in
    let is_raised = raised_items c.args.self.now.wants c.deref_mut.result.now c.raise.new.wants c.in-Some.place found.want c.args.until c.deref_mut.ensures.value
    found.there c.raise.ensures in
    still_allowed types c.args.offset (kept_of c.args.self.now) _
    (λ item count allow.
    subst (λ ws. Allow types c.args.offset item ws count) (sym is_raised)
    (allow-set types c.args.offset item c.args.self.now.wants.items c.in-Some.place found.want
    (raised found.want c.args.until) count found.there found.until refl allow))
    refl refl refl is

pub returns-clause-ok : goal.returns-clause-ok
returns-clause-ok c =
    on_ok_weaker c.push.result
    (pushed c.args.offset c.args.item c.args.until c.args.self.now.wants.items c.let_go.new.self.wants.items c.push.new.self.wants.items c.let_go.ensures.wants)
    c.push.ensures.ok

pub returns-clause-allowed : goal.returns-clause-allowed
returns-clause-allowed c types is =
    pushed_allowed c.push.result types c.args.offset (kept_of c.let_go.new.self) (kept_of c.push.new.self) _ c.push.ensures.ok c.push.ensures.refused
    c.push.ensures.last c.push.ensures.last_allowed (ap (λ m. m.entries) c.push.ensures.allowed) (c.let_go.ensures.allowed types is)
