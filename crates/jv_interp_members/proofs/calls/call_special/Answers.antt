use Rattle.std.proofs.Common.{ℕ, ◌-◌, sym, subst, arith}
use Rattle.std.specs.Prelude.{Ok, Err}
use Rattle.jv_link.specs.declared.site.Use.TheVariants as uses
use Rattle.jv_link.specs.Objects.{IsObject}
use Rattle.jv_interp_members.specs.Known.{known}
use Rattle.jv_interp_members.specs.Resolved.{class_number, IsRun}
use Rattle.jv_interp_held.specs.Executing.{place}
use Rattle.jv_interp_members.proofs.AtSite.{is_site, failed}
use Rattle.jv_interp_members.proofs.CallsWork.{of_special, enough, some, few, raises_null, receives, has, is_object, runs, refused, special_does, entered_init}
use Rattle.jv_interp_members.proofs.calls.call_special.Goals as goal

pub returns-in-Err-clause-calls : goal.returns-in-Err-clause-calls
returns-in-Err-clause-calls g c = λ next texts x addresses done below h.
    let k = known c.args.current.classes.now.world c.args.linked.now c.args.current.site in
    let here = place c.args.at.now c.args.words.now c.args.held.now (g.S.Store.content c.args.store.now) in
    failed uses.Invokespecial c.args.index next k here texts x addresses done below h c.in-Err.class c.in-Err.ensures.found

pub overflow_sub-object : goal.overflow_sub-object
overflow_sub-object g c =
    let k = known c.args.current.classes.now.world c.args.linked.now c.args.current.site in
    let here = place c.args.at.now c.args.words.now c.args.held.now (g.S.Store.content c.args.store.now) in
    let w = c.requires.can in
    enough uses.Invokespecial c.args.index w.next k here w.texts w.c w.addresses w.done w.below w.calls of_special c.method_is_called.ensures
    c.in-Ok.called c.in-Ok.ensures.found c.in-Ok.ensures.called

pub bounds-words-at : goal.bounds-words-at
bounds-words-at g c =
    let k = known c.args.current.classes.now.world c.args.linked.now c.args.current.site in
    let here = place c.args.at.now c.args.words.now c.args.held.now (g.S.Store.content c.args.store.now) in
    let w = c.requires.can in
    let e = enough uses.Invokespecial c.args.index w.next k here w.texts w.c w.addresses w.done w.below w.calls of_special c.method_is_called.ensures
    c.in-Ok.called c.in-Ok.ensures.found c.in-Ok.ensures.called in
    let s = some uses.Invokespecial c.args.index w.next k here w.texts w.c w.addresses w.done w.below w.calls of_special c.method_is_called.ensures
    c.in-Ok.called c.in-Ok.ensures.found c.in-Ok.ensures.called in
    let t = w.calls.executes.top_within in
    omega (arith, e, s, t)

pub returns-then-object-eq0-clause-calls : goal.returns-then-object-eq0-clause-calls
returns-then-object-eq0-clause-calls g c = λ next texts x addresses done below h.
    let k = known c.args.current.classes.now.world c.args.linked.now c.args.current.site in
    let here = place c.args.at.now c.args.words.now c.args.held.now (g.S.Store.content c.args.store.now) in
    raises_null uses.Invokespecial c.args.index next k here texts x addresses done below h of_special c.method_is_called.ensures c.in-Ok.called
    c.in-Ok.ensures.found c.in-Ok.ensures.called c.if-object-eq0.true

pub overflow_cast-result : goal.overflow_cast-result
overflow_cast-result g c =
    let k = known c.args.current.classes.now.world c.args.linked.now c.args.current.site in
    let here = place c.args.at.now c.args.words.now c.args.held.now (g.S.Store.content c.args.store.now) in
    let w = c.requires.can in
    let n = few uses.Invokespecial c.args.index w.next k here w.texts w.c w.addresses w.done w.below w.calls of_special c.method_is_called.ensures
    c.in-Ok.called c.in-Ok.ensures.found c.in-Ok.ensures.called in
    omega (arith, n)

pub returns-then-called-clause-calls : goal.returns-then-called-clause-calls
returns-then-called-clause-calls g c = λ next texts x addresses done below h.
    let k = known c.args.current.classes.now.world c.args.linked.now c.args.current.site in
    let here = place c.args.at.now c.args.words.now c.args.held.now (g.S.Store.content c.args.store.now) in
    entered_init c.args.index next k here texts x addresses done below h c.method_is_called.ensures c.in-Ok.called c.in-Ok.ensures.found c.in-Ok.ensures.called
    (receives uses.Invokespecial c.args.index next k here texts x addresses done below h of_special c.method_is_called.ensures c.in-Ok.called
    c.in-Ok.ensures.found c.in-Ok.ensures.called c.if-object-eq0.false) c.if-called.true c.number_of.result
    (λ d at. c.number_of.ensures c.args.current.classes.now.world d c.requires.methods at)

pub get-word-requires : goal.get-word-requires
get-word-requires g c =
    let k = known c.args.current.classes.now.world c.args.linked.now c.args.current.site in
    let here = place c.args.at.now c.args.words.now c.args.held.now (g.S.Store.content c.args.store.now) in
    let w = c.requires.can in
    (has uses.Invokespecial c.args.index w.next k here w.texts w.c w.addresses w.done w.below w.calls of_special c.method_is_called.ensures c.in-Ok.called c.in-Ok.ensures.found c.in-Ok.ensures.called
    (receives uses.Invokespecial c.args.index w.next k here w.texts w.c w.addresses w.done w.below w.calls of_special c.method_is_called.ensures
    c.in-Ok.called c.in-Ok.ensures.found c.in-Ok.ensures.called c.if-object-eq0.false)
    (special_does c.args.index w.next k here w.texts w.c w.addresses w.done w.below w.calls c.method_is_called.ensures c.in-Ok.called
    c.in-Ok.ensures.found c.in-Ok.ensures.called c.if-called.false)).some

pub run-requires-clause-site : goal.run-requires-clause-site
run-requires-clause-site g c =
    let k = known c.args.current.classes.now.world c.args.linked.now c.args.current.site in
    let here = place c.args.at.now c.args.words.now c.args.held.now (g.S.Store.content c.args.store.now) in
    let w = c.requires.can in
    is_site uses.Invokespecial c.args.index w.next k here w.texts w.c w.addresses w.done w.below w.calls

pub run-requires-clause-object : goal.run-requires-clause-object
run-requires-clause-object g c =
    let k = known c.args.current.classes.now.world c.args.linked.now c.args.current.site in
    let here = place c.args.at.now c.args.words.now c.args.held.now (g.S.Store.content c.args.store.now) in
    let w = c.requires.can in
    subst (λ (n : ℕ). IsObject c.args.current.classes.now.world (class_number n)) (sym c.get-word.ensures)
    (is_object uses.Invokespecial c.args.index w.next k here w.texts w.c w.addresses w.done w.below w.calls of_special c.method_is_called.ensures
    c.in-Ok.called c.in-Ok.ensures.found c.in-Ok.ensures.called
    (receives uses.Invokespecial c.args.index w.next k here w.texts w.c w.addresses w.done w.below w.calls of_special c.method_is_called.ensures
    c.in-Ok.called c.in-Ok.ensures.found c.in-Ok.ensures.called c.if-object-eq0.false)
    (special_does c.args.index w.next k here w.texts w.c w.addresses w.done w.below w.calls c.method_is_called.ensures c.in-Ok.called
    c.in-Ok.ensures.found c.in-Ok.ensures.called c.if-called.false))

pub overflow_cast-result-in-Ok-run : goal.overflow_cast-result-in-Ok-run
overflow_cast-result-in-Ok-run g c =
    let k = known c.args.current.classes.now.world c.args.linked.now c.args.current.site in
    let here = place c.args.at.now c.args.words.now c.args.held.now (g.S.Store.content c.args.store.now) in
    let w = c.requires.can in
    let n = few uses.Invokespecial c.args.index w.next k here w.texts w.c w.addresses w.done w.below w.calls of_special c.method_is_called.ensures
    c.in-Ok.called c.in-Ok.ensures.found c.in-Ok.ensures.called in
    omega (arith, n)

pub returns-in-Ok-run-clause-calls : goal.returns-in-Ok-run-clause-calls
returns-in-Ok-run-clause-calls g c = λ next texts x addresses done below h.
    let k = known c.args.current.classes.now.world c.args.linked.now c.args.current.site in
    let here = place c.args.at.now c.args.words.now c.args.held.now (g.S.Store.content c.args.store.now) in
    runs uses.Invokespecial c.args.index next k here texts x addresses done below h of_special c.method_is_called.ensures c.in-Ok.called c.in-Ok.ensures.found c.in-Ok.ensures.called
    (receives uses.Invokespecial c.args.index next k here texts x addresses done below h of_special c.method_is_called.ensures c.in-Ok.called
    c.in-Ok.ensures.found c.in-Ok.ensures.called c.if-object-eq0.false)
    (special_does c.args.index next k here texts x addresses done below h c.method_is_called.ensures c.in-Ok.called c.in-Ok.ensures.found
    c.in-Ok.ensures.called c.if-called.false) c.in-Ok-run.method
    (subst (λ (n : ℕ). IsRun c.args.current.classes.now.world c.args.current.site uses.Invokespecial c.in-Ok.called.target n (Ok c.in-Ok-run.method)) c.get-word.ensures c.in-Ok-run.ensures.run)

pub returns-in-Err-run-clause-calls : goal.returns-in-Err-run-clause-calls
returns-in-Err-run-clause-calls g c = λ next texts x addresses done below h.
    let k = known c.args.current.classes.now.world c.args.linked.now c.args.current.site in
    let here = place c.args.at.now c.args.words.now c.args.held.now (g.S.Store.content c.args.store.now) in
    refused uses.Invokespecial c.args.index next k here texts x addresses done below h of_special c.method_is_called.ensures c.in-Ok.called c.in-Ok.ensures.found c.in-Ok.ensures.called
    (receives uses.Invokespecial c.args.index next k here texts x addresses done below h of_special c.method_is_called.ensures c.in-Ok.called
    c.in-Ok.ensures.found c.in-Ok.ensures.called c.if-object-eq0.false)
    (special_does c.args.index next k here texts x addresses done below h c.method_is_called.ensures c.in-Ok.called c.in-Ok.ensures.found
    c.in-Ok.ensures.called c.if-called.false) c.in-Err-run.class
    (subst (λ (n : ℕ). IsRun c.args.current.classes.now.world c.args.current.site uses.Invokespecial c.in-Ok.called.target n (Err c.in-Err-run.class)) c.get-word.ensures c.in-Err-run.ensures.run)
