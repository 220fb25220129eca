use Rattle.std.proofs.Common.{ℕ, ◌-◌, sym, subst, refl, arith}
use Rattle.jv_interp_members.specs.Known.{known}
use Rattle.jv_interp_objects.specs.Types.{HasWord}
use Rattle.jv_interp_held.specs.Executing.{place}
use Rattle.jv_interp_objects.proofs.Asked.{top, tested, has_word, some_block, failed, of_type, does_so, cast_step, cast_tail, cast_tests, null_stays, object_stays, cast_raises}
use Rattle.jv_interp_objects.proofs.asking.checkcast.Goals as goal

pub overflow_sub-object : goal.overflow_sub-object
overflow_sub-object g c =
    let k = known c.args.current.classes.now.world c.args.linked.now c.args.current.site in
    let here = place c.args.at.now c.args.words.now c.args.held.now (g.S.Store.content c.args.store.now) in
    let w = c.requires in
    let t = top cast_step c.args.index c.args.current.next k here w.texts w.c w.addresses w.done w.below w.asks in let some = t.some in omega (arith, some)

pub bounds-words-at : goal.bounds-words-at
bounds-words-at g c =
    let k = known c.args.current.classes.now.world c.args.linked.now c.args.current.site in
    let here = place c.args.at.now c.args.words.now c.args.held.now (g.S.Store.content c.args.store.now) in
    let w = c.requires in
    let t = top cast_step c.args.index c.args.current.next k here w.texts w.c w.addresses w.done w.below w.asks in let some = t.some in let within = w.asks.executes.top_within in omega
    (arith, some, within)

pub returns-then-object-eq0-clause-asks : goal.returns-then-object-eq0-clause-asks
returns-then-object-eq0-clause-asks g c = λ texts x addresses done below h.
    let k = known c.args.current.classes.now.world c.args.linked.now c.args.current.site in
    let here = place c.args.at.now c.args.words.now c.args.held.now (g.S.Store.content c.args.store.now) in
    null_stays c.args.index c.args.current.next k here texts x addresses done below h _ c.if-object-eq0.true refl refl

pub returns-in-Err-clause-asks : goal.returns-in-Err-clause-asks
returns-in-Err-clause-asks g c = λ texts x addresses done below h.
    let k = known c.args.current.classes.now.world c.args.linked.now c.args.current.site in
    let here = place c.args.at.now c.args.words.now c.args.held.now (g.S.Store.content c.args.store.now) in
    failed cast_step c.args.index c.args.current.next k here texts x addresses done below h cast_tail cast_tests c.if-object-eq0.false c.in-Err.class c.in-Err.ensures.found

pub get-word-requires : goal.get-word-requires
get-word-requires g c =
    let k = known c.args.current.classes.now.world c.args.linked.now c.args.current.site in
    let here = place c.args.at.now c.args.words.now c.args.held.now (g.S.Store.content c.args.store.now) in
    let w = c.requires in
    some_block cast_step c.args.index c.args.current.next k here w.texts w.c w.addresses w.done w.below w.asks cast_tail cast_tests c.if-object-eq0.false

pub is_instance-requires-clause-object : goal.is_instance-requires-clause-object
is_instance-requires-clause-object g c =
    let k = known c.args.current.classes.now.world c.args.linked.now c.args.current.site in
    let here = place c.args.at.now c.args.words.now c.args.held.now (g.S.Store.content c.args.store.now) in
    let w = c.requires in
    let it = tested cast_step c.args.index c.args.current.next k here w.texts w.c w.addresses w.done w.below w.asks cast_tail cast_tests c.if-object-eq0.false in (
      it.object,
      subst (λ (n : ℕ). HasWord c.args.current.classes.now.world it.object n) (sym c.get-word.ensures)
          (has_word cast_step c.args.index c.args.current.next k here w.texts w.c w.addresses w.done w.below w.asks cast_tail cast_tests c.if-object-eq0.false),
    )

pub is_instance-requires-clause-named : goal.is_instance-requires-clause-named
is_instance-requires-clause-named g c =
    let k = known c.args.current.classes.now.world c.args.linked.now c.args.current.site in
    let here = place c.args.at.now c.args.words.now c.args.held.now (g.S.Store.content c.args.store.now) in
    let w = c.requires in
    let it = of_type cast_step c.args.index c.args.current.next k here w.texts w.c w.addresses w.done w.below w.asks cast_tail cast_tests
    c.if-object-eq0.false c.in-Ok.type_named c.in-Ok.ensures.found in (it.type, it.is_of)

pub returns-then-not-is_instance-clause-asks : goal.returns-then-not-is_instance-clause-asks
returns-then-not-is_instance-clause-asks g c = λ texts x addresses done below h.
    let k = known c.args.current.classes.now.world c.args.linked.now c.args.current.site in
    let here = place c.args.at.now c.args.words.now c.args.held.now (g.S.Store.content c.args.store.now) in
    cast_raises c.args.index c.args.current.next k here texts x addresses done below h c.is_instance.result
    (does_so cast_step c.args.index c.args.current.next k here texts x addresses done below h cast_tail cast_tests c.if-object-eq0.false c.in-Ok.type_named c.in-Ok.ensures.found c.is_instance.result
    (λ object type word is. c.is_instance.ensures object type (subst (λ (n : ℕ). HasWord c.args.current.classes.now.world object n) (sym c.get-word.ensures) word) is)) c.if-not-is_instance.true

pub returns-clause-asks : goal.returns-clause-asks
returns-clause-asks g c = λ texts x addresses done below h.
    let k = known c.args.current.classes.now.world c.args.linked.now c.args.current.site in
    let here = place c.args.at.now c.args.words.now c.args.held.now (g.S.Store.content c.args.store.now) in
    object_stays c.args.index c.args.current.next k here texts x addresses done below h c.is_instance.result _
    (does_so cast_step c.args.index c.args.current.next k here texts x addresses done below h cast_tail cast_tests c.if-object-eq0.false c.in-Ok.type_named c.in-Ok.ensures.found c.is_instance.result
    (λ object type word is. c.is_instance.ensures object type (subst (λ (n : ℕ). HasWord c.args.current.classes.now.world object n) (sym c.get-word.ensures) word) is)) c.if-not-is_instance.false
    refl refl

pub named-requires-clause-few : goal.named-requires-clause-few
named-requires-clause-few g c = let few = c.requires.asks.known.few in omega (arith, few)
