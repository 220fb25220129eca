use Rattle.std.proofs.Common.{ℕ, ◌-◌, set, sym, subst, refl, arith}
use Rattle.jv_interp_held.specs.declared.effect.Effect.TheVariants as effects
use Rattle.jv_interp_held.specs.Executing.{Did, place}
use Rattle.jv_interp_members.specs.Known.{known}
use Rattle.jv_interp_objects.specs.Types.{HasWord}
use Rattle.jv_interp_objects.proofs.Asked.{top, tested, has_word, some_block, failed, of_type, does_so, instance_step, instance_tail, instance_tests, null_answers, object_answers}
use Rattle.jv_interp_objects.proofs.asking.instanceof.Goals as goal

pub overflow_sub-object : goal.overflow_sub-object
overflow_sub-object g c =
    let k = known c.args.current.classes.now.world c.args.linked.now c.args.current.site in
    let here = place c.args.at.now c.args.words.now c.args.held.now (g.S.Store.content c.args.store.now) in
    let w = c.requires in
    let t = top instance_step c.args.index c.args.current.next k here w.texts w.c w.addresses w.done w.below w.asks in let some = t.some in omega (arith, some)

pub bounds-words-at : goal.bounds-words-at
bounds-words-at g c =
    let k = known c.args.current.classes.now.world c.args.linked.now c.args.current.site in
    let here = place c.args.at.now c.args.words.now c.args.held.now (g.S.Store.content c.args.store.now) in
    let w = c.requires in
    let t = top instance_step c.args.index c.args.current.next k here w.texts w.c w.addresses w.done w.below w.asks in let some = t.some in let within =
    w.asks.executes.top_within in omega (arith, some, within)

pub returns-then-object-eq0-clause-asks : goal.returns-then-object-eq0-clause-asks
returns-then-object-eq0-clause-asks g c = λ texts x addresses done below h.
    let k = known c.args.current.classes.now.world c.args.linked.now c.args.current.site in
    let here = place c.args.at.now c.args.words.now c.args.held.now (g.S.Store.content c.args.store.now) in
    null_answers c.args.index c.args.current.next k here texts x addresses done below h _ c.if-object-eq0.true refl refl

pub returns-in-Err-clause-asks : goal.returns-in-Err-clause-asks
returns-in-Err-clause-asks g c = λ texts x addresses done below h.
    let k = known c.args.current.classes.now.world c.args.linked.now c.args.current.site in
    let here = place c.args.at.now c.args.words.now c.args.held.now (g.S.Store.content c.args.store.now) in
    failed instance_step c.args.index c.args.current.next k here texts x addresses done below h instance_tail instance_tests c.if-object-eq0.false c.in-Err.class c.in-Err.ensures.found

pub get-word-requires : goal.get-word-requires
get-word-requires g c =
    let k = known c.args.current.classes.now.world c.args.linked.now c.args.current.site in
    let here = place c.args.at.now c.args.words.now c.args.held.now (g.S.Store.content c.args.store.now) in
    let w = c.requires in
    some_block instance_step c.args.index c.args.current.next k here w.texts w.c w.addresses w.done w.below w.asks instance_tail instance_tests c.if-object-eq0.false

pub is_instance-requires-clause-object : goal.is_instance-requires-clause-object
is_instance-requires-clause-object g c =
    let k = known c.args.current.classes.now.world c.args.linked.now c.args.current.site in
    let here = place c.args.at.now c.args.words.now c.args.held.now (g.S.Store.content c.args.store.now) in
    let w = c.requires in
    let it = tested instance_step c.args.index c.args.current.next k here w.texts w.c w.addresses w.done w.below w.asks instance_tail instance_tests c.if-object-eq0.false in (
      it.object,
      subst (λ (n : ℕ). HasWord c.args.current.classes.now.world it.object n) (sym c.get-word.ensures)
          (has_word instance_step c.args.index c.args.current.next k here w.texts w.c w.addresses w.done w.below w.asks instance_tail instance_tests c.if-object-eq0.false),
    )

pub is_instance-requires-clause-named : goal.is_instance-requires-clause-named
is_instance-requires-clause-named g c =
    let k = known c.args.current.classes.now.world c.args.linked.now c.args.current.site in
    let here = place c.args.at.now c.args.words.now c.args.held.now (g.S.Store.content c.args.store.now) in
    let w = c.requires in
    let it = of_type instance_step c.args.index c.args.current.next k here w.texts w.c w.addresses w.done w.below w.asks instance_tail instance_tests
    c.if-object-eq0.false c.in-Ok.type_named c.in-Ok.ensures.found in (it.type, it.is_of)

pub overflow_sub-words : goal.overflow_sub-words
overflow_sub-words g c =
    let k = known c.args.current.classes.now.world c.args.linked.now c.args.current.site in
    let here = place c.args.at.now c.args.words.now c.args.held.now (g.S.Store.content c.args.store.now) in
    let w = c.requires in
    let t = top instance_step c.args.index c.args.current.next k here w.texts w.c w.addresses w.done w.below w.asks in let some = t.some in omega (arith, some)

pub returns-clause-asks : goal.returns-clause-asks
returns-clause-asks g c = λ texts x addresses done below h.
    let k = known c.args.current.classes.now.world c.args.linked.now c.args.current.site in
    let here = place c.args.at.now c.args.words.now c.args.held.now (g.S.Store.content c.args.store.now) in
    subst
    (λ (n : ℕ). Did texts (place (record c.args.at.now { pc = c.args.current.next }) (set c.args.words.now (c.args.at.now.top - 1) n) c.args.held.now
    (g.S.Store.content c.args.store.now)) effects.Goes x addresses done below)
    (sym c.int_of.ensures)
    (object_answers c.args.index c.args.current.next k here texts x addresses done below h c.is_instance.result _
    (does_so instance_step c.args.index c.args.current.next k here texts x addresses done below h instance_tail instance_tests c.if-object-eq0.false
    c.in-Ok.type_named c.in-Ok.ensures.found c.is_instance.result
    (λ object type word is. c.is_instance.ensures object type (subst (λ (n : ℕ). HasWord c.args.current.classes.now.world object n) (sym c.get-word.ensures) word) is)) refl refl)

pub named-requires-clause-few : goal.named-requires-clause-few
named-requires-clause-few g c = let few = c.requires.asks.known.few in omega (arith, few)
