use Rattle.std.proofs.Common.{arith}
use Rattle.std.proofs.lemmas.Result.{IfOk-weaker}
use Rattle.jv_interp_held.specs.declared.effect.Effect.{Effect}
use Rattle.jv_interp_members.specs.Known.{known}
use Rattle.jv_interp_objects.specs.Arrays.{MakesArray as MakesOne}
use Rattle.jv_interp_held.specs.Executing.{place}
use Rattle.jv_interp_objects.specs.Making.{MakesArray}
use Rattle.jv_interp_objects.proofs.ArraysMade.{names, failed, made}
use Rattle.jv_interp_objects.proofs.making.anewarray.Goals as goal

pub named-requires-clause-names : goal.named-requires-clause-names
named-requires-clause-names g c =
    let k = known c.args.current.classes.now.world c.args.linked.now c.args.current.site in
    let here = place c.args.at.now c.args.words.now c.args.held.now (g.S.Store.content c.args.store.now) in
    let w = c.requires.can in
    names c.args.index c.args.current.next k here w.texts w.c w.addresses w.done w.below w.makes

pub returns-in-Err-clause-makes : goal.returns-in-Err-clause-makes
returns-in-Err-clause-makes g c = λ texts x addresses done below h.
    let k = known c.args.current.classes.now.world c.args.linked.now c.args.current.site in
    let here = place c.args.at.now c.args.words.now c.args.held.now (g.S.Store.content c.args.store.now) in
    failed c.args.index c.args.current.next k here texts x addresses done below h c.in-Err.class c.in-Err.ensures.found

pub new_array-requires-clause-can : goal.new_array-requires-clause-can
new_array-requires-clause-can g c =
    let k = known c.args.current.classes.now.world c.args.linked.now c.args.current.site in
    let here = place c.args.at.now c.args.words.now c.args.held.now (g.S.Store.content c.args.store.now) in
    let w = c.requires.can in
    let m = made c.args.index c.args.current.next k here w.texts w.c w.addresses w.done w.below w.makes c.in-Ok.components c.in-Ok.ensures.found c.array_word-word.result c.array_word-word.ensures in
    record { texts = w.texts; c = w.c; components = m.components; addresses = w.addresses; done = w.done; below = w.below; makes = m.making }

pub returns-clause-makes : goal.returns-clause-makes
returns-clause-makes g c =
    let k = known c.args.current.classes.now.world c.args.linked.now c.args.current.site in
    let here = place c.args.at.now c.args.words.now c.args.held.now (g.S.Store.content c.args.store.now) in
    IfOk-weaker c.new_array.result
    (λ (effect : Effect). MakesOne c.array_word-word.result 1 c.args.current.next c.args.at.now c.args.words.now c.args.held.now
    (g.S.Store.content c.args.store.now) c.new_array.new.at c.new_array.new.words c.new_array.new.held (g.S.Store.content c.new_array.new.store)
    effect)
    (λ (effect : Effect). MakesArray c.args.index c.args.current.next k here (place c.new_array.new.at c.new_array.new.words c.new_array.new.held (g.S.Store.content c.new_array.new.store)) effect)
    (λ effect makes. λ texts x addresses done below h.
    let m = made c.args.index c.args.current.next k here texts x addresses done below h c.in-Ok.components c.in-Ok.ensures.found c.array_word-word.result
    c.array_word-word.ensures in makes texts x m.components addresses done below m.making)
    c.new_array.ensures.makes

pub named-requires-clause-few : goal.named-requires-clause-few
named-requires-clause-few g c = let few = c.requires.can.makes.known.few in omega (arith, few)

pub array_word-word-requires-clause-element : goal.array_word-word-requires-clause-element
array_word-word-requires-clause-element g c =
    let few = c.requires.can.makes.known.few in let some = c.in-Ok.ensures.few in let element = some.element in omega (arith, few, element)
