use Rattle.std.proofs.Common.{sym, ◌∙◌, arith}
use Rattle.std.proofs.lemmas.Result.{IfOk-weaker}
use Rattle.jv_interp_held.specs.declared.effect.Effect.{Effect}
use Rattle.jv_interp_members.specs.Known.{known}
use Rattle.jv_interp_objects.specs.Objects.{Creates}
use Rattle.jv_interp_held.specs.Executing.{place}
use Rattle.jv_interp_objects.specs.Making.{MakesObject}
use Rattle.jv_interp_objects.proofs.ObjectMade.{names, failed, l, at, few, begins, lacks, creating}
use Rattle.jv_interp_objects.proofs.making.create.Goals as goal

pub class_named_new-requires-clause-names : goal.class_named_new-requires-clause-names
class_named_new-requires-clause-names g c =
    let k = known c.args.current.classes.now.world c.args.linked.now c.args.current.site in
    let here = place c.args.at.now c.args.words.now c.args.held.now (g.S.Store.content c.args.store.now) in
    let w = c.requires.can in
    names c.args.index c.args.current.next k c.args.current.states.now here w.texts w.c w.addresses w.done w.below w.makes

pub returns-in-Err-clause-makes : goal.returns-in-Err-clause-makes
returns-in-Err-clause-makes g c = λ texts x addresses done below h.
    let k = known c.args.current.classes.now.world c.args.linked.now c.args.current.site in
    let here = place c.args.at.now c.args.words.now c.args.held.now (g.S.Store.content c.args.store.now) in
    failed c.args.index c.args.current.next k c.args.current.states.now here texts x addresses done below h c.in-Err.class c.in-Err.ensures.found

pub overflow_cast-result : goal.overflow_cast-result
overflow_cast-result g c =
    let k = known c.args.current.classes.now.world c.args.linked.now c.args.current.site in
    let here = place c.args.at.now c.args.words.now c.args.held.now (g.S.Store.content c.args.store.now) in
    let w = c.requires.can in
    let less = few c.args.index c.args.current.next k c.args.current.states.now here w.texts w.c w.addresses w.done w.below w.makes c.in-Ok.class c.in-Ok.ensures.found in omega (arith, less)

pub returns-then-not-is_ready-clause-makes : goal.returns-then-not-is_ready-clause-makes
returns-then-not-is_ready-clause-makes g c = λ texts x addresses done below h.
    let k = known c.args.current.classes.now.world c.args.linked.now c.args.current.site in
    let here = place c.args.at.now c.args.words.now c.args.held.now (g.S.Store.content c.args.store.now) in
    begins c.args.index c.args.current.next k c.args.current.states.now here texts x addresses done below h c.in-Ok.class c.in-Ok.ensures.found
    (sym (c.is_ready.ensures k.world x.states (l c.args.index c.args.current.next k c.args.current.states.now here texts x addresses done below h c.in-Ok.class
    c.in-Ok.ensures.found) h.states_are (at c.args.index c.args.current.next k c.args.current.states.now here texts x addresses done below h c.in-Ok.class
    c.in-Ok.ensures.found)) ∙ c.if-not-is_ready.true)

pub returns-then-size-held-clause-makes : goal.returns-then-size-held-clause-makes
returns-then-size-held-clause-makes g c = λ texts x addresses done below h.
    let k = known c.args.current.classes.now.world c.args.linked.now c.args.current.site in
    let here = place c.args.at.now c.args.words.now c.args.held.now (g.S.Store.content c.args.store.now) in
    lacks c.args.index c.args.current.next k c.args.current.states.now here texts x addresses done below h c.in-Ok.class c.in-Ok.ensures.found
    (sym (c.is_ready.ensures k.world x.states (l c.args.index c.args.current.next k c.args.current.states.now here texts x addresses done below h c.in-Ok.class
    c.in-Ok.ensures.found) h.states_are (at c.args.index c.args.current.next k c.args.current.states.now here texts x addresses done below h c.in-Ok.class
    c.in-Ok.ensures.found)) ∙ c.if-not-is_ready.false)
    c.object_words-size.result
    (c.object_words-size.ensures k.world c.in-Ok.ensures.linked (l c.args.index c.args.current.next k c.args.current.states.now here texts x addresses done below h
    c.in-Ok.class c.in-Ok.ensures.found) (at c.args.index c.args.current.next k c.args.current.states.now here texts x addresses done below h c.in-Ok.class
    c.in-Ok.ensures.found)) c.if-size-held.true

pub overflow_cast-class : goal.overflow_cast-class
overflow_cast-class g c =
    let k = known c.args.current.classes.now.world c.args.linked.now c.args.current.site in
    let here = place c.args.at.now c.args.words.now c.args.held.now (g.S.Store.content c.args.store.now) in
    let w = c.requires.can in
    let less = few c.args.index c.args.current.next k c.args.current.states.now here w.texts w.c w.addresses w.done w.below w.makes c.in-Ok.class c.in-Ok.ensures.found in omega (arith, less)

pub new_object-requires-clause-few : goal.new_object-requires-clause-few
new_object-requires-clause-few g c =
    let k = known c.args.current.classes.now.world c.args.linked.now c.args.current.site in
    let here = place c.args.at.now c.args.words.now c.args.held.now (g.S.Store.content c.args.store.now) in
    let w = c.requires.can in
    few c.args.index c.args.current.next k c.args.current.states.now here w.texts w.c w.addresses w.done w.below w.makes c.in-Ok.class c.in-Ok.ensures.found

pub new_object-requires-clause-can : goal.new_object-requires-clause-can
new_object-requires-clause-can g c =
    let k = known c.args.current.classes.now.world c.args.linked.now c.args.current.site in
    let here = place c.args.at.now c.args.words.now c.args.held.now (g.S.Store.content c.args.store.now) in
    let w = c.requires.can in
    record {
      texts = w.texts;
      c = w.c;
      l = l c.args.index c.args.current.next k c.args.current.states.now here w.texts w.c w.addresses w.done w.below w.makes c.in-Ok.class c.in-Ok.ensures.found;
      addresses = w.addresses;
      done = w.done;
      below = w.below;
      creates =
          creating c.args.index c.args.current.next k c.args.current.states.now here w.texts w.c w.addresses w.done w.below w.makes c.in-Ok.class c.in-Ok.ensures.found
          (sym (c.is_ready.ensures k.world w.c.states (l c.args.index c.args.current.next k c.args.current.states.now here w.texts w.c w.addresses w.done w.below
          w.makes c.in-Ok.class c.in-Ok.ensures.found) w.makes.states_are
          (at c.args.index c.args.current.next k c.args.current.states.now here w.texts w.c w.addresses w.done w.below w.makes c.in-Ok.class
          c.in-Ok.ensures.found)) ∙ c.if-not-is_ready.false)
          c.object_words-size.result
          (c.object_words-size.ensures k.world c.in-Ok.ensures.linked (l c.args.index c.args.current.next k c.args.current.states.now here w.texts w.c w.addresses
          w.done w.below w.makes c.in-Ok.class c.in-Ok.ensures.found)
          (at c.args.index c.args.current.next k c.args.current.states.now here w.texts w.c w.addresses w.done w.below w.makes c.in-Ok.class
          c.in-Ok.ensures.found));
      room = w.room;
    }

pub returns-clause-makes : goal.returns-clause-makes
returns-clause-makes g c =
    let k = known c.args.current.classes.now.world c.args.linked.now c.args.current.site in
    let here = place c.args.at.now c.args.words.now c.args.held.now (g.S.Store.content c.args.store.now) in
    IfOk-weaker c.new_object.result
    (λ (effect : Effect). Creates c.in-Ok.class c.object_words-size.result c.args.current.next c.args.at.now c.args.words.now c.args.held.now
    (g.S.Store.content c.args.store.now) c.new_object.new.at c.new_object.new.words c.new_object.new.held
    (g.S.Store.content c.new_object.new.store) effect)
    (λ (effect : Effect). MakesObject c.args.index c.args.current.next k c.args.current.states.now here
    (place c.new_object.new.at c.new_object.new.words c.new_object.new.held (g.S.Store.content c.new_object.new.store)) effect)
    (λ effect creates. λ texts x addresses done below h.
    creates texts x (l c.args.index c.args.current.next k c.args.current.states.now here texts x addresses done below h c.in-Ok.class c.in-Ok.ensures.found) addresses done below
    (creating c.args.index c.args.current.next k c.args.current.states.now here texts x addresses done below h c.in-Ok.class c.in-Ok.ensures.found
    (sym (c.is_ready.ensures k.world x.states (l c.args.index c.args.current.next k c.args.current.states.now here texts x addresses done below h c.in-Ok.class
    c.in-Ok.ensures.found) h.states_are (at c.args.index c.args.current.next k c.args.current.states.now here texts x addresses done below h c.in-Ok.class
    c.in-Ok.ensures.found)) ∙ c.if-not-is_ready.false)
    c.object_words-size.result
    (c.object_words-size.ensures k.world c.in-Ok.ensures.linked (l c.args.index c.args.current.next k c.args.current.states.now here texts x addresses done below h
    c.in-Ok.class c.in-Ok.ensures.found) (at c.args.index c.args.current.next k c.args.current.states.now here texts x addresses done below h c.in-Ok.class
    c.in-Ok.ensures.found))))
    c.new_object.ensures.creates
