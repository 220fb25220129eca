use Rattle.std.proofs.Common.{sym, ◌∙◌, arith}
use Rattle.jv_link.specs.declared.site.Use.TheVariants as uses
use Rattle.jv_interp_members.specs.Known.{known}
use Rattle.jv_interp_held.specs.Executing.{place}
use Rattle.jv_interp_members.proofs.AtSite.{failed}
use Rattle.jv_interp_members.proofs.StaticWork.{f, at, begins, few, enters, writes, reads, names, likes}
use Rattle.jv_interp_members.proofs.calls.call_static.Goals as goal

pub returns-in-Err-clause-calls : goal.returns-in-Err-clause-calls
returns-in-Err-clause-calls c = λ blocks texts x addresses done below h.
    let k = known c.args.current.classes.now.world c.args.linked.now c.args.current.site in
    let here = place c.args.at.now c.args.words.now c.args.held.now blocks in
    failed uses.Invokestatic c.args.index c.args.current.next k here texts x addresses done below h.calls c.in-Err.class c.in-Err.ensures.found

pub returns-then-not-is_ready-clause-calls : goal.returns-then-not-is_ready-clause-calls
returns-then-not-is_ready-clause-calls c = λ blocks texts x addresses done below h.
    let k = known c.args.current.classes.now.world c.args.linked.now c.args.current.site in
    let here = place c.args.at.now c.args.words.now c.args.held.now blocks in
    begins c.args.index c.args.current.next k here texts x addresses done below h.calls c.method_is_called.ensures c.in-Ok.called c.in-Ok.ensures.found c.in-Ok.ensures.called
    (sym (c.is_ready.ensures k.world x.states (f c.args.index c.args.current.next k here texts x addresses done below h.calls c.method_is_called.ensures
    c.in-Ok.called c.in-Ok.ensures.found c.in-Ok.ensures.called).target.declared.by h.states_are
    (at c.args.index c.args.current.next k here texts x addresses done below h.calls c.method_is_called.ensures c.in-Ok.called c.in-Ok.ensures.found
    c.in-Ok.ensures.called).class) ∙ c.if-not-is_ready.true)

pub write-requires : goal.write-requires
write-requires c =
    let k = known c.args.current.classes.now.world c.args.linked.now c.args.current.site in
    let w = c.requires.can in
    let here = place c.args.at.now c.args.words.now c.args.held.now w.blocks in
    let it = writes c.args.index c.args.current.next k here w.texts w.c w.addresses w.done w.below w.calls.calls c.method_is_called.ensures c.in-Ok.called c.in-Ok.ensures.found c.in-Ok.ensures.called
    (sym (c.is_ready.ensures k.world w.c.states (f c.args.index c.args.current.next k here w.texts w.c w.addresses w.done w.below w.calls.calls
    c.method_is_called.ensures c.in-Ok.called c.in-Ok.ensures.found c.in-Ok.ensures.called).target.declared.by w.calls.states_are
    (at c.args.index c.args.current.next k here w.texts w.c w.addresses w.done w.below w.calls.calls c.method_is_called.ensures c.in-Ok.called
    c.in-Ok.ensures.found c.in-Ok.ensures.called).class) ∙ c.if-not-is_ready.false) c.if-place-eq-HOST_IO.true c.if-place-eq-WRITE.true in
    record { blocks = w.blocks; texts = w.texts; c = w.c; number = it.number; rest = it.rest; addresses = w.addresses; done = w.done; below = w.below; writes = it.writing }

pub returns-then-place-eq-WRITE-clause-calls : goal.returns-then-place-eq-WRITE-clause-calls
returns-then-place-eq-WRITE-clause-calls c = λ blocks texts x addresses done below h.
    let k = known c.args.current.classes.now.world c.args.linked.now c.args.current.site in
    let here = place c.args.at.now c.args.words.now c.args.held.now blocks in
    let it = writes c.args.index c.args.current.next k here texts x addresses done below h.calls c.method_is_called.ensures c.in-Ok.called c.in-Ok.ensures.found c.in-Ok.ensures.called
    (sym (c.is_ready.ensures k.world x.states (f c.args.index c.args.current.next k here texts x addresses done below h.calls c.method_is_called.ensures
    c.in-Ok.called c.in-Ok.ensures.found c.in-Ok.ensures.called).target.declared.by h.states_are
    (at c.args.index c.args.current.next k here texts x addresses done below h.calls c.method_is_called.ensures c.in-Ok.called c.in-Ok.ensures.found
    c.in-Ok.ensures.called).class) ∙ c.if-not-is_ready.false) c.if-place-eq-HOST_IO.true c.if-place-eq-WRITE.true in
    c.write.ensures.writes blocks texts x it.number it.rest addresses done below it.writing

pub returns-then-place-eq-CLASS_NAME-clause-calls : goal.returns-then-place-eq-CLASS_NAME-clause-calls
returns-then-place-eq-CLASS_NAME-clause-calls c = λ blocks texts x addresses done below h.
    let k = known c.args.current.classes.now.world c.args.linked.now c.args.current.site in
    let here = place c.args.at.now c.args.words.now c.args.held.now blocks in
    names c.args.index c.args.current.next k here texts x addresses done below h.calls c.method_is_called.ensures c.in-Ok.called c.in-Ok.ensures.found c.in-Ok.ensures.called
    (sym (c.is_ready.ensures k.world x.states (f c.args.index c.args.current.next k here texts x addresses done below h.calls c.method_is_called.ensures
    c.in-Ok.called c.in-Ok.ensures.found c.in-Ok.ensures.called).target.declared.by h.states_are
    (at c.args.index c.args.current.next k here texts x addresses done below h.calls c.method_is_called.ensures c.in-Ok.called c.in-Ok.ensures.found
    c.in-Ok.ensures.called).class) ∙ c.if-not-is_ready.false) c.if-place-eq-HOST_IO.true c.if-place-eq-CLASS_NAME.true

pub returns-then-place-eq-ARRAY_LIKE-clause-calls : goal.returns-then-place-eq-ARRAY_LIKE-clause-calls
returns-then-place-eq-ARRAY_LIKE-clause-calls c = λ blocks texts x addresses done below h.
    let k = known c.args.current.classes.now.world c.args.linked.now c.args.current.site in
    let here = place c.args.at.now c.args.words.now c.args.held.now blocks in
    likes c.args.index c.args.current.next k here texts x addresses done below h.calls c.method_is_called.ensures c.in-Ok.called c.in-Ok.ensures.found c.in-Ok.ensures.called
    (sym (c.is_ready.ensures k.world x.states (f c.args.index c.args.current.next k here texts x addresses done below h.calls c.method_is_called.ensures
    c.in-Ok.called c.in-Ok.ensures.found c.in-Ok.ensures.called).target.declared.by h.states_are
    (at c.args.index c.args.current.next k here texts x addresses done below h.calls c.method_is_called.ensures c.in-Ok.called c.in-Ok.ensures.found
    c.in-Ok.ensures.called).class) ∙ c.if-not-is_ready.false) c.if-place-eq-HOST_IO.true c.if-place-eq-ARRAY_LIKE.true

pub read-requires : goal.read-requires
read-requires c =
    let k = known c.args.current.classes.now.world c.args.linked.now c.args.current.site in
    let w = c.requires.can in
    let here = place c.args.at.now c.args.words.now c.args.held.now w.blocks in
    record {
      blocks = w.blocks;
      texts = w.texts;
      c = w.c;
      addresses = w.addresses;
      done = w.done;
      below = w.below;
      reads = reads c.args.index c.args.current.next k here w.texts w.c w.addresses w.done w.below w.calls.calls c.method_is_called.ensures c.in-Ok.called c.in-Ok.ensures.found c.in-Ok.ensures.called
          (sym (c.is_ready.ensures k.world w.c.states (f c.args.index c.args.current.next k here w.texts w.c w.addresses w.done w.below w.calls.calls
          c.method_is_called.ensures c.in-Ok.called c.in-Ok.ensures.found c.in-Ok.ensures.called).target.declared.by w.calls.states_are
          (at c.args.index c.args.current.next k here w.texts w.c w.addresses w.done w.below w.calls.calls c.method_is_called.ensures c.in-Ok.called
          c.in-Ok.ensures.found c.in-Ok.ensures.called).class) ∙ c.if-not-is_ready.false) c.if-place-eq-HOST_IO.true
          c.if-place-eq-WRITE.false c.if-place-eq-CLASS_NAME.false c.if-place-eq-ARRAY_LIKE.false;
      room = w.room;
    }

pub returns-then-place-eq-HOST_IO-clause-calls : goal.returns-then-place-eq-HOST_IO-clause-calls
returns-then-place-eq-HOST_IO-clause-calls c = λ blocks texts x addresses done below h.
    let k = known c.args.current.classes.now.world c.args.linked.now c.args.current.site in
    let here = place c.args.at.now c.args.words.now c.args.held.now blocks in
    c.read.ensures.reads blocks texts x addresses done below (reads c.args.index c.args.current.next k here texts x addresses done below h.calls
    c.method_is_called.ensures c.in-Ok.called c.in-Ok.ensures.found c.in-Ok.ensures.called
    (sym (c.is_ready.ensures k.world x.states (f c.args.index c.args.current.next k here texts x addresses done below h.calls c.method_is_called.ensures
    c.in-Ok.called c.in-Ok.ensures.found c.in-Ok.ensures.called).target.declared.by h.states_are
    (at c.args.index c.args.current.next k here texts x addresses done below h.calls c.method_is_called.ensures c.in-Ok.called c.in-Ok.ensures.found
    c.in-Ok.ensures.called).class) ∙ c.if-not-is_ready.false) c.if-place-eq-HOST_IO.true c.if-place-eq-WRITE.false c.if-place-eq-CLASS_NAME.false c.if-place-eq-ARRAY_LIKE.false)

pub overflow_cast-result-2 : goal.overflow_cast-result-2
overflow_cast-result-2 c =
    let k = known c.args.current.classes.now.world c.args.linked.now c.args.current.site in
    let w = c.requires.can in
    let here = place c.args.at.now c.args.words.now c.args.held.now w.blocks in
    let n = few c.args.index c.args.current.next k here w.texts w.c w.addresses w.done w.below w.calls.calls c.method_is_called.ensures c.in-Ok.called c.in-Ok.ensures.found c.in-Ok.ensures.called
    (sym (c.is_ready.ensures k.world w.c.states (f c.args.index c.args.current.next k here w.texts w.c w.addresses w.done w.below w.calls.calls
    c.method_is_called.ensures c.in-Ok.called c.in-Ok.ensures.found c.in-Ok.ensures.called).target.declared.by w.calls.states_are
    (at c.args.index c.args.current.next k here w.texts w.c w.addresses w.done w.below w.calls.calls c.method_is_called.ensures c.in-Ok.called
    c.in-Ok.ensures.found c.in-Ok.ensures.called).class) ∙ c.if-not-is_ready.false) in
    omega (arith, n)

pub returns-clause-calls : goal.returns-clause-calls
returns-clause-calls c = λ blocks texts x addresses done below h.
    let k = known c.args.current.classes.now.world c.args.linked.now c.args.current.site in
    let here = place c.args.at.now c.args.words.now c.args.held.now blocks in
    enters c.args.index c.args.current.next k here texts x addresses done below h.calls c.method_is_called.ensures c.in-Ok.called c.in-Ok.ensures.found c.in-Ok.ensures.called
    (sym (c.is_ready.ensures k.world x.states (f c.args.index c.args.current.next k here texts x addresses done below h.calls c.method_is_called.ensures
    c.in-Ok.called c.in-Ok.ensures.found c.in-Ok.ensures.called).target.declared.by h.states_are
    (at c.args.index c.args.current.next k here texts x addresses done below h.calls c.method_is_called.ensures c.in-Ok.called c.in-Ok.ensures.found
    c.in-Ok.ensures.called).class) ∙ c.if-not-is_ready.false) c.if-place-eq-HOST_IO.false c.number_of.result
    (λ d there. c.number_of.ensures k.world d c.requires.methods there)
