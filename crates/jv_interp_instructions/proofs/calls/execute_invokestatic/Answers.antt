use Rattle.std.proofs.Common.{ap}
use Rattle.std.proofs.lemmas.Result.{IfOk-weaker}
use Rattle.jv_interp_held.specs.declared.held.Held.{Held}
use Rattle.jv_interp_members.specs.Known.{known_at}
use Rattle.jv_interp_instructions.proofs.CallsMade.{called_static, can_name, can_like, named, like, parts_same}
use Rattle.jv_interp_instructions.proofs.calls.execute_invokestatic.Goals as goal

pub returns-in-Has-clause-done : goal.returns-in-Has-clause-done
returns-in-Has-clause-done g c = λ texts.
    called_static c.execution_keeps.ensures _ _ _ _ texts _ _ _ _ _ _ _ _
    (ap (λ (h : Held). h.cells) c.call_static.ensures.same) c.in-Has.ensures.calls

pub class_name-requires : goal.class_name-requires
class_name-requires g c =
    let blocks = g.S.Store.content c.args.store.now in
    let k = known_at c.args.current c.args.linked.now in
    let same = parts_same c.call_static.new.at c.args.at.now c.call_static.new.words c.args.words.now c.call_static.new.held c.args.held.now blocks
    (c.in-ClassName.ensures.unmoved blocks) in
    rw same.0 (rw same.1 (rw same.2
    (can_name c.execution_keeps.ensures c.args.current.states.now c.args.index c.args.current.next k c.requires.can.0 c.args.at.now c.args.words.now c.args.held.now
    blocks c.in-ClassName.ensures.calls c.requires.can.1)))

pub returns-in-ClassName-clause-done : goal.returns-in-ClassName-clause-done
returns-in-ClassName-clause-done g c = λ texts.
    let blocks = g.S.Store.content c.args.store.now in
    let k = known_at c.args.current c.args.linked.now in
    let same = parts_same c.call_static.new.at c.args.at.now c.call_static.new.words c.args.words.now c.call_static.new.held c.args.held.now blocks
    (c.in-ClassName.ensures.unmoved blocks) in
    rw same.2
    (named c.execution_keeps.ensures c.args.current.states.now c.args.index c.args.current.next k texts c.args.at.now c.args.words.now c.args.held.now
    blocks c.in-ClassName.ensures.calls _ _ _
    (rw same.0 at (rw same.1 at (rw same.2 at c.class_name.ensures.names))))

pub returns-in-ClassName-clause-unmoved : goal.returns-in-ClassName-clause-unmoved
returns-in-ClassName-clause-unmoved g c =
    let blocks = g.S.Store.content c.args.store.now in
    let k = known_at c.args.current c.args.linked.now in
    let same = parts_same c.call_static.new.at c.args.at.now c.call_static.new.words c.args.words.now c.call_static.new.held c.args.held.now blocks
    (c.in-ClassName.ensures.unmoved blocks) in
    rw same.2 (rw same.0 at (rw same.1 at (rw same.2 at c.class_name.ensures.unmoved)))

pub array_like-requires-clause-can : goal.array_like-requires-clause-can
array_like-requires-clause-can g c =
    let blocks = g.S.Store.content c.args.store.now in
    let k = known_at c.args.current c.args.linked.now in
    let same = parts_same c.call_static.new.at c.args.at.now c.call_static.new.words c.args.words.now c.call_static.new.held c.args.held.now blocks
    (c.in-ArrayLike.ensures.unmoved blocks) in (
      c.args.current.classes.now.world,
      rw same.0 (rw same.1 (rw same.2
          (can_like c.execution_keeps.ensures c.args.current.states.now c.args.index c.args.current.next k c.requires.can.0 c.args.at.now c.args.words.now c.args.held.now
          blocks c.in-ArrayLike.ensures.calls c.requires.can.1))),
    )

pub returns-in-ArrayLike-clause-done : goal.returns-in-ArrayLike-clause-done
returns-in-ArrayLike-clause-done g c =
    let blocks = g.S.Store.content c.args.store.now in
    let k = known_at c.args.current c.args.linked.now in
    let same = parts_same c.call_static.new.at c.args.at.now c.call_static.new.words c.args.words.now c.call_static.new.held c.args.held.now blocks
    (c.in-ArrayLike.ensures.unmoved blocks) in
    IfOk-weaker c.array_like.result _ _
    (λ effect made texts. like c.execution_keeps.ensures c.args.current.states.now c.args.index c.args.current.next k texts c.args.at.now c.args.words.now c.args.held.now
    blocks c.in-ArrayLike.ensures.calls _ _ _ _ effect made)
    (rw same.0 at (rw same.1 at (rw same.2 at c.array_like.ensures.makes)))

pub returns-in-ArrayLike-clause-unmoved : goal.returns-in-ArrayLike-clause-unmoved
returns-in-ArrayLike-clause-unmoved g c =
    let blocks = g.S.Store.content c.args.store.now in
    let k = known_at c.args.current c.args.linked.now in
    let same = parts_same c.call_static.new.at c.args.at.now c.call_static.new.words c.args.words.now c.call_static.new.held c.args.held.now blocks
    (c.in-ArrayLike.ensures.unmoved blocks) in
    rw same.0 at (rw same.1 at (rw same.2 at c.array_like.ensures.unmoved))

pub returns-in-ArrayLike-clause-refused_at : goal.returns-in-ArrayLike-clause-refused_at
returns-in-ArrayLike-clause-refused_at g c =
    let blocks = g.S.Store.content c.args.store.now in
    let k = known_at c.args.current c.args.linked.now in
    let same = parts_same c.call_static.new.at c.args.at.now c.call_static.new.words c.args.words.now c.call_static.new.held c.args.held.now blocks
    (c.in-ArrayLike.ensures.unmoved blocks) in
    rw same.0 at c.array_like.ensures.refused_at

pub returns-in-ArrayLike-clause-refused_words : goal.returns-in-ArrayLike-clause-refused_words
returns-in-ArrayLike-clause-refused_words g c =
    let blocks = g.S.Store.content c.args.store.now in
    let k = known_at c.args.current c.args.linked.now in
    let same = parts_same c.call_static.new.at c.args.at.now c.call_static.new.words c.args.words.now c.call_static.new.held c.args.held.now blocks
    (c.in-ArrayLike.ensures.unmoved blocks) in
    rw same.1 at c.array_like.ensures.refused_words

pub returns-in-ArrayLike-clause-refused_held : goal.returns-in-ArrayLike-clause-refused_held
returns-in-ArrayLike-clause-refused_held g c =
    let blocks = g.S.Store.content c.args.store.now in
    let k = known_at c.args.current c.args.linked.now in
    let same = parts_same c.call_static.new.at c.args.at.now c.call_static.new.words c.args.words.now c.call_static.new.held c.args.held.now blocks
    (c.in-ArrayLike.ensures.unmoved blocks) in
    rw same.2 at c.array_like.ensures.refused_held
