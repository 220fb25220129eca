use Rattle.std.proofs.Common.{ap}
use Rattle.std.proofs.lemmas.Result.{IfOk-weaker}
use Rattle.jv_code.specs.Insns.{instruction_of}
use Rattle.jv_interp_held.specs.declared.held.Held.{Held}
use Rattle.jv_interp_held.specs.Executing.{place}
use Rattle.jv_interp_instructions.proofs.CallsMade.{called_static, parts_same, not_moved, can_relinked, executed_relinked}
use Rattle.jv_interp_instructions.proofs.families.StaticCallsExecution.execute.Goals as goal

pub execute_apart-requires : goal.execute_apart-requires
execute_apart-requires g c =
    let blocks = g.S.Store.content c.args.store.now in
    let same = parts_same c.call_static.new.at c.args.at.now c.call_static.new.words c.args.words.now c.call_static.new.held c.args.held.now blocks
    (not_moved c.call_static.result c.in-ClassName.is (place c.args.at.now c.args.words.now c.args.held.now blocks)
    (place c.call_static.new.at c.call_static.new.words c.call_static.new.held blocks) (c.call_static.ensures.unmoved blocks)) in
    record {
      methods = c.requires.methods;
      texts = c.requires.texts;
      can =
          rw same.0 (rw same.1 (rw same.2
          (can_relinked c.args.states.now (instruction_of c.args.insn) c.args.next c.args.classes.now.world c.args.linked.now c.call_static.new.linked
          c.args.site c.args.texts.now.names c.call_static.ensures.linked c.args.at.now c.args.words.now c.args.held.now blocks c.requires.can)));
      rules = c.requires.rules;
      cells = rw same.2 c.requires.cells;
    }

pub returns-in-Has-clause-done : goal.returns-in-Has-clause-done
returns-in-Has-clause-done g c =
    rw c.in-Invoke.is (rw c.in-Static.is
    (called_static c.execution_keeps.ensures _ _ _ _ c.args.texts.now.names _ _ _ _ _ _ _ _
    (ap (λ (h : Held). h.cells) c.call_static.ensures.same) (rw c.in-Has.is at c.call_static.ensures.calls)))

pub returns-in-ClassName : goal.returns-in-ClassName
returns-in-ClassName g c =
    let blocks = g.S.Store.content c.args.store.now in
    let same = parts_same c.call_static.new.at c.args.at.now c.call_static.new.words c.args.words.now c.call_static.new.held c.args.held.now blocks
    (not_moved c.call_static.result c.in-ClassName.is (place c.args.at.now c.args.words.now c.args.held.now blocks)
    (place c.call_static.new.at c.call_static.new.words c.call_static.new.held blocks) (c.call_static.ensures.unmoved blocks)) in
    record {
      done =
          IfOk-weaker c.execute_apart.result _ _
          (λ effect m. executed_relinked c.args.states.now (instruction_of c.args.insn) c.args.next c.args.classes.now.world c.args.linked.now
          c.call_static.new.linked c.args.site c.args.texts.now.names c.call_static.ensures.linked _ _ effect m)
          (rw same.0 at (rw same.1 at (rw same.2 at c.execute_apart.ensures.done)));
      stays = rw same.0 at c.execute_apart.ensures.stays;
      room = rw same.2 at c.execute_apart.ensures.room;
      linked = c.execute_apart.ensures.linked;
      refused_at = rw same.0 at c.execute_apart.ensures.refused_at;
      refused_words = rw same.1 at c.execute_apart.ensures.refused_words;
      refused_held = rw same.2 at c.execute_apart.ensures.refused_held;
      refused = c.execute_apart.ensures.refused;
      refused_room = c.execute_apart.ensures.refused_room;
      sure = c.execute_apart.ensures.sure;
      unmoved = rw same.0 at (rw same.1 at (rw same.2 at c.execute_apart.ensures.unmoved));
    }
