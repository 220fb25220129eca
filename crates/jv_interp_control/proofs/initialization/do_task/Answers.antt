use Rattle.std.proofs.Common.{sym, subst}
use Rattle.std.specs.Prelude.{OnOk}
use Rattle.std.proofs.lemmas.Result.{on_ok_weaker}
use Rattle.jv_meaning_world.specs.World.{World}
use Rattle.jv_interp_members.specs.Methods.{AreMethods}
use Rattle.jv_interp_control.specs.Moves.{Beginning, Entering}
use Rattle.jv_interp_control.specs.Standing.{kept, Moved}
use Rattle.jv_interp_control.specs.declared.tasks.Task.{Task}
use Rattle.jv_interp_control.specs.Initializing.{CanMoveWith, MovedWith}
use Rattle.jv_interp_control.specs.Inside.DoingTasks.{DoingTask}
use Rattle.jv_interp_control.proofs.Initializers.{initializer_enters}
use Rattle.jv_interp_control.proofs.initialization.do_task.Goals as goal

pub set_constant-requires-clause-can : goal.set_constant-requires-clause-can
set_constant-requires-clause-can g c =
    subst (λ (k : Task). CanMoveWith c.args.program.now.classes.now.world c.args.program.now.texts.now.names (DoingTask c.args.class k c.args.program.now.verified.now)
    (kept c.args.frames.now c.args.control.now c.args.held.now (g.S.Store.content c.args.store.now)))
    c.in-Sets.is c.requires.can

pub begin-requires-clause-can : goal.begin-requires-clause-can
begin-requires-clause-can g c =
    let w =
    subst (λ (k : Task). CanMoveWith c.args.program.now.classes.now.world c.args.program.now.texts.now.names (DoingTask c.args.class k c.args.program.now.verified.now)
    (kept c.args.frames.now c.args.control.now c.args.held.now (g.S.Store.content c.args.store.now)))
    c.in-Begins.is c.requires.can in
    record { program = w.program; texts = c.args.program.now.texts.now.names; s = w.s; t = w.t; addresses = w.addresses; moves = w.moves }

pub enter-requires-clause-can : goal.enter-requires-clause-can
enter-requires-clause-can g c =
    let w =
    subst (λ (k : Task). CanMoveWith c.args.program.now.classes.now.world c.args.program.now.texts.now.names (DoingTask c.args.class k c.args.program.now.verified.now)
    (kept c.args.frames.now c.args.control.now c.args.held.now (g.S.Store.content c.args.store.now)))
    c.in-Runs.is c.requires.can in
    record {
      program = w.program;
      texts = c.args.program.now.texts.now.names;
      s = w.s;
      t = w.t;
      addresses = w.addresses;
      moves =
          initializer_enters c.args.program.now.classes.now.world c.args.program.now.texts.now.names c.args.class c.in-Runs.member c.number_of-method.result w.program
          w.s w.t w.addresses c.args.frames.now
          c.args.control.now c.args.held.now (g.S.Store.content c.args.store.now) w.moves
          (c.number_of-method.ensures w.program.world w.moves.does.d (subst (λ (v : World). AreMethods v c.args.program.now.methods.now) (sym w.moves.world_is) c.requires.methods) w.moves.does.at);
    }

pub returns-in-Sets-clause-done : goal.returns-in-Sets-clause-done
returns-in-Sets-clause-done g c =
    subst (λ (k : Task). OnOk c.set_constant.result
    (MovedWith c.args.program.now.classes.now.world c.args.program.now.texts.now.names (DoingTask c.args.class k c.args.program.now.verified.now)
    (kept c.args.frames.now c.args.control.now c.args.held.now (g.S.Store.content c.args.store.now))
    (kept c.set_constant.new.frames c.set_constant.new.control c.set_constant.new.held (g.S.Store.content c.set_constant.new.store))))
    (sym c.in-Sets.is) c.set_constant.ensures.set

pub returns-in-Begins-clause-done : goal.returns-in-Begins-clause-done
returns-in-Begins-clause-done g c =
    subst (λ (k : Task). OnOk c.begin.result (MovedWith c.args.program.now.classes.now.world c.args.program.now.texts.now.names (DoingTask c.args.class k c.args.program.now.verified.now)
    (kept c.args.frames.now c.args.control.now c.args.held.now (g.S.Store.content c.args.store.now))
    (kept c.begin.new.frames c.begin.new.control c.begin.new.held (g.S.Store.content c.begin.new.store))))
    (sym c.in-Begins.is)
    (on_ok_weaker
    {P = Moved c.args.program.now.classes.now.world (Beginning c.in-Begins.number c.args.program.now.verified.now)
    (kept c.args.frames.now c.args.control.now c.args.held.now (g.S.Store.content c.args.store.now))
    (kept c.begin.new.frames c.begin.new.control c.begin.new.held (g.S.Store.content c.begin.new.store))}
    c.begin.result (λ moved program s t addresses h. moved program c.args.program.now.texts.now.names s t addresses h) c.begin.ensures.begun)

pub returns-in-Runs-clause-done : goal.returns-in-Runs-clause-done
returns-in-Runs-clause-done g c =
    subst (λ (k : Task). OnOk c.enter.result (MovedWith c.args.program.now.classes.now.world c.args.program.now.texts.now.names (DoingTask c.args.class k c.args.program.now.verified.now)
    (kept c.args.frames.now c.args.control.now c.args.held.now (g.S.Store.content c.args.store.now))
    (kept c.enter.new.frames c.enter.new.control c.enter.new.held (g.S.Store.content c.enter.new.store))))
    (sym c.in-Runs.is)
    (on_ok_weaker
    {P = Moved c.args.program.now.classes.now.world (Entering c.number_of-method.result c.args.frames.now)
    (kept c.args.frames.now c.args.control.now c.args.held.now (g.S.Store.content c.args.store.now))
    (kept c.enter.new.frames c.enter.new.control c.enter.new.held (g.S.Store.content c.enter.new.store))}
    c.enter.result
    (λ moved program s t addresses h.
    moved program c.args.program.now.texts.now.names s t addresses
    (initializer_enters c.args.program.now.classes.now.world c.args.program.now.texts.now.names c.args.class c.in-Runs.member c.number_of-method.result program s t addresses c.args.frames.now
    c.args.control.now c.args.held.now (g.S.Store.content c.args.store.now) h
    (c.number_of-method.ensures program.world h.does.d (subst (λ (v : World). AreMethods v c.args.program.now.methods.now) (sym h.world_is) c.requires.methods) h.does.at)))
    c.enter.ensures.entered)
