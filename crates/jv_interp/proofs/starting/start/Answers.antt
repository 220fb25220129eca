use Rattle.std.proofs.Common.{sym, subst}
use Rattle.jv_interp_heap.specs.ObjectsInBlocks.{Blocks}
use Rattle.jv_interp_held.specs.declared.held.Held.{Held}
use Rattle.jv_interp.specs.Starting.{BothJoin}
use Rattle.jv_interp.proofs.StartedStands.{opening, has_started}
use Rattle.jv_interp.proofs.starting.start.Goals as goal

pub begin_main-requires-clause-can : goal.begin_main-requires-clause-can
begin_main-requires-clause-can g c =
    let w = c.requires.can in
    let o =
    opening c.args.program.now.classes.now.world c.args.program.now.verified.now c.args.program.now.texts.now.names c.args.main.now c.args.input.now c.args.budget
    c.main_place-place.result c.in_ok-started.started
    (g.S.Store.content c.first_kept.new.store) c.in_ok-started.ensures.stands c.main_place-place.ensures.found w.program w.s w.starts in
    record { program = w.program; texts = c.args.program.now.texts.now.names; s = _; t = w.s; addresses = _; moves = o.1 }

pub take_back_objects-requires : goal.take_back_objects-requires
take_back_objects-requires g c = (
  g.S.Store.content c.args.store.now,
  subst (λ (h : Held). BothJoin h.out_of_memory h.arguments (g.S.Store.content c.args.store.now) (g.S.Store.content c.begin_main.new.store)) (sym c.in-Err.ensures.refused)
      (subst (λ (b : Blocks). BothJoin c.in_ok-started.started.held.out_of_memory c.in_ok-started.started.held.arguments (g.S.Store.content c.args.store.now) b) (sym c.in-Err.ensures.refused_content)
      c.in_ok-started.ensures.made),
)

pub returns-in-Ok-clause-started : goal.returns-in-Ok-clause-started
returns-in-Ok-clause-started g c =
    has_started c.args.program.now.classes.now.world c.args.program.now.verified.now c.args.program.now.texts.now.names c.args.main.now c.args.input.now c.args.budget
    c.main_place-place.result c.in_ok-started.started
    (g.S.Store.content c.first_kept.new.store) c.in_ok-started.ensures.stands c.main_place-place.ensures.found
    (record { frames = c.begin_main.new.frames; control = c.begin_main.new.control; held = c.begin_main.new.held })
    (g.S.Store.content c.args.store.now) (g.S.Store.content c.begin_main.new.store) c.in_ok-started.ensures.made c.in-Ok.ensures.begun
