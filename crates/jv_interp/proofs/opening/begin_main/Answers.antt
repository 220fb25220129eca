use Rattle.std.proofs.Common.{Option, sym, subst}
use Rattle.std.specs.Prelude.{IfSome}
use Rattle.std.proofs.lemmas.Result.{on_ok_weaker}
use Rattle.jv_meaning_world.specs.World.{World}
use Rattle.jv_lookups.specs.declared.place.Place.{Place}
use Rattle.jv_lookups.specs.Places.{IsMethodPlace}
use Rattle.jv_interp_control.specs.Standing.{kept, Moved}
use Rattle.jv_interp_control.specs.Moves.{Beginning}
use Rattle.jv_interp.proofs.Opened.{ended, begun}
use Rattle.jv_interp.proofs.opening.begin_main.Goals as goal

pub returns-in_default-clause-begun : goal.returns-in_default-clause-begun
returns-in_default-clause-begun g c = λ program texts s t addresses h.
    ended c.args.program.now.classes.now.world c.args.place c.args.program.now.verified.now program texts s t addresses c.args.frames.now c.args.control.now c.args.held.now
    (g.S.Store.content c.args.store.now) h c.in_default.is

pub begin-requires-clause-can : goal.begin-requires-clause-can
begin-requires-clause-can g c =
    let w = c.requires.can in
    let place = subst (λ (o : Option Place). IfSome o (IsMethodPlace c.args.program.now.classes.now.world)) c.in-Some.is c.requires.place in
    record {
      program = w.program;
      texts = w.texts;
      s = w.s;
      t = w.t;
      addresses = w.addresses;
      moves =
          begun c.args.program.now.classes.now.world c.args.place c.args.program.now.verified.now w.program w.texts w.s w.t w.addresses c.args.frames.now c.args.control.now c.args.held.now
          (g.S.Store.content c.args.store.now) w.moves c.in-Some.place c.in-Some.is
          (subst (λ (v : World). IsMethodPlace v c.in-Some.place) (sym w.moves.world_is) place);
    }

pub returns-clause-begun : goal.returns-clause-begun
returns-clause-begun g c =
    let place = subst (λ (o : Option Place). IfSome o (IsMethodPlace c.args.program.now.classes.now.world)) c.in-Some.is c.requires.place in
    on_ok_weaker
    {P = Moved c.args.program.now.classes.now.world (Beginning c.in-Some.place.class c.args.program.now.verified.now)
    (kept c.args.frames.now c.args.control.now c.args.held.now (g.S.Store.content c.args.store.now))
    (kept c.begin.new.frames c.begin.new.control c.begin.new.held (g.S.Store.content c.begin.new.store))}
    c.begin.result
    (λ moved program texts s t addresses h.
    moved program texts s t addresses
    (begun c.args.program.now.classes.now.world c.args.place c.args.program.now.verified.now program texts s t addresses c.args.frames.now c.args.control.now c.args.held.now
    (g.S.Store.content c.args.store.now) h c.in-Some.place c.in-Some.is (subst (λ (v : World). IsMethodPlace v c.in-Some.place) (sym h.world_is) place)))
    c.begin.ensures.begun
