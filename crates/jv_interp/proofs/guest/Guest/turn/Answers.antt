use Rattle.std.proofs.Common.{◌-◌, refl, sym, subst}
use Rattle.jv_meaning_world.specs.World.{World}
use Rattle.jv_link_cache.specs.Linked.{IsLinked}
use Rattle.jv_interp_members.specs.Methods.{AreMethods}
use Rattle.jv_interp_objects.specs.Texts.{AreTexts}
use Rattle.jv_interp.proofs.Safe.{runs_from, ran_to_last}
use Rattle.jv_interp.proofs.Later.{went, ended_there}
use Rattle.jv_interp.proofs.guest.Guest.turn.Goals as goal

pub run-turn-requires-clause-can : goal.run-turn-requires-clause-can
run-turn-requires-clause-can g c =
    let w = c.requires.can in
    record {
      program = w.stands.judged.program;
      s = w.stands.state;
      addresses = w.addresses;
      runs =
          runs_from c.never_faults.ensures c.objects_are_loadable.ensures c.initializations_are_loadable.ensures c.alone_steps_on.ensures w.g w.b w.feeds w.n
          w.addresses c.args.self.now (g.S.Store.content c.args.store.now) w.stands c.classes.result.now.world c.deref.result.now c.classes.ensures
          c.deref.ensures.value;
    }

pub run-turn-requires-clause-linked : goal.run-turn-requires-clause-linked
run-turn-requires-clause-linked g c =
    subst (λ (w : World). IsLinked w c.args.self.now.linked) (sym c.classes.ensures) c.requires.can.stands.tables.linked

pub run-turn-requires-clause-methods : goal.run-turn-requires-clause-methods
run-turn-requires-clause-methods g c =
    subst (λ (w : World). AreMethods w c.args.self.now.methods) (sym c.classes.ensures) c.requires.can.stands.tables.methods

pub run-turn-requires-clause-texts : goal.run-turn-requires-clause-texts
run-turn-requires-clause-texts g c =
    subst (λ (w : World). AreTexts w c.args.self.now.texts) (sym c.classes.ensures) c.requires.can.stands.tables.texts

pub run-turn-requires-clause-few : goal.run-turn-requires-clause-few
run-turn-requires-clause-few g c = c.requires.can.stands.few_cells

pub returns-clause-went : goal.returns-clause-went
returns-clause-went g c = λ own b feeds n addresses h.
    let blocks = g.S.Store.content c.args.store.now in
    let ran =
    c.run-turn.ensures.ran h.judged.program h.state addresses
    (runs_from c.never_faults.ensures c.objects_are_loadable.ensures c.initializations_are_loadable.ensures c.alone_steps_on.ensures own b feeds n
    addresses c.args.self.now blocks h c.classes.result.now.world c.deref.result.now c.classes.ensures c.deref.ensures.value) in
    went c.alone_steps_on.ensures own b feeds n (c.args.n - c.run-turn.result.left) addresses c.args.self.now _ blocks (g.S.Store.content c.run-turn.new.store)
    h ran refl (subst (λ (w : World). IsLinked w c.run-turn.new.linked) c.classes.ensures c.run-turn.ensures.linked) refl c.run-turn.ensures.fewer

pub returns-clause-running : goal.returns-clause-running
returns-clause-running g c = λ own b feeds n addresses h j s is here.
    let blocks = g.S.Store.content c.args.store.now in
    let ran =
    c.run-turn.ensures.ran h.judged.program h.state addresses
    (runs_from c.never_faults.ensures c.objects_are_loadable.ensures c.initializations_are_loadable.ensures c.alone_steps_on.ensures own b feeds n
    addresses c.args.self.now blocks h c.classes.result.now.world c.deref.result.now c.classes.ensures c.deref.ensures.value) in
    ran_to_last c.never_faults.ensures c.objects_are_loadable.ensures c.initializations_are_loadable.ensures c.alone_steps_on.ensures own b feeds n
    addresses c.args.self.now blocks h c.end_fits_alone.ensures ran.t (c.args.n - c.run-turn.result.left) j s ran.does is here

pub returns-clause-ended : goal.returns-clause-ended
returns-clause-ended g c = λ there quiet.
    ended_there c.end_fits_alone.ensures _ (g.S.Store.content c.run-turn.new.store) (c.run-turn.ensures.ended there quiet)
