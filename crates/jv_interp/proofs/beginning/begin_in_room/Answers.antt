use Rattle.std.proofs.Common.{refl, subst}
use Rattle.jv_meaning_world.specs.World.{World}
use Rattle.jv_link_cache.specs.Linked.{IsLinked}
use Rattle.jv_interp_members.specs.Methods.{AreMethods}
use Rattle.jv_interp_objects.specs.Texts.{AreTexts}
use Rattle.jv_interp.proofs.Begun.{can_start, starts_in, begins}
use Rattle.jv_interp.proofs.beginning.begin_in_room.Goals as goal

pub start-requires-clause-can : goal.start-requires-clause-can
start-requires-clause-can g c =
    can_start c.judged_by_verdicts.ensures c.one_content.ensures c.args.judged c.requires.files.0 c.requires.files.1 c.requires.files.2 c.never_faults.ensures
    c.requires.files.3 c.args.main.now
    c.args.input.now c.args.budget c.in_ok-verified.verified.items c.in_ok-verified.ensures c.classes-classes.result.now.world c.deref.result.now
    c.classes-classes.ensures c.deref.ensures.value

pub returns-clause-begun : goal.returns-clause-begun
returns-clause-begun g c = λ library files are stand.
    let same = c.classes-classes.ensures in
    let e = c.in_ok-frames.ensures in
    let s =
    starts_in c.judged_by_verdicts.ensures c.one_content.ensures c.args.judged library files are c.never_faults.ensures stand c.args.main.now
    c.args.input.now c.args.budget c.in_ok-verified.verified.items c.in_ok-verified.ensures c.classes-classes.result.now.world c.deref.result.now same c.deref.ensures.value in
    begins c.judged_by_verdicts.ensures c.one_content.ensures c.args.judged library files are c.never_faults.ensures stand c.args.main.now
    c.args.input.now c.args.budget c.in_ok-verified.verified.items c.in_ok-verified.ensures _ (g.S.Store.content c.args.store.now)
    (g.S.Store.content c.start.new.store) c.in_ok-frames.field-0 refl refl
    (record {
      linked = subst (λ (w : World). IsLinked w c.in-Ok.linked) same (c.in-Ok.ensures {u = tt});
      methods = subst (λ (w : World). AreMethods w c.in_ok-methods.methods) same (c.in_ok-methods.ensures {u = tt});
      texts = subst (λ (w : World). AreTexts w c.in_ok-texts.texts) same (c.in_ok-texts.ensures {u = tt});
      few = c.requires.few;
    })
    refl refl refl refl e.fewer c.requires.few_cells (e.started _ _ s)
