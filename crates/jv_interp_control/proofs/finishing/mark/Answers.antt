use Rattle.std.proofs.Common.{◌≡◌, ℕ, ◌<◌, true, false, slice_get, refl, sym, ap, subst, ◌∙◌}
use Rattle.jv_meaning_world.specs.World.{Loaded, World}
use Rattle.jv_meaning_world.specs.Numbers.{IsNumbered}
use Rattle.jv_meaning_machine.specs.State.ClassState.{Initialized}
use Rattle.jv_interp_held.specs.declared.class_state.ClassState.TheVariants as kinds
use Rattle.jv_interp_control.proofs.StatesSet.{system_stays, guests_set}
use Rattle.jv_interp_control.proofs.ClassInitialized.{set_back, set_same, class_within, marked}
use Rattle.jv_interp_control.proofs.finishing.mark.Goals as goal

pub index_mut-requires : goal.index_mut-requires
index_mut-requires c =
    let w = c.requires in
    subst (λ (n : ℕ). c.args.class < n) (sym c.args.control.now.states.ok.0)
    (class_within c.args.classes.now.world c.args.class c.args.frames.now c.args.control.now w.program w.addresses w.all w.control w.l w.marking)

pub returns-then-not-by_system-clause-marks : goal.returns-then-not-by_system-clause-marks
returns-then-not-by_system-clause-marks c = λ program addresses all control l h.
    let is_world : c.table-table.result.now ≡ program.world = c.table-table.ensures ∙ sym h.world_is in
    let numbers = subst (λ (w : World). IsNumbered w) is_world c.is_numbered.ensures in
    let own_class : c.class_at.result.now ≡ l = c.class_at.ensures l (ap (λ (w : World). slice_get w c.args.class) is_world ∙ h.class_is) in
    let system : l.by_system ≡ false = ap (λ (k : Loaded). k.by_system) (sym own_class) ∙ sym c.if-not-by_system.ensures in
    marked c.args.classes.now.world c.args.class c.args.frames.now c.args.control.now program addresses all control l h _ _ refl refl
    (guests_set program.world numbers c.args.class l control.states Initialized c.args.control.now.states.items h.class_is h.control_stands.states system)

pub returns-then-not-by_system-clause-back : goal.returns-then-not-by_system-clause-back
returns-then-not-by_system-clause-back c = λ state e.
    set_back c.args.control.now.states.items c.args.class kinds.Initialized state e

pub returns-else-not-by_system-clause-marks : goal.returns-else-not-by_system-clause-marks
returns-else-not-by_system-clause-marks c = λ program addresses all control l h.
    let is_world : c.table-table.result.now ≡ program.world = c.table-table.ensures ∙ sym h.world_is in
    let numbers = subst (λ (w : World). IsNumbered w) is_world c.is_numbered.ensures in
    let own_class : c.class_at.result.now ≡ l = c.class_at.ensures l (ap (λ (w : World). slice_get w c.args.class) is_world ∙ h.class_is) in
    let system : l.by_system ≡ true = ap (λ (k : Loaded). k.by_system) (sym own_class) ∙ sym c.if-not-by_system.ensures in
    marked c.args.classes.now.world c.args.class c.args.frames.now c.args.control.now program addresses all control l h _ _ refl refl
    (system_stays program.world numbers c.args.class l control.states Initialized c.args.control.now.states.items h.class_is h.control_stands.states system)

pub returns-else-not-by_system-clause-back : goal.returns-else-not-by_system-clause-back
returns-else-not-by_system-clause-back c = λ state e. set_same c.args.control.now.states.items c.args.class state e
