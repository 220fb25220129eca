use Rattle.std.proofs.Common.{◌≡◌, ℕ, ◌+◌, ◌<◌, List, [], ◌∷◌, ◌++◌, drop, length, slice_get, take, refl, sym, ap, subst, ◌∙◌, arith}
use Rattle.std.proofs.lemmas.Option.{slice_get_within}
use Rattle.std.proofs.Math.Seq.{take-append_seam}
use Rattle.std.specs.Vec.{with_items}
use Rattle.jv_meaning_world.specs.Numbers.{IsNumbered}
use Rattle.jv_interp_held.specs.declared.class_state.ClassState.{ClassState}
use Rattle.jv_interp_held.specs.ClassStates.{AreClassStates}
use Rattle.jv_meaning_machine.specs.State.ClassState.{Erroneous}
use Rattle.jv_meaning_world.specs.World.{Loaded, World}
use Rattle.jv_meaning_machine.specs.Frames.{Frame}
use Rattle.jv_meaning_machine.specs.Costs.{code_words}
use Rattle.jv_meaning_machine.specs.Laws.Shapes.{frame_words}
use Rattle.jv_interp_words.specs.declared.records.FrameRecord.{FrameRecord}
use Rattle.jv_interp_words.specs.declared.records.FrameRecord.TheVariants as records
use Rattle.jv_interp_control.specs.FramesStand.{FramesStand}
use Rattle.jv_interp_control.specs.Inside.Passing.{Passed}
use Rattle.jv_interp_control.proofs.CodeThere.{code_there, can_find}
use Rattle.jv_interp_control.proofs.FramesPassed.{runs_there, initializes_there, words_fit, method_gone, initialization_gone}
use Rattle.jv_interp_control.proofs.passing.pass_frame.Goals as goal

pub code_of-requires : goal.code_of-requires
code_of-requires c =
    let w = c.requires.can in
    let own = c.in-Some-Runs.own in
    let rest = c.pop.new.self.items in
    let there : c.args.frames.now.records.items ≡ rest ++ records.Runs own ∷ [] =
    c.in-Some-Runs.ensures.items ∙ ap (λ (r : FrameRecord). rest ++ r ∷ []) c.in-Some-Runs.field-0-is in
    let n = runs_there w.program w.addresses w.frame w.below c.args.frames.now w.control.words rest w.passing.stand own there in
    can_find w.program w.addresses n.method own _ n.under c.args.methods.now c.args.classes.now.world w.passing.world_is c.requires.methods n.stands

pub overflow_add-frames : goal.overflow_add-frames
overflow_add-frames c =
    let w = c.requires.can in
    let own = c.in-Some-Runs.own in
    let rest = c.pop.new.self.items in
    let there : c.args.frames.now.records.items ≡ rest ++ records.Runs own ∷ [] =
    c.in-Some-Runs.ensures.items ∙ ap (λ (r : FrameRecord). rest ++ r ∷ []) c.in-Some-Runs.field-0-is in
    let n = runs_there w.program w.addresses w.frame w.below c.args.frames.now w.control.words rest w.passing.stand own there in
    let code = code_there w.program w.addresses n.method own _ n.under c.args.methods.now c.args.classes.now.world w.passing.world_is c.requires.methods n.stands in
    let words : c.words_of.result ≡ frame_words w.frame =
    c.words_of.ensures ∙ ap code_words (c.code_of.ensures w.program n.stands.declared n.method.method.code code) ∙ sym (ap frame_words n.is) in
    let fit = words_fit w.program w.addresses w.frame w.below c.args.frames.now w.control.words rest w.passing.stand in
    let few = w.passing.stand.few in
    let left = w.passing.stand.left_is in
    record { fits = omega (arith, fit, few, left, words) }

pub class_at-requires : goal.class_at-requires
class_at-requires c =
    let w = c.requires.can in
    let own = c.in-Some-Initializes.own in
    let rest = c.pop.new.self.items in
    let there : c.args.frames.now.records.items ≡ rest ++ records.Initializes own ∷ [] =
    c.in-Some-Initializes.ensures.items ∙ ap (λ (r : FrameRecord). rest ++ r ∷ []) c.in-Some-Initializes.field-0-is in
    let n = initializes_there w.program w.addresses w.frame w.below c.args.frames.now w.control.words rest w.passing.stand own there in
    subst (λ (world : World). own.class < length world) (w.passing.world_is ∙ sym c.table-table.ensures)
    (slice_get_within w.program.world own.class n.initialization.class n.stands.has_number)

pub set_state-requires : goal.set_state-requires
set_state-requires c =
    let w = c.requires.can in
    let own = c.in-Some-Initializes.own in
    let rest = c.pop.new.self.items in
    let there : c.args.frames.now.records.items ≡ rest ++ records.Initializes own ∷ [] =
    c.in-Some-Initializes.ensures.items ∙ ap (λ (r : FrameRecord). rest ++ r ∷ []) c.in-Some-Initializes.field-0-is in
    let n = initializes_there w.program w.addresses w.frame w.below c.args.frames.now w.control.words rest w.passing.stand own there in
    let within = slice_get_within c.args.control.now.states.items own.class _ (w.passing.control_stands.states own.class n.initialization.class n.stands.has_number) in
    subst (λ states. own.class < length states) (sym c.deref_mut.ensures.value) within

pub returns-in-Some-Runs : goal.returns-in-Some-Runs
returns-in-Some-Runs c = λ program addresses frame below control h.
    let own = c.in-Some-Runs.own in
    let rest = c.pop.new.self.items in
    let kept = c.args.frames.now in
    let there : kept.records.items ≡ rest ++ records.Runs own ∷ [] =
    c.in-Some-Runs.ensures.items ∙ ap (λ (r : FrameRecord). rest ++ r ∷ []) c.in-Some-Runs.field-0-is in
    let n = runs_there program addresses frame below kept control.words rest h.stand own there in
    let code = code_there program addresses n.method own _ n.under c.args.methods.now c.args.classes.now.world h.world_is c.requires.methods n.stands in
    let words : c.words_of.result ≡ frame_words frame =
    c.words_of.ensures ∙ ap code_words (c.code_of.ensures program n.stands.declared n.method.method.code code) ∙ sym (ap frame_words n.is) in
    let after = record kept { records = c.pop.new.self; top = own.base; left = kept.left + c.words_of.result } in
    let stand =
    method_gone program addresses frame below kept control.words rest h.stand own after there refl refl c.in-Some-Runs.ensures.capacity refl
    (ap (λ (n : ℕ). kept.left + n) words) in
    subst (λ (f : Frame). Passed program addresses f below control after c.args.control.now) (sym n.is)
    (record {
      stand = subst (λ (f : Frame). FramesStand program addresses below after (control.words + frame_words f)) n.is stand;
      control_stands = record {
        states = h.control_stands.states;
        throws = h.control_stands.throws;
        last = h.control_stands.last;
        place = h.control_stands.place;
        main = h.control_stands.main;
        end = h.control_stands.end;
      };
    })

pub returns-in-Some-Initializes : goal.returns-in-Some-Initializes
returns-in-Some-Initializes c = λ program addresses frame below control h.
    let own = c.in-Some-Initializes.own in
    let rest = c.pop.new.self.items in
    let kept = c.args.frames.now in
    let there : kept.records.items ≡ rest ++ records.Initializes own ∷ [] =
    c.in-Some-Initializes.ensures.items ∙ ap (λ (r : FrameRecord). rest ++ r ∷ []) c.in-Some-Initializes.field-0-is in
    let n = initializes_there program addresses frame below kept control.words rest h.stand own there in
    let after = record kept { records = c.pop.new.self; left = kept.left + 4 } in
    let stand =
    initialization_gone program addresses frame below kept control.words rest h.stand own after there refl refl c.in-Some-Initializes.ensures.capacity refl
    (ap (λ (f : Frame). kept.left + frame_words f) (sym n.is)) in
    let l = n.initialization.class in
    let is_world : c.table-table.result.now ≡ program.world = c.table-table.ensures ∙ sym h.world_is in
    let numbers = subst (λ (w : World). IsNumbered w) is_world c.is_numbered.ensures in
    let own_class : c.class_at.result.now ≡ l = c.class_at.ensures l (ap (λ (w : World). slice_get w own.class) is_world ∙ n.stands.has_number) in
    let system : l.by_system ≡ c.by_system-by_system.result = ap (λ (k : Loaded). k.by_system) (sym own_class) ∙ sym c.by_system-by_system.ensures in
    let before = subst (λ (all : List ClassState). AreClassStates program.world control.states all) (sym c.deref_mut.ensures.value) h.control_stands.states in
    let states = c.set_state.ensures program.world numbers l control.states Erroneous n.stands.has_number system refl before in
    let size : c.args.control.now.states.len ≡ length c.set_state.new.states =
    c.args.control.now.states.ok.0 ∙ ap length (sym c.deref_mut.ensures.value) ∙ sym c.set_state.auto.states in
    let all : (with_items c.args.control.now.states c.set_state.new.states).items ≡ c.set_state.new.states =
    ap (λ (n : ℕ). take n (c.set_state.new.states ++ drop (length c.set_state.new.states) c.args.control.now.states.items)) size
    ∙ take-append_seam c.set_state.new.states (drop (length c.set_state.new.states) c.args.control.now.states.items) in
    let kept_after = record c.args.control.now { states = with_items c.args.control.now.states c.set_state.new.states } in
    subst (λ (f : Frame). Passed program addresses f below control after kept_after) (sym n.is)
    (record {
      stand = subst (λ (f : Frame). FramesStand program addresses below after (control.words + frame_words f)) n.is stand;
      control_stands = record {
        states = subst (λ (xs : List ClassState). AreClassStates program.world ((l.class.name, Erroneous) ∷ control.states) xs) (sym all) states;
        throws = h.control_stands.throws;
        last = h.control_stands.last;
        place = h.control_stands.place;
        main = h.control_stands.main;
        end = h.control_stands.end;
      };
    })
