use Rattle.std.proofs.Common.{◌≡◌, ℕ, zero, suc, ◌-◌, ◌<◌, ◌≤◌, List, [], ◌∷◌, Option, Some, None, get_or, length, map, refl, sym, ap, subst, ◌∙◌, arith, slice_get}
use Rattle.std.specs.Option.{option_map, option_to_list}
use Rattle.std.specs.Prelude.{codes}
use Rattle.std.proofs.lemmas.Option.{slice_get-get_or}
use Rattle.jv_class.specs.Class.{Method, method_named}
use Rattle.jv_meaning_world.specs.World.{Loaded, World}
use Rattle.jv_meaning_world.specs.Verdicts.{declared_by}
use Rattle.jv_meaning_machine.specs.Frames.Task.{RunsInitializer}
use Rattle.jv_meaning_machine.specs.Initialization.{initializer_of}
use Rattle.jv_link_cache.specs.Tasks.{IsInitializer}
use Rattle.jv_interp_heap.proofs.Joined.{within}
use Rattle.jv_interp_control.proofs.FewTasks.{few_initializers}
use Rattle.jv_interp_control.proofs.NextTasks.{fits_more, sets, none_behind, fits_place, begins, runs, fits_end, finishes}
use Rattle.jv_interp_control.proofs.tasks.next_task.Goals as goal

none_there : (l : Loaded) → None ≡ method_named l.class (codes "<clinit>") (codes "()V") → initializer_of l ≡ []
none_there l e = ap (λ (o : Option Method). map RunsInitializer (option_to_list (option_map (declared_by l) o))) (sym e)

one_there : (l : Loaded) (m : Method) → method_named l.class (codes "<clinit>") (codes "()V") ≡ Some m → length (initializer_of l) ≡ 1
one_there l m e = ap (λ (o : Option Method). length (map RunsInitializer (option_to_list (option_map (declared_by l) o)))) e

some_at : {A : Type 0} (xs : List A) (k : ℕ) → k < length xs → (x : A) × (slice_get xs k ≡ Some x)
some_at [] k h = absurd (omega (arith, h))
some_at (x ∷ xs) zero h = (x, refl)
some_at (x ∷ xs) (suc k) h = some_at xs k (omega (arith, h))

none_at : {A : Type 0} (xs : List A) (k : ℕ) → length xs ≤ k → slice_get xs k ≡ None
none_at [] zero h = refl
none_at [] (suc k) h = refl
none_at (x ∷ xs) zero h = absurd (omega (arith, h))
none_at (x ∷ xs) (suc k) h = none_at xs k (omega (arith, h))

pub overflow_add-result : goal.overflow_add-result
overflow_add-result c =
    let w = c.requires in
    let h = w.asking in
    let are = c.settings-settings.ensures w.program.world h.linked_is w.frame.class h.stands.has_number in
    let settings = c.settings-settings.result.now in
    record {
      fits =
          fits_more c.args.table.now c.args.linked.now c.args.own c.args.states.now w.program w.frame w.known h settings are (get_or settings c.args.own.done 0) c.if-done-settings.true
          (slice_get-get_or settings c.args.own.done 0 c.if-done-settings.true);
    }

pub returns-then-done-settings : goal.returns-then-done-settings
returns-then-done-settings c = λ program frame known h.
    let are = c.settings-settings.ensures program.world h.linked_is frame.class h.stands.has_number in
    let settings = c.settings-settings.result.now in
    sets c.args.table.now c.args.linked.now c.args.own c.args.states.now program frame known h settings are (get_or settings c.args.own.done 0) c.if-done-settings.true
    (slice_get-get_or settings c.args.own.done 0 c.if-done-settings.true)

pub returns-then-behind-order : goal.returns-then-behind-order
returns-then-behind-order c = λ program frame known h.
    let are = c.settings-settings.ensures program.world h.linked_is frame.class h.stands.has_number in
    let is_order = c.init_order-order.ensures program.world h.linked_is frame.class h.stands.has_number h.loadable in
    let settings = c.settings-settings.result.now in
    let low = c.if-done-settings.false in
    none_behind c.args.table.now c.args.linked.now c.args.own c.args.states.now program frame known h settings are c.init_order-order.result.now is_order
    (c.args.own.done - length settings) (omega (arith, low)) c.if-behind-order.true (few_initializers frame.class)

pub overflow_cast-result-then-place-order : goal.overflow_cast-result-then-place-order
overflow_cast-result-then-place-order c =
    let w = c.requires in
    let h = w.asking in
    let are = c.settings-settings.ensures w.program.world h.linked_is w.frame.class h.stands.has_number in
    let is_order = c.init_order-order.ensures w.program.world h.linked_is w.frame.class h.stands.has_number h.loadable in
    let settings = c.settings-settings.result.now in
    let low = c.if-done-settings.false in
    record {
      fits =
          fits_place c.args.table.now c.args.linked.now c.args.own c.args.states.now w.program w.frame w.known h settings are c.init_order-order.result.now is_order
          (c.args.own.done - length settings) (omega (arith, low)) c.first_unready-place.result c.if-behind-order.false c.first_unready-place.ensures.within
          (c.first_unready-place.ensures.passes w.program.world w.known h.states_are is_order.numbers_of) c.if-place-order.true;
    }

pub returns-then-place-order : goal.returns-then-place-order
returns-then-place-order c = λ program frame known h.
    let are = c.settings-settings.ensures program.world h.linked_is frame.class h.stands.has_number in
    let is_order = c.init_order-order.ensures program.world h.linked_is frame.class h.stands.has_number h.loadable in
    let settings = c.settings-settings.result.now in
    let order = c.init_order-order.result.now in
    let low = c.if-done-settings.false in
    begins c.args.table.now c.args.linked.now c.args.own c.args.states.now program frame known h settings are order is_order (c.args.own.done - length settings)
    (omega (arith, low)) c.first_unready-place.result c.if-behind-order.false c.first_unready-place.ensures.within
    (c.first_unready-place.ensures.passes program.world known h.states_are is_order.numbers_of) (get_or order c.first_unready-place.result 0) c.if-place-order.true refl
    (λ l at. c.first_unready-place.ensures.stops program.world known l h.states_are c.if-place-order.true at)

pub returns-in_default : goal.returns-in_default
returns-in_default c = λ program frame known h.
    let are = c.settings-settings.ensures program.world h.linked_is frame.class h.stands.has_number in
    let is_order = c.init_order-order.ensures program.world h.linked_is frame.class h.stands.has_number h.loadable in
    let settings = c.settings-settings.result.now in
    let low = c.if-done-settings.false in
    let within = c.first_unready-place.ensures.within in
    let past = c.if-place-order.false in
    let initializer = subst (λ (o : Option ℕ). IsInitializer frame.class o) c.in_default.is (c.initializer.ensures program.world h.linked_is frame.class h.stands.has_number) in
    finishes c.args.table.now c.args.linked.now c.args.own c.args.states.now program frame known h settings are c.init_order-order.result.now is_order
    (c.args.own.done - length settings) (omega (arith, low)) c.first_unready-place.result c.if-behind-order.false within
    (c.first_unready-place.ensures.passes program.world known h.states_are is_order.numbers_of) (omega (arith, within, past)) (none_there frame.class initializer)

pub class_at-requires : goal.class_at-requires
class_at-requires c =
    let w = c.requires in
    subst (λ (v : World). c.args.own.class < length v) w.asking.world_is (within w.program.world c.args.own.class w.frame.class w.asking.stands.has_number)

pub returns-then-member-method_count : goal.returns-then-member-method_count
returns-then-member-method_count c = λ program frame known h.
    let are = c.settings-settings.ensures program.world h.linked_is frame.class h.stands.has_number in
    let is_order = c.init_order-order.ensures program.world h.linked_is frame.class h.stands.has_number h.loadable in
    let settings = c.settings-settings.result.now in
    let low = c.if-done-settings.false in
    let within = c.first_unready-place.ensures.within in
    let past = c.if-place-order.false in
    let initializer = subst (λ (o : Option ℕ). IsInitializer frame.class o) c.in-Some.is (c.initializer.ensures program.world h.linked_is frame.class h.stands.has_number) in
    let loaded : c.class_at.result.now ≡ frame.class = c.class_at.ensures frame.class (subst (λ (v : World). slice_get v c.args.own.class ≡ Some frame.class) h.world_is h.stands.has_number) in
    let count : c.method_count.result ≡ length frame.class.class.methods = c.method_count.ensures ∙ ap (λ (l : Loaded). length l.class.methods) loaded in
    let over = c.if-member-method_count.true in
    let none = none_at frame.class.class.methods c.in-Some.member (omega (arith, count, over)) in
    finishes c.args.table.now c.args.linked.now c.args.own c.args.states.now program frame known h settings are c.init_order-order.result.now is_order
    (c.args.own.done - length settings) (omega (arith, low)) c.first_unready-place.result c.if-behind-order.false within
    (c.first_unready-place.ensures.passes program.world known h.states_are is_order.numbers_of) (omega (arith, within, past))
    (none_there frame.class (sym none ∙ initializer))

pub overflow_cast-result-2 : goal.overflow_cast-result-2
overflow_cast-result-2 c =
    let w = c.requires in
    let h = w.asking in
    let l = w.frame.class in
    let are = c.settings-settings.ensures w.program.world h.linked_is l h.stands.has_number in
    let is_order = c.init_order-order.ensures w.program.world h.linked_is l h.stands.has_number h.loadable in
    let settings = c.settings-settings.result.now in
    let low = c.if-done-settings.false in
    let initializer = subst (λ (o : Option ℕ). IsInitializer l o) c.in-Some.is (c.initializer.ensures w.program.world h.linked_is l h.stands.has_number) in
    let loaded : c.class_at.result.now ≡ l = c.class_at.ensures l (subst (λ (v : World). slice_get v c.args.own.class ≡ Some l) h.world_is h.stands.has_number) in
    let count : c.method_count.result ≡ length l.class.methods = c.method_count.ensures ∙ ap (λ (l : Loaded). length l.class.methods) loaded in
    let under = c.if-member-method_count.false in
    let some = some_at l.class.methods c.in-Some.member (omega (arith, count, under)) in
    record {
      fits =
          fits_end c.args.table.now c.args.linked.now c.args.own c.args.states.now w.program w.frame w.known h settings are c.init_order-order.result.now is_order
          (c.args.own.done - length settings) (omega (arith, low)) c.first_unready-place.result c.if-behind-order.false c.first_unready-place.ensures.within
          (c.first_unready-place.ensures.passes w.program.world w.known h.states_are is_order.numbers_of) (one_there l some.0 (sym initializer ∙ some.1));
    }

pub returns : goal.returns
returns c = λ program frame known h.
    let l = frame.class in
    let are = c.settings-settings.ensures program.world h.linked_is l h.stands.has_number in
    let is_order = c.init_order-order.ensures program.world h.linked_is l h.stands.has_number h.loadable in
    let settings = c.settings-settings.result.now in
    let low = c.if-done-settings.false in
    let within = c.first_unready-place.ensures.within in
    let past = c.if-place-order.false in
    let initializer = subst (λ (o : Option ℕ). IsInitializer l o) c.in-Some.is (c.initializer.ensures program.world h.linked_is l h.stands.has_number) in
    let loaded : c.class_at.result.now ≡ l = c.class_at.ensures l (subst (λ (v : World). slice_get v c.args.own.class ≡ Some l) h.world_is h.stands.has_number) in
    let count : c.method_count.result ≡ length l.class.methods = c.method_count.ensures ∙ ap (λ (l : Loaded). length l.class.methods) loaded in
    let under = c.if-member-method_count.false in
    let some = some_at l.class.methods c.in-Some.member (omega (arith, count, under)) in
    runs c.args.table.now c.args.linked.now c.args.own c.args.states.now program frame known h settings are c.init_order-order.result.now is_order
    (c.args.own.done - length settings) (omega (arith, low)) c.first_unready-place.result c.if-behind-order.false within
    (c.first_unready-place.ensures.passes program.world known h.states_are is_order.numbers_of) c.in-Some.member some.0 (omega (arith, within, past)) some.1 initializer
