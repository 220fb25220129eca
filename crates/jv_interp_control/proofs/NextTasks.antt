-- The first task that an initialization has left (JVMS 5.5).
use Rattle.std.proofs.Common.{◌≡◌, ℕ, ◌+◌, ◌-◌, ◌<◌, ◌≤◌, Bool, true, false, List, [], ◌∷◌, ◌++◌, Option, Some, None, drop, get_or, length, map, refl, sym, ap, subst, ◌∙◌, arith, slice_get, length-append}
use Rattle.std.specs.Option.{option_map, option_to_list}
use Rattle.std.specs.List.{filter_map}
use Rattle.std.specs.Prelude.{codes}
use Rattle.std.proofs.lemmas.List.{length-map, drop-append-le, drop_all}
use Rattle.jv_class.specs.Class.{Method, method_named}
use Rattle.jv_meaning_world.specs.World.{Loaded, World}
use Rattle.jv_meaning_world.specs.Verdicts.{declared_by}
use Rattle.jv_meaning_typing.specs.InitializationOrder.{init_order}
use Rattle.jv_classes.proofs.Followed.{some_class}
use Rattle.jv_lookups.proofs.Found.{one_class_more, no_class_left}
use Rattle.jv_link.specs.Orders.{IsOrder}
use Rattle.jv_link_cache.specs.declared.linked.Linked.{Linked}
use Rattle.jv_link_cache.specs.Tasks.{settings_of, IsInitializer}
use Rattle.jv_meaning_world.proofs.Lists.{drop_one_more}
use Rattle.jv_meaning_machine.specs.Frames.{Task as TaskOfNames, InitializationFrame}
use Rattle.jv_meaning_machine.specs.Frames.Task.{SetsField, InitializesFirst, RunsInitializer}
use Rattle.jv_meaning_machine.specs.State.{Program, ClassStates, class_state, is_ready}
use Rattle.jv_meaning_machine.specs.Initialization.{setting, initializer_of, tasks_of, tasks_left}
use Rattle.jv_interp_words.specs.declared.records.InitializationRecord.{InitializationRecord}
use Rattle.jv_interp_held.specs.declared.class_state.ClassState.{ClassState}
use Rattle.jv_interp_control.specs.declared.tasks.Task.TheVariants as tasks
use Rattle.jv_interp_control.specs.Inside.Tasks.{Asking, IsNext, supers_and, ArePassed}
use Rattle.jv_interp_control.proofs.TaskLists.{drop_behind, map_dropped, setting_at, settings_count, classes_dropped, classes_count}

-- a super in front is passed where it is ready, and left where it isn't
passes_ready : (known : ClassStates) (l : Loaded) (more : List TaskOfNames) → is_ready (class_state known l) ≡ true → tasks_left known (InitializesFirst l ∷ more) ≡ tasks_left known more
passes_ready known l more e = by_ready (is_ready (class_state known l)) e
  where
    by_ready :
        (b : Bool) → b ≡ true
        → elim b [ true ↦ tasks_left known more | false ↦ InitializesFirst l ∷ more ] ≡ tasks_left known more
    by_ready true e = refl
    by_ready false e = absurd cc

stops_at : (known : ClassStates) (l : Loaded) (more : List TaskOfNames) → is_ready (class_state known l) ≡ false → tasks_left known (InitializesFirst l ∷ more) ≡ InitializesFirst l ∷ more
stops_at known l more e = by_ready (is_ready (class_state known l)) e
  where
    by_ready :
        (b : Bool) → b ≡ false
        → elim b [ true ↦ tasks_left known more | false ↦ InitializesFirst l ∷ more ] ≡ InitializesFirst l ∷ more
    by_ready true e = absurd cc
    by_ready false e = refl

-- one more is passed
pub passed_one :
    (world : World) (known : ClassStates) (order : List ℕ) (start place n : ℕ) (l : Loaded) → ArePassed world known order start place
    → place < length order → get_or order place 0 ≡ n → slice_get world n ≡ Some l → is_ready (class_state known l) ≡ true
    → ArePassed world known order start (place + 1)
passed_one world known order start place n l h low e at ready = record {
  left =
      λ rest.
      h.left rest ∙ ap (λ (ls : List Loaded). tasks_left known (map InitializesFirst ls ++ rest)) (one_class_more world order place n l low e at)
      ∙ passes_ready known l (supers_and world (drop (place + 1) order) rest) ready;
}

module _ (world : World) (linked : Linked) (own : InitializationRecord) (states : List ClassState) (program : Program) (frame : InitializationFrame) (known : ClassStates)
    (h : Asking world linked own states program frame known) (settings : List ℕ) (settings_are : settings ≡ settings_of frame.class) where
  abbrev constants : List TaskOfNames
  constants = filter_map (setting frame.class) frame.class.class.fields

  abbrev rest : List TaskOfNames
  rest = map InitializesFirst (init_order program.world frame.class) ++ initializer_of frame.class

  count : length constants ≡ length settings
  count = sym (settings_count frame.class frame.class.class.fields 0) ∙ sym (ap length settings_are)

  total : length (tasks_of program.world frame.class) ≡ length settings + length rest
  total = length-append constants rest ∙ ap (λ (n : ℕ). n + length rest) count

  -- ---- a constant

  module _ (member : ℕ) (low : own.done < length settings) (at : slice_get settings own.done ≡ Some member) where
    pub fits_more : own.done + 1 < 4294967296
    fits_more = let few = h.few in let all = total in omega (arith, low, few, all)

    pub sets : IsNext program frame known own.class (Some (record { task = tasks.Sets member; done = own.done + 1 }))
    sets =
        let s = setting_at frame.class frame.class.class.fields 0 own.done member (subst (λ (l : List ℕ). slice_get l own.done ≡ Some member) settings_are at) in
        let task = SetsField (Rattle.jv_meaning_world.specs.LookUps.field_by frame.class s.f) s.constant in
        let size = count in
        let here : own.done ≤ length constants = omega (arith, low, size) in
        let next : own.done + 1 ≤ length constants = omega (arith, low, size) in
        let all : frame.tasks ≡ task ∷ drop (own.done + 1) (tasks_of program.world frame.class) =
        h.stands.tasks_are ∙ drop-append-le own.done constants rest here
        ∙ ap (λ (l : List TaskOfNames). l ++ rest) (drop_one_more constants own.done task s.task)
        ∙ ap (λ (l : List TaskOfNames). task ∷ l) (sym (drop-append-le (own.done + 1) constants rest next)) in
        let from_zero : member - 0 ≡ member = omega arith in
        (task, ap (tasks_left known) all, (frame.class, s.f, s.constant, h.stands.has_number, subst (λ (n : ℕ). slice_get frame.class.class.fields n ≡ Some s.f) from_zero s.at, s.initial, refl))

  -- ---- a super, or `<clinit>`

  module _ (order : List ℕ) (is_order : IsOrder program.world order frame.class) where
    pub order_count : length order ≡ length (init_order program.world frame.class)
    order_count = sym (classes_count program.world order is_order.numbers_of) ∙ ap length is_order.those

    rest_count : length rest ≡ length order + length (initializer_of frame.class)
    rest_count =
        let e = order_count in
        length-append (map InitializesFirst (init_order program.world frame.class)) (initializer_of frame.class)
        ∙ ap (λ (n : ℕ). n + length (initializer_of frame.class)) (length-map (init_order program.world frame.class) InitializesFirst ∙ sym e)

    supers_at : (k : ℕ) → k ≤ length order → drop (length settings + k) (tasks_of program.world frame.class) ≡ supers_and program.world (drop k order) (initializer_of frame.class)
    supers_at k within =
        let e = order_count in
        let size = length-map (init_order program.world frame.class) InitializesFirst in
        let low : k ≤ length (map InitializesFirst (init_order program.world frame.class)) = omega (arith, within, e, size) in
        ap (λ (n : ℕ). drop (n + k) (constants ++ rest)) (sym count) ∙ drop_behind constants rest k
        ∙ drop-append-le k (map InitializesFirst (init_order program.world frame.class)) (initializer_of frame.class) low
        ∙ ap (λ (l : List TaskOfNames). l ++ initializer_of frame.class)
        (map_dropped InitializesFirst (init_order program.world frame.class) k
        ∙ ap (λ (ls : List Loaded). map InitializesFirst (drop k ls)) (sym is_order.those)
        ∙ ap (map InitializesFirst) (classes_dropped program.world order k is_order.numbers_of))

    module _ (behind : ℕ) (is : own.done ≡ length settings + behind) where
      tasks_now : behind ≤ length order → frame.tasks ≡ supers_and program.world (drop behind order) (initializer_of frame.class)
      tasks_now within = h.stands.tasks_are ∙ ap (λ (n : ℕ). drop n (tasks_of program.world frame.class)) is ∙ supers_at behind within

      pub none_behind : length order < behind → length (initializer_of frame.class) ≤ 1 → IsNext program frame known own.class None
      none_behind over few =
          let all = total in
          let size = rest_count in
          let past : length (tasks_of program.world frame.class) ≤ own.done = omega (arith, all, size, over, few, is) in
          ap (tasks_left known) (h.stands.tasks_are ∙ drop_all own.done (tasks_of program.world frame.class) past)

      module _ (place : ℕ) (low : behind ≤ length order) (within : place ≤ length order) (passed : ArePassed program.world known order behind place) where
        left_now : tasks_left known frame.tasks ≡ tasks_left known (supers_and program.world (drop place order) (initializer_of frame.class))
        left_now = ap (tasks_left known) (tasks_now low) ∙ passed.left (initializer_of frame.class)

        pub fits_place : place < length order → length settings + place + 1 < 4294967296
        fits_place here = let few = h.few in let all = total in let size = rest_count in omega (arith, here, few, all, size)

        pub number_fits : place < length order → get_or order place 0 < 4294967296
        number_fits here = let few = h.few_classes in let n = is_order.numbers_of place 0 here in omega (arith, few, n)

        pub begins :
            (number : ℕ) → place < length order → number ≡ get_or order place 0
            → ((l : Loaded) → slice_get program.world (get_or order place 0) ≡ Some l → is_ready (class_state known l) ≡ false)
            → IsNext program frame known own.class (Some (record { task = tasks.Begins number; done = length settings + place + 1 }))
        begins number here number_is unready =
            let n = get_or order place 0 in
            let c = some_class program.world n (is_order.numbers_of place 0 here) in
            let more : place + 1 ≤ length order = omega (arith, here) in
            let sum : length settings + (place + 1) ≡ length settings + place + 1 = omega arith in (
              InitializesFirst c.0,
              left_now
                  ∙ ap (λ (ls : List Loaded). tasks_left known (map InitializesFirst ls ++ initializer_of frame.class))
                  (one_class_more program.world order place n c.0 here refl c.1)
                  ∙ stops_at known c.0 (supers_and program.world (drop (place + 1) order) (initializer_of frame.class)) (unready c.0 c.1)
                  ∙ ap (λ (l : List TaskOfNames). InitializesFirst c.0 ∷ l)
                  (sym (ap (λ (k : ℕ). drop k (tasks_of program.world frame.class)) (sym sum) ∙ supers_at (place + 1) more)),
              (c.0, ap (slice_get program.world) number_is ∙ c.1, refl),
            )

        at_end : place ≡ length order → tasks_left known frame.tasks ≡ tasks_left known (initializer_of frame.class)
        at_end end =
            left_now
            ∙ ap (λ (ls : List Loaded). tasks_left known (map InitializesFirst ls ++ initializer_of frame.class))
            (no_class_left program.world order place (sym end))

        pub runs :
            (member : ℕ) (m : Method) → place ≡ length order → slice_get frame.class.class.methods member ≡ Some m
            → IsInitializer frame.class (Some member)
            → IsNext program frame known own.class (Some (record { task = tasks.Runs member; done = length settings + length order + 1 }))
        runs member m end at is_initializer =
            let named : method_named frame.class.class (codes "<clinit>") (codes "()V") ≡ Some m = sym is_initializer ∙ at in
            let d = declared_by frame.class m in
            let sole : initializer_of frame.class ≡ RunsInitializer d ∷ [] =
            ap (λ (o : Option Method). map RunsInitializer (option_to_list (option_map (declared_by frame.class) o))) named in
            let all = total in
            let size = rest_count in
            let one : length (initializer_of frame.class) ≡ 1 = ap length sole in
            let past : length (tasks_of program.world frame.class) ≤ length settings + length order + 1 = omega (arith, all, size, one) in (
              RunsInitializer d,
              at_end end ∙ ap (tasks_left known) sole
                  ∙ ap (λ (l : List TaskOfNames). RunsInitializer d ∷ l) (sym (drop_all (length settings + length order + 1) (tasks_of program.world frame.class) past)),
              (
                d,
                ap (λ (o : Option Loaded). Rattle.jv_format.specs.Format.◌>>=◌ o (Rattle.jv_lookups.specs.Places.method_of member)) h.stands.has_number
                    ∙ ap (option_map (declared_by frame.class)) at,
                refl,
              ),
            )

        pub fits_end : length (initializer_of frame.class) ≡ 1 → length settings + length order + 1 < 4294967296
        fits_end one = let few = h.few in let all = total in let size = rest_count in omega (arith, one, few, all, size)

        pub finishes : place ≡ length order → initializer_of frame.class ≡ [] → IsNext program frame known own.class None
        finishes end none = at_end end ∙ ap (tasks_left known) none
