-- A class that can be loaded has fewer tasks than 2^32, in the world of a guest with fewer than 2^31 classes (JVMS 4.1, 5.5): at most one for each of
-- its fields, which are at most 65,535, one for its superclass, one for each interface in the world, and its `<clinit>`.
use Rattle.std.proofs.Common.{◌≡◌, ◌<◌, ◌≤◌, suc, Bool, true, false, List, [], ◌∷◌, ◌++◌, length, map, Option, Some, None, refl, sym, ap, subst, ◌∙◌, arith, if◌then◌else◌, length-append}
use Rattle.std.specs.Prelude.{IsTrue, IsFalse, codes, filter}
use Rattle.std.specs.List.{Contains, cons_option, filter_map}
use Rattle.std.specs.Option.{option_map, option_to_list}
use Rattle.std.specs.Str.{bytes_eq}
use Rattle.std.proofs.lemmas.List.{length-map}
use Rattle.std.proofs.lemmas.List.Elements.{Contains-append_left, Contains-append_right}
use Rattle.jv_class.specs.Class.{Class, Field, Method, method_named}
use Rattle.jv_meaning_world.specs.World.{Loaded, World, class_named}
use Rattle.jv_meaning_world.specs.Above.{above, is_circular, superclass_names, superclass_in}
use Rattle.jv_meaning_world.specs.Verdicts.{is_interface, is_loadable, declared_by}
use Rattle.jv_meaning_world.proofs.Up.{first, above_by_ways, above_is_transitive}
use Rattle.jv_meaning_world.proofs.Standing.{loadable_by_all}
use Rattle.jv_meaning_typing.specs.InitializationOrder.{enumerated, declares_default, init_order}
use Rattle.jv_meaning_typing.specs.LinkingLaws.{IsInterfaceWay, IsNext, EachBehind, behind_superclass}
use Rattle.jv_meaning_typing.proofs.Found.{in_found}
use Rattle.jv_meaning_world.proofs.Up.{found_is_named}
use Rattle.jv_meaning_typing.proofs.Chain.{in_any, IsNamedIn, IsFresh, NoTwo, few}
use Rattle.jv_meaning_typing.proofs.Enumerated.{init_order_is_by_rule}
use Rattle.jv_loader.specs.Straight.{IsStraight}
use Rattle.jv_loader.proofs.Straightness.{are_straight}
use Rattle.jv_meaning_machine.specs.Frames.{Task}
use Rattle.jv_meaning_machine.specs.Frames.Task.{InitializesFirst, RunsInitializer}
use Rattle.jv_meaning_machine.specs.Initialization.{setting, initializer_of, tasks_of}
use Rattle.jv_interp_heap.specs.SystemNumbers.{IsGuestsWorld}
use Rattle.jv_interp_members.proofs.FieldsOfFiles.{fields_keep_rules}

-- ---- those that stand once are no more than there are classes

module _ (world : World) where
  other_name : (before : List Loaded) (l c : Loaded) → Contains before l → IsNext world before c → bytes_eq l.class.name c.class.name ≡ false
  other_name before l c h next = by_test (bytes_eq l.class.name c.class.name) refl
    where
      clash : (b : Bool) → IsTrue b → IsFalse b → ⊥
      clash true h k = absurd cc
      clash false h k = absurd cc

      by_test : (b : Bool) → bytes_eq l.class.name c.class.name ≡ b → bytes_eq l.class.name c.class.name ≡ false
      by_test false e = e
      by_test true e = absurd (clash _ (in_any (λ (b : Loaded). bytes_eq b.class.name c.class.name) before l h e) next.once)

  fresh_behind : (before ls : List Loaded) (l : Loaded) → Contains before l → EachBehind (IsNext world) before ls → IsFresh l.class.name ls
  fresh_behind before [] l h each = tt
  fresh_behind before (c ∷ ls) l h each =
      (other_name before l c h each.0, fresh_behind (before ++ c ∷ []) ls l (Contains-append_left before (c ∷ []) l h) each.1)

  no_two : (before ls : List Loaded) → EachBehind (IsNext world) before ls → NoTwo ls
  no_two before [] each = tt
  no_two before (c ∷ ls) each =
      (fresh_behind (before ++ c ∷ []) ls c (Contains-append_right before (c ∷ []) c (first c [])) each.1, no_two (before ++ c ∷ []) ls each.1)

  way_named : (class : Class) (between : List Loaded) (s : Loaded) → IsInterfaceWay world class between s → IsNamedIn world s
  way_named class [] s h =
      let found = in_found (class_named world) class.interfaces s h in
      ap (class_named world) (found_is_named world found.0 s found.2) ∙ found.2
  way_named class (by ∷ more) s h = way_named by.class more s h.1

  behind_more : (o : Option Loaded) (ls : List Loaded) → length (behind_superclass o ls) ≤ suc (length ls)
  behind_more None ls = omega arith
  behind_more (Some s) ls = omega arith

  none_before : (b : Bool) (ls : List Loaded) → b ≡ true → length (if b then [] else ls) ≡ 0
  none_before true ls e = refl
  none_before false ls e = absurd cc

  few_before :
      (l : Loaded) → ((c : Loaded) → Contains (above world l.class) c → IsFalse (is_circular world c.class)) → length (init_order world l) ≤ suc (length world)
  few_before l straight = by_kind (is_interface l) refl
    where
      by_kind : (b : Bool) → is_interface l ≡ b → length (init_order world l) ≤ suc (length world)
      by_kind true e =
          let none =
          none_before (is_interface l)
          (filter_map (class_named world) (superclass_names l.class.super_class) ++ filter declares_default (enumerated world l.class)) e in
          omega (arith, none)
      by_kind false e =
          let order = init_order_is_by_rule above_by_ways above_is_transitive world l e straight in
          let parts = ap (λ (ls : List Loaded). length ls) order.parts in
          let more = behind_more (superclass_in world l.class) order.interfaces in
          let those =
          few world order.interfaces (no_two [] order.interfaces order.one_by_one)
          (λ s h. let way = ((order.those s).0 h).0 in way_named l.class way.0 s way.1) in
          omega (arith, parts, more, those)

-- ---- all tasks

few_settings : (l : Loaded) (fields : List Field) → length (filter_map (setting l) fields) ≤ length fields
few_settings l [] = omega arith
few_settings l (f ∷ fields) = by_task (setting l f) (few_settings l fields)
  where
    by_task : (o : Option Task) → length (filter_map (setting l) fields) ≤ length fields → length (cons_option o (filter_map (setting l) fields)) ≤ suc (length fields)
    by_task None h = omega (arith, h)
    by_task (Some task) h = omega (arith, h)

pub few_initializers : (l : Loaded) → length (initializer_of l) ≤ 1
few_initializers l = by_method (method_named l.class (codes "<clinit>") (codes "()V"))
  where
    by_method : (o : Option Method) → length (map RunsInitializer (option_to_list (option_map (declared_by l) o))) ≤ 1
    by_method None = omega arith
    by_method (Some m) = omega arith

pub few_tasks :
    (world : World) → IsGuestsWorld world → (l : Loaded) → Contains world l → IsTrue (is_loadable world l) → length world < 2147483648
    → length (tasks_of world l) < 4294967296
few_tasks world guests l here loadable few_classes =
    let straight : IsStraight world l =
    subst (λ (w : World). (m : Loaded) → Contains w m → IsTrue (is_loadable w m) → IsStraight w m) (sym guests.world_is)
    (are_straight guests.given guests.contents above_by_ways loadable_by_all).loadable l here loadable in
    let settings = few_settings l l.class.fields in
    let fields = (fields_keep_rules world guests l here).few in
    let before = few_before world l straight.above_it in
    let initializers = few_initializers l in
    let all = length-append (filter_map (setting l) l.class.fields) (map InitializesFirst (init_order world l) ++ initializer_of l) in
    let rest = length-append (map InitializesFirst (init_order world l)) (initializer_of l) in
    let size = length-map (init_order world l) InitializesFirst in
    omega (arith, settings, fields, before, initializers, all, rest, size, few_classes)
