-- What a handler catches is of the type that the handler begins with.
use Rattle.std.proofs.Common.{◌≡◌, ℕ, Bool, true, false, ◌==◌, List, Option, Some, None, refl, sym, ap, subst, ◌∙◌}
use Rattle.std.specs.Prelude.{unwrap_or, codes, if◌then◌else◌}
use Rattle.std.specs.List.{Contains}
use Rattle.std.specs.Option.{option_map}
use Rattle.jv_text.specs.Types.{field_type_of}
use Rattle.jv_format.specs.Format.{◌>>=◌}
use Rattle.jv_format.specs.declared.handlers.Handler.{Handler}
use Rattle.jv_text.specs.Name.{is_array_name, is_class_name}
use Rattle.jv_stackmap.specs.declared.verification.VerificationTypeOf.TheVariants as types
use Rattle.jv_stackmap.specs.Types.{FrameType, array_of, reference_type, component}
use Rattle.jv_code.specs.Places.{StandsInList, NextStarts}
use Rattle.jv_meaning_world.specs.World.{World}
use Rattle.jv_meaning_world.proofs.Order.{below_is_transitive}
use Rattle.jv_meaning_world.proofs.OrderChains.{all_at}
use Rattle.jv_meaning_world.specs.Flow.{flows}
use Rattle.jv_meaning_world.specs.Laws.Order.{IsRooted}
use Rattle.jv_meaning_typing.specs.Environment.{Environment, current_class}
use Rattle.jv_meaning_typing.specs.Named.{throwable_type}
use Rattle.jv_meaning_typing.specs.Typing.{catch_type, catches_throwable}
use Rattle.jv_meaning_machine.specs.Objects.{is_at_or_below}
use Rattle.jv_meaning_machine.specs.Values.Value.{Reference}
use Rattle.jv_meaning_machine.specs.Frames.{MethodFrame}
use Rattle.jv_meaning_machine.specs.State.{Program}
use Rattle.jv_meaning_machine.specs.Throws.{Thrown, catches, is_caught_as}
use Rattle.jv_sound.specs.Values.{Heap, Place, Item, IsObject, object_type}
use Rattle.jv_sound.specs.Sound.{IsChecked}
use Rattle.jv_sound.proofs.Logic.{clash}
use Rattle.jv_sound.proofs.Formats.{chained}
use Rattle.jv_sound.proofs.Subtypes.{class_below}
use Rattle.jv_sound.proofs.Frames.{IsThrownGood}

module _ (program : Program) (rooted : IsRooted program.world) (next_starts : NextStarts) (stands_in_list : StandsInList) where
  pub catch_fits : (heap : Heap) (t : Thrown) (f : MethodFrame) (checked : IsChecked program f.method) (h : Handler) (type : FrameType)
      → IsThrownGood program rooted next_starts stands_in_list heap t
      → Contains f.method.code.exception_table h → catches program.world (current_class f.method).constant_pool t.class h ≡ true
      → catch_type f.method h.catch_type ≡ Some type
      → (p : Place) → p.heap ≡ heap → p.method ≡ f.method → Item p type (Reference t.object)
  catch_fits heap t f checked h type ok there caught typed p same_heap same_method = by_zero (h.catch_type == 0) _ typed caught
    where
      world_is : p.method.world ≡ program.world
      world_is = ap (λ (e : Environment). e.world) same_method ∙ checked.world

      flows_up : flows f.method.world type throwable_type ≡ true
      flows_up = subst (λ (o : Option FrameType). unwrap_or (option_map
          (λ (x : FrameType). flows f.method.world x throwable_type) o) false ≡ true) typed
          (all_at (catches_throwable f.method) f.method.code.exception_table h checked.typing.handlers.catch there)

      in_place : (name : List ℕ) → IsObject program.world heap.objects (types.Class name) t.object
          → Item p (types.Class name) (Reference t.object)
      in_place name o = record {
        fits = subst (λ (w : World). IsObject w p.heap.objects (types.Class name) t.object) (sym world_is)
            (subst (λ (a : Heap). IsObject program.world a.objects (types.Class name) t.object) (sym same_heap) o);
        width = refl;
      }

      by_name : (name : List ℕ) → is_at_or_below program.world t.class name ≡ true → Item p (types.Class name) (Reference t.object)
      by_name name e = in_place name (record {
        object = ok.object.object;
        there = ok.object.there;
        constructed = ok.object.constructed;
        below = below_is_transitive program.world rooted (object_type ok.object.object) (types.Class t.class)
            (types.Class name) ok.object.below (class_below program.world rooted t.class name ok.loadable e);
      })

      array_flows : (name : List ℕ) (e : (field_type_of name >>= array_of) ≡ Some type) → Item p type (Reference t.object)
      array_flows name e =
          let x = chained (field_type_of name) array_of type e in
          let s : types.Array (component x.0) ≡ type = cc in
          absurd (clash (subst (λ (y : FrameType). flows f.method.world y throwable_type ≡ true) (sym s) flows_up))

      by_class : (name : List ℕ) → is_at_or_below program.world t.class name ≡ true → (b : Bool)
          → (if b then Some (types.Class name) else None) ≡ Some type → Item p type (Reference t.object)
      by_class name e true k = let s : types.Class name ≡ type = cc in subst (λ (y : FrameType). Item p y (Reference t.object)) s
          (by_name name e)
      by_class name e false k = absurd cc

      by_array : (name : List ℕ) → is_at_or_below program.world t.class name ≡ true → (b : Bool)
          → (if b then field_type_of name >>= array_of else if is_class_name name then Some (types.Class name) else None) ≡ Some type
          → Item p type (Reference t.object)
      by_array name e true k = array_flows name k
      by_array name e false k = by_class name e (is_class_name name) k

      by_text : (o : Option (List ℕ)) → (o >>= reference_type) ≡ Some type → is_caught_as program.world t.class o ≡ true
          → Item p type (Reference t.object)
      by_text None k e = absurd cc
      by_text (Some name) k e = by_array name e (is_array_name name) k

      by_zero : (b : Bool) (o : Option (List ℕ)) → (if b then Some throwable_type else o >>= reference_type) ≡ Some type
          → (if b then true else is_caught_as program.world t.class o) ≡ true → Item p type (Reference t.object)
      by_zero true o k e = let s : throwable_type ≡ type = cc in subst (λ (y : FrameType). Item p y (Reference t.object)) s
          (in_place (codes "java/lang/Throwable") ok.throwable)
      by_zero false o k e = by_text o k e
