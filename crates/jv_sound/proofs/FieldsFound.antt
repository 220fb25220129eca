-- Fields that are found at run time (JVMS 5.4.3.2): which class declares them, and that an object of the named class has them.
use Rattle.std.proofs.Common.{◌≡◌, ℕ, Bool, true, false, List, Some, Ok, refl, sym, ap, subst, ◌∙◌}
use Rattle.std.specs.Prelude.{IsTrue}
use Rattle.std.specs.List.{Contains}
use Rattle.jv_text.specs.Name.{is_array_name}
use Rattle.jv_stackmap.specs.declared.verification.VerificationTypeOf.TheVariants as types
use Rattle.jv_class.specs.Class.{Field, field_named}
use Rattle.jv_pool.specs.Constants.{MemberReference}
use Rattle.jv_meaning_world.specs.World.{Loaded, class_named}
use Rattle.jv_meaning_world.specs.Laws.Above.{SystemStandsAlone}
use Rattle.jv_meaning_world.specs.Verdicts.{is_interface}
use Rattle.jv_meaning_world.specs.LookUps.{DeclaredField}
use Rattle.jv_meaning_world.proofs.Up.{named_stands, above_by_ways, above_is_transitive}
use Rattle.jv_meaning_typing.specs.Uses.{Site, Use}
use Rattle.jv_meaning_typing.specs.LinkErrors.LinkError.{NoSuchFieldError}
use Rattle.jv_meaning_typing.specs.FieldResolution.{resolve_field}
use Rattle.jv_meaning_typing.specs.Kind.{is_static_field, has_field_kind}
use Rattle.jv_meaning_typing.proofs.Resolved.{field_is_used}
use Rattle.jv_meaning_world.proofs.Up.{has_name}
use Rattle.jv_meaning_world.proofs.Order.{below_is_transitive}
use Rattle.jv_meaning_world.proofs.OrderAbove.{array_below_class}
use Rattle.jv_meaning_world.specs.Laws.Order.{IsBelow, IsRooted, object_name}
use Rattle.jv_meaning_machine.specs.Faults.{found}
use Rattle.jv_meaning_machine.specs.Objects.{Instance, Object}
use Rattle.jv_meaning_machine.specs.Objects.Object.{InstanceOf, ArrayWith}
use Rattle.jv_meaning_machine.specs.State.{Program}
use Rattle.jv_sound.specs.Values.{object_type}
use Rattle.jv_sound.specs.Memory.{IsTypedObject}
use Rattle.jv_sound.proofs.Logic.{clash}
use Rattle.jv_sound.proofs.Members.{HoldsField, holds_field, field_there, is_upward, not_interface}
use Rattle.jv_sound.proofs.Resolving.{resolved_class, named_class, below_declaring}

-- ---- a field that is found

pub record IsFieldFound (program : Program) (how : Use) (reference : MemberReference) (d : DeclaredField) : Type 0 where
  pub there : class_named program.world d.by.class.name ≡ Some d.by
  pub below : IsBelow program.world (types.Class reference.class) (types.Class d.by.class.name)
  pub declared : field_named d.by.class reference.name reference.descriptor ≡ Some d.field
  pub descriptor : d.field.descriptor ≡ reference.descriptor
  pub kind : IsTrue (has_field_kind how d.field)

pub field_found : (program : Program) → IsRooted program.world → SystemStandsAlone program.world
    → (site : Site) (how : Use) (reference : MemberReference) (d : DeclaredField) → is_array_name reference.class ≡ false
    → resolve_field program.world site how reference ≡ Ok d → IsFieldFound program how reference d
field_found program rooted alone site how reference d plain e =
    let found = field_is_used above_by_ways above_is_transitive program.world site how reference d e in
    let used = found.1 in
    let class = resolved_class program.world alone reference.class found.0
    (named_class program.world site.by reference NoSuchFieldError found.0 plain used.named_so) in
    let declaring = below_declaring program.world rooted found.0 d.by class.there class.loadable used.place in
    record {
      there = declaring.0;
      below = subst (λ (n : List ℕ). IsBelow program.world (types.Class n) (types.Class d.by.class.name)) class.name declaring.1;
      declared = used.declared;
      descriptor = used.descriptor;
      kind = used.kind;
    }

-- ---- the object that a field is found for

module _ (program : Program) (rooted : IsRooted program.world)
    (interfaces_are_static : (l : Loaded) → Contains program.world l → is_interface l ≡ true → (name descriptor : List ℕ) (f : Field)
    → field_named l.class name descriptor ≡ Some f → is_static_field f ≡ true)
    (object_has_none : (l : Loaded) → class_named program.world object_name ≡ Some l → (name descriptor : List ℕ) (f : Field)
    → field_named l.class name descriptor ≡ Some f → ⊥) where
  -- an object at or below the named class has the field
  pub object_field :
      (objects : List Object) (how : Use) (reference : MemberReference) (d : DeclaredField) (o : Object) → IsTypedObject program objects o
      → IsFieldFound program how reference d → is_static_field d.field ≡ false
      → IsBelow program.world (object_type o) (types.Class reference.class)
      → (i : Instance) × (o ≡ InstanceOf i) × HoldsField program objects d i
  object_field objects how reference d o typed found instance_field b =
      by_object o typed (below_is_transitive program.world rooted (object_type o) (types.Class reference.class)
      (types.Class d.by.class.name) b found.below)
    where
      no_interface : is_interface d.by ≡ false
      no_interface = by_test (is_interface d.by) refl
        where
          by_test : (b : Bool) → is_interface d.by ≡ b → b ≡ false
          by_test true j = absurd (clash (sym instance_field ∙ interfaces_are_static d.by
              (named_stands program.world d.by.class.name d.by found.there) j reference.name reference.descriptor d.field found.declared))
          by_test false j = refl

      by_object : (o : Object) → IsTypedObject program objects o → IsBelow program.world (object_type o) (types.Class d.by.class.name)
          → (i : Instance) × (o ≡ InstanceOf i) × HoldsField program objects d i
      by_object (InstanceOf i) t b =
          let class : t.l.class.name ≡ i.class = has_name program.world i.class t.l t.named in
          let l_there : class_named program.world t.l.class.name ≡ Some t.l = ap (class_named program.world) class ∙ t.named in
          let b2 : IsBelow program.world (types.Class t.l.class.name) (types.Class d.by.class.name) = subst
          (λ (x : List ℕ). IsBelow program.world (types.Class x) (types.Class d.by.class.name)) (sym class) b in (
            i,
            refl,
            holds_field program objects i d t (field_there program.world rooted t.l d reference.name reference.descriptor
                (is_upward program.world rooted t.l d.by l_there found.there t.plain no_interface b2) found.declared instance_field),
          )
      by_object (ArrayWith components values) t b =
          let by_is_object : d.by.class.name ≡ object_name =
          array_below_class program.world rooted components d.by.class.name
          (not_interface program.world rooted d.by.class.name d.by found.there no_interface) b in
          absurd (object_has_none d.by (subst (λ (x : List ℕ). class_named program.world x ≡ Some d.by) by_is_object found.there)
          reference.name reference.descriptor d.field found.declared)
