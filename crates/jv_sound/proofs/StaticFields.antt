-- getstatic and putstatic (JVMS 6.5).
use Rattle.std.proofs.Common.{◌≡◌, ℕ, suc, true, List, [], ◌∷◌, Option, Some, refl, sym, ap, subst, ◌∙◌}
use Rattle.std.specs.Prelude.{⊤}
use Rattle.std.specs.List.{Contains, list_any, flat_map, filter}
use Rattle.std.specs.Str.{bytes_eq}
use Rattle.jv_text.specs.declared.descriptor.FieldTypeOf.{FieldTypeOf}
use Rattle.jv_text.specs.Types.{field_type_of}
use Rattle.jv_stackmap.specs.Types.{value_type}
use Rattle.jv_code.specs.declared.insn.Insn.TheVariants as insns
use Rattle.jv_code.specs.declared.kinds.FieldAccess.TheVariants as access
use Rattle.jv_class.specs.Class.{Field, field_named}
use Rattle.jv_pool.specs.Constants.{MemberReference}
use Rattle.jv_meaning_world.specs.World.{World, class_named}
use Rattle.jv_meaning_world.specs.LookUps.{DeclaredField, field_by}
use Rattle.jv_meaning_world.proofs.Up.{named_stands}
use Rattle.jv_meaning_world.proofs.OrderChains.{any_made}
use Rattle.jv_meaning_typing.specs.Kind.{is_static_field}
use Rattle.jv_meaning_typing.specs.Operands.{field_operand}
use Rattle.jv_meaning_typing.specs.Uses.Use.{Getstatic, Putstatic}
use Rattle.jv_meaning_typing.specs.Environment.{current_class}
use Rattle.jv_meaning_typing.specs.FrameChanges.{with_stack, taken_as_all}
use Rattle.jv_meaning_machine.specs.Faults.{found, ◌>>=◌}
use Rattle.jv_meaning_machine.specs.Faults.Fault.{OffsetFault}
use Rattle.jv_meaning_machine.specs.Values.{Value, narrowed}
use Rattle.jv_meaning_machine.specs.Objects.{key_of, same_key, value_at, default_entry}
use Rattle.jv_meaning_machine.specs.Operands.{taken_as}
use Rattle.jv_meaning_machine.specs.Effects.{goes_on_with}
use Rattle.jv_meaning_machine.specs.Fields.{get_static, put_static, with_static}
use Rattle.jv_meaning_machine.specs.Laws.Shapes.{key_in, keys_in}
use Rattle.jv_meaning_machine.specs.Start.{static_entries}
use Rattle.jv_sound.specs.Values.{Fits, FitsDescribed}
use Rattle.jv_sound.specs.Sound.{IsSort}
use Rattle.jv_sound.proofs.Logic.{then2, then1, then_holds, found_holds, handed_on}
use Rattle.jv_sound.proofs.Types.{sort_item}
use Rattle.jv_sound.proofs.Heaps.{same}
use Rattle.jv_sound.proofs.Taking.{taken_one}
use Rattle.jv_sound.proofs.Pure.{agrees_from}
use Rattle.jv_sound.proofs.Members.{in_map, kept, in_flat, field_in, held_by_keys, held_fits, same_key_itself, some_value}
use Rattle.jv_sound.proofs.Storing.{static_typed}
use Rattle.jv_sound.proofs.Storing.{narrowed_fits}
use Rattle.jv_sound.proofs.FieldsFound.{IsFieldFound, field_found}
use Rattle.jv_sound.proofs.FieldUses.{field_ok, once_ok}
use Rattle.jv_sound.proofs.Ways.{Setting, IsSet, world_of, program_of, memory_of, context_of, here, Does, By, Sound, goes_ok, goes_with_ok}

-- each static field of a class of the world holds something
pub static_there : (world : World) (d : DeclaredField) (name descriptor : List ℕ) → Contains world d.by
    → field_named d.by.class name descriptor ≡ Some d.field → is_static_field d.field ≡ true
    → list_any (same_key (key_of d)) (keys_in (flat_map static_entries world)) ≡ true
static_there world d name descriptor there declared static =
    let field : Contains (filter is_static_field d.by.class.fields) d.field =
    kept is_static_field d.by.class.fields d.field (field_in (λ (g : Field). Rattle.std.specs.Prelude.◌&&◌ (bytes_eq g.name name)
    (bytes_eq g.descriptor descriptor)) d.by.class.fields d.field declared) static in
    let entry : Contains (flat_map static_entries world) (default_entry d) =
    in_flat static_entries world d.by (default_entry d) there (in_map (λ f. default_entry (field_by d.by f))
    (filter is_static_field d.by.class.fields) d.field field) in
    any_made (same_key (key_of d)) (keys_in (flat_map static_entries world)) (key_of d)
    (in_map key_in (flat_map static_entries world) (default_entry d) entry) (same_key_itself (key_of d))

module _ (x : Setting) (h : IsSet x) (index : ℕ)
    (sorts : (reference : MemberReference) (type : FieldTypeOf (List ℕ))
    → field_operand (current_class x.frame.method) index ≡ Some reference → field_type_of reference.descriptor ≡ Some type
    → IsSort (value_type type)) where
  stands : (d : DeclaredField) → class_named (world_of x) d.by.class.name ≡ Some d.by → Contains (world_of x) d.by
  stands d e = named_stands (world_of x) d.by.class.name d.by e

  -- a static field that is found holds something
  held : (d : DeclaredField) (name descriptor : List ℕ) → class_named (world_of x) d.by.class.name ≡ Some d.by
      → field_named d.by.class name descriptor ≡ Some d.field → is_static_field d.field ≡ true
      → (v : Value) × (value_at (key_of d) x.rest.statics ≡ Some v)
  held d name descriptor there declared static =
      some_value (value_at (key_of d) x.rest.statics)
      (held_by_keys (key_of d) x.rest.statics ∙ ap (list_any (same_key (key_of d))) h.typed.statics_there ∙ static_there
      (world_of x) d name descriptor (stands d there) declared static)

  pub get_static_ok : Sound x (insns.Field access.GetStatic index)
  get_static_ok =
      field_ok x h access.GetStatic index sorts (λ reference type d plain described sort e.
      let known = field_found (program_of x) h.rooted h.alone x.frame.method.site Getstatic reference d plain e in
      once_ok x h (insns.Field access.GetStatic index) _ d.by _ (stands d known.there) refl
      (λ _. agrees_from (pushes reference type d known described sort)))
    where
      pushes : (reference : MemberReference) (type : FieldTypeOf (List ℕ)) (d : DeclaredField)
          → IsFieldFound (program_of x) Getstatic reference d → field_type_of reference.descriptor ≡ Some type → IsSort (value_type type)
          → Does x (insns.Field access.GetStatic index) (with_stack x.given (value_type type ∷ x.given.stack))
          (get_static (context_of x (insns.Field access.GetStatic index)) d)
      pushes reference type d known described sort =
          let value = held d reference.name reference.descriptor known.there known.declared known.kind in
          let fits : Fits (world_of x) x.heap.objects (value_type type) value.0 =
          subst (λ (o : Option (FieldTypeOf (List ℕ))). FitsDescribed (world_of x) x.heap.objects o value.0)
          (ap field_type_of known.descriptor ∙ described)
          (held_fits (world_of x) x.heap.objects (key_of d) x.rest.statics value.0 h.typed.statics value.1) in
          then_holds (found_holds {P = λ v. v ≡ value.0} OffsetFault (value_at (key_of d) x.rest.statics) value.0 value.1 refl)
          (λ v same_value.
          goes_ok x h (insns.Field access.GetStatic index) (value_type type ∷ x.given.stack) (v ∷ x.frame.stack) refl (
            sort_item (here x) (value_type type) v sort (subst (λ (y : Value). Fits (world_of x) x.heap.objects (value_type type) y)
                (sym same_value) fits),
            h.holding.stack,
          ))

  pub put_static_ok : Sound x (insns.Field access.PutStatic index)
  put_static_ok =
      field_ok x h access.PutStatic index sorts (λ reference type d plain described sort e.
      let known = field_found (program_of x) h.rooted h.alone x.frame.method.site Putstatic reference d plain e in
      once_ok x h (insns.Field access.PutStatic index) _ d.by _ (stands d known.there) refl
      (λ _. stores reference type d known described sort))
    where
      stores : (reference : MemberReference) (type : FieldTypeOf (List ℕ)) (d : DeclaredField)
          → IsFieldFound (program_of x) Putstatic reference d → field_type_of reference.descriptor ≡ Some type → IsSort (value_type type)
          → By x (insns.Field access.PutStatic index) (Rattle.jv_meaning_typing.specs.FrameChanges.exchanged (world_of x)
          (value_type type ∷ []) [] x.given) (put_static (context_of x (insns.Field access.PutStatic index)) d)
      stores reference type d known described sort =
          then1 (found_holds {P = λ t. t ≡ type} OffsetFault (field_type_of d.field.descriptor) type
          (ap field_type_of known.descriptor ∙ described) refl) (λ t same_type.
          subst (λ (t : FieldTypeOf (List ℕ)). By x (insns.Field access.PutStatic index)
          (Rattle.jv_meaning_typing.specs.FrameChanges.exchanged (world_of x) (value_type type ∷ []) [] x.given)
          (taken_as x.heap.objects (value_type t) x.frame.stack >>= λ top. found OffsetFault (value_at (key_of d) x.rest.statics) >>= λ old.
          goes_on_with (context_of x (insns.Field access.PutStatic index)) (with_static (key_of d) (narrowed t top.0) (memory_of x)) top.1))
          (sym same_type)
          (handed_on (taken_as_all (world_of x) (value_type type ∷ []) x.given.stack) (λ below. Some (with_stack x.given below)) _
          (then2 (taken_one (here x) h.rooted h.loadable (value_type type) x.given.stack x.frame.stack sort h.holding.stack) (λ S top f.
          agrees_from (then_holds (found_holds {P = λ v. ⊤} OffsetFault (value_at (key_of d) x.rest.statics)
          (held d reference.name reference.descriptor known.there known.declared known.kind).0
          (held d reference.name reference.descriptor known.there known.declared known.kind).1 tt) (λ old _.
          goes_with_ok x h (insns.Field access.PutStatic index) S top.1 x.heap
          (with_static (key_of d) (narrowed type top.0) (memory_of x)) refl (same (suc x.depth) x.heap) refl
          (static_typed (program_of x) (memory_of x) (key_of d) (narrowed type top.0) h.typed
          (subst (λ (o : Option (FieldTypeOf (List ℕ))). FitsDescribed (world_of x) x.heap.objects o (narrowed type top.0))
          (sym (ap field_type_of known.descriptor ∙ described)) (narrowed_fits (world_of x) x.heap.objects type top.0 f.0))) f.1))))))
