-- Memories in which an object, or what a static field holds, is another one.
use Rattle.std.proofs.Common.{◌≡◌, ◌⊎◌, inl, inr, ℕ, zero, ℤ, Bool, true, false, ◌&&◌, List, [], ◌∷◌, Some, refl, sym, ap, subst, ◌∙◌}
use Rattle.std.specs.Prelude.{slice_get, slice_set, codes, if◌then◌else◌}
use Rattle.std.specs.List.{AllByRecursion}
use Rattle.std.specs.Str.{bytes_eq}
use Rattle.jv_text.specs.declared.descriptor.Base.{Base}
use Rattle.jv_text.specs.declared.descriptor.Base.TheVariants as bases
use Rattle.jv_text.specs.declared.descriptor.Element.{Element}
use Rattle.jv_text.specs.declared.descriptor.Element.TheVariants as elements
use Rattle.jv_meaning_machine.specs.Values.Value.{Int}
use Rattle.jv_text.specs.declared.descriptor.FieldTypeOf.{FieldTypeOf}
use Rattle.jv_text.specs.Types.{field_type_of}
use Rattle.jv_stackmap.specs.Types.{value_type, value_type_by}
use Rattle.jv_meaning_world.specs.World.{World}
use Rattle.jv_meaning_world.proofs.Up.{same_name}
use Rattle.jv_meaning_typing.specs.Named.{array_with, class_components, class_type, string_type}
use Rattle.jv_meaning_machine.specs.Values.{Value, narrowed, narrowed_by}
use Rattle.jv_meaning_machine.specs.Objects.{FieldKey, Content, Object, same_key, with_value}
use Rattle.jv_meaning_machine.specs.State.{Program, Memory}
use Rattle.jv_meaning_machine.specs.Laws.Shapes.{keys_in}
use Rattle.jv_meaning_machine.specs.Effects.{out_of_memory}
use Rattle.jv_meaning_machine.specs.Literals.{string_name}
use Rattle.jv_sound.specs.Values.{Fits, FitsDescribed, FitsEntry, Heap, IsObject}
use Rattle.jv_sound.specs.Memory.{IsTypedObject, IsTypedMemory}
use Rattle.jv_sound.specs.Later.{IsLater}
use Rattle.jv_sound.proofs.Taking.{and_parts}
use Rattle.jv_sound.proofs.Heaps.{set_cases, object_later, entries_later}
use Rattle.jv_sound.proofs.Memories.{typed_later}

-- ---- what fields hold

-- a value of the field's type is stored, and the others stay
pub with_value_fits : (world : World) (objects : List Object) (key : FieldKey) (v : Value) (content : Content)
    → FitsDescribed world objects (field_type_of key.descriptor) v → AllByRecursion (FitsEntry world objects) content
    → AllByRecursion (FitsEntry world objects) (with_value key v content)
with_value_fits world objects key v [] f h = tt
with_value_fits world objects key v (entry ∷ more) f h = by_test (same_key key entry.0) refl
    (with_value_fits world objects key v more f h.1)
  where
    by_test : (b : Bool) → same_key key entry.0 ≡ b → AllByRecursion (FitsEntry world objects) (with_value key v more)
        → AllByRecursion (FitsEntry world objects) (if b then (entry.0, v) ∷ more else entry ∷ with_value key v more)
    by_test true e again =
        let parts = and_parts (bytes_eq key.name entry.0.name && bytes_eq key.class entry.0.class)
        (bytes_eq key.descriptor entry.0.descriptor) e in (
          subst (λ (d : List ℕ). FitsDescribed world objects (field_type_of d) v)
              (same_name key.descriptor entry.0.descriptor parts.1) f,
          h.1,
        )
    by_test false e again = (h.0, again)

-- the same fields hold something
pub with_value_keys : (key : FieldKey) (v : Value) (content : Content) → keys_in (with_value key v content) ≡ keys_in content
with_value_keys key v [] = refl
with_value_keys key v (entry ∷ more) = by_test (same_key key entry.0) (with_value_keys key v more)
  where
    by_test : (b : Bool) → keys_in (with_value key v more) ≡ keys_in more
        → keys_in (if b then (entry.0, v) ∷ more else entry ∷ with_value key v more) ≡ entry.0 ∷ keys_in more
    by_test true again = refl
    by_test false again = ap (λ (ks : List FieldKey). entry.0 ∷ ks) again

-- ---- what a store narrows is still of its type

pub narrowed_fits : (world : World) (objects : List Object) (type : FieldTypeOf (List ℕ)) (v : Value)
    → Fits world objects (value_type type) v → Fits world objects (value_type type) (narrowed type v)
narrowed_fits world objects type v f = by_type type.dimensions type.element v f
  where
    by_int : (base : Base) (n : ℕ) (m : ℤ) → Fits world objects (value_type_by zero (elements.Base base)) (Int m)
        → Fits world objects (value_type_by zero (elements.Base base)) (narrowed_by zero (elements.Base base) (Int m))
    by_int bases.Byte n m f = tt
    by_int bases.Char n m f = tt
    by_int bases.Short n m f = tt
    by_int bases.Boolean n m f = tt
    by_int bases.Int n m f = tt
    by_int bases.Long n m f = absurd f
    by_int bases.Float n m f = tt
    by_int bases.Double n m f = tt

    by_type : (n : ℕ) (e : Element (List ℕ)) (v : Value) → Fits world objects (value_type_by n e) v
        → Fits world objects (value_type_by n e) (narrowed_by n e v)
    by_type zero (elements.Base base) (Int m) f = by_int base 0 m f
    by_type n e v f = f

-- ---- an object is another one

module _ (program : Program) where
  -- what a typed memory asks of objects elsewhere, in a later heap
  pub set_typed : (a b : Heap) (memory : Memory) (id : ℕ) (q : Object) → a.objects ≡ memory.objects → b.objects ≡ slice_set a.objects id q
      → IsTypedMemory program memory
      → IsLater 0 a b → IsTypedObject program b.objects q → IsTypedMemory program (record memory { objects = b.objects })
  set_typed a b memory id q is now typed g new = record {
    objects = record {
      each = λ j o e. by_place j o (set_cases a.objects id q j o
          (subst (λ (os : List Object). slice_get os j ≡ Some o) now e));
    };
    statics = entries_later program.world g memory.statics (subst
        (λ (os : List Object). AllByRecursion (FitsEntry program.world os) memory.statics) (sym is) typed.statics);
    statics_there = typed.statics_there;
    literals = λ text j e. object_later program.world g string_type j
        (subst (λ (os : List Object). IsObject program.world os string_type j) (sym is) (typed.literals text j e));
    no_memory = object_later program.world g (class_type (codes "java/lang/OutOfMemoryError")) out_of_memory
        (subst (λ (os : List Object). IsObject program.world os (class_type (codes "java/lang/OutOfMemoryError")) out_of_memory)
        (sym is) typed.no_memory);
    arguments = object_later program.world g (array_with (class_components string_name)) 1
        (subst (λ (os : List Object). IsObject program.world os (array_with (class_components string_name)) 1) (sym is) typed.arguments);
  }
    where
      by_place : (j : ℕ) (o : Object) → (slice_get a.objects j ≡ Some o) ⊎ (q ≡ o) → IsTypedObject program b.objects o
      by_place j o (inl e) = typed_later program g o (subst (λ (os : List Object). IsTypedObject program os o) (sym is)
          (typed.objects.each j o (subst (λ (os : List Object). slice_get os j ≡ Some o) is e)))
      by_place j o (inr s) = subst (λ (p : Object). IsTypedObject program b.objects p) s new

  -- a static field holds another value of its type
  pub static_typed : (memory : Memory) (key : FieldKey) (v : Value) → IsTypedMemory program memory
      → FitsDescribed program.world memory.objects (field_type_of key.descriptor) v
      → IsTypedMemory program (record memory { statics = with_value key v memory.statics })
  static_typed memory key v typed f = record {
    objects = typed.objects;
    statics = with_value_fits program.world memory.objects key v memory.statics f typed.statics;
    statics_there = with_value_keys key v memory.statics ∙ typed.statics_there;
    literals = typed.literals;
    no_memory = typed.no_memory;
    arguments = typed.arguments;
  }
