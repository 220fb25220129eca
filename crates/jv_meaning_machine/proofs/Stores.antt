-- What a store to a field, to a component of an array or to a static field changes.
use Rattle.std.proofs.Common.{◌≡◌, ℕ, Bool, true, false, ◌&&◌, List, [], ◌∷◌, Option, Some, refl, sym, ap, subst, ◌∙◌, ◌⊎◌, inl, inr, slice_get, slice_set, length-set, true≢false, IsSome, bytes_eq, if◌then◌else◌}
use Rattle.std.proofs.lemmas.Bool.{cases_eq}
use Rattle.std.proofs.lemmas.Slice.Eq.{bytes_eq-Decides}
use Rattle.jv_meaning_machine.specs.Values.{Value, narrowed}
use Rattle.jv_meaning_machine.specs.Objects.{FieldKey, Object, Instance, same_key, value_at, with_value}
use Rattle.jv_meaning_machine.specs.Objects.Object.{InstanceOf, ArrayWith}
use Rattle.jv_meaning_machine.specs.State.{Memory}
use Rattle.jv_meaning_machine.specs.Fields.{with_static, with_object, with_field_value}
use Rattle.jv_meaning_machine.specs.Arrays.{Components, with_component_stored}
use Rattle.jv_meaning_machine.specs.Laws.Shapes.{shape_of}
use Rattle.jv_meaning_machine.specs.Laws.Shapes.Shape.{ObjectShape, ArrayShape}
use Rattle.jv_meaning_machine.specs.Laws.Locations.{Location, field_of_object, component_in, held_at, bare, StoresAt}
use Rattle.jv_meaning_machine.specs.Laws.Locations.Location.{FieldOf, ComponentOf, StaticField}
use Rattle.jv_meaning_machine.specs.Laws.Stores.{OtherFieldsStay}
use Rattle.jv_meaning_machine.proofs.Contents.{stored_is_there}
use Rattle.jv_meaning_machine.proofs.KeptMemory.{same_keys, same_of_all, set_there, set_elsewhere}

-- ---- fields

abbrev key_with : List ℕ → List ℕ → List ℕ → FieldKey
key_with class name descriptor = record { class = class; name = name; descriptor = descriptor }

both_true : (a b : Bool) → (a && b) ≡ true → (a ≡ true) × (b ≡ true)
both_true true b e = (refl, e)
both_true false b e = absurd (true≢false (sym e))

same_is : (a b : FieldKey) → same_key a b ≡ true → a ≡ b
same_is a b e =
    let parts : ((bytes_eq a.name b.name && bytes_eq a.class b.class) ≡ true) × (bytes_eq a.descriptor b.descriptor ≡ true) =
    both_true (bytes_eq a.name b.name && bytes_eq a.class b.class) (bytes_eq a.descriptor b.descriptor) e in
    let first : (bytes_eq a.name b.name ≡ true) × (bytes_eq a.class b.class ≡ true) =
    both_true (bytes_eq a.name b.name) (bytes_eq a.class b.class) parts.0 in
    ap (λ (t : List ℕ). key_with t a.name a.descriptor) ((bytes_eq-Decides a.class b.class).0 first.1)
    ∙ ap (λ (t : List ℕ). key_with b.class t a.descriptor) ((bytes_eq-Decides a.name b.name).0 first.0)
    ∙ ap (λ (t : List ℕ). key_with b.class b.name t) ((bytes_eq-Decides a.descriptor b.descriptor).0 parts.1)

pub other_fields_stay : OtherFieldsStay
other_fields_stay key other value [] differ = refl
other_fields_stay key other value (entry ∷ more) differ =
    by_tests (same_key key entry.0) refl (same_key other entry.0) refl (other_fields_stay key other value more differ)
  where
    by_tests :
        (same : Bool) → same_key key entry.0 ≡ same → (its : Bool) → same_key other entry.0 ≡ its
        → value_at other (with_value key value more) ≡ value_at other more
        → value_at other (if same then (entry.0, value) ∷ more else entry ∷ with_value key value more) ≡ (if its then Some entry.1 else value_at other more)
    by_tests true e true f again = absurd (differ (same_is other entry.0 f ∙ sym (same_is key entry.0 e)))
    by_tests true e false f again = ap (λ (b : Bool). if b then Some value else value_at other more) f
    by_tests false e true f again = ap (λ (b : Bool). if b then Some entry.1 else value_at other (with_value key value more)) f
    by_tests false e false f again = ap (λ (b : Bool). if b then Some entry.1 else value_at other (with_value key value more)) f ∙ again

-- ---- a static field

pub static_stores :
    (key : FieldKey) (value : Value) (memory : Memory) → StoresAt memory (with_static key value memory) (StaticField key) value
static_stores key value memory = record {
  there = λ h. stored_is_there key value memory.statics h;
  others = elsewhere;
  shapes_same = refl;
  objects_same = refl;
  rest = refl;
}
  where
    elsewhere : (other : Location) → (other ≡ StaticField key → ⊥) → held_at (with_static key value memory) other ≡ held_at memory other
    elsewhere (FieldOf object other) differ = refl
    elsewhere (ComponentOf array place) differ = refl
    elsewhere (StaticField other) differ = other_fields_stay key other value memory.statics (λ e. differ (ap StaticField e))

-- ---- objects

-- what is seen of each object is as before, where that is so of the one that changed
seen_of_each :
    (f :
    Option Object
    → Option Value) (objects : List Object) (id : ℕ) (old object : Object) → slice_get objects id ≡ Some old → (number : ℕ)
    → (number ≡ id → f (Some object) ≡ f (Some old)) → f (slice_get (slice_set objects id object) number) ≡ f (slice_get objects number)
seen_of_each f objects id old object e number same = by_number (cases_eq number id)
  where
    by_number : (number ≡ id) ⊎ (number ≡ id → ⊥) → f (slice_get (slice_set objects id object) number) ≡ f (slice_get objects number)
    by_number (inl is) =
        ap (λ (n : ℕ). f (slice_get (slice_set objects id object) n)) is
        ∙ ap f (set_there objects id object old e)
        ∙ same is
        ∙ sym (ap f e)
        ∙ sym (ap (λ (n : ℕ). f (slice_get objects n)) is)
    by_number (inr apart) = ap f (set_elsewhere objects id number object apart)

-- ---- a field of an object

pub field_stores :
    (memory :
    Memory) (id : ℕ) (instance : Instance) (key : FieldKey) (value : Value) → slice_get memory.objects id ≡ Some (InstanceOf instance)
    → StoresAt memory (with_object id (with_field_value key value instance) memory) (FieldOf id key) value
field_stores memory id instance key value e = record {
  there = λ h.
      ap (field_of_object key) (set_there memory.objects id (with_field_value key value instance) (InstanceOf instance) e)
      ∙ stored_is_there key value instance.fields (subst (λ (o : Option Object). IsSome (field_of_object key o)) e h);
  others = elsewhere;
  shapes_same =
      same_of_all shape_of id (InstanceOf instance) (with_field_value key value instance) memory.objects e
      (ap (λ (keys : List FieldKey). ObjectShape instance.class keys) (same_keys key value instance.fields));
  objects_same = same_of_all bare id (InstanceOf instance) (with_field_value key value instance) memory.objects e refl;
  rest = refl;
}
  where
    elsewhere :
        (other :
        Location) → (other ≡ FieldOf id key
        → ⊥) → held_at (with_object id (with_field_value key value instance) memory) other ≡ held_at memory other
    elsewhere (FieldOf object other) differ =
        seen_of_each (field_of_object other) memory.objects id (InstanceOf instance) (with_field_value key value instance) e object
        (λ is. other_fields_stay key other value instance.fields (λ f. differ (ap (λ (n : ℕ). FieldOf n other) is ∙ ap (λ (k : FieldKey). FieldOf id k) f)))
    elsewhere (ComponentOf array place) differ =
        seen_of_each (component_in place) memory.objects id (InstanceOf instance) (with_field_value key value instance) e array (λ is. refl)
    elsewhere (StaticField other) differ = refl

-- ---- a component of an array

abbrev array_with : Components → ℕ → Value → Object
array_with array place value = ArrayWith array.0 (slice_set array.1 place (narrowed array.0 value))

pub component_stores :
    (memory : Memory) (id : ℕ) (array : Components) (place : ℕ) (value old : Value)
    → slice_get memory.objects id ≡ Some (ArrayWith array.0 array.1)
    → slice_get array.1 place ≡ Some old
    → StoresAt memory (with_component_stored id array place value memory) (ComponentOf id place) (narrowed array.0 value)
component_stores memory id array place value old e here = record {
  there = λ h.
      ap (component_in place) (set_there memory.objects id (array_with array place value) (ArrayWith array.0 array.1) e)
      ∙ set_there array.1 place (narrowed array.0 value) old here;
  others = elsewhere;
  shapes_same =
      same_of_all shape_of id (ArrayWith array.0 array.1) (array_with array place value) memory.objects e
      (ap (λ (n : ℕ). ArrayShape array.0 n) (length-set array.1 place (narrowed array.0 value)));
  objects_same = same_of_all bare id (ArrayWith array.0 array.1) (array_with array place value) memory.objects e refl;
  rest = refl;
}
  where
    elsewhere :
        (other :
        Location) → (other ≡ ComponentOf id place
        → ⊥) → held_at (with_component_stored id array place value memory) other ≡ held_at memory other
    elsewhere (FieldOf object key) differ =
        seen_of_each (field_of_object key) memory.objects id (ArrayWith array.0 array.1) (array_with array place value) e object
        (λ is. refl)
    elsewhere (ComponentOf number other) differ =
        seen_of_each (component_in other) memory.objects id (ArrayWith array.0 array.1) (array_with array place value) e number
        (λ is.
        set_elsewhere array.1 place other (narrowed array.0 value)
        (λ f. differ (ap (λ (n : ℕ). ComponentOf n other) is ∙ ap (λ (k : ℕ). ComponentOf id k) f)))
    elsewhere (StaticField other) differ = refl
