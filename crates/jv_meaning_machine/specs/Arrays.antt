-- Arrays (JVMS 6.5): of the operands null comes first, then the index, then what is stored; and a negative length before
-- anything is made.
use Rattle.std.specs.Prelude.{ℕ, zero, ◌+◌, ◌*◌, ℤ, pos, negsuc, Bool, true, false, ◌&&◌, nat_le, List, [], ◌∷◌, length, map, replicate, Option, Some, None, Ok, Err, slice_get, slice_set}
use Rattle.std.specs.List.{flat_map, list_any, range_with_len}
use Rattle.jv_text.specs.declared.descriptor.Base.{Base}
use Rattle.jv_text.specs.declared.descriptor.Base.TheVariants as bases
use Rattle.jv_text.specs.declared.descriptor.Element.{Element}
use Rattle.jv_text.specs.declared.descriptor.Element.TheVariants as elements
use Rattle.jv_text.specs.declared.descriptor.FieldTypeOf.{FieldTypeOf}
use Rattle.jv_text.specs.Name.{is_array_name}
use Rattle.jv_text.specs.Types.{field_type_of}
use Rattle.jv_stackmap.specs.declared.verification.VerificationTypeOf.TheVariants as types
use Rattle.jv_stackmap.specs.Types.{component, value_type}
use Rattle.jv_code.specs.declared.kinds.ElementType.{ElementType}
use Rattle.jv_code.specs.declared.kinds.ElementType.TheVariants as element_types
use Rattle.jv_code.specs.declared.kinds.NumberElement.{NumberElement}
use Rattle.jv_code.specs.declared.kinds.NumberElement.TheVariants as numbers
use Rattle.jv_meaning_typing.specs.ClassResolution.{ResolvedClass, resolve_class}
use Rattle.jv_meaning_typing.specs.ClassResolution.ResolvedClass.{ClassOf, ArrayOf}
use Rattle.jv_meaning_typing.specs.FrameChanges.{is_reference}
use Rattle.jv_meaning_typing.specs.NumberRules.{element_number}
use Rattle.jv_meaning_machine.specs.Faults.{OrFault, tested, ◌>>=◌}
use Rattle.jv_meaning_machine.specs.Faults.Fault.{OffsetFault, TagFault, ReferenceFault}
use Rattle.jv_meaning_machine.specs.Values.{Value, narrowed}
use Rattle.jv_meaning_machine.specs.Values.Value.{Int, Null, Reference}
use Rattle.jv_meaning_machine.specs.Objects.{Object, new_array, is_instance_of}
use Rattle.jv_meaning_machine.specs.Objects.Object.{InstanceOf, ArrayWith}
use Rattle.jv_meaning_machine.specs.State.{Memory}
use Rattle.jv_meaning_machine.specs.Costs.{array_cells, arrays_cells, paid, with_objects, next_object}
use Rattle.jv_meaning_machine.specs.Operands.{object_at, taken, taken_as, taken_reference}
use Rattle.jv_meaning_machine.specs.Effects.{Context, Outcome, world_at, site_at, goes_on, goes_on_with, raises, unless_error, class_constant, resolved_type, lacks_memory, null_pointer, array_index, array_store, negative_size}
use Rattle.jv_meaning_machine.specs.Arithmetic.{as_int}
use Rattle.jv_meaning_machine.specs.Fields.{with_object}

-- ---- an array's components

abbrev pub Components : Type 0
Components = FieldTypeOf (List ℕ) × List Value

abbrev pub array_in : Object → OrFault Components
array_in (ArrayWith components values) = Ok (components, values)
array_in (InstanceOf instance) = Err ReferenceFault

-- what an index names, from 0 on
abbrev pub at_place : ℤ → List Value → Option Value
at_place (pos n) values = slice_get values n
at_place (negsuc n) values = None

abbrev pub place_for : ℤ → ℕ
place_for (pos n) = n
place_for (negsuc n) = 0

-- the instruction for numbers of a kind is for these
abbrev pub holds_base : NumberElement → Base → Bool
holds_base numbers.Int bases.Int = true
holds_base numbers.Long bases.Long = true
holds_base numbers.ByteOrBoolean bases.Byte = true
holds_base numbers.ByteOrBoolean bases.Boolean = true
holds_base numbers.Char bases.Char = true
holds_base numbers.Short bases.Short = true
holds_base _ _ = false

abbrev pub holds_by : NumberElement → ℕ → Element (List ℕ) → Bool
holds_by kind zero (elements.Base base) = holds_base kind base
holds_by kind _ _ = false

abbrev pub holds_numbers : NumberElement → FieldTypeOf (List ℕ) → Bool
holds_numbers kind components = holds_by kind components.dimensions components.element

abbrev pub holds_references : FieldTypeOf (List ℕ) → Bool
holds_references components = is_reference (value_type components)

-- ---- loads

-- what stands at an index of an array whose components pass a test
abbrev pub load_at : Context → List Value → Option Value → Outcome
load_at c below None = raises c array_index
load_at c below (Some value) = goes_on c (value ∷ below)

abbrev pub load_from : Context → (FieldTypeOf (List ℕ) → Bool) → ℤ → Value → List Value → Outcome
load_from c test index Null below = raises c null_pointer
load_from c test index (Reference id) below =
    object_at c.memory.objects id >>= array_in >>= λ array. tested ReferenceFault (test array.0) array >>= λ array.
    load_at c below (at_place index array.1)
load_from c test index _ below = Err TagFault

abbrev pub load_component : Context → (FieldTypeOf (List ℕ) → Bool) → Outcome
load_component c test =
    taken_as c.memory.objects types.Int c.frame.stack >>= λ top. as_int top.0 >>= λ index.
    taken_reference c.memory.objects top.1 >>= λ under. load_from c test index under.0 under.1

-- ---- stores

abbrev pub with_component_stored : ℕ → Components → ℕ → Value → Memory → Memory
with_component_stored id array place value memory =
    with_object id (ArrayWith array.0 (slice_set array.1 place (narrowed array.0 value))) memory

abbrev pub store_at : Context → ℕ → Components → ℤ → Value → List Value → Option Value → Outcome
store_at c id array index value below None = raises c array_index
store_at c id array index value below (Some old) =
    goes_on_with c (with_component_stored id array (place_for index) value c.memory) below

abbrev pub store_number : Context → NumberElement → ℤ → Value → Value → List Value → Outcome
store_number c kind index value Null below = raises c null_pointer
store_number c kind index value (Reference id) below =
    object_at c.memory.objects id >>= array_in >>= λ array. tested ReferenceFault (holds_numbers kind array.0) array >>= λ array.
    store_at c id array index value below (at_place index array.1)
store_number c kind index value _ below = Err TagFault

abbrev pub store_component : Context → NumberElement → Outcome
store_component c kind =
    taken_as c.memory.objects (element_number kind) c.frame.stack >>= λ top.
    taken_as c.memory.objects types.Int top.1 >>= λ second. as_int second.0 >>= λ index.
    taken_reference c.memory.objects second.1 >>= λ under. store_number c kind index top.0 under.0 under.1

-- a reference can stand in an array: null, or an object of a class that its components are above
abbrev pub can_stand : Context → FieldTypeOf (List ℕ) → Value → OrFault Bool
can_stand c components Null = Ok true
can_stand c components (Reference id) =
    object_at c.memory.objects id >>= λ object. Ok (is_instance_of (world_at c) object components)
can_stand c components _ = Err TagFault

abbrev pub store_reference_if : Context → ℕ → Components → ℤ → Value → List Value → Bool → Outcome
store_reference_if c id array index value below true =
    goes_on_with c (with_component_stored id array (place_for index) value c.memory) below
store_reference_if c id array index value below false = raises c array_store

abbrev pub store_reference_at : Context → ℕ → Components → ℤ → Value → List Value → Option Value → Outcome
store_reference_at c id array index value below None = raises c array_index
store_reference_at c id array index value below (Some old) =
    can_stand c array.0 value >>= store_reference_if c id array index value below

-- the array, the index and the reference are taken already
abbrev pub store_reference : Context → Value → ℤ → Value → List Value → Outcome
store_reference c Null index value below = raises c null_pointer
store_reference c (Reference id) index value below =
    object_at c.memory.objects id >>= array_in >>= λ array. tested ReferenceFault (holds_references array.0) array >>= λ array.
    store_reference_at c id array index value below (at_place index array.1)
store_reference c _ index value below = Err TagFault

-- ---- arraylength

abbrev pub length_of : Context → Value → List Value → Outcome
length_of c Null below = raises c null_pointer
length_of c (Reference id) below =
    object_at c.memory.objects id >>= array_in >>= λ array. goes_on c (Int (pos (length array.1)) ∷ below)
length_of c _ below = Err TagFault

abbrev pub array_length : Context → Outcome
array_length c = taken_reference c.memory.objects c.frame.stack >>= λ top. length_of c top.0 top.1

-- ---- new arrays

-- how many arrays these counts make
abbrev pub arrays_in : List ℕ → ℕ
arrays_in [] = 0
arrays_in (count ∷ []) = 1
arrays_in (count ∷ more) = 1 + count * arrays_in more

-- the numbers of the arrays in an array with a number, each behind all that the one before it holds
abbrev pub inner_numbers : ℕ → List ℕ → ℕ → List ℕ
inner_numbers count more number = map (λ k. number + 1 + k * arrays_in more) (range_with_len 0 count)

abbrev pub reference_to : ℕ → Value
reference_to number = Reference number

-- The arrays that counts make, the outer one's first, where the next object has a number: each array is followed by those in
-- it, one after the other (own).
abbrev pub arrays_made : FieldTypeOf (List ℕ) → List ℕ → ℕ → List Object
arrays_made components [] number = []
arrays_made components (count ∷ []) number = new_array components count ∷ []
arrays_made components (count ∷ more) number =
    ArrayWith components (map reference_to (inner_numbers count more number))
    ∷ flat_map (λ inner. arrays_made (component components) more inner) (inner_numbers count more number)

-- Where the cells were paid, the arrays that counts make join the objects, and the outer one is pushed. The innermost that are
-- made have components of their first value.
abbrev pub push_arrays : Context → FieldTypeOf (List ℕ) → List ℕ → List Value → Option Memory → Outcome
push_arrays c components counts below None = lacks_memory c
push_arrays c components counts below (Some memory) =
    goes_on_with c (with_objects (arrays_made components counts (next_object memory)) memory)
    (Reference (next_object memory) ∷ below)

abbrev pub make_array : Context → FieldTypeOf (List ℕ) → ℤ → List Value → Outcome
make_array c components (negsuc n) below = raises c negative_size
make_array c components (pos count) below =
    push_arrays c components (count ∷ []) below (paid (array_cells components count) c.memory)

abbrev pub base_of : ElementType → Base
base_of element_types.Boolean = bases.Boolean
base_of element_types.Char = bases.Char
base_of element_types.Byte = bases.Byte
base_of element_types.Short = bases.Short
base_of element_types.Int = bases.Int
base_of element_types.Long = bases.Long

abbrev pub base_components : Base → FieldTypeOf (List ℕ)
base_components base = record { dimensions = 0; element = elements.Base base }

abbrev pub new_reference_array : Context → ℕ → Outcome
new_reference_array c index =
    class_constant c index >>= λ text.
    unless_error c (resolve_class (world_at c) (site_at c) None text) (λ resolved.
    taken_as c.memory.objects types.Int c.frame.stack >>= λ top. as_int top.0 >>= λ count.
    make_array c (resolved_type resolved) count top.1)

-- ---- arrays of arrays (multianewarray)

abbrev pub is_negative_count : Value → Bool
is_negative_count (Int (negsuc n)) = true
is_negative_count _ = false

abbrev pub count_of : Value → ℕ
count_of (Int (pos n)) = n
count_of _ = 0

-- every count is tested for a negative number first, and all arrays are paid at once
abbrev pub make_arrays_if : Context → FieldTypeOf (List ℕ) → List Value → List Value → Bool → Outcome
make_arrays_if c components counts below true = raises c negative_size
make_arrays_if c components counts below false =
    push_arrays c components (map count_of counts) below (paid (arrays_cells components (map count_of counts)) c.memory)

abbrev pub make_arrays : Context → FieldTypeOf (List ℕ) → List Value → List Value → Outcome
make_arrays c components counts below = make_arrays_if c components counts below (list_any is_negative_count counts)

-- a text names an array of at least as many dimensions as there are counts
abbrev pub has_dimensions : ℕ → Option (FieldTypeOf (List ℕ)) → Bool
has_dimensions dimensions None = false
has_dimensions dimensions (Some type) = nat_le dimensions type.dimensions

abbrev pub names_array : ℕ → List ℕ → Bool
names_array dimensions text = is_array_name text && has_dimensions dimensions (field_type_of text)

-- its type
abbrev pub array_resolved : ResolvedClass → OrFault (FieldTypeOf (List ℕ))
array_resolved (ClassOf l) = Err OffsetFault
array_resolved (ArrayOf type) = Ok type

abbrev pub new_multi_array : Context → ℕ → ℕ → Outcome
new_multi_array c index dimensions =
    class_constant c index >>= λ text. tested OffsetFault (names_array dimensions text) text >>= λ text.
    unless_error c (resolve_class (world_at c) (site_at c) None text) (λ resolved.
    array_resolved resolved >>= λ type.
    taken c.memory.objects (replicate dimensions types.Int) c.frame.stack >>= λ counts.
    make_arrays c (component type) counts.0 counts.1)
