-- Fields (JVMS 6.5: getstatic, putstatic, getfield, putfield): resolution comes first, then the initialization of the class that
-- declares a static field, and then the operands.
use Rattle.std.specs.Prelude.{ℕ, Bool, false, ◌&&◌, ◌||◌, ◌==◌, List, ◌∷◌, is_some, Option, Some, None, Ok, Err, slice_set}
use Rattle.std.specs.Str.{bytes_eq}
use Rattle.jv_text.specs.declared.descriptor.FieldTypeOf.{FieldTypeOf}
use Rattle.jv_text.specs.Name.{is_init}
use Rattle.jv_text.specs.Types.{field_type_of}
use Rattle.jv_stackmap.specs.Types.{value_type}
use Rattle.jv_code.specs.declared.kinds.FieldAccess.{FieldAccess}
use Rattle.jv_code.specs.declared.kinds.FieldAccess.TheVariants as access
use Rattle.jv_pool.specs.Constants.{MemberReference}
use Rattle.jv_meaning_world.specs.LookUps.{DeclaredField}
use Rattle.jv_meaning_typing.specs.Uses.{Use}
use Rattle.jv_meaning_typing.specs.Uses.Use.{Getstatic, Putstatic, Getfield, Putfield}
use Rattle.jv_meaning_typing.specs.Operands.{field_operand}
use Rattle.jv_meaning_typing.specs.FieldResolution.{resolve_field}
use Rattle.jv_meaning_typing.specs.Environment.{current_class}
use Rattle.jv_meaning_machine.specs.Faults.{OrFault, found, tested, ◌>>=◌}
use Rattle.jv_meaning_machine.specs.Faults.Fault.{OffsetFault, TagFault, ReferenceFault, ConstructionFault}
use Rattle.jv_meaning_machine.specs.Values.{Value, narrowed}
use Rattle.jv_meaning_machine.specs.Values.Value.{Null, Reference}
use Rattle.jv_meaning_machine.specs.Objects.{FieldKey, key_of, value_at, with_value, Instance, Object}
use Rattle.jv_meaning_machine.specs.Objects.Object.{InstanceOf, ArrayWith}
use Rattle.jv_meaning_machine.specs.State.{Memory}
use Rattle.jv_meaning_machine.specs.Operands.{object_at, popped_reference, taken_as, taken_reference}
use Rattle.jv_meaning_machine.specs.Effects.{Context, Outcome, world_at, method_at, site_at, goes_on, goes_on_with, raises, unless_error, once_initialized, null_pointer}

-- the type of a field
abbrev pub described : List ℕ → OrFault (FieldTypeOf (List ℕ))
described descriptor = found OffsetFault (field_type_of descriptor)

-- ---- static fields

abbrev pub get_static : Context → DeclaredField → Outcome
get_static c d = found OffsetFault (value_at (key_of d) c.memory.statics) >>= λ value. goes_on c (value ∷ c.frame.stack)

abbrev pub with_static : FieldKey → Value → Memory → Memory
with_static key value memory = record memory { statics = with_value key value memory.statics }

abbrev pub put_static : Context → DeclaredField → Outcome
put_static c d =
    described d.field.descriptor >>= λ type. taken_as c.memory.objects (value_type type) c.frame.stack >>= λ top.
    found OffsetFault (value_at (key_of d) c.memory.statics) >>= λ old.
    goes_on_with c (with_static (key_of d) (narrowed type top.0) c.memory) top.1

-- ---- fields of objects

abbrev pub instance_in : Object → OrFault Instance
instance_in (InstanceOf instance) = Ok instance
instance_in (ArrayWith components values) = Err ReferenceFault

abbrev pub get_field_of : Context → DeclaredField → Value → List Value → Outcome
get_field_of c d Null below = raises c null_pointer
get_field_of c d (Reference id) below =
    object_at c.memory.objects id >>= instance_in >>= λ instance.
    found ReferenceFault (value_at (key_of d) instance.fields) >>= λ value. goes_on c (value ∷ below)
get_field_of c d _ below = Err TagFault

abbrev pub get_field : Context → DeclaredField → Outcome
get_field c d = taken_reference c.memory.objects c.frame.stack >>= λ top. get_field_of c d top.0 top.1

-- in an `<init>`, a field by way of the current class can be stored to on its receiver, whether that is constructed or not
abbrev pub is_receiver : Option ℕ → ℕ → Bool
is_receiver None id = false
is_receiver (Some receiver) id = receiver == id

abbrev pub can_be_set : Context → MemberReference → ℕ → Instance → Bool
can_be_set c reference id instance =
    instance.constructed
    || (is_init (site_at c).method.name && is_receiver c.frame.receiver id && bytes_eq reference.class (site_at c).by.class.name)

abbrev pub with_object : ℕ → Object → Memory → Memory
with_object id object memory = record memory { objects = slice_set memory.objects id object }

abbrev pub with_field_value : FieldKey → Value → Instance → Object
with_field_value key value instance = InstanceOf (record instance { fields = with_value key value instance.fields })

abbrev pub put_field_of : Context → MemberReference → DeclaredField → Value → Value → List Value → Outcome
put_field_of c reference d Null value below = raises c null_pointer
put_field_of c reference d (Reference id) value below =
    object_at c.memory.objects id >>= instance_in >>= λ instance.
    tested ConstructionFault (can_be_set c reference id instance) instance >>= λ instance.
    tested ReferenceFault (is_some (value_at (key_of d) instance.fields)) instance >>= λ instance.
    goes_on_with c (with_object id (with_field_value (key_of d) value instance) c.memory) below
put_field_of c reference d _ value below = Err TagFault

abbrev pub put_field : Context → MemberReference → DeclaredField → Outcome
put_field c reference d =
    described d.field.descriptor >>= λ type. taken_as c.memory.objects (value_type type) c.frame.stack >>= λ top.
    popped_reference top.1 >>= λ under. put_field_of c reference d under.0 (narrowed type top.0) under.1

-- ---- all four

abbrev pub access_field : Context → FieldAccess → MemberReference → DeclaredField → Outcome
access_field c access.GetStatic reference d = once_initialized c d.by (get_static c d)
access_field c access.PutStatic reference d = once_initialized c d.by (put_static c d)
access_field c access.GetField reference d = get_field c d
access_field c access.PutField reference d = put_field c reference d

abbrev pub use_for : FieldAccess → Use
use_for access.GetStatic = Getstatic
use_for access.PutStatic = Putstatic
use_for access.GetField = Getfield
use_for access.PutField = Putfield

abbrev pub use_field : Context → FieldAccess → ℕ → Outcome
use_field c how index =
    found OffsetFault (field_operand (current_class (method_at c)) index) >>= λ reference.
    unless_error c (resolve_field (world_at c) (site_at c) (use_for how) reference) (access_field c how reference)
