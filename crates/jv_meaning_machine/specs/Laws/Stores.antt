-- Laws of stores: an instruction that stores changes one location, the one that it names, and nothing else (JVMS 6.5: putstatic,
-- putfield, and stores to arrays).
use Rattle.std.specs.Prelude.{◌≡◌, ℕ, ℤ, pos, Bool, true, false, List, ◌∷◌, ◌⊎◌, Some, None, Ok, Err, IsSome, slice_get}
use Rattle.jv_text.specs.declared.descriptor.FieldTypeOf.{FieldTypeOf}
use Rattle.jv_text.specs.Types.{field_type_of}
use Rattle.jv_code.specs.Insns.{Instruction}
use Rattle.jv_code.specs.declared.insn.Insn.TheVariants as insns
use Rattle.jv_code.specs.declared.kinds.FieldAccess.{FieldAccess}
use Rattle.jv_code.specs.declared.kinds.FieldAccess.TheVariants as access
use Rattle.jv_code.specs.declared.kinds.NumberElement.{NumberElement}
use Rattle.jv_pool.specs.Constants.{MemberReference}
use Rattle.jv_meaning_world.specs.LookUps.{DeclaredField}
use Rattle.jv_meaning_typing.specs.LinkErrors.{LinkError, error_class}
use Rattle.jv_meaning_typing.specs.Operands.{field_operand}
use Rattle.jv_meaning_typing.specs.FieldResolution.{resolve_field}
use Rattle.jv_meaning_typing.specs.Environment.{current_class}
use Rattle.jv_meaning_machine.specs.Values.{Value, narrowed}
use Rattle.jv_meaning_machine.specs.Values.Value.{Int, Null, Reference}
use Rattle.jv_meaning_machine.specs.Objects.{FieldKey, Content, Instance, key_of, value_at, with_value}
use Rattle.jv_meaning_machine.specs.Objects.Object.{InstanceOf, ArrayWith}
use Rattle.jv_meaning_machine.specs.State.{Memory, class_state, is_ready}
use Rattle.jv_meaning_machine.specs.Effects.{Effect, Context, world_at, method_at, site_at, null_pointer, array_index, array_store}
use Rattle.jv_meaning_machine.specs.Effects.Effect.{Goes, Raises, Begins}
use Rattle.jv_meaning_machine.specs.Fields.{use_for, can_be_set}
use Rattle.jv_meaning_machine.specs.Arrays.{at_place, holds_numbers, holds_references, can_stand}
use Rattle.jv_meaning_machine.specs.Instructions.{execute}
use Rattle.jv_meaning_machine.specs.Laws.Kept.{LeavesAll}
use Rattle.jv_meaning_machine.specs.Laws.Locations.{Location, held_at, StoresAt}
use Rattle.jv_meaning_machine.specs.Laws.Locations.Location.{FieldOf, ComponentOf, StaticField}

-- ---- one field among others

-- What was stored in a field is there.
abbrev pub StoredIsThere : Type 0
StoredIsThere =
    (key : FieldKey) (value : Value) (content : Content) → IsSome (value_at key content)
    → value_at key (with_value key value content) ≡ Some value

-- The other fields hold what they held.
abbrev pub OtherFieldsStay : Type 0
OtherFieldsStay =
    (key other : FieldKey) (value : Value) (content : Content) → (other ≡ key → ⊥)
    → value_at other (with_value key value content) ≡ value_at other content

-- ---- what the instructions name

-- the field to which the index of an instruction resolves
pub record NamesField (c : Context) (how : FieldAccess) (index : ℕ) (d : DeclaredField) : Type 0 where
  pub reference : MemberReference
  pub operand : field_operand (current_class (method_at c)) index ≡ Some reference
  pub resolved : resolve_field (world_at c) (site_at c) (use_for how) reference ≡ Ok d

-- ---- what comes before a store to a field, and leaves the memory as it is

-- the index resolves to no field, and the error is thrown
pub record ThrowsLinkError (c : Context) (how : FieldAccess) (index : ℕ) (effect : Effect) : Type 0 where
  pub reference : MemberReference
  pub operand : field_operand (current_class (method_at c)) index ≡ Some reference
  pub error : LinkError
  pub unresolved : resolve_field (world_at c) (site_at c) (use_for how) reference ≡ Err error
  pub throws : effect ≡ Raises (error_class error)

-- the field's class is neither initialized nor being initialized, and that is begun
pub record BeginsFirst (c : Context) (d : DeclaredField) (effect : Effect) : Type 0 where
  pub not_ready : is_ready (class_state c.states d.by) ≡ false
  pub begins : effect ≡ Begins d.by

-- there is null where the object is to be
pub record PutsToNull (c : Context) (effect : Effect) : Type 0 where
  pub value : Value
  pub below : List Value
  pub stack : c.frame.stack ≡ value ∷ Null ∷ below
  pub throws : effect ≡ Raises null_pointer

-- ---- what comes before a store to an array, and leaves the memory as it is

-- there is null where the array is to be
pub record StoresToNull (c : Context) (effect : Effect) : Type 0 where
  pub value : Value
  pub index : ℤ
  pub below : List Value
  pub stack : c.frame.stack ≡ value ∷ Int index ∷ Null ∷ below
  pub throws : effect ≡ Raises null_pointer

-- the array has no component at the index
pub record StoresOutside (c : Context) (effect : Effect) : Type 0 where
  pub value : Value
  pub index : ℤ
  pub array : ℕ
  pub below : List Value
  pub stack : c.frame.stack ≡ value ∷ Int index ∷ Reference array ∷ below
  pub components : FieldTypeOf (List ℕ)
  pub values : List Value
  pub array_is : slice_get c.memory.objects array ≡ Some (ArrayWith components values)
  pub outside : at_place index values ≡ None
  pub throws : effect ≡ Raises array_index

-- it has one, but the reference can't stand in the array
pub record StoresStranger (c : Context) (effect : Effect) : Type 0 where
  pub value : Value
  pub place : ℕ
  pub array : ℕ
  pub below : List Value
  pub stack : c.frame.stack ≡ value ∷ Int (pos place) ∷ Reference array ∷ below
  pub components : FieldTypeOf (List ℕ)
  pub values : List Value
  pub array_is : slice_get c.memory.objects array ≡ Some (ArrayWith components values)
  pub within : IsSome (slice_get values place)
  pub stranger : can_stand c components value ≡ Ok false
  pub throws : effect ≡ Raises array_store

-- ---- stores, behind which the next instruction follows, with what is left of the stack

-- The value on top of the stack, narrowed to the field's type, is stored in a static field, which is there.
pub record PutsStatic (c : Context) (d : DeclaredField) (after : Memory) (effect : Effect) : Type 0 where
  pub ready : is_ready (class_state c.states d.by) ≡ true
  pub value : Value
  pub below : List Value
  pub stack : c.frame.stack ≡ value ∷ below
  pub type : FieldTypeOf (List ℕ)
  pub described : field_type_of d.field.descriptor ≡ Some type
  pub there : IsSome (held_at c.memory (StaticField (key_of d)))
  pub stores : StoresAt c.memory after (StaticField (key_of d)) (narrowed type value)
  pub goes : effect ≡ Goes c.next c.frame.locals below

-- Or in the field of the object below it, which can be stored to.
pub record PutsField (c : Context) (reference : MemberReference) (d : DeclaredField) (after : Memory) (effect : Effect) : Type 0 where
  pub value : Value
  pub object : ℕ
  pub below : List Value
  pub stack : c.frame.stack ≡ value ∷ Reference object ∷ below
  pub instance : Instance
  pub object_is : slice_get c.memory.objects object ≡ Some (InstanceOf instance)
  pub can_be : can_be_set c reference object instance ≡ true
  pub type : FieldTypeOf (List ℕ)
  pub described : field_type_of d.field.descriptor ≡ Some type
  pub there : IsSome (held_at c.memory (FieldOf object (key_of d)))
  pub stores : StoresAt c.memory after (FieldOf object (key_of d)) (narrowed type value)
  pub goes : effect ≡ Goes c.next c.frame.locals below

-- Or in a component of the array below the index, narrowed to the type of that array's components, which pass a test.
pub record PutsComponent (c : Context) (test : FieldTypeOf (List ℕ) → Bool) (after : Memory) (effect : Effect) : Type 0 where
  pub value : Value
  pub place : ℕ
  pub array : ℕ
  pub below : List Value
  pub stack : c.frame.stack ≡ value ∷ Int (pos place) ∷ Reference array ∷ below
  pub components : FieldTypeOf (List ℕ)
  pub values : List Value
  pub array_is : slice_get c.memory.objects array ≡ Some (ArrayWith components values)
  pub passes : test components ≡ true
  pub there : IsSome (held_at c.memory (ComponentOf array place))
  pub stores : StoresAt c.memory after (ComponentOf array place) (narrowed components value)
  pub goes : effect ≡ Goes c.next c.frame.locals below

-- ---- the instructions: for a reason that is named they throw or begin an initialization and leave the memory as it is, or
-- they store and go on

-- putstatic
abbrev pub PutstaticStores : Type 0
PutstaticStores =
    (c : Context) (index : ℕ) (after : Memory) (effect : Effect) → execute c (insns.Field access.PutStatic index) ≡ Ok (after, effect)
    → ((after ≡ c.memory) × ThrowsLinkError c access.PutStatic index effect)
    ⊎ (d : DeclaredField) × NamesField c access.PutStatic index d
    × (((after ≡ c.memory) × BeginsFirst c d effect) ⊎ PutsStatic c d after effect)

-- putfield
abbrev pub PutfieldStores : Type 0
PutfieldStores =
    (c : Context) (index : ℕ) (after : Memory) (effect : Effect) → execute c (insns.Field access.PutField index) ≡ Ok (after, effect)
    → ((after ≡ c.memory) × ThrowsLinkError c access.PutField index effect)
    ⊎ (d : DeclaredField) × (names : NamesField c access.PutField index d)
    × (((after ≡ c.memory) × PutsToNull c effect) ⊎ PutsField c names.reference d after effect)

-- iastore and its kin
abbrev pub ArrayStoreStores : Type 0
ArrayStoreStores =
    (c : Context) (kind : NumberElement) (after : Memory) (effect : Effect) → execute c (insns.ArrayStore kind) ≡ Ok (after, effect)
    → ((after ≡ c.memory) × (StoresToNull c effect ⊎ StoresOutside c effect)) ⊎ PutsComponent c (holds_numbers kind) after effect

-- aastore, of null, or of an object of a class that the array's components are above
abbrev pub ReferenceArrayStoreStores : Type 0
ReferenceArrayStoreStores =
    (c : Context) (after : Memory) (effect : Effect) → execute c insns.ReferenceArrayStore ≡ Ok (after, effect)
    → ((after ≡ c.memory) × (StoresToNull c effect ⊎ StoresOutside c effect ⊎ StoresStranger c effect))
    ⊎ (put : PutsComponent c holds_references after effect) × (can_stand c put.components put.value ≡ Ok true)

-- ---- all others

abbrev pub stores_field : FieldAccess → Bool
stores_field access.GetStatic = false
stores_field access.PutStatic = true
stores_field access.GetField = false
stores_field access.PutField = true

-- the instructions that store, of which those above are all
abbrev pub is_store : Instruction → Bool
is_store (insns.Field how index) = stores_field how
is_store (insns.ArrayStore kind) = true
is_store insns.ReferenceArrayStore = true
is_store _ = false

-- Any other instruction leaves each object and each static field as it is; new objects stand behind the others.
abbrev pub OthersLeaveAll : Type 0
OthersLeaveAll =
    (c : Context) (insn : Instruction) (after : Memory) (effect : Effect) → is_store insn ≡ false → execute c insn ≡ Ok (after, effect)
    → LeavesAll c.memory after

-- So it changes no location that there is.
abbrev pub OthersStoreNothing : Type 0
OthersStoreNothing =
    (c : Context) (insn : Instruction) (after : Memory) (effect : Effect) → is_store insn ≡ false → execute c insn ≡ Ok (after, effect)
    → (location : Location) → IsSome (held_at c.memory location) → held_at after location ≡ held_at c.memory location
