-- What values are of a type (JVMS 2.3, 2.4, 4.10.1.2): in any frame, and in one frame at one moment, where objects that are not
-- constructed have types too (4.10.1.9).
use Rattle.std.specs.Prelude.{◌≡◌, ⊤, ℕ, Bool, true, false, List, [], ◌∷◌, Option, Some, None, IsTrue, slice_get}
use Rattle.jv_text.specs.declared.descriptor.FieldTypeOf.{FieldTypeOf}
use Rattle.jv_text.specs.Name.{is_init}
use Rattle.jv_text.specs.Types.{field_type_of}
use Rattle.jv_stackmap.specs.declared.verification.VerificationTypeOf.TheVariants as types
use Rattle.jv_stackmap.specs.declared.width.Width.{Width}
use Rattle.jv_stackmap.specs.declared.width.Width.TheVariants.{One, Two}
use Rattle.jv_stackmap.specs.Types.{FrameType, value_type}
use Rattle.jv_meaning_world.specs.World.{World}
use Rattle.jv_meaning_world.specs.Laws.Order.{IsBelow}
use Rattle.jv_meaning_typing.specs.Environment.{Environment, current_class, instruction_at}
use Rattle.jv_meaning_typing.specs.MemberRules.{class_of_new}
use Rattle.jv_meaning_typing.specs.Named.{current_type}
use Rattle.jv_meaning_machine.specs.Values.{Value, value_width}
use Rattle.jv_meaning_machine.specs.Values.Value.{Int, Long, Null, Reference, Half}
use Rattle.jv_meaning_machine.specs.Objects.{FieldKey, Instance, Object, is_constructed, type_of_object}
use Rattle.jv_meaning_machine.specs.Objects.Object.{InstanceOf}

-- ---- in any frame

-- two lists, item by item
abbrev pub Zip : {A B : Type 0} → (A → B → Type 0) → List A → List B → Type 0
Zip R [] [] = ⊤
Zip R (a ∷ more) (b ∷ others) = R a b × Zip R more others
Zip R _ _ = ⊥

-- the verification type of an object's own class, or of an array
abbrev pub object_type : Object → FrameType
object_type object = value_type (type_of_object object)

-- a number is that of a constructed object, whose type is below another with interfaces erased
pub record IsObject (world : World) (objects : List Object) (type : FrameType) (id : ℕ) : Type 0 where
  pub object : Object
  pub there : slice_get objects id ≡ Some object
  pub constructed : is_constructed object ≡ true
  pub below : IsBelow world (object_type object) type

abbrev pub IsReferenceTo : World → List Object → FrameType → Value → Type 0
IsReferenceTo world objects type Null = ⊤
IsReferenceTo world objects type (Reference id) = IsObject world objects type id
IsReferenceTo world objects type _ = ⊥

abbrev pub IsInt : Value → Type 0
IsInt (Int number) = ⊤
IsInt _ = ⊥

abbrev pub IsLong : Value → Type 0
IsLong (Long number) = ⊤
IsLong _ = ⊥

-- a value of a type; none is of an object that is not constructed
abbrev pub Fits : World → List Object → FrameType → Value → Type 0
Fits world objects types.Top value = ⊤
Fits world objects types.Int value = IsInt value
Fits world objects types.Long value = IsLong value
Fits world objects types.Null value = value ≡ Null
Fits world objects (types.Class name) value = IsReferenceTo world objects (types.Class name) value
Fits world objects (types.Array components) value = IsReferenceTo world objects (types.Array components) value
Fits world objects types.UninitializedThis value = ⊥
Fits world objects (types.Uninitialized offset) value = ⊥

-- of the type that a descriptor says; what says none is not looked at
abbrev pub FitsDescribed : World → List Object → Option (FieldTypeOf (List ℕ)) → Value → Type 0
FitsDescribed world objects None value = ⊤
FitsDescribed world objects (Some type) value = Fits world objects (value_type type) value

-- what a field, static or of an object, holds is of its own descriptor's type
abbrev pub FitsEntry : World → List Object → FieldKey × Value → Type 0
FitsEntry world objects entry = FitsDescribed world objects (field_type_of entry.0.descriptor) entry.1

-- ---- in one frame

-- The objects, with what the machine does not keep (own): how many frames are below the one that an object under
-- construction belongs to, and the offset of the `new` that made it.
pub record Heap : Type 0 where
  pub objects : List Object
  pub owner : ℕ → ℕ
  pub born : ℕ → ℕ

-- a frame at a moment: the heap, how many frames are below it, its method, its receiver if it has one, and for each offset
-- the object that was last made there in this frame
pub record Place : Type 0 where
  pub heap : Heap
  pub depth : ℕ
  pub method : Environment
  pub receiver : Option ℕ
  pub made : ℕ → ℕ

-- the object that the `new` at an offset made last in this frame, on which no `<init>` was entered yet
pub record IsFresh (p : Place) (offset : ℕ) (value : Value) : Type 0 where
  pub is : value ≡ Reference (p.made offset)
  pub instance : Instance
  pub there : slice_get p.heap.objects (p.made offset) ≡ Some (InstanceOf instance)
  pub raw : instance.constructed ≡ false
  pub none : instance.entered ≡ None
  pub new : class_of_new p.method (instruction_at p.method offset) ≡ Some instance.class
  pub owner : p.heap.owner (p.made offset) ≡ p.depth
  pub born : p.heap.born (p.made offset) ≡ offset

-- the receiver of an `<init>`, which has not called another one on it
pub record IsThis (p : Place) (value : Value) : Type 0 where
  pub number : ℕ
  pub is : value ≡ Reference number
  pub receiver : p.receiver ≡ Some number
  pub instance : Instance
  pub there : slice_get p.heap.objects number ≡ Some (InstanceOf instance)
  pub raw : instance.constructed ≡ false
  pub constructor : IsTrue (is_init p.method.site.method.name)
  pub entered : instance.entered ≡ Some (current_class p.method).name
  pub below : IsBelow p.method.world (types.Class instance.class) (current_type p.method)
  pub owner : p.heap.owner number ≡ p.depth

abbrev pub FitsIn : Place → FrameType → Value → Type 0
FitsIn p (types.Uninitialized offset) value = IsFresh p offset value
FitsIn p types.UninitializedThis value = IsThis p value
FitsIn p types.Top value = ⊤
FitsIn p types.Int value = IsInt value
FitsIn p types.Long value = IsLong value
FitsIn p types.Null value = value ≡ Null
FitsIn p (types.Class name) value = IsReferenceTo p.method.world p.heap.objects (types.Class name) value
FitsIn p (types.Array components) value = IsReferenceTo p.method.world p.heap.objects (types.Array components) value

-- an item of a stack has the width of its type, top that of one word
abbrev pub type_width : FrameType → Width
type_width types.Long = Two
type_width _ = One

pub record Item (p : Place) (type : FrameType) (value : Value) : Type 0 where
  pub fits : FitsIn p type value
  pub width : value_width value ≡ Some (type_width type)

abbrev pub HasStack : Place → List FrameType → List Value → Type 0
HasStack p = Zip (Item p)

-- behind a long in the local variables stands its other half
abbrev pub BeginsHalf : List Value → Type 0
BeginsHalf (Half ∷ more) = ⊤
BeginsHalf _ = ⊥

abbrev pub IsPaired : FrameType → List Value → Type 0
IsPaired types.Long behind = BeginsHalf behind
IsPaired _ behind = ⊤

abbrev pub HasLocals : Place → List FrameType → List Value → Type 0
HasLocals p [] [] = ⊤
HasLocals p (type ∷ more) (value ∷ behind) = FitsIn p type value × IsPaired type behind × HasLocals p more behind
HasLocals p _ _ = ⊥

-- an `<init>` has a receiver, which is constructed once it has called another one
abbrev pub IsReady : Place → Bool → Type 0
IsReady p flag =
    IsTrue (is_init p.method.site.method.name)
    → (number : ℕ) × (p.receiver ≡ Some number) × (flag ≡ false → IsObject p.method.world p.heap.objects (current_type p.method) number)
