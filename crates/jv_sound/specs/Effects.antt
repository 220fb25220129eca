-- What an instruction may do in a frame of its types (JVMS 2.11, 4.10.1.6): each effect as the frames' part of soundness needs it.
use Rattle.std.specs.Prelude.{◌≡◌, ℕ, suc, codes, true, false, List, [], ◌++◌, map, Option, Some, None, IsTrue, ◌==◌, slice_get, slice_set, if◌then◌else◌}
use Rattle.std.specs.List.{Contains}
use Rattle.jv_text.specs.Descriptor.{MethodDescriptor}
use Rattle.jv_text.specs.Name.{is_init}
use Rattle.jv_text.specs.Types.{method_type_of}
use Rattle.jv_stackmap.specs.declared.verification.VerificationTypeOf.TheVariants as types
use Rattle.jv_stackmap.specs.Types.{value_type}
use Rattle.jv_stackmap.specs.Frames.{Frame as TypesOf}
use Rattle.jv_code.specs.Insns.{Instruction}
use Rattle.jv_code.specs.Successors.{falls_through}
use Rattle.jv_sound.specs.Following.{IsSuccessor}
use Rattle.jv_meaning_world.specs.World.{Loaded, World, class_named}
use Rattle.jv_meaning_world.specs.Overriding.{Declared}
use Rattle.jv_meaning_typing.specs.Kind.{is_static_method}
use Rattle.jv_meaning_world.specs.Laws.Order.{IsBelow}
use Rattle.jv_meaning_typing.specs.Named.{class_type, current_type, throwable_type}
use Rattle.jv_meaning_typing.specs.Rule.{handler_frame}
use Rattle.jv_meaning_machine.specs.Objects.{Instance}
use Rattle.jv_meaning_machine.specs.Objects.Object.{InstanceOf}
use Rattle.jv_meaning_machine.specs.Values.{Value}
use Rattle.jv_meaning_machine.specs.Frames.{MethodFrame}
use Rattle.jv_meaning_machine.specs.State.{Program, Memory}
use Rattle.jv_meaning_machine.specs.Effects.{Effect}
use Rattle.jv_meaning_machine.specs.Effects.Effect.{Goes, Enters, Constructs, Leaves, Throws, Raises, Begins}
use Rattle.jv_meaning_machine.specs.Entering.{entered_on}
use Rattle.jv_sound.specs.Values.{Zip, Heap, Place, Fits, IsObject, HasLocals}
use Rattle.jv_sound.specs.Memory.{IsTypedMemory}
use Rattle.jv_sound.specs.Later.{IsLater}
use Rattle.jv_sound.specs.Sound.{IsEnterable}
use Rattle.jv_sound.specs.Frames.{Holding, IsResult}

-- what is thrown where the words of a frame are not left
abbrev pub stack_overflow : List ℕ
stack_overflow = codes "java/lang/StackOverflowError"

-- a class of the system whose objects are thrown
pub record IsThrown (world : World) (name : List ℕ) : Type 0 where
  pub l : Loaded
  pub named : class_named world name ≡ Some l
  pub by_system : IsTrue l.by_system
  pub below : IsBelow world (types.Class l.class.name) throwable_type

-- the same place with another heap, and other objects made
abbrev pub after : Place → Heap → (ℕ → ℕ) → Place
after p heap made = record p { heap = heap; made = made }

-- what is passed to a method, in a heap
pub record ArePassed (program : Program) (heap : Heap) (d : Declared) (receiver : Option ℕ) (arguments : List Value) : Type 0 where
  pub descriptor : MethodDescriptor
  pub described : method_type_of d.method.descriptor ≡ Some descriptor
  pub fit : Zip (Fits program.world heap.objects) (map value_type descriptor.parameters) arguments

-- a receiver, exactly where the method is not static: it is of the class that declares the method
abbrev pub IsReceiver : Program → Heap → Declared → Option ℕ → Type 0
IsReceiver program heap d None = is_static_method d.method ≡ true
IsReceiver program heap d (Some id) = (is_static_method d.method ≡ false)
    × IsObject program.world heap.objects (class_type d.by.class.name) id

-- an object of the frame, on which the `<init>` of its class or of one above it is entered
pub record IsUnderConstruction (program : Program) (p : Place) (heap : Heap) (d : Declared) (object : ℕ)
    (instance : Instance) : Type 0 where
  pub there : slice_get heap.objects object ≡ Some (InstanceOf instance)
  pub raw : instance.constructed ≡ false
  pub owner : heap.owner object ≡ p.depth
  pub below : IsBelow program.world (types.Class instance.class) (class_type d.by.class.name)

-- the heap once it is entered: the object belongs to the `<init>`'s frame
abbrev pub begun_on : Heap → Declared → ℕ → Instance → ℕ → Heap
begun_on heap d object instance depth = record heap {
  objects = slice_set heap.objects object (entered_on d instance);
  owner = λ id. if id == object then depth else heap.owner id;
}

-- The instruction stood behind the types t, and g are those that its rule gives.
abbrev pub IsEffect : Program → Place → MethodFrame → Instruction → TypesOf → TypesOf → Heap → (ℕ → ℕ) → Effect → Type 0
IsEffect program p frame insn t g heap made (Goes to locals stack) = IsSuccessor frame.offset insn to
    × Holding (after p heap made) g locals stack
IsEffect program p frame insn t g heap made (Enters d receiver arguments stack) =
    IsEnterable program d × IsTrue (falls_through insn) × (is_init d.method.name ≡ false) × IsReceiver program heap d receiver
    × (passed : ArePassed program heap d receiver arguments)
    × HasLocals (after p heap made) (handler_frame frame.method insn t).locals frame.locals
    × ((later : Heap) (values : List Value) → IsLater (suc p.depth) heap later
    → IsResult program.world later.objects passed.descriptor.result values
    → Holding (after p later made) g frame.locals (values ++ stack))
IsEffect program p frame insn t g heap made (Constructs d object instance arguments stack) =
    IsEnterable program d × IsTrue (falls_through insn) × IsTrue (is_init d.method.name) × ArePassed program heap d (Some object) arguments
    × IsUnderConstruction program p heap d object instance
    × HasLocals (after p heap made) (handler_frame frame.method insn t).locals frame.locals
    × HasLocals (after p (begun_on heap d object instance (suc p.depth)) made) (handler_frame frame.method insn t).locals frame.locals
    × ((later : Heap) → IsLater (suc p.depth) (begun_on heap d object instance (suc p.depth)) later
    → IsObject program.world later.objects (class_type d.by.class.name) object
    → Holding (after p later made) g frame.locals stack)
IsEffect program p frame insn t g heap made (Leaves values) =
    (IsTrue (is_init frame.method.site.method.name)
    → (values ≡ []) × (number : ℕ) × (p.receiver ≡ Some number) × IsObject program.world heap.objects (current_type frame.method) number)
    × (is_init frame.method.site.method.name ≡ false → IsResult program.world heap.objects frame.method.descriptor.result values)
IsEffect program p frame insn t g heap made (Throws object) =
    IsObject program.world heap.objects throwable_type object × HasLocals (after p heap made)
    (handler_frame frame.method insn t).locals frame.locals
IsEffect program p frame insn t g heap made (Raises class) =
    IsThrown program.world class × HasLocals (after p heap made) (handler_frame frame.method insn t).locals frame.locals
-- nothing has changed: the instruction is done again
IsEffect program p frame insn t g heap made (Begins l) =
    Contains program.world l × (heap ≡ p.heap) × (made ≡ p.made) × HasLocals p (handler_frame frame.method insn t).locals frame.locals

pub record AreEffects (program : Program) (p : Place) (frame : MethodFrame) (insn : Instruction) (t g : TypesOf) (out : Memory
    × Effect) : Type 0 where
  pub heap : Heap
  pub is : heap.objects ≡ out.0.objects
  pub made : ℕ → ℕ
  pub grows : IsLater p.depth p.heap heap
  pub memory : IsTypedMemory program out.0
  pub effect : IsEffect program p frame insn t g heap made out.1
