-- What instructions do beside what they do to memory, while they know nothing of other frames (JVMS 2.11, 6.5).
use Rattle.std.specs.Prelude.{ℕ, List, Option, Ok, Err, codes, if◌then◌else◌}
use Rattle.jv_text.specs.declared.descriptor.FieldTypeOf.{FieldTypeOf}
use Rattle.jv_meaning_world.specs.World.{Loaded, World}
use Rattle.jv_meaning_world.specs.Overriding.{Declared}
use Rattle.jv_meaning_typing.specs.Uses.{Site}
use Rattle.jv_meaning_typing.specs.LinkErrors.{OrError, error_class}
use Rattle.jv_meaning_typing.specs.Operands.{class_operand}
use Rattle.jv_meaning_typing.specs.ClassResolution.{ResolvedClass}
use Rattle.jv_meaning_typing.specs.ClassResolution.ResolvedClass.{ClassOf, ArrayOf}
use Rattle.jv_meaning_typing.specs.Environment.{Environment, current_class}
use Rattle.jv_meaning_typing.specs.Named.{class_components}
use Rattle.jv_meaning_machine.specs.Faults.{OrFault, found}
use Rattle.jv_meaning_machine.specs.Faults.Fault.{OffsetFault}
use Rattle.jv_meaning_machine.specs.Values.{Value}
use Rattle.jv_meaning_machine.specs.Objects.{Instance}
use Rattle.jv_meaning_machine.specs.Frames.{MethodFrame}
use Rattle.jv_meaning_machine.specs.State.{Program, Memory, ClassStates, class_state, is_ready}

pub data Effect : Type 0 where
  -- control goes to an offset of the method, with these local variables and this stack
  Goes : (offset : ℕ) → (locals stack : List Value) → Effect
  -- a method is entered with its receiver, if it has one, and its arguments, and this stack is left below them
  Enters : (method : Declared) → (receiver : Option ℕ) → (arguments stack : List Value) → Effect
  -- so is an `<init>`, on an object, which is this one so far
  Constructs : (method : Declared) → (object : ℕ) → (instance : Instance) → (arguments stack : List Value) → Effect
  -- the method returns, with its result, if it has one
  Leaves : (result : List Value) → Effect
  -- an object is thrown
  Throws : (object : ℕ) → Effect
  -- the machine throws an exception of a class
  Raises : (class : List ℕ) → Effect
  -- the initialization of a class is begun, and the instruction is executed again afterwards
  Begins : (class : Loaded) → Effect

-- what an instruction is executed with: what is known of the classes, their states, the memory, the frame, and the offset of
-- the next instruction
pub record Context : Type 0 where
  pub program : Program
  pub states : ClassStates
  pub memory : Memory
  pub frame : MethodFrame
  pub next : ℕ

-- what it does to the memory, and its effect, or a fault
abbrev pub Outcome : Type 0
Outcome = OrFault (Memory × Effect)

abbrev pub world_at : Context → World
world_at c = c.program.world

abbrev pub method_at : Context → Environment
method_at c = c.frame.method

abbrev pub site_at : Context → Site
site_at c = c.frame.method.site

-- ---- ways on

-- the next instruction follows, with this stack
abbrev pub goes_on : Context → List Value → Outcome
goes_on c stack = Ok (c.memory, Goes c.next c.frame.locals stack)

abbrev pub goes_on_with : Context → Memory → List Value → Outcome
goes_on_with c memory stack = Ok (memory, Goes c.next c.frame.locals stack)

abbrev pub raises : Context → List ℕ → Outcome
raises c class = Ok (c.memory, Raises class)

-- what is resolved goes on, and an error of linking is thrown
abbrev pub unless_error : {A : Type 0} → Context → OrError A → (A → Outcome) → Outcome
unless_error c (Ok a) next = next a
unless_error c (Err error) next = raises c (error_class error)

-- the class has been initialized or is being initialized, and else that is begun (5.5)
abbrev pub once_initialized : Context → Loaded → Outcome → Outcome
once_initialized c l outcome = if is_ready (class_state c.states l) then outcome else Ok (c.memory, Begins l)

-- ---- what an index names

-- the text of a Class constant
abbrev pub class_constant : Context → ℕ → OrFault (List ℕ)
class_constant c index = found OffsetFault (class_operand (current_class (method_at c)) index)

-- the type of what it was resolved to
abbrev pub resolved_type : ResolvedClass → FieldTypeOf (List ℕ)
resolved_type (ClassOf l) = class_components l.class.name
resolved_type (ArrayOf type) = type

-- ---- what the machine throws (6.5)

abbrev pub null_pointer : List ℕ
null_pointer = codes "java/lang/NullPointerException"

abbrev pub array_index : List ℕ
array_index = codes "java/lang/ArrayIndexOutOfBoundsException"

abbrev pub array_store : List ℕ
array_store = codes "java/lang/ArrayStoreException"

abbrev pub negative_size : List ℕ
negative_size = codes "java/lang/NegativeArraySizeException"

abbrev pub class_cast : List ℕ
class_cast = codes "java/lang/ClassCastException"

abbrev pub division_by_zero : List ℕ
division_by_zero = codes "java/lang/ArithmeticException"

-- the OutOfMemoryError object that is made at the start (own)
abbrev pub out_of_memory : ℕ
out_of_memory = 0

abbrev pub lacks_memory : Context → Outcome
lacks_memory c = Ok (c.memory, Throws out_of_memory)
