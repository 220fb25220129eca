-- When the frames of a guest are of their types (JVMS 2.6, 2.10, 4.10, 5.5): the one that runs, those that wait for it, and
-- initializations.
use Rattle.std.specs.Prelude.{◌≡◌, ⊤, ℕ, suc, Bool, true, false, List, [], ◌∷◌, length, Option, Some, None, Ok, Err, IsTrue}
use Rattle.std.specs.List.{Contains, AllByRecursion}
use Rattle.jv_text.specs.declared.descriptor.FieldTypeOf.{FieldTypeOf}
use Rattle.jv_text.specs.Name.{is_init}
use Rattle.jv_text.specs.declared.descriptor.Element.TheVariants as elements
use Rattle.jv_text.specs.Descriptor.{MethodDescriptor}
use Rattle.jv_text.specs.Types.{field_type_of, method_type_of}
use Rattle.jv_meaning_typing.specs.Kind.{is_static_method}
use Rattle.jv_meaning_machine.specs.Literals.{string_name}
use Rattle.jv_stackmap.specs.Types.{FrameType, value_type}
use Rattle.jv_stackmap.specs.Frames.{Frame as TypesOf}
use Rattle.jv_code.specs.Insns.{Instruction}
use Rattle.jv_class.specs.Class.{InitialValue}
use Rattle.jv_class.specs.Class.InitialValue.{IntValue, LongValue, StringValue}
use Rattle.jv_meaning_world.specs.World.{Loaded, World}
use Rattle.jv_meaning_world.specs.Overriding.{Declared}
use Rattle.jv_meaning_typing.specs.Environment.{Environment, instruction_at}
use Rattle.jv_meaning_typing.specs.Named.{current_type, string_type}
use Rattle.jv_meaning_typing.specs.Rule.{handler_frame}
use Rattle.jv_stackmap.specs.declared.verification.VerificationTypeOf.TheVariants as types
use Rattle.jv_meaning_machine.specs.Faults.{OrFault}
use Rattle.jv_meaning_machine.specs.Values.{Value}
use Rattle.jv_meaning_machine.specs.Objects.{Object}
use Rattle.jv_meaning_machine.specs.Frames.{MethodFrame, Task, Frame}
use Rattle.jv_meaning_machine.specs.Frames.Task.{SetsField, InitializesFirst, RunsInitializer}
use Rattle.jv_meaning_machine.specs.Frames.Frame.{Runs, Initializes}
use Rattle.jv_meaning_machine.specs.State.{Program, State, class_state, ClassStates, is_ready}
use Rattle.jv_meaning_machine.specs.Entering.{resumed}
use Rattle.jv_meaning_machine.specs.Initialization.{is_verified, main_method}
use Rattle.jv_sound.specs.Values.{Heap, Place, Fits, IsObject, HasStack, HasLocals, IsReady}
use Rattle.jv_sound.specs.Memory.{IsTypedMemory, AreLoadable}
use Rattle.jv_sound.specs.Later.{IsLater}
use Rattle.jv_sound.specs.Sound.{IsChecked, IsEnterable}

-- ---- no fault, and something of what there is

abbrev pub HoldsBy : {A : Type 0} → (A → Type 0) → OrFault A → Type 0
HoldsBy P (Ok a) = P a
HoldsBy P (Err fault) = ⊥

pub record Holds {A : Type 0} (P : A → Type 0) (r : OrFault A) : Type 0 where
  pub by : HoldsBy P r

-- ---- a frame

-- local variables and a stack are of a frame's types
pub record Holding (p : Place) (frame : TypesOf) (values items : List Value) : Type 0 where
  pub locals : HasLocals p frame.locals values
  pub stack : HasStack p frame.stack items
  pub ready : IsReady p frame.flag_this_uninit

abbrev pub place_of : Heap → ℕ → MethodFrame → (ℕ → ℕ) → Place
place_of heap depth frame made =
    record { heap = heap; depth = depth; method = frame.method; receiver = frame.receiver; made = made }

-- a frame that can execute its instruction: it is as the method's typing has it there
pub record IsRunning (program : Program) (heap : Heap) (depth : ℕ) (frame : MethodFrame) : Type 0 where
  pub checked : IsChecked program frame.method
  pub insn : Instruction
  pub stands : instruction_at frame.method frame.offset ≡ Some insn
  pub made : ℕ → ℕ
  pub holding : Holding (place_of heap depth frame made) (checked.frames frame.offset) frame.locals frame.stack

-- a frame in which what is thrown can go on at a handler of its instruction
pub record IsCatching (program : Program) (heap : Heap) (depth : ℕ) (frame : MethodFrame) : Type 0 where
  pub checked : IsChecked program frame.method
  pub insn : Instruction
  pub stands : instruction_at frame.method frame.offset ≡ Some insn
  pub made : ℕ → ℕ
  pub locals : HasLocals (place_of heap depth frame made) (handler_frame frame.method insn
      (checked.frames frame.offset)).locals frame.locals
  pub ready : IsReady (place_of heap depth frame made) (checked.frames frame.offset).flag_this_uninit

-- ---- what a frame gives to the one below it when it ends

pub data Promise : Type 0 where
  -- a result, if the method has one
  Gives : (result : Option (FieldTypeOf (List ℕ))) → Promise
  -- its receiver is constructed
  Builds : (type : FrameType) → (receiver : Option ℕ) → Promise
  -- nothing: what waits for an initialization is done again
  Again : Promise

abbrev pub promise_by : Bool → Environment → Option ℕ → Promise
promise_by true method receiver = Builds (current_type method) receiver
promise_by false method receiver = Gives method.descriptor.result

-- it depends on the method and the receiver alone, so a frame that goes on keeps it
abbrev pub promise_of : MethodFrame → Promise
promise_of frame = promise_by (is_init frame.method.site.method.name) frame.method frame.receiver

abbrev pub IsResult : World → List Object → Option (FieldTypeOf (List ℕ)) → List Value → Type 0
IsResult world objects None values = values ≡ []
IsResult world objects (Some type) values = (value : Value) × (values ≡ value ∷ []) × Fits world objects (value_type type) value

-- a frame that runs, and promises what another one did
abbrev pub IsResumed : Program → Heap → ℕ → MethodFrame → MethodFrame → Type 0
IsResumed program heap depth frame next = IsRunning program heap depth next × (promise_of next ≡ promise_of frame)

-- in any later memory in which the promise is kept, the frame goes on
abbrev pub Resumes : Program → Heap → ℕ → MethodFrame → Promise → Type 0
Resumes program heap depth frame Again = (next : Heap) → IsLater (suc depth) heap next → AreLoadable program.world next.objects
    → IsRunning program next depth frame
Resumes program heap depth frame (Gives result) =
    (next : Heap) (values : List Value) → IsLater (suc depth) heap next → AreLoadable program.world next.objects
    → IsResult program.world next.objects result values
    → Holds (IsResumed program next depth frame) (resumed frame values)
Resumes program heap depth frame (Builds type receiver) =
    (next : Heap) (id : ℕ) → IsLater (suc depth) heap next → AreLoadable program.world next.objects → receiver ≡ Some id
    → IsObject program.world next.objects type id
    → Holds (IsResumed program next depth frame) (resumed frame [])

-- ---- initializations

abbrev pub IsConstantOf : FrameType → InitialValue → Type 0
IsConstantOf types.Int (IntValue number) = ⊤
IsConstantOf types.Long (LongValue number) = ⊤
IsConstantOf (types.Class name) (StringValue text) = types.Class name ≡ string_type
IsConstantOf _ _ = ⊥

-- a static method with these parameters that can be entered: `<clinit>`, or main
pub record IsRunnable (program : Program) (d : Declared) (parameters : List (FieldTypeOf (List ℕ))) : Type 0 where
  pub enterable : IsEnterable program d
  pub static : is_static_method d.method ≡ true
  pub plain : is_init d.method.name ≡ false
  pub descriptor : MethodDescriptor
  pub described : method_type_of d.method.descriptor ≡ Some descriptor
  pub takes : descriptor.parameters ≡ parameters

-- a class whose initialization was begun
pub record IsBegun (program : Program) (l : Loaded) : Type 0 where
  pub here : Contains program.world l
  pub verified : IsTrue (is_verified program l)

-- the text of a string spells units
abbrev pub HasUnits : Program → InitialValue → Type 0
HasUnits program (StringValue text) = (units : List ℕ) × (program.units text ≡ Some units)
HasUnits program _ = ⊤

abbrev pub IsTask : Program → Task → Type 0
IsTask program (SetsField field constant) =
    (type : FieldTypeOf (List ℕ)) × (field_type_of field.field.descriptor ≡ Some type) × IsConstantOf (value_type type) constant
    × HasUnits program constant
IsTask program (InitializesFirst l) = Contains program.world l
IsTask program (RunsInitializer d) = IsRunnable program d []

-- ---- all frames, the current one first

abbrev pub AreWaiting : Program → Heap → Promise → List Frame → Type 0
AreWaiting program heap promise [] = ⊤
AreWaiting program heap promise (Runs frame ∷ below) =
    IsCatching program heap (length below) frame × Resumes program heap (length below) frame promise
    × AreWaiting program heap (promise_of frame) below
AreWaiting program heap promise (Initializes frame ∷ below) =
    IsBegun program frame.class × AllByRecursion (IsTask program) frame.tasks × AreWaiting program heap Again below

abbrev pub AreFrames : Program → Heap → List Frame → Type 0
AreFrames program heap [] = ⊤
AreFrames program heap (Runs frame ∷ below) =
    IsRunning program heap (length below) frame × AreWaiting program heap (promise_of frame) below
AreFrames program heap (Initializes frame ∷ below) =
    IsBegun program frame.class × AllByRecursion (IsTask program) frame.tasks × AreWaiting program heap Again below

-- ---- the whole state

-- classes whose initialization was begun were accepted, with all above them
abbrev pub AreVerified : Program → ClassStates → Type 0
AreVerified program states =
    (l : Loaded) → Contains program.world l → is_ready (class_state states l) ≡ true → IsTrue (is_verified program l)

abbrev pub string_array : FieldTypeOf (List ℕ)
string_array = record { dimensions = 1; element = elements.Class string_name }

-- the main method can be entered, as long as there are frames
abbrev pub HasMain : Program → List ℕ → List Frame → Type 0
HasMain program main [] = ⊤
HasMain program main frames = (d : Declared) × (main_method program.world main ≡ Some d) × IsRunnable program d (string_array ∷ [])

pub record IsGood (program : Program) (s : State) : Type 0 where
  pub heap : Heap
  pub is : heap.objects ≡ s.memory.objects
  pub memory : IsTypedMemory program s.memory
  pub frames : AreFrames program heap s.frames
  pub verified : AreVerified program s.control.states
  pub main : HasMain program s.control.main s.frames
