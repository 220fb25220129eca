-- Initialization of classes and interfaces (JVMS 5.5): it is begun by an instruction that needs it, by that of a class below, or
-- at the start; and its tasks are done one by one.
use Rattle.std.specs.Prelude.{ℕ, Bool, true, false, ◌&&◌, List, [], ◌∷◌, ◌++◌, map, Option, Some, None, Ok, codes}
use Rattle.std.specs.List.{filter_map, list_all}
use Rattle.std.specs.Option.{option_map, option_to_list, option_and_then}
use Rattle.jv_text.specs.declared.descriptor.FieldTypeOf.{FieldTypeOf}
use Rattle.jv_class.specs.Class.{Field}
use Rattle.jv_class_structure.specs.Flags.{has, acc_public, acc_static}
use Rattle.jv_meaning_world.specs.World.{Loaded, World, class_named}
use Rattle.jv_meaning_world.specs.Above.{above}
use Rattle.jv_meaning_world.specs.Overriding.{Declared}
use Rattle.jv_meaning_world.specs.Verdicts.{is_loadable}
use Rattle.jv_meaning_world.specs.LookUps.{DeclaredField, field_by, method_in, method_if}
use Rattle.jv_meaning_typing.specs.LinkErrors.{error_class}
use Rattle.jv_meaning_typing.specs.LinkErrors.LinkError.{NoClassDefFoundError, VerifyError}
use Rattle.jv_meaning_typing.specs.InitializationOrder.{init_order}
use Rattle.jv_meaning_machine.specs.Faults.{OrFault, found, ◌>>=◌}
use Rattle.jv_meaning_machine.specs.Faults.Fault.{OffsetFault}
use Rattle.jv_meaning_machine.specs.Values.{Value, narrowed}
use Rattle.jv_meaning_machine.specs.Values.Value.{Reference}
use Rattle.jv_meaning_machine.specs.Objects.{key_of}
use Rattle.jv_meaning_machine.specs.Frames.{Task, InitializationFrame, Frame}
use Rattle.jv_meaning_machine.specs.Frames.Task.{SetsField, InitializesFirst, RunsInitializer}
use Rattle.jv_meaning_machine.specs.Frames.Frame.{Initializes}
use Rattle.jv_meaning_machine.specs.State.{Program, is_class_accepted, Memory, Control, State, state_of, with_state, ClassStates, class_state, is_ready}
use Rattle.jv_meaning_machine.specs.State.ClassState.{Untouched, Begun, Initialized, Erroneous}
use Rattle.jv_meaning_machine.specs.Costs.{initialization_words, with_words_back}
use Rattle.jv_meaning_machine.specs.Effects.{out_of_memory}
use Rattle.jv_meaning_machine.specs.Fields.{described, with_static}
use Rattle.jv_meaning_machine.specs.Literals.{constant_value}
use Rattle.jv_meaning_machine.specs.Throws.{throw, raise}
use Rattle.jv_meaning_machine.specs.Entering.{within_words, enter}

-- ---- the tasks, in their order (own): constants, the superclass and the superinterfaces that come first, and `<clinit>`

abbrev pub setting : Loaded → Field → Option Task
setting l f = option_map (SetsField (field_by l f)) f.initial

abbrev pub initializer_of : Loaded → List Task
initializer_of l = map RunsInitializer (option_to_list (method_in (codes "<clinit>") (codes "()V") l))

abbrev pub tasks_of : World → Loaded → List Task
tasks_of world l = filter_map (setting l) l.class.fields ++ (map InitializesFirst (init_order world l) ++ initializer_of l)

-- ---- beginning

-- it and all classes and interfaces above it were accepted
abbrev pub is_verified : Program → Loaded → Bool
is_verified program l = is_class_accepted program l && list_all (is_class_accepted program) (above program.world l.class)

abbrev pub initialization_of : World → Loaded → InitializationFrame
initialization_of world l = record { class = l; tasks = tasks_of world l }

-- By the class's state (5.5, steps 3 to 6): where it is being initialized, by the guest's one thread, or is initialized, nothing
-- is done, and where it is erroneous a NoClassDefFoundError is thrown. Else it is verified (5.4.1), and then marked, and its tasks
-- stand above the frames. What is thrown here changes no class.
abbrev pub begin : Program → Memory → List Frame → Control → Loaded → OrFault State
begin program memory frames control l = elim (class_state control.states l) [
  | Begun ↦ Ok (state_of memory frames control)
  | Initialized ↦ Ok (state_of memory frames control)
  | Erroneous ↦ raise program.world memory frames control (error_class NoClassDefFoundError)
  | Untouched ↦ elim (is_verified program l) [
    | false ↦ raise program.world memory frames control (error_class VerifyError)
    | true ↦ within_words program.world memory frames control initialization_words (λ given.
        Ok (state_of memory (Initializes (initialization_of program.world l) ∷ frames) (with_state Begun l given)))
  ]
]

-- ---- the main method: public and static, of the main class itself, which can be loaded (own)

abbrev pub is_main : Declared → Bool
is_main d = has d.method.access_flags acc_public && has d.method.access_flags acc_static

abbrev pub main_in : World → Loaded → Option Declared
main_in world l = elim (is_loadable world l) [
  | false ↦ None
  | true ↦ method_if is_main (method_in (codes "main") (codes "([Ljava/lang/String;)V") l)
]

abbrev pub main_method : World → List ℕ → Option Declared
main_method world name = option_and_then (main_in world) (class_named world name)

-- main takes an array of Strings, which is made at the start (own)
abbrev pub main_arguments : ℕ
main_arguments = 1

abbrev pub enter_main : Program → Memory → Control → OrFault State
enter_main program memory control =
    found OffsetFault (main_method program.world control.main) >>= λ d.
    enter program memory [] control d None (Reference main_arguments ∷ [])

-- ---- a step

-- supers at the front that are initialized or being initialized are dropped; those that are erroneous are not
abbrev pub tasks_left : ClassStates → List Task → List Task
tasks_left states [] = []
tasks_left states (InitializesFirst l ∷ more) = elim (is_ready (class_state states l)) [
  | true ↦ tasks_left states more
  | false ↦ InitializesFirst l ∷ more
]
tasks_left states (SetsField field constant ∷ more) = SetsField field constant ∷ more
tasks_left states (RunsInitializer initializer ∷ more) = RunsInitializer initializer ∷ more

-- the class is initialized, and its frame goes; where it is the main class at the bottom, main is entered
abbrev pub finish : Program → Memory → List Frame → Control → OrFault State
finish program memory [] control = enter_main program memory control
finish program memory (frame ∷ below) control = Ok (state_of memory (frame ∷ below) control)

abbrev pub finished : Loaded → Control → Control
finished l control = with_state Initialized l (with_words_back initialization_words control)

-- what doesn't fit the cells is thrown in the frame of the initialization
abbrev pub set_field :
    World → List Frame → Control → DeclaredField → FieldTypeOf (List ℕ) → Memory → Option (Memory × Value) → OrFault State
set_field world frames control d type memory None = throw world memory frames control out_of_memory
set_field world frames control d type memory (Some made) =
    Ok (state_of (with_static (key_of d) (narrowed type made.1) made.0) frames control)

-- a task is done, where the first of the frames has those that are left behind it
abbrev pub do_task : Program → Memory → List Frame → Control → Task → OrFault State
do_task program memory frames control (SetsField d constant) =
    described d.field.descriptor >>= λ type.
    constant_value program constant memory >>= set_field program.world frames control d type memory
do_task program memory frames control (InitializesFirst l) = begin program memory frames control l
do_task program memory frames control (RunsInitializer d) = enter program memory frames control d None []

abbrev pub with_tasks : InitializationFrame → List Task → Frame
with_tasks frame tasks = Initializes (record frame { tasks = tasks })

abbrev pub do_first : Program → Memory → InitializationFrame → List Frame → Control → List Task → OrFault State
do_first program memory frame below control [] = finish program memory below (finished frame.class control)
do_first program memory frame below control (task ∷ more) = do_task program memory (with_tasks frame more ∷ below) control task

abbrev pub initialization_step : Program → Memory → InitializationFrame → List Frame → Control → OrFault State
initialization_step program memory frame below control =
    do_first program memory frame below control (tasks_left control.states frame.tasks)
