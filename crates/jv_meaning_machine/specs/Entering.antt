-- Entering and leaving methods (JVMS 2.6, 6.5): the words of a frame are given, and given back.
use Rattle.std.specs.Prelude.{ℕ, nat_le, List, [], ◌∷◌, ◌++◌, Option, Some, None, Ok, codes}
use Rattle.std.specs.List.{flat_map}
use Rattle.std.specs.Str.{bytes_eq}
use Rattle.jv_meaning_world.specs.World.{World}
use Rattle.jv_meaning_world.specs.Overriding.{Declared}
use Rattle.jv_meaning_typing.specs.Environment.{Environment, instruction_at, offset_behind}
use Rattle.jv_meaning_machine.specs.Faults.{OrFault, found, tested, ◌>>=◌}
use Rattle.jv_meaning_machine.specs.Faults.Fault.{OffsetFault, StackFault}
use Rattle.jv_meaning_machine.specs.Values.{Value, words_of_values}
use Rattle.jv_meaning_machine.specs.Values.Value.{Reference}
use Rattle.jv_meaning_machine.specs.Objects.{Instance, Object}
use Rattle.jv_meaning_machine.specs.Objects.Object.{InstanceOf}
use Rattle.jv_meaning_machine.specs.Frames.{local_words, filled, MethodFrame, Frame}
use Rattle.jv_meaning_machine.specs.Frames.Frame.{Runs, Initializes}
use Rattle.jv_meaning_machine.specs.State.{Program, entered_method, Memory, Control, State, state_of}
use Rattle.jv_meaning_machine.specs.State.End.{Returned}
use Rattle.jv_meaning_machine.specs.Costs.{code_words, method_words, given_words, with_words_back}
use Rattle.jv_meaning_machine.specs.Fields.{with_object}
use Rattle.jv_meaning_machine.specs.Throws.{raise}

-- ---- words (2.5.2)

-- where so many are left they are given, and else a new StackOverflowError is thrown in place of what would follow
abbrev pub within_words : World → Memory → List Frame → Control → ℕ → (Control → OrFault State) → OrFault State
within_words world memory frames control words next = elim (given_words words control) [
  | None ↦ raise world memory frames control (codes "java/lang/StackOverflowError")
  | Some given ↦ next given
]

-- ---- entering: first the method's code is looked up, whose limits say the frame's words; these are asked for, then the verdict
-- on the method's class, and then whether its local variables have room for what is passed (own)

-- the receiver and the arguments, as they are passed
abbrev pub passed_values : Option ℕ → List Value → List Value
passed_values None arguments = arguments
passed_values (Some receiver) arguments = Reference receiver ∷ arguments

-- at its first instruction, with these local variables and this stack
abbrev pub entered_frame : Environment → Option ℕ → List Value → List Value → MethodFrame
entered_frame method receiver locals stack =
    record { method = method; receiver = receiver; offset = 0; locals = locals; stack = stack }

-- the arguments stand in the first local variables
abbrev pub method_frame : Program → Declared → Option ℕ → List Value → OrFault MethodFrame
method_frame program d receiver arguments =
    entered_method program d >>= λ method.
    filled method.code.max_locals (flat_map local_words (passed_values receiver arguments)) >>= λ locals.
    Ok (entered_frame method receiver locals [])

-- the method's frame stands above the others
abbrev pub entered_above : Program → List Frame → Declared → Option ℕ → List Value → Memory → Control → OrFault State
entered_above program frames d receiver arguments memory given =
    method_frame program d receiver arguments >>= λ frame. Ok (state_of memory (Runs frame ∷ frames) given)

-- a method is entered above the frames, on its receiver, if it has one
abbrev pub enter : Program → Memory → List Frame → Control → Declared → Option ℕ → List Value → OrFault State
enter program memory frames control d receiver arguments =
    found OffsetFault d.method.code >>= λ code.
    within_words program.world memory frames control (code_words code) (entered_above program frames d receiver arguments memory)

-- what entering an `<init>` makes of its object: java/lang/Object's makes it constructed (2.9)
abbrev pub entered_on : Declared → Instance → Object
entered_on d instance =
    InstanceOf (record instance {
      entered = Some d.by.class.name;
      constructed = bytes_eq d.by.class.name (codes "java/lang/Object");
    })

-- an `<init>` is, on an object, which is this one so far
abbrev pub enter_init : Program → Memory → List Frame → Control → Declared → ℕ → Instance → List Value → OrFault State
enter_init program memory frames control d object instance arguments =
    found OffsetFault d.method.code >>= λ code.
    within_words program.world memory frames control (code_words code)
    (entered_above program frames d (Some object) arguments (with_object object (entered_on d instance) memory))

-- ---- leaving

-- a frame goes on at an offset, with a stack within max_stack
abbrev pub at_offset : MethodFrame → ℕ → List Value → List Value → OrFault MethodFrame
at_offset frame offset locals stack =
    tested StackFault (nat_le (words_of_values stack) frame.method.code.max_stack) frame >>= λ frame.
    Ok (record frame { offset = offset; locals = locals; stack = stack })

-- the caller goes on behind its call, with the result, if there is one
abbrev pub resumed : MethodFrame → List Value → OrFault MethodFrame
resumed caller result =
    found OffsetFault (instruction_at caller.method caller.offset) >>= λ insn.
    at_offset caller (offset_behind caller.offset insn) caller.locals (result ++ caller.stack)

-- the frames below are left to go on; where there are none the guest has ended
abbrev pub leave_to : Memory → List Frame → Control → List Value → OrFault State
leave_to memory [] control result = Ok (state_of memory [] (record control { end = Returned }))
leave_to memory (Runs caller ∷ below) control result =
    resumed caller result >>= λ caller. Ok (state_of memory (Runs caller ∷ below) control)
leave_to memory (Initializes frame ∷ below) control result = Ok (state_of memory (Initializes frame ∷ below) control)

abbrev pub leave : Memory → MethodFrame → List Frame → Control → List Value → OrFault State
leave memory frame below control result = leave_to memory below (with_words_back (method_words frame) control) result
