-- Throws (JVMS 2.10): an object goes up the frames until a handler takes it; a class whose initialization it passes can never be
-- used (5.5).
use Rattle.std.specs.Prelude.{ℕ, ◌+◌, ◌-◌, ◌^◌, min, Bool, true, false, ◌&&◌, ◌==◌, nat_le, List, [], ◌∷◌, Option, Some, None, Ok, codes, if◌then◌else◌}
use Rattle.std.specs.List.{find}
use Rattle.std.specs.Option.{option_or}
use Rattle.jv_format.specs.declared.handlers.Handler.{Handler}
use Rattle.jv_pool.specs.Constants.{Entry, class_name_at}
use Rattle.jv_meaning_world.specs.World.{Loaded, World, class_named}
use Rattle.jv_meaning_typing.specs.Layout.{object_cells}
use Rattle.jv_meaning_typing.specs.Environment.{current_class}
use Rattle.jv_meaning_typing.specs.Typing.{covers}
use Rattle.jv_meaning_machine.specs.Faults.{OrFault, found, tested, ◌>>=◌}
use Rattle.jv_meaning_machine.specs.Faults.Fault.{StackFault, ReferenceFault}
use Rattle.jv_meaning_machine.specs.Values.Value.{Reference}
use Rattle.jv_meaning_machine.specs.Objects.{made_object, is_at_or_below}
use Rattle.jv_meaning_machine.specs.Frames.{MethodFrame, Frame}
use Rattle.jv_meaning_machine.specs.Frames.Frame.{Runs, Initializes}
use Rattle.jv_meaning_machine.specs.State.{Memory, ThrowPlace, Control, State, state_of, with_state}
use Rattle.jv_meaning_machine.specs.State.ClassState.{Erroneous}
use Rattle.jv_meaning_machine.specs.State.End.{Threw}
use Rattle.jv_meaning_machine.specs.Costs.{paid, with_objects, next_object, method_words, initialization_words, with_words_back}
use Rattle.jv_meaning_machine.specs.Operands.{object_at}
use Rattle.jv_meaning_machine.specs.Effects.{out_of_memory}
use Rattle.jv_meaning_machine.specs.Fields.{instance_in}

-- ---- exceptions that the machine makes (own): their fields are null and no constructor runs. Where the cells of one are not
-- left, the OutOfMemoryError object of the start takes its place.

abbrev pub exception_made : World → Loaded → Memory → Option Memory → Memory × ℕ
exception_made world l before None = (before, out_of_memory)
exception_made world l before (Some memory) = (with_objects (made_object world l ∷ []) memory, next_object memory)

abbrev pub exception : World → List ℕ → Memory → OrFault (Memory × ℕ)
exception world name memory =
    found ReferenceFault (class_named world name) >>= λ l.
    Ok (exception_made world l memory (paid (object_cells world l) memory))

-- ---- an object that is thrown, with its class

pub record Thrown : Type 0 where
  pub object : ℕ
  pub class : List ℕ
  pub memory : Memory
  pub control : Control

-- it is thrown at the instruction of the first of these frames that is a method's (own): an initialization is begun by the instruction
-- below it, and that of main's class by none
abbrev pub place_in : List Frame → Option ThrowPlace
place_in [] = None
place_in (Runs frame ∷ below) = Some (record {
  class = (current_class frame.method).name;
  method = frame.method.site.method.name;
  descriptor = frame.method.site.method.descriptor;
  offset = frame.offset;
})
place_in (Initializes frame ∷ below) = place_in below

-- what is thrown in place of another, where no frame below is a method's, is thrown where that one was (own)
abbrev pub replacement_place : List Frame → Control → Option ThrowPlace
replacement_place below control = option_or (place_in below) control.place

-- a throw more; their number stays at 2^64 - 1
abbrev pub thrown_once_more : List ℕ → Option ThrowPlace → Control → Control
thrown_once_more class place control =
    record control { throws = min (control.throws + 1) (2 ^ 64 - 1); last = Some class; place = place }

abbrev pub thrown : Option ThrowPlace → Control → Memory × ℕ → OrFault Thrown
thrown place control made =
    object_at made.0.objects made.1 >>= instance_in >>= λ instance.
    Ok (record {
      object = made.1;
      class = instance.class;
      memory = made.0;
      control = thrown_once_more instance.class place control;
    })

abbrev pub with_control : Thrown → Control → Thrown
with_control t control = record t { control = control }

-- ---- handlers: the first in the table whose range holds the frame's offset, and whose catch type is 0 or a class above the
-- object's or this one itself, by name and without a look at access (own)

abbrev pub is_caught_as : World → List ℕ → Option (List ℕ) → Bool
is_caught_as world class None = false
is_caught_as world class (Some name) = is_at_or_below world class name

abbrev pub catches : World → List Entry → List ℕ → Handler → Bool
catches world pool class handler =
    if handler.catch_type == 0 then true else is_caught_as world class (class_name_at pool handler.catch_type)

abbrev pub handler_for : World → List ℕ → MethodFrame → Option Handler
handler_for world class frame =
    find (λ h. covers h frame.offset && catches world (current_class frame.method).constant_pool class h)
    frame.method.code.exception_table

-- the handler begins with what was thrown alone on its stack
abbrev pub at_handler : MethodFrame → ℕ → ℕ → Frame
at_handler frame offset object = Runs (record frame { offset = offset; stack = Reference object ∷ [] })

abbrev pub caught : Thrown → MethodFrame → List Frame → Handler → OrFault State
caught t frame below handler =
    tested StackFault (nat_le 1 frame.method.code.max_stack) frame >>= λ frame.
    Ok (state_of t.memory (at_handler frame handler.handler_pc t.object ∷ below) t.control)

-- ---- initializations that a throw passes: an ExceptionInInitializerError is thrown in place of what is no java/lang/Error, in the
-- first of the frames below

abbrev pub replacement_if : World → Thrown → List Frame → Bool → OrFault Thrown
replacement_if world t below true = Ok t
replacement_if world t below false =
    exception world (codes "java/lang/ExceptionInInitializerError") t.memory >>= thrown (replacement_place below t.control) t.control

abbrev pub replacement : World → Thrown → List Frame → OrFault Thrown
replacement world t below = replacement_if world t below (is_at_or_below world t.class (codes "java/lang/Error"))

-- the class becomes erroneous
abbrev pub passed_initialization : Loaded → Thrown → Thrown
passed_initialization l t = with_control t (with_state Erroneous l (with_words_back initialization_words t.control))

abbrev pub passed_method : MethodFrame → Thrown → Thrown
passed_method frame t = with_control t (with_words_back (method_words frame) t.control)

-- ---- up the frames: where none is left the guest has ended

abbrev pub unwound : World → Thrown → List Frame → OrFault State
unwound world t [] = Ok (state_of t.memory [] (record t.control { end = Threw t.class }))
unwound world t (Runs frame ∷ below) = elim (handler_for world t.class frame) [
  | None ↦ unwound world (passed_method frame t) below
  | Some handler ↦ caught t frame below handler
]
unwound world t (Initializes frame ∷ below) =
    replacement world (passed_initialization frame.class t) below >>= λ t. unwound world t below

-- an object is thrown in the first of these frames; and so is an exception of a class that the machine makes
abbrev pub throw : World → Memory → List Frame → Control → ℕ → OrFault State
throw world memory frames control object =
    thrown (place_in frames) control (memory, object) >>= λ t. unwound world t frames

abbrev pub raise : World → Memory → List Frame → Control → List ℕ → OrFault State
raise world memory frames control name = exception world name memory >>= thrown (place_in frames) control >>= λ t. unwound world t frames
