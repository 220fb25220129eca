-- What the handlers of an instruction begin with (JVMS 4.10.1.6).
use Rattle.std.specs.Prelude.{◌≡◌, ℕ, List, Option}
use Rattle.std.specs.Option.{option_map}
use Rattle.jv_code.specs.Insns.{Instruction}
use Rattle.jv_meaning_typing.specs.Environment.{Environment}
use Rattle.jv_meaning_typing.specs.Rule.{handler_frame, without_object}
use Rattle.jv_verify_types.specs.Typed.{typed, typed_all}
use Rattle.jv_verify_types.specs.Numbered.{Item, NumberFrame, frame_of}

-- once an object cannot be used any more, where there is one, local variables are those with which a handler of an instruction begins
abbrev pub IsLeft : Environment → Instruction → List (List ℕ) → NumberFrame → Option Item → Type 0
IsLeft env insn names frame object =
    without_object (option_map (typed names) object) (typed_all names frame.locals) ≡ (handler_frame env insn (frame_of names frame)).locals
