-- Taking operands from the stack: by the types that the verifier takes (JVMS 4.10.1.9), and with objects that are constructed
-- (4.9.2).
use Rattle.std.specs.Prelude.{ℕ, List, [], ◌∷◌, reverse, slice_get, Ok, Err}
use Rattle.jv_stackmap.specs.Types.{FrameType}
use Rattle.jv_meaning_typing.specs.Named.{object_class_type}
use Rattle.jv_meaning_machine.specs.Faults.{OrFault, found, tested, ◌>>=◌}
use Rattle.jv_meaning_machine.specs.Faults.Fault.{StackFault, TagFault, ReferenceFault, ConstructionFault}
use Rattle.jv_meaning_machine.specs.Values.{Value, has_type}
use Rattle.jv_meaning_machine.specs.Values.Value.{Reference}
use Rattle.jv_meaning_machine.specs.Objects.{Object, is_constructed}

-- the object that a number stands for
abbrev pub object_at : List Object → ℕ → OrFault Object
object_at objects id = found ReferenceFault (slice_get objects id)

-- a value can be used: it is no reference to an object that is not constructed
abbrev pub usable_value : List Object → Value → OrFault Value
usable_value objects (Reference id) =
    object_at objects id >>= λ object. tested ConstructionFault (is_constructed object) (Reference id)
usable_value objects value = Ok value

-- the item on top, and what is below it
abbrev pub popped : List Value → OrFault (Value × List Value)
popped [] = Err StackFault
popped (value ∷ below) = Ok (value, below)

-- of the kind of a type
abbrev pub popped_as : FrameType → List Value → OrFault (Value × List Value)
popped_as type stack = popped stack >>= λ top. tested TagFault (has_type type top.0) top

abbrev pub popped_reference : List Value → OrFault (Value × List Value)
popped_reference stack = popped_as object_class_type stack

-- to be used
abbrev pub taken_as : List Object → FrameType → List Value → OrFault (Value × List Value)
taken_as objects type stack = popped_as type stack >>= λ top. usable_value objects top.0 >>= λ value. Ok (value, top.1)

abbrev pub taken_reference : List Object → List Value → OrFault (Value × List Value)
taken_reference objects stack = taken_as objects object_class_type stack

-- those of these types, one by one downward, in front of what was taken before
abbrev pub taken_before : List Object → List Value → List FrameType → List Value → OrFault (List Value × List Value)
taken_before objects values [] stack = Ok (values, stack)
taken_before objects values (type ∷ more) stack =
    taken_as objects type stack >>= λ top. taken_before objects (top.0 ∷ values) more top.1

-- values of these types, the last of which stands on top, and what is below them
abbrev pub taken : List Object → List FrameType → List Value → OrFault (List Value × List Value)
taken objects types stack = taken_before objects [] (reverse types) stack
