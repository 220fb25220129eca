-- Frames (JVMS 2.6): of methods, with local variables and a stack of their own, and of initializations that are going on.
use Rattle.std.specs.Prelude.{ℕ, zero, suc, true, false, List, [], ◌∷◌, ◌++◌, length, drop, replicate, ◌-◌, nat_le, Option, Some, None, slice_get, if◌then◌else◌}
use Rattle.std.specs.Option.{option_map}
use Rattle.jv_code.specs.declared.kinds.ValueKind.{ValueKind}
use Rattle.jv_class.specs.Class.{InitialValue}
use Rattle.jv_meaning_world.specs.World.{Loaded}
use Rattle.jv_meaning_world.specs.Overriding.{Declared}
use Rattle.jv_meaning_world.specs.LookUps.{DeclaredField}
use Rattle.jv_meaning_typing.specs.Environment.{Environment}
use Rattle.jv_meaning_machine.specs.Faults.{OrFault, found, tested, ◌>>=◌}
use Rattle.jv_meaning_machine.specs.Faults.Fault.{LocalFault, TagFault}
use Rattle.jv_meaning_machine.specs.Values.{Value, has_kind}
use Rattle.jv_meaning_machine.specs.Values.Value.{Long, Half, Unset}

-- ---- local variables: a long has two

abbrev pub local_words : Value → List Value
local_words (Long value) = Long value ∷ Half ∷ []
local_words value = value ∷ []

-- a long loses its second half
abbrev pub without_half : List Value → List Value
without_half (Half ∷ more) = Unset ∷ more
without_half locals = locals

-- These words stand in the local variables from an index on, where there are as many. A long that loses one of its halves to
-- them loses the other one too.
abbrev pub stored : List Value → ℕ → List Value → Option (List Value)
stored words zero locals =
    if nat_le (length words) (length locals) then Some (words ++ without_half (drop (length words) locals)) else None
stored words (suc index) [] = None
stored words (suc zero) (Long value ∷ more) = option_map (λ rest. Unset ∷ rest) (stored words zero more)
stored words (suc index) (local ∷ more) = option_map (λ rest. local ∷ rest) (stored words index more)

-- what a local variable holds
abbrev pub local_value : Value → OrFault Value
local_value Unset = tested LocalFault false Unset
local_value Half = tested LocalFault false Half
local_value value = tested LocalFault true value

-- a value of a kind
abbrev pub local_at : ValueKind → ℕ → List Value → OrFault Value
local_at kind index locals =
    found LocalFault (slice_get locals index) >>= local_value >>= λ value. tested TagFault (has_kind kind value) value

-- these words in front, and nothing in the other local variables
abbrev pub filled : ℕ → List Value → OrFault (List Value)
filled max_locals words =
    tested LocalFault (nat_le (length words) max_locals) (words ++ replicate (max_locals - length words) Unset)

-- ---- frames

-- a method that runs: its receiver when it was entered, if it has one, the offset of its instruction, and its local variables
-- and its stack, whose top is first
pub record MethodFrame : Type 0 where
  pub method : Environment
  pub receiver : Option ℕ
  pub offset : ℕ
  pub locals : List Value
  pub stack : List Value

-- what is left to do for a class (5.5): a static field gets its constant, a superclass or superinterface is initialized,
-- `<clinit>` runs
pub data Task : Type 0 where
  SetsField : (field : DeclaredField) → (constant : InitialValue) → Task
  InitializesFirst : (above : Loaded) → Task
  RunsInitializer : (initializer : Declared) → Task

-- a class or interface that is being initialized
pub record InitializationFrame : Type 0 where
  pub class : Loaded
  pub tasks : List Task

pub data Frame : Type 0 where
  Runs : (frame : MethodFrame) → Frame
  Initializes : (frame : InitializationFrame) → Frame
