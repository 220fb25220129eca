-- Where an instruction can give local variables other types (JVMS 4.10.1.4).
use Rattle.std.specs.Prelude.{◌≡◌, ◌==◌, ℕ, Bool, false, List, Option, Some, None, slice_get, unwrap_or}
use Rattle.std.specs.List.{list_any}
use Rattle.std.specs.Option.{option_map}
use Rattle.jv_stackmap.specs.declared.verification.VerificationTypeOf.TheVariants as types
use Rattle.jv_stackmap.specs.Types.{FrameType}
use Rattle.jv_stackmap.specs.Frames.{Frame}
use Rattle.jv_code.specs.Insns.{Instruction}
use Rattle.jv_code.specs.declared.insn.Insn.TheVariants as insns
use Rattle.jv_meaning_typing.specs.Environment.{Environment}
use Rattle.jv_meaning_typing.specs.FrameChanges.{is_same_object}
use Rattle.jv_meaning_typing.specs.Rule.{constructed_object}
use Rattle.jv_verify_types.specs.Typed.{typed, typed_all}
use Rattle.jv_verify_types.specs.Numbered.{Item, NumberFrame, frame_of}
use Rattle.jv_verify_rules.specs.Laws.{is_beside}
use Rattle.jv_verify_pass.specs.Pass.{Pass, IsOfPass, names_in}

-- the first local variable into which an instruction stores, if it does
abbrev pub stored_index : Instruction → Option ℕ
stored_index (insns.Store kind index form) = Some index
stored_index (insns.StoreLong index form) = Some index
stored_index insn = None

-- what a `new` at an offset makes
abbrev pub made_at : ℕ → Instruction → Option FrameType
made_at pc (insns.New index) = Some (types.Uninitialized pc)
made_at pc insn = None

abbrev pub either_of : Option FrameType → Option FrameType → Option FrameType
either_of (Some object) other = Some object
either_of None other = other

-- the object whose copies get another type: an earlier one of this `new`, or the one that is constructed
abbrev pub object_replaced : ℕ → Option FrameType → Instruction → Option FrameType
object_replaced pc constructed insn = either_of (made_at pc insn) constructed

-- a copy of an object is in a local variable
abbrev pub is_copy : FrameType → List FrameType → ℕ → Bool
is_copy object locals k = unwrap_or (option_map (is_same_object object) (slice_get locals k)) false

abbrev pub is_object_at : Option FrameType → List FrameType → ℕ → Bool
is_object_at None locals k = false
is_object_at (Some object) locals k = is_copy object locals k

-- a place is among some
abbrev pub is_written : List ℕ → ℕ → Bool
is_written places k = list_any (λ place. place == k) places

-- what a store at an index can change, or one that replaces an object
abbrev pub changes_by : Option ℕ → (ℕ → Bool) → ℕ → Bool
changes_by (Some index) others k = is_beside index k
changes_by None others k = others k

-- the local variables that an instruction at an offset can give another type
abbrev pub may_change : Environment → ℕ → Instruction → Frame → ℕ → Bool
may_change env pc insn frame k =
    changes_by (stored_index insn) (is_object_at (object_replaced pc (constructed_object env insn frame) insn) frame.locals) k

-- those that it stores into, or these places
abbrev pub may_change_at : List ℕ → Instruction → ℕ → Bool
may_change_at copies insn k = changes_by (stored_index insn) (is_written copies) k

-- The places at which copies of an object are, whatever the names are, are among these.
abbrev pub HoldCopies : List ℕ → Option Item → List Item → Type 0
HoldCopies places object locals =
    (names : List (List ℕ)) (k : ℕ) → is_written places k ≡ false
    → is_object_at (option_map (typed names) object) (typed_all names locals) k ≡ false

-- No local variable is changed where it is none of these places, in every environment of a method.
abbrev pub CoversChanges : Pass → ℕ → Instruction → NumberFrame → List ℕ → Type 0
CoversChanges pass pc insn frame copies =
    (env : Environment) → IsOfPass pass env → (k : ℕ) → may_change_at copies insn k ≡ false
    → may_change env pc insn (frame_of (names_in pass) frame) k ≡ false
