-- Which want of an instruction the frame before it doesn't meet first (JVMS 4.10.1.2, 4.10.1.9).
use Rattle.std.specs.Prelude.{◌≡◌, ℕ, suc, Bool, true, false, ◌||◌, List, [], ◌∷◌, Option, Some, None, is_some, slice_get, if◌then◌else◌}
use Rattle.std.specs.Option.{option_or}
use Rattle.jv_stackmap.specs.declared.verification.VerificationTypeOf.TheVariants as types
use Rattle.jv_stackmap.specs.declared.width.Width.{Width}
use Rattle.jv_stackmap.specs.declared.width.Width.TheVariants.{One}
use Rattle.jv_stackmap.specs.Types.{FrameType}
use Rattle.jv_stackmap.specs.Frames.{Frame}
use Rattle.jv_code.specs.Insns.{Instruction}
use Rattle.jv_meaning_world.specs.FrameFlow.{item_flows}
use Rattle.jv_meaning_world.specs.World.{World}
use Rattle.jv_meaning_typing.specs.Environment.{Environment}
use Rattle.jv_meaning_typing.specs.FrameChanges.{is_reference, item_width}
use Rattle.jv_meaning_typing.specs.Rule.{rule}
use Rattle.jv_meaning_typing.specs.ValueRules.{is_array_or_null, reference_component}
use Rattle.jv_operands.specs.declared.unmet.Place.{Place}
use Rattle.jv_operands.specs.declared.unmet.Place.TheVariants.{Item, Local}
use Rattle.jv_operands.specs.declared.unmet.UnmetWant.{UnmetWant}
use Rattle.jv_operands.specs.declared.want.Want.TheVariants as wants
use Rattle.jv_operands.specs.Wants.{FrameWant, item_wants, local_want}

-- ---- a want, and the type that is there

abbrev pub is_uninitialized : FrameType → Bool
is_uninitialized types.UninitializedThis = true
is_uninitialized (types.Uninitialized offset) = true
is_uninitialized _ = false

abbrev pub is_one : Option Width → Bool
is_one (Some One) = true
is_one _ = false

abbrev pub is_met : World → FrameWant → FrameType → Bool
is_met world (wants.Type type) found = item_flows world found type
is_met world (wants.Either one other) found = item_flows world found one || item_flows world found other
is_met world wants.Reference found = is_reference found
is_met world wants.Array found = is_array_or_null found
is_met world wants.ReferenceArray found = is_some (reference_component found)
is_met world wants.Uninitialized found = is_uninitialized found
is_met world wants.Word found = is_one (item_width found)
is_met world wants.Any found = true

-- ---- the first that is not met

-- with lists of bytes for classes' names
abbrev pub Unmet : Type 0
Unmet = UnmetWant (List ℕ)

abbrev pub unmet : Place → FrameWant → Option FrameType → Unmet
unmet place want found = record { place = place; want = want; found = found }

-- of these items downward, the first of which lies below so many others
abbrev pub first_unmet_item : World → ℕ → List FrameWant → List FrameType → Option Unmet
first_unmet_item world depth [] stack = None
first_unmet_item world depth (want ∷ more) [] = Some (unmet (Item depth) want None)
first_unmet_item world depth (want ∷ more) (found ∷ below) =
    if is_met world want found then first_unmet_item world (suc depth) more below else Some (unmet (Item depth) want (Some found))

abbrev pub unmet_at : World → ℕ → FrameWant → Option FrameType → Option Unmet
unmet_at world index want None = Some (unmet (Local index) want None)
unmet_at world index want (Some found) = if is_met world want found then None else Some (unmet (Local index) want (Some found))

abbrev pub unmet_local : World → Option (ℕ × FrameWant) → List FrameType → Option Unmet
unmet_local world None locals = None
unmet_local world (Some wanted) locals = unmet_at world wanted.0 wanted.1 (slice_get locals wanted.0)

-- of the items from the top down, and then of the local variable
abbrev pub first_unmet : Environment → Instruction → Frame → Option Unmet
first_unmet env insn frame =
    option_or (first_unmet_item env.world 0 (item_wants env insn) frame.stack) (unmet_local env.world (local_want insn) frame.locals)

-- A law: where a want is not met, the instruction is not type safe in the frame.
abbrev pub UnmetIsUnsafe : Type 0
UnmetIsUnsafe =
    (env : Environment) (pc : ℕ) (insn : Instruction) (frame : Frame) (u : Unmet) → first_unmet env insn frame ≡ Some u
    → rule env pc insn frame ≡ None
