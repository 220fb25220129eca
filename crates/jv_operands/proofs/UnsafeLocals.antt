-- An instruction that leaves a frame finds the local variable that it wants.
use Rattle.std.proofs.Common.{◌≡◌, true, List, [], ◌∷◌, ◌++◌, Some, None, refl, sym, ap, ℕ, zero, suc, ◌+◌, ◌≤◌, ◌<◌, length, arith}
use Rattle.std.specs.Prelude.{◌&&◌, slice_get, nat_le, drop}
use Rattle.std.proofs.lemmas.Bool.{leb-true}
use Rattle.std.proofs.lemmas.Option.{slice_get-get_or}
use Rattle.jv_format.specs.Format.{◌>>=◌}
use Rattle.jv_format.proofs.Laws.{bind_some}
use Rattle.jv_stackmap.specs.declared.verification.VerificationTypeOf.TheVariants as types
use Rattle.jv_stackmap.specs.Types.{FrameType}
use Rattle.jv_stackmap.specs.Frames.{Frame, type_by_words}
use Rattle.jv_code.specs.declared.kinds.ValueKind.{ValueKind}
use Rattle.jv_code.specs.declared.kinds.ValueKind.TheVariants as kinds
use Rattle.jv_meaning_world.specs.World.{World}
use Rattle.jv_meaning_typing.specs.FrameChanges.{is_of_kind, stored, taken_of_kind, with_locals, with_stack}
use Rattle.jv_meaning_typing.specs.Named.{when}
use Rattle.jv_meaning_typing.specs.ValueRules.{has_room, increment, load, pushed, store}
use Rattle.jv_operands.specs.declared.want.Want.TheVariants as wants
use Rattle.jv_operands.specs.Unmet.{is_met, unmet_at}
use Rattle.jv_operands.specs.Wants.{FrameWant, of_kind, of_type}
use Rattle.jv_operands.proofs.Taking.{all_met, and_parts, if_some}
use Rattle.jv_operands.proofs.Unsafe.{kind_met, kind_taken, mapped}

-- what is there meets the want
there_met : (world : World) (index : ℕ) (want : FrameWant) (locals : List FrameType) (type : FrameType) → slice_get locals index ≡ Some type → is_met world want type ≡ true
    → unmet_at world index want (slice_get locals index) ≡ None
there_met world index want locals type at passes = rw at (rw passes refl)

pub load_met : (world : World) (kind : ValueKind) (index : ℕ) (frame left : Frame) → load kind index frame ≡ Some left
    → unmet_at world index (of_kind kind) (slice_get frame.locals index) ≡ None
load_met world kind index frame left e =
    let (type, was, after) = bind_some (slice_get frame.locals index) (λ type. when (is_of_kind kind type && has_room kind index frame.locals) (pushed frame type)) left e in
    let (passes, _) = if_some (is_of_kind kind type && has_room kind index frame.locals) (pushed frame type) left after in
    there_met world index (of_kind kind) frame.locals type was (kind_met world kind type (and_parts (is_of_kind kind type) (has_room kind index frame.locals) passes).0)

pub increment_met : (world : World) (index : ℕ) (frame left : Frame) → increment index frame ≡ Some left
    → unmet_at world index (of_type types.Int) (slice_get frame.locals index) ≡ None
increment_met world index frame left e =
    let (type, was, after) = bind_some (slice_get frame.locals index) (λ type. when (is_of_kind kinds.Int type) frame) left e in
    let (passes, _) = if_some (is_of_kind kinds.Int type) frame left after in
    there_met world index (of_type types.Int) frame.locals type was (kind_met world kinds.Int type passes)

-- words that are stored are within the local variables
stored_within : (words : List FrameType) (index : ℕ) (locals left : List FrameType) → stored words index locals ≡ Some left → index + length words ≤ length locals
stored_within words zero locals left e =
    let (fits, _) = if_some (nat_le (length words) (length locals)) (words ++ drop (length words) locals) left e in
    let within : length words ≤ length locals = leb-true (length words) (length locals) fits in
    omega (arith, within)
stored_within words (suc index) [] left e = absurd cc
stored_within words (suc zero) (types.Long ∷ more) left e =
    let (rest, was) = mapped (λ (rest : List FrameType). types.Top ∷ rest) (stored words zero more) left e in
    let within : zero + length words ≤ length more = stored_within words zero more rest was in
    omega (arith, within)
stored_within words (suc (suc index)) (local ∷ more) left e =
    let (rest, was) = mapped (λ (rest : List FrameType). local ∷ rest) (stored words (suc index) more) left e in
    let within : suc index + length words ≤ length more = stored_within words (suc index) more rest was in
    omega (arith, within)
stored_within words (suc zero) (local ∷ more) left e =
    let (rest, was) = mapped (λ (rest : List FrameType). local ∷ rest) (stored words zero more) left e in
    let within : zero + length words ≤ length more = stored_within words zero more rest was in
    omega (arith, within)

there : (world : World) (locals : List FrameType) (index : ℕ) → index < length locals → unmet_at world index wants.Any (slice_get locals index) ≡ None
there world locals index less = rw (slice_get-get_or locals index types.Top less) refl

some_words : (type : FrameType) → 1 ≤ length (type_by_words type)
some_words types.Top = omega arith
some_words types.Int = omega arith
some_words types.Long = omega arith
some_words types.Null = omega arith
some_words types.UninitializedThis = omega arith
some_words (types.Class name) = omega arith
some_words (types.Array components) = omega arith
some_words (types.Uninitialized offset) = omega arith

stored_in : (kind : ValueKind) (index : ℕ) (frame left : Frame) → store kind index frame ≡ Some left
    → (popped : FrameType × List FrameType) × (taken_of_kind kind frame.stack ≡ Some popped) × (index + length (type_by_words popped.0) ≤ length frame.locals)
stored_in kind index frame left e =
    let (popped, was, after) = bind_some (taken_of_kind kind frame.stack)
    (λ popped. stored (type_by_words popped.0) index frame.locals >>= λ locals. Some (with_locals (with_stack frame popped.1) locals)) left e in
    let (locals, fits, _) = bind_some (stored (type_by_words popped.0) index frame.locals) (λ locals. Some (with_locals (with_stack frame popped.1) locals)) left after in
    (popped, was, stored_within (type_by_words popped.0) index frame.locals locals fits)

pub popped_met : (world : World) (kind : ValueKind) (index : ℕ) (frame left : Frame) → store kind index frame ≡ Some left
    → all_met world (of_kind kind ∷ []) frame.stack ≡ true
popped_met world kind index frame left e =
    let (popped, was, within) = stored_in kind index frame left e in
    kind_taken world kind frame.stack popped was [] refl

pub store_met : (world : World) (kind : ValueKind) (index : ℕ) (frame left : Frame) → store kind index frame ≡ Some left
    → unmet_at world index wants.Any (slice_get frame.locals index) ≡ None
store_met world kind index frame left e =
    let (popped, was, within) = stored_in kind index frame left e in
    let some : 1 ≤ length (type_by_words popped.0) = some_words popped.0 in
    there world frame.locals index (omega (arith, within, some))

long_words : (stack : List FrameType) (popped : FrameType × List FrameType) → taken_of_kind kinds.Long stack ≡ Some popped → length (type_by_words popped.0) ≡ 2
long_words [] popped e = absurd cc
long_words (types.Long ∷ below) popped e =
    let same : (types.Long, below) ≡ popped = cc in
    ap (λ (p : FrameType × List FrameType). length (type_by_words p.0)) (sym same)
long_words (types.Top ∷ below) popped e = absurd cc
long_words (types.Int ∷ below) popped e = absurd cc
long_words (types.Null ∷ below) popped e = absurd cc
long_words (types.UninitializedThis ∷ below) popped e = absurd cc
long_words (types.Class name ∷ below) popped e = absurd cc
long_words (types.Array components ∷ below) popped e = absurd cc
long_words (types.Uninitialized offset ∷ below) popped e = absurd cc

pub store_long_met : (world : World) (index : ℕ) (frame left : Frame) → store kinds.Long index frame ≡ Some left
    → unmet_at world (index + 1) wants.Any (slice_get frame.locals (index + 1)) ≡ None
store_long_met world index frame left e =
    let (popped, was, within) = stored_in kinds.Long index frame left e in
    let two : length (type_by_words popped.0) ≡ 2 = long_words frame.stack popped was in
    there world frame.locals (index + 1) (omega (arith, within, two))
