-- The offsets of frames rise (JVMS 4.7.4).
use Rattle.std.proofs.Common.{◌≡◌, ℕ, ◌+◌, ◌≤◌, Bool, true, false, List, [], ◌∷◌, Option, Some, None, sym, ap, subst, ◌∙◌, arith}
use Rattle.std.specs.Prelude.{map, reverse, if◌then◌else◌}
use Rattle.jv_format.specs.Format.{◌>>=◌}
use Rattle.jv_format.proofs.Laws.{bind_some, is_some}
use Rattle.jv_stackmap.specs.declared.item.Item.{Item}
use Rattle.jv_stackmap.specs.Types.{FrameType}
use Rattle.jv_stackmap.specs.Bytes.{MapForm}
use Rattle.jv_stackmap.specs.Frames.{MapFrame, map_frame, locals_behind, stack_in, delta_of, frame_behind, frame_if, frames_behind, placed_frame, PlacedFrame, RiseFrom, OffsetsRise}

passed_by : (b : Bool) (g f : MapFrame FrameType) → (if b then Some g else None) ≡ Some f → g ≡ f
passed_by true g f e = is_some g f e
passed_by false g f e = absurd cc

at_least : (type_of : Item → Option FrameType) (base : ℕ) (before : List FrameType) (form : MapForm) (f : MapFrame FrameType) → frame_behind type_of base before form ≡ Some f → base ≤ f.offset
at_least type_of base before form f e =
    let locals = bind_some (locals_behind type_of before form) (λ locals. stack_in type_of form >>= λ stack. Some (map_frame (base + delta_of form) locals stack)) f e in
    let stack = bind_some (stack_in type_of form) (λ stack. Some (map_frame (base + delta_of form) locals.0 stack)) f locals.2 in
    let same : base + delta_of form ≡ f.offset = ap (λ (f : MapFrame FrameType). f.offset) (is_some (map_frame (base + delta_of form) locals.0 stack.0) f stack.2) in
    omega (arith, same)

rise : (type_of : Item → Option FrameType) (test : MapFrame FrameType → Bool) (max_locals base : ℕ) (before : List FrameType) (forms : List MapForm) (fs : List (MapFrame FrameType))
    → frames_behind type_of test base before forms ≡ Some fs → RiseFrom base (map (placed_frame max_locals) fs)
rise type_of test max_locals base before [] fs e = subst (λ (fs : List (MapFrame FrameType)). RiseFrom base (map (placed_frame max_locals) fs)) (is_some [] fs e) tt
rise type_of test max_locals base before (form ∷ more) fs e =
    let f = bind_some (frame_behind type_of base before form >>= frame_if test) (λ f. frames_behind type_of test (f.offset + 1) f.locals more >>= λ fs. Some (f ∷ fs)) fs e in
    let rest = bind_some (frames_behind type_of test (f.0.offset + 1) f.0.locals more) (λ fs. Some (f.0 ∷ fs)) fs f.2 in
    let g = bind_some (frame_behind type_of base before form) (frame_if test) f.0 f.1 in
    let same : g.0 ≡ f.0 = passed_by (test g.0) g.0 f.0 g.2 in
    let low : base ≤ f.0.offset = at_least type_of base before form f.0 (g.1 ∙ ap (λ (f : MapFrame FrameType). Some f) same) in
    subst (λ (fs : List (MapFrame FrameType)). RiseFrom base (map (placed_frame max_locals) fs)) (is_some (f.0 ∷ rest.0) fs rest.2)
    (low, rise type_of test max_locals (f.0.offset + 1) f.0.locals more rest.0 rest.1)

pub OffsetsRise-holds : OffsetsRise
OffsetsRise-holds pool limits initial bytes frames h =
    subst (λ (fs : List PlacedFrame). RiseFrom 0 fs) (sym h.expand) (rise _ _ limits.max_locals 0 (reverse initial) h.forms h.entries h.made)
