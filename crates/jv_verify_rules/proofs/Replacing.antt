-- Objects that get their type, in local variables, on the stack and by the flag.
use Rattle.std.proofs.Common.{◌≡◌, ℕ, Bool, List, ap, ◌∙◌}
use Rattle.jv_stackmap.specs.Types.{FrameType}
use Rattle.jv_stackmap.specs.Frames.{Frame}
use Rattle.jv_meaning_typing.specs.FrameChanges.{replaced}
use Rattle.jv_meaning_typing.specs.MemberRules.{constructed, flag_behind}
use Rattle.jv_verify_types.specs.Typed.{typed, typed_all}
use Rattle.jv_verify_types.specs.Numbered.{Item, NumberFrame, frame_of, with_locals, with_stack, with_flag}

abbrev frame_with : List FrameType → List FrameType → Bool → Frame
frame_with locals stack flag = record { locals = locals; stack = stack; flag_this_uninit = flag }

alike : {a b c d : List FrameType} {f g : Bool} → a ≡ b → c ≡ d → f ≡ g → frame_with a c f ≡ frame_with b d g
alike {a} {b} {c} {d} {f} {g} locals stack flag =
    ap (λ ls. frame_with ls c f) locals ∙ (ap (λ ss. frame_with b ss f) stack ∙ ap (λ x. frame_with b d x) flag)

pub all_replaced : (names : List (List ℕ)) (object by : Item) (old mid low new : NumberFrame)
    → typed_all names mid.locals ≡ replaced (typed names object) (typed names by) (typed_all names old.locals) → mid ≡ with_locals mid.locals old
    → typed_all names low.stack ≡ replaced (typed names object) (typed names by) (typed_all names mid.stack) → low ≡ with_stack low.stack mid
    → new ≡ with_flag (flag_behind (typed names object) low.flag_this_uninit) low
    → frame_of names new ≡ constructed (frame_of names old) (typed names object) (typed names by) (typed_all names old.stack)
all_replaced names object by old mid low new locals same_mid stack same_low same_new =
    ap (λ (f : NumberFrame). frame_of names f) same_new
    ∙ alike
    (ap (λ (f : NumberFrame). typed_all names f.locals) same_low ∙ locals)
    (stack ∙ ap (λ (f : NumberFrame). replaced (typed names object) (typed names by) (typed_all names f.stack)) same_mid)
    (ap (λ (f : NumberFrame). flag_behind (typed names object) f.flag_this_uninit) same_low ∙ ap (λ (f : NumberFrame). flag_behind (typed names object) f.flag_this_uninit) same_mid)
