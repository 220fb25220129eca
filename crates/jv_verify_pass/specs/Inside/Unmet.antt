-- What goes on from an instruction, as the code finds it.
use Rattle.std.specs.Prelude.{◌≡◌, ℕ, Bool, List, Option, Some, Result, IfOk, not}
use Rattle.std.specs.List.{find}
use Rattle.std.specs.Option.{option_map}
use Rattle.jv_format.specs.Format.{◌>>=◌}
use Rattle.jv_format.specs.declared.handlers.Handler.{Handler}
use Rattle.jv_stackmap.specs.Frames.{Frame}
use Rattle.jv_code.specs.Insns.{Instruction}
use Rattle.jv_code.specs.Successors.{jump_targets}
use Rattle.jv_meaning_typing.specs.Environment.{Environment, instruction_at}
use Rattle.jv_meaning_typing.specs.Rule.{handler_frame}
use Rattle.jv_meaning_typing.specs.Typing.{frame_at, target_holds}
use Rattle.jv_verify_types.specs.Numbered.{Item, NumberFrame, frame_of}
use Rattle.jv_verify_pass.specs.Before.{frame_before, seen_unmet}
use Rattle.jv_verify_pass.specs.Onward.{begins_unmet, first_unhandled, is_unhandled, left_unmet, unmet_behind}
use Rattle.jv_verify_pass.specs.Pass.{Pass, IsOfPass, maps_of, names_in}
use Rattle.jv_verify_pass.specs.Inside.Settled.{IsLeft}
use Rattle.jv_verify_pass.specs.declared.onward.NamedUnmet.{NamedUnmet}

-- what the handlers of an instruction begin with, where the local variables without this object are theirs
abbrev pub AsLeft : Pass → NumberFrame → Option Item → (Environment → Instruction → Type 0) → Type 0
AsLeft pass frame object P =
    (env : Environment) (insn : Instruction) → IsOfPass pass env → IsLeft env insn (names_in pass) frame object → P env insn

-- the first handler that covers an offset, and doesn't hold
abbrev pub IsFirstUnhandled : Pass → ℕ → NumberFrame → Option Item → Option Handler → Type 0
IsFirstUnhandled pass offset frame object found =
    AsLeft pass frame object (λ env insn. found ≡ first_unhandled env (maps_of pass) offset insn (frame_of (names_in pass) frame))

-- a handler covers an offset, and doesn't hold
abbrev pub IsUnhandled : Pass → ℕ → NumberFrame → Option Item → Handler → Bool → Type 0
IsUnhandled pass offset frame object h answer =
    AsLeft pass frame object (λ env insn. answer
    ≡ is_unhandled env (maps_of pass) offset (handler_frame env insn (frame_of (names_in pass) frame)) h)

-- what one begins with
abbrev pub BeginsUnmet : {E : Type 0} → Pass → NumberFrame → Option Item → Handler → Result (Option NamedUnmet) E → Type 0
BeginsUnmet pass frame object h answer =
    AsLeft pass frame object (λ env insn. IfOk answer (λ found. option_map seen_unmet found
    ≡ begins_unmet env (maps_of pass) (handler_frame env insn (frame_of (names_in pass) frame)) h))

-- the first target at which what is left doesn't hold
abbrev pub IsFirstUntaken : Pass → ℕ → Instruction → NumberFrame → Option (Option ℕ) → Type 0
IsFirstUntaken pass offset insn left found =
    (env : Environment) → IsOfPass pass env
    → found ≡ find (λ t. not (target_holds env (maps_of pass) (frame_of (names_in pass) left) t)) (jump_targets offset insn)

abbrev pub LeavesUnmet : {E : Type 0} → Pass → ℕ → Instruction → NumberFrame → Result (Option NamedUnmet) E → Type 0
LeavesUnmet pass offset insn left answer =
    (env : Environment) → IsOfPass pass env
    → IfOk answer (λ found. option_map seen_unmet found ≡ left_unmet env (maps_of pass) offset insn (frame_of (names_in pass) left))

-- from the instruction at an offset, where this falls into it, or doesn't
abbrev pub GoesOnUnmet : {E : Type 0} → Pass → ℕ → (List (List ℕ) → Option Frame) → Result (Option NamedUnmet) E → Type 0
GoesOnUnmet pass offset falling answer =
    (env : Environment) (insn : Instruction) → IsOfPass pass env → instruction_at env offset ≡ Some insn
    → IfOk answer (λ found. option_map seen_unmet found
    ≡ frame_before (falling (names_in pass)) (frame_at (maps_of pass) offset) >>= unmet_behind env (maps_of pass) offset insn)
